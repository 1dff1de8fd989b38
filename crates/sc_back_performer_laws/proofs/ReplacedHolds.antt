-- A section that performs breaks no rule of interfaces in a text of which it sees the same.
use Rattle.sc_back_performer_laws.proofs.Common.{Bool, DeclFacts, Each, Entry, ExportFacts, ExportLine, Fresh}
use Rattle.sc_back_performer_laws.proofs.Common.{FunctionTree, HeadTree, Import, ImportLine, InterfaceFacts, Interfaces}
use Rattle.sc_back_performer_laws.proofs.Common.{IsPerformer, List, Main, Proto, Row, SectionTree, Some, StmtTree, Text}
use Rattle.sc_back_performer_laws.proofs.Common.{[], agrees_as, among, and_from, ap, ap₂, are_distinct, both_distinct}
use Rattle.sc_back_performer_laws.proofs.Common.{bytes_eq, counts_broken, decls_from, export_names, exports_from, false}
use Rattle.sc_back_performer_laws.proofs.Common.{fresh_distinct, function_names, head_crosses, head_of, heads_in}
use Rattle.sc_back_performer_laws.proofs.Common.{if◌then◌else◌, implies, import_names, import_of, imports_from}
use Rattle.sc_back_performer_laws.proofs.Common.{interface_broken, interface_of, interfaces_of, is_plain, list_all}
use Rattle.sc_back_performer_laws.proofs.Common.{main_holds, main_name, main_proto, map, map-append, map_twice, not}
use Rattle.sc_back_performer_laws.proofs.Common.{or_left, proto_names, protos_in, refl, same_text, slice_get, subst}
use Rattle.sc_back_performer_laws.proofs.Common.{suc, sym, true, ℕ, ◌++◌, ◌==◌, ◌||◌, ◌∙◌, ◌∷◌, ◌≡◌}
use Rattle.sc_types_scope.specs.Prelude.{proto_of}
use Rattle.sc_ast.specs.declared.section.Decl.TheVariants as decl
use Rattle.sc_back_performer_laws.proofs.Agreeing.{declared_crosses, defined_crosses}
use Rattle.sc_back_performer_laws.proofs.BackTree.{AreFunctions, AreHeads, IsBackTree, and_function, and_head}
use Rattle.sc_back_performer_laws.proofs.BackTree.{counter_at, entries_from, entries_of, function_at, head_at}
use Rattle.sc_back_performer_laws.proofs.BackTree.{no_functions, no_heads, use_of, uses}
use Rattle.sc_back_performer_laws.proofs.Declared.{all_heads, all_protos, heads_of}
use Rattle.sc_back_performer_laws.proofs.Distinct.{among_prefix, apart, back_distinct, prefix_distinct}
use Rattle.sc_back_performer_laws.proofs.Fitting.{all_resolved, each_map, facts, own_defined, proto_named}
use Rattle.sc_back_performer_laws.proofs.ReplacedSeen.{exports_same, imports_alike, own_names}
use Rattle.sc_back_performer_laws.proofs.Resolved.{IsResolved}
use Rattle.sc_back_performer_laws.proofs.SectionFacts.{distinct_names, entry_names, imports_named, names_declared}
use Rattle.sc_back_performer_laws.proofs.SectionFacts.{names_defined, use_names}
use Rattle.sc_back_performer_laws.proofs.Seen.{AreAlike, AreSeenAs, IsAlike}
use Rattle.sc_back_performer_laws.proofs.SeenKept.{agrees_as_too, imports_hold}
use Rattle.sc_back_performer_laws.proofs.Uses.{IsAmong, first, later}
use Rattle.sc_back_performer_laws.proofs.ReplacedRules.{alike_names, decls_distinct, each_both, each_onto, each_there}
use Rattle.sc_back_performer_laws.proofs.ReplacedRules.{each_unmap, exports_new, head_names, none_of_less, same_line}

abbrev HeadsBy : List (Import × Proto) → List HeadTree → Type 0
HeadsBy [] [] = Unit {0}
HeadsBy (u ∷ used) (head ∷ heads) = ((line : ℕ) × (head ≡ head_at u.1 line)) × AreHeads used heads
HeadsBy _ _ = ⊥

heads_by : (used : List (Import × Proto)) (heads : List HeadTree) → AreHeads used heads → HeadsBy used heads
heads_by used heads no_heads = tt
heads_by used heads (and_head u others more line rest) = ((line, refl), rest)

entries_each : (P : Proto → Type 0) (index : ℕ) (fs : List Proto) → Each P fs →
    Each (λ e. P e.1) (entries_from index fs)
entries_each P index [] h = tt
entries_each P index (f ∷ fs) h = (h.0, entries_each P (suc index) fs h.1)

each_made : (P : Proto → Type 0) (old : SectionTree) (lines : List ExportLine) →
    Each (λ line. P (proto_of old line)) lines →
    Each P (map (proto_of old) lines)
each_made P old [] h = tt
each_made P old (line ∷ lines) h = (h.0, each_made P old lines h.1)

module _ (olds : List SectionTree) (in_interfaces : interface_broken olds ≡ []) (in_counts : counts_broken olds ≡ [])
    (number : ℕ) (old : SectionTree) (got : slice_get olds number ≡ Some old) (rows : List Row)
    (is : IsPerformer (interfaces_of olds) number rows (interface_of olds number old))
    (new : SectionTree) (t : IsBackTree (interfaces_of olds) number rows (interface_of olds number old) new)
    (news : List SectionTree) (all : AreSeenAs olds news) (mains : Bool) where
  abbrev interfaces : Interfaces
  interfaces = interfaces_of olds

  abbrev exports : List Proto
  exports = map (proto_of old) old.exports

  abbrev entries : List (Entry × Proto)
  entries = entries_of interfaces number (interface_of olds number old)

  abbrev used : List (Import × Proto)
  used = uses interfaces (map (import_of olds number) old.imports)

  abbrev fact : InterfaceFacts olds number old
  fact = facts olds in_interfaces in_counts number old got

  abbrev here : Bool
  here = number == interfaces.main

  own : function_names new.decls ≡ export_names old ++ (if here then main_name ∷ [] else [])
  own = own_names olds in_interfaces in_counts number old got rows is new t

  same_exports : export_names new ≡ export_names old
  same_exports = exports_same olds in_interfaces in_counts number old got rows is new t

  alike : AreAlike old.imports new.imports
  alike = imports_alike olds in_interfaces in_counts number old got rows is new t

  -- Exports.

  of_exports : (P : Text → Type 0) → Each (λ line. P line.name) old.exports → Each (λ line. P line.name) new.exports
  of_exports P h =
      each_unmap {A = ExportLine} (λ line. line.name) P new.exports
      (subst (Each P) (sym same_exports) (each_onto {A = ExportLine} (λ line. line.name) P old.exports h))

  pub exports_hold : exports_from news number new [] new.exports ≡ []
  exports_hold =
      exports_new news number new mains [] new.exports
      (each_unmap {A = ExportLine} (λ line. line.name) (λ n. among (function_names new.decls) n ≡ true) new.exports
      (each_there (export_names new) (λ n. among (function_names new.decls) n ≡ true)
      (λ n there. ap (λ ns. among ns n) own ∙
      among_prefix (export_names old) (if here then main_name ∷ [] else []) n
      (ap (λ ns. among ns n) (sym same_exports) ∙ there))))
      (of_exports (λ n. bytes_eq n main_name ≡ false)
      (each_map (ExportFacts olds number old) (λ line. bytes_eq line.name main_name ≡ false)
      (λ line f. f.no_main) old.exports fact.exports))
      (of_exports (λ n. is_plain n ≡ true)
      (each_map (ExportFacts olds number old) (λ line. is_plain line.name ≡ true)
      (λ line f. f.plain) old.exports fact.exports))
      (subst (Fresh []) (sym same_exports) fact.fresh_exports)

  -- Imports.

  no_more : (name : Text) → among (function_names old.decls) name ≡ false →
      among (function_names new.decls) name ≡ false
  no_more name none =
      ap (λ ns. among ns name) own ∙
      none_of_less (function_names old.decls) (export_names old ++ (if here then main_name ∷ [] else [])) name
      (own_defined olds in_interfaces in_counts number old got here refl) none

  protos_named : proto_names new.decls ≡ import_names old
  protos_named =
      ap (map {A = HeadTree} (λ head. head.name))
      (ap protos_in t.decls ∙ all_protos t.heads (counter_at t.counter_line) t.functions) ∙
      names_declared used t.heads t.are_heads ∙
      sym (imports_named interfaces number rows (interface_of olds number old) is new t) ∙
      alike_names old.imports new.imports alike

  all_declared : Each (λ a. among (proto_names new.decls) a.name ≡ true) old.imports
  all_declared =
      each_unmap {A = ImportLine} (λ line. line.name) (λ n. among (proto_names new.decls) n ≡ true) old.imports
      (each_there (import_names old) (λ n. among (proto_names new.decls) n ≡ true)
      (λ n there. ap (λ ns. among ns n) protos_named ∙ there))

  pub imports_new : imports_from olds number old [] old.imports ≡ [] → imports_from news number new [] new.imports ≡ []
  imports_new h = imports_hold olds news all number old new no_more [] old.imports new.imports alike all_declared h

  -- Prototypes.

  imports_distinct : are_distinct (import_names old) ≡ true
  imports_distinct = fresh_distinct [] (import_names old) fact.fresh_imports

  module _ (a : ImportLine) (in_old : IsAmong a old.imports) (r : IsResolved olds number old a) (line : ℕ) where
    abbrev made_head : HeadTree
    made_head = head_at r.f line

    as_imported : (c b : ImportLine) → IsAlike c b → IsAmong c old.imports → bytes_eq b.name made_head.name ≡ true →
        agrees_as news number new made_head b ≡ true
    as_imported c b both in_too named =
        let same : c.name ≡ r.f.name = sym both.name ∙ same_text b.name made_head.name named in
        agrees_as_too olds news all number old new made_head c b both same
        (subst (λ l. agrees_as olds number old made_head l ≡ true)
        (same_line old.imports imports_distinct a c in_old in_too (sym r.name ∙ sym same)) (r.agrees line))

    imports_agree : (xs ys : List ImportLine) → AreAlike xs ys →
        ((c : ImportLine) → IsAmong c xs → IsAmong c old.imports) →
        list_all {X = ImportLine} (λ b. not (bytes_eq b.name made_head.name) ||
        agrees_as news number new made_head b) ys ≡ true
    imports_agree [] [] h there = refl
    imports_agree [] (b ∷ ys) h there = absurd h
    imports_agree (c ∷ xs) [] h there = absurd h
    imports_agree (c ∷ xs) (b ∷ ys) h there =
        and_from (not (bytes_eq b.name made_head.name) || agrees_as news number new made_head b) _
        (implies (bytes_eq b.name made_head.name) (agrees_as news number new made_head b)
        (as_imported c b h.0 (there c (first xs))))
        (imports_agree xs ys h.1 (λ d in_xs. there d (later c xs in_xs)))

    head_holds_here : DeclFacts news number new mains (decl.Proto made_head)
    head_holds_here = (
      or_left (head_crosses made_head) _ (declared_crosses r.f line),
      imports_agree old.imports new.imports alike (λ c in_it. in_it),
    )

  head_next : (a : ImportLine) (lines : List ImportLine) (r : IsResolved olds number old a) →
      IsAmong a old.imports → ((heads : List HeadTree) →
      AreHeads (uses interfaces (map (import_of olds number) lines)) heads →
      Each (DeclFacts news number new mains) (map decl.Proto heads)) → (heads : List HeadTree) →
      HeadsBy ((import_of olds number a, r.f) ∷ uses interfaces (map (import_of olds number) lines)) heads →
      Each (DeclFacts news number new mains) (map decl.Proto heads)
  head_next a lines r in_old rest [] h = absurd h
  head_next a lines r in_old rest (head ∷ heads) h = (
    subst (λ x. DeclFacts news number new mains (decl.Proto x)) (sym h.0.1) (head_holds_here a in_old r h.0.0),
    rest heads h.1,
  )

  head_none : (heads : List HeadTree) → HeadsBy [] heads → Each (DeclFacts news number new mains) (map decl.Proto heads)
  head_none [] h = tt
  head_none (head ∷ heads) h = absurd h

  heads_hold : (lines : List ImportLine) → Each (IsResolved olds number old) lines →
      ((a : ImportLine) → IsAmong a lines → IsAmong a old.imports) → (heads : List HeadTree) →
      AreHeads (uses interfaces (map (import_of olds number) lines)) heads →
      Each (DeclFacts news number new mains) (map decl.Proto heads)
  heads_hold [] rs there heads h = head_none heads (heads_by [] heads h)
  heads_hold (a ∷ lines) rs there heads h =
      head_next a lines rs.0 (there a (first lines))
      (heads_hold lines rs.1 (λ c in_lines. there c (later a lines in_lines))) heads
      (heads_by ((import_of olds number a, rs.0.f) ∷ uses interfaces (map (import_of olds number) lines)) heads
      (subst (λ o. AreHeads (use_of (import_of olds number a) o
      (uses interfaces (map (import_of olds number) lines))) heads)
      rs.0.is h))

  -- Functions.

  abbrev HoldsMain : Proto → Type 0
  HoldsMain f = (line close : ℕ) (body : List StmtTree) →
      main_holds mains (head_of (function_at f line close body).head) ≡
      true

  functions_hold : (es : List (Entry × Proto)) (trees : List FunctionTree) →
      AreFunctions interfaces rows es trees →
      Each (λ e. HoldsMain e.1) es → Each (DeclFacts news number new mains) (map decl.Function trees)
  functions_hold es trees no_functions h = tt
  functions_hold es trees (and_function entry f others more line close body done rest) h = (
    (
      or_left (head_crosses (head_of (function_at f line close body).head)) _ (defined_crosses f line close body),
      h.0 line close body,
    ),
    functions_hold others more rest h.1,
  )

  exports_hold_main : Each HoldsMain exports
  exports_hold_main =
      each_made HoldsMain old old.exports
      (each_map (ExportFacts olds number old) (λ line. HoldsMain (proto_of old line))
      (λ line f at close body. or_left (not (bytes_eq (proto_of old line).name main_name)) _
      (ap not (ap (λ n. bytes_eq n main_name) (proto_named old line) ∙ f.no_main))) old.exports fact.exports)

  module _ (first_main : here ≡ true → mains ≡ false) where
    main_holds_here : (b : Bool) → here ≡ b →
        Each {X = Entry × Proto} (λ e. HoldsMain e.1) (if b then (Main, main_proto) ∷ [] else [])
    main_holds_here true at = (
      λ line close body. ap (λ m. main_holds m
          (head_of (function_at main_proto line close body).head)) (first_main at),
      tt,
    )
    main_holds_here false at = tt

    all_facts : Each (DeclFacts news number new mains) new.decls
    all_facts =
        subst (Each (DeclFacts news number new mains)) (sym t.decls)
        (each_both (DeclFacts news number new mains) (map decl.Proto t.heads) _
        (heads_hold old.imports (all_resolved olds in_interfaces in_counts number old got) (λ a in_it. in_it) t.heads
        t.are_heads) (
          tt,
          functions_hold entries t.functions t.are_functions
              (each_both (λ e. HoldsMain e.1) (entries_from 0 exports) _
              (entries_each HoldsMain 0 exports exports_hold_main) (main_holds_here here refl)),
        ))

    distinct : are_distinct (entry_names entries ++ use_names used) ≡ true
    distinct = distinct_names interfaces number rows (interface_of olds number old) is

    distinct_back : are_distinct (use_names used ++ entry_names entries) ≡ true
    distinct_back =
        both_distinct (use_names used) (entry_names entries)
        (back_distinct (entry_names entries) (use_names used) distinct)
        (each_there (use_names used) (λ n. among (entry_names entries) n ≡ false)
        (λ n there. apart (entry_names entries) (use_names used) n distinct there))
        (prefix_distinct (entry_names entries) (use_names used) distinct)

    names_of_heads : head_names new.decls ≡ use_names used ++ entry_names entries
    names_of_heads =
        ap (map {A = HeadTree} (λ head. head.name))
        (ap heads_in t.decls ∙ all_heads t.heads (counter_at t.counter_line) t.functions) ∙
        map-append {A = HeadTree} (λ head. head.name) t.heads (heads_of t.functions) ∙
        ap₂ (λ a b. a ++ b) (names_declared used t.heads t.are_heads)
        (map_twice {A = FunctionTree} {B = HeadTree} (λ head. head.name) (λ tree. head_of tree.head) t.functions ∙
        names_defined interfaces rows entries t.functions t.are_functions)

    pub decls_new : decls_from news number new mains [] new.decls ≡ []
    decls_new =
        decls_distinct news number new mains [] new.decls
        (ap are_distinct names_of_heads ∙ distinct_back) all_facts
