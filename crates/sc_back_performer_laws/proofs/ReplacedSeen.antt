-- A section that performs is seen by others as the section is that it replaces.
use Rattle.sc_back_performer_laws.proofs.Common.{Bool, Each, Entry, ExportFacts, ExportLine, HeadTree, Import}
use Rattle.sc_back_performer_laws.proofs.Common.{ImportLine, InterfaceFacts, Interfaces, IsPerformer, List, Main, Proto}
use Rattle.sc_back_performer_laws.proofs.Common.{Row, SectionTree, Some, StmtTree, Text, [], agree, agree_left}
use Rattle.sc_back_performer_laws.proofs.Common.{agrees_with, among, ap, append-nil, are_distinct, bytes_eq}
use Rattle.sc_back_performer_laws.proofs.Common.{bytes_eq_self, counts_broken, defines_main, export_names, false}
use Rattle.sc_back_performer_laws.proofs.Common.{false≢true, function_named, function_names, function_decls, head_of}
use Rattle.sc_back_performer_laws.proofs.Common.{heads_in, if◌then◌else◌, import_of, inl, inr, interface_broken}
use Rattle.sc_back_performer_laws.proofs.Common.{interface_of, interfaces_of, main_name, main_proto, map, map_twice}
use Rattle.sc_back_performer_laws.proofs.Common.{names_of, not, prefix_empty, promised, refl, same_either_way}
use Rattle.sc_back_performer_laws.proofs.Common.{slice_get, subst, suc, sym, true, ℕ, ◌++◌, ◌==◌, ◌||◌, ◌∙◌, ◌∷◌, ◌≡◌}
use Rattle.sc_types_scope.specs.Prelude.{proto_of}
use Rattle.sc_back_performer_laws.proofs.Agreeing.{all_prefix, promise_defined}
use Rattle.sc_back_performer_laws.proofs.BackTree.{AreImports, IsBackTree, counter_at, entries_from, entries_of}
use Rattle.sc_back_performer_laws.proofs.BackTree.{function_at, main_entries, use_of, uses}
use Rattle.sc_back_performer_laws.proofs.Declared.{all_functions, all_heads, heads_of}
use Rattle.sc_back_performer_laws.proofs.Distinct.{among_prefix, apart, prefix_distinct, is_false}
use Rattle.sc_back_performer_laws.proofs.Fitting.{all_promised, all_resolved, each_map, exports_named, facts, main_here}
use Rattle.sc_back_performer_laws.proofs.Fitting.{proto_named}
use Rattle.sc_back_performer_laws.proofs.OneMain.{main_only}
use Rattle.sc_back_performer_laws.proofs.Resolved.{IsPromised, IsResolved}
use Rattle.sc_back_performer_laws.proofs.SectionFacts.{distinct_names, entry_names, functions_named, names_declared}
use Rattle.sc_back_performer_laws.proofs.SectionFacts.{use_names}
use Rattle.sc_back_performer_laws.proofs.Seen.{AreAlike, IsSeenAs}
use Rattle.sc_back_performer_laws.proofs.Uses.{IsAmong}
use Rattle.sc_back_performer_laws.proofs.Made.{ImportsBy, IsExportOrMain, IsMade, each_export, each_in, each_mapped}
use Rattle.sc_back_performer_laws.proofs.Made.{entry_is, functions_agree, imports_by, made, made_promised, none_named}
use Rattle.sc_back_performer_laws.proofs.Made.{promised_same}

module _ (olds : List SectionTree) (in_interfaces : interface_broken olds ≡ []) (in_counts : counts_broken olds ≡ [])
    (number : ℕ) (old : SectionTree) (got : slice_get olds number ≡ Some old) (rows : List Row)
    (is : IsPerformer (interfaces_of olds) number rows
    (interface_of olds number old))
    (new : SectionTree) (t : IsBackTree (interfaces_of olds) number rows
    (interface_of olds number old) new) where
  abbrev interfaces : Interfaces
  interfaces = interfaces_of olds

  abbrev exports : List Proto
  exports = map (proto_of old) old.exports

  abbrev entries : List (Entry × Proto)
  entries = entries_of interfaces number (interface_of olds number old)

  abbrev used : List (Import × Proto)
  used = uses interfaces (map (import_of olds number) old.imports)

  abbrev fact : InterfaceFacts olds number old
  fact = facts olds in_interfaces in_counts number old got

  distinct : are_distinct (entry_names entries ++ use_names used) ≡ true
  distinct = distinct_names interfaces number rows (interface_of olds number old) is

  own_distinct : are_distinct (entry_names entries) ≡ true
  own_distinct = prefix_distinct (entry_names entries) (use_names used) distinct

  pub exports_same : export_names new ≡ export_names old
  exports_same = t.exports ∙ exports_named old old.exports

  functions_are : function_decls new.decls ≡ t.functions
  functions_are = ap function_decls t.decls ∙ all_functions t.heads (counter_at t.counter_line) t.functions

  -- what is promised

  entry_promised : (e : Entry × Proto) → IsAmong e entries →
      promised e.1.name (function_named e.1.name t.functions) ≡ e.1
  entry_promised e there =
      let m : IsMade e.1 t.functions =
      made interfaces rows entries t.functions t.are_functions own_distinct e there in
      ap (promised e.1.name) m.found ∙ made_promised e.1 m.line m.close m.body

  protos_same : map (proto_of new) new.exports ≡ map (proto_of old) old.exports
  protos_same =
      (λ i. map (λ line. promised line.name (function_named line.name (functions_are i))) new.exports) ∙
      sym (map_twice (λ name. promised name (function_named name t.functions)) (λ line. line.name) new.exports) ∙
      ap (map (λ name. promised name (function_named name t.functions))) t.exports ∙
      promised_same t.functions exports (each_export
      (λ f. promised f.name (function_named f.name t.functions) ≡ f) 0 exports (main_entries interfaces number)
      entry_promised)

  -- imports

  alike_next : (line : ImportLine) (lines : List ImportLine) (r : IsResolved olds number old line) →
      ((others : List ImportLine) → AreImports interfaces
      (uses interfaces (map (import_of olds number) lines)) others →
      AreAlike lines others) → (others : List ImportLine) →
      ImportsBy interfaces ((import_of olds number line, r.f) ∷ uses interfaces
      (map (import_of olds number) lines)) others →
      AreAlike (line ∷ lines) others
  alike_next line lines r rest [] h = absurd h
  alike_next line lines r rest (b ∷ others) h = (
    record {
      comp = ap (λ b. b.comp) h.0.1 ∙ r.owner;
      name = ap (λ b. b.name) h.0.1 ∙ r.name;
    },
    rest others h.1,
  )

  alike_none : (others : List ImportLine) → ImportsBy interfaces [] others → AreAlike [] others
  alike_none [] h = tt
  alike_none (b ∷ others) h = absurd h

  alike_from : (lines : List ImportLine) → Each (IsResolved olds number old) lines → (others : List ImportLine) →
      AreImports interfaces (uses interfaces (map (import_of olds number) lines)) others →
      AreAlike lines others
  alike_from [] rs others h = alike_none others (imports_by interfaces [] others h)
  alike_from (line ∷ lines) rs others h =
      alike_next line lines rs.0 (alike_from lines rs.1) others
      (imports_by interfaces ((import_of olds number line, rs.0.f) ∷ uses interfaces
      (map (import_of olds number) lines)) others
      (subst (λ o. AreImports interfaces (use_of (import_of olds number line) o
      (uses interfaces (map (import_of olds number) lines))) others) rs.0.is h))

  pub imports_alike : AreAlike old.imports new.imports
  imports_alike =
      alike_from old.imports (all_resolved olds in_interfaces in_counts number old got) new.imports t.imports

  -- main

  new_names : function_names new.decls ≡ entry_names entries
  new_names = functions_named interfaces number rows (interface_of olds number old) is new t

  entry_names_are : (b : Bool) (index : ℕ) (fs : List Proto) →
      entry_names (entries_from index fs ++ (if b then (Main, main_proto) ∷ [] else [])) ≡
      names_of fs ++ (if b then main_name ∷ [] else [])
  entry_names_are true index [] = refl
  entry_names_are false index [] = refl
  entry_names_are b index (f ∷ fs) = ap (λ x. f.name ∷ x) (entry_names_are b (suc index) fs)

  pub own_names : function_names new.decls ≡
      export_names old ++ (if number == interfaces.main then main_name ∷ [] else [])
  own_names =
      new_names ∙ entry_names_are (number == interfaces.main) 0 exports ∙
      ap (λ ns. ns ++ (if number == interfaces.main then main_name ∷ [] else [])) (exports_named old old.exports)

  no_export_main : (lines : List ExportLine) → Each (ExportFacts olds number old) lines →
      among (map {A = ExportLine} (λ line. line.name) lines) main_name ≡ false
  no_export_main [] h = refl
  no_export_main (line ∷ lines) h = λ i.
      (same_either_way main_name line.name ∙ h.0.no_main) i || no_export_main lines h.1 i

  among_last : (names : List Text) (name : Text) → among (names ++ name ∷ []) name ≡ true
  among_last [] name = ap (λ b. b || false) (bytes_eq_self name)
  among_last (n ∷ names) name = by (bytes_eq name n) (among_last names name) where
    by : (b : Bool) → among (names ++ name ∷ []) name ≡ true → (b || among (names ++ name ∷ []) name) ≡ true
    by true h = refl
    by false h = h

  main_same : (b : Bool) → (number == interfaces.main) ≡ b →
      among (export_names old ++ (if b then main_name ∷ [] else [])) main_name ≡ defines_main old
  main_same true here =
      among_last (export_names old) main_name ∙ sym (main_here olds in_interfaces in_counts number old got here)
  main_same false elsewhere =
      ap (λ ns. among ns main_name) (append-nil (export_names old)) ∙ no_export_main old.exports fact.exports ∙
      sym (main_only olds (prefix_empty _ _ in_interfaces) number old got elsewhere)

  -- what agreed still agrees

  export_agrees : (head : HeadTree) → agrees_with (heads_in old.decls) head ≡ true → (line : ExportLine) →
      IsPromised old line → (proto_of old line).name ≡ head.name → (at close : ℕ) (body : List StmtTree) →
      agree (head_of (function_at (proto_of old line) at close body).head) head ≡ true
  export_agrees head agrees line p named at close body =
      let made_head = head_of (function_at (proto_of old line) at close body).head in
      let same : agree (head_of p.tree.head) made_head ≡ true =
      subst (λ f. agree (head_of p.tree.head) (head_of (function_at f at close body).head) ≡ true) (sym p.is)
      (promise_defined line.name p.tree p.crosses at close body) in
      sym (agree_left (head_of p.tree.head) made_head head same) ∙
      p.with_head head (p.named ∙ sym (proto_named old line) ∙ named) agrees

  abbrev Agrees : HeadTree → Proto → Type 0
  Agrees head f = f.name ≡ head.name → (line close : ℕ) (body : List StmtTree) →
      agree (head_of (function_at f line close body).head) head ≡ true

  agrees_too : (head : HeadTree) → among (export_names old) head.name ≡ true →
      agrees_with (heads_in old.decls) head ≡ true → agrees_with (heads_in new.decls) head ≡ true
  agrees_too head there agrees =
      subst (λ heads. agrees_with heads head ≡ true)
      (sym (ap heads_in t.decls ∙ all_heads t.heads (counter_at t.counter_line) t.functions))
      (all_prefix t.heads (heads_of t.functions) (λ other. not (bytes_eq other.name head.name) || agree other head)
      (none_named t.heads head (ap (λ ns. among ns head.name) (names_declared used t.heads t.are_heads) ∙
      is_false (among (use_names used) head.name) (λ imported. false≢true
      (sym (apart (entry_names entries) (use_names used) head.name distinct imported) ∙ own_there))))
      (functions_agree interfaces rows head entries t.functions t.are_functions agree_at)) where
        own_there : among (entry_names entries) head.name ≡ true
        own_there =
            ap (λ ns. among ns head.name) (sym new_names ∙ own_names) ∙
            among_prefix (export_names old) (if number == interfaces.main then main_name ∷ [] else []) head.name
            there

        all_exports : Each (Agrees head) exports
        all_exports =
            each_mapped (Agrees head) (proto_of old) old.exports
            (each_map (IsPromised old) (λ line. Agrees head (proto_of old line))
            (λ line p. export_agrees head agrees line p) old.exports
            (all_promised olds in_interfaces in_counts number old got))

        by : (e : Entry × Proto) → IsExportOrMain exports e.1 → Agrees head e.1
        by e (inl export) = each_in (Agrees head) e.1 exports all_exports export
        by e (inr is_main) = λ named line close body.
            absurd (false≢true (sym (no_export_main old.exports fact.exports) ∙
            ap (among (export_names old)) (sym (ap (λ f. f.name) is_main) ∙ named) ∙ there))

        agree_at : (e : Entry × Proto) → IsAmong e entries → Agrees head e.1
        agree_at e among_them = by e (entry_is (number == interfaces.main) 0 exports e among_them)

  pub seen : IsSeenAs old new
  seen = record {
    name = t.name;
    exports = exports_same;
    imports = imports_alike;
    protos = protos_same;
    main = ap (λ ns. among ns main_name) own_names ∙ main_same (number == interfaces.main) refl;
    agrees = agrees_too;
  }
