-- The sections of a text in which some perform their parts of a trace keep the rules, and are the program recomposed.
use Rattle.sc_back_performer_laws.proofs.Common.{AllBecome, Bool, Callees, Event, ImportFacts, IsRecomposed, IsTyped}
use Rattle.sc_back_performer_laws.proofs.Common.{List, None, Option, SectionTree, Some, [], among, ap, append_assoc}
use Rattle.sc_back_performer_laws.proofs.Common.{arith, back_empty, callees_of, concat, decls_from, defines_main}
use Rattle.sc_back_performer_laws.proofs.Common.{each_at, each_empty, eqb-true, exports_from, false, false≢true}
use Rattle.sc_back_performer_laws.proofs.Common.{imports_from, interface_broken, interface_of, interfaces_of, legal}
use Rattle.sc_back_performer_laws.proofs.Common.{length, line_of_text, list_any, main_from, map, map_empty}
use Rattle.sc_back_performer_laws.proofs.Common.{most_compartments, name_fits, name_holds, part, prefix_empty}
use Rattle.sc_back_performer_laws.proofs.Common.{program_of, proto_names, refl, slice_get, some_item, subst, suc, sym}
use Rattle.sc_back_performer_laws.proofs.Common.{true, unless, zero, ℕ, ◌++◌, ◌+◌, ◌<◌, ◌==◌, ◌||◌, ◌∙◌, ◌∷◌, ◌≡◌}
use Rattle.sc_back_performer_laws.specs.Recomposed.{RecomposedHold}
use Rattle.sc_types_scope.specs.Names as names
use Rattle.sc_types_interfaces.specs.Rules as interface_rules
use Rattle.sc_types_elab.specs.Sections as elab
use Rattle.sc_types.specs.Counts as counts
use Rattle.sc_back_performer_laws.proofs.CountsKept.{counts_hold}
use Rattle.sc_back_performer_laws.proofs.Fitting.{each_map, facts, none_before}
use Rattle.sc_back_performer_laws.proofs.NamesKept.{names_hold}
use Rattle.sc_back_performer_laws.proofs.ReplacedHolds.{decls_new, exports_hold, imports_new}
use Rattle.sc_back_performer_laws.proofs.Resolved.{counted_at}
use Rattle.sc_back_performer_laws.proofs.Seen.{AreSeenAs, IsSeenAs, alike_self, interfaces_same}
use Rattle.sc_back_performer_laws.proofs.SeenKept.{both_empty, callees_same, decls_kept, exports_kept, imports_hold}
use Rattle.sc_back_performer_laws.proofs.SeenKept.{moved, types_same}
use Rattle.sc_back_performer_laws.proofs.Turned.{AllTurn, IsRightTrace, Turns, all_turn, recomposed, seen_from, stays}
use Rattle.sc_back_performer_laws.proofs.Turned.{turns}
use Rattle.sc_back_performer_laws.proofs.TypesKept.{types_hold}
use Rattle.sc_back_performer_laws.proofs.Undone.{back_tree_is}

none_reported : (line_of : SectionTree → ℕ) (o : Option SectionTree) → counts.line_of_some line_of o ≡ [] → o ≡ None
none_reported line_of None h = refl
none_reported line_of (Some s) h = some_item (line_of s) [] h

-- as many sections
none_too : (xs ys : List SectionTree) → AreSeenAs xs ys → (i : ℕ) → slice_get xs i ≡ None → slice_get ys i ≡ None
none_too [] [] h i e = refl
none_too [] (y ∷ ys) h i e = absurd h
none_too (x ∷ xs) [] h i e = absurd h
none_too (x ∷ xs) (y ∷ ys) h zero e = absurd (false≢true (ap is_none e)) where
  is_none : Option SectionTree → Bool
  is_none None = true
  is_none (Some s) = false
none_too (x ∷ xs) (y ∷ ys) h (suc i) e = none_too xs ys h.1 i e

pub names_same : (xs ys : List SectionTree) → AreSeenAs xs ys →
    map {A = SectionTree} (λ s. s.name) ys ≡ map {A = SectionTree} (λ s. s.name) xs
names_same [] [] h = refl
names_same [] (y ∷ ys) h = absurd h
names_same (x ∷ xs) [] h = absurd h
names_same (x ∷ xs) (y ∷ ys) h = λ i. h.0.name i ∷ names_same xs ys h.1 i

mains_same : (xs ys : List SectionTree) → AreSeenAs xs ys → list_any defines_main ys ≡ list_any defines_main xs
mains_same [] [] h = refl
mains_same [] (y ∷ ys) h = absurd h
mains_same (x ∷ xs) [] h = absurd h
mains_same (x ∷ xs) (y ∷ ys) h = λ i. h.0.main i || mains_same xs ys h.1 i

seen_snoc : (xs ys : List SectionTree) (x y : SectionTree) → AreSeenAs xs ys → IsSeenAs x y →
    AreSeenAs (xs ++ x ∷ []) (ys ++ y ∷ [])
seen_snoc [] [] x y h s = (s, tt)
seen_snoc [] (b ∷ ys) x y h s = absurd h
seen_snoc (a ∷ xs) [] x y h s = absurd h
seen_snoc (a ∷ xs) (b ∷ ys) x y h s = (h.0, seen_snoc xs ys x y h.1 s)

mapped_empty : (f : ℕ → ℕ) (lines : List ℕ) → lines ≡ [] → map f lines ≡ []
mapped_empty f lines h = ap (map f) h

moved_counts : (line : ℕ) (old : SectionTree) (callees : Callees) →
    counts.section_count_lines (moved line old) callees ≡ counts.section_count_lines old callees
unfolding elab.typed_locals elab.typed_structs
moved_counts line old callees = refl

module _ (olds news : List SectionTree) (typed : IsTyped olds (program_of olds)) (set : ℕ → Bool) (trace : List Event)
    (right : IsRightTrace olds trace)
    (become : AllBecome (interfaces_of olds) (λ comp. part (interfaces_of olds).main comp trace) set 0 olds news)
  where
    abbrev OneTurns : ℕ → SectionTree → SectionTree → Type 0
    OneTurns k old new = Turns olds typed.interfaces typed.counts set trace right k old new

    abbrev AllOnesTurn : ℕ → List SectionTree → List SectionTree → Type 0
    AllOnesTurn k xs ys = AllTurn olds typed.interfaces typed.counts set trace right k xs ys

    turn : AllOnesTurn 0 olds news
    turn = all_turn olds typed.interfaces typed.counts set trace right news become

    all : AreSeenAs olds news
    all = seen_from olds typed.interfaces typed.counts set trace right 0 olds news turn

    -- rules whose offending lines are listed section by section
    listed_empty : (lines_of : SectionTree → List ℕ) →
        ((k : ℕ) (old new : SectionTree) → OneTurns k old new → lines_of new ≡ []) →
        (k : ℕ) (xs ys : List SectionTree) →
        AllOnesTurn k xs ys → concat (map (λ s. map (line_of_text s.line) (lines_of s)) ys) ≡ []
    listed_empty lines_of h k [] [] t = refl
    listed_empty lines_of h k [] (y ∷ ys) t = absurd t
    listed_empty lines_of h k (x ∷ xs) [] t = absurd t
    listed_empty lines_of h k (x ∷ xs) (y ∷ ys) t =
        both_empty (map (line_of_text y.line) (lines_of y)) _
        (mapped_empty (line_of_text y.line) (lines_of y) (h k x y t.0)) (listed_empty lines_of h (suc k) xs ys t.1)

    names_one : (k : ℕ) (old new : SectionTree) → OneTurns k old new → names.section_name_lines new ≡ []
    names_one k old new (stays got off line is) =
        ap names.section_name_lines is ∙
        map_empty _ _ (each_at (λ s. map (line_of_text s.line) (names.section_name_lines s) ≡ []) olds k old
        (each_empty {A = SectionTree} (λ s. map (line_of_text s.line) (names.section_name_lines s)) olds typed.names)
        got)
    names_one k old new (turns got on can same) =
        names_hold (interfaces_of olds) k (part (interfaces_of olds).main k trace)
        (interface_of olds k old) new can same

    types_one : (k : ℕ) (old new : SectionTree) → OneTurns k old new →
        elab.section_type_lines new (callees_of news 0 new) ≡ []
    types_one k old new (stays got off line is) =
        ap (λ s. elab.section_type_lines s (callees_of news 0 s)) is ∙ types_same olds news all line old ∙
        map_empty _ _ (each_at (λ s. map (line_of_text s.line) (elab.section_type_lines s (callees_of olds 0 s)) ≡ [])
        olds k
        old (each_empty {A = SectionTree} (λ s.
        map (line_of_text s.line) (elab.section_type_lines s (callees_of olds 0 s))) olds typed.types) got)
    types_one k old new (turns got on can same) =
        types_hold (interfaces_of olds) k (part (interfaces_of olds).main k trace)
        (interface_of olds k old) new can same
        news 0

    counts_one : (k : ℕ) (old new : SectionTree) → OneTurns k old new →
        counts.section_count_lines new (callees_of news k new) ≡ []
    counts_one k old new (stays got off line is) =
        ap (λ s. counts.section_count_lines s (callees_of news k s)) is ∙
        ap (counts.section_count_lines (moved line old)) (callees_same olds news all k line old) ∙
        moved_counts line old (callees_of olds k old) ∙
        counted_at olds typed.interfaces typed.counts k old got
    counts_one k old new (turns got on can same) =
        counts_hold (interfaces_of olds) k (part (interfaces_of olds).main k trace)
        (interface_of olds k old) new can same
        news k

    counts_from : (k : ℕ) (xs ys : List SectionTree) → AllOnesTurn k xs ys → counts.count_lines_from news k ys ≡ []
    counts_from k [] [] t = refl
    counts_from k [] (y ∷ ys) t = absurd t
    counts_from k (x ∷ xs) [] t = absurd t
    counts_from k (x ∷ xs) (y ∷ ys) t =
        both_empty (map (line_of_text y.line) (counts.section_count_lines y (callees_of news k y))) _
        (mapped_empty (line_of_text y.line) _ (counts_one k x y t.0)) (counts_from (suc k) xs ys t.1)

    -- Interfaces.

    interface_holds : (k : ℕ) (old new : SectionTree) → OneTurns k old new → (mains : Bool)
        (before others : List SectionTree) → AreSeenAs before others → IsSeenAs old new →
        ((k == (interfaces_of olds).main) ≡ true → mains ≡ false) →
        interface_rules.section_interface_lines olds k old mains before ≡ [] →
        interface_rules.section_interface_lines news k new mains others ≡ []
    interface_holds k old new t mains before others around seen first_main h =
        both_empty (unless (name_holds news k new mains others) 1) _
        (ap (λ b. unless b 1) (λ i. name_fits (names_same before others around i) (seen.name i)) ∙
        prefix_empty (unless (name_holds olds k old mains before) 1) _ h) (following t) where
          after_name : exports_from olds k old [] old.exports ++ (imports_from olds k old [] old.imports ++
              decls_from olds k old mains [] old.decls) ≡ []
          after_name = back_empty (unless (name_holds olds k old mains before) 1) _ h

          old_imports : imports_from olds k old [] old.imports ≡ []
          old_imports = prefix_empty _ _ (back_empty (exports_from olds k old [] old.exports) _ after_name)

          old_decls : decls_from olds k old mains [] old.decls ≡ []
          old_decls =
              back_empty (imports_from olds k old [] old.imports) _
              (back_empty (exports_from olds k old [] old.exports) _ after_name)

          following : OneTurns k old new → exports_from news k new [] new.exports ++
              (imports_from news k new [] new.imports ++ decls_from news k new mains [] new.decls) ≡ []
          following (stays got off line is) =
              subst (λ s. exports_from news k s [] s.exports ++
              (imports_from news k s [] s.imports ++ decls_from news k s mains [] s.decls) ≡ []) (sym is)
              (both_empty (exports_from news k (moved line old) [] old.exports) _
              (exports_kept olds news all k line old [] old.exports ∙ prefix_empty _ _ after_name)
              (both_empty (imports_from news k (moved line old) [] old.imports) _
              (imports_hold olds news all k old (moved line old) (λ name none. none) [] old.imports old.imports
              (alike_self old.imports)
              (each_map (ImportFacts olds k old) (λ a. among (proto_names old.decls) a.name ≡ true)
              (λ a f. f.declared) old.imports (facts olds typed.interfaces typed.counts k old got).imports) old_imports)
              (decls_kept olds news all k line old mains [] old.decls old_decls)))
          following (turns got on can same) =
              let rows = part (interfaces_of olds).main k trace in
              let tree = back_tree_is (interfaces_of olds) k rows (interface_of olds k old) new same in
              both_empty (exports_from news k new [] new.exports) _
              (exports_hold olds typed.interfaces typed.counts k old got rows can new tree news all mains)
              (both_empty (imports_from news k new [] new.imports) _
              (imports_new olds typed.interfaces typed.counts k old got rows can new tree news all mains old_imports)
              (decls_new olds typed.interfaces typed.counts k old got rows can new tree news all mains first_main))

    zero_plus : (n : ℕ) → n ≡ 0 + n
    zero_plus n = omega arith

    length_snoc : (before : List SectionTree) (s : SectionTree) → length (before ++ s ∷ []) ≡ suc (length before)
    length_snoc [] s = refl
    length_snoc (x ∷ before) s = ap suc (length_snoc before s)

    interfaces_hold_from : (k : ℕ) (before others xs ys : List SectionTree) → k ≡ length others → others ++ ys ≡ news →
        AreSeenAs before others → AllOnesTurn k xs ys → AreSeenAs xs ys →
        interface_rules.interface_lines_from olds k before xs ≡ [] →
        interface_rules.interface_lines_from news k others ys ≡ []
    interfaces_hold_from k before others [] [] at whole around t seen h = refl
    interfaces_hold_from k before others [] (y ∷ ys) at whole around t seen h = absurd t
    interfaces_hold_from k before others (x ∷ xs) [] at whole around t seen h = absurd t
    interfaces_hold_from k before others (x ∷ xs) (y ∷ ys) at whole around t seen h =
        both_empty (map (line_of_text y.line)
        (interface_rules.section_interface_lines news k y (list_any defines_main others) others)) _
        (mapped_empty (line_of_text y.line) _
        (interface_holds k x y t.0 (list_any defines_main others) before others around
        seen.0 first_main (subst (λ mains. interface_rules.section_interface_lines olds k x mains before ≡ [])
        (sym (mains_same before others around)) (map_empty _ _ (prefix_empty _ _ h)))))
        (interfaces_hold_from (suc k) (before ++ x ∷ []) (others ++ y ∷ []) xs ys
        (ap suc at ∙ sym (length_snoc others y))
        (append_assoc others (y ∷ []) ys ∙ whole) (seen_snoc before others x y around seen.0) t.1 seen.1
        (back_empty (map (line_of_text x.line)
        (interface_rules.section_interface_lines olds k x (list_any defines_main before) before)) _ h)) where
          first_main : (k == (interfaces_of olds).main) ≡ true → list_any defines_main others ≡ false
          first_main here =
              none_before 0 others (y ∷ ys) (ap (main_from 0) whole ∙
              ap (λ f. f.main) (interfaces_same olds news all) ∙ sym (eqb-true k (interfaces_of olds).main here) ∙ at ∙
              zero_plus (length others))

    interfaces_hold : interface_broken news ≡ []
    interfaces_hold =
        both_empty (interface_rules.interface_lines_from news 0 [] news) _
        (interfaces_hold_from 0 [] [] olds news refl refl tt turn all (prefix_empty _ _ typed.interfaces))
        (ap (λ b. unless b 0) (mains_same olds news all) ∙
        back_empty (interface_rules.interface_lines_from olds 0 [] olds) _ typed.interfaces)

    few_sections : counts.line_beyond {A = SectionTree} (λ s. line_of_text s.line 1) most_compartments news ≡ []
    few_sections =
        ap (counts.line_of_some {A = SectionTree} (λ s. line_of_text s.line 1))
        (none_too olds news all most_compartments (none_reported (λ s. line_of_text s.line 1)
        (slice_get olds most_compartments) (prefix_empty _ _ typed.counts)))

    pub all_typed : IsTyped news (program_of news)
    all_typed = record {
      names = listed_empty names.section_name_lines names_one 0 olds news turn;
      types = listed_empty (λ s. elab.section_type_lines s (callees_of news 0 s)) types_one 0 olds news turn;
      interfaces = interfaces_hold;
      counts = both_empty (counts.line_beyond {A = SectionTree} (λ s. line_of_text s.line 1) most_compartments news) _
          few_sections (counts_from 0 olds news turn);
      is = refl;
    }

    pub all_recomposed : ((comp : ℕ) → set comp ≡ true → comp < length olds) →
        IsRecomposed (program_of olds) (program_of news) set trace
    all_recomposed within =
        recomposed olds typed.interfaces typed.counts set trace right news all turn within

pub recomposed_hold : RecomposedHold
recomposed_hold olds news program set trace r =
    let e : program ≡ program_of olds = r.typed.is in
    let typed : IsTyped olds (program_of olds) = record {
      names = r.typed.names;
      types = r.typed.types;
      interfaces = r.typed.interfaces;
      counts = r.typed.counts;
      is = refl;
    } in
    let right : IsRightTrace olds trace = record {
      is_legal = subst (λ p. legal p.interfaces trace ≡ true) e r.performable.is_legal;
      words = r.performable.words;
      few = r.performable.few;
    } in
    let become : AllBecome (interfaces_of olds) (λ comp. part (interfaces_of olds).main comp trace) set 0 olds news =
    subst (λ p. AllBecome p.interfaces (λ comp. part p.interfaces.main comp trace) set 0 olds news) e r.become in (
      all_typed olds news typed set trace right become,
      subst (λ p. IsRecomposed p (program_of news) set trace) (sym e)
          (all_recomposed olds news typed set trace right become r.within),
    )
