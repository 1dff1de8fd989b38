-- One section of a text that keeps the rules defines `main`.
use Rattle.sc_back_performer_laws.proofs.Common.{Bool, Decl, Each, Function, Global, List, SectionTree, Some, Struct}
use Rattle.sc_back_performer_laws.proofs.Common.{[], among, and_rest, ap, arith, back_empty, bytes_eq, decls_from}
use Rattle.sc_back_performer_laws.proofs.Common.{defines_main, each_at, eq-eqb, exports_from, false, false≢true}
use Rattle.sc_back_performer_laws.proofs.Common.{function_names, head_holds, head_of, if◌then◌else◌, imported_agrees}
use Rattle.sc_back_performer_laws.proofs.Common.{imports_from, is_main_head, line_of_text, interface_lines_from}
use Rattle.sc_back_performer_laws.proofs.Common.{list_any, main_from}
use Rattle.sc_back_performer_laws.proofs.Common.{main_holds, main_name, map, map_empty, name_holds, none_some, not}
use Rattle.sc_back_performer_laws.proofs.Common.{prefix_empty, refl, rule_holds, same_Some, same_either_way}
use Rattle.sc_back_performer_laws.proofs.Common.{section_interface_lines, slice_get, subst, suc, sym, true, unless}
use Rattle.sc_back_performer_laws.proofs.Common.{zero, ℕ, ◌&&◌}
use Rattle.sc_back_performer_laws.proofs.Common.{◌++◌, ◌+◌, ◌==◌, ◌||◌, ◌∙◌, ◌∷◌, ◌≡◌}
use Rattle.sc_ast.specs.declared.section.Decl.TheVariants.{Proto}

or_false : (a b : Bool) → a ≡ false → b ≡ false → (a || b) ≡ false
or_false a b h k = λ i. h i || k i

not_main : (a b : Bool) → (not a || (not true && b)) ≡ true → a ≡ false
not_main true b h = absurd (false≢true h)
not_main false b h = refl

any_snoc : (before : List SectionTree) (x : SectionTree) → list_any defines_main before ≡ true →
    list_any defines_main (before ++ x ∷ []) ≡ true
any_snoc [] x h = absurd (false≢true h)
any_snoc (y ∷ before) x h = by (defines_main y) h (any_snoc before x) where
  by : (b : Bool) → (b || list_any defines_main before) ≡ true →
      (list_any defines_main before ≡ true → list_any defines_main (before ++ x ∷ []) ≡ true) →
      (b || list_any defines_main (before ++ x ∷ [])) ≡ true
  by true h rest = refl
  by false h rest = rest h

last_any : (before : List SectionTree) (x : SectionTree) → defines_main x ≡ true →
    list_any defines_main (before ++ x ∷ []) ≡ true
last_any [] x h = ap (λ b. b || false) h
last_any (y ∷ before) x h = by (defines_main y) (last_any before x h) where
  by : (b : Bool) → list_any defines_main (before ++ x ∷ []) ≡ true →
      (b || list_any defines_main (before ++ x ∷ [])) ≡ true
  by true rest = refl
  by false rest = rest

none_snoc : (before : List SectionTree) (x : SectionTree) → list_any defines_main before ≡ false →
    defines_main x ≡ false → list_any defines_main (before ++ x ∷ []) ≡ false
none_snoc [] x h k = ap (λ b. b || false) k
none_snoc (y ∷ before) x h k = by (defines_main y) h (λ h. none_snoc before x h k) where
  by : (b : Bool) → (b || list_any defines_main before) ≡ false →
      (list_any defines_main before ≡ false → list_any defines_main (before ++ x ∷ []) ≡ false) →
      (b || list_any defines_main (before ++ x ∷ [])) ≡ false
  by true h rest = absurd (false≢true (sym h))
  by false h rest = rest h

module _ (sections : List SectionTree) (number : ℕ) (section : SectionTree) where
  -- where `main` is defined before
  no_main : (before decls : List Decl) → decls_from sections number section true before decls ≡ [] →
      among (function_names decls) main_name ≡ false
  no_main before [] h = refl
  no_main before (Struct tree ∷ decls) h = no_main (before ++ Struct tree ∷ []) decls h
  no_main before (Global tree ∷ decls) h = no_main (before ++ Global tree ∷ []) decls h
  no_main before (Proto head ∷ decls) h =
      no_main (before ++ Proto head ∷ []) decls
      (back_empty (unless (head_holds sections number section before head &&
      imported_agrees sections number section head) head.line) _ h)
  no_main before (Function tree ∷ decls) h =
      let was : (head_holds sections number section before (head_of tree.head) &&
      main_holds true (head_of tree.head)) ≡ true = rule_holds _ tree.head.line (prefix_empty _ _ h) in
      or_false (bytes_eq main_name tree.head.name) (among (function_names decls) main_name)
      (same_either_way main_name tree.head.name ∙ not_main (bytes_eq tree.head.name main_name)
      (is_main_head (head_of tree.head))
      (and_rest (head_holds sections number section before (head_of tree.head)) _ was))
      (no_main (before ++ Function tree ∷ []) decls
      (back_empty (unless (head_holds sections number section before (head_of tree.head) &&
      main_holds true (head_of tree.head)) tree.head.line) _ h))

  no_other : (before : List SectionTree) → section_interface_lines sections number section true before ≡ [] →
      defines_main section ≡ false
  no_other before h =
      no_main [] section.decls (back_empty (imports_from sections number section [] section.imports) _
      (back_empty (exports_from sections number section [] section.exports) _
      (back_empty (unless (name_holds sections number section true before) 1) _ h)))

module _ (sections : List SectionTree) where
  none_after : (k : ℕ) (before rest : List SectionTree) → interface_lines_from sections k before rest ≡ [] →
      list_any defines_main before ≡ true → Each (λ s. defines_main s ≡ false) rest
  none_after k before [] h some = tt
  none_after k before (s ∷ rest) h some = (
    no_other sections k s before
        (subst (λ mains. section_interface_lines sections k s mains before ≡ []) some (map_empty _ _ (prefix_empty _ _
        h))),
    none_after (suc k) (before ++ s ∷ []) rest
        (back_empty (map (line_of_text s.line) (section_interface_lines sections k s (list_any defines_main before)
        before)) _ h)
        (any_snoc before s some),
  )

  main_once : (k : ℕ) (before rest : List SectionTree) → interface_lines_from sections k before rest ≡ [] →
      list_any defines_main before ≡ false → (i : ℕ) (x : SectionTree) → slice_get rest i ≡ Some x →
      (k + i == main_from k rest) ≡ false → defines_main x ≡ false
  main_once k before [] h none i x got other = none_some x got
  main_once k before (s ∷ rest) h none i x got other =
      by (defines_main s) refl i got other
      (λ some. none_after (suc k) (before ++ s ∷ []) rest following (last_any before s some))
      (λ none_here. main_once (suc k) (before ++ s ∷ []) rest following (none_snoc before s none none_here)) where
        following : interface_lines_from sections (suc k) (before ++ s ∷ []) rest ≡ []
        following =
            back_empty (map (line_of_text s.line)
            (section_interface_lines sections k s (list_any defines_main before) before)) _ h

        same : (n : ℕ) → (n + 0 == n) ≡ true
        same n = eq-eqb (n + 0) n (omega arith)

        shift : (n m : ℕ) → n + suc m ≡ suc n + m
        shift n m = omega arith

        by : (b : Bool) → defines_main s ≡ b → (i : ℕ) → slice_get (s ∷ rest) i ≡ Some x →
            (k + i == (if b then k else main_from (suc k) rest)) ≡ false →
            (defines_main s ≡ true → Each (λ s. defines_main s ≡ false) rest) →
            (defines_main s ≡ false → (i : ℕ) (x : SectionTree) → slice_get rest i ≡ Some x →
            (suc k + i == main_from (suc k) rest) ≡ false → defines_main x ≡ false) → defines_main x ≡ false
        by true is zero got other all next = absurd (false≢true (sym other ∙ same k))
        by true is (suc i) got other all next = each_at (λ s. defines_main s ≡ false) rest i x (all is) got
        by false is zero got other all next = subst (λ z. defines_main z ≡ false) (same_Some s x got) is
        by false is (suc i) got other all next =
            next is i x got (subst (λ n. (n == main_from (suc k) rest) ≡ false) (shift k i) other)

  -- it is the one that the interfaces name
  pub main_only : interface_lines_from sections 0 [] sections ≡ [] → (number : ℕ) (section : SectionTree) →
      slice_get sections number ≡ Some section → (number == main_from 0 sections) ≡ false →
      defines_main section ≡ false
  main_only h number section got other =
      main_once 0 [] sections h refl number section got
      (subst (λ n. (n == main_from 0 sections) ≡ false) (none_more number) other) where
        none_more : (n : ℕ) → n ≡ 0 + n
        none_more n = omega arith
