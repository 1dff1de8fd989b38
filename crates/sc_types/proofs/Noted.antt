-- The loops over declarations, locals and sections, one step further, and numbers that stop.
use Rattle.sc_types.proofs.Common.{Bool, Decl, List, LocalTree, None, Option, SectionTree, Some, Struct, StructTree, []}
use Rattle.sc_types.proofs.Common.{add-one, ap, append_assoc, arith, callees_of, concat, concat-append, counts_broken}
use Rattle.sc_types.proofs.Common.{drop, drop-cons, drop-step, drop_all, filter_map, filter_map-append, get_or}
use Rattle.sc_types.proofs.Common.{is_small, length, limited, line_beyond, line_of_text, count_lines_from, local_lines}
use Rattle.sc_types.proofs.Common.{map}
use Rattle.sc_types.proofs.Common.{map-append, most_compartments, nat_le, nat_tests, noted_all, refl, refused_at}
use Rattle.sc_types.proofs.Common.{section_count_lines, slice_get, struct_in, structs_from, structs_in, suc, sym}
use Rattle.sc_types.proofs.Common.{type_in}
use Rattle.sc_types.proofs.Common.{unless, with_lines, ℕ, ◌++◌, ◌+◌, ◌<◌, ◌∙◌, ◌∷◌, ◌≡◌, ◌≤◌}
use Rattle.sc_types_scope.specs.declared.broken.BrokenLines.{BrokenLines}
use Rattle.sc_types_scope.proofs.Lines.{done, with_lines-append, with_lines-nil, noted_all-append, step}
use Rattle.sc_core.specs.declared.ty.Ty.TheVariants as ty
use Rattle.sc_types.proofs.TypedNodes.{section-nodes}
use Rattle.sc_types_scope.proofs.Noted.{noted-none}

-- a number that stops far above passes the same test
pub same-test : (n : ℕ) → nat_le (limited n) 1048576 ≡ nat_le n 1048576
same-test n = grind (arith, nat_tests)

pub ruleset measures = (same-test)

pub ruleset noting = (with_lines-nil, with_lines-append)

pub ruleset sized = (section-nodes)

-- Lines of the declarations of a kind.

module _ {A : Type 0} (pick : Decl → Option A) (part : A → List ℕ) where
  abbrev lines_of : List Decl → List ℕ
  lines_of decls = concat (map part (filter_map pick decls))

  lines-append : (xs ys : List Decl) → lines_of (xs ++ ys) ≡ lines_of xs ++ lines_of ys
  lines-append xs ys = ap (λ zs. concat (map part zs))
      (filter_map-append pick xs ys) ∙ (ap concat (map-append part _ _) ∙ concat-append (map part _) (map part _))

  -- one declaration further
  pub kind-noted : (decls : List Decl) (i : ℕ) (decl : Decl) (old a b : BrokenLines) (all : List ℕ) →
      i < length decls → decl ≡ get_or decls i decl → with_lines a (lines_of (drop i decls)) ≡ with_lines old all →
      b ≡ with_lines a (lines_of (decl ∷ [])) → with_lines b (lines_of (drop (i + 1) decls)) ≡ with_lines old all
  kind-noted decls i decl old a b all lt is p q = step old a b _ _ all (ap (with_lines a)
      (sym (ap lines_of (drop-step decls i decl lt is) ∙ lines-append (decl ∷ []) (drop _ decls))) ∙ p) q

  -- after the last one
  pub kind-done : (decls : List Decl) (i : ℕ) (old a : BrokenLines) (all : List ℕ) →
      length decls ≤ i → with_lines a (lines_of (drop i decls)) ≡ with_lines old all → a ≡ with_lines old all
  kind-done decls i old a all le p = done old a _ all p (ap lines_of (drop_all i decls le))

-- a declaration is at most one struct
pub few-structs : (decl : Decl) → length (structs_in (decl ∷ [])) ≤ 1
few-structs decl = by (struct_in decl) where
  by : (tree : Option StructTree) → length (filter_map (λ x. x) (tree ∷ [])) ≤ 1
  by None = omega arith
  by (Some tree) = omega arith

module _ (section : SectionTree) where
  -- Structs, which have numbers.

  next-number : (k n : ℕ) → suc k + n ≡ k + suc n
  next-number k n = omega arith

  structs-append : (k : ℕ) (xs ys : List StructTree) →
      structs_from section k (xs ++ ys) ≡ structs_from section k xs ++ structs_from section (k + length xs) ys
  structs-append k [] ys = ap (λ n. structs_from section n ys) (omega arith)
  structs-append k (x ∷ xs) ys = cc (
    structs-append (suc k) xs ys,
    next-number k (length xs),
    append_assoc
        (unless (is_small section (ty.Struct k)) x.line) (structs_from section (suc k) xs)
        (structs_from section (suc k + length xs) ys),
  )

  pub structs-noted : (decls : List Decl) (i : ℕ) (decl : Decl) (number next : ℕ) (old a b : BrokenLines)
      (all : List ℕ) → i < length decls → decl ≡ get_or decls i decl → with_lines a (structs_from section number
      (structs_in (drop i decls))) ≡ with_lines old all → next ≡ number + length (structs_in (decl ∷ [])) →
      b ≡ with_lines a (structs_from section number (structs_in (decl ∷ []))) →
      with_lines b (structs_from section next (structs_in (drop (i + 1) decls))) ≡ with_lines old all
  structs-noted decls i decl number next old a b all lt is p n q =
      ap (λ k. with_lines b (structs_from section k (structs_in (drop (i + 1) decls)))) n ∙ step old a b _ _ all
      (ap (with_lines a) (sym (ap (λ ds. structs_from section number (structs_in ds)) (drop-step decls i decl lt is)
      ∙ (ap (structs_from section number) (filter_map-append struct_in (decl ∷ []) (drop _ decls)) ∙
      structs-append number (structs_in (decl ∷ [])) (structs_in (drop (i + 1) decls))))) ∙ p) q

  pub structs-done : (decls : List Decl) (i number : ℕ) (old a : BrokenLines) (all : List ℕ) → length decls ≤ i →
      with_lines a (structs_from section number (structs_in (drop i decls))) ≡ with_lines old all →
      a ≡ with_lines old all
  structs-done decls i number old a all le p =
      done old a _ all p (ap (λ ds. structs_from section number (structs_in ds)) (drop_all i decls le))

  -- Locals.

  pub local-noted : (locals : List LocalTree) (i : ℕ) (local : LocalTree) (holds : Bool) (old a b : BrokenLines)
      (all : List ℕ) → i < length locals → local ≡ get_or locals i local →
      with_lines a (concat (map (local_lines section) (drop i locals))) ≡ with_lines old all →
      holds ≡ is_small section (type_in section local.ty) → b ≡ with_lines a (unless holds local.line) →
      with_lines b (concat (map (local_lines section) (drop (i + 1) locals))) ≡ with_lines old all
  local-noted locals i local holds old a b all lt is p h q = step old a b (local_lines section local) _ all
      (ap (λ rest. with_lines a (concat (map (local_lines section) rest))) (sym (drop-step locals i local lt is)) ∙ p)
      (q ∙ ap (λ v. with_lines a (unless v local.line)) h)

  pub locals-done : (locals : List LocalTree) (i : ℕ) (old a : BrokenLines) (all : List ℕ) → length locals ≤ i →
      with_lines a (concat (map (local_lines section) (drop i locals))) ≡ with_lines old all → a ≡ with_lines old all
  locals-done locals i old a all le p = done old a _ all p
      (ap (λ ls. concat (map (local_lines section) ls)) (drop_all i locals le))

-- The sections.

noted-first : (line : ℕ) → noted_all None (line ∷ []) ≡ Some line
unfolding noted_all
noted-first line = refl

abbrev beyond : List SectionTree → List ℕ
beyond sections = line_beyond {A = SectionTree} (λ section. line_of_text section.line 1) most_compartments sections

pub none-refused : (sections : List SectionTree) → None ≡ slice_get sections most_compartments →
    None ≡ refused_at (beyond sections)
none-refused sections n = cc (noted-none None)

pub some-refused : (sections : List SectionTree) (section : SectionTree) (line : ℕ) →
    Some section ≡ slice_get sections most_compartments → line ≡ line_of_text section.line 1 →
    Some line ≡ refused_at (beyond sections)
some-refused sections section line n l = cc (noted-first line)

pub counts-begun : (sections : List SectionTree) (least : Option ℕ) → least ≡ refused_at (beyond sections) →
    noted_all least (count_lines_from sections 0 sections) ≡ refused_at (counts_broken sections)
counts-begun sections least h = cc (noted_all-append None (beyond sections) (count_lines_from sections 0 sections))

pub count-noted : (sections : List SectionTree)
    (i : ℕ) (section : SectionTree) (least : Option ℕ) (lines : BrokenLines) (all : Option ℕ) → i < length sections →
    section ≡ get_or sections i section → noted_all least (count_lines_from sections i (drop i sections)) ≡ all →
    lines ≡ with_lines (record { start = section.line; least = least }) (section_count_lines section
    (callees_of sections i section)) → noted_all lines.least (count_lines_from sections (i + 1) (drop (i + 1) sections))
    ≡ all
count-noted sections i section least lines all lt is p q = rw add-one (ap (λ l. noted_all l.least (count_lines_from
    sections
    (suc i) (drop (suc i) sections))) q ∙ (sym (noted_all-append least _ _) ∙ (ap (λ rest. noted_all least
    (count_lines_from sections i rest)) (sym (drop-cons _ i section lt ∙ ap (λ s. s ∷ drop (suc i) sections) (sym is)))
    ∙ p)))

pub counts-noted : (sections : List SectionTree) (i : ℕ) (least : Option ℕ) (all : Option ℕ) → length sections ≤ i →
    noted_all least (count_lines_from sections i (drop i sections)) ≡ all → least ≡ all
counts-noted sections i least all le p =
    cc (noted-none least, drop_all i sections le)
