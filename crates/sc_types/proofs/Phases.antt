-- What the phases give to one another.
use Rattle.sc_types.proofs.Common.{All, AreLow, Decl, Err, HasFewExports, HasFewParams, IsWellTyped, IsWithinCounts}
use Rattle.sc_types.proofs.Common.{List, None, Ok, OnOk, Option, ProgramTree, Result, SectionTree, [], arith}
use Rattle.sc_types.proofs.Common.{callees_of, concat, counts_broken, function_decls, heads_in, interface_broken}
use Rattle.sc_types.proofs.Common.{length-map, line_of_text, map, names_broken, nat_tests, program_of, refused_at}
use Rattle.sc_types.proofs.Common.{subst, suc, sym, types_broken, zero, ℕ, ◌∙◌, ◌∷◌, ◌≡◌}
use Rattle.sc_types.specs.Counts as counts
use Rattle.sc_types.proofs.Lookups.{Each, no_lines, prefix_empty, back_empty, map_empty, is_at_most}
use Rattle.sc_types.proofs.Facts.{count_facts}
use Rattle.sc_types.proofs.Sections.{none_beyond}
use Rattle.sc_types.proofs.Verdicts.{no_line}
use Rattle.sc_types.proofs.Whole.{well_typed}

-- where there is no line, the rules hold
pub holds : (lines : List ℕ) (line : Option ℕ) → line ≡ refused_at lines → line ≡ None → lines ≡ []
holds lines line is h = no_line lines (sym is ∙ h)

-- where a phase is passed, its rules hold
pub passes : {T E : Type 0} (lines : List ℕ) (line : Option ℕ) (r : Result T E) → line ≡ refused_at lines →
    OnOk r (line ≡ None) → OnOk r (lines ≡ [])
passes lines line (Ok x) is h = holds lines line is h
passes lines line (Err e) is h = tt

-- what is built of sections that break no rule is well typed
pub built_well : (sections : List SectionTree) (tree : ProgramTree) → AreLow sections → names_broken sections ≡ [] →
    types_broken sections ≡ [] → interface_broken sections ≡ [] → counts_broken sections ≡ [] →
    tree ≡ program_of sections → IsWellTyped tree
built_well sections tree low names types interfaces counted is =
    subst IsWellTyped (sym is) (well_typed sections low names types interfaces counted)

-- Sections that are within the counts have interfaces.

all_of : {A : Type 0} (P : A → Type 0) (xs : List A) → Each P xs → All P xs
all_of P [] h k d less = absurd (omega (arith, less))
all_of P (x ∷ xs) h zero d less = h.0
all_of P (x ∷ xs) h (suc k) d less = all_of P xs h.1 k d (omega (arith, less))

few_params : (section : SectionTree) (decls : List Decl) →
    concat (map (counts.head_lines section) (heads_in decls)) ≡ [] → Each HasFewParams (function_decls decls)
few_params section [] h = tt
few_params section (decl ∷ decls) h = grind (arith, no_lines, nat_tests, few_params section decls, length-map)

abbrev Params : SectionTree → Type 0
Params section = All HasFewParams (function_decls section.decls)

section_counts : (sections : List SectionTree) (k : ℕ) (section : SectionTree) →
    counts.section_count_lines section (callees_of sections k section) ≡ [] → HasFewExports section × Params section
section_counts sections k section h = let f = count_facts section (callees_of sections k section) h in (
  is_at_most _ _ (none_beyond (λ line. line.line) _ _ f.exports),
  all_of HasFewParams _ (few_params section section.decls f.heads),
)

all_counts : (sections : List SectionTree) (k : ℕ) (rest : List SectionTree) → counts.count_lines_from sections k rest ≡
    [] →
    Each HasFewExports rest × Each Params rest
all_counts sections k [] h = (tt, tt)
all_counts sections k (section ∷ rest) h =
    let here = section_counts sections k section (map_empty _ _ (prefix_empty _ _ h)) in
    let later = all_counts sections (suc k) rest (back_empty _ _ h) in
    ((here.0, later.0), (here.1, later.1))

pub within_counts : (sections : List SectionTree) → counts_broken sections ≡ [] → IsWithinCounts sections
within_counts sections h = let c = all_counts sections 0 _ (back_empty _ _ h) in record {
  sections = is_at_most _ _ (none_beyond (λ section. line_of_text _ 1) _ _ (prefix_empty _ _ h));
  exports = all_of HasFewExports _ c.0;
  params = all_of Params _ c.1;
}
