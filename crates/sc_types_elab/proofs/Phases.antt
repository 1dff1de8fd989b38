-- The lines of a text are those of its sections.
use Rattle.sc_types_elab.proofs.Common.{BrokenLines, Callees, CallsIn, Decl, Import, List, Option, SectionTree, []}
use Rattle.sc_types_elab.proofs.Common.{add-one, ap, called, callees_of, concat, decl_type_lines, drop, drop_all}
use Rattle.sc_types_elab.proofs.Common.{get_or}
use Rattle.sc_types_elab.proofs.Common.{length, line_of_text, map, noted, noted_all, noted_all-append}
use Rattle.sc_types_elab.proofs.Common.{section_type_lines}
use Rattle.sc_types_elab.proofs.Common.{struct_names, sym, with_lines, ℕ, ◌++◌, ◌+◌, ◌<◌, ◌∙◌, ◌≡◌, ◌≤◌}
use Rattle.std.proofs.Math.Seq.{drop-cons}
use Rattle.sc_types_elab.proofs.Calling.{signatures_kept}
use Rattle.sc_types_scope.proofs.Noted.{noted-none}

-- the lines of a section, as lines of the text
abbrev pub lines_in : SectionTree → List ℕ
lines_in section = map (line_of_text section.line) (section_type_lines section (callees_of [] 0 section))

-- who is called matters not for types
same_lines : (section : SectionTree) (imports : List Import) (callees : Callees) →
    CallsIn (struct_names section.decls) section imports callees →
    section_type_lines section (called callees) ≡ section_type_lines section (callees_of [] 0 section)
same_lines section imports callees calls = λ j. section_type_lines section (record {
  signature = signatures_kept section imports callees calls j;
  target = (called callees).target;
})

pub section-noted : (section : SectionTree) (imports : List Import) (callees : Callees) →
    CallsIn (struct_names section.decls) section imports callees → (decls : List Decl) → decls ≡ section.decls →
    (least : Option ℕ) (lines : BrokenLines) → lines ≡ with_lines (record { start = section.line; least = least })
    (concat (map (decl_type_lines section (called callees)) decls)) → lines.least ≡ noted_all least (lines_in section)
section-noted section imports callees calls decls same least lines is = ap (λ x. x.least) is ∙ ap (λ d. noted_all least
    (map (line_of_text section.line) (concat (map (decl_type_lines section (called callees)) d)))) same
    ∙ ap (λ l. noted_all least (map (line_of_text section.line) l)) (same_lines section imports callees calls)

module _ (sections : List SectionTree) (i : ℕ) (whole : Option ℕ) where
  pub section-next : (least next : Option ℕ) (x : SectionTree) → i < length sections → x ≡ get_or sections i x →
      next ≡ noted_all least (lines_in x) → noted_all least (concat (map lines_in (drop i sections))) ≡ whole →
      noted_all next (concat (map lines_in (drop (i + 1) sections))) ≡ whole
  section-next least next x within is noted so = ap (λ least. noted_all least
      (concat (map lines_in (drop (i + 1) sections)))) noted ∙ sym (noted_all-append least _ _)
      ∙ (λ j. noted_all least (lines_in (is j) ++ concat (map lines_in (drop (add-one i j) sections))))
      ∙ (λ j. noted_all least (concat (map lines_in (sym (drop-cons _ i x within) j)))) ∙ so

  pub sections-end : (least : Option ℕ) → length sections ≤ i →
      noted_all least (concat (map lines_in (drop i sections))) ≡ whole → least ≡ whole
  sections-end least done so =
      sym (noted-none least) ∙ (λ j. noted_all least (concat (map lines_in (sym (drop_all i _ done) j)))) ∙ so
