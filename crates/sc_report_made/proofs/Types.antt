-- The sections of a made text break no rule of types.
use Rattle.sc_report_made.proofs.Common.{IsAsked, List, SectionTree, [], ap, ap₂, callees_of, concat, line_of_text, map}
use Rattle.sc_report_made.proofs.Common.{numbers_from, refl, section_type_lines, types_broken, workers, ℕ, ◌++◌, ◌∙◌}
use Rattle.sc_report_made.proofs.Common.{◌≡◌}
use Rattle.sc_report_made.proofs.MainTypes.{main_typed}
use Rattle.sc_report_made.proofs.Shapes.{AreMade, AreWorkers, and_worker, no_workers}
use Rattle.sc_report_made.proofs.WorkerSections.{worker_typed}

module _ (size seed : ℕ) (sections : List SectionTree) where
  -- the lines of the text at which a section breaks a rule
  abbrev broken : SectionTree → List ℕ
  broken section = map (line_of_text section.line) (section_type_lines section (callees_of sections 0 section))

  workers_none : (is : List ℕ) (others : List SectionTree) → AreWorkers size seed is others →
      concat (map broken others) ≡ []
  workers_none is others no_workers = refl
  workers_none is others (and_worker i section more rest worker are) =
      ap₂ (λ x y. map (line_of_text section.line) x ++ y)
      (worker_typed size seed i section worker (callees_of sections 0 section)) (workers_none more rest are)

pub types_hold : (size seed : ℕ) → IsAsked size seed → (sections : List SectionTree) → AreMade size seed sections →
    types_broken sections ≡ []
types_hold size seed asked sections made =
    ap (λ s. concat (map (broken size seed sections) s)) made.are ∙
    ap₂ (λ x y. map (line_of_text made.main.line) x ++ y)
    (main_typed size seed made.main made.main_is sections 0)
    (workers_none size seed sections (numbers_from 0 (workers size)) made.others made.others_are)
