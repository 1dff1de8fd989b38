-- The sections of a made text hold no more than a program may.
use Rattle.sc_report_made.proofs.Common.{IsAsked, List, SectionTree, [], ap, ap₂, arith, callees_of, counts_broken}
use Rattle.sc_report_made.proofs.Common.{length, line_of_text, count_lines_from, map, none_beyond, numbers_from, refl}
use Rattle.sc_report_made.proofs.Common.{suc}
use Rattle.sc_report_made.proofs.Common.{workers, ℕ, ◌++◌, ◌∙◌, ◌≡◌, ◌≤◌}
use Rattle.sc_report_made.proofs.MainCounts.{main_counted}
use Rattle.sc_report_made.proofs.Shapes.{AreMade, AreWorkers, and_worker, no_workers}
use Rattle.sc_report_made.proofs.Shares.{numbers_length}
use Rattle.sc_report_made.proofs.WorkerCounts.{worker_counted}

workers_length : (size seed : ℕ) (is : List ℕ) (sections : List SectionTree) → AreWorkers size seed is sections →
    length sections ≡ length is
workers_length size seed is sections no_workers = refl
workers_length size seed is sections (and_worker i section more rest worker are) =
    ap suc (workers_length size seed more rest are)

module _ (size seed : ℕ) (few : size ≤ 1000) (sections : List SectionTree) where
  workers_none : (k : ℕ) (is : List ℕ) (others : List SectionTree) → AreWorkers size seed is others →
      count_lines_from sections k others ≡ []
  workers_none k is others no_workers = refl
  workers_none k is others (and_worker i section more rest worker are) =
      ap₂ (λ x y. map (line_of_text section.line) x ++ y)
      (worker_counted size seed i few section worker (callees_of sections k section))
      (workers_none (suc k) more rest are)

  module _ (made : AreMade size seed sections) where
    few_sections : length sections ≤ 32
    few_sections =
        let count = ap length made.are in
        let others = workers_length size seed (numbers_from 0 (workers size)) made.others made.others_are in
        let all = numbers_length 0 (workers size) in
        omega (arith, count, others, all)

    none_broken : counts_broken sections ≡ []
    none_broken =
        ap₂ (λ x y. x ++ y)
        (none_beyond {A = SectionTree} (λ section. line_of_text section.line 1) sections 32 few_sections)
        (ap (count_lines_from sections 0) made.are ∙
        ap₂ (λ x y. map (line_of_text made.main.line) x ++ y)
        (main_counted size seed few made.main made.main_is (callees_of sections 0 made.main))
        (workers_none 1 (numbers_from 0 (workers size)) made.others made.others_are))

pub counts_hold : (size seed : ℕ) → IsAsked size seed → (sections : List SectionTree) → AreMade size seed sections →
    counts_broken sections ≡ []
counts_hold size seed asked sections made = none_broken size seed asked.few sections made
