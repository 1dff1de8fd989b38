use Rattle.sc_report.proofs.Common.{ap, eq-eqb, made_export, nat_eq, ne_eqb, sym, workers, ◌%◌, ◌∙◌}
use Rattle.sc_report.proofs.Counting.{chosen_turn, passed_turn}
use Rattle.sc_report.proofs.make.append_exports.Goals as goal
use Rattle.sc_report.proofs.make.append_exports.Goals.{then-j-workers+in_ok-append_export, else-j-workers}

pub loop-j-preserved : goal.loop-j-preserved
loop-j-preserved c =
    let j = c.loop-j.j in
    elim c.if-j-workers.branch [
      | then-j-workers+in_ok-append_export w ↦
          w.text-is ∙
          chosen_turn (λ j. nat_eq (j % workers c.args.size) c.args.worker) made_export j c.args.text.now c.loop-j.text
          w.append_export.new.text
          (eq-eqb (j % workers c.args.size) c.args.worker
          (ap (λ n. j % n) (sym c.workers.ensures) ∙ w.if-j-workers.true))
          c.loop-j.invariant w.in_ok-append_export.ensures
      | else-j-workers w ↦
          w.text-is ∙
          passed_turn (λ j. nat_eq (j % workers c.args.size) c.args.worker) made_export j c.args.text.now c.loop-j.text
          (ne_eqb (j % workers c.args.size) c.args.worker
          (λ same. w.if-j-workers.false (ap (λ n. j % n) c.workers.ensures ∙ same)))
          c.loop-j.invariant
    ]
