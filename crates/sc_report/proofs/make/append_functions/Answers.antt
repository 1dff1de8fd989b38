use Rattle.sc_report.proofs.Common.{ap, arith, eq-eqb, made_function, function_with, nat_eq, ne_eqb, state_at, suc, sym}
use Rattle.sc_report.proofs.Common.{workers, ◌%◌, ◌++◌, ◌+◌, ◌∙◌, ◌≡◌}
use Rattle.sc_report.proofs.Counting.{chosen_turn, passed_turn}
use Rattle.sc_report.proofs.make.append_functions.Goals as goal
use Rattle.sc_report.proofs.make.append_functions.Goals.{then-j-workers+in_ok-append_function, else-j-workers}

pub loop-j-preserved : goal.loop-j-preserved
loop-j-preserved c =
    let j = c.loop-j.j in
    let next : suc j ≡ j + 1 = omega arith in
    let drawn = c.next_function-drawn.ensures c.args.seed j c.loop-j.invariant.drawn in
    record {
      drawn = drawn.state ∙ ap (state_at c.args.seed) next;
      printed = elim c.if-j-workers.branch [
        | then-j-workers+in_ok-append_function w ↦
            w.text-is ∙
            chosen_turn (λ j. nat_eq (j % workers c.args.size) c.args.worker) (made_function c.args.seed) j
            c.args.text.now c.loop-j.text w.append_function.new.text
            (eq-eqb (j % workers c.args.size) c.args.worker
            (ap (λ n. j % n) (sym c.workers.ensures) ∙ w.if-j-workers.true))
            c.loop-j.invariant.printed
            (w.in_ok-append_function.ensures ∙ ap (λ addend. c.loop-j.text ++ function_with j addend) drawn.addend)
        | else-j-workers w ↦
            w.text-is ∙
            passed_turn (λ j. nat_eq (j % workers c.args.size) c.args.worker) (made_function c.args.seed) j
            c.args.text.now c.loop-j.text
            (ne_eqb (j % workers c.args.size) c.args.worker
            (λ same. w.if-j-workers.false (ap (λ n. j % n) c.workers.ensures ∙ same)))
            c.loop-j.invariant.printed
      ];
    }
