use Rattle.sc_report.proofs.Common.{ap, arith, made_call, call_with, state_at, suc, ◌++◌, ◌+◌, ◌∙◌, ◌≡◌}
use Rattle.sc_report.proofs.Counting.{number_turn}
use Rattle.sc_report.proofs.make.append_calls.Goals as goal

pub loop-j-preserved : goal.loop-j-preserved
loop-j-preserved c =
    let j = c.loop-j.j in
    let next : suc j ≡ j + 1 = omega arith in
    let drawn = c.next_function.ensures c.args.seed j c.loop-j.invariant.drawn in
    record {
      drawn = drawn.state ∙ ap (state_at c.args.seed) next;
      printed = number_turn (made_call c.args.seed) j c.args.text.now c.loop-j.text c.append_call.new.text
          c.loop-j.invariant.printed
          (c.in_ok-append_call.ensures ∙ ap (λ argument. c.loop-j.text ++ call_with j argument) drawn.argument);
    }
