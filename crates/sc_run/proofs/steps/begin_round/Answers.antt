use Rattle.sc_run.proofs.Common.{sym}
use Rattle.sc_run.proofs.Looping.{round_in, round_out, round_err, round_ends}
use Rattle.sc_run.proofs.steps.begin_round.Goals as goal

pub returns-in_ok-push-in-Ok-take_turn : goal.returns-in_ok-push-in-Ok-take_turn
returns-in_ok-push-in-Ok-take_turn c = round_in c.args.whole.now c.in-Ok.ensures (sym c.if-not-is_true.ensures)
    c.in-Ok-take_turn.ensures.comes c.in-Ok-take_turn.ensures.taken c.in_ok-push-in-Ok-take_turn.ensures.items

pub returns-in-Err-take_turn : goal.returns-in-Err-take_turn
returns-in-Err-take_turn c = round_out c.args.whole.now c.in-Ok.ensures (sym c.if-not-is_true.ensures)
    c.in-Err-take_turn.ensures.comes

pub returns-in-Err : goal.returns-in-Err
returns-in-Err c = round_err c.args.whole.now c.in-Err.ensures

pub returns-then-not-is_true : goal.returns-then-not-is_true
returns-then-not-is_true c = round_ends c.args.whole.now c.in-Ok.ensures (sym c.if-not-is_true.ensures)
