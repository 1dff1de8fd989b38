use Rattle.sc_run.proofs.Common.{Some, [], refl}
use Rattle.sc_run.proofs.Ahead.{after_body, body_done, none_after, round_done, stays_so, then_passes, turns_fall}
use Rattle.sc_run.proofs.Ahead.{unchanged}
use Rattle.sc_run.proofs.planned.rounds_of_one.Goals as goal

pub loop-first-init : goal.loop-first-init
loop-first-init c = stays_so

pub loop-first-smaller : goal.loop-first-smaller
loop-first-smaller c = turns_fall c.done_one_by-count.new.machine.turns c.is_next_done_by.new.machine.turns
    (c.loop-first-test.ensures.taken refl) c.done_one_by-count.ensures.passes.fewer
    c.if-not-is_next_done_by.ensures.fewer

pub returns-clause-passes : goal.returns-clause-passes
returns-clause-passes c = then_passes c.loop-first.invariant (unchanged c.loop-first-test.ensures.passes)

pub returns-then-count-whole-clause-passes : goal.returns-then-count-whole-clause-passes
returns-then-count-whole-clause-passes c = body_done c.args.program.now c.args.frame.now c.args.whole.now
    (Some (record {
      part = record { ref_ptr = c.args.whole.now.body.ref_ptr; now = [] };
      count = c.done_one_by-count.result;
    }))
    (then_passes c.loop-first.invariant c.loop-first-test.ensures.passes) c.done_one_by-count.ensures.passes

pub returns-then-not-is_next_done_by-clause-passes : goal.returns-then-not-is_next_done_by-clause-passes
returns-then-not-is_next_done_by-clause-passes c =
    then_passes (after_body c.args.program.now c.args.frame.now c.args.whole.now
    (record { ref_ptr = c.args.whole.now.body.ref_ptr; now = [] })
    (then_passes c.loop-first.invariant c.loop-first-test.ensures.passes)
    (none_after c.args.program.now c.args.frame.now
    c.args.whole.now.body.now c.done_one_by-count.result c.if-count-whole.false c.done_one_by-count.ensures.passes)
    refl)
    (unchanged c.if-not-is_next_done_by.ensures)

pub loop-first-preserved : goal.loop-first-preserved
loop-first-preserved c = round_done c.args.program.now c.args.frame.now c.args.whole.now
    (then_passes c.loop-first.invariant c.loop-first-test.ensures.passes)
    (none_after c.args.program.now c.args.frame.now
    c.args.whole.now.body.now c.done_one_by-count.result c.if-count-whole.false c.done_one_by-count.ensures.passes)
    c.if-not-is_next_done_by.ensures
