use Rattle.sc_run.proofs.Common.{Some, [], refl, ap, arith, sym}
use Rattle.sc_run.proofs.Ahead.{after_body, body_done, no_part, passes_as, round_done, stays_so, then_passes}
use Rattle.sc_run.proofs.Ahead.{turns_fall, unchanged}
use Rattle.sc_run.specs.declared.work.Position.{Position}
use Rattle.sc_run.proofs.planned.done_rounds_by.Goals as goal

pub loop-machine-init : goal.loop-machine-init
loop-machine-init c = stays_so

pub loop-machine-smaller : goal.loop-machine-smaller
loop-machine-smaller c = turns_fall c.done_first.new.machine.turns c.is_next_done_by.new.machine.turns
    (c.loop-machine-test.ensures.taken refl) c.done_first.ensures.passes.fewer c.if-not-is_next_done_by.ensures.fewer

pub loop-machine-preserved : goal.loop-machine-preserved
loop-machine-preserved c = round_done c.args.program.now c.args.frame.now c.args.whole.now
    (then_passes c.loop-machine.invariant c.loop-machine-test.ensures.passes) c.in_default.ensures.passes
    c.if-not-is_next_done_by.ensures

pub returns-clause-passes : goal.returns-clause-passes
returns-clause-passes c = then_passes c.loop-machine.invariant (unchanged c.loop-machine-test.ensures.passes)

pub returns-in-Some-clause-passes : goal.returns-in-Some-clause-passes
returns-in-Some-clause-passes c = body_done c.args.program.now c.args.frame.now c.args.whole.now (Some c.in-Some.at)
    (then_passes c.loop-machine.invariant c.loop-machine-test.ensures.passes) c.in-Some.ensures.passes

pub returns-then-not-is_next_done_by-clause-passes : goal.returns-then-not-is_next_done_by-clause-passes
returns-then-not-is_next_done_by-clause-passes c =
    then_passes (after_body c.args.program.now c.args.frame.now c.args.whole.now
    (record { ref_ptr = c.args.whole.now.body.ref_ptr; now = [] })
    (then_passes c.loop-machine.invariant c.loop-machine-test.ensures.passes) c.in_default.ensures.passes refl)
    (unchanged c.if-not-is_next_done_by.ensures)

pub returns-in-Some-clause-taken : goal.returns-in-Some-clause-taken
returns-in-Some-clause-taken c = omega (
  arith,
  c.loop-machine.invariant.fewer,
  c.loop-machine-test.ensures.taken refl,
  c.in-Some.ensures.passes.fewer,
)

pub returns-then-not-is_next_done_by-clause-taken : goal.returns-then-not-is_next_done_by-clause-taken
returns-then-not-is_next_done_by-clause-taken c = omega (
  arith,
  c.loop-machine.invariant.fewer,
  c.loop-machine-test.ensures.taken refl,
  c.in_default.ensures.passes.fewer,
  ap (λ x. x.turns) c.if-not-is_next_done_by.ensures,
)

pub returns-then-not-is_next_done_by-clause-less : goal.returns-then-not-is_next_done_by-clause-less
returns-then-not-is_next_done_by-clause-less c = omega arith

pub returns-in-Some-clause-less : goal.returns-in-Some-clause-less
returns-in-Some-clause-less c = c.in-Some.ensures.less

pub returns-then-plan-clause-passes : goal.returns-then-plan-clause-passes
returns-then-plan-clause-passes c =
    let program = c.args.program.now in
    let f = c.args.frame.now in
    let l = c.args.whole.now in
    let at : Position = record { part = record { ref_ptr = l.body.ref_ptr; now = [] }; count = 0 } in
    body_done program f l (Some at) (then_passes c.loop-machine.invariant c.loop-machine-test.ensures.passes)
    (passes_as (λ n s. sym (no_part program f l.body.now at refl n s)) stays_so)

pub returns-then-plan-clause-taken : goal.returns-then-plan-clause-taken
returns-then-plan-clause-taken c =
    omega (arith, c.loop-machine.invariant.fewer, c.loop-machine-test.ensures.taken refl)

pub returns-then-plan-clause-less : goal.returns-then-plan-clause-less
returns-then-plan-clause-less c = omega arith
