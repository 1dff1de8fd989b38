use Rattle.sc_run.proofs.Common.{IfOk-weaker, arith, kept_by, refl}
use Rattle.sc_run.proofs.Ahead.{steps_after, none_in, rest_after}
use Rattle.sc_run.proofs.Looping.{steps_later, steps_weaken}
use Rattle.sc_run.proofs.Lasting.{number_left}
use Rattle.sc_run.proofs.Weighing.{not_empty, place_less, some_in_block}
use Rattle.sc_run.proofs.steps.run_list.Goals as goal

pub returns-in-None : goal.returns-in-None
returns-in-None c = steps_after c.in-None.ensures.passes (steps_later (omega arith) (λ n s. refl))

pub returns-then-is_empty : goal.returns-then-is_empty
returns-then-is_empty c = IfOk-weaker c.run_first.result _ _ (λ step h. rest_after c.args.program.now
    c.args.run.now.frame _ c.in-Some.at (none_in c.in-Some.at.part.now c.is_empty.ensures c.if-is_empty.true)
    c.in-Some.ensures.passes h) c.run_first.ensures

pub returns-else-is_empty : goal.returns-else-is_empty
returns-else-is_empty c = IfOk-weaker c.go_on.result _ _
    (λ step h. steps_after c.in-Some.ensures.passes (steps_weaken (place_less c.args.stmts.now c.in-Some.at
    c.in-Some.ensures.less (some_in_block c.in-Some.at.part.now (not_empty c.in-Some.at.part.now c.is_empty.ensures
    c.if-is_empty.false))) h)) c.go_on.ensures

pub run_first-requires : goal.run_first-requires
run_first-requires c = number_left (kept_by c.args.run.now.machine) (kept_by c.done_first.new.machine)
    c.in-Some.ensures.passes.fewer c.in-Some.ensures.passes.lengths c.requires
