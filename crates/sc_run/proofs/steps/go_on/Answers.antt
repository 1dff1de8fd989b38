use Rattle.sc_run.proofs.Common.{refl}
use Rattle.sc_run.proofs.Ahead.{part_last, none_in, rest_only, rest_waits}
use Rattle.sc_run.proofs.steps.go_on.Goals as goal

pub returns-then-is_empty-2 : goal.returns-then-is_empty-2
returns-then-is_empty-2 c = part_last c.args.program.now c.args.run.now.frame c.args.stmts.now c.args.at refl
    c.is_empty-2.ensures c.if-is_empty-2.true

pub returns-then-is_empty : goal.returns-then-is_empty
returns-then-is_empty c = rest_only c.args.program.now c.args.run.now.frame c.args.stmts.now _ c.args.at refl
    (none_in c.args.at.part.now c.is_empty.ensures c.if-is_empty.true)

pub returns : goal.returns
returns c = rest_waits c.args.program.now c.args.run.now.frame c.args.stmts.now _ c.args.at refl
    c.in_ok-push.ensures.items
