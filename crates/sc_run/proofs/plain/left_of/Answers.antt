use Rattle.sc_run.proofs.Ahead.{part_left, rest_at}
use Rattle.sc_run.proofs.Common.{ap, arith}
use Rattle.sc_run.proofs.Weighing.{block_split, some_nodes}
use Rattle.sc_run.specs.Weights.{block_nodes}
use Rattle.sc_run.proofs.plain.left_of.Goals as goal

pub returns-clause-passes : goal.returns-clause-passes
returns-clause-passes c = part_left c.args.program.now c.args.frame.now c.args.stmt.now c.in_ok-part.part.now
    c.done_plainly-count.result c.if-is_done.ensures c.in_ok-part.ensures.passes c.done_plainly-count.ensures.passes

pub returns-then-is_done-clause-less : goal.returns-then-is_done-clause-less
returns-then-is_done-clause-less c = omega (arith, some_nodes c.args.stmt.now)

pub returns-clause-less : goal.returns-clause-less
returns-clause-less c = omega (
  arith,
  c.in_ok-part.ensures.less,
  block_split c.done_plainly-count.result c.in_ok-part.part.now,
  ap (λ xs. block_nodes xs) (rest_at c.done_plainly-count.result c.in_ok-part.part.now),
)
