use Rattle.sc_run.proofs.Common.{rolls-If, sym, ◌∙◌, ap, arith}
use Rattle.sc_run.proofs.Ahead.{chosen_part}
use Rattle.sc_run.proofs.Weighing.{nodes_are}
use Rattle.sc_run.specs.Weights.{block_nodes}
use Rattle.sc_core.specs.declared.stmt.TypedStmtKind.TheOpen as layer
use Rattle.sc_run.proofs.plain.chosen.Goals as goal

pub returns-then-is_true-clause-passes : goal.returns-then-is_true-clause-passes
returns-then-is_true-clause-passes c = rw c.as_slice.ensures (chosen_part c.args.program.now c.args.frame.now
    c.args.stmt.now
    c.get.result.now c.in-If.then_part c.in-If.else_part (rw c.get.ensures (c.in-If.is ∙ sym (rolls-If _ _ _)))
    c.in-Ok.ensures
    (sym c.is_true.ensures ∙ c.if-is_true.true))

pub returns-else-is_true-clause-passes : goal.returns-else-is_true-clause-passes
returns-else-is_true-clause-passes c = rw c.as_slice-in-Ok.ensures (chosen_part c.args.program.now c.args.frame.now
    c.args.stmt.now
    c.get.result.now c.in-If.then_part c.in-If.else_part (rw c.get.ensures (c.in-If.is ∙ sym (rolls-If _ _ _)))
    c.in-Ok.ensures
    (sym c.is_true.ensures ∙ c.if-is_true.false))

pub returns-then-is_true-clause-less : goal.returns-then-is_true-clause-less
returns-then-is_true-clause-less c = omega (
  arith,
  ap (λ xs. block_nodes xs) c.as_slice.ensures,
  nodes_are c.args.stmt.now (layer.If c.in-If.cond c.in-If.then_part c.in-If.else_part)
      (c.in-If.is ∙ sym (rolls-If _ _ _)),
)

pub returns-else-is_true-clause-less : goal.returns-else-is_true-clause-less
returns-else-is_true-clause-less c = omega (
  arith,
  ap (λ xs. block_nodes xs) c.as_slice-in-Ok.ensures,
  nodes_are c.args.stmt.now (layer.If c.in-If.cond c.in-If.then_part c.in-If.else_part)
      (c.in-If.is ∙ sym (rolls-If _ _ _)),
)
