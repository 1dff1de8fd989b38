use Rattle.sc_linker.proofs.Common.{All, CodeTree, arith, common_steps, length, subst, take_all, ◌<◌}
use Rattle.sc_linker.proofs.Beginnings.{all_more}
use Rattle.sc_linker.proofs.layout.function_starts.Goals as goal

pub loop-code-preserved : goal.loop-code-preserved
loop-code-preserved c = record {
  starts = grind (arith, common_steps);
  some = all_more {X = CodeTree} (λ code. 0 < length code.instrs) c.args.codes.now c.loop-code.code-index
      c.code-item.result c.loop-code-test.true c.code-item.is c.loop-code.invariant.some c.tree.ensures.rules.some;
  room = grind (arith, common_steps);
}

pub returns-clause-some : goal.returns-clause-some
returns-clause-some c =
    subst (All {X = CodeTree} (λ code. 0 < length code.instrs))
    (take_all c.loop-code.code-index c.args.codes.now (omega arith)) c.loop-code.invariant.some
