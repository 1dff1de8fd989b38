use Rattle.sc_linker.proofs.Common.{All, CodeTree, IsInstr, IsWhole, arith, common_steps, subst}
use Rattle.sc_linker.proofs.Beginnings.{all_done, all_more}
use Rattle.sc_linker.proofs.code.push_codes.Goals as goal

pub loop-code-preserved : goal.loop-code-preserved
loop-code-preserved c = record {
  room = grind (arith, common_steps);
  whole = all_more IsWhole c.args.codes.now c.loop-code.code-index c.code-item.result c.loop-code-test.true
      c.code-item.is c.loop-code.invariant.whole (record {
        rules = c.tree-code.ensures.rules;
        instrs = subst (λ (code : CodeTree). All IsInstr code.instrs) c.tree-code.ensures.tree
            c.in_ok-link_code.ensures.instrs;
      });
  words = grind (arith, common_steps);
}

pub returns-clause-whole : goal.returns-clause-whole
returns-clause-whole c =
    all_done IsWhole c.args.codes.now c.loop-code.code-index c.loop-code-test.false c.loop-code.invariant.whole
