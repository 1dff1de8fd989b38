use Rattle.sc_linker.proofs.Common.{IsTrue, Proto, arith, common_steps, is_name}
use Rattle.sc_linker.proofs.Beginnings.{all_done, all_more}
use Rattle.sc_linker.proofs.comp.export_parts.Goals as goal

pub loop-proto-preserved : goal.loop-proto-preserved
loop-proto-preserved c = record {
  number = omega arith;
  named = all_more (λ (proto : Proto). IsTrue (is_name proto.name)) c.args.exports.now c.loop-proto.proto-index
      c.proto-item.result c.loop-proto-test.true c.proto-item.is c.loop-proto.invariant.named c.named.ensures.named;
  parts = grind (arith, common_steps);
}

pub returns-clause-named : goal.returns-clause-named
returns-clause-named c =
    all_done (λ (proto : Proto). IsTrue (is_name proto.name)) c.args.exports.now c.loop-proto.proto-index
    c.loop-proto-test.false c.loop-proto.invariant.named
