use Rattle.sc_types.proofs.Common.{arith}
use Rattle.sc_types.proofs.Noted.{few-structs, structs-noted, structs-done}
use Rattle.sc_types.proofs.lines.structs_lines.Goals as goal

pub loop-decl-preserved : goal.loop-decl-preserved
loop-decl-preserved c = record {
  noted = structs-noted c.args.sizes.now c.as_slice-decl-items.result.now c.loop-decl.decl-index c.decl-item.result
      c.loop-decl.number _ _ c.loop-decl.lines _ _ c.loop-decl-test.true c.decl-item.is c.loop-decl.invariant.noted
      c.struct_lines-number.ensures.number c.struct_lines-number.ensures.lines;
  few = omega (arith, few-structs c.decl-item.result, c.loop-decl.invariant.few, c.struct_lines-number.ensures.number);
}

pub returns : goal.returns
returns c = structs-done c.args.sizes.now c.as_slice-decl-items.result.now c.loop-decl.decl-index c.loop-decl.number _ _
    _ c.loop-decl-test.false c.loop-decl.invariant.noted
