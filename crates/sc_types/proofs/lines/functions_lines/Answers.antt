use Rattle.sc_types.proofs.Common.{function_in, function_count_lines}
use Rattle.sc_types.proofs.Noted.{kind-noted, kind-done}
use Rattle.sc_types.proofs.lines.functions_lines.Goals as goal

pub loop-decl-preserved : goal.loop-decl-preserved
loop-decl-preserved c =
    kind-noted function_in (function_count_lines c.args.sizes.now) c.as_slice-decl-items.result.now
    c.loop-decl.decl-index
    c.decl-item.result _ c.loop-decl.lines _ _ c.loop-decl-test.true c.decl-item.is c.loop-decl.invariant
    c.if_function.ensures

pub returns : goal.returns
returns c = kind-done function_in (function_count_lines c.args.sizes.now) c.as_slice-decl-items.result.now
    c.loop-decl.decl-index _ _ _ c.loop-decl-test.false c.loop-decl.invariant
