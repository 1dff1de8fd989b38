use Rattle.sc_types_interfaces.proofs.Common.{ap, drop, exports_broken}
use Rattle.sc_types_interfaces.proofs.Steps.{exports_turn, reported_end, drop_past}
use Rattle.sc_types_interfaces.proofs.exports.exports_broken.Goals as goal

pub loop-line-preserved : goal.loop-line-preserved
loop-line-preserved c =
    exports_turn c.args.functions.now c.loop-line.before c.add.new.self c.args.exports.now c.loop-line.line-index
    c.line-item.result c.export_fits.result
    c.loop-line.lines c.unless.new.self _ c.loop-line-test.true c.line-item.is c.export_fits.ensures c.unless.ensures
    c.in_ok-add.ensures c.loop-line.invariant

pub returns : goal.returns
returns c =
    reported_end c.loop-line.lines _ (exports_broken c.args.functions.now c.loop-line.before
    (drop c.loop-line.line-index c.args.exports.now))
    (ap (exports_broken c.args.functions.now c.loop-line.before)
    (drop_past c.args.exports.now c.loop-line.line-index c.loop-line-test.false)) c.loop-line.invariant
