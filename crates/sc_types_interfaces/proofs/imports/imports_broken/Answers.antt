use Rattle.sc_types_interfaces.proofs.Common.{ap, drop, imports_broken}
use Rattle.sc_types_interfaces.proofs.Steps.{imports_turn, reported_end, drop_past}
use Rattle.sc_types_interfaces.proofs.imports.imports_broken.Goals as goal

pub loop-line-preserved : goal.loop-line-preserved
loop-line-preserved c =
    let table = c.args.table.now in
    imports_turn c.args.tables.now c.args.importer table.functions table.protos c.loop-line.before c.add.new.self
    c.args.imports.now c.loop-line.line-index c.line-item.result c.import_fits.result
    c.loop-line.lines c.unless.new.self _ c.loop-line-test.true c.line-item.is c.import_fits.ensures c.unless.ensures
    c.in_ok-add.ensures c.loop-line.invariant

pub returns : goal.returns
returns c =
    let table = c.args.table.now in
    reported_end c.loop-line.lines _ (imports_broken c.args.tables.now c.args.importer table.functions table.protos
    c.loop-line.before (drop c.loop-line.line-index c.args.imports.now))
    (ap (imports_broken c.args.tables.now c.args.importer table.functions table.protos c.loop-line.before)
    (drop_past c.args.imports.now c.loop-line.line-index c.loop-line-test.false)) c.loop-line.invariant
