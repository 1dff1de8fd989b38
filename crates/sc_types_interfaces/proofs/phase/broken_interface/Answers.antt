use Rattle.sc_types_interfaces.proofs.Common.{◌∙◌}
use Rattle.sc_types_interfaces.proofs.Reporting.{sections_turn, sections_end}
use Rattle.sc_types_interfaces.proofs.phase.broken_interface.Goals as goal

pub loop-number-preserved : goal.loop-number-preserved
loop-number-preserved c =
    sections_turn c.args.sections.now c.as_slice-tables.result.now c.loop-number.number c.loop-number.mains
    c.main_found-mains.result c.loop-number.before c.add.new.self
    c.index-sections-number.result c.index-tables-number.result c.loop-number.least c.in_ok-least.least _ _
    c.loop-number-test.true c.index-sections-number.is
    (c.as_slice-tables.ensures ∙ c.in_ok-tables.ensures) c.index-tables-number.is c.in_ok-least.ensures
    c.main_found-mains.ensures c.in_ok-add.ensures c.loop-number.invariant

pub returns : goal.returns
returns c =
    sections_end c.args.sections.now c.as_slice-tables.result.now c.loop-number.number c.loop-number.mains
    c.loop-number.before c.loop-number.least c.with_main.result
    c.loop-number-test.false (c.as_slice-tables.ensures ∙
    c.in_ok-tables.ensures) c.with_main.ensures c.loop-number.invariant
