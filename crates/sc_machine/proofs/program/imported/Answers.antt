use Rattle.sc_machine.proofs.Common.{sym}
use Rattle.sc_machine.proofs.Callees.{imported}
use Rattle.sc_machine.proofs.program.imported.Goals as goal

pub returns : goal.returns
returns c =
    imported c.args.image.now c.args.caller c.args.import.now c.in_ok-comp.comp.now c.in_ok-export.export.now
    c.parts.ensures.well_formed c.requires
    (rw (c.parts.ensures.parts, c.number.ensures.number) at (sym c.in_ok-comp.ensures.value))
    (sym c.in_ok-export.ensures.value)
