use Rattle.sc_machine.proofs.Common.{arith, sym}
use Rattle.sc_machine.proofs.Callees.{callees_at}
use Rattle.sc_machine.proofs.program.Program.callees.Goals as goal

pub returns-in-Some : goal.returns-in-Some
returns-in-Some c =
    rw (c.as_slice.ensures, ← c.self.view_is)
    (callees_at c.self.inside.image c.self.inside.callees.items 0 c.args.comp c.args.comp c.in-Some.callees.now
    (omega arith) c.self.invariant
    (rw (c.deref.ensures.value, c.number.ensures.number) at (sym c.in-Some.ensures)))
