use Rattle.sc_machine.proofs.Words.{looked_inside, looked_into}
use Rattle.sc_machine.proofs.here.Here.are_in_zone.Goals as goal

pub returns-then-offset-lt-ZONE : goal.returns-then-offset-lt-ZONE
returns-then-offset-lt-ZONE c =
    rw (← c.self.view_is) (looked_into c.self.invariant.1 c.args.offset c.args.size c.requires.some c.requires.few
    (rw (← c.self.view_is) at c.requires.heap) (rw (← c.self.view_is) at c.requires.beyond) c.if-offset-lt-ZONE.true)

pub returns : goal.returns
returns c =
    rw (← c.self.view_is) (looked_inside c.self.invariant.1 c.args.offset c.args.size c.requires.some c.requires.few
    (rw (← c.self.view_is) at c.requires.heap) (rw (← c.self.view_is) at c.requires.beyond) c.if-offset-lt-ZONE.false)
