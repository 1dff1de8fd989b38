use Rattle.sc_object.proofs.Common.{IsObject, arith, subst, sym}
use Rattle.sc_object.proofs.Cuts.{with_one_more}
use Rattle.sc_object.proofs.objects.Objects.push.Goals as goal

pub invariant_of-self-2 : goal.invariant_of-self-2
invariant_of-self-2 c =
    with_one_more c.self.inside.items c.push.new.self c.into_parts.result c.self.invariant
    (subst IsObject (sym c.into_parts.ensures.parts) c.into_parts.ensures.good)
    (omega (arith, c.if-len-from.false, c.from.ensures, c.len.ensures)) c.in_ok-push.ensures.ok
