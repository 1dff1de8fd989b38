use Rattle.sc_top.proofs.Common.{IsJoining, subst, sym}
use Rattle.sc_top.proofs.Objects.{why_not_joined}
use Rattle.sc_top.proofs.link.linked.Goals as goal

pub returns-in-Err-clause-cause : goal.returns-in-Err-clause-cause
returns-in-Err-clause-cause c =
    subst (IsJoining c.args.objects.now) (sym c.join_failure.ensures)
    (why_not_joined c.args.objects.now c.in-Err.fault c.in-Err.ensures.fault)
