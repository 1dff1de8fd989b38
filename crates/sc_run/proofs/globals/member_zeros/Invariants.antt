use Rattle.sc_run.proofs.Common.{member_zeros, take, ◌≡◌}
use Rattle.sc_run.proofs.globals.member_zeros.Given as goal

abbrev pub invariant-loop-member : goal.invariant-loop-member
invariant-loop-member l = l.all ≡ member_zeros l.zeros (take l.member-index l.members)
