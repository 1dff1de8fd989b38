use Rattle.sc_tags.specs.Prelude.{all_tagged, tag_at}
use Rattle.std.proofs.Common.{true, ◌≡◌}
use Rattle.sc_tags.proofs.owner.all_tagged.Given as goal

abbrev pub invariant-loop-place : goal.invariant-loop-place
invariant-loop-place l = all_tagged (tag_at l.image l.ranges) l.wanted l.address l.place ≡ true
