use Rattle.sc_tags.specs.Prelude.{retagged}
use Rattle.std.proofs.Common.{fold, take, ◌≡◌}
use Rattle.sc_tags.proofs.owner.given_by.Given as goal

abbrev pub invariant-loop-range : goal.invariant-loop-range
invariant-loop-range l = l.tag ≡ fold (retagged l.at) l.fn.owner (take l.range-index l.ranges)
