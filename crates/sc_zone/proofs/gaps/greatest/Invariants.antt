-- The greatest number up to this place.
use Rattle.std.proofs.Common.{◌*◌, ◌+◌, ◌≤◌}
use Rattle.sc_zone.proofs.Widest.{IsGreatest}
use Rattle.sc_zone.proofs.gaps.greatest.Given as goal

abbrev pub invariant-loop-place : goal.invariant-loop-place
invariant-loop-place l = record {
  greatest : IsGreatest l.words (256 * l.chunk) l.place l.most;
  near : l.place ≤ 256 * l.chunk + 256;
}
