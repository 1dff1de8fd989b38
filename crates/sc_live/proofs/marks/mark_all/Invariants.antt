use Rattle.sc_live.proofs.Common.{is_one, marked, slice_get, take, ℕ, ◌≡◌}
use Rattle.sc_live.proofs.marks.mark_all.Given as goal

abbrev pub invariant-loop-temp : goal.invariant-loop-temp
invariant-loop-temp l = (t : ℕ) →
    slice_get l.marks t
    ≡ marked l.here.at l.here.call l.here.end (is_one t (take l.temp-index l.temps)) (slice_get l.initial.marks t)
