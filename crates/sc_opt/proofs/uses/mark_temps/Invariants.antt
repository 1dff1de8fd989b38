use Rattle.std.proofs.Common.{slice_get, take, ℕ, ◌≡◌}
use Rattle.sc_opt.specs.Prelude.{marked, reads_some, source_at}
use Rattle.sc_opt.proofs.uses.mark_temps.Given as goal

abbrev pub invariant-loop-temp : goal.invariant-loop-temp
invariant-loop-temp l = (x : ℕ) →
    slice_get l.marks x
    ≡ marked (reads_some (source_at l.origins.sources) x (take l.temp-index l.temps)) (slice_get l.initial.marks x)
