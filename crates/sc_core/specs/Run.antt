-- A run that is stopped at a number of events.
use Rattle.std.specs.Prelude.{ℕ, Bool, nat_lt, nat_le, length, take, if◌then◌else◌}
use Rattle.sc_core.specs.declared.run.RunEnd.{RunEnd}
use Rattle.sc_core.specs.declared.run.RunEnd.TheVariants.{Ended, EventsOut}
use Rattle.sc_core.specs.declared.run.SourceRun.{SourceRun}

-- whether a run has `events` events, and the last of these isn't its `End`
abbrev pub reaches : ℕ → SourceRun → RunEnd → Bool
reaches events run Ended = nat_lt events (length run.trace)
reaches events run _ = nat_le events (length run.trace)

-- the run, stopped as soon as it has `events` events and the last isn't `End`
abbrev pub stopped_at : ℕ → SourceRun → SourceRun
stopped_at events run =
    if reaches events run run.end then record { trace = take events run.trace; end = EventsOut } else run
