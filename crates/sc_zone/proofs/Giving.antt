-- What is given back is the one block that starts at its place.
use Rattle.sc_zone.proofs.Common.{AreLaid, Bool, List, Span, [], arith, false, if◌then◌else◌, true, without_span, ℕ}
use Rattle.sc_zone.proofs.Common.{◌+◌, ◌==◌, ◌∷◌}
use Rattle.sc_zone.proofs.Laid.{laid_from}

pub laid_without : (spans : List Span) (from place : ℕ) → AreLaid from spans → AreLaid from (without_span place spans)
laid_without [] from place laid = laid
laid_without (s ∷ spans) from place laid =
    by (s.place == place) (laid_without spans (s.place + s.words) place laid.2) where
      by : (here : Bool) → AreLaid (s.place + s.words) (without_span place spans) →
          AreLaid from (if here then spans else s ∷ without_span place spans)
      by true rest = laid_from spans (s.place + s.words) from (omega (arith, laid.0)) laid.2
      by false rest = (laid.0, laid.1, rest)
