-- Helping: rules by their places.
use Rattle.std.specs.Prelude.{ℕ, Bool, false, List, slice_get}
use Rattle.std.specs.Option.{option_map_or}
use Rattle.sc_event.specs.declared.event.Event.{Event}
use Rattle.sc_event.specs.declared.interface.Interfaces.{Interfaces}
use Rattle.sc_policy.specs.declared.policy.Rule.{Rule}
use Rattle.sc_monitor.specs.Matching.{matches}

-- an event matches the pattern of the rule at a place
abbrev pub matches_at : List Rule → Interfaces → Event → (place : ℕ) → Bool
matches_at rules interfaces event place =
    option_map_or (λ rule. matches interfaces rule.pattern event) (slice_get rules place) false
