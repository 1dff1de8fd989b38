-- What holds of each verdict.
use Rattle.std.specs.Prelude.{◌≡◌, ℕ, ◌+◌, false, List, take, slice_get, Some, None}
use Rattle.sc_event.specs.Prelude.{performer}
use Rattle.sc_event.specs.declared.event.Event.{Event}
use Rattle.sc_event.specs.declared.interface.Interfaces.{Interfaces}
use Rattle.sc_core.specs.declared.explanation.Link.{Link}
use Rattle.sc_policy.specs.declared.policy.Rule.{Rule}
use Rattle.sc_monitor.specs.Matching.{matches}
use Rattle.sc_monitor.specs.Verdict.{goal_of, rule_for, verdict_from}
use Rattle.sc_monitor.specs.declared.verdict.Verdict.TheVariants.{Holds}

-- no rule is for an event of the trace
pub record NamesNoEvent (rules : List Rule) (interfaces : Interfaces) (trace : List Event) : Type 0 where
  pub at : (place k : ℕ) (rule : Rule) (event : Event) → slice_get rules place ≡ Some rule →
      slice_get trace k ≡ Some event → matches interfaces rule.pattern event ≡ false

-- the event that follows the first `after` ones is a violation: its compartment commits it, the events before it lead
-- to a state without one, and the rule that it takes there is the one of this number and has no goal
pub record IsViolation (rules : List Rule) (interfaces : Interfaces) (given : List ℕ) (links : List Link)
    (trace : List Event) (after comp rule : ℕ) : Type 0 where
  pub event : Event
  pub at : slice_get trace after ≡ Some event
  pub by : performer event ≡ comp
  pub state : ℕ
  pub before : verdict_from rules interfaces given links 0 0 (take after trace) ≡ Holds state
  pub place : ℕ
  pub taken : rule_for rules interfaces state event ≡ Some place
  pub denies : goal_of rules place ≡ None
  pub counted : rule ≡ place + 1
