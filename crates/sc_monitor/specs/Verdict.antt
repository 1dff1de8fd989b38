-- What a policy says of a trace: its automaton goes over the events, up to the first violation.
use Rattle.std.specs.Prelude.{ℕ, ◌+◌, Bool, ◌&&◌, ◌||◌, ◌==◌, nat_le, List, [], ◌∷◌, position, slice_get, Option}
use Rattle.std.specs.Prelude.{Some, None}
use Rattle.std.specs.Prelude.{option_and_then}
use Rattle.std.specs.List.{list_any}
use Rattle.sc_event.specs.Prelude.{is_listed, performer}
use Rattle.sc_event.specs.declared.event.Event.{Event}
use Rattle.sc_event.specs.declared.interface.Interfaces.{Interfaces}
use Rattle.sc_core.specs.declared.explanation.Explanation.{Explanation}
use Rattle.sc_core.specs.declared.explanation.Link.{Link}
use Rattle.sc_policy.specs.declared.policy.Policy.{Policy}
use Rattle.sc_policy.specs.declared.policy.Rule.{Rule}
use Rattle.sc_monitor.specs.Matching.{matches}
use Rattle.sc_monitor.specs.declared.judging.Move.{Move}
use Rattle.sc_monitor.specs.declared.judging.Move.TheVariants.{Goes, Breaks}
use Rattle.sc_monitor.specs.declared.verdict.Verdict.{Verdict}
use Rattle.sc_monitor.specs.declared.verdict.Verdict.TheVariants.{Holds, Violated}

-- the place of the rule that an event takes: the first one of the state whose pattern it matches
abbrev pub rule_for : List Rule → Interfaces → (state : ℕ) → Event → Option ℕ
rule_for rules interfaces state event =
    position (λ rule. rule.state == state && matches interfaces rule.pattern event) rules

-- where the rule at a place leads, if it leads somewhere
abbrev pub goal_of : List Rule → (place : ℕ) → Option ℕ
goal_of rules place = option_and_then (λ rule. rule.goal) (slice_get rules place)

-- a rule without a goal denies
abbrev pub by_goal : (rule : ℕ) → Option ℕ → Move
by_goal rule None = Breaks rule
by_goal rule (Some goal) = Goes goal

-- an event that takes no rule leaves the state
abbrev pub by_rule : List Rule → (state : ℕ) → Option ℕ → Move
by_rule rules state None = Goes state
by_rule rules state (Some place) = by_goal (place + 1) (goal_of rules place)

-- what an event does in a state
abbrev pub move_at : List Rule → Interfaces → (state : ℕ) → Event → Move
move_at rules interfaces state event = by_rule rules state (rule_for rules interfaces state event)

-- The compartment is given, or it was replaced after as many events or after fewer.
abbrev pub is_compromised : (given : List ℕ) → List Link → (comp after : ℕ) → Bool
is_compromised given links comp after =
    is_listed given comp || list_any (λ link. link.comp == comp && nat_le link.after after) links

abbrev pub after_move : Move → (goes : ℕ → Verdict) → (breaks : ℕ → Verdict) → Verdict
after_move (Goes state) goes breaks = goes state
after_move (Breaks rule) goes breaks = breaks rule

-- the verdict on the events that follow the first `after` ones, from this state on
abbrev pub verdict_from : List Rule → Interfaces → (given : List ℕ) → List Link → (after state : ℕ) → List Event →
    Verdict
verdict_from rules interfaces given links after state [] = Holds state
verdict_from rules interfaces given links after state (event ∷ later) =
    after_move (move_at rules interfaces state event)
    (λ next. verdict_from rules interfaces given links (after + 1) next later)
    (λ rule. Violated after (performer event) rule (is_compromised given links (performer event) after))

-- the automaton begins in the first state
abbrev pub verdict : Policy → Interfaces → Explanation → Verdict
verdict policy interfaces explanation =
    verdict_from policy.rules interfaces explanation.given explanation.links 0 0 explanation.trace
