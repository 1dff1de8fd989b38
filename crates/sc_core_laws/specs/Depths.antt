-- The stack depth of a compartment: the bytes that its open frames take.
use Rattle.sc_core_laws.specs.Common.{Closed, Event, FrameChange, Opened, State, is_end}
use Rattle.std.specs.List.{list_any}
use Rattle.std.specs.Prelude.{Bool, not, ℕ, ◌+◌, ◌-◌, ◌<◌, ◌≤◌, ◌==◌, if◌then◌else◌, List, [], ◌∷◌}

-- the compartment's stack depth after these changes, where it is `depth` before them
abbrev pub depth_after : ℕ → ℕ → List FrameChange → ℕ
depth_after comp depth [] = depth
depth_after comp depth (Opened emitted c more ∷ changes) =
    if c == comp then depth_after comp (depth + more) changes else depth_after comp depth changes
depth_after comp depth (Closed emitted c less ∷ changes) =
    if c == comp then depth_after comp (depth - less) changes else depth_after comp depth changes

-- the stack depth in a state
abbrev pub stack_depth : ℕ → State → ℕ
stack_depth comp s = depth_after comp 0 s.frames

-- each change was made when the trace had fewer than `events` events
abbrev pub AllBefore : ℕ → List FrameChange → Type 0
AllBefore events [] = Unit {0}
AllBefore events (Opened emitted c more ∷ changes) = (emitted < events) × AllBefore events changes
AllBefore events (Closed emitted c less ∷ changes) = (emitted < events) × AllBefore events changes

-- each change was made when the trace had at least `events` events
abbrev pub AllFrom : ℕ → List FrameChange → Type 0
AllFrom events [] = Unit {0}
AllFrom events (Opened emitted c more ∷ changes) = (events ≤ emitted) × AllFrom events changes
AllFrom events (Closed emitted c less ∷ changes) = (events ≤ emitted) × AllFrom events changes

-- none of these events is the end of the run
abbrev pub has_no_end : List Event → Bool
has_no_end trace = not (list_any is_end trace)
