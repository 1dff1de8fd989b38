-- Helping: what is done at once, and leaves nothing that waits.
use Rattle.sc_run.specs.Common.{Frame, Left, Loop, Next, Piece, ProgramTree, State, TypedStmt, follow, in_loop}
use Rattle.sc_run.specs.Common.{in_order, leave}
use Rattle.sc_run.specs.declared.work.Work.{Work}
use Rattle.std.specs.Prelude.{[], ◌∷◌, ◌++◌, ◌≡◌, ℕ, ◌≤◌, Bool, true, false, List, drop, length, Option, None, Some}
use Rattle.sc_run.specs.declared.work.Position.{Position}
use Rattle.sc_run.specs.Seen.{Seen, seen_of}
use Rattle.sc_run.specs.Resume.{block_acts, loop_acts, next_acts}

-- what is left to do, by the number of calls that may be open
abbrev pub Doing : Type 0
Doing = ℕ → State → Piece (Left (Unit {0}))

-- from each state of which the first is seen, the first does what the second does from one of which the other is seen
pub record Passes (before after : Seen) (p q : Doing) : Type 0 where
  pub passes : (n : ℕ) (s : State) → seen_of s ≡ before → (t : State) × (seen_of t ≡ after) × (p n s ≡ q n t)
  pub fewer : after.turns ≤ before.turns
  pub lengths : (comp : ℕ) → length (after.memory comp) ≤ length (before.memory comp)

-- that was done, or nothing
abbrev pub PassesIf : Bool → Seen → Seen → Doing → Doing → Type 0
PassesIf true before after p q = Passes before after p q
PassesIf false before after p q = after ≡ before

-- control reaches the end of statements
abbrev pub ended_so : Doing
ended_so n s = leave Next tt s

-- statements of a loop's body, and then the loop goes on
abbrev pub in_body : ProgramTree → Frame → Loop → List TypedStmt → Doing
in_body program f l stmts n s =
    follow in_loop (block_acts program n f stmts tt s)
    (λ a s. follow in_loop (next_acts program n f l a s) (loop_acts program n f l))

-- what is left of statements, at a place in them or after the last one
abbrev pub left_at : ProgramTree → Frame → List TypedStmt → Option Position → Doing
left_at program f stmts None n s = leave Next tt s
left_at program f stmts (Some at) n s =
    follow in_order (block_acts program n f at.part.now tt s) (block_acts program n f (drop at.count stmts))

-- a loop stands before a round, or at a place in its body
abbrev pub in_round : ProgramTree → Frame → Loop → Option Position → Doing
in_round program f l None n s = loop_acts program n f l tt s
in_round program f l (Some at) n s =
    follow in_loop (left_at program f l.body.now (Some at) n s)
    (λ a s. follow in_loop (next_acts program n f l a s) (loop_acts program n f l))

-- this waits first
abbrev pub WaitsFirst : Work → List Work → Type 0
WaitsFirst w work = (earlier : List Work) × (work ≡ earlier ++ w ∷ [])
