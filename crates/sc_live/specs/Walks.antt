-- Helping: what is known on the way back through a function's code.
use Rattle.sc_tac.specs.Prelude.{Lives, Point, TempSet, Trail, ahead_at, is_used, live_before, row_points, trail}
use Rattle.std.specs.Prelude.{List, None, Option, Some, false, if◌then◌else◌, length, map, slice_get, suc, ℕ, ◌++◌, ◌+◌}
use Rattle.std.specs.Prelude.{◌-◌, ◌<◌, ◌≡◌}
use Rattle.sc_tac.specs.declared.interval.Interval.{Interval}
use Rattle.sc_tac.specs.declared.stmt.TacStmt.{TacStmt}
use Rattle.sc_live.specs.declared.marks.Mark.{Mark}
use Rattle.sc_live.specs.declared.walk.Walk.{Walk}
use Rattle.sc_live.specs.Marks.{mark_of, marked, nearest_call, set_of}

-- the walk has passed these points, and knows of each of `temps` temporaries where it is used at them
pub record Holds (temps : ℕ) (walk : Walk) (points : List Point) : Type 0 where
  pub counted : walk.points ≡ length points
  pub call : walk.call ≡ nearest_call points
  pub marks : (t : ℕ) → t < temps → slice_get walk.marks t ≡ Some (mark_of t points)

-- it goes on over these points, which stand before those that it has passed; this is live at their start
pub record Walked (points : List Point) (set : TempSet) (before after : Walk) : Type 0 where
  pub live : set_of after.live ≡ set
  pub holds : (temps : ℕ) (following : List Point) → Holds temps before following →
      Holds temps after (points ++ following)

-- it goes on over one point, and what is used at it is taken to be used as far as an end, at least
pub record Passed (x : Point) (end : ℕ) (before after : Walk) : Type 0 where
  pub counted : after.points ≡ suc before.points
  pub call : after.call ≡ (if x.calls then Some before.points else before.call)
  pub live : after.live ≡ before.live
  pub marks : (t : ℕ) → slice_get after.marks t ≡
      marked before.points after.call end (is_used t x) (slice_get before.marks t)

abbrev pub lives_at : List ℕ → List ℕ → List ℕ → Lives
lives_at following broken continued =
    record { following = set_of following; broken = set_of broken; continued = set_of continued }

-- what is live before a statement
abbrev pub live_first : Trail → Lives → TempSet
live_first trail lives t = (trail.reading t).first (ahead_at lives t)

-- over a statement, and over statements
abbrev pub WalkedOver : TacStmt → Lives → Walk → Walk → Type 0
WalkedOver stmt lives = Walked ((trail stmt).points lives) (live_first (trail stmt) lives)

abbrev pub WalkedAll : List TacStmt → Lives → Walk → Walk → Type 0
WalkedAll stmts lives = Walked (row_points (map trail stmts) lives) (live_before (map trail stmts) lives)

-- an interval from what is known among all points of a function
abbrev pub interval_at : ℕ → ℕ → Option Mark → Interval
interval_at t points None = record { temp = t; first = points + t; last = points + t; spans_call = false }
interval_at t points (Some mark) = record {
  temp = t;
  first = points - 1 - mark.first;
  last = points - 1 - mark.last;
  spans_call = mark.spans_call;
}
