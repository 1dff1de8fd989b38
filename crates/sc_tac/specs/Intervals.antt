-- The live intervals of temporaries: from the first point of a function's code at which one is used to the last.
use Rattle.std.specs.Prelude.{Bool, IsTrue, List, None, Option, Some, [], drop, if◌then◌else◌, length, map, slice_get}
use Rattle.std.specs.Prelude.{suc, take, ℕ, ◌+◌, ◌-◌, ◌||◌, ◌∷◌, ◌≡◌, ◌≤◌}
use Rattle.std.specs.List.{list_any, range_with_len}
use Rattle.std.specs.Option.{unwrap_or}
use Rattle.sc_tac.specs.declared.function.TacFnTree.{TacFnTree}
use Rattle.sc_tac.specs.declared.interval.Interval.{Interval}
use Rattle.sc_tac.specs.Flow.{is_one}
use Rattle.sc_tac.specs.Parts.{one_or_none}
use Rattle.sc_tac.specs.Points.{Point, function_points}

-- a temporary is used at a point where it is assigned or live
abbrev pub is_used : ℕ → Point → Bool
is_used t x = is_one t (one_or_none x.assigned) || x.live t

-- from one point to another, both by their numbers
pub record Span : Type 0 where
  pub first : ℕ
  pub last : ℕ

-- from this point on, to the end of a span that begins later
abbrev pub from_here : ℕ → Option Span → Span
from_here at None = record { first = at; last = at }
from_here at (Some later) = record later { first = at }

-- from the first of these points at which a temporary is used to the last, where the points are counted from a number
-- on
abbrev pub span_from : ℕ → ℕ → List Point → Option Span
span_from t at [] = None
span_from t at (x ∷ xs) =
    if is_used t x then Some (from_here at (span_from t (suc at) xs)) else span_from t (suc at) xs

-- a point behind the code that is of one temporary alone
abbrev pub point_behind : List Point → ℕ → Span
point_behind points t = let at = length points + t in record { first = at; last = at }

-- where a temporary is used; one that never is has a point behind the code
abbrev pub span_of : List Point → ℕ → Span
span_of points t = unwrap_or (span_from t 0 points) (point_behind points t)

-- a function is called at a point of a span
abbrev pub has_call : List Point → Span → Bool
has_call points span = list_any (λ x. x.calls) (take (suc span.last - span.first) (drop span.first points))

abbrev pub as_interval : ℕ → List Point → Span → Interval
as_interval t points span =
    record { temp = t; first = span.first; last = span.last; spans_call = has_call points span }

abbrev pub interval_of : List Point → ℕ → Interval
interval_of points t = as_interval t points (span_of points t)

-- the least intervals of a function's temporaries, in the order of their numbers
abbrev pub intervals_of : TacFnTree → List Interval
intervals_of f = map (interval_of (function_points f)) (range_with_len 0 f.temps)

-- what intervals keep: each of the temporaries below their number stands once, at its number, and none ends before it
-- begins
pub record AreIntervals (intervals : List Interval) : Type 0 where
  pub numbered : (at : ℕ) (x : Interval) → slice_get intervals at ≡ Some x → x.temp ≡ at
  pub ordered : (at : ℕ) (x : Interval) → slice_get intervals at ≡ Some x → x.first ≤ x.last

-- a point lies in an interval
pub record Within (x : Interval) (at : ℕ) : Type 0 where
  pub begun : x.first ≤ at
  pub lasts : at ≤ x.last

-- each point at which a temporary is assigned or live, as it is where it is read, lies in its interval
pub record AreCovering (points : List Point) (intervals : List Interval) : Type 0 where
  pub covers : (at t : ℕ) (x : Point) (own : Interval) → slice_get points at ≡ Some x → IsTrue (is_used t x) →
      slice_get intervals t ≡ Some own → Within own at
