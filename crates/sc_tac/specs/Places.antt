-- The places of temporaries: registers and spill slots of the frame.
use Rattle.std.specs.Prelude.{◌≡◌, ◌<◌, ℕ, Bool, true, false, nat_lt, List, length, All, Some, slice_get, IsTrue}
use Rattle.std.specs.List.{list_all}
use Rattle.sc_tac.specs.declared.function.TacFnTree.{TacFnTree}
use Rattle.sc_tac.specs.declared.interval.Interval.{Interval}
use Rattle.sc_tac.specs.declared.place.Place.{Place}
use Rattle.sc_tac.specs.declared.place.Place.TheVariants.{Register, Slot}
use Rattle.sc_tac.specs.Functions.{IsFunction}
use Rattle.sc_tac.specs.Intervals.{Within, intervals_of}
use Rattle.sc_tac.specs.Points.{Point, function_points}

-- how many registers temporaries may lie in
abbrev pub register_count : ℕ
register_count = 18

-- a register, or one of `temps` spill slots
abbrev pub is_place : ℕ → Place → Bool
is_place temps (Register r) = nat_lt r register_count
is_place temps (Slot k) = nat_lt k temps

-- what places keep, one for each temporary
pub record ArePlaces (places : List Place) : Type 0 where
  pub known : IsTrue (list_all (is_place (length places)) places)

-- a temporary lies in a slot
abbrev pub InSlot : List Place → ℕ → Type 0
InSlot places t = (k : ℕ) × (slice_get places t ≡ Some (Slot k))

-- two temporaries lie in one place
abbrev pub Share : List Place → ℕ → ℕ → Type 0
Share places t u = (place : Place) × (slice_get places t ≡ Some place) × (slice_get places u ≡ Some place)

-- places for intervals: each has one, those that share a point have two, and one over a call is a slot
pub record IsAssignment (intervals : List Interval) (places : List Place) : Type 0 where
  pub each : length places ≡ length intervals
  pub apart : (t u at : ℕ) (x y : Interval) → slice_get intervals t ≡ Some x → slice_get intervals u ≡ Some y →
      Within x at → Within y at → Share places t u → t ≡ u
  pub over_calls : (t : ℕ) (x : Interval) → slice_get intervals t ≡ Some x → x.spans_call ≡ true → InSlot places t

-- at the beginning of an interval, a register belongs to another that lasts there
pub record IsTaken (intervals : List Interval) (places : List Place) (x : Interval) (r : ℕ) : Type 0 where
  pub by : ℕ
  pub other : Interval
  pub its : slice_get intervals by ≡ Some other
  pub lasts : Within other x.first
  pub place : slice_get places by ≡ Some (Register r)

-- slots are for intervals over calls, and for those at whose beginning each register is taken
pub record IsSparing (intervals : List Interval) (places : List Place) : Type 0 where
  pub full : (t : ℕ) (x : Interval) → slice_get intervals t ≡ Some x → x.spans_call ≡ false → InSlot places t →
      (r : ℕ) → r < register_count → IsTaken intervals places x r

-- places are clear at a point: what is assigned here lies apart from all else that is live, what is live from each
-- other, and what is live where a function is called in slots
pub record IsClear (places : List Place) (x : Point) : Type 0 where
  pub assigned : (d t : ℕ) → x.assigned ≡ Some d → x.live t ≡ true → Share places d t → d ≡ t
  pub live : (t u : ℕ) → x.live t ≡ true → x.live u ≡ true → Share places t u → t ≡ u
  pub over_calls : (t : ℕ) → x.calls ≡ true → x.live t ≡ true → InSlot places t

-- the law for the code of functions: places for the least intervals are clear at each point
abbrev pub PlacesAreClear : Type 0
PlacesAreClear = (f : TacFnTree) (places : List Place) → IsFunction f → IsAssignment (intervals_of f) places →
    All (IsClear places) (function_points f)
