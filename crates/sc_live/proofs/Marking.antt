-- Marks of temporaries, point by point.
use Rattle.sc_live.proofs.Common.{Bool, Holds, List, Mark, None, Option, Passed, Point, Some, Walk, Walked, [], ap}
use Rattle.sc_live.proofs.Common.{arith, false, if◌then◌else◌, is_used, length, mark_from, mark_here, mark_of, mark_to}
use Rattle.sc_live.proofs.Common.{marked, min, nearest_call, refl, set_of, slice_get, suc, sym, true, ℕ, ◌<◌, ◌∙◌, ◌∷◌}
use Rattle.sc_live.proofs.Common.{◌≡◌, ◌≤◌}

-- the end of a mark, or this
abbrev pub last_or : ℕ → Option Mark → ℕ
last_or at None = at
last_or at (Some mark) = mark.last

pub here_last : (at : ℕ) (call : Option ℕ) (known : Option Mark) →
    mark_here at call known ≡ mark_from at call (last_or at known)
here_last at call None = refl
here_last at call (Some later) = refl

pub to_last : (at : ℕ) (call : Option ℕ) (end : ℕ) (known : Option Mark) →
    mark_to at call end known ≡ mark_from at call (min (last_or end known) end)
to_last at call end None = ap (mark_from at call) (grind arith)
to_last at call end (Some later) = refl

-- marks end among the points
pub ends_within : (t at : ℕ) (points : List Point) → length points ≤ at → last_or at (mark_of t points) ≤ at
ends_within t at [] h = omega arith
ends_within t at (x ∷ xs) h =
    elim (is_used t x) as (λ used. last_or at (if used then Some (mark_here (length xs) (nearest_call (x ∷ xs))
    (mark_of t xs)) else mark_of t xs) ≤ at) [
      | true ↦ rw (here_last (length xs) (nearest_call (x ∷ xs)) (mark_of t xs))
          (omega (arith, ends_within t (length xs) xs (omega arith)))
      | false ↦ ends_within t at xs (omega arith)
    ]

min_stays : (n at : ℕ) → n ≤ at → min n at ≡ n
min_stays n at h = omega (arith, h)

-- taken to be used as far as the point itself is as it should be
pub to_here : (t : ℕ) (call : Option ℕ) (points : List Point) →
    mark_to (length points) call (length points) (mark_of t points) ≡ mark_here (length points) call (mark_of t points)
to_here t call points =
    let at : ℕ = length points in
    to_last at call at (mark_of t points)
    ∙ ap (mark_from at call) (min_stays (last_or at (mark_of t points)) at (ends_within t at points (omega arith)))
    ∙ sym (here_last at call (mark_of t points))

module _ (x : Point) (before after : Walk) (h : Passed x before.points before after) where
  module _ (temps : ℕ) (following : List Point) (g : Holds temps before following) where
    call_is : after.call ≡ nearest_call (x ∷ following)
    call_is = h.call ∙ (λ i. if x.calls then Some (g.counted i) else g.call i)

    used_or_not : (t : ℕ) (used : Bool) (call : Option ℕ) →
        marked (length following) call (length following) used (Some (mark_of t following))
        ≡ Some (if used then Some (mark_here (length following) call (mark_of t following)) else mark_of t following)
    used_or_not t true call = ap (λ m. Some (Some m)) (to_here t call following)
    used_or_not t false call = refl

    mark_is : (t : ℕ) → t < temps → slice_get after.marks t ≡ Some (mark_of t (x ∷ following))
    mark_is t within =
        h.marks t
        ∙ (λ i. marked (g.counted i) (call_is i) (g.counted i) (is_used t x) (g.marks t within i))
        ∙ used_or_not t (is_used t x) (nearest_call (x ∷ following))

    held : Holds temps after (x ∷ following)
    held = record { counted = h.counted ∙ ap suc g.counted; call = call_is; marks = mark_is }

  pub passed : Walked (x ∷ []) (set_of before.live) before after
  passed = record { live = ap set_of h.live; holds = held }
