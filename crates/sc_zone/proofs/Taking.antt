-- A block that is taken lies among the others, in the order of places.
use Rattle.sc_zone.proofs.Common.{List, Span, ap, if◌then◌else◌, le-ltb, lt-ltb, with_span, ◌<◌, ◌∷◌, ◌≡◌, ◌≤◌}

pub first_put : (x s : Span) (spans : List Span) → x.place < s.place → with_span x (s ∷ spans) ≡ x ∷ s ∷ spans
first_put x s spans h = ap (λ t. if t then x ∷ s ∷ spans else s ∷ with_span x spans) (lt-ltb x.place s.place h)

pub later_put : (x s : Span) (spans : List Span) → s.place ≤ x.place → with_span x (s ∷ spans) ≡ s ∷ with_span x spans
later_put x s spans h = ap (λ t. if t then x ∷ s ∷ spans else s ∷ with_span x spans) (le-ltb x.place s.place h)
