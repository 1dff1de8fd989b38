-- Blocks that are laid.
use Rattle.sc_zone.proofs.Common.{AreLaid, List, Span, [], ap, arith, false, list_all, misses, refl, true, zone_words}
use Rattle.sc_zone.proofs.Common.{ℕ, ◌&&◌, ◌+◌, ◌<◌, ◌∙◌, ◌∷◌, ◌≡◌, ◌≤◌}

-- One block.

pub ends_before : (words q : ℕ) (s : Span) → s.place + s.words ≤ q → misses words q s ≡ true
ends_before words q s h = grind (arith, h)

pub begins_after : (words q : ℕ) (s : Span) → q + words ≤ s.place → misses words q s ≡ true
begins_after words q s h = grind (arith, h)

pub meets : (words q : ℕ) (s : Span) → s.place < q + words → q < s.place + s.words → misses words q s ≡ false
meets words q s h k = grind (arith, h, k)

-- More of them.

pub laid_to : (spans : List Span) (from : ℕ) → AreLaid from spans → from ≤ zone_words
laid_to [] from laid = laid
laid_to (s ∷ spans) from laid = omega (arith, laid.0, laid_to spans (s.place + s.words) laid.2)

pub laid_from : (spans : List Span) (from low : ℕ) → low ≤ from → AreLaid from spans → AreLaid low spans
laid_from [] from low h laid = omega (arith, h, laid)
laid_from (s ∷ spans) from low h laid = (omega (arith, h, laid.0), laid.1, laid.2)

pub clear : (spans : List Span) (from words place : ℕ) → AreLaid from spans → place + words ≤ from →
    list_all (misses words place) spans ≡ true
clear [] from words place laid h = refl
clear (s ∷ spans) from words place laid h =
    ap (λ b. b && list_all (misses words place) spans) (begins_after words place s (omega (arith, h, laid.0))) ∙
    clear spans (s.place + s.words) words place laid.2 (omega (arith, h, laid.0))
