-- A row of blocks, by what is found at each number.
use Rattle.sc_blocks.proofs.Common.{AreApart, Block, IsOver, List, None, Option, Slot, Some, [], allocated_or_ended}
use Rattle.sc_blocks.proofs.Common.{ap, arith, block_at, cleared, ended_block, false, given_back, inl, inr, laid_out}
use Rattle.sc_blocks.proofs.Common.{leb-false, leb-true, length, nat_le, refl, slice_get, slice_set, slot_among}
use Rattle.sc_blocks.proofs.Common.{suc, sym, true, variable_or, zero, Bool, ℕ, ◌++◌, ◌+◌, ◌<◌, ◌∙◌, ◌∷◌, ◌≡◌, ◌≤◌}
use Rattle.std.proofs.lemmas.Option.{slice_get_past}
use Rattle.std.specs.Prelude.{map}
use Rattle.std.proofs.lemmas.List.{map-set}
use Rattle.sc_core.specs.Prelude.{over}

abbrev Found : Type 0
Found = ℕ → Block

pub length_laid : (f : Found) (count from : ℕ) → length (laid_out f count from) ≡ count
length_laid f zero from = refl
length_laid f (suc count) from = ap suc (length_laid f count _)

get_laid : (f : Found) (count from at n : ℕ) → at < count → n ≡ from + at →
    slice_get (laid_out f count from) at ≡ Some (f n)
get_laid f zero from at n h is = absurd (omega (arith, h))
get_laid f (suc count) from zero n h is =
    let here : from ≡ n = omega (arith, is) in ap (λ m. Some (f m)) here
get_laid f (suc count) from (suc at) n h is = get_laid f count _ at n (omega (arith, h)) (omega (arith, is))

pub lives_at : (f : Found) (made n : ℕ) (block : Block) → n < made → f n ≡ block →
    slice_get (laid_out f made 0) n ≡ Some block
lives_at f made n block h is = get_laid f made 0 n n h (omega arith) ∙ ap Some is

pub over_at : (f : Found) (made n : ℕ) → f n ≡ ended_block → IsOver (slice_get (laid_out f made 0) n)
over_at f made n is = by_test (nat_le made n) refl where
  by_test : (b : Bool) → nat_le made n ≡ b → IsOver (slice_get (laid_out f made 0) n)
  by_test true past =
      let over : length (laid_out f made 0) ≤ n = omega (arith, length_laid f made 0, leb-true made n past) in
      inl (slice_get_past (laid_out f made 0) n over)
  by_test false within = inr (lives_at f made n ended_block (leb-false made n within) is)

-- the same is found at each of these numbers
same_laid : (f g : Found) (count from : ℕ) → ((n : ℕ) → from ≤ n → n < from + count → f n ≡ g n) →
    laid_out f count from ≡ laid_out g count from
same_laid f g zero from same = refl
same_laid f g (suc count) from same = (λ i. same from (omega arith) (omega arith) i ∷ same_laid f g count
    (suc from) (λ n low high. same n (omega (arith, low)) (omega (arith, high))) i)

-- one block more
pub push_laid : (f g : Found) (count from at : ℕ) (block : Block) → at ≡ from + count → f at ≡ block →
    ((n : ℕ) → n < at → f n ≡ g n) → laid_out f (suc count) from ≡ laid_out g count from ++ block ∷ []
push_laid f g zero from at block is new same =
    let here : from ≡ at = omega (arith, is) in ap (λ m. f m ∷ []) here ∙ ap (λ b. b ∷ []) new
push_laid f g (suc count) from at block is new same = (λ i. same from (omega (arith, is)) i ∷ push_laid f g
    count (suc from) at block (omega (arith, is)) new same i)

-- another block at a number
pub set_laid : (f g : Found) (count from at n : ℕ) (block : Block) → n ≡ from + at → at < count → g n ≡ block →
    ((m : ℕ) → (m ≡ n → ⊥) → g m ≡ f m) → slice_set (laid_out f count from) at block ≡ laid_out g count from
set_laid f g zero from at n block is h new same = absurd (omega (arith, h))
set_laid f g (suc count) from zero n block is h new same =
    let here : n ≡ from = omega (arith, is) in
    (λ i. (sym new ∙ ap g here) i ∷
    same_laid f g count (suc from) (λ m low high. sym (same m (λ e. absurd (omega (arith, e, low, here))))) i)
set_laid f g (suc count) from (suc at) n block is h new same =
    (λ i. sym (same from (λ e. absurd (omega (arith, e, is)))) i ∷
    set_laid f g count (suc from) at n block (omega (arith, is)) (omega (arith, h)) new same i)

-- what is found keeps its cells exactly while it lives
abbrev pub AreGiven : Found → Type 0
AreGiven f = (n : ℕ) → given_back (f n) ≡ f n

pub given_at : (slots heap : List Slot) → AreGiven (block_at slots heap)
given_at slots heap n = by (slot_among slots n) (slot_among heap n) where
  by : (a b : Option Slot) →
      given_back (variable_or a (allocated_or_ended b)) ≡ variable_or a (allocated_or_ended b)
  by (Some slot) b = refl
  by None (Some slot) = refl
  by None None = refl

-- blocks that end
pub cleared_laid : (f g : Found) (made first count from low : ℕ) → low ≡ from + first → AreGiven f →
    ((n : ℕ) → from ≤ n → n < from + made → low ≤ n → n < low + count → g n ≡ ended_block) →
    ((n : ℕ) → from ≤ n → n < from + made → n < low → g n ≡ f n) →
    ((n : ℕ) → from ≤ n → n < from + made → low + count ≤ n → g n ≡ f n) →
    cleared first count (laid_out f made from) ≡ laid_out g made from
cleared_laid f g zero zero zero from low is given inside below above = refl
cleared_laid f g zero _ _ from low is given inside below above = refl
cleared_laid f g (suc made) zero zero from low is given inside below above = (λ i.
    (given from ∙ sym (above from (omega arith) (omega arith) (omega (arith, is)))) i ∷ cleared_laid f
    g made zero zero (suc from) (suc low) (omega (arith, is)) given (λ n a b c d. absurd (omega (arith, c, d)))
    (λ n a b c. absurd (omega (arith, a, c, is)))
    (λ n a b c. above n (omega (arith, a)) (omega (arith, b)) (omega (arith, c))) i)
cleared_laid f g (suc made) zero (suc count) from low is given inside below above =
    (λ i. sym (inside from (omega arith) (omega arith) (omega (arith, is)) (omega (arith, is))) i ∷
    cleared_laid f g made zero count (suc from) (suc low) (omega (arith, is)) given
    (λ n a b c d. inside n (omega (arith, a)) (omega (arith, b)) (omega (arith, c)) (omega (arith, d)))
    (λ n a b c. absurd (omega (arith, a, c, is)))
    (λ n a b c. above n (omega (arith, a)) (omega (arith, b)) (omega (arith, c))) i)
cleared_laid f g (suc made) (suc first) count from low is given inside below above =
    (λ i. (given from ∙ sym (below from (omega arith) (omega arith) (omega (arith, is)))) i ∷
    cleared_laid f g made first count (suc from) low (omega (arith, is)) given
    (λ n a b c d. inside n (omega (arith, a)) (omega (arith, b)) c d)
    (λ n a b c. below n (omega (arith, a)) (omega (arith, b)) c)
    (λ n a b c. above n (omega (arith, a)) (omega (arith, b)) c) i)

given_all : (f : Found) (made from : ℕ) → AreGiven f → map given_back (laid_out f made from) ≡ laid_out f made from
given_all f zero from given = refl
given_all f (suc made) from given = (λ i. given from i ∷ given_all f made (suc from) given i)

-- a block that is freed
pub freed_laid : (f g : Found) (made n : ℕ) (block : Block) → n < made → AreGiven f → g n ≡ ended_block →
    ((m : ℕ) → (m ≡ n → ⊥) → g m ≡ f m) →
    map given_back (slice_set (laid_out f made 0) n (over block)) ≡ laid_out g made 0
freed_laid f g made n block h given new same =
    map-set given_back (laid_out f made 0) n (over block) ∙
    ap (λ blocks. slice_set blocks n ended_block) (given_all f made 0 given) ∙
    set_laid f g made 0 n n ended_block (omega arith) h new same
