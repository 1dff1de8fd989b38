-- Addresses of places of one block: a number of cells further or back, modulo 2 ^ 32, and how far apart.
use Rattle.sc_emit_hart.proofs.Common.{Bool, add_word, ap, ap₂, arith, bytes_of, cases_lt, div_word, false}
use Rattle.sc_emit_hart.proofs.Common.{if◌then◌else◌, inl, inr, int_div, int_lt, mul-add, mul-mod_second, mul_word}
use Rattle.sc_emit_hart.proofs.Common.{nat_lt, neg_ℤ, negsuc, number_of, pos, refl, signed_of, stepped_word, sub_word}
use Rattle.sc_emit_hart.proofs.Common.{subst, suc, sym, true, word_of, word_of-unsigned_sub, zero, ℕ, ℤ, ⊎_elim, ◌%◌}
use Rattle.sc_emit_hart.proofs.Common.{◌*ℤ◌, ◌*◌, ◌+ℤ◌, ◌+◌, ◌-ℤ◌, ◌-◌, ◌/◌, ◌<◌, ◌==◌, ◌^◌, ◌∙◌, ◌≡◌, ◌⊎◌}
use Rattle.std.proofs.lemmas.Int.{ints}
use Rattle.std.proofs.Math.Nat.{mul-div-mul_left}

-- k cells on from cell i of a block at x
cells_on : (x i k m : ℕ) → x + 4 * m < 2 ^ 32 → i + k ≡ m → (x + 4 * i + 4 * k % 2 ^ 32) % 2 ^ 32 ≡ x + 4 * m
cells_on x i k m h e = omega arith

cells_back : (x i k m : ℕ) → x + 4 * i < 2 ^ 32 → m + k ≡ i → sub_word (x + 4 * i) (4 * k % 2 ^ 32) ≡ x + 4 * m
cells_back x i k m h e =
    word_of-unsigned_sub (x + 4 * i) (4 * k % 2 ^ 32) h (omega arith) ∙
    (let sum : (x + 4 * i + (2 ^ 32 - 4 * k % 2 ^ 32)) % 2 ^ 32 ≡ x + 4 * m = omega arith in sum)

-- l cells back are as many on as l is short of a multiple of 2 ^ 32
cells_round_on : (x i k l c m : ℕ) → x + 4 * i < 2 ^ 32 → m + l ≡ i → k + l ≡ 2 ^ 32 * c →
    (x + 4 * i + 4 * k % 2 ^ 32) % 2 ^ 32 ≡ x + 4 * m
cells_round_on x i k l c m h e w = omega arith

cells_round_back : (x i k l c m : ℕ) → x + 4 * i < 2 ^ 32 → x + 4 * m < 2 ^ 32 → i + l ≡ m → k + l ≡ 2 ^ 32 * c →
    sub_word (x + 4 * i) (4 * k % 2 ^ 32) ≡ x + 4 * m
cells_round_back x i k l c m h g e w =
    word_of-unsigned_sub (x + 4 * i) (4 * k % 2 ^ 32) h (omega arith) ∙
    (let sum : (x + 4 * i + (2 ^ 32 - 4 * k % 2 ^ 32)) % 2 ^ 32 ≡ x + 4 * m = omega arith in sum)

-- an index as a whole number
abbrev IsNumber : ℤ → ℕ → Type 0
IsNumber z i = (z ≡ pos i) ⊎ ((n : ℕ) × (z ≡ negsuc n) × (i + suc n ≡ 2 ^ 32))

signed_number : (i : ℕ) (below : Bool) → nat_lt i (2 ^ 31) ≡ below → i < 2 ^ 32 → IsNumber (signed_of i) i
signed_number i true is h = inl (let same : signed_of i ≡ pos i = grind arith in same)
signed_number i false is h =
    inr (2 ^ 32 - 1 - i, (let same : signed_of i ≡ negsuc (2 ^ 32 - 1 - i) = grind arith in same), omega arith)

number : (unsigned : Bool) (i : ℕ) → i < 2 ^ 32 → IsNumber (number_of unsigned i) i
number true i h = inl refl
number false i h = signed_number i (nat_lt i (2 ^ 31)) refl h

-- elements of `cells` cells
product : (i cells : ℕ) → mul_word i (bytes_of cells) ≡ 4 * (cells * i) % 2 ^ 32
product i cells =
    mul-mod_second i (4 * cells) (2 ^ 32) ∙
    ap (λ n. n % 2 ^ 32) (let same : i * (4 * cells) ≡ 4 * (cells * i) = omega arith in same)

times_negative : (c n : ℕ) → pos c *ℤ negsuc n ≡ neg_ℤ (pos (c * suc n))
times_negative zero n = let none : 0 * suc n ≡ 0 = omega arith in rw none refl
times_negative (suc c) n = refl

round : (c i n : ℕ) → i + suc n ≡ 2 ^ 32 → c * i + c * suc n ≡ 2 ^ 32 * c
round c i n h =
    sym (mul-add c i (suc n)) ∙ ap (λ k. c * k) h ∙ (let turned : c * 2 ^ 32 ≡ 2 ^ 32 * c = omega arith in turned)

module _ (x i m cells index : ℕ) (from : x + 4 * i < 2 ^ 32) (to : x + 4 * m < 2 ^ 32) where
  on_by : (z : ℤ) → IsNumber z index → pos i +ℤ pos cells *ℤ z ≡ pos m →
      (x + 4 * i + 4 * (cells * index) % 2 ^ 32) % 2 ^ 32 ≡ x + 4 * m
  on_by z (inl is) sum =
      let whole : pos i +ℤ pos (cells * index) ≡ pos m = subst (λ z. pos i +ℤ pos cells *ℤ z ≡ pos m) is sum in
      cells_on x i (cells * index) m to (let e : i + cells * index ≡ m = omega (arith, ints, whole) in e)
  on_by z (inr (n, is, w)) sum =
      let k : ℕ = cells * suc n in
      let whole : pos i +ℤ neg_ℤ (pos (cells * suc n)) ≡ pos m =
      ap (λ z. pos i +ℤ z) (sym (times_negative cells n)) ∙
      subst (λ z. pos i +ℤ pos cells *ℤ z ≡ pos m) is sum in
      cells_round_on x i (cells * index) (cells * suc n) cells m from
      (let e : m + cells * suc n ≡ i = omega (arith, ints, whole) in e) (round cells index n w)

  back_by : (z : ℤ) → IsNumber z index → pos i +ℤ neg_ℤ (pos cells *ℤ z) ≡ pos m →
      sub_word (x + 4 * i) (4 * (cells * index) % 2 ^ 32) ≡ x + 4 * m
  back_by z (inl is) sum =
      let whole : pos i +ℤ neg_ℤ (pos (cells * index)) ≡ pos m =
      subst (λ z. pos i +ℤ neg_ℤ (pos cells *ℤ z) ≡ pos m) is sum in
      cells_back x i (cells * index) m from (let e : m + cells * index ≡ i = omega (arith, ints, whole) in e)
  back_by z (inr (n, is, w)) sum =
      let whole : pos i +ℤ neg_ℤ (neg_ℤ (pos (cells * suc n))) ≡ pos m =
      ap (λ z. pos i +ℤ neg_ℤ z) (sym (times_negative cells n)) ∙
      subst (λ z. pos i +ℤ neg_ℤ (pos cells *ℤ z) ≡ pos m) is sum in
      cells_round_back x i (cells * index) (cells * suc n) cells m from to
      (let e : i + cells * suc n ≡ m = omega (arith, ints, whole) in e) (round cells index n w)

  -- a number of elements on, and back
  pub elements_on : (unsigned : Bool) → index < 2 ^ 32 → pos i +ℤ pos cells *ℤ number_of unsigned index ≡ pos m →
      stepped_word false cells (x + 4 * i) index ≡ x + 4 * m
  elements_on unsigned h sum =
      ap (add_word (x + 4 * i)) (product index cells) ∙
      on_by (number_of unsigned index) (number unsigned index h) sum

  pub elements_back : (unsigned : Bool) → index < 2 ^ 32 →
      pos i +ℤ neg_ℤ (pos cells *ℤ number_of unsigned index) ≡ pos m →
      stepped_word true cells (x + 4 * i) index ≡ x + 4 * m
  elements_back unsigned h sum =
      ap (sub_word (x + 4 * i)) (product index cells) ∙
      back_by (number_of unsigned index) (number unsigned index h) sum

-- a member
pub member_on : (x i m offset : ℕ) → x + 4 * m < 2 ^ 32 → pos i +ℤ pos offset ≡ pos m →
    add_word (x + 4 * i) (bytes_of offset) ≡ x + 4 * m
member_on x i m offset to sum = cells_on x i offset m to (let e : i + offset ≡ m = omega (arith, ints, sum) in e)

-- quotients of signed words
divided : (a b : ℕ) (x y : ℤ) → 0 < b → signed_of a ≡ x → signed_of b ≡ y → div_word a b ≡ word_of (int_div x y)
divided a b x y h is its =
    let some : (b == 0) ≡ false = grind arith in
    ap (λ t. if t then 2 ^ 32 - 1 else word_of (int_div (signed_of a) (signed_of b))) some ∙
    ap₂ (λ x y. word_of (int_div x y)) is its

signed_small : (a : ℕ) → a < 2 ^ 31 → signed_of a ≡ pos a
signed_small a h = grind arith

signed_large : (e : ℕ) → 4 * e + 4 < 2 ^ 31 → signed_of (2 ^ 32 - (4 * e + 4)) ≡ negsuc (4 * e + 3)
signed_large e h = grind arith

words_cancel : (d c : ℕ) → int_div (pos (4 * d)) (pos (4 * c)) ≡ int_div (pos d) (pos c)
words_cancel d c = ap pos (mul-div-mul_left {m = 4} d c (omega arith))

words_cancel_below : (e c : ℕ) → int_div (negsuc (4 * e + 3)) (pos (4 * c)) ≡ int_div (negsuc e) (pos c)
words_cancel_below e c =
    let fours : suc (4 * e + 3) ≡ 4 * suc e = omega arith in
    ap neg_ℤ (ap pos (ap (λ n. n / (4 * c)) fours ∙ mul-div-mul_left {m = 4} (suc e) c (omega arith)))

module _ (x i j cells : ℕ) (first : x + 4 * i < 2 ^ 31) (second : x + 4 * j < 2 ^ 31) (some : 0 < cells)
    (few : cells < 2 ^ 29) where
  bytes_are : bytes_of cells ≡ 4 * cells
  bytes_are = omega arith

  following : (d : ℕ) → j + d ≡ i → div_word (sub_word (x + 4 * i) (x + 4 * j)) (4 * cells) ≡
      word_of (int_div (pos i -ℤ pos j) (pos cells))
  following d e =
      let apart : sub_word (x + 4 * i) (x + 4 * j) ≡ 4 * d =
      word_of-unsigned_sub (x + 4 * i) (x + 4 * j) (omega arith) (omega arith) ∙
      (let sum : (x + 4 * i + (2 ^ 32 - (x + 4 * j))) % 2 ^ 32 ≡ 4 * d = omega arith in sum) in
      let whole : pos d ≡ pos i -ℤ pos j = omega (arith, ints) in
      divided (sub_word (x + 4 * i) (x + 4 * j)) (4 * cells) (pos (4 * d)) (pos (4 * cells)) (omega arith)
      (ap signed_of apart ∙ signed_small (4 * d) (omega arith)) (signed_small (4 * cells) (omega arith)) ∙
      ap word_of (words_cancel d cells ∙ ap (λ z. int_div z (pos cells)) whole)

  before : (e : ℕ) → i + suc e ≡ j → div_word (sub_word (x + 4 * i) (x + 4 * j)) (4 * cells) ≡
      word_of (int_div (pos i -ℤ pos j) (pos cells))
  before d e =
      let apart : sub_word (x + 4 * i) (x + 4 * j) ≡ 2 ^ 32 - (4 * d + 4) =
      word_of-unsigned_sub (x + 4 * i) (x + 4 * j) (omega arith) (omega arith) ∙
      (let sum : (x + 4 * i + (2 ^ 32 - (x + 4 * j))) % 2 ^ 32 ≡ 2 ^ 32 - (4 * d + 4) = omega arith in sum) in
      let whole : negsuc d ≡ pos i -ℤ pos j = omega (arith, ints) in
      divided (sub_word (x + 4 * i) (x + 4 * j)) (4 * cells) (negsuc (4 * d + 3)) (pos (4 * cells)) (omega arith)
      (ap signed_of apart ∙ signed_large d (omega arith)) (signed_small (4 * cells) (omega arith)) ∙
      ap word_of (words_cancel_below d cells ∙ ap (λ z. int_div z (pos cells)) whole)

  -- how many elements lie between two places
  pub elements_between : div_word (sub_word (x + 4 * i) (x + 4 * j)) (bytes_of cells) ≡
      word_of (int_div (pos i -ℤ pos j) (pos cells))
  elements_between =
      ap (div_word (sub_word (x + 4 * i) (x + 4 * j))) bytes_are ∙
      ⊎_elim (λ l. before (j - suc i) (omega arith)) (λ l. following (i - j) (omega arith)) (cases_lt i j)

-- the order of two places, and whether they are one
pub order_of : (x i j : ℕ) → nat_lt (x + 4 * i) (x + 4 * j) ≡ int_lt (pos i -ℤ pos j) (pos 0)
order_of x i j = grind (arith, ints)

pub order_back : (x i j : ℕ) → nat_lt (x + 4 * j) (x + 4 * i) ≡ int_lt (pos 0) (pos i -ℤ pos j)
order_back x i j = grind (arith, ints)

pub same_of : (x i j : ℕ) → (x + 4 * i == x + 4 * j) ≡ (i == j)
same_of x i j = grind arith
