-- Bytes that are cut at their newlines into lines.
use Rattle.sc_policy.proofs.Common.{Bor, List, [], ap, append_assoc, arith, cases_lt, cond, drop, drop-cons, drop-drop}
use Rattle.sc_policy.proofs.Common.{false, get_or, get_or-drop, get_or-take, length, length-drop, length-take, lines_of}
use Rattle.sc_policy.proofs.Common.{map, map-append, ne_eqb, onto_first, onto_line, refl, slice_range, suc, sym}
use Rattle.sc_policy.proofs.Common.{take-append-drop, take_all, words_of, zero, ℕ, ⊎_elim, ◌++◌, ◌+◌, ◌-◌, ◌<◌, ◌==◌}
use Rattle.sc_policy.proofs.Common.{◌∙◌, ◌∷◌, ◌≡◌, ◌≤◌}

-- the byte isn't there
pub record Lacks (byte : ℕ) (xs : List ℕ) : Type 0 where
  pub at : (k : ℕ) → k < length xs → get_or xs k 0 ≡ byte → ⊥

lacks_rest : (byte x : ℕ) (xs : List ℕ) → Lacks byte (x ∷ xs) → Lacks byte xs
lacks_rest byte x xs lacks = record { at = λ k within is. lacks.at (suc k) (omega arith) is }

other : (byte x : ℕ) (xs : List ℕ) → Lacks byte (x ∷ xs) → (x == byte) ≡ false
other byte x xs lacks = ne_eqb x byte (λ is. lacks.at zero (omega arith) is)

lines_none : (xs : List ℕ) → Lacks 10 xs → lines_of xs ≡ []
lines_none [] lacks = refl
lines_none (x ∷ xs) lacks =
    ap (λ b. cond b ([] ∷ lines_of xs) (onto_line x (lines_of xs))) (other 10 x xs lacks) ∙
    ap (onto_line x) (lines_none xs (lacks_rest 10 x xs lacks))

lines_at : (xs ys : List ℕ) → Lacks 10 xs → lines_of (xs ++ 10 ∷ ys) ≡ xs ∷ lines_of ys
lines_at [] ys lacks = refl
lines_at (x ∷ xs) ys lacks =
    ap (λ b. cond b ([] ∷ lines_of (xs ++ 10 ∷ ys)) (onto_line x (lines_of (xs ++ 10 ∷ ys)))) (other 10 x xs lacks) ∙
    ap (onto_line x) (lines_at xs ys (lacks_rest 10 x xs lacks))

-- a list is cut at an element
pub cut_at : (xs : List ℕ) (i j : ℕ) → i ≤ j → j < length xs →
    drop i xs ≡ slice_range xs i j ++ get_or xs j 0 ∷ drop (j + 1) xs
cut_at xs i j from within =
    let sum : i + (j - i) ≡ j = omega arith in
    let next : suc j ≡ j + 1 = omega arith in
    sym (take-append-drop (j - i) (drop i xs)) ∙ ap (λ rest. slice_range xs i j ++ rest)
    (drop-drop (j - i) i xs ∙ ap (λ k. drop k xs) sum ∙ drop-cons xs j 0 within ∙
    ap (λ k. get_or xs j 0 ∷ drop k xs) next)

-- none of the bytes between two places is this one
pub record LacksBetween (byte : ℕ) (xs : List ℕ) (i j : ℕ) : Type 0 where
  pub at : (k : ℕ) → i ≤ k → k < j → get_or xs k 0 ≡ byte → ⊥

lacks_range : (byte : ℕ) (xs : List ℕ) (i j : ℕ) → LacksBetween byte xs i j → Lacks byte (slice_range xs i j)
lacks_range byte xs i j between = record { at = at }
  where
    at : (k : ℕ) → k < length (slice_range xs i j) → get_or (slice_range xs i j) k 0 ≡ byte → ⊥
    at k within is =
        let below : k < j - i = omega (arith, within, length-take (j - i) (drop i xs)) in
        between.at (i + k) (omega arith) (omega (arith, below))
        (sym (get_or-take (j - i) (drop i xs) k 0 below ∙ get_or-drop i xs k 0) ∙ is)

pub next_line : (bytes : List ℕ) (at end : ℕ) → at ≤ end → end < length bytes → get_or bytes end 0 ≡ 10 →
    LacksBetween 10 bytes at end → lines_of (drop at bytes) ≡ slice_range bytes at end ∷ lines_of (drop (end + 1) bytes)
next_line bytes at end from within is between =
    ap lines_of (cut_at bytes at end from within) ∙
    ap (λ byte. lines_of (slice_range bytes at end ++ byte ∷ drop (end + 1) bytes)) is ∙
    lines_at (slice_range bytes at end) (drop (end + 1) bytes) (lacks_range 10 bytes at end between)

pub no_line : (bytes : List ℕ) (at end : ℕ) → length bytes ≤ end → LacksBetween 10 bytes at end →
    lines_of (drop at bytes) ≡ []
no_line bytes at end past between = lines_none (drop at bytes) (record {
  at = λ k within is. between.at (at + k) (omega arith)
      (omega (arith, within, past, length-drop at bytes)) (sym (get_or-drop at bytes k 0) ∙ is);
})
