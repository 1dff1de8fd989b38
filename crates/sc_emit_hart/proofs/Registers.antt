-- The registers' list and their function.
use Rattle.sc_emit_hart.proofs.Common.{Registers, ap, ap₂, arith, eq-eqb, listed, look, ne_eqb, put, refl, set}
use Rattle.sc_emit_hart.proofs.Common.{slice_index, slice_set, suc, sym, words_from, written, zero, ℕ, ◌+◌, ◌<◌, ◌∙◌}
use Rattle.sc_emit_hart.proofs.Common.{◌∷◌, ◌≡◌, ◌≢◌}

read_from : (count first : ℕ) (regs : Registers) (i : ℕ) → i < count →
    slice_index (words_from count first regs) i ≡ regs (first + i)
read_from zero first regs i h = absurd (omega arith)
read_from (suc count) first regs zero h = ap regs (omega arith)
read_from (suc count) first regs (suc i) h = read_from count (suc first) regs i (omega arith) ∙ ap regs (omega arith)

pub put_here : {A : Type 0} (f : ℕ → A) (k : ℕ) (v : A) → put f k v k ≡ v
put_here f k v = rw (eq-eqb k k refl) refl

pub put_there : {A : Type 0} (f : ℕ → A) (k : ℕ) (v : A) (i : ℕ) → i ≢ k → put f k v i ≡ f i
put_there f k v i h = rw (ne_eqb i k h) refl

-- a part that the write doesn't reach
past : (count first : ℕ) (regs : Registers) (r v : ℕ) → r < first →
    words_from count first regs ≡ words_from count first (put regs r v)
past zero first regs r v h = refl
past (suc count) first regs r v h =
    ap₂ (λ x xs. x ∷ xs) (sym (put_there regs r v first (λ e. omega arith)))
    (past count (suc first) regs r v (omega arith))

write_from : (count first : ℕ) (regs : Registers) (i v : ℕ) → i < count →
    slice_set (words_from count first regs) i v ≡ words_from count first (put regs (first + i) v)
write_from zero first regs i v h = absurd (omega arith)
write_from (suc count) first regs zero v h =
    let here : first + 0 ≡ first = omega arith in
    rw here (ap₂ (λ x xs. x ∷ xs) (sym (put_here regs first v)) (past count (suc first) regs first v (omega arith)))
write_from (suc count) first regs (suc i) v h =
    let there : first + suc i ≡ suc first + i = omega arith in
    rw there (ap₂ (λ x xs. x ∷ xs) (sym (put_there regs (suc first + i) v first (λ e. omega arith)))
    (write_from count (suc first) regs i v (omega arith)))

pub read_listed : (regs : Registers) (r : ℕ) → r < 32 → slice_index (listed regs) r ≡ look regs r
read_listed regs zero h = refl
read_listed regs (suc r) h =
    let there : 1 + r ≡ suc r = omega arith in
    rw (ne_eqb (suc r) 0 (λ e. omega arith)) (read_from 31 1 regs r (omega arith) ∙ ap regs there)

pub write_listed : (regs : Registers) (r v : ℕ) → r < 32 → written (listed regs) r v ≡ listed (set regs r v)
write_listed regs zero v h = refl
write_listed regs (suc r) v h =
    let there : 1 + r ≡ suc r = omega arith in
    rw (ne_eqb (suc r) 0 (λ e. omega arith)) (ap (λ xs. 0 ∷ xs) (write_from 31 1 regs r v (omega arith) ∙
    ap (λ k. words_from 31 1 (put regs k v)) there))
