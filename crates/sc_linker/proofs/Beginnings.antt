-- Where functions and globals begin.
use Rattle.sc_linker.proofs.Common.{All, All-append, All-cons, All-head, All-nil, All-tail, CodeTree, Fits}
use Rattle.sc_linker.proofs.Common.{IsCodeAddress, List, [], ap, arith, code_sizes, get_or, instructions, length, refl}
use Rattle.sc_linker.proofs.Common.{slice_index, starts, subst, suc, sym, take, take-step, take_all, total, zero, ℕ}
use Rattle.sc_linker.proofs.Common.{◌*◌, ◌+◌, ◌<◌, ◌∷◌, ◌≡◌, ◌≤◌}

-- one more passes
pub all_more : {X : Type 0} (P : X → Type 0) (xs : List X) (i : ℕ) (x : X) → i < length xs → x ≡ get_or xs i x →
    All P (take i xs) → P x → All P (take (i + 1) xs)
all_more P xs i x within item so_far here =
    subst (All P) (sym (take-step xs i x within item))
    (All-append P (take i xs) (x ∷ []) so_far (All-cons P x [] here (All-nil P)))

-- all pass
pub all_done : {X : Type 0} (P : X → Type 0) (xs : List X) (i : ℕ) → length xs ≤ i → All P (take i xs) → All P xs
all_done P xs i past so_far = subst (All P) (take_all i xs past) so_far

pub starts_length : (address : ℕ) (sizes : List ℕ) → length (starts address sizes) ≡ length sizes
starts_length address [] = refl
starts_length address (size ∷ sizes) = ap suc (starts_length (address + 4 * size) sizes)

-- each begins after those before it
pub starts_at : (address : ℕ) (sizes : List ℕ) (n : ℕ) → n < length sizes →
    slice_index (starts address sizes) n ≡ address + 4 * total (take n sizes)
starts_at address [] n within = absurd (omega arith)
starts_at address (size ∷ sizes) zero within = omega arith
starts_at address (size ∷ sizes) (suc n) within =
    let later : slice_index (starts (address + 4 * size) sizes) n ≡ address + 4 * size + 4 * total (take n sizes) =
    starts_at (address + 4 * size) sizes n (omega arith) in
    omega (arith, later)

abbrev IsSome : CodeTree → Type 0
IsSome code = 0 < length code.instrs

-- where codes begin there is an instruction
pub starts_in_code : (comp address : ℕ) (codes : List CodeTree) → Fits comp address (instructions codes) →
    All {X = CodeTree} (λ code. 0 < length code.instrs) codes →
    All (IsCodeAddress comp) (starts address (code_sizes codes))
starts_in_code comp address [] room some = All-nil (IsCodeAddress comp)
starts_in_code comp address (code ∷ codes) room some =
    let size = length code.instrs in
    let here : 0 < size = All-head IsSome code codes some in
    All-cons (IsCodeAddress comp) address (starts (address + 4 * size) (code_sizes codes))
    (record {
      least = room.least;
      greatest = omega (arith, here, room.greatest);
      whole = room.whole;
    })
    (starts_in_code comp (address + 4 * size) codes (record {
      least = omega (arith, room.least);
      greatest = omega (arith, room.greatest);
      word = omega (arith, room.word);
      whole = omega (arith, room.whole);
    }) (All-tail IsSome code codes some))
