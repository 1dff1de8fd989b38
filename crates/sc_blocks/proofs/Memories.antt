-- The memory of rows, as rows are made and change.
use Rattle.sc_blocks.proofs.Common.{Blocks, Bool, List, Memory, [], ap, arith, cleared, eqb-true, false, get_or}
use Rattle.sc_blocks.proofs.Common.{if◌then◌else◌, length, memory_of, refl, slice_index_or, slice_set, subst, suc, sym}
use Rattle.sc_blocks.proofs.Common.{true, with_blocks, zero, ℕ, ◌++◌, ◌<◌, ◌==◌, ◌∙◌, ◌∷◌, ◌≡◌, ◌≤◌}
use Rattle.std.specs.Prelude.{is_some, option_map}
use Rattle.sc_blocks.proofs.Common.{None, Option, Some}
use Rattle.std.proofs.lemmas.List.{get_or_default}
use Rattle.std.proofs.Math.Dec.{eqb-suc-zero, eqb-zero-suc, eqb-suc-suc}

row_of_more : (rows : List Blocks) (comp : ℕ) → slice_index_or (rows ++ [] ∷ []) comp [] ≡ slice_index_or rows comp []
row_of_more [] zero = refl
row_of_more (row ∷ rows) (suc comp) = row_of_more rows comp
row_of_more _ _ = refl

-- one more compartment has no blocks yet
pub memory_more : (rows : List Blocks) → memory_of (rows ++ [] ∷ []) ≡ memory_of rows
memory_more rows = λ i comp. row_of_more rows comp i

pub memory_more_by : (rows more : List Blocks) (row : Blocks) → row ≡ [] → more ≡ rows ++ row ∷ [] →
    memory_of more ≡ memory_of rows
memory_more_by rows more row none is = ap memory_of (is ∙ ap (λ r. rows ++ r ∷ []) none) ∙ memory_more rows

row_of_set : (rows : List Blocks) (comp : ℕ) (row : Blocks) (c : ℕ) → comp < length rows →
    slice_index_or (slice_set rows comp row) c [] ≡ (if c == comp then row else slice_index_or rows c [])
row_of_set [] comp row c h = absurd (omega arith)
row_of_set (r ∷ rows) zero row zero h = refl
row_of_set (r ∷ rows) zero row (suc c) h = ap (λ b. if b then row else slice_index_or rows c []) (sym (eqb-suc-zero c))
row_of_set (r ∷ rows) (suc comp) row zero h = ap (λ b. if b then row else r) (sym (eqb-zero-suc comp))
row_of_set (r ∷ rows) (suc comp) row (suc c) h = row_of_set rows comp row c (omega arith) ∙
    ap (λ b. if b then row else slice_index_or rows c []) (sym (eqb-suc-suc c comp))

pub memory_set : (rows : List Blocks) (comp : ℕ) (row : Blocks) → comp < length rows →
    memory_of (slice_set rows comp row) ≡ with_blocks comp row (memory_of rows)
memory_set rows comp row h = λ i c. row_of_set rows comp row c h i

-- a row, as it was looked up
pub row_is : (rows : List Blocks) (memory : Memory) (at comp : ℕ) (old : Blocks) → memory_of rows ≡ memory → at ≡ comp →
    comp < length rows → old ≡ get_or rows at old → old ≡ memory comp
row_is rows memory at comp old is same there looked = looked ∙ get_or_default rows at old []
    (subst (λ n. n < length rows) (sym same) there) ∙ ap (λ n. slice_index_or rows n []) same ∙ (λ i. is i comp)

-- what a change of one row makes of the memory
pub memory_changed : (rows : List Blocks) (memory : Memory) (at comp : ℕ) (old row : Blocks) (f : Blocks → Blocks) →
    memory_of rows ≡ memory → at ≡ comp → comp < length rows → old ≡ get_or rows at old → row ≡ f old →
    memory_of (slice_set rows at row) ≡ with_blocks comp (f (memory comp)) memory
memory_changed rows memory at comp old row f is same there looked gives =
    ap (λ n. memory_of (slice_set rows n row)) same ∙ memory_set rows comp row there
    ∙ (λ i. with_blocks comp ((gives ∙ ap f (row_is rows memory at comp old is same there looked)) i) (is i))

no_row : (rows : List Blocks) (comp : ℕ) → length rows ≤ comp → slice_index_or rows comp [] ≡ []
no_row [] comp h = refl
no_row (row ∷ rows) zero h = absurd (omega (arith, h))
no_row (row ∷ rows) (suc comp) h = no_row rows comp (omega (arith, h))

same_at : (memory : Memory) (comp c : ℕ) (b : Bool) → (c == comp) ≡ b → memory c ≡ (if b then memory comp else memory c)
same_at memory comp c true is = ap memory (eqb-true c comp is)
same_at memory comp c false is = refl

nothing_cleared : (first count : ℕ) → cleared first count [] ≡ []
nothing_cleared zero zero = refl
nothing_cleared _ _ = refl

-- a compartment without a row has no blocks that could end
pub none_end : (rows : List Blocks) (comp first count : ℕ) → length rows ≤ comp →
    memory_of rows ≡ with_blocks comp (cleared first count (memory_of rows comp)) (memory_of rows)
none_end rows comp first count h =
    (λ i c. same_at (memory_of rows) comp c _ refl i) ∙ ap (λ bs. with_blocks comp bs (memory_of rows))
    (no_row rows comp h ∙ sym (nothing_cleared first count) ∙ ap (cleared first count) (sym (no_row rows comp h)))

-- the number of a new block, where there is one
pub no_number : (number : ℕ) (place : Option ℕ) → is_some place ≡ false → None ≡ option_map (λ place. number) place
no_number number None none = refl
no_number number (Some place) none = cc none

pub a_number : (number made : ℕ) (place : Option ℕ) → number ≡ made → is_some place ≡ true →
    Some number ≡ option_map (λ place. made) place
a_number number made None same some = cc some
a_number number made (Some place) same some = ap Some same
