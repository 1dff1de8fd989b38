-- How many blocks there are, after what changes them.
use Rattle.sc_run.proofs.Common.{Block, Blocks, Bool, Cause, Err, List, None, Ok, Option, OutOfBounds, Result, Some}
use Rattle.sc_run.proofs.Common.{Value, Word, [], ap, arith, bind, blocks_for, cleared, ended, false, given_back}
use Rattle.sc_run.proofs.Common.{if◌then◌else◌, length, length-append, length-map, living, nat_lt, slice_get, store}
use Rattle.sc_run.proofs.Common.{suc, sym, refl, true, with_cell, zero, ℕ, ◌==◌, ◌∙◌, ◌∷◌, ◌≡◌, ◌≤◌}
use Rattle.std.proofs.Common.{is_some, length-set, map, slice_set, ◌&&◌}
use Rattle.sc_blocks.specs.Rows.{free_cell, with_words}
use Rattle.sc_core.specs.Prelude.{allocated_at, cell_of, over, without_block}
use Rattle.sc_core.specs.declared.cause.Cause.TheVariants.{BadFree}
use Rattle.sc_core.specs.declared.value.Pointer.{Pointer}
use Rattle.sc_core.specs.declared.value.Value.TheVariants.{Null, Ptr}

length_ended : (first count : ℕ) (bs : Blocks) → length (ended first count bs) ≡ length bs
length_ended zero zero bs = refl
length_ended zero (suc count) [] = refl
length_ended zero (suc count) (b ∷ bs) = ap suc (length_ended zero count bs)
length_ended (suc first) count [] = refl
length_ended (suc first) count (b ∷ bs) = ap suc (length_ended first count bs)

pub length_cleared : (first count : ℕ) (bs : Blocks) → length (cleared first count bs) ≡ length bs
length_cleared first count bs = length-map (ended first count bs) given_back ∙ length_ended first count bs

length_put : (b : Bool) (changed : Blocks) (cause : Cause) {after : Blocks} →
    (if b then Ok changed else Err cause) ≡ Ok after → length after ≡ length changed
length_put true changed cause {after} h = let same : after ≡ changed = cc h in ap length same
length_put false changed cause h = absurd (cc h)

length_living : (bs : Blocks) (p : Pointer) (v : Value) (block : Result Block Cause) {after : Blocks} →
    bind block (with_cell bs p v) ≡ Ok after → length after ≡ length bs
length_living bs p v (Err cause) h = absurd (cc h)
length_living bs p v (Ok block) h =
    length_put (nat_lt p.index (length block.cells)) _ OutOfBounds h ∙ length-set bs p.block _

-- a store makes no block
pub length_store : (bs : Blocks) (q v : Value) {after : Blocks} → store bs q v ≡ Ok after → length after ≡ length bs
length_store bs (Word w) v h = absurd (cc h)
length_store bs Null v h = absurd (cc h)
length_store bs (Ptr p) v h = length_living bs p v (living (slice_get bs p.block)) h

pub length_blocks_for : (sizes : List ℕ) (args : List Value) → length (blocks_for sizes args) ≡ length sizes
length_blocks_for [] [] = refl
length_blocks_for [] (v ∷ args) = refl
length_blocks_for (n ∷ sizes) [] = ap suc (length_blocks_for sizes [])
length_blocks_for (n ∷ sizes) (v ∷ args) = ap suc (length_blocks_for sizes args)

pub length_words : (words : ℕ) (place : Option ℕ) (bs : Blocks) → length (with_words words place bs) ≤ suc (length bs)
length_words words None bs = omega arith
length_words words (Some place) bs = omega (arith, length-append bs (allocated_at place words ∷ []))

length_over : (b : Bool) (bs : Blocks) (k : ℕ) (block : Block) {after : Blocks} →
    bind (if b then Ok (slice_set bs k block) else Err BadFree) (λ cs. Ok (map given_back cs)) ≡ Ok after →
    length after ≡ length bs
length_over true bs k block {after} h =
    let same : after ≡ map given_back (slice_set bs k block) = cc h in
    ap length same ∙ length-map (slice_set bs k block) given_back ∙ length-set bs k block
length_over false bs k block h = absurd (cc h)

length_without : (bs : Blocks) (k : ℕ) (o : Option Block) {after : Blocks} →
    bind (without_block bs k o) (λ cs. Ok (map given_back cs)) ≡ Ok after → length after ≡ length bs
length_without bs k None h = absurd (cc h)
length_without bs k (Some b) h = length_over (b.live && is_some b.place) bs k (over b) h

length_start : (b : Bool) (bs : Blocks) (k : ℕ) {after : Blocks} →
    bind (if b then without_block bs k (slice_get bs k) else Err BadFree) (λ cs. Ok (map given_back cs)) ≡ Ok after →
    length after ≡ length bs
length_start true bs k h = length_without bs k (slice_get bs k) h
length_start false bs k h = absurd (cc h)

-- what is freed keeps its number
pub length_free : (bs : Blocks) (v : Value) {after : Blocks} → free_cell bs (cell_of v) ≡ Ok after →
    length after ≡ length bs
length_free bs (Word w) h = absurd (cc h)
length_free bs Null {after} h = let same : bs ≡ after = cc h in ap length (sym same)
length_free bs (Ptr p) h = length_start (p.index == 0) bs p.block h
