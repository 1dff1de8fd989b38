-- Words in memory, and which of them are owned.
use Rattle.sc_emit_hart.proofs.Common.{Apart, Bool, ByteMemory, ImageParts, List, None, Owned, Owner, Some}
use Rattle.sc_emit_hart.proofs.Common.{WordsAreKept, are_data, arith, cases_lt, data_start, data_with, eq-eqb, false}
use Rattle.sc_emit_hart.proofs.Common.{has_heap, image_in_memory, initial_globals, inl, inr, is_in, list_any, lt-leb}
use Rattle.sc_emit_hart.proofs.Common.{map, put_word, refl, refused, stack_top, true, word, zone_start, ℕ, ⊎_elim, ◌%◌}
use Rattle.sc_emit_hart.proofs.Common.{◌+◌, ◌<◌, ◌^◌, ◌∙◌, ◌≡◌, ◌≤◌}
use Rattle.sc_store.proofs.Words.{load_of-stored, load_of-apart}

pub word_same : (memory : ByteMemory) (a value : ℕ) → value < 2 ^ 32 → word (put_word memory a value) a ≡ value
unfolding word put_word
word_same memory a value h =
    let whole : value % 4294967296 ≡ value = omega arith in load_of-stored memory a 4 value ∙ whole

pub word_apart : (memory : ByteMemory) (a value b : ℕ) → Apart b a → word (put_word memory a value) b ≡ word memory b
unfolding word put_word
word_apart memory a value b h = load_of-apart memory a 4 value b 4 h

pub words_are_kept : WordsAreKept
words_are_kept = record { same = word_same; apart = word_apart }

-- omega proves no alternative, but this
pub apart_from : (a b : ℕ) → (a < b + 4 → b < a + 4 → ⊥) → Apart a b
apart_from a b h =
    ⊎_elim (λ k. ⊎_elim (λ l. absurd (h l k)) (λ l. inr l) (cases_lt a (b + 4))) (λ k. inl k) (cases_lt b (a + 4))

-- a word of the stack is data, and owned where it is aligned
pub stack_data : (image : ImageParts) (c a : ℕ) → data_start c ≤ a → a + 4 ≤ stack_top c → are_data image c a 4 ≡ true
stack_data image c a low high = image_in_memory.owned image c 0 a 4 _ refl low (omega (arith, high))

pub stack_owned : (image : ImageParts) (c a : ℕ) → a % 4 ≡ 0 → data_start c ≤ a → a + 4 ≤ stack_top c → Owned image c a
stack_owned image c a aligned low high = record {
  aligned = aligned;
  low = low;
  high = omega (arith, high);
  its = stack_data image c a low high;
}

pub owned_allowed : (image : ImageParts) (c a : ℕ) → Owned image c a → refused image c 4 a ≡ None
owned_allowed image c a owned = rw (eq-eqb (a % 4) 0 owned.aligned, owned.its) refl

-- no region of data begins below the stack
below_regions : (c a : ℕ) (globals : List ℕ) (heap : Bool) → a < data_start c →
    list_any (λ region. is_in region a) (map (λ filled. filled.region) (data_with c globals heap)) ≡ false
below_regions c a globals true low = rw (
  lt-leb (data_start c) a low,
  lt-leb (stack_top c) a (omega (arith, low)),
  lt-leb (zone_start c) a (omega (arith, low)),
) refl
below_regions c a globals false low =
    rw (lt-leb (data_start c) a low, lt-leb (stack_top c) a (omega (arith, low))) refl

below_data : (image : ImageParts) (c a : ℕ) → a < data_start c → are_data image c a 4 ≡ false
unfolding are_data
below_data image c a low =
    rw (below_regions c (a + 0) (initial_globals image c) (has_heap image c) (omega (arith, low))) refl

pub below_refused : (image : ImageParts) (c a : ℕ) → a % 4 ≡ 0 → a < data_start c → refused image c 4 a ≡ Some Owner
below_refused image c a aligned low = rw (eq-eqb (a % 4) 0 aligned, below_data image c a low) refl
