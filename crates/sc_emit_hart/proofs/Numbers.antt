-- Words and the immediates that make them.
use Rattle.sc_emit_hart.proofs.Common.{Bool, add_word, arith, false, if◌then◌else◌, lower_part, ltb-false, ltb-true}
use Rattle.sc_emit_hart.proofs.Common.{nat_lt, negsuc, pos, refl, signed_of, suc, true, upper_part, word_of, ℕ, ◌%◌}
use Rattle.sc_emit_hart.proofs.Common.{◌*◌, ◌-◌, ◌<◌, ◌^◌, ◌≡◌, ◌≤◌}

signed_by : (w : ℕ) (below : Bool) → nat_lt w (2 ^ 31) ≡ below → w < 2 ^ 32 → word_of (signed_of w) ≡ w
signed_by w true is h = let same : signed_of w ≡ pos w = grind arith in rw same (omega arith)
signed_by w false is h =
    let same : signed_of w ≡ negsuc (2 ^ 32 - 1 - w) = grind arith in
    let high : 2 ^ 31 ≤ w = ltb-false w (2 ^ 31) is in
    rw same (omega arith)

-- a word is the word of its signed value
pub word_of-signed_of : (w : ℕ) → w < 2 ^ 32 → word_of (signed_of w) ≡ w
word_of-signed_of w h = signed_by w (nat_lt w (2 ^ 31)) refl h

parts_by : (b : Bool) (w x : ℕ) → nat_lt (w % 2 ^ 12) (2 ^ 11) ≡ b → w < 2 ^ 32 → x < 2 ^ 32 →
    add_word (add_word (upper_part w) x)
    (word_of (if b then pos (w % 2 ^ 12) else negsuc (2 * 2 ^ 11 - suc (w % 2 ^ 12)))) ≡ add_word x w
parts_by true w x is h k = let low : w % 2 ^ 12 < 2 ^ 11 = ltb-true (w % 2 ^ 12) (2 ^ 11) is in omega arith
parts_by false w x is h k = let high : 2 ^ 11 ≤ w % 2 ^ 12 = ltb-false (w % 2 ^ 12) (2 ^ 11) is in omega arith

-- the two parts of a word, and what is added between them
pub parts : (w x : ℕ) → w < 2 ^ 32 → x < 2 ^ 32 →
    add_word (add_word (upper_part w) x) (word_of (lower_part w)) ≡ add_word x w
parts w x h k = parts_by (nat_lt (w % 2 ^ 12) (2 ^ 11)) w x refl h k

two_by : (b : Bool) (w : ℕ) → nat_lt (w % 2 ^ 12) (2 ^ 11) ≡ b → w < 2 ^ 32 →
    add_word (upper_part w) (word_of (if b then pos (w % 2 ^ 12) else negsuc (2 * 2 ^ 11 - suc (w % 2 ^ 12)))) ≡ w
two_by true w is h = let low : w % 2 ^ 12 < 2 ^ 11 = ltb-true (w % 2 ^ 12) (2 ^ 11) is in omega arith
two_by false w is h = let high : 2 ^ 11 ≤ w % 2 ^ 12 = ltb-false (w % 2 ^ 12) (2 ^ 11) is in omega arith

pub two_parts : (w : ℕ) → w < 2 ^ 32 → add_word (upper_part w) (word_of (lower_part w)) ≡ w
two_parts w h = two_by (nat_lt (w % 2 ^ 12) (2 ^ 11)) w refl h
