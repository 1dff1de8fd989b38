-- What passes between compartments at a call and at its return.
use Rattle.sc_emit_run_laws.proofs.Common.{ArePassed, Bool, List, None, Null, Option, Ptr, Registers, ReturnsValue}
use Rattle.sc_emit_run_laws.proofs.Common.{Scalar, Setting, Some, StandsFor, Value, Word, [], a0, and_parts, ap, ap₂}
use Rattle.sc_emit_run_laws.proofs.Common.{arguments, arith, cleared_for_call, cleared_for_return, crossed, gate}
use Rattle.sc_emit_run_laws.proofs.Common.{if◌then◌else◌, is_argument, is_result, is_some, is_word, kept, kept_from}
use Rattle.sc_emit_run_laws.proofs.Common.{le-leb, length, list_all, listed, lt-ltb, map, option_map, option_value, put}
use Rattle.sc_emit_run_laws.proofs.Common.{put_here, put_there, ra, refl, same_Some, slice_get, slice_get-map}
use Rattle.sc_emit_run_laws.proofs.Common.{slice_get_within, sp, subst, suc, sym, take, true, word_back, word_in}
use Rattle.sc_emit_run_laws.proofs.Common.{words_from, write_listed, written, zero, ℕ, ◌+◌, ◌<◌, ◌^◌, ◌∙◌, ◌∷◌, ◌≡◌}
use Rattle.sc_emit_run_laws.proofs.Common.{◌≤◌}
use Rattle.sc_image.proofs.Words.{if_zero}

-- Registers of which some are kept.

abbrev pub kept_ones : (ℕ → Bool) → Registers → Registers
kept_ones keeps regs r = if keeps r then regs r else 0

kept_words : (keeps : ℕ → Bool) (count first : ℕ) (regs : Registers) →
    kept_from keeps first (words_from count first regs) ≡ words_from count first (kept_ones keeps regs)
kept_words keeps zero first regs = refl
kept_words keeps (suc count) first regs = ap (λ xs. kept_ones keeps regs first ∷ xs)
    (kept_words keeps count (suc first) regs)

kept_listed : (keeps : ℕ → Bool) (regs : Registers) → kept keeps (listed regs) ≡ listed (kept_ones keeps regs)
kept_listed keeps regs = ap₂ (λ x xs. x ∷ xs) (if_zero (keeps 0)) (kept_words keeps 31 1 regs)

-- those with which a function of another compartment begins, and those with which its caller goes on
abbrev pub called_regs : (params low : ℕ) → Registers → Registers
called_regs params low regs = put (put (kept_ones (is_argument params) regs) ra gate) sp low

abbrev pub returned_regs : (result : Bool) → (high : ℕ) → Registers → Registers
returned_regs result high regs = put (kept_ones (is_result result) regs) sp high

pub called_sp : (params low : ℕ) (regs : Registers) → called_regs params low regs sp ≡ low
called_sp params low regs = put_here (put (kept_ones (is_argument params) regs) ra gate) sp low

pub called_ra : (params low : ℕ) (regs : Registers) → called_regs params low regs ra ≡ gate
called_ra params low regs =
    put_there (put (kept_ones (is_argument params) regs) ra gate) sp low ra (λ e. omega (arith, e)) ∙
    put_here (kept_ones (is_argument params) regs) ra gate

pub returned_sp : (result : Bool) (high : ℕ) (regs : Registers) → returned_regs result high regs sp ≡ high
returned_sp result high regs = put_here (kept_ones (is_result result) regs) sp high

pub called_listed : (params low : ℕ) (regs : Registers) →
    written (written (cleared_for_call params (listed regs)) ra gate) sp low ≡ listed (called_regs params low regs)
called_listed params low regs =
    let keeps : ℕ → Bool = is_argument params in
    ap (λ words. written (written words ra gate) sp low) (kept_listed keeps regs) ∙
    ap (λ words. written words sp low) (write_listed (kept_ones keeps regs) ra gate (omega arith)) ∙
    write_listed (put (kept_ones keeps regs) ra gate) sp low (omega arith)

pub returned_listed : (result : Bool) (high : ℕ) (regs : Registers) →
    written (cleared_for_return result (listed regs)) sp high ≡ listed (returned_regs result high regs)
returned_listed result high regs =
    ap (λ words. written words sp high) (kept_listed (is_result result) regs) ∙
    write_listed (kept_ones (is_result result) regs) sp high (omega arith)

-- Arguments.

pub take_words : (n count first : ℕ) (regs : Registers) → n ≤ count →
    take n (words_from count first regs) ≡ words_from n first regs
take_words zero count first regs h = refl
take_words (suc n) zero first regs h = absurd (omega (arith, h))
take_words (suc n) (suc count) first regs h =
    ap (λ xs. regs first ∷ xs) (take_words n count (suc first) regs (omega (arith, h)))

pub word_means : (place : ℕ → Option ℕ) (w : ℕ) (v : Value) → is_word v ≡ true → StandsFor place w v → w ≡ word_in v
word_means place w (Word n) is stands = stands.means
word_means place w Null is stands = stands.means
word_means place w (Ptr p) is stands = cc is

words_are : (place : ℕ → Option ℕ) (args : List Value) (first : ℕ) (regs : Registers) →
    list_all is_word args ≡ true →
    ((i : ℕ) (v : Value) → slice_get args i ≡ Some v → StandsFor place (regs (first + i)) v) →
    words_from (length args) first regs ≡ map word_in args
words_are place [] first regs all passed = refl
words_are place (v ∷ args) first regs all passed =
    let both = and_parts (is_word v) (list_all is_word args) all in
    let here : first + 0 ≡ first = omega arith in
    ap₂ (λ x xs. x ∷ xs)
    (word_means place (regs first) v both.0 (subst (λ r. StandsFor place (regs r) v) here (passed 0 v refl)))
    (words_are place args (suc first) regs both.1
    (λ i u e. (let there : first + suc i ≡ suc first + i = omega arith in
    subst (λ r. StandsFor place (regs r) u) there (passed (suc i) u e))))

-- the event of a call has these arguments
pub arguments_are : (place : ℕ → Option ℕ) (args : List Value) (regs : Registers) → length args ≤ 8 →
    list_all is_word args ≡ true → ArePassed place regs args →
    arguments (length args) (listed regs) ≡ map word_in args
arguments_are place args regs few all passed =
    take_words (length args) 22 a0 regs (omega (arith, few)) ∙ words_are place args a0 regs all passed

-- and they are passed
crossed_at : (place other : ℕ → Option ℕ) (regs after : Registers) (v : Value) (o : Option Value) (i : ℕ) →
    ((u : Value) → o ≡ Some u → StandsFor place (regs (a0 + i)) u × (is_word u ≡ true) ×
    (after (a0 + i) ≡ regs (a0 + i))) →
    option_map (λ v. Word (word_in v)) o ≡ Some v → StandsFor other (after (a0 + i)) v
crossed_at place other regs after v None i h e = cc e
crossed_at place other regs after v (Some u) i h e =
    let its = h u refl in
    subst (StandsFor other (after (a0 + i))) (same_Some (Word (word_in u)) v e) (record {
      word = subst (λ w. w < 2 ^ 32) (sym its.2) its.0.word;
      means = its.2 ∙ word_means place (regs (a0 + i)) u its.1 its.0;
    })

pub all_words : (args : List Value) (i : ℕ) (v : Value) → list_all is_word args ≡ true → slice_get args i ≡ Some v →
    is_word v ≡ true
all_words [] i v all e = cc e
all_words (w ∷ args) zero v all e =
    subst (λ v. is_word v ≡ true) (same_Some w v e) (and_parts (is_word w) (list_all is_word args) all).0
all_words (w ∷ args) (suc i) v all e = all_words args i v (and_parts (is_word w) (list_all is_word args) all).1 e

pub crossed_passed : (place other : ℕ → Option ℕ) (args : List Value) (low : ℕ) (regs : Registers) →
    list_all is_word args ≡ true → ArePassed place regs args →
    ArePassed other (called_regs (length args) low regs) (crossed args)
crossed_passed place other args low regs all passed i v e =
    let params : ℕ = length args in
    let keeps : ℕ → Bool = is_argument params in
    crossed_at place other regs (called_regs params low regs) v (slice_get args i) i
    (λ u at.
    (let below : i < params = slice_get_within args i u at in (
      passed i u at,
      all_words args i u all at,
      put_there (put (kept_ones keeps regs) ra gate) sp low (a0 + i) (λ e. omega (arith, e)) ∙
          put_there (kept_ones keeps regs) ra gate (a0 + i) (λ e. omega (arith, e)) ∙
          rw (le-leb a0 (a0 + i) (omega arith), lt-ltb (a0 + i) (a0 + params) (omega (arith, below))) refl,
    )))
    (sym (slice_get-map (λ v. Word (word_in v)) args i) ∙ e)

-- Results.

-- what the machine returns is what the meaning does
pub given_is : (T : Setting) (place : ℕ → Option ℕ) (w : ℕ) (result : Option Scalar) (v : Option Value) →
    option_value (word_back result v) ≡ v → ReturnsValue T place w v →
    (if is_some result then Some w else None) ≡ word_back result v
given_is T place w None v same given = refl
given_is T place w (Some scalar) None same given = cc same
given_is T place w (Some scalar) (Some (Word n)) same given = ap Some given.means
given_is T place w (Some scalar) (Some Null) same given = ap Some given.means
given_is T place w (Some scalar) (Some (Ptr p)) same given = cc same

pub given_back : (T : Setting) (place other : ℕ → Option ℕ) (w high : ℕ) (regs : Registers) (result : Option Scalar)
    (v : Option Value) → regs a0 ≡ w → option_value (word_back result v) ≡ v → ReturnsValue T place w v →
    ReturnsValue T other (returned_regs (is_some result) high regs a0) (option_value (word_back result v))
given_back T place other w high regs None v is same given = tt
given_back T place other w high regs (Some scalar) None is same given = cc same
given_back T place other w high regs (Some scalar) (Some (Word n)) is same given = record {
  word = subst (λ w. w < 2 ^ 32) (sym is) given.word;
  means = is ∙ given.means;
}
given_back T place other w high regs (Some scalar) (Some Null) is same given = cc same
given_back T place other w high regs (Some scalar) (Some (Ptr p)) is same given = cc same
