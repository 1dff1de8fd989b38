-- Names of functions and of workers are names, and numbers that are drawn are literals.
use Rattle.sc_report_made.proofs.Common.{Bool, List, Number, [], addend, and_from, and_parts, ap, argument, arith}
use Rattle.sc_report_made.proofs.Common.{decimal, decimal_by_steps, false, fits, function_name, is_digit, is_ident}
use Rattle.sc_report_made.proofs.Common.{is_name_byte, is_nondigit, le-leb, leb-true, length, length-decimal-le}
use Rattle.sc_report_made.proofs.Common.{list_all, lt-ltb, nat_le, nat_lt, not, or_right, refl, reserved_words, true}
use Rattle.sc_report_made.proofs.Common.{worker_name, ℕ, ◌%◌, ◌&&◌, ◌++◌, ◌+◌, ◌<◌, ◌^◌, ◌∙◌, ◌∷◌, ◌≡◌}
use Rattle.std.proofs.lemmas.List.Folds.{list_all-append}
use Rattle.sc_base.proofs.Lists.{list_all_along}
unfoldable use Rattle.sc_base.specs.Prelude.{is_name, is_reserved}
use Rattle.sc_parse_print_laws.proofs.Literals.{no_table}
use Rattle.sc_report_made.proofs.Literals.{addend_small, argument_small}

-- bytes that are digits, one at least
record Digits (ds : List ℕ) : Type 0 where
  some : 0 < length ds
  all : list_all is_digit ds ≡ true

digit_of : (d : ℕ) → d < 10 → is_digit (48 + d) ≡ true
digit_of d low = and_from (nat_le 48 (48 + d)) (nat_le (48 + d) 57) (le-leb 48 (48 + d) (omega arith))
    (le-leb (48 + d) 57 (omega (arith, low)))

decimal_digits : (n : ℕ) → n < 2 ^ 64 → Digits (decimal n)
decimal_digits = decimal_by_steps (λ n ds. Digits ds)
    (λ n low. record { some = omega arith; all = and_from (is_digit (48 + n)) true (digit_of n low) refl })
    (λ n ds high d.
    let last : Digits ((48 + n % 10) ∷ []) = record {
      some = omega arith;
      all = and_from (is_digit (48 + n % 10)) true (digit_of (n % 10) (omega arith)) refl;
    } in
    record {
      some = some_more ds ((48 + n % 10) ∷ []) d.some;
      all = list_all-append is_digit ds ((48 + n % 10) ∷ []) ∙
          and_from (list_all is_digit ds) (list_all is_digit ((48 + n % 10) ∷ [])) d.all last.all;
    })
  where
    some_more : (a b : List ℕ) → 0 < length a → 0 < length (a ++ b)
    some_more [] b some = absurd (omega (arith, some))
    some_more (x ∷ a) b some = omega arith

-- what follows the first byte of a name
record After (ds : List ℕ) : Type 0 where
  digits : Digits ds
  bytes : list_all is_name_byte ds ≡ true
  short : nat_lt (length ds) 63 ≡ true

following : (n : ℕ) → n < 1000 → After (decimal n)
following n low =
    let is = decimal_digits n (omega (arith, low)) in
    let long = length-decimal-le 3 n (omega arith) (omega (arith, low)) (omega (arith, low)) in
    record {
      digits = is;
      bytes = list_all_along is_digit is_name_byte (λ b h. or_right (is_nondigit b) (is_digit b) h) (decimal n) is.all;
      short = lt-ltb (length (decimal n)) 63 (omega (arith, long));
    }

pub worker_named : (i : ℕ) → i < 1000 → is_name (worker_name i) ≡ true
unfolding is_name
worker_named i low =
    let b = following i low in
    and_from (is_nondigit 87) (list_all is_name_byte (decimal i) && nat_lt (length (decimal i)) 63) refl
    (and_from (list_all is_name_byte (decimal i)) (nat_lt (length (decimal i)) 63) b.bytes b.short)

pub function_named : (j : ℕ) → j < 1000 → is_name (function_name j) ≡ true
unfolding is_name
function_named j low =
    let b = following j low in
    and_from (is_nondigit 102) (list_all is_name_byte (decimal j) && nat_lt (length (decimal j)) 63) refl
    (and_from (list_all is_name_byte (decimal j)) (nat_lt (length (decimal j)) 63) b.bytes b.short)

-- no reserved word has a digit
abbrev no_digit : List ℕ → Bool
no_digit text = list_all (λ b. not (is_digit b)) text

digits_there : (ds : List ℕ) → Digits ds → no_digit ds ≡ false
digits_there [] d = absurd (let some = d.some in omega (arith, some))
digits_there (x ∷ ds) d =
    let first = (and_parts (is_digit x) (list_all is_digit ds) d.all).0 in
    ap (λ b. not b && no_digit ds) first

free : (j : ℕ) → j < 1000 → is_reserved (function_name j) ≡ false
unfolding is_reserved
free j low = no_table no_digit reserved_words (function_name j) refl (digits_there (decimal j) (following j low).digits)

pub function_ident : (j : ℕ) → j < 1000 → is_ident (function_name j) ≡ true
function_ident j low = and_from (is_name (function_name j)) (not (is_reserved (function_name j)))
    (function_named j low) (ap not (free j low))

-- Numbers.

abbrev pub literal_number : ℕ → Number
literal_number value = record { value = value; unsigned = false }

small_fits : (value : ℕ) → nat_le value 2147483647 ≡ true → fits (literal_number value) ≡ true
small_fits value small =
    let low = leb-true value 2147483647 small in
    and_from (nat_le value 2147483647) (nat_le value 4294967295) small (le-leb value 4294967295 (omega (arith, low)))

pub argument_fits : (seed j : ℕ) → fits (literal_number (argument seed j)) ≡ true
argument_fits seed j = small_fits (argument seed j) (argument_small seed j)

pub addend_fits : (seed j : ℕ) → fits (literal_number (addend seed j)) ≡ true
addend_fits seed j = small_fits (addend seed j) (addend_small seed j)
