-- What names and integer constants say.
use Rattle.sc_parse_print_laws.proofs.Common.{Bool, IsTrue, List, Number, Option, Some, [], and_parts, ap, append-nil}
use Rattle.sc_parse_print_laws.proofs.Common.{arith, bytes_eq, bytes_eq-Decides, codes, digit_value, digits_of, false}
use Rattle.sc_parse_print_laws.proofs.Common.{false_from_ne_true, false≢true, fits, get_or-append_seam, greatest_of}
use Rattle.sc_parse_print_laws.proofs.Common.{has_suffix, if◌then◌else◌, integer_of, is_between, is_digit_of, is_empty}
use Rattle.sc_parse_print_laws.proofs.Common.{is_hexadecimal, is_ident, is_integer_constant, is_name, is_name_byte}
use Rattle.sc_parse_print_laws.proofs.Common.{is_nondigit}
use Rattle.sc_parse_print_laws.proofs.Common.{is_number_within, is_reserved, token_kind, le-leb, le-ltb, leb-true}
use Rattle.sc_parse_print_laws.proofs.Common.{length}
use Rattle.sc_parse_print_laws.proofs.Common.{length-append, list_all, list_all-append, list_any, literal_text, lt-ltb}
use Rattle.sc_parse_print_laws.proofs.Common.{nat_le, nat_lt, ne_eqb, not, not-true, digits_number, number_typed}
use Rattle.sc_parse_print_laws.proofs.Common.{or_cases}
use Rattle.sc_parse_print_laws.proofs.Common.{radix_of, refl, reserved_words, says, slice_index, subst, suc, sym}
use Rattle.sc_parse_print_laws.proofs.Common.{take-append_seam, true, value_of, without_suffix, word_kind, word_symbol}
use Rattle.sc_parse_print_laws.proofs.Common.{zero, ℕ, ⊎_elim, ◌%◌, ◌&&◌, ◌*◌, ◌++◌, ◌+◌, ◌-◌, ◌/◌, ◌<◌, ◌==◌, ◌^◌}
use Rattle.sc_parse_print_laws.proofs.Common.{◌||◌, ◌∙◌, ◌∷◌, ◌≡◌, ◌≤◌}
use Rattle.sc_lex.specs.declared.token.TokenKind.TheVariants as kind
use Rattle.sc_parse_expr.specs.declared.lexeme.Symbol.TheVariants as symbol
use Rattle.std.specs.Fmt.{decimal}
use Rattle.std.proofs.lemmas.Fmt.{decimal_by_steps, decimal_digit}
use Rattle.std.proofs.lemmas.List.Sums.{fold-append}
use Rattle.sc_lex.specs.declared.integer.IntegerConstant.{IntegerConstant}

pub name_says : (name : List ℕ) → IsTrue (is_ident name) → word_symbol name ≡ symbol.Ident name
unfolding word_symbol token_kind word_kind says
name_says name h =
    let parts = and_parts _ (not _) h in
    let free = not-true (is_reserved name) parts.1 in
    simp (free, parts.0) refl

pub name_kind : (name : List ℕ) → IsTrue (is_ident name) → word_kind name ≡ Some kind.Ident
unfolding word_kind
name_kind name h =
    let parts = and_parts _ (not _) h in
    let free = not-true (is_reserved name) parts.1 in
    rw (free, parts.0)

pub name_some : (name : List ℕ) → IsTrue (is_ident name) → 0 < length name
unfolding is_name
name_some [] h = absurd (false≢true h)
name_some (b ∷ name) h = omega arith

-- the digits of a number, which begin with 0 only where they are one digit
record Decimal (n : ℕ) (ds : List ℕ) : Type 0 where
  some : 0 < length ds
  digits : list_all (λ d. is_digit_of 10 d) ds ≡ true
  value : digits_number 10 ds ≡ n
  no_zero : 0 < n → (slice_index ds 0 ≡ 48 → ⊥)
  low : slice_index ds 0 ≤ 57
  high : 48 ≤ slice_index ds 0
  last : slice_index ds (length ds - 1) ≤ 57

digit_of : (d : ℕ) → d < 10 → (digit_value (48 + d) ≡ d) × (is_digit_of 10 (48 + d) ≡ true)
digit_of d h =
    let low = le-leb 48 (48 + d) (omega arith) in
    let high = le-leb (48 + d) 57 (omega (arith, h)) in
    let back : 48 + d - 48 ≡ d = omega arith in
    let value : digit_value (48 + d) ≡ d = rw (low, high, back) in
    (value, ap (λ x. nat_lt x 10) value ∙ lt-ltb d 10 h)

pushed : (ds : List ℕ) (d : ℕ) → d < 10 → digits_number 10 (ds ++ (48 + d) ∷ []) ≡ digits_number 10 ds * 10 + d
pushed ds d h = fold-append _ 0 ds _ ∙ ap (λ x. digits_number 10 ds * 10 + x) (digit_of d h).0

first_kept : (ds es : List ℕ) → 0 < length ds → slice_index (ds ++ es) 0 ≡ slice_index ds 0
first_kept [] es h = absurd (omega (arith, h))
first_kept (x ∷ ds) es h = refl

last_is : (ds : List ℕ) (b : ℕ) → slice_index (ds ++ b ∷ []) (length (ds ++ b ∷ []) - 1) ≡ b
last_is ds b =
    let long = length-append ds (b ∷ []) in
    let before : length ds + 1 - 1 ≡ length ds = omega arith in
    rw (long, before) (get_or-append_seam ds b [] 0)

decimal_is : (n : ℕ) → n < 2 ^ 64 → Decimal n (decimal n)
decimal_is = decimal_by_steps Decimal (λ n h. record {
  some = omega arith;
  digits = rw (digit_of n h).1;
  value = let v = (digit_of n h).0 in let plus : 0 * 10 + digit_value (48 + n) ≡ digit_value (48 + n) =
      omega arith in plus ∙ v;
  no_zero = λ positive e. omega (arith, positive, e);
  low = omega (arith, h);
  high = omega arith;
  last = omega (arith, h);
}) (λ n ds h d.
    let rest : n % 10 < 10 = omega arith in
    let first = first_kept ds ((48 + n % 10) ∷ []) d.some in
    let whole : n / 10 * 10 + n % 10 ≡ n = omega arith in
    let long = length-append ds ((48 + n % 10) ∷ []) in
    let end = last_is ds (48 + n % 10) in
    record {
      some = omega (arith, long);
      digits = list_all-append (λ x. is_digit_of 10 x) ds ((48 + n % 10) ∷ []) ∙ rw (
        d.digits,
        (digit_of (n % 10)
            rest).1,
      );
      value = pushed ds (n % 10) rest ∙ ap (λ x. x * 10 + n % 10) d.value ∙ whole;
      no_zero = λ positive e. d.no_zero (omega (arith, h)) (sym first ∙ e);
      low = rw first d.low;
      high = rw first d.high;
      last = rw end (omega (arith, rest));
    })

-- no word of the table begins with such a byte
pub no_table : (p : List ℕ → Bool) (table : List (List ℕ)) (text : List ℕ) → list_all p table ≡ true → p text ≡ false →
    list_any (λ w. bytes_eq text w) table ≡ false
no_table p [] text h q = refl
no_table p (w ∷ table) text h q =
    let parts = and_parts (p w) _ h in
    let other = false_from_ne_true _
    (λ same. let e : text ≡ w = (bytes_eq-Decides text w).0 same in false≢true (sym q ∙ ap p e ∙ parts.0)) in
    rw (other, no_table p table text parts.1 q)

no_first : (b : ℕ) → b ≤ 57 → is_nondigit b ≡ false
no_first b h = false_from_ne_true (is_nondigit b) (λ q.
    ⊎_elim (λ line. let e : b ≡ 95 = grind (arith, line) in omega (arith, h, e)) (λ letter. ⊎_elim
    (λ capital. let e = leb-true 65 b (and_parts (nat_le 65 b) (nat_le b 90) capital).0 in omega (arith, h, e))
    (λ small. let e = leb-true 97 b (and_parts _ _ small).0 in omega (arith, h, e))
    (or_cases _ (is_between 97 122 b) letter)) (or_cases _ (is_between 65 90 b || is_between 97 122 b) q))

-- a constant is no reserved word and no name
no_reserved : (text : List ℕ) → slice_index text 0 ≤ 57 → is_reserved text ≡ false
unfolding is_reserved
no_reserved text h = no_table (λ w. is_nondigit (slice_index w 0)) reserved_words text refl (no_first _ h)

no_name : (text : List ℕ) → slice_index text 0 ≤ 57 → is_name text ≡ false
unfolding is_name
no_name [] h = refl
no_name (b ∷ text) h = ap (λ x. x && (list_all is_name_byte text && nat_lt (length text) 63)) (no_first b h)

abbrev suffix : Bool → List ℕ
suffix u = if u then codes "u" else []

made : (v w : ℕ) (a b : Bool) → v ≡ w → a ≡ b → ◌≡◌ {A = Option IntegerConstant}
    (Some (record { value = v; unsigned = a })) (Some (record { value = w; unsigned = b }))
made v w a b p q = rw (p, q)

abbrev Fitting : ℕ → Bool → Type 0
Fitting n u = IsTrue (fits (record { value = n; unsigned = u }))

-- What the text of a constant is.
record IsLiteral (n : ℕ) (u : Bool) (text : List ℕ) : Type 0 where
  is : word_kind text ≡ Some kind.Integer
  said : word_symbol text ≡ symbol.Integer (record { value = n; unsigned = u })

module _ (n : ℕ) (ds : List ℕ) (positive : 0 < n) (d : Decimal n ds) where
  no_48 : (slice_index ds 0 == 48) ≡ false
  no_48 = ne_eqb _ 48 (d.no_zero positive)

  no_end : (byte : ℕ) → 57 < byte → (slice_index ds (length ds - 1) == byte) ≡ false
  no_end byte h = let l = d.last in ne_eqb _ byte (λ e. omega (arith, h, l, e))

  suffix_is : (u : Bool) → has_suffix (ds ++ suffix u) ≡ u
  suffix_is true = rw (last_is ds 117)
  suffix_is false = rw (append-nil ds) (rw (no_end 117 (omega arith), no_end 85 (omega arith)))

  body_is : (u : Bool) → without_suffix (ds ++ suffix u) ≡ ds
  body_is true =
      let long = length-append ds (117 ∷ []) in
      let before : length ds + 1 - 1 ≡ length ds = omega arith in
      let has = suffix_is true in
      rw has (rw (long, before) (take-append_seam ds _))
  body_is false = let has = suffix_is false in rw has (append-nil ds)

  no_hex : is_hexadecimal ds ≡ false
  no_hex = rw no_48

  base_is : radix_of ds ≡ 10
  base_is = let x = no_hex in rw (x, no_48)

  digits_are : digits_of ds ≡ ds
  digits_are = let x = no_hex in rw x

  in_range : (u : Bool) → Fitting n u → nat_le n (greatest_of u 10) ≡ true
  in_range true h = h
  in_range false h = (and_parts _ _ h).0

  not_unsigned : (u : Bool) → Fitting n u → (u || nat_lt 2147483647 n) ≡ u
  not_unsigned true h = refl
  not_unsigned false h = let le = leb-true n 2147483647 (in_range false h) in le-ltb 2147483647 n le

  some_digits : not (is_empty ds) ≡ true
  some_digits = let some = d.some in let e = ne_eqb (length ds) 0 (λ e. omega (arith, some, e)) in rw e

  is_constant : (u : Bool) → Fitting n u → is_integer_constant (ds ++ suffix u) ≡ true
  unfolding is_integer_constant is_number_within
  is_constant u h = rw (body_is u, suffix_is u, base_is, digits_are, some_digits, d.digits, d.value) (in_range u h)

  value_is : (u : Bool) → value_of (ds ++ suffix u) ≡ n
  value_is u = rw (body_is u, base_is, digits_are) d.value

  constant_is : (u : Bool) → Fitting n u → integer_of (ds ++ suffix u) ≡ Some (record { value = n; unsigned = u })
  unfolding integer_of
  constant_is u h =
      let e = ap (λ x. x || nat_lt 2147483647 (value_of (ds ++ suffix u)))
      (suffix_is u) ∙ ap (λ x. u || nat_lt 2147483647 x) (value_is u) ∙ not_unsigned u h in
      rw (is_constant u h) (made _ _ _ _ (value_is u) e)

  number_is : (u : Bool) → Fitting n u → number_typed n u ≡ Some (record { value = n; unsigned = u })
  number_is true h = refl
  number_is false h = let e = in_range false h in rw e

  low_text : (u : Bool) → slice_index (ds ++ suffix u) 0 ≤ 57
  low_text u = let e = first_kept ds (suffix u) d.some in rw e d.low

  positive_literal : (u : Bool) → Fitting n u → IsLiteral n u (ds ++ suffix u)
  unfolding word_symbol token_kind word_kind says
  positive_literal u h =
      let free = no_reserved (ds ++ suffix u) (low_text u) in
      let unnamed = no_name (ds ++ suffix u) (low_text u) in
      record {
        is = rw (free, unnamed, is_constant u h);
        said = rw (free, unnamed, is_constant u h) (rw (constant_is u h) (rw (number_is u h)));
      }

zero_literal : (u : Bool) → IsLiteral 0 u ((48 ∷ []) ++ suffix u)
unfolding word_symbol token_kind word_kind is_reserved is_name is_integer_constant is_number_within integer_of says
zero_literal true = record { is = refl; said = refl }
zero_literal false = record { is = refl; said = refl }

in_words : (n : ℕ) (u : Bool) → Fitting n u → n < 2 ^ 64
in_words n u h = let le = leb-true n 4294967295 (and_parts _ _ h).1 in omega (arith, le)

is_literal : (n : ℕ) (u : Bool) → Fitting n u → IsLiteral n u (decimal n ++ suffix u)
is_literal zero u h = subst (λ ds. IsLiteral 0 u (ds ++ suffix u)) (sym (decimal_digit 0 (omega arith)))
    (zero_literal u)
is_literal (suc n) u h = positive_literal (suc n) _ (omega arith) (decimal_is _ (in_words (suc n) u h)) u h

pub literal_kind : (digits_number : Number) → IsTrue (fits digits_number) → word_kind (literal_text digits_number) ≡
    Some kind.Integer
literal_kind digits_number h = (is_literal _ _ h).is

pub literal_some : (digits_number : Number) → IsTrue (fits digits_number) → 0 < length (literal_text digits_number)
literal_some digits_number h =
    let some = (decimal_is digits_number.value (in_words _ digits_number.unsigned h)).some in
    let long = length-append (decimal digits_number.value) (suffix digits_number.unsigned) in
    omega (arith, some, long)

pub literal_says : (digits_number : Number) → IsTrue (fits digits_number) → word_symbol (literal_text digits_number) ≡
    symbol.Integer digits_number
literal_says digits_number h = (is_literal _ _ h).said
