-- What texts that are tokens consist of.
use Rattle.sc_lex.proofs.Common.{Bool, Compartment, Export, Ident, Import, Integer, List, None, Option, Reserved, Some}
use Rattle.sc_lex.proofs.Common.{TokenKind, [], and_from, and_parts, ap, arith, bytes_eq, bytes_eq-Decides, cond}
use Rattle.sc_lex.proofs.Common.{cond_both, digits_of, directive_kind, drop, drop_all, drop_more, eqb-true, false}
use Rattle.sc_lex.proofs.Common.{false_from_ne_true, false≢true, get_or, has_suffix, is_between, is_digit_of}
use Rattle.sc_lex.proofs.Common.{is_directive}
use Rattle.sc_lex.proofs.Common.{is_export, is_hexadecimal, is_import, is_inside_line, is_integer_constant, is_mark}
use Rattle.sc_lex.proofs.Common.{is_name}
use Rattle.sc_lex.proofs.Common.{is_name_byte, is_nondigit, is_number_within, is_pragma, is_reserved, is_some}
use Rattle.sc_lex.proofs.Common.{is_white_space}
use Rattle.sc_lex.proofs.Common.{token_kind, le-leb, leb-true, length, line_kind, list_all, list_all-append, list_any}
use Rattle.sc_lex.proofs.Common.{ltb-true, mark_kind, marks, may_follow, nat_le, nat_lt, none-some, not, not-not}
use Rattle.sc_lex.proofs.Common.{not-true, or_cases, or_left, or_right, radix_of, refl, reserved_words, slice_index}
use Rattle.sc_lex.proofs.Common.{subst, sym, take, take-append-drop, true, without_suffix, word_kind, words, ℕ, ⊎_elim}
use Rattle.sc_lex.proofs.Common.{◌&&◌, ◌+◌, ◌-◌, ◌<◌, ◌==◌, ◌||◌, ◌∙◌, ◌∷◌, ◌≡◌, ◌≤◌}
use Rattle.std.specs.Option.{option_or}
use Rattle.sc_base.proofs.Lists.{list_all_along}

-- what each entry of a table has, each text of the table has
table_says : (p : List ℕ → Bool) (table : List (List ℕ)) (text : List ℕ) → list_all p table ≡ true →
    list_any (λ word. bytes_eq text word) table ≡ true → p text ≡ true
table_says p [] text h q = absurd (false≢true q)
table_says p (word ∷ table) text h q =
    let parts = and_parts _ _ h in
    ⊎_elim (λ same. let e : text ≡ word = (bytes_eq-Decides text word).0 same in rw e parts.0)
    (λ more. table_says p table text parts.1 more) (or_cases _ _ q)

reserved_is_name : (text : List ℕ) → is_reserved text ≡ true → is_name text ≡ true
unfolding is_reserved is_name
reserved_is_name text h = table_says is_name reserved_words text refl h

-- the first byte of a mark, and how long a mark is
abbrev mark_shape : List ℕ → Bool
mark_shape text = not (is_name_byte (slice_index text 0)) && not (slice_index text 0 == 35) &&
    not (is_white_space (slice_index text 0)) && nat_le (length text) 3

mark_shaped : (text : List ℕ) → is_mark text ≡ true → mark_shape text ≡ true
unfolding is_mark
mark_shaped text h = table_says mark_shape marks text refl h

digit_is_name_byte : (base b : ℕ) → base ≤ 16 → is_digit_of base b ≡ true → is_name_byte b ≡ true
digit_is_name_byte base b low h = go (is_between 48 57 b) (is_between 97 102 b) (is_between 65 70 b) refl refl refl h
  where
    wider : (bottom top far : ℕ) → top ≤ far → is_between bottom top b ≡ true → is_between bottom far b ≡ true
    wider bottom top far k q =
        let parts = and_parts (nat_le bottom b) (nat_le b top) q in
        let high = leb-true b top parts.1 in
        and_from (nat_le bottom b) (nat_le b far) parts.0 (le-leb b far (omega arith))

    letter : (is_between 65 90 b || is_between 97 122 b) ≡ true → is_name_byte b ≡ true
    letter is = or_left (is_nondigit b) (is_between 48 57 b)
        (or_right (b == 95) (is_between 65 90 b || is_between 97 122 b) is)

    go : (x y z : Bool) → is_between 48 57 b ≡ x → is_between 97 102 b ≡ y → is_between 65 70 b ≡ z →
        nat_lt (cond x (b - 48) (cond y (b - 87) (cond z (b - 55) 16))) base ≡ true → is_name_byte b ≡ true
    go true y z p q r k = or_right (is_nondigit b) (is_between 48 57 b) p
    go false true z p q r k = letter (or_right (is_between 65 90 b) (is_between 97 122 b)
        (wider 97 102 122 (omega arith) q))
    go false false true p q r k = letter (or_left (is_between 65 90 b) (is_between 97 122 b)
        (wider 65 70 90 (omega arith) r))
    go false false false p q r k = let above = ltb-true 16 base k in absurd (omega arith)

hexadecimal_bytes : (body : List ℕ) → is_hexadecimal body ≡ true → list_all is_name_byte (drop 2 body) ≡ true →
    list_all is_name_byte body ≡ true
hexadecimal_bytes [] h q = absurd (false≢true h)
hexadecimal_bytes (a ∷ []) h q = absurd (false≢true (and_parts _ false h).1)
hexadecimal_bytes (a ∷ b ∷ body) h q =
    let parts = and_parts _ _ h in
    let zero_is : is_name_byte a ≡ true = rw (eqb-true a 48 parts.0) in
    let x_is : is_name_byte b ≡ true = ⊎_elim (λ e. rw (eqb-true b 120 e)) (λ e. rw (eqb-true b 88 e))
    (or_cases _ _ parts.1) in
    and_from _ _ zero_is (and_from _ _ x_is q)

suffix_bytes : (text : List ℕ) → has_suffix text ≡ true → list_all is_name_byte (take (length text - 1) text) ≡ true →
    list_all is_name_byte text ≡ true
suffix_bytes [] h q = absurd (false≢true h)
suffix_bytes (b ∷ bs) h q =
    let text = b ∷ bs in
    let n = length text - 1 in
    let last = get_or text n 0 in
    let nothing = drop_all (n + 1) text (omega arith) in
    let end = drop_more text n 0 (omega arith) ∙ ap (λ more. last ∷ more) nothing in
    let is : is_name_byte last ≡ true = ⊎_elim (λ e. rw (eqb-true last 117 e)) (λ e. rw (eqb-true last 85 e))
    (or_cases _ _ h) in
    ap (list_all is_name_byte) (sym (take-append-drop n text)) ∙
    list_all-append is_name_byte (take n text) (drop n text) ∙ and_from _ (list_all _ (drop n text)) q
    (rw end (and_from _ true is refl))

base_of_low : (body : List ℕ) → radix_of body ≤ 16
base_of_low body = go _ _
  where
    go : (x y : Bool) → cond x 16 (cond y 8 10) ≤ 16
    go true y = omega arith
    go false true = omega arith
    go false false = omega arith

integer_bytes : (text : List ℕ) → is_integer_constant text ≡ true → list_all is_name_byte text ≡ true
unfolding is_integer_constant is_number_within
integer_bytes text h =
    let body = without_suffix text in
    let low = base_of_low body in
    let digits = (and_parts (not _) _ (and_parts _ _ h).0).1 in
    let named = list_all_along (is_digit_of _) is_name_byte (λ b q. digit_is_name_byte _ b low q)
    (digits_of body) digits in
    cond_both (has_suffix text) _ _ (λ t. list_all is_name_byte t ≡ true → list_all is_name_byte text ≡ true)
    (λ e q. suffix_bytes text e q) (λ e q. q) (cond_both (is_hexadecimal body) _ _
    (λ t. list_all is_name_byte t ≡ true → list_all is_name_byte body ≡ true)
    (λ e q. hexadecimal_bytes body e q) (λ e q. q) named)

name_bytes : (text : List ℕ) → is_name text ≡ true → list_all is_name_byte text ≡ true
unfolding is_name
name_bytes [] h = refl
name_bytes (first ∷ rest) h =
    let parts = and_parts (is_nondigit first) _ h in
    let following = (and_parts (list_all _ rest) (nat_lt _ 63) parts.1).0 in
    and_from (is_name_byte first) _ (or_left _ _ parts.0) following

-- all bytes of a text pass, and a token of this kind may be followed by those that don't
pub record IsRun (p : ℕ → Bool) (text : List ℕ) (kind : TokenKind) : Type 0 where
  pub all : list_all p text ≡ true
  pub follow : (byte : ℕ) → may_follow kind byte ≡ not (p byte)

-- a kind of word, and a text of it
pub record IsWord (text : List ℕ) (kind : TokenKind) : Type 0 where
  pub run : IsRun is_name_byte text kind
  pub no_directive : is_directive kind ≡ false

pub word_run : (text : List ℕ) (kind : TokenKind) → word_kind text ≡ Some kind → IsWord text kind
unfolding word_kind
word_run text kind h = go (is_reserved text) (is_name text) (is_integer_constant text) refl refl refl h
  where
    made : list_all is_name_byte text ≡ true → (k : TokenKind) →
        ((byte : ℕ) → may_follow k byte ≡ not (is_name_byte byte)) → is_directive k ≡ false →
        ◌≡◌ {A = Option TokenKind} (Some k) (Some kind) → IsWord text kind
    made all k follow none e =
        let same : k ≡ kind = cc in
        subst (IsWord text) same (record { run = record { all = all; follow = follow }; no_directive = none })

    go : (r n i : Bool) → is_reserved text ≡ r → is_name text ≡ n → is_integer_constant text ≡ i →
        ◌≡◌ {A = Option TokenKind} (cond r (Some Reserved) (cond n (Some Ident) (cond i (Some Integer) None)))
        (Some kind) → IsWord text kind
    go true n i p q r e = made (name_bytes text (reserved_is_name text p)) Reserved (λ b. refl) refl e
    go false true i p q r e = made (name_bytes text q) Ident (λ b. refl) refl e
    go false false true p q r e = made (integer_bytes text r) Integer (λ b. refl) refl e
    go false false false p q r e = absurd (none-some kind e)

-- a kind of directive, and a line of it
pub record IsDirective (text : List ℕ) (kind : TokenKind) : Type 0 where
  pub run : IsRun is_inside_line text kind
  pub first : slice_index text 0 ≡ 35
  pub directive : is_directive kind ≡ true

pub directive_run : (text : List ℕ) (kind : TokenKind) → directive_kind text ≡ Some kind → IsDirective text kind
unfolding line_kind
directive_run text kind h = cond_both (is_pragma text) _ None (λ o. o ≡ Some kind → IsDirective text kind)
    (λ p e. go p (is_some _) (is_export (words text)) (is_import (words text)) e) (λ p e. absurd (none-some kind e)) h
  where
    made : is_pragma text ≡ true → (k : TokenKind) → ((byte : ℕ) → may_follow k byte ≡ not (is_inside_line byte)) →
        is_directive k ≡ true → ◌≡◌ {A = Option TokenKind} (Some k) (Some kind) → IsDirective text kind
    made pragma k follow is e =
        let parts = and_parts (slice_index text 0 == 35) (list_all is_inside_line text) pragma in
        let same : k ≡ kind = cc in
        subst (IsDirective text) same (record {
          run = record { all = parts.1; follow = follow };
          first = eqb-true (slice_index text 0) 35 parts.0;
          directive = is;
        })

    go : is_pragma text ≡ true → (x y z : Bool) → ◌≡◌ {A = Option TokenKind}
        (cond x (Some Compartment) (cond y (Some Export) (cond z (Some Import) None))) (Some kind) →
        IsDirective text kind
    go pragma true y z e = made pragma Compartment (λ b. sym (not-not (b == 10))) refl e
    go pragma false true z e = made pragma Export (λ b. sym (not-not (b == 10))) refl e
    go pragma false false true e = made pragma Import (λ b. sym (not-not (b == 10))) refl e
    go pragma false false false e = absurd (none-some kind e)

pub none_from : (o : Option TokenKind) → ((kind : TokenKind) → o ≡ Some kind → ⊥) → o ≡ None
none_from None h = refl
none_from (Some kind) h = absurd (h kind refl)

or_none : (o : Option TokenKind) → option_or o None ≡ o
or_none None = refl
or_none (Some kind) = refl

-- a mark is short, and its first byte is of none of these classes
pub record IsMark (text : List ℕ) : Type 0 where
  pub no_name : is_name_byte (slice_index text 0) ≡ false
  pub no_directive : (slice_index text 0 == 35) ≡ false
  pub no_white_space : is_white_space (slice_index text 0) ≡ false
  pub short : length text ≤ 3

pub mark_is : (text : List ℕ) → is_mark text ≡ true → IsMark text
mark_is text h =
    let a = and_parts _ _ (mark_shaped text h) in
    let b = and_parts _ _ a.0 in
    let c = and_parts _ _ b.0 in
    record {
      no_name = not-true _ c.0;
      no_directive = not-true _ c.1;
      no_white_space = not-true _ b.1;
      short = leb-true _ 3 a.1;
    }

pub no_mark : (text : List ℕ) → (is_mark text ≡ true → ⊥) → mark_kind text ≡ None
no_mark text h = let none = false_from_ne_true _ h in rw none

word_starts : (text : List ℕ) (kind : TokenKind) → 0 < length text → word_kind text ≡ Some kind →
    is_name_byte (slice_index text 0) ≡ true
word_starts [] kind some h = absurd (omega arith)
word_starts (b ∷ bs) kind some h = (and_parts _ _ (word_run _ kind h).run.all).0

no_word : (text : List ℕ) → 0 < length text → is_name_byte (slice_index text 0) ≡ false → word_kind text ≡ None
no_word text some h = none_from _ (λ kind e. false≢true (sym h ∙ word_starts text kind some e))

no_line : (text : List ℕ) → (slice_index text 0 ≡ 35 → ⊥) → directive_kind text ≡ None
no_line text h = none_from _ (λ kind e. h (directive_run text kind e).first)

pub kind_of-word : (text : List ℕ) → is_name_byte (slice_index text 0) ≡ true → token_kind text ≡ word_kind text
unfolding token_kind
kind_of-word text h =
    let mark = no_mark text (λ m. false≢true (sym (mark_is text m).no_name ∙ h)) in
    let line = no_line text (λ e. false≢true (rw e at h)) in
    rw (mark, line) (or_none _)

pub kind_of-directive : (text : List ℕ) → slice_index text 0 ≡ 35 → token_kind text ≡ directive_kind text
unfolding token_kind
kind_of-directive [] h = absurd (omega arith)
kind_of-directive (b ∷ bs) h =
    let mark = no_mark (b ∷ bs) (λ m. false≢true (sym (mark_is _ m).no_directive ∙ rw h)) in
    let word = no_word (b ∷ bs) (omega arith) (rw h) in
    rw (mark, word)

pub kind_of-mark : (text : List ℕ) → 0 < length text → is_name_byte (slice_index text 0) ≡ false →
    (slice_index text 0 ≡ 35 → ⊥) → token_kind text ≡ mark_kind text
unfolding token_kind
kind_of-mark text some h q = rw (no_word text some h, no_line text q) (or_none _)

pub kind_of-nil : token_kind [] ≡ None
unfolding token_kind word_kind is_reserved is_name is_integer_constant is_number_within is_mark
kind_of-nil = refl

white_space_is : (P : ℕ → Type 0) → P 32 → P 9 → P 11 → P 12 → P 13 → P 10 → (b : ℕ) → is_white_space b ≡ true → P b
white_space_is P a b c d e f k h =
    let at = λ (n : ℕ) (p : P n) (q : (k == n) ≡ true). subst P (sym (eqb-true k n q)) p in
    ⊎_elim (λ g. ⊎_elim (λ g. ⊎_elim (λ g. ⊎_elim (λ g. ⊎_elim (at 32 a) (at 9 b) (or_cases _ _ g)) (at 11 c)
    (or_cases (k == 32 || k == 9) _ g)) (at 12 d) (or_cases _ _ g)) (at 13 e)
    (or_cases (k == 32 || k == 9 || k == 11 || k == 12) _ g)) (at 10 f) (or_cases _ _ h)

abbrev NoStart : ℕ → Type 0
NoStart b = (is_name_byte b ≡ false) × (b ≡ 35 → ⊥)

pub kind_of-white_space : (text : List ℕ) → is_white_space (slice_index text 0) ≡ true → token_kind text ≡ None
kind_of-white_space [] h = absurd (false≢true h)
kind_of-white_space (b ∷ bs) h =
    let no = white_space_is NoStart (refl, λ e. omega arith) (refl, λ e. omega arith) (refl, λ e. omega arith)
    (refl, λ e. omega arith) (refl, λ e. omega arith) (refl, λ e. omega arith) b h in
    kind_of-mark _ (omega arith) no.0 no.1 ∙ no_mark _ (λ m. false≢true (sym (mark_is _ m).no_white_space ∙ h))
