-- No line of a policy has a newline, so the bytes of lines are cut into these lines again.
use Rattle.sc_policy.proofs.Common.{Any, AreRuleLines, AreWritten, ArgTest, Bool, Call, Compare, Decimal, End, Equal}
use Rattle.sc_policy.proofs.Common.{Greater, GreaterEqual, In, IsPattern, IsPolicy, IsRuleLine, IsTrue, IsWho, Less}
use Rattle.sc_policy.proofs.Common.{LessEqual, List, Named, None, NotEqual, Option, Out, Pattern, Plain, Policy, Ret}
use Rattle.sc_policy.proofs.Common.{Rule, Some, Test, Text, Who, Word, [], and_from, and_parts, ap, append_assoc}
use Rattle.sc_policy.proofs.Common.{arg_words, bytes_of, codes, compare_word, cond, digits_value, end_line, eqb-true}
use Rattle.sc_policy.proofs.Common.{false, goal_words, integer, is_name_byte, is_nondigit, length, lines_of, list_all}
use Rattle.sc_policy.proofs.Common.{list_all_along, map, nat_lt, neg_ℤ, not, number, number_within, onto_first}
use Rattle.sc_policy.proofs.Common.{onto_line, option_map, pattern_words, policy_line, pos, refl, rule_words}
use Rattle.sc_policy.proofs.Common.{state_line, state_name, suc, sym, test_words, true, when_within, who_word, words_of}
use Rattle.sc_policy.proofs.Common.{zero, ℕ, ℤ, ◌&&◌, ◌++◌, ◌==◌, ◌∙◌, ◌∷◌, ◌≡◌}
use Rattle.sc_policy.proofs.Spelling.{bound, made}
use Rattle.std.specs.Char.{is_ascii_digit}
use Rattle.std.specs.Str.{all_ascii_digits}
unfoldable use Rattle.sc_base.specs.Prelude.{is_name}

abbrev is_plain : Text → Bool
is_plain text = list_all (λ byte. not (byte == 10)) text

-- ---- lines are cut again

line_at : (line more : List ℕ) → is_plain line ≡ true → lines_of (line ++ 10 ∷ more) ≡ line ∷ lines_of more
line_at [] more plain = refl
line_at (byte ∷ line) more plain =
    let parts = and_parts (not (byte == 10)) (is_plain line) plain in
    ap (λ b. cond b ([] ∷ lines_of (line ++ 10 ∷ more)) (onto_line byte (lines_of (line ++ 10 ∷ more))))
    (is_no (byte == 10) parts.0) ∙ ap (onto_line byte) (line_at line more parts.1)
  where
    is_no : (b : Bool) → not b ≡ true → b ≡ false
    is_no true never = absurd (cc)
    is_no false is = refl

pub lines_again : (lines : List Text) (more : List ℕ) → list_all is_plain lines ≡ true →
    lines_of (bytes_of lines ++ more) ≡ lines ++ lines_of more
lines_again [] more plain = refl
lines_again (line ∷ lines) more plain =
    let parts = and_parts (is_plain line) (list_all is_plain lines) plain in
    ap lines_of (append_assoc (line ++ 10 ∷ []) (bytes_of lines) more ∙
    append_assoc line (10 ∷ []) (bytes_of lines ++ more)) ∙
    line_at line (bytes_of lines ++ more) parts.0 ∙ ap (λ ls. line ∷ ls) (lines_again lines more parts.1)

-- ---- plain texts

all_append : {A : Type 0} (p : A → Bool) (xs ys : List A) → list_all p xs ≡ true → list_all p ys ≡ true →
    list_all p (xs ++ ys) ≡ true
all_append p [] ys first second = second
all_append p (x ∷ xs) ys first second =
    let parts = and_parts (p x) (list_all p xs) first in
    and_from (p x) (list_all p (xs ++ ys)) parts.0 (all_append p xs ys parts.1 second)

-- a byte that passes a test which a newline doesn't
not_newline : (p : ℕ → Bool) → p 10 ≡ false → (byte : ℕ) → p byte ≡ true → not (byte == 10) ≡ true
not_newline p fails byte passes = go (byte == 10) refl
  where
    go : (b : Bool) → (byte == 10) ≡ b → not b ≡ true
    go true same =
        let never : false ≡ true = sym fails ∙ ap p (sym (eqb-true byte 10 same)) ∙ passes in absurd (cc)
    go false other = refl

name_is_plain : (name : Text) → IsTrue (is_name name) → is_plain name ≡ true
unfolding is_name
name_is_plain [] named = absurd (cc)
name_is_plain (first ∷ rest) named =
    let parts = and_parts (is_nondigit first) _ named in
    let rest_parts = and_parts (list_all is_name_byte rest) _ parts.1 in
    and_from (not (first == 10)) (is_plain rest) (not_newline is_nondigit refl first parts.0)
    (list_all_along is_name_byte (λ byte. not (byte == 10)) (not_newline is_name_byte refl) rest rest_parts.0)

names_are_plain : (prefix : Text) (names : List Text) → is_plain prefix ≡ true → list_all is_name names ≡ true →
    list_all is_plain (map (λ name. prefix ++ name) names) ≡ true
names_are_plain prefix [] plain named = refl
names_are_plain prefix (name ∷ names) plain named =
    let parts = and_parts (is_name name) (list_all is_name names) named in
    and_from (is_plain (prefix ++ name)) _ (all_append (λ byte. not (byte == 10)) prefix name plain
    (name_is_plain name parts.0)) (names_are_plain prefix names plain parts.1)

digits_are_plain : (text : Text) → all_ascii_digits text ≡ true → is_plain text ≡ true
digits_are_plain [] digits = refl
digits_are_plain (byte ∷ rest) digits =
    let parts = and_parts (is_ascii_digit byte) (all_ascii_digits rest) digits in
    and_from (not (byte == 10)) (is_plain rest) (not_newline is_ascii_digit refl byte parts.0)
    (digits_are_plain rest parts.1)

number_is_plain : (low high : ℕ) (text : Text) (n : ℕ) → number_within low high text ≡ Some n → is_plain text ≡ true
number_is_plain low high text n is =
    let found = bound (when_within low high) (number text) n is in
    digits_are_plain text
    (go (nat_lt 0 (length text)) (all_ascii_digits text) (digits_value 10 text) found.value found.is)
  where
    go : (a b : Bool) (value other : ℕ) → cond (a && b) (Some value) None ≡ Some other → b ≡ true
    go true true value other is = refl
    go true false value other is = absurd (cc)
    go false b value other is = absurd (cc)

integer_is_plain : (text : Text) (n : ℤ) → integer text ≡ Some n → is_plain text ≡ true
integer_is_plain [] n is = refl
integer_is_plain (byte ∷ rest) n is = go (byte == 45) refl is
  where
    go : (b : Bool) → (byte == 45) ≡ b → cond b (option_map (λ n. neg_ℤ (pos n)) (number_within 0 2147483648 rest))
        (option_map pos (number_within 0 2147483647 (byte ∷ rest))) ≡ Some n → is_plain (byte ∷ rest) ≡ true
    go true minus is =
        let found = made (λ n. neg_ℤ (pos n)) (number_within 0 2147483648 rest) n is in
        and_from (not (byte == 10)) (is_plain rest) (ap (λ b. not (b == 10)) (eqb-true byte 45 minus))
        (number_is_plain 0 2147483648 rest found.value found.is)
    go false other is =
        let found = made pos (number_within 0 2147483647 (byte ∷ rest)) n is in
        number_is_plain 0 2147483647 (byte ∷ rest) found.value found.is

-- ---- rule lines

abbrev ArePlain : List Word → Type 0
ArePlain [] = Unit {0}
ArePlain (Plain word ∷ words) = (is_plain word ≡ true) × ArePlain words
ArePlain (Decimal n ∷ words) = ArePlain words

plain_append : (us vs : List Word) → ArePlain us → ArePlain vs → ArePlain (us ++ vs)
plain_append [] vs first second = second
plain_append (Plain word ∷ us) vs first second = (first.0, plain_append us vs first.1 second)
plain_append (Decimal n ∷ us) vs first second = plain_append us vs first second

written_plain : (texts : List Text) (words : List Word) → AreWritten texts words → ArePlain words →
    list_all is_plain texts ≡ true
written_plain [] [] written plain = refl
written_plain [] (word ∷ words) written plain = refl
written_plain (text ∷ texts) [] written plain = absurd written
written_plain (text ∷ texts) (Plain word ∷ words) written plain =
    and_from (is_plain text) (list_all is_plain texts) (ap is_plain written.0 ∙ plain.0)
    (written_plain texts words written.1 plain.1)
written_plain (text ∷ texts) (Decimal n ∷ words) written plain =
    and_from (is_plain text) (list_all is_plain texts) (integer_is_plain text n written.0)
    (written_plain texts words written.1 plain)

first_is_plain : (byte : ℕ) (words : List Text) → list_all is_plain (onto_first byte words) ≡ true →
    (not (byte == 10) ≡ true) × (list_all is_plain words ≡ true)
first_is_plain byte [] all = ((and_parts (not (byte == 10)) true (and_parts _ true all).0).0, refl)
first_is_plain byte (word ∷ words) all =
    let parts = and_parts (not (byte == 10) && is_plain word) (list_all is_plain words) all in
    let first = and_parts (not (byte == 10)) (is_plain word) parts.0 in
    (first.0, and_from (is_plain word) (list_all is_plain words) first.1 parts.1)

line_is_plain : (line : Text) → list_all is_plain (words_of line) ≡ true → is_plain line ≡ true
line_is_plain [] all = refl
line_is_plain (byte ∷ line) all = go (λ rest. line_is_plain line rest) (byte == 32) refl all
  where
    go : (list_all is_plain (words_of line) ≡ true → is_plain line ≡ true) → (b : Bool) → (byte == 32) ≡ b →
        list_all is_plain (cond b ([] ∷ words_of line) (onto_first byte (words_of line))) ≡ true →
        is_plain (byte ∷ line) ≡ true
    go on true space all = and_from (not (byte == 10)) (is_plain line)
        (ap (λ b. not (b == 10)) (eqb-true byte 32 space)) (on all)
    go on false other all =
        let parts = first_is_plain byte (words_of line) all in
        and_from (not (byte == 10)) (is_plain line) parts.0 (on parts.1)

who_is_plain : (who : Who) → IsWho who → is_plain (who_word who) ≡ true
who_is_plain Any is = refl
who_is_plain (Named name) is = name_is_plain name is

compare_is_plain : (op : Compare) → is_plain (compare_word op) ≡ true
compare_is_plain Equal = refl
compare_is_plain NotEqual = refl
compare_is_plain Less = refl
compare_is_plain LessEqual = refl
compare_is_plain Greater = refl
compare_is_plain GreaterEqual = refl

test_is_plain : (test : Option Test) → ArePlain (test_words test)
test_is_plain None = tt
test_is_plain (Some test) = (compare_is_plain test.op, tt)

arg_is_plain : (arg : Option ArgTest) → ArePlain (arg_words arg)
arg_is_plain None = tt
arg_is_plain (Some arg) = (refl, test_is_plain (Some arg.test))

pattern_is_plain : (pattern : Pattern) → IsPattern pattern → ArePlain (pattern_words pattern)
pattern_is_plain (Call from to function arg) is = (
  refl,
  (
    who_is_plain from is.0,
    (
      who_is_plain to is.1,
      (who_is_plain function is.2, arg_is_plain arg),
    ),
  ),
)
pattern_is_plain (Ret from to test) is = (refl, (who_is_plain from is.0, (who_is_plain to is.1, test_is_plain test)))
pattern_is_plain (Out comp test) is = (refl, (who_is_plain comp is, test_is_plain test))
pattern_is_plain (In comp test) is = (refl, (who_is_plain comp is, test_is_plain test))
pattern_is_plain (End comp test) is = (refl, (who_is_plain comp is, test_is_plain test))

state_is_plain : (states : List Text) (place : ℕ) → list_all is_name states ≡ true →
    is_plain (state_name states place) ≡ true
state_is_plain [] place named = refl
state_is_plain (state ∷ states) zero named = name_is_plain state (and_parts (is_name state) _ named).0
state_is_plain (state ∷ states) (suc place) named =
    state_is_plain states place (and_parts (is_name state) (list_all is_name states) named).1

goal_is_plain : (states : List Text) (goal : Option ℕ) → list_all is_name states ≡ true →
    ArePlain (goal_words states goal)
goal_is_plain states None named = (refl, tt)
goal_is_plain states (Some place) named = (refl, (state_is_plain states place named, tt))

rule_is_plain : (states : List Text) (line : Text) (rule : Rule) → list_all is_name states ≡ true →
    IsRuleLine states line rule → is_plain line ≡ true
rule_is_plain states line rule named is = line_is_plain line (written_plain (words_of line) (rule_words states rule)
    is.words (
      refl,
      (
        state_is_plain states rule.state named,
        plain_append (pattern_words rule.pattern)
            (goal_words states rule.goal) (pattern_is_plain rule.pattern is.pattern)
            (goal_is_plain states rule.goal named),
      ),
    ))

rules_are_plain : (states lines : List Text) (rules : List Rule) → list_all is_name states ≡ true →
    AreRuleLines states lines rules → list_all is_plain lines ≡ true
rules_are_plain states [] rules named are = refl
rules_are_plain states (line ∷ lines) [] named are = absurd are
rules_are_plain states (line ∷ lines) (rule ∷ rules) named are =
    and_from (is_plain line) (list_all is_plain lines) (rule_is_plain states line rule named are.0)
    (rules_are_plain states lines rules named are.1)

pub policy_is_plain : (lines : List Text) (policy : Policy) → IsPolicy lines policy → list_all is_plain lines ≡ true
policy_is_plain lines policy is =
    let d = is.drafted in
    let states = map state_line policy.states in
    let first = all_append (λ byte. not (byte == 10)) (codes "policy ") policy.name refl
    (name_is_plain policy.name d.name) in
    let rest = all_append is_plain states d.rule_lines (names_are_plain (codes "state ") policy.states refl d.names)
    (rules_are_plain policy.states d.rule_lines policy.rules d.names d.rules) in
    ap (list_all is_plain) (is.is ∙ ap (λ ls. ls ++ end_line ∷ []) d.is) ∙
    all_append is_plain (policy_line policy.name ∷ (states ++ d.rule_lines)) (end_line ∷ [])
    (and_from (is_plain (policy_line policy.name)) (list_all is_plain (states ++ d.rule_lines)) first rest) refl
