-- What the words of a rule say, and the words that say it.
use Rattle.sc_policy.proofs.Common.{Any, AreWritten, ArgTest, Bool, Compare, Decimal, Equal, Greater, GreaterEqual}
use Rattle.sc_policy.proofs.Common.{IsArgTest, IsTrue, IsWho, Less, LessEqual, List, Named, None, NotEqual, Option}
use Rattle.sc_policy.proofs.Common.{Some, Test, Text, Who, [], ap, arg_of, arg_words, arith, bytes_eq, codes}
use Rattle.sc_policy.proofs.Common.{compare_of, compare_word, cond, digits_value, eqb-true, false, integer, le-leb}
use Rattle.sc_policy.proofs.Common.{length, maybe_arg_of, maybe_test_of, name_of, nat_le, nat_lt, neg_ℤ, number}
use Rattle.sc_policy.proofs.Common.{number_within, option_and_then, option_map, pos, refl, same_text, subst, suc}
use Rattle.sc_policy.proofs.Common.{test_of, test_words, true, when_within, who_of, who_word, zero, ℕ, ℤ, ◌&&◌, ◌==◌}
use Rattle.sc_policy.proofs.Common.{◌∙◌, ◌∷◌, ◌≡◌, ◌≤◌}
unfoldable use Rattle.sc_base.specs.Prelude.{is_name}

-- what an option was made from
pub record IsMade {A B : Type 0} (f : A → B) (from : Option A) (to : B) : Type 0 where
  pub value : A
  pub is : from ≡ Some value
  pub gives : f value ≡ to

pub made : {A B : Type 0} (f : A → B) (from : Option A) (to : B) → option_map f from ≡ Some to → IsMade f from to
made f None to is = absurd (cc)
made f (Some value) to is = record { value = value; is = refl; gives = cc }

pub record IsBound {A B : Type 0} (f : A → Option B) (from : Option A) (to : B) : Type 0 where
  pub value : A
  pub is : from ≡ Some value
  pub gives : f value ≡ Some to

pub bound : {A B : Type 0} (f : A → Option B) (from : Option A) (to : B) → option_and_then f from ≡ Some to →
    IsBound f from to
bound f None to is = absurd (cc)
bound f (Some value) to is = record { value = value; is = refl; gives = is }

-- a word that is this one, and one that isn't
pub either : {A Q : Type 0} (word key : Text) (here more found : A) → (word ≡ key → here ≡ found → Q) →
    (more ≡ found → Q) → cond (bytes_eq word key) here more ≡ found → Q
either {A} {Q} word key here more found is_it is_not is = go (bytes_eq word key) refl is
  where
    go : (b : Bool) → bytes_eq word key ≡ b → cond b here more ≡ found → Q
    go true same is = is_it (same_text word key same) is
    go false other is = is_not is

-- ---- compartments and functions

pub who_says : (word : Text) (who : Who) → who_of word ≡ Some who → (word ≡ who_word who) × IsWho who
who_says word who = either word (codes "*") (Some Any) (option_map Named (name_of word)) (Some who)
    (λ same is. let it : Any ≡ who = cc in subst (λ w. (word ≡ who_word w) × IsWho w) it (same, tt))
    (λ is. named (is_name word) refl is)
  where
    named : (b : Bool) → is_name word ≡ b → option_map Named (cond b (Some word) None) ≡ Some who →
        (word ≡ who_word who) × IsWho who
    named true good is =
        let it : Named word ≡ who = cc in subst (λ w. (word ≡ who_word w) × IsWho w) it (refl, good)
    named false good is = absurd (cc)

star_is_no_name : IsTrue (is_name (codes "*")) → ⊥
unfolding is_name
star_is_no_name named = cc named

pub who_is : (word : Text) (who : Who) → word ≡ who_word who → IsWho who → who_of word ≡ Some who
who_is word Any same named = ap who_of same
who_is word (Named name) same named = ap who_of same ∙ go (bytes_eq name (codes "*")) refl
  where
    go : (b : Bool) → bytes_eq name (codes "*") ≡ b →
        cond b (Some Any) (option_map Named (name_of name)) ≡ Some (Named name)
    go true star = absurd (star_is_no_name (subst (λ n. IsTrue (is_name n)) (same_text name (codes "*") star) named))
    go false other = ap (λ b. option_map Named (cond b (Some name) None)) named

-- ---- tests

compared : (word : Text) (one op : Compare) (more : Option Compare) → (more ≡ Some op → word ≡ compare_word op) →
    cond (bytes_eq word (compare_word one)) (Some one) more ≡ Some op → word ≡ compare_word op
compared word one op more later = either word (compare_word one) (Some one) more (Some op)
    (λ same is. let it : one ≡ op = cc in same ∙ ap compare_word it) later

compare_says : (word : Text) (op : Compare) → compare_of word ≡ Some op → word ≡ compare_word op
compare_says word op = compared word Equal op _ (compared word NotEqual op _ (compared word Less op _
    (compared word LessEqual op _ (compared word Greater op _
    (compared word GreaterEqual op None (λ is. absurd (cc)))))))

compare_is : (op : Compare) → compare_of (compare_word op) ≡ Some op
compare_is Equal = refl
compare_is NotEqual = refl
compare_is Less = refl
compare_is LessEqual = refl
compare_is Greater = refl
compare_is GreaterEqual = refl

abbrev test_with : Compare → ℤ → Test
test_with op value = record { op = op; value = value }

test_says : (op value : Text) (test : Test) → test_of op value ≡ Some test →
    AreWritten (op ∷ value ∷ []) (test_words (Some test))
test_says op value test is =
    let first = bound (λ op. option_map (test_with op) (integer value)) (compare_of op) test is in
    let second = made (test_with first.value) (integer value) test first.gives in
    subst (λ t. AreWritten (op ∷ value ∷ []) (test_words (Some t))) second.gives
    (compare_says op first.value first.is, (second.is, tt))

test_is : (op value : Text) (test : Test) → AreWritten (op ∷ value ∷ []) (test_words (Some test)) →
    test_of op value ≡ Some test
test_is op value test written =
    ap (option_and_then (λ op. option_map (test_with op) (integer value)))
    (ap compare_of written.0 ∙ compare_is test.op) ∙ ap (option_map (test_with test.op)) written.1.0

pub maybe_test_says : (words : List Text) (test : Option Test) → maybe_test_of words ≡ Some test →
    AreWritten words (test_words test)
maybe_test_says [] test is =
    let it : ◌≡◌ {A = Option Test} None test = cc in subst (λ t. AreWritten [] (test_words t)) it tt
maybe_test_says (op ∷ []) test is = absurd (cc)
maybe_test_says (op ∷ value ∷ []) test is =
    let found = made {A = Test} Some (test_of op value) test is in
    subst (λ t. AreWritten (op ∷ value ∷ []) (test_words t)) found.gives (test_says op value found.value found.is)
maybe_test_says (op ∷ value ∷ third ∷ more) test is = absurd (cc)

pub maybe_test_is : (words : List Text) (test : Option Test) → AreWritten words (test_words test) →
    maybe_test_of words ≡ Some test
maybe_test_is [] None written = refl
maybe_test_is (word ∷ words) None written = absurd written
maybe_test_is [] (Some test) written = absurd written
maybe_test_is (op ∷ []) (Some test) written = absurd written.1
maybe_test_is (op ∷ value ∷ []) (Some test) written = ap (option_map Some) (test_is op value test written)
maybe_test_is (op ∷ value ∷ third ∷ more) (Some test) written = absurd written.1.1

-- ---- the numbers of arguments

within_says : (low high n m : ℕ) → when_within low high n ≡ Some m → (n ≡ m) × (low ≤ n) × (n ≤ high)
within_says low high n m = go (nat_le low n) refl (nat_le n high) refl
  where
    least : nat_le low n ≡ true → low ≤ n
    least is = grind arith

    most : nat_le n high ≡ true → n ≤ high
    most is = grind arith

    go : (a : Bool) → nat_le low n ≡ a → (b : Bool) → nat_le n high ≡ b → cond (a && b) (Some n) None ≡ Some m →
        (n ≡ m) × (low ≤ n) × (n ≤ high)
    go true few true many is = (cc, least few, most many)
    go true few false many is = absurd (cc)
    go false few b many is = absurd (cc)

within_is : (low high n : ℕ) → low ≤ n → n ≤ high → when_within low high n ≡ Some n
within_is low high n few many = rw (le-leb low n few, le-leb n high many) refl

both_false : (b : Bool) → (b && false) ≡ false
both_false true = refl
both_false false = refl

integer_of_number : (text : Text) (n : ℕ) → number text ≡ Some n → n ≤ 8 → integer text ≡ Some (pos n)
integer_of_number [] n is few = absurd (cc)
integer_of_number (byte ∷ rest) n is few = go (byte == 45) refl
  where
    minus_is_none : byte ≡ 45 → number (byte ∷ rest) ≡ None
    minus_is_none minus = ap (λ b. number (b ∷ rest)) minus ∙
        ap (λ b. cond b (Some (digits_value 10 (45 ∷ rest))) None) (both_false (nat_lt 0 (length (45 ∷ rest))))

    go : (b : Bool) → (byte == 45) ≡ b → cond b (option_map (λ n. neg_ℤ (pos n)) (number_within 0 2147483648 rest))
        (option_map pos (number_within 0 2147483647 (byte ∷ rest))) ≡ Some (pos n)
    go true minus = let none = minus_is_none (eqb-true byte 45 minus) in absurd (cc)
    go false other = ap (λ o. option_map pos (option_and_then (when_within 0 2147483647) o)) is ∙
        ap (option_map pos) (within_is 0 2147483647 n (omega arith) (omega arith))

negative : (m n : ℕ) → neg_ℤ (pos m) ≡ pos n → 1 ≤ n → ⊥
negative zero zero is some = omega arith
negative zero (suc n) is some = cc is
negative (suc m) n is some = cc is

same_number : (m n : ℕ) → pos m ≡ pos n → m ≡ n
same_number m n is = cc

number_of_integer : (text : Text) (n : ℕ) → integer text ≡ Some (pos n) → 1 ≤ n → number text ≡ Some n
number_of_integer [] n is some = absurd (cc)
number_of_integer (byte ∷ rest) n is some = go (byte == 45) refl is
  where
    go : (b : Bool) → (byte == 45) ≡ b → cond b (option_map (λ n. neg_ℤ (pos n)) (number_within 0 2147483648 rest))
        (option_map pos (number_within 0 2147483647 (byte ∷ rest))) ≡ Some (pos n) → number (byte ∷ rest) ≡ Some n
    go true minus is =
        let found = made (λ n. neg_ℤ (pos n)) (number_within 0 2147483648 rest) (pos n) is in
        absurd (negative found.value n found.gives some)
    go false other is =
        let found = made pos (number_within 0 2147483647 (byte ∷ rest)) (pos n) is in
        let whole = bound (when_within 0 2147483647) (number (byte ∷ rest)) found.value found.is in
        whole.is ∙ ap (λ k. Some k) ((within_says 0 2147483647 whole.value found.value whole.gives).0 ∙
        same_number found.value n found.gives)

abbrev arg_with : ℕ → Test → ArgTest
arg_with place test = record { place = place; test = test }

arg_says : (text op value : Text) (arg : ArgTest) → arg_of text op value ≡ Some arg →
    AreWritten (text ∷ op ∷ value ∷ []) (Decimal (pos arg.place) ∷ test_words (Some arg.test)) × IsArgTest (Some arg)
arg_says text op value arg is =
    let first = bound (λ place. option_map (arg_with place) (test_of op value)) (number_within 1 8 text) arg is in
    let second = made (arg_with first.value) (test_of op value) arg first.gives in
    let whole = bound (when_within 1 8) (number text) first.value first.is in
    let range = within_says 1 8 whole.value first.value whole.gives in
    let same : whole.value ≡ first.value = range.0 in
    let is_number : number text ≡ Some first.value = whole.is ∙ ap (λ k. Some k) same in
    let least : 1 ≤ first.value = omega (arith, same, range.1) in
    let most : first.value ≤ 8 = omega (arith, same, range.2) in
    subst (λ a. AreWritten (text ∷ op ∷ value ∷ []) (Decimal (pos a.place) ∷ test_words (Some a.test)) ×
    IsArgTest (Some a))
    second.gives (
      (integer_of_number text first.value is_number most, test_says op value second.value second.is),
      (least, most),
    )

arg_is : (text op value : Text) (arg : ArgTest) →
    AreWritten (text ∷ op ∷ value ∷ []) (Decimal (pos arg.place) ∷ test_words (Some arg.test)) → IsArgTest (Some arg) →
    arg_of text op value ≡ Some arg
arg_is text op value arg written range =
    ap (λ o. option_and_then (λ place. option_map (arg_with place) (test_of op value))
    (option_and_then (when_within 1 8) o))
    (number_of_integer text arg.place written.0 range.0) ∙
    ap (option_and_then (λ place. option_map (arg_with place) (test_of op value)))
    (within_is 1 8 arg.place range.0 range.1) ∙
    ap (option_map (arg_with arg.place)) (test_is op value arg.test written.1)

pub maybe_arg_says : (words : List Text) (arg : Option ArgTest) → maybe_arg_of words ≡ Some arg →
    AreWritten words (arg_words arg) × IsArgTest arg
maybe_arg_says [] arg is =
    let it : ◌≡◌ {A = Option ArgTest} None arg = cc in
    subst (λ a. AreWritten [] (arg_words a) × IsArgTest a) it (tt, tt)
maybe_arg_says (word ∷ []) arg is = absurd (cc)
maybe_arg_says (word ∷ text ∷ []) arg is = absurd (cc)
maybe_arg_says (word ∷ text ∷ op ∷ []) arg is = absurd (cc)
maybe_arg_says (word ∷ text ∷ op ∷ value ∷ []) arg is =
    either word (codes "arg") (option_map Some (arg_of text op value)) None (Some arg) named (λ none. absurd (cc)) is
  where
    named : word ≡ codes "arg" → option_map Some (arg_of text op value) ≡ Some arg →
        AreWritten (word ∷ text ∷ op ∷ value ∷ []) (arg_words arg) × IsArgTest arg
    named same gives =
        let found = made {A = ArgTest} Some (arg_of text op value) arg gives in
        let said = arg_says text op value found.value found.is in
        subst (λ a. AreWritten (word ∷ text ∷ op ∷ value ∷ []) (arg_words a) × IsArgTest a) found.gives
        ((same, said.0), said.1)
maybe_arg_says (word ∷ text ∷ op ∷ value ∷ fifth ∷ more) arg is = absurd (cc)

pub maybe_arg_is : (words : List Text) (arg : Option ArgTest) → AreWritten words (arg_words arg) → IsArgTest arg →
    maybe_arg_of words ≡ Some arg
maybe_arg_is [] None written range = refl
maybe_arg_is (word ∷ words) None written range = absurd written
maybe_arg_is [] (Some arg) written range = absurd written
maybe_arg_is (word ∷ []) (Some arg) written range = absurd written.1
maybe_arg_is (word ∷ text ∷ []) (Some arg) written range = absurd written.1.1
maybe_arg_is (word ∷ text ∷ op ∷ []) (Some arg) written range = absurd written.1.1.1
maybe_arg_is (word ∷ text ∷ op ∷ value ∷ []) (Some arg) written range =
    ap (λ w. cond (bytes_eq w (codes "arg")) (option_map Some (arg_of text op value)) None) written.0 ∙
    ap (option_map Some) (arg_is text op value arg written.1 range)
maybe_arg_is (word ∷ text ∷ op ∷ value ∷ fifth ∷ more) (Some arg) written range = absurd written.1.1.1.1
