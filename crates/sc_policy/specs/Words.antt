-- The words that spell a rule.
use Rattle.sc_base.specs.Prelude.{Text}
use Rattle.sc_number.specs.Numbers.{integer}
use Rattle.std.specs.Prelude.{◌≡◌, ℕ, ℤ, pos, codes, List, [], ◌∷◌, ◌++◌, get_or, Option, Some, None}
use Rattle.sc_policy.specs.declared.policy.ArgTest.{ArgTest}
use Rattle.sc_policy.specs.declared.policy.Compare.{Compare}
use Rattle.sc_policy.specs.declared.policy.Compare.TheVariants.{Equal, NotEqual, Less, LessEqual, Greater, GreaterEqual}
use Rattle.sc_policy.specs.declared.policy.Pattern.{Pattern}
use Rattle.sc_policy.specs.declared.policy.Pattern.TheVariants.{Call, Ret, Out, In, End}
use Rattle.sc_policy.specs.declared.policy.Rule.{Rule}
use Rattle.sc_policy.specs.declared.policy.Test.{Test}
use Rattle.sc_policy.specs.declared.policy.Who.{Who}
use Rattle.sc_policy.specs.declared.policy.Who.TheVariants.{Any, Named}

-- a word that is written so, or any decimal of a number
pub data Word : Type 0 where
  Plain : Text → Word
  Decimal : ℤ → Word

abbrev pub Writes : Text → Word → Type 0
Writes text (Plain word) = text ≡ word
Writes text (Decimal number) = integer text ≡ Some number

-- each text writes the word in its place
abbrev pub AreWritten : List Text → List Word → Type 0
AreWritten [] [] = Unit {0}
AreWritten (text ∷ texts) (word ∷ words) = Writes text word × AreWritten texts words
AreWritten [] (word ∷ words) = ⊥
AreWritten (text ∷ texts) [] = ⊥

abbrev pub who_word : Who → Text
who_word Any = codes "*"
who_word (Named name) = name

abbrev pub compare_word : Compare → Text
compare_word Equal = codes "="
compare_word NotEqual = codes "!="
compare_word Less = codes "<"
compare_word LessEqual = codes "<="
compare_word Greater = codes ">"
compare_word GreaterEqual = codes ">="

abbrev pub test_words : Option Test → List Word
test_words None = []
test_words (Some test) = Plain (compare_word test.op) ∷ Decimal test.value ∷ []

abbrev pub arg_words : Option ArgTest → List Word
arg_words None = []
arg_words (Some arg) = Plain (codes "arg") ∷ Decimal (pos arg.place) ∷ test_words (Some arg.test)

abbrev pub pattern_words : Pattern → List Word
pattern_words (Call from to function arg) = Plain (codes "call") ∷ Plain (who_word from) ∷ Plain (who_word to) ∷
    Plain (who_word function) ∷ arg_words arg
pattern_words (Ret from to test) = Plain (codes "ret") ∷ Plain (who_word from) ∷ Plain (who_word to) ∷ test_words test
pattern_words (Out comp test) = Plain (codes "out") ∷ Plain (who_word comp) ∷ test_words test
pattern_words (In comp test) = Plain (codes "in") ∷ Plain (who_word comp) ∷ test_words test
pattern_words (End comp test) = Plain (codes "end") ∷ Plain (who_word comp) ∷ test_words test

-- the name of the state at a place
abbrev pub state_name : (states : List Text) → (place : ℕ) → Text
state_name states place = get_or states place []

abbrev pub goal_words : (states : List Text) → Option ℕ → List Word
goal_words states None = Plain (codes "deny") ∷ []
goal_words states (Some place) = Plain (codes "to") ∷ Plain (state_name states place) ∷ []

abbrev pub rule_words : (states : List Text) → Rule → List Word
rule_words states rule = Plain (codes "on") ∷ Plain (state_name states rule.state) ∷
    (pattern_words rule.pattern ++ goal_words states rule.goal)
