-- Which rules there are, and the lines that they have.
use Rattle.sc_base.specs.Prelude.{Text, most_params}
use Rattle.std.specs.Prelude.{ℕ, ◌<◌, ◌≤◌, IsTrue, List, [], ◌∷◌, length, Option, Some, None}
unfoldable use Rattle.sc_base.specs.Prelude.{is_name}
use Rattle.sc_policy.specs.Lines.{words_of}
use Rattle.sc_policy.specs.Words.{AreWritten, rule_words}
use Rattle.sc_policy.specs.declared.policy.ArgTest.{ArgTest}
use Rattle.sc_policy.specs.declared.policy.Pattern.{Pattern}
use Rattle.sc_policy.specs.declared.policy.Pattern.TheVariants.{Call, Ret, Out, In, End}
use Rattle.sc_policy.specs.declared.policy.Rule.{Rule}
use Rattle.sc_policy.specs.declared.policy.Who.{Who}
use Rattle.sc_policy.specs.declared.policy.Who.TheVariants.{Any, Named}

-- a name is an identifier
abbrev pub IsWho : Who → Type 0
IsWho Any = Unit {0}
IsWho (Named name) = IsTrue (is_name name)

-- an argument's number is one that an argument has
abbrev pub IsArgTest : Option ArgTest → Type 0
IsArgTest None = Unit {0}
IsArgTest (Some arg) = (1 ≤ arg.place) × (arg.place ≤ most_params)

abbrev pub IsPattern : Pattern → Type 0
IsPattern (Call from to function arg) = IsWho from × IsWho to × IsWho function × IsArgTest arg
IsPattern (Ret from to test) = IsWho from × IsWho to
IsPattern (Out comp test) = IsWho comp
IsPattern (In comp test) = IsWho comp
IsPattern (End comp test) = IsWho comp

abbrev pub IsGoal : (count : ℕ) → Option ℕ → Type 0
IsGoal count None = Unit {0}
IsGoal count (Some place) = place < count

-- the rule of a policy with these states, and a line that says it
pub record IsRuleLine (states : List Text) (line : Text) (rule : Rule) : Type 0 where
  pub words : AreWritten (words_of line) (rule_words states rule)
  pub state : rule.state < length states
  pub pattern : IsPattern rule.pattern
  pub goal : IsGoal (length states) rule.goal

-- a line for each rule, in order
abbrev pub AreRuleLines : (states : List Text) → List Text → List Rule → Type 0
AreRuleLines states [] [] = Unit {0}
AreRuleLines states (line ∷ lines) (rule ∷ rules) = IsRuleLine states line rule × AreRuleLines states lines rules
AreRuleLines states [] (rule ∷ rules) = ⊥
AreRuleLines states (line ∷ lines) [] = ⊥
