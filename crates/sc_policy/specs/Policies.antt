-- Which lines are a policy, and where lines that are none go wrong.
use Rattle.sc_base.specs.Prelude.{HasOneNumberEach, Text}
use Rattle.std.specs.Prelude.{◌≡◌, ℕ, suc, ◌-◌, ◌≤◌, ◌⊎◌, IsTrue, codes, List, [], ◌∷◌, ◌++◌, map, take, length, min}
use Rattle.std.specs.List.{list_all}
unfoldable use Rattle.sc_base.specs.Prelude.{is_name}
use Rattle.sc_policy.specs.Limits.{most_rules, most_states}
use Rattle.sc_policy.specs.Lines.{bytes_of, lines_of}
use Rattle.sc_policy.specs.Rules.{AreRuleLines}
use Rattle.sc_policy.specs.declared.policy.Policy.{Policy}
use Rattle.sc_policy.specs.declared.read.PolicyRead.{PolicyRead}

abbrev pub policy_line : (name : Text) → Text
policy_line name = codes "policy " ++ name

abbrev pub state_line : (name : Text) → Text
state_line name = codes "state " ++ name

abbrev pub end_line : Text
end_line = codes "policy end"

-- the lines of a policy but the last: its name, its states, the first one first, and its rules
pub record IsDraft (lines : List Text) (policy : Policy) : Type 0 where
  pub rule_lines : List Text
  pub is : lines ≡ policy_line policy.name ∷ (map state_line policy.states ++ rule_lines)
  pub rules : AreRuleLines policy.states rule_lines policy.rules
  pub name : IsTrue (is_name policy.name)
  pub names : IsTrue (list_all is_name policy.states)
  pub distinct : HasOneNumberEach policy.states
  pub some_states : 1 ≤ length policy.states
  pub few_states : length policy.states ≤ most_states
  pub few_rules : length policy.rules ≤ most_rules

-- the lines are a policy
pub record IsPolicy (lines : List Text) (policy : Policy) : Type 0 where
  pub draft : List Text
  pub drafted : IsDraft draft policy
  pub is : lines ≡ draft ++ end_line ∷ []

-- a policy begins with these lines
pub record BeginsPolicy (lines : List Text) : Type 0 where
  pub more : List Text
  pub policy : Policy
  pub is : IsPolicy (lines ++ more) policy

-- no policy is read from the lines, and the line of this number, counted from 1, is the first with which none begins:
-- where each prefix of the lines begins one, that is the line that would follow
pub record IsBadAt (lines : List Text) (line : ℕ) : Type 0 where
  pub none : (count : ℕ) (policy : Policy) → IsPolicy (take count lines) policy → ⊥
  pub some : 1 ≤ line
  pub before : BeginsPolicy (take (line - 1) lines)
  pub at : (BeginsPolicy (take line lines) → ⊥) ⊎ (line ≡ suc (length lines))

-- the line of this number is the first with which the bytes begin no policy; all lines after 4294967295 have that
-- number
pub record HasBadLine (bytes : List ℕ) (line : ℕ) : Type 0 where
  pub first : ℕ
  pub bad : IsBadAt (lines_of bytes) first
  pub number : line ≡ min first 4294967295

-- the policy stands in the first bytes, and the rest of them follows
pub record IsPolicyRead (bytes : List ℕ) (read : PolicyRead) : Type 0 where
  pub lines : List Text
  pub is : IsPolicy lines read.policy
  pub prefix : take read.rest bytes ≡ bytes_of lines
  pub within : read.rest ≤ length bytes
