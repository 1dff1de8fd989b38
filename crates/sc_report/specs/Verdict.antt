-- The line that reports a verdict.
use Rattle.sc_event.specs.Prelude.{comp_name}
use Rattle.std.specs.Prelude.{ℕ, Bool, true, false, List, ◌++◌, codes, decimal}
use Rattle.sc_base.specs.Prelude.{Text}
use Rattle.sc_event.specs.declared.interface.Interfaces.{Interfaces}
use Rattle.sc_policy.specs.Prelude.{state_name}
use Rattle.sc_monitor.specs.declared.verdict.Verdict.{Verdict}
use Rattle.sc_monitor.specs.declared.verdict.Verdict.TheVariants.{Holds, Violated}

-- whether the compartment of a violation was compromised, in a word
abbrev pub guilt_word : Bool → List ℕ
guilt_word true = codes " compromised\n"
guilt_word false = codes " clean\n"

-- the last words of a line: the rule of a violation, and that
abbrev pub rule_end : (rule : ℕ) → (compromised : Bool) → List ℕ
rule_end rule compromised = codes " rule " ++ (decimal rule ++ guilt_word compromised)

-- the last words of a line: whose violation it is
abbrev pub violator_end : (comp : List ℕ) → (rule : ℕ) → (compromised : Bool) → List ℕ
violator_end comp rule compromised = codes " by " ++ (comp ++ rule_end rule compromised)

abbrev pub violated_text : (after : ℕ) → (comp : List ℕ) → (rule : ℕ) → (compromised : Bool) → List ℕ
violated_text after comp rule compromised =
    codes "verdict violated after " ++ (decimal after ++ violator_end comp rule compromised)

abbrev pub holds_text : (state : List ℕ) → List ℕ
holds_text state = codes "verdict holds " ++ (state ++ codes "\n")

-- the state in which the policy stands, or after how many events the first violation came
abbrev pub verdict_text : (states : List Text) → Interfaces → Verdict → List ℕ
verdict_text states interfaces (Holds state) = holds_text (state_name states state)
verdict_text states interfaces (Violated after comp rule compromised) =
    violated_text after (comp_name interfaces comp) rule compromised
