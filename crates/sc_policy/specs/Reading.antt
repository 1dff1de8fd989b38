-- Helping: how lines are read as a policy, one after another, and the words of a rule.
use Rattle.sc_base.specs.Prelude.{Text, is_numbered, most_params, name_of, number_by_name}
use Rattle.sc_number.specs.Numbers.{integer, number_within}
use Rattle.std.specs.Prelude.{ℕ, ◌+◌, ◌||◌, ◌==◌, nat_eq, nat_le, nat_lt, not, codes, bytes_eq, List, [], ◌∷◌, ◌++◌}
use Rattle.std.specs.Prelude.{length, take, drop, slice_get, Option, Some, None, option_and_then, option_map}
use Rattle.std.specs.Prelude.{if◌then◌else◌}
use Rattle.std.specs.List.{starts_with}
use Rattle.sc_policy.specs.Lines.{words_of}
use Rattle.sc_policy.specs.Limits.{most_rules, most_states}
use Rattle.sc_policy.specs.Policies.{end_line}
use Rattle.sc_policy.specs.declared.policy.ArgTest.{ArgTest}
use Rattle.sc_policy.specs.declared.policy.Compare.{Compare}
use Rattle.sc_policy.specs.declared.policy.Compare.TheVariants.{Equal, NotEqual, Less, LessEqual, Greater, GreaterEqual}
use Rattle.sc_policy.specs.declared.policy.Pattern.{Pattern}
use Rattle.sc_policy.specs.declared.policy.Pattern.TheVariants.{Call, Ret, Out, In, End}
use Rattle.sc_policy.specs.declared.policy.Policy.{Policy}
use Rattle.sc_policy.specs.declared.policy.Rule.{Rule}
use Rattle.sc_policy.specs.declared.policy.Test.{Test}
use Rattle.sc_policy.specs.declared.policy.Who.{Who}
use Rattle.sc_policy.specs.declared.policy.Who.TheVariants.{Any, Named}
use Rattle.sc_policy.specs.declared.progress.Progress.{Progress}
use Rattle.sc_policy.specs.declared.progress.Progress.TheVariants.{Start, Titled, Open, Closed}

-- ---- words

abbrev pub who_of : Text → Option Who
who_of word = if bytes_eq word (codes "*") then Some Any else option_map Named (name_of word)

abbrev pub compare_of : Text → Option Compare
compare_of word =
    if bytes_eq word (codes "=") then Some Equal else (
    if bytes_eq word (codes "!=") then Some NotEqual else (
    if bytes_eq word (codes "<") then Some Less else (
    if bytes_eq word (codes "<=") then Some LessEqual else (
    if bytes_eq word (codes ">") then Some Greater else (
    if bytes_eq word (codes ">=") then Some GreaterEqual else None)))))

abbrev pub test_of : (op value : Text) → Option Test
test_of op value =
    option_and_then (λ op. option_map (λ value. record { op = op; value = value }) (integer value)) (compare_of op)

-- a test that may be left out
abbrev pub maybe_test_of : List Text → Option (Option Test)
maybe_test_of [] = Some None
maybe_test_of (op ∷ value ∷ []) = option_map Some (test_of op value)
maybe_test_of _ = None

abbrev pub arg_of : (number op value : Text) → Option ArgTest
arg_of number op value =
    option_and_then (λ place. option_map (λ test. record { place = place; test = test }) (test_of op value))
    (number_within 1 most_params number)

abbrev pub maybe_arg_of : List Text → Option (Option ArgTest)
maybe_arg_of [] = Some None
maybe_arg_of (word ∷ number ∷ op ∷ value ∷ []) =
    if bytes_eq word (codes "arg") then option_map Some (arg_of number op value) else None
maybe_arg_of _ = None

-- ---- patterns, by the word that begins one, the compartment, and the words that follow

abbrev pub call_of : Who → List Text → Option Pattern
call_of comp (to ∷ function ∷ words) =
    option_and_then (λ to. option_and_then (λ function. option_map (λ arg. Call comp to function arg)
    (maybe_arg_of words)) (who_of function)) (who_of to)
call_of comp _ = None

abbrev pub ret_of : Who → List Text → Option Pattern
ret_of comp (to ∷ words) =
    option_and_then (λ to. option_map (λ test. Ret comp to test) (maybe_test_of words)) (who_of to)
ret_of comp [] = None

abbrev pub pattern_of : (kind : Text) → Who → List Text → Option Pattern
pattern_of kind comp words =
    if bytes_eq kind (codes "call") then call_of comp words else (
    if bytes_eq kind (codes "ret") then ret_of comp words else (
    if bytes_eq kind (codes "out") then option_map (λ test. Out comp test) (maybe_test_of words) else (
    if bytes_eq kind (codes "in") then option_map (λ test. In comp test) (maybe_test_of words) else (
    if bytes_eq kind (codes "end") then option_map (λ test. End comp test) (maybe_test_of words) else None))))

-- how many of the words after the compartment are the pattern's: names, and a test where more than a goal follows
abbrev pub name_count : (kind : Text) → ℕ
name_count kind = if bytes_eq kind (codes "call") then 2 else (if bytes_eq kind (codes "ret") then 1 else 0)

abbrev pub test_count : (kind : Text) → ℕ
test_count kind = if bytes_eq kind (codes "call") then 4 else 2

abbrev pub pattern_count : (kind : Text) → (count : ℕ) → ℕ
pattern_count kind count =
    if nat_lt (name_count kind + 2) count then name_count kind + test_count kind else name_count kind

-- the words after the compartment that are the pattern's, and those that are the goal's
abbrev pub pattern_part : (kind : Text) → List Text → List Text
pattern_part kind words = take (pattern_count kind (length words)) words

abbrev pub goal_part : (kind : Text) → List Text → List Text
goal_part kind words = drop (pattern_count kind (length words)) words

-- ---- rules

abbrev pub goal_of : (states : List Text) → List Text → Option (Option ℕ)
goal_of states (word ∷ []) = if bytes_eq word (codes "deny") then Some None else None
goal_of states (word ∷ state ∷ []) =
    if bytes_eq word (codes "to") then option_map Some (number_by_name states state) else None
goal_of states _ = None

-- the compartment of a rule's pattern
abbrev pub comp_of : List Text → Option Who
comp_of words = option_and_then who_of (slice_get words 3)

-- its pattern, where the pattern has this compartment
abbrev pub pattern_with : Who → List Text → Option Pattern
pattern_with comp (on ∷ state ∷ kind ∷ word ∷ rest) =
    pattern_of kind comp (pattern_part kind rest)
pattern_with comp _ = None

-- its state and its goal
abbrev pub ends_of : (states : List Text) → List Text → Option (ℕ × Option ℕ)
ends_of states (on ∷ state ∷ kind ∷ word ∷ rest) =
    if bytes_eq on (codes "on") then
    option_and_then (λ state. option_map (λ goal. (state, goal))
    (goal_of states (goal_part kind rest))) (number_by_name states state) else None
ends_of states _ = None

abbrev pub joined : Pattern → ℕ × Option ℕ → Rule
joined pattern ends = record { state = ends.0; pattern = pattern; goal = ends.1 }

abbrev pub rule_of : (states : List Text) → List Text → Option Rule
rule_of states words =
    option_and_then (λ comp. option_and_then (λ pattern. option_map (joined pattern) (ends_of states words))
    (pattern_with comp words)) (comp_of words)

-- ---- lines

-- the name that follows these bytes
abbrev pub name_after : (prefix : List ℕ) → Text → Option Text
name_after prefix line = if starts_with nat_eq line prefix then name_of (drop (length prefix) line) else None

abbrev pub begun : Text → Text → Progress
begun name state = Open (record { name = name; states = state ∷ []; rules = [] })

-- a state that a policy can have besides, before its rules
abbrev pub new_state : Policy → Text → Option Text
new_state policy line =
    if not (length policy.rules == 0) || nat_le most_states (length policy.states) then None else
    option_and_then (λ name. if is_numbered policy.states name then None else Some name)
    (name_after (codes "state ") line)

abbrev pub with_state : Policy → Text → Progress
with_state policy name = Open (record policy { states = policy.states ++ name ∷ [] })

abbrev pub with_rule : Policy → Rule → Progress
with_rule policy rule = Open (record policy { rules = policy.rules ++ rule ∷ [] })

abbrev pub ruled : Policy → Text → Option Progress
ruled policy line =
    if nat_le most_rules (length policy.rules) then None else option_map (with_rule policy)
    (rule_of policy.states (words_of line))

abbrev pub stated_or_ruled : Policy → Text → Option Text → Option Progress
stated_or_ruled policy line (Some name) = Some (with_state policy name)
stated_or_ruled policy line None = ruled policy line

abbrev pub continued : Policy → Text → Option Progress
continued policy line =
    if bytes_eq line end_line then Some (Closed policy) else stated_or_ruled policy line (new_state policy line)

-- what a line makes of what was read before, `None` where it can't follow
abbrev pub after : Progress → Text → Option Progress
after Start line = option_map Titled (name_after (codes "policy ") line)
after (Titled name) line = option_map (begun name) (name_after (codes "state ") line)
after (Open policy) line = continued policy line
after (Closed policy) line = None

abbrev pub after_all : Option Progress → List Text → Option Progress
after_all progress [] = progress
after_all progress (line ∷ lines) = after_all (option_and_then (λ now. after now line) progress) lines
