-- A line is read as a rule exactly where it says that rule.
use Rattle.sc_policy.proofs.Common.{AreWritten, Call, End, HasOneNumberEach, In, IsGoal, IsPattern, IsRuleLine, IsWho}
use Rattle.sc_policy.proofs.Common.{List, None, Option, Out, Pattern, Plain, Ret, Rule, Some, Text, Who, Word, [], ap}
use Rattle.sc_policy.proofs.Common.{apart_from_distinct, arg_words, arith, bytes_eq, bytes_eq_self, call_of, cases_lt}
use Rattle.sc_policy.proofs.Common.{codes, cond, drop, ends_of, get_or, goal_of, goal_part, goal_words, joined, length}
use Rattle.sc_policy.proofs.Common.{maybe_arg_of, maybe_test_of, nat_eq, number_by_name, option_and_then, option_map}
use Rattle.sc_policy.proofs.Common.{pattern_count, pattern_of, pattern_part, pattern_with, pattern_words}
use Rattle.sc_policy.proofs.Common.{position_of_only, refl, ret_of, rule_of, rule_words, same_text, state_name, subst}
use Rattle.sc_policy.proofs.Common.{suc, sym, take, take-append-drop, test_words, true, who_of, who_word, words_of, ℕ}
use Rattle.sc_policy.proofs.Common.{⊎_elim, ◌++◌, ◌<◌, ◌∙◌, ◌∷◌, ◌≡◌}
use Rattle.sc_policy.proofs.Spelling.{bound, either, made, maybe_arg_is, maybe_arg_says, maybe_test_is, maybe_test_says}
use Rattle.sc_policy.proofs.Spelling.{who_is, who_says}
use Rattle.std.proofs.lemmas.List.Quantifiers.{position-Some}
use Rattle.std.specs.Cmp.Lexicographic.{pointwise}

-- ---- words in two parts

split : (words : List Text) (us vs : List Word) → AreWritten words (us ++ vs) →
    AreWritten (take (length us) words) us × AreWritten (drop (length us) words) vs
split words [] vs written = (tt, written)
split [] (u ∷ us) vs written = absurd written
split (w ∷ ws) (u ∷ us) vs written = let rest = split ws us vs written.1 in ((written.0, rest.0), rest.1)

as_long : (words : List Text) (us : List Word) → AreWritten words us → length words ≡ length us
as_long [] [] written = refl
as_long (w ∷ ws) (u ∷ us) written = ap suc (as_long ws us written.1)
as_long [] (u ∷ us) written = absurd written
as_long (w ∷ ws) [] written = absurd written

together : (xs ys : List Text) (us vs : List Word) → AreWritten xs us → AreWritten ys vs →
    AreWritten (xs ++ ys) (us ++ vs)
together [] ys [] vs first second = second
together (x ∷ xs) ys (u ∷ us) vs first second = (first.0, together xs ys us vs first.1 second)
together [] ys (u ∷ us) vs first second = absurd first
together (x ∷ xs) ys [] vs first second = absurd first

-- ---- the parts of a pattern

abbrev kind_word : Pattern → Text
kind_word (Call from to function arg) = codes "call"
kind_word (Ret from to test) = codes "ret"
kind_word (Out comp test) = codes "out"
kind_word (In comp test) = codes "in"
kind_word (End comp test) = codes "end"

abbrev comp_in : Pattern → Who
comp_in (Call from to function arg) = from
comp_in (Ret from to test) = from
comp_in (Out comp test) = comp
comp_in (In comp test) = comp
comp_in (End comp test) = comp

-- the words after the compartment
abbrev last_words : Pattern → List Word
last_words (Call from to function arg) = Plain (who_word to) ∷ Plain (who_word function) ∷ arg_words arg
last_words (Ret from to test) = Plain (who_word to) ∷ test_words test
last_words (Out comp test) = test_words test
last_words (In comp test) = test_words test
last_words (End comp test) = test_words test

pattern_words_are : (p : Pattern) →
    pattern_words p ≡ Plain (kind_word p) ∷ Plain (who_word (comp_in p)) ∷ last_words p
pattern_words_are (Call from to function arg) = refl
pattern_words_are (Ret from to test) = refl
pattern_words_are (Out comp test) = refl
pattern_words_are (In comp test) = refl
pattern_words_are (End comp test) = refl

comp_is_who : (p : Pattern) → IsPattern p → IsWho (comp_in p)
comp_is_who (Call from to function arg) is = is.0
comp_is_who (Ret from to test) is = is.0
comp_is_who (Out comp test) is = is
comp_is_who (In comp test) is = is
comp_is_who (End comp test) is = is

-- the words of a pattern that are read
record Says (first : Text) (who : Who) (texts : List Text) (p : Pattern) : Type 0 where
  pub kind : first ≡ kind_word p
  pub comp : who ≡ comp_in p
  pub words : AreWritten texts (last_words p)
  pub is : IsWho who → IsPattern p

call_says : (comp : Who) (words : List Text) (p : Pattern) → call_of comp words ≡ Some p →
    Says (codes "call") comp words p
call_says comp [] p is = absurd (cc)
call_says comp (to ∷ []) p is = absurd (cc)
call_says comp (to ∷ function ∷ words) p is =
    let first = bound (λ to. option_and_then (λ function. option_map (λ arg. Call comp to function arg)
    (maybe_arg_of words)) (who_of function)) (who_of to) p is in
    let second = bound (λ function. option_map (λ arg. Call comp first.value function arg) (maybe_arg_of words))
    (who_of function) p first.gives in
    let third = made (λ arg. Call comp first.value second.value arg) (maybe_arg_of words) p second.gives in
    let to_is = who_says to first.value first.is in
    let function_is = who_says function second.value second.is in
    let arg_is = maybe_arg_says words third.value third.is in
    subst (λ q. Says (codes "call") comp (to ∷ function ∷ words) q) third.gives (record {
      kind = refl;
      comp = refl;
      words = (to_is.0, (function_is.0, arg_is.0));
      is = λ who. (who, to_is.1, function_is.1, arg_is.1);
    })

ret_says : (comp : Who) (words : List Text) (p : Pattern) → ret_of comp words ≡ Some p →
    Says (codes "ret") comp words p
ret_says comp [] p is = absurd (cc)
ret_says comp (to ∷ words) p is =
    let first = bound (λ to. option_map (λ test. Ret comp to test) (maybe_test_of words)) (who_of to) p is in
    let second = made (λ test. Ret comp first.value test) (maybe_test_of words) p first.gives in
    let to_is = who_says to first.value first.is in
    subst (λ q. Says (codes "ret") comp (to ∷ words) q) second.gives (record {
      kind = refl;
      comp = refl;
      words = (to_is.0, maybe_test_says words second.value second.is);
      is = λ who. (who, to_is.1);
    })

out_says : (comp : Who) (words : List Text) (p : Pattern) →
    option_map (λ test. Out comp test) (maybe_test_of words) ≡ Some p → Says (codes "out") comp words p
out_says comp words p is =
    let found = made (λ test. Out comp test) (maybe_test_of words) p is in
    subst (λ q. Says (codes "out") comp words q) found.gives
    (record { kind = refl; comp = refl; words = maybe_test_says words found.value found.is; is = λ who. who })

in_says : (comp : Who) (words : List Text) (p : Pattern) →
    option_map (λ test. In comp test) (maybe_test_of words) ≡ Some p → Says (codes "in") comp words p
in_says comp words p is =
    let found = made (λ test. In comp test) (maybe_test_of words) p is in
    subst (λ q. Says (codes "in") comp words q) found.gives
    (record { kind = refl; comp = refl; words = maybe_test_says words found.value found.is; is = λ who. who })

end_says : (comp : Who) (words : List Text) (p : Pattern) →
    option_map (λ test. End comp test) (maybe_test_of words) ≡ Some p → Says (codes "end") comp words p
end_says comp words p is =
    let found = made (λ test. End comp test) (maybe_test_of words) p is in
    subst (λ q. Says (codes "end") comp words q) found.gives
    (record { kind = refl; comp = refl; words = maybe_test_says words found.value found.is; is = λ who. who })

of_kind : (kind key : Text) (comp : Who) (words : List Text) (p : Pattern) → kind ≡ key → Says key comp words p →
    Says kind comp words p
of_kind kind key comp words p same says = subst (λ k. Says k comp words p) (sym same) says

pattern_says : (kind : Text) (comp : Who) (words : List Text) (p : Pattern) → pattern_of kind comp words ≡ Some p →
    Says kind comp words p
pattern_says kind comp words p =
    either kind (codes "call") _ _ (Some p) (λ same is. of_kind kind _ comp words p same (call_says comp words p is))
    (either kind (codes "ret") _ _ (Some p) (λ same is. of_kind kind _ comp words p same (ret_says comp words p is))
    (either kind (codes "out") _ _ (Some p) (λ same is. of_kind kind _ comp words p same (out_says comp words p is))
    (either kind (codes "in") _ _ (Some p) (λ same is. of_kind kind _ comp words p same (in_says comp words p is))
    (either kind (codes "end") _ _ (Some p) (λ same is. of_kind kind _ comp words p same (end_says comp words p is))
    (λ is. absurd (cc))))))

-- the pattern that words are read as
pattern_is : (p : Pattern) (words : List Text) → IsPattern p → AreWritten words (last_words p) →
    pattern_of (kind_word p) (comp_in p) words ≡ Some p
pattern_is (Call from to function arg) [] is written = absurd written
pattern_is (Call from to function arg) (a ∷ []) is written = absurd written.1
pattern_is (Call from to function arg) (a ∷ b ∷ words) is written =
    ap (option_and_then (λ to. option_and_then (λ function. option_map (λ arg. Call from to function arg)
    (maybe_arg_of words)) (who_of b))) (who_is a to written.0 is.1) ∙
    ap (option_and_then (λ function. option_map (λ arg. Call from to function arg) (maybe_arg_of words)))
    (who_is b function written.1.0 is.2) ∙
    ap (option_map (λ arg. Call from to function arg)) (maybe_arg_is words arg written.1.1 is.3)
pattern_is (Ret from to test) [] is written = absurd written
pattern_is (Ret from to test) (a ∷ words) is written =
    ap (option_and_then (λ to. option_map (λ test. Ret from to test) (maybe_test_of words)))
    (who_is a to written.0 is.1) ∙
    ap (option_map (λ test. Ret from to test)) (maybe_test_is words test written.1)
pattern_is (Out comp test) words is written =
    ap (option_map (λ test. Out comp test)) (maybe_test_is words test written)
pattern_is (In comp test) words is written =
    ap (option_map (λ test. In comp test)) (maybe_test_is words test written)
pattern_is (End comp test) words is written =
    ap (option_map (λ test. End comp test)) (maybe_test_is words test written)

-- ---- states and goals

number_says : (states : List Text) (name : Text) (place : ℕ) → number_by_name states name ≡ Some place →
    (name ≡ state_name states place) × (place < length states)
number_says states name place is =
    let found = position-Some (bytes_eq name) states place [] is in
    (same_text name (state_name states place) found.1, found.0)

number_is : (states : List Text) (name : Text) (place : ℕ) → HasOneNumberEach states → name ≡ state_name states place →
    place < length states → number_by_name states name ≡ Some place
number_is states name place distinct same within =
    position_of_only (bytes_eq name) states place [] within (passes (get_or states place []) same) only
  where
    passes : (other : Text) → name ≡ other → bytes_eq name other ≡ true
    passes other is = ap (λ n. bytes_eq n other) is ∙ bytes_eq_self other

    apart : (i j : ℕ) → i < j → j < length states → get_or states i [] ≡ get_or states j [] → ⊥
    apart i j before inside equal =
        let differ = apart_from_distinct (pointwise nat_eq) states i j [] distinct before inside in
        let alike : bytes_eq (get_or states i []) (get_or states j []) ≡ true =
        ap (λ n. bytes_eq n (get_or states j [])) equal ∙ bytes_eq_self (get_or states j []) in
        absurd (cc)

    only : (j : ℕ) → j < length states → bytes_eq name (get_or states j []) ≡ true → j ≡ place
    only j inside passed =
        let equal : get_or states j [] ≡ get_or states place [] =
        sym (same_text name (get_or states j []) passed) ∙ same in
        ⊎_elim (λ before. absurd (apart j place before within equal))
        (λ later. ⊎_elim (λ after. absurd (apart place j after inside (sym equal))) (λ most. omega arith)
        (cases_lt place j)) (cases_lt j place)

goal_says : (states : List Text) (words : List Text) (goal : Option ℕ) → goal_of states words ≡ Some goal →
    AreWritten words (goal_words states goal) × IsGoal (length states) goal
goal_says states [] goal is = absurd (cc)
goal_says states (word ∷ []) goal is =
    either word (codes "deny") (Some None) None (Some goal) denied (λ none. absurd (cc)) is
  where
    denied : word ≡ codes "deny" → ◌≡◌ {A = Option (Option ℕ)} (Some None) (Some goal) →
        AreWritten (word ∷ []) (goal_words states goal) × IsGoal (length states) goal
    denied same gives =
        let it : ◌≡◌ {A = Option ℕ} None goal = cc in
        subst (λ g. AreWritten (word ∷ []) (goal_words states g) × IsGoal (length states) g) it ((same, tt), tt)
goal_says states (word ∷ state ∷ []) goal is =
    either word (codes "to") (option_map Some (number_by_name states state)) None (Some goal) led
    (λ none. absurd (cc)) is
  where
    led : word ≡ codes "to" → option_map Some (number_by_name states state) ≡ Some goal →
        AreWritten (word ∷ state ∷ []) (goal_words states goal) × IsGoal (length states) goal
    led same gives =
        let found = made {A = ℕ} Some (number_by_name states state) goal gives in
        let at = number_says states state found.value found.is in
        subst (λ g. AreWritten (word ∷ state ∷ []) (goal_words states g) × IsGoal (length states) g) found.gives
        ((same, (at.0, tt)), at.1)
goal_says states (word ∷ state ∷ third ∷ more) goal is = absurd (cc)

goal_is : (states : List Text) (words : List Text) (goal : Option ℕ) → HasOneNumberEach states →
    AreWritten words (goal_words states goal) → IsGoal (length states) goal → goal_of states words ≡ Some goal
goal_is states [] None distinct written within = absurd written
goal_is states (word ∷ []) None distinct written within =
    ap (λ w. cond (bytes_eq w (codes "deny")) (Some None) None) written.0
goal_is states (word ∷ second ∷ more) None distinct written within = absurd written.1
goal_is states [] (Some place) distinct written within = absurd written
goal_is states (word ∷ []) (Some place) distinct written within = absurd written.1
goal_is states (word ∷ state ∷ []) (Some place) distinct written within =
    ap (λ w. cond (bytes_eq w (codes "to")) (option_map Some (number_by_name states state)) None) written.0 ∙
    ap (option_map Some) (number_is states state place distinct written.1.0 within)
goal_is states (word ∷ state ∷ third ∷ more) (Some place) distinct written within = absurd written.1.1

-- where the goal begins
count_is : (states : List Text) (p : Pattern) (goal : Option ℕ) →
    pattern_count (kind_word p) (length (last_words p ++ goal_words states goal)) ≡ length (last_words p)
count_is states (Call from to function None) None = refl
count_is states (Call from to function None) (Some place) = refl
count_is states (Call from to function (Some arg)) None = refl
count_is states (Call from to function (Some arg)) (Some place) = refl
count_is states (Ret from to None) None = refl
count_is states (Ret from to None) (Some place) = refl
count_is states (Ret from to (Some test)) None = refl
count_is states (Ret from to (Some test)) (Some place) = refl
count_is states (Out comp None) None = refl
count_is states (Out comp None) (Some place) = refl
count_is states (Out comp (Some test)) None = refl
count_is states (Out comp (Some test)) (Some place) = refl
count_is states (In comp None) None = refl
count_is states (In comp None) (Some place) = refl
count_is states (In comp (Some test)) None = refl
count_is states (In comp (Some test)) (Some place) = refl
count_is states (End comp None) None = refl
count_is states (End comp None) (Some place) = refl
count_is states (End comp (Some test)) None = refl
count_is states (End comp (Some test)) (Some place) = refl

-- ---- rules

-- the words that say a rule
record SaysRule (states texts : List Text) (rule : Rule) : Type 0 where
  pub words : AreWritten texts (rule_words states rule)
  pub state : rule.state < length states
  pub pattern : IsPattern rule.pattern
  pub goal : IsGoal (length states) rule.goal

rule_says : (states words : List Text) (rule : Rule) → rule_of states words ≡ Some rule → SaysRule states words rule
rule_says states [] rule is = absurd (cc)
rule_says states (on ∷ []) rule is = absurd (cc)
rule_says states (on ∷ state ∷ []) rule is = absurd (cc)
rule_says states (on ∷ state ∷ kind ∷ []) rule is = absurd (cc)
rule_says states (on ∷ state ∷ kind ∷ comp ∷ rest) rule is =
    let words = on ∷ state ∷ kind ∷ comp ∷ rest in
    let first = bound (λ comp. option_and_then (λ pattern. option_map (joined pattern) (ends_of states words))
    (pattern_with comp words)) (who_of comp) rule is in
    let second = bound (λ pattern. option_map (joined pattern) (ends_of states words))
    (pattern_with first.value words) rule first.gives in
    let third = made (joined second.value) (ends_of states words) rule second.gives in
    subst (λ r. SaysRule states words r) third.gives
    (all first.value second.value third.value first.is second.is third.is)
  where
    ended : (ends : ℕ × Option ℕ) → ends_of states (on ∷ state ∷ kind ∷ comp ∷ rest) ≡ Some ends →
        (on ≡ codes "on") × (number_by_name states state ≡ Some ends.0) ×
        (goal_of states (goal_part kind rest) ≡ Some ends.1)
    ended ends = either on (codes "on")
        (option_and_then (λ state. option_map (λ goal. (state, goal)) (goal_of states (goal_part kind rest)))
        (number_by_name states state)) None (Some ends)
        (λ same gives.
        let first = bound (λ state. option_map (λ goal. (state, goal)) (goal_of states (goal_part kind rest)))
        (number_by_name states state) ends gives in
        let second = made (λ goal. (first.value, goal)) (goal_of states (goal_part kind rest)) ends first.gives in
        (same, first.is ∙ ap (λ e. Some e.0) second.gives, second.is ∙ ap (λ e. Some e.1) second.gives))
        (λ none. absurd (cc))

    all : (who : Who) (p : Pattern) (ends : ℕ × Option ℕ) → who_of comp ≡ Some who →
        pattern_of kind who (pattern_part kind rest) ≡ Some p →
        ends_of states (on ∷ state ∷ kind ∷ comp ∷ rest) ≡ Some ends →
        SaysRule states (on ∷ state ∷ kind ∷ comp ∷ rest) (joined p ends)
    all who p ends who_read pattern_read ends_read =
        let comp_says = who_says comp who who_read in
        let said = pattern_says kind who (pattern_part kind rest) p pattern_read in
        let e = ended ends ends_read in
        let at = number_says states state ends.0 e.1 in
        let goal = goal_says states (goal_part kind rest) ends.1 e.2 in
        let parts = together (pattern_part kind rest) (goal_part kind rest) (last_words p) (goal_words states ends.1)
        said.words goal.0 in
        let rest_words = subst (λ ws. AreWritten ws (last_words p ++ goal_words states ends.1))
        (take-append-drop (pattern_count kind (length rest)) rest) parts in
        record {
          words = (
            e.0,
            (
              at.0,
              subst (λ us. AreWritten (kind ∷ comp ∷ rest) (us ++ goal_words states ends.1))
                  (sym (pattern_words_are p)) (said.kind, (comp_says.0 ∙ ap who_word said.comp, rest_words)),
            ),
          );
          state = at.1;
          pattern = said.is comp_says.1;
          goal = goal.1;
        }

rule_is : (states words : List Text) (rule : Rule) → HasOneNumberEach states → SaysRule states words rule →
    rule_of states words ≡ Some rule
rule_is states words rule distinct says = go words (subst
    (λ us. AreWritten words
    (Plain (codes "on") ∷ Plain (state_name states rule.state) ∷ (us ++ goal_words states rule.goal)))
    (pattern_words_are rule.pattern) says.words)
  where
    go : (words : List Text) → AreWritten words (Plain (codes "on") ∷ Plain (state_name states rule.state) ∷
        Plain (kind_word rule.pattern) ∷ Plain (who_word (comp_in rule.pattern)) ∷
        (last_words rule.pattern ++ goal_words states rule.goal)) → rule_of states words ≡ Some rule
    go [] written = absurd written
    go (on ∷ []) written = absurd written.1
    go (on ∷ state ∷ []) written = absurd written.1.1
    go (on ∷ state ∷ kind ∷ []) written = absurd written.1.1.1
    go (on ∷ state ∷ kind ∷ comp ∷ rest) written =
        let words = on ∷ state ∷ kind ∷ comp ∷ rest in
        let p = rule.pattern in
        let end_words = goal_words states rule.goal in
        let parts = split rest (last_words p) end_words written.1.1.1.1 in
        let count : pattern_count kind (length rest) ≡ length (last_words p) =
        ap (λ k. pattern_count k (length rest)) written.1.1.0 ∙
        ap (pattern_count (kind_word p)) (as_long rest (last_words p ++ end_words) written.1.1.1.1) ∙
        count_is states p rule.goal in
        let pattern : pattern_of kind (comp_in p) (pattern_part kind rest) ≡ Some p =
        ap (λ k. pattern_of k (comp_in p) (pattern_part kind rest)) written.1.1.0 ∙
        ap (λ n. pattern_of (kind_word p) (comp_in p) (take n rest)) count ∙
        pattern_is p (take (length (last_words p)) rest) says.pattern parts.0 in
        let goal : goal_of states (goal_part kind rest) ≡ Some rule.goal =
        ap (λ n. goal_of states (drop n rest)) count ∙
        goal_is states (drop (length (last_words p)) rest) rule.goal distinct parts.1 says.goal in
        let ends : ends_of states words ≡ Some (rule.state, rule.goal) =
        ap (λ w. ends_of states (w ∷ state ∷ kind ∷ comp ∷ rest)) written.0 ∙
        ap (option_and_then (λ state. option_map (λ goal. (state, goal)) (goal_of states (goal_part kind rest))))
        (number_is states state rule.state distinct written.1.0 says.state) ∙
        ap (option_map (λ goal. (rule.state, goal))) goal in
        ap (option_and_then (λ comp. option_and_then (λ pattern. option_map (joined pattern) (ends_of states words))
        (pattern_with comp words))) (who_is comp (comp_in p) written.1.1.1.0 (comp_is_who p says.pattern)) ∙
        ap (option_and_then (λ pattern. option_map (joined pattern) (ends_of states words))) pattern ∙
        ap (option_map (joined p)) ends

pub line_says : (states : List Text) (line : Text) (rule : Rule) → rule_of states (words_of line) ≡ Some rule →
    IsRuleLine states line rule
line_says states line rule is =
    let says = rule_says states (words_of line) rule is in
    record { words = says.words; state = says.state; pattern = says.pattern; goal = says.goal }

pub line_is : (states : List Text) (line : Text) (rule : Rule) → HasOneNumberEach states → IsRuleLine states line rule →
    rule_of states (words_of line) ≡ Some rule
line_is states line rule distinct says = rule_is states (words_of line) rule distinct
    (record { words = says.words; state = says.state; pattern = says.pattern; goal = says.goal })
