-- What lines are read as is a policy exactly where the lines are one.
use Rattle.sc_policy.proofs.Common.{AllByRecursion, AreRuleLines, AreWritten, BeginsPolicy, Bool, Closed}
use Rattle.sc_policy.proofs.Common.{HasOneNumberEach, IsDistinct, IsDistinct-push, IsDraft, IsPolicy, IsRuleLine}
use Rattle.sc_policy.proofs.Common.{IsTrue, List, None, Open, Option, Policy, Progress, Rule, Some, Start, Text, Titled}
use Rattle.sc_policy.proofs.Common.{[], after, after_all, and_parts, ap, append-nil, append_assoc, arith, begun}
use Rattle.sc_policy.proofs.Common.{bytes_eq, bytes_eq_self, codes, cond, continued, drop, end_line, eqb-true, false}
use Rattle.sc_policy.proofs.Common.{is_numbered, length, length-append, list_all, lt-leb, map, map-append, name_after}
use Rattle.sc_policy.proofs.Common.{name_of, nat_eq, nat_le, new_state, not, option_and_then, option_map, policy_line}
use Rattle.sc_policy.proofs.Common.{refl, rule_of, rule_words, ruled, rules, same_text, starts_with, state_line}
use Rattle.sc_policy.proofs.Common.{stated_or_ruled, subst, sym, take, take-append-drop, true, with_rule, with_state}
use Rattle.sc_policy.proofs.Common.{words_of, ℕ, ◌&&◌, ◌++◌, ◌+◌, ◌<◌, ◌==◌, ◌||◌, ◌∙◌, ◌∷◌, ◌≡◌, ◌≤◌}
use Rattle.sc_policy.proofs.RuleLines.{line_is, line_says}
use Rattle.sc_policy.proofs.Spelling.{bound, made}
use Rattle.std.proofs.Math.Seq.{drop-append_seam, take-append_seam}
use Rattle.std.proofs.lemmas.Cmp.{nat_list_eq_equiv}
unfoldable use Rattle.sc_base.specs.Prelude.{is_name}

-- lines are read one after another
pub after_more : (progress : Option Progress) (xs ys : List Text) →
    after_all progress (xs ++ ys) ≡ after_all (after_all progress xs) ys
after_more progress [] ys = refl
after_more progress (x ∷ xs) ys = after_more (option_and_then (λ now. after now x) progress) xs ys

pub nothing_after : (lines : List Text) → after_all None lines ≡ None
nothing_after [] = refl
nothing_after (line ∷ lines) = nothing_after lines

-- what the lines read so far are
abbrev pub IsReached : List Text → Progress → Type 0
IsReached lines Start = lines ≡ []
IsReached lines (Titled name) = (lines ≡ policy_line name ∷ []) × IsTrue (is_name name)
IsReached lines (Open policy) = IsDraft lines policy
IsReached lines (Closed policy) = IsPolicy lines policy

-- a name after these bytes
name_after_says : (prefix line name : Text) → name_after prefix line ≡ Some name →
    (line ≡ prefix ++ name) × IsTrue (is_name name)
name_after_says prefix line name says = prefixed (starts_with nat_eq line prefix) refl says
  where
    named : prefix ≡ take (length prefix) line → (b : Bool) → is_name (drop (length prefix) line) ≡ b →
        cond b (Some (drop (length prefix) line)) None ≡ Some name → (line ≡ prefix ++ name) × IsTrue (is_name name)
    named starts true good is =
        let same : drop (length prefix) line ≡ name = cc in (
          sym (take-append-drop (length prefix) line) ∙ ap (λ p. p ++ drop (length prefix) line) (sym starts) ∙
              ap (λ r. prefix ++ r) same,
          subst (λ r. IsTrue (is_name r)) same good,
        )
    named starts false good is = absurd (cc)

    prefixed : (b : Bool) → starts_with nat_eq line prefix ≡ b →
        cond b (name_of (drop (length prefix) line)) None ≡ Some name → (line ≡ prefix ++ name) × IsTrue (is_name name)
    prefixed true starts is = named (same_text prefix (take (length prefix) line) starts)
        (is_name (drop (length prefix) line)) refl is
    prefixed false starts is = absurd (cc)

name_after_is : (prefix name : Text) → IsTrue (is_name name) → name_after prefix (prefix ++ name) ≡ Some name
name_after_is prefix name named =
    ap (λ b. cond b (name_of (drop (length prefix) (prefix ++ name))) None)
    (ap (λ p. bytes_eq prefix p) (take-append_seam prefix name) ∙ bytes_eq_self prefix) ∙
    ap name_of (drop-append_seam prefix name) ∙ ap (λ b. cond b (Some name) None) named

empty : {A : Type 0} (xs : List A) → length xs ≡ 0 → xs ≡ []
empty [] is = refl
empty (x ∷ xs) is = absurd (omega arith)

-- ---- a state more

record IsNewState (policy : Policy) (line name : Text) : Type 0 where
  pub no_rules : policy.rules ≡ []
  pub few : length policy.states < 256
  pub is : line ≡ state_line name
  pub named : IsTrue (is_name name)
  pub new : is_numbered policy.states name ≡ false

new_says : (policy : Policy) (line name : Text) → new_state policy line ≡ Some name → IsNewState policy line name
new_says policy line name is = go (length policy.rules == 0) refl (nat_le 256 (length policy.states)) refl is
  where
    fresh : (other : Text) (b : Bool) → is_numbered policy.states other ≡ b → cond b None (Some other) ≡ Some name →
        (other ≡ name) × (is_numbered policy.states other ≡ false)
    fresh other true there is = absurd (cc)
    fresh other false absent is = (cc, absent)

    few_states : nat_le 256 (length policy.states) ≡ false → length policy.states < 256
    few_states is = grind arith

    go : (a : Bool) → (length policy.rules == 0) ≡ a → (b : Bool) → nat_le 256 (length policy.states) ≡ b →
        cond (not a || b) None (option_and_then (λ name. cond (is_numbered policy.states name) None (Some name))
        (name_after (codes "state ") line)) ≡ Some name → IsNewState policy line name
    go false some b full is = absurd (cc)
    go true none true full is = absurd (cc)
    go true none false few is =
        let found = bound (λ name. cond (is_numbered policy.states name) None (Some name))
        (name_after (codes "state ") line) name is in
        let said = name_after_says (codes "state ") line found.value found.is in
        let new = fresh found.value (is_numbered policy.states found.value) refl found.gives in
        record {
          no_rules = empty policy.rules (eqb-true (length policy.rules) 0 none);
          few = few_states few;
          is = said.0 ∙ ap state_line new.0;
          named = subst (λ n. IsTrue (is_name n)) new.0 said.1;
          new = subst (λ n. is_numbered policy.states n ≡ false) new.0 new.1;
        }

all_more : (p : Text → Bool) (xs : List Text) (x : Text) → list_all p xs ≡ true → p x ≡ true →
    list_all p (xs ++ x ∷ []) ≡ true
all_more p [] x all last = ap (λ b. b && true) last
all_more p (y ∷ xs) x all last =
    let parts = and_parts (p y) (list_all p xs) all in
    ap (λ b. b && list_all p (xs ++ x ∷ [])) parts.0 ∙ all_more p xs x parts.1 last

no_lines : (states lines : List Text) (rules : List Rule) → rules ≡ [] → AreRuleLines states lines rules → lines ≡ []
no_lines states [] rules none are = refl
no_lines states (line ∷ lines) [] none are = absurd are
no_lines states (line ∷ lines) (rule ∷ rules) none are = absurd (cc)

state_more : (lines : List Text) (line : Text) (policy : Policy) (name : Text) → IsDraft lines policy →
    IsNewState policy line name → IsReached (lines ++ line ∷ []) (with_state policy name)
state_more lines line policy name draft new =
    let head = policy_line policy.name in
    let states = map state_line policy.states in
    let none = no_lines policy.states draft.rule_lines policy.rules new.no_rules draft.rules in
    record {
      rule_lines = [];
      is = ap (λ xs. xs ++ line ∷ []) draft.is ∙ ap (λ xs. (head ∷ (states ++ xs)) ++ line ∷ []) none ∙
          ap (λ xs. head ∷ (xs ++ line ∷ [])) (append-nil states) ∙
          ap (λ l. head ∷ (states ++ l ∷ [])) new.is ∙
          ap (λ xs. head ∷ xs) (sym (map-append state_line policy.states (name ∷ [])) ∙
          sym (append-nil (map state_line (policy.states ++ name ∷ []))));
      rules = subst (λ rules. AreRuleLines (policy.states ++ name ∷ []) [] rules) (sym new.no_rules) tt;
      name = draft.name;
      names = all_more is_name policy.states name draft.names new.named;
      distinct = IsDistinct-push nat_list_eq_equiv policy.states name draft.distinct new.new;
      some_states = omega (arith, length-append policy.states (name ∷ []));
      few_states = omega (arith, length-append policy.states (name ∷ []), new.few);
      few_rules = draft.few_rules;
    }

-- ---- a rule more

more_rules : (states lines : List Text) (rules : List Rule) (line : Text) (rule : Rule) →
    AreRuleLines states lines rules → IsRuleLine states line rule →
    AreRuleLines states (lines ++ line ∷ []) (rules ++ rule ∷ [])
more_rules states [] [] line rule are is = (is, tt)
more_rules states (l ∷ lines) (r ∷ rules) line rule are is = (are.0, more_rules states lines rules line rule are.1 is)
more_rules states [] (r ∷ rules) line rule are is = absurd are
more_rules states (l ∷ lines) [] line rule are is = absurd are

rule_more : (lines : List Text) (line : Text) (policy : Policy) (next : Progress) → IsDraft lines policy →
    ruled policy line ≡ Some next → IsReached (lines ++ line ∷ []) next
rule_more lines line policy next draft is = go (nat_le 4096 (length policy.rules)) refl is
  where
    few_rules : nat_le 4096 (length policy.rules) ≡ false → length policy.rules < 4096
    few_rules is = grind arith

    go : (b : Bool) → nat_le 4096 (length policy.rules) ≡ b →
        cond b None (option_map (with_rule policy) (rule_of policy.states (words_of line))) ≡ Some next →
        IsReached (lines ++ line ∷ []) next
    go true full is = absurd (cc)
    go false few is =
        let found = made (with_rule policy) (rule_of policy.states (words_of line)) next is in
        let below = few_rules few in
        subst (λ p. IsReached (lines ++ line ∷ []) p) found.gives (record {
          rule_lines = draft.rule_lines ++ line ∷ [];
          is = ap (λ xs. xs ++ line ∷ []) draft.is ∙ ap (λ xs. policy_line policy.name ∷ xs)
              (append_assoc (map state_line policy.states) draft.rule_lines (line ∷ []));
          rules = more_rules policy.states draft.rule_lines policy.rules line found.value draft.rules
              (line_says policy.states line found.value found.is);
          name = draft.name;
          names = draft.names;
          distinct = draft.distinct;
          some_states = draft.some_states;
          few_states = draft.few_states;
          few_rules = omega (arith, below, length-append policy.rules (found.value ∷ []));
        })

open_more : (lines : List Text) (line : Text) (policy : Policy) (next : Progress) → IsDraft lines policy →
    continued policy line ≡ Some next → IsReached (lines ++ line ∷ []) next
open_more lines line policy next draft says = go (bytes_eq line end_line) refl says
  where
    stated : (o : Option Text) → new_state policy line ≡ o → stated_or_ruled policy line o ≡ Some next →
        IsReached (lines ++ line ∷ []) next
    stated (Some name) new is =
        let it : with_state policy name ≡ next = cc in
        subst (λ p. IsReached (lines ++ line ∷ []) p) it
        (state_more lines line policy name draft (new_says policy line name new))
    stated None none is = rule_more lines line policy next draft is

    go : (b : Bool) → bytes_eq line end_line ≡ b →
        cond b (Some (Closed policy)) (stated_or_ruled policy line (new_state policy line)) ≡ Some next →
        IsReached (lines ++ line ∷ []) next
    go true ended is =
        let it : Closed policy ≡ next = cc in
        subst (λ p. IsReached (lines ++ line ∷ []) p) it (record {
          draft = lines;
          drafted = draft;
          is = ap (λ l. lines ++ l ∷ []) (same_text line end_line ended);
        })
    go false other is = stated (new_state policy line) refl is

-- each line leads on to what it says
pub reached_more : (lines : List Text) (line : Text) (now next : Progress) → IsReached lines now →
    after now line ≡ Some next → IsReached (lines ++ line ∷ []) next
unfolding IsDistinct
reached_more lines line Start next reached says =
    let found = made Titled (name_after (codes "policy ") line) next says in
    let named = name_after_says (codes "policy ") line found.value found.is in
    subst (λ p. IsReached (lines ++ line ∷ []) p) found.gives
    (ap (λ xs. xs ++ line ∷ []) reached ∙ ap (λ l. l ∷ []) named.0, named.1)
reached_more lines line (Titled name) next reached says =
    let found = made (begun name) (name_after (codes "state ") line) next says in
    let named = name_after_says (codes "state ") line found.value found.is in
    subst (λ p. IsReached (lines ++ line ∷ []) p) found.gives (record {
      rule_lines = [];
      is = ap (λ xs. xs ++ line ∷ []) reached.0 ∙ ap (λ l. policy_line name ∷ l ∷ []) named.0;
      rules = tt;
      name = reached.1;
      names = ap (λ b. b && true) named.1;
      distinct = (search rules, tt);
      some_states = omega arith;
      few_states = omega arith;
      few_rules = omega arith;
    })
reached_more lines line (Open policy) next reached says = open_more lines line policy next reached says
reached_more lines line (Closed policy) next reached says = absurd (cc)

-- a policy of this name with one state and no rules
abbrev smallest : Text → Policy
smallest name = record { name = name; states = codes "s" ∷ []; rules = [] }

smallest_draft : (name : Text) → IsTrue (is_name name) →
    IsDraft (policy_line name ∷ state_line (codes "s") ∷ []) (smallest name)
unfolding is_name IsDistinct
smallest_draft name named = record {
  rule_lines = [];
  is = refl;
  rules = tt;
  name = named;
  names = refl;
  distinct = (search rules, tt);
  some_states = omega arith;
  few_states = omega arith;
  few_rules = omega arith;
}

x_is_a_name : IsTrue (is_name (codes "x"))
unfolding is_name
x_is_a_name = refl

-- from each of these a policy can be had
pub begins : (lines : List Text) (now : Progress) → IsReached lines now → BeginsPolicy lines
begins lines Start reached = record {
  more = policy_line (codes "x") ∷ state_line (codes "s") ∷ end_line ∷ [];
  policy = smallest (codes "x");
  is = record {
    draft = policy_line (codes "x") ∷ state_line (codes "s") ∷ [];
    drafted = smallest_draft (codes "x") x_is_a_name;
    is = ap (λ xs. xs ++ policy_line (codes "x") ∷ state_line (codes "s") ∷ end_line ∷ []) reached;
  };
}
begins lines (Titled name) reached = record {
  more = state_line (codes "s") ∷ end_line ∷ [];
  policy = smallest name;
  is = record {
    draft = policy_line name ∷ state_line (codes "s") ∷ [];
    drafted = smallest_draft name reached.1;
    is = ap (λ xs. xs ++ state_line (codes "s") ∷ end_line ∷ []) reached.0;
  };
}
begins lines (Open policy) reached = record {
  more = end_line ∷ [];
  policy = policy;
  is = record { draft = lines; drafted = reached; is = refl };
}
begins lines (Closed policy) reached = record {
  more = [];
  policy = policy;
  is = subst (λ xs. IsPolicy xs policy) (sym (append-nil lines)) reached;
}

-- ---- the lines of a policy are read as that policy

abbrev policy_with : Text → List Text → List Rule → Policy
policy_with name states rules = record { name = name; states = states; rules = rules }

all_reach : {K : Type 0} (P : K → Type 0) (xs : List K) (y : K) (ys : List K) → AllByRecursion P (xs ++ y ∷ ys) → P y
all_reach P [] y ys all = all.0
all_reach P (x ∷ xs) y ys all = all_reach P xs y ys all.1

not_before : (before : List Text) (state : Text) (more : List Text) → HasOneNumberEach (before ++ state ∷ more) →
    is_numbered before state ≡ false
unfolding IsDistinct
not_before [] state more distinct = refl
not_before (first ∷ before) state more distinct =
    let apart = nat_list_eq_equiv.symm state first ∙
    all_reach (λ y. bytes_eq first y ≡ false) before state more distinct.0 in
    ap (λ b. b || is_numbered before state) apart ∙ not_before before state more distinct.1

few_so : (n most : ℕ) → n < most → nat_le most n ≡ false
few_so n most few = lt-leb most n few

state_read : (name : Text) (before : List Text) (state : Text) → IsTrue (is_name state) → length before < 256 →
    is_numbered before state ≡ false →
    after (Open (policy_with name before [])) (state_line state) ≡
    Some (Open (policy_with name (before ++ state ∷ []) []))
state_read name before state named few new =
    let now = policy_with name before [] in
    let line = state_line state in
    ap (λ b. stated_or_ruled now line (cond (not (length now.rules == 0) || b) None
    (option_and_then (λ n. cond (is_numbered before n) None (Some n)) (name_after (codes "state ") line))))
    (few_so (length before) 256 few) ∙
    ap (λ o. stated_or_ruled now line (option_and_then (λ n. cond (is_numbered before n) None (Some n)) o))
    (name_after_is (codes "state ") state named) ∙
    ap (λ b. stated_or_ruled now line (cond b None (Some state))) new

states_read : (name : Text) (before more : List Text) → IsTrue (list_all is_name more) →
    HasOneNumberEach (before ++ more) → length before + length more ≤ 256 →
    after_all (Some (Open (policy_with name before []))) (map state_line more) ≡
    Some (Open (policy_with name (before ++ more) []))
states_read name before [] named distinct few =
    ap (λ xs. Some (Open (policy_with name xs []))) (sym (append-nil before))
states_read name before (state ∷ more) named distinct few =
    let parts = and_parts (is_name state) (list_all is_name more) named in
    let together = append_assoc before (state ∷ []) more in
    ap (λ o. after_all o (map state_line more)) (state_read name before state parts.0 (omega arith)
    (not_before before state more distinct)) ∙
    states_read name (before ++ state ∷ []) more parts.1 (subst HasOneNumberEach (sym together) distinct)
    (omega (arith, length-append before (state ∷ []))) ∙ ap (λ xs. Some (Open (policy_with name xs []))) together

titled_read : (name : Text) (states : List Text) → IsTrue (list_all is_name states) → HasOneNumberEach states →
    1 ≤ length states → length states ≤ 256 →
    after_all (Some (Titled name)) (map state_line states) ≡ Some (Open (policy_with name states []))
titled_read name [] named distinct some few = absurd (omega arith)
titled_read name (state ∷ more) named distinct some few =
    let parts = and_parts (is_name state) (list_all is_name more) named in
    ap (λ o. after_all (option_map (begun name) o) (map state_line more))
    (name_after_is (codes "state ") state parts.0) ∙
    states_read name (state ∷ []) more parts.1 distinct (omega arith)

differ : (a b : Text) → bytes_eq a b ≡ false → a ≡ b → ⊥
differ a b other same = let is : bytes_eq a b ≡ true = ap (λ t. bytes_eq t b) same ∙ bytes_eq_self b in absurd (cc)

rule_read : (name : Text) (states : List Text) (before : List Rule) (line : Text) (rule : Rule) →
    HasOneNumberEach states → length before < 4096 → IsRuleLine states line rule →
    after (Open (policy_with name states before)) line ≡ Some (Open (policy_with name states (before ++ rule ∷ [])))
rule_read name states before line rule distinct few is =
    not_end (bytes_eq line end_line) refl ∙ no_state (new_state now line) refl ∙
    ap (λ b. cond b None (option_map (with_rule now) (rule_of states (words_of line))))
    (few_so (length before) 4096 few) ∙
    ap (option_map (with_rule now)) (line_is states line rule distinct is)
  where
    now : Policy
    now = policy_with name states before

    not_end : (b : Bool) → bytes_eq line end_line ≡ b →
        cond b (Some (Closed (policy_with name states before)))
        (stated_or_ruled (policy_with name states before) line (new_state (policy_with name states before) line)) ≡
        stated_or_ruled (policy_with name states before) line (new_state (policy_with name states before) line)
    not_end true ended =
        let words = subst (λ l. AreWritten (words_of l) (rule_words states rule)) (same_text line end_line ended)
        is.words in
        absurd (differ (codes "policy") (codes "on") refl words.0)
    not_end false other = refl

    no_state : (o : Option Text) → new_state (policy_with name states before) line ≡ o →
        stated_or_ruled (policy_with name states before) line (new_state (policy_with name states before) line) ≡
        ruled (policy_with name states before) line
    no_state (Some state) new =
        let said = new_says (policy_with name states before) line state new in
        let words = subst (λ l. AreWritten (words_of l) (rule_words states rule)) said.is is.words in
        absurd (differ (codes "state") (codes "on") refl words.0)
    no_state None none = ap (stated_or_ruled (policy_with name states before) line) none

rules_read : (name : Text) (states : List Text) (before more : List Rule) (lines : List Text) →
    HasOneNumberEach states → length before + length more ≤ 4096 → AreRuleLines states lines more →
    after_all (Some (Open (policy_with name states before))) lines ≡
    Some (Open (policy_with name states (before ++ more)))
rules_read name states before [] [] distinct few are =
    ap (λ xs. Some (Open (policy_with name states xs))) (sym (append-nil before))
rules_read name states before (rule ∷ more) (line ∷ lines) distinct few are =
    ap (λ o. after_all o lines) (rule_read name states before line rule distinct (omega arith) are.0) ∙
    rules_read name states (before ++ rule ∷ []) more lines distinct
    (omega (arith, length-append before (rule ∷ []))) are.1 ∙
    ap (λ xs. Some (Open (policy_with name states xs))) (append_assoc before (rule ∷ []) more)
rules_read name states before [] (line ∷ lines) distinct few are = absurd are
rules_read name states before (rule ∷ more) [] distinct few are = absurd are

pub policy_is_read : (lines : List Text) (policy : Policy) → IsPolicy lines policy →
    after_all (Some Start) lines ≡ Some (Closed policy)
policy_is_read lines policy is =
    let d = is.drafted in
    let states = map state_line policy.states in
    ap (after_all (Some Start)) (is.is ∙ ap (λ xs. xs ++ end_line ∷ []) d.is) ∙
    ap (λ o. after_all (option_map Titled o) ((states ++ d.rule_lines) ++ end_line ∷ []))
    (name_after_is (codes "policy ") policy.name d.name) ∙
    after_more (Some (Titled policy.name)) (states ++ d.rule_lines) (end_line ∷ []) ∙
    ap (λ o. after_all o (end_line ∷ [])) (after_more (Some (Titled policy.name)) states d.rule_lines ∙
    ap (λ o. after_all o d.rule_lines)
    (titled_read policy.name policy.states d.names d.distinct d.some_states d.few_states) ∙
    rules_read policy.name policy.states [] policy.rules d.rule_lines d.distinct (omega (arith, d.few_rules)) d.rules)
