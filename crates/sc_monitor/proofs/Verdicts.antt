-- A verdict goes over the events one by one: what a violation is, and when there is none.
use Rattle.sc_monitor.proofs.Common.{Bool, Breaks, Event, Explanation, Goes, Holds, Interfaces, IsViolation, Link, List}
use Rattle.sc_monitor.proofs.Common.{Move, NamesNoEvent, None, Option, Policy, Rule, Some, Verdict, Violated, []}
use Rattle.sc_monitor.proofs.Common.{after_move}
use Rattle.sc_monitor.proofs.Common.{ap, arith, by_goal, by_rule, cond, false, goal_of, is_compromised, matches}
use Rattle.sc_monitor.proofs.Common.{move_at}
use Rattle.sc_monitor.proofs.Common.{option_map, performer, position, position-cons, refl, rule_for, slice_get, suc}
use Rattle.sc_monitor.proofs.Common.{sym}
use Rattle.sc_monitor.proofs.Common.{take, true, verdict, verdict_from, zero, ℕ, ◌&&◌, ◌+◌, ◌==◌, ◌∙◌, ◌∷◌, ◌≡◌}

-- what an event breaks is the rule that it takes, which has no goal
record IsDenied (rules : List Rule) (taken : Option ℕ) (rule : ℕ) : Type 0 where
  pub place : ℕ
  pub is : taken ≡ Some place
  pub denies : goal_of rules place ≡ None
  pub counted : rule ≡ place + 1

denied_at : (rules : List Rule) (place : ℕ) (goal : Option ℕ) (rule : ℕ) → goal_of rules place ≡ goal →
    by_goal (place + 1) goal ≡ Breaks rule → IsDenied rules (Some place) rule
denied_at rules place None rule is breaks = record { place = place; is = refl; denies = is; counted = cc }
denied_at rules place (Some goal) rule is breaks = absurd (cc)

denied : (rules : List Rule) (state : ℕ) (taken : Option ℕ) (rule : ℕ) → by_rule rules state taken ≡ Breaks rule →
    IsDenied rules taken rule
denied rules state None rule breaks = absurd (cc)
denied rules state (Some place) rule breaks = denied_at rules place (goal_of rules place) rule refl breaks

module _ (rules : List Rule) (interfaces : Interfaces) (given : List ℕ) (links : List Link) where
  abbrev from : (after state : ℕ) → List Event → Verdict
  from = verdict_from rules interfaces given links

  -- the violation is `i` events further on
  record IsFurther (trace : List Event) (start begins after comp rule : ℕ) (compromised : Bool) : Type 0 where
    pub i : ℕ
    pub sum : after ≡ start + i
    pub event : Event
    pub at : slice_get trace i ≡ Some event
    pub by : performer event ≡ comp
    pub state : ℕ
    pub before : from start begins (take i trace) ≡ Holds state
    pub denied : IsDenied rules (rule_for rules interfaces state event) rule
    pub replaced : compromised ≡ is_compromised given links comp after

  further : (trace : List Event) (start begins after comp rule : ℕ) (compromised : Bool) →
      from start begins trace ≡ Violated after comp rule compromised →
      IsFurther trace start begins after comp rule compromised
  further [] start begins after comp rule compromised violated = absurd (cc)
  further (event ∷ later) start begins after comp rule compromised violated =
      at (λ next. further later (start + 1) next after comp rule compromised)
      (move_at rules interfaces begins event) refl
      violated
    where
      at : ((next : ℕ) → from (start + 1) next later ≡ Violated after comp rule compromised →
          IsFurther later (start + 1) next after comp rule compromised) → (move : Move) →
          move_at rules interfaces begins event ≡ move →
          after_move move (λ next. from (start + 1) next later)
          (λ broken. Violated start (performer event) broken (is_compromised given links (performer event) start)) ≡
          Violated after comp rule compromised →
          IsFurther (event ∷ later) start begins after comp rule compromised
      at goes_on (Goes next) is violates =
          let rest = goes_on next violates in record {
            i = suc rest.i;
            sum = omega (arith, rest.sum);
            event = rest.event;
            at = rest.at;
            by = rest.by;
            state = rest.state;
            before = ap (λ move. after_move move (λ next. from (start + 1) next (take rest.i later))
                (λ broken. Violated start (performer event) broken
                (is_compromised given links (performer event) start))) is ∙ rest.before;
            denied = rest.denied;
            replaced = rest.replaced;
          }
      at goes_on (Breaks broken) is violates =
          let same_place : start ≡ after = cc in
          let same_comp : performer event ≡ comp = cc in
          let same_rule : broken ≡ rule = cc in
          let same_answer : is_compromised given links (performer event) start ≡ compromised = cc in record {
            i = zero;
            sum = omega (arith, same_place);
            event = event;
            at = refl;
            by = same_comp;
            state = begins;
            before = refl;
            denied = denied rules begins (rule_for rules interfaces begins event) rule (is ∙ ap Breaks same_rule);
            replaced = sym same_answer ∙ ap (λ c. is_compromised given links c start) same_comp ∙
                ap (λ k. is_compromised given links comp k) same_place;
          }

-- a rule that matches no event is taken by none
skipped : (b : Bool) → (b && false) ≡ false
skipped true = refl
skipped false = refl

none_taken : (rules : List Rule) (interfaces : Interfaces) (state : ℕ) (event : Event) →
    ((place : ℕ) (rule : Rule) → slice_get rules place ≡ Some rule → matches interfaces rule.pattern event ≡ false) →
    rule_for rules interfaces state event ≡ None
none_taken [] interfaces state event never = refl
none_taken (rule ∷ rules) interfaces state event never =
    let test : Rule → Bool = (λ r. r.state == state && matches interfaces r.pattern event) in
    let fails : test rule ≡ false = ap (λ b. rule.state == state && b) (never zero rule refl) ∙
    skipped (rule.state == state) in
    let later = none_taken rules interfaces state event (λ place r is. never (suc place) r is) in
    position-cons test rule rules ∙ ap (λ b. cond b (Some 0) (option_map suc (position test rules))) fails ∙
    ap (option_map suc) later

holds_from : (rules : List Rule) (interfaces : Interfaces) (given : List ℕ) (links : List Link) (trace : List Event) (start state : ℕ) →
    NamesNoEvent rules interfaces trace → verdict_from rules interfaces given links start state trace ≡ Holds state
holds_from rules interfaces given links [] start state names = refl
holds_from rules interfaces given links (event ∷ later) start state names =
    let stays = none_taken rules interfaces state event (λ place rule is. names.at place zero rule event is refl) in
    ap (λ taken. after_move (by_rule rules state taken)
    (λ next. verdict_from rules interfaces given links (start + 1) next later)
    (λ broken. Violated start (performer event) broken (is_compromised given links (performer event) start))) stays ∙
    holds_from rules interfaces given links later (start + 1) state
    (record { at = λ place k rule e is there. names.at place (suc k) rule e is there })

-- ---- the laws

pub holds_unnamed : (policy : Policy) (interfaces : Interfaces) (explanation : Explanation) →
    NamesNoEvent policy.rules interfaces explanation.trace → verdict policy interfaces explanation ≡ Holds 0
holds_unnamed policy interfaces explanation names =
    holds_from policy.rules interfaces explanation.given explanation.links explanation.trace 0 0 names

pub is_violation : (policy : Policy) (interfaces : Interfaces) (explanation : Explanation) (after comp rule : ℕ)
    (compromised : Bool) → verdict policy interfaces explanation ≡ Violated after comp rule compromised →
    IsViolation policy.rules interfaces explanation.given explanation.links explanation.trace after comp rule
is_violation policy interfaces explanation after comp rule compromised violated =
    let found = further policy.rules interfaces explanation.given explanation.links explanation.trace 0 0 after comp rule compromised
    violated in
    let same : found.i ≡ after = omega (arith, found.sum) in record {
      event = found.event;
      at = ap (λ k. slice_get explanation.trace k) (sym same) ∙ found.at;
      by = found.by;
      state = found.state;
      before = ap (λ k. verdict_from policy.rules interfaces explanation.given explanation.links 0 0 (take k explanation.trace))
          (sym same) ∙ found.before;
      place = found.denied.place;
      taken = found.denied.is;
      denies = found.denied.denies;
      counted = found.denied.counted;
    }

pub is_replaced : (policy : Policy) (interfaces : Interfaces) (explanation : Explanation) (after comp rule : ℕ)
    (compromised : Bool) → verdict policy interfaces explanation ≡ Violated after comp rule compromised →
    compromised ≡ is_compromised explanation.given explanation.links comp after
is_replaced policy interfaces explanation after comp rule compromised violated =
    let found = further policy.rules interfaces explanation.given explanation.links explanation.trace 0 0 after comp rule compromised
    violated in
    found.replaced

pub is_clean : (policy : Policy) (interfaces : Interfaces) (explanation : Explanation) (after comp rule : ℕ)
    (compromised : Bool) → explanation.given ≡ [] → explanation.links ≡ [] →
    verdict policy interfaces explanation ≡ Violated after comp rule compromised → compromised ≡ false
is_clean policy interfaces explanation after comp rule compromised nobody none violated =
    is_replaced policy interfaces explanation after comp rule compromised violated ∙
    ap (λ given. is_compromised given explanation.links comp after) nobody ∙
    ap (λ links. is_compromised [] links comp after) none
