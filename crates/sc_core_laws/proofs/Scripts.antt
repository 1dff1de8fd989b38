-- A run in which a set performs its part of a legal trace: where it is out of turns while it keeps to the trace and
-- hasn't emitted all of it, it has none left. For there the next row of the active compartment is its next event. Nor
-- has it any left where the active compartment doesn't perform, for then it lacks no row.
use Rattle.sc_core_laws.proofs.Common.{Action, BadType, Blamed, Body, Bool, Call, CallTarget, Cross, Denotations, End}
use Rattle.sc_core_laws.proofs.Common.{Ended, Event, EventsOut, Export, ExportsLead, Here, In, Input, Interfaces, Kept}
use Rattle.sc_core_laws.proofs.Common.{List, Main, Memory, None, Obedient, Option, Out, Output, Piece, Property, Ret}
use Rattle.sc_core_laws.proofs.Common.{Roles, Row, RunEnd, CompSet, Some, SpendsAlong, Standing, State, Stopped}
use Rattle.sc_core_laws.proofs.Common.{TurnsOut}
use Rattle.sc_core_laws.proofs.Common.{Value, Word, [], action_of, acts, and_from, and_parts, and_then, ap, arith, asks}
use Rattle.sc_core_laws.proofs.Common.{at_start, called, count_of, drop, drop_next, emit_event, eq-eqb, eqb-true, false}
use Rattle.sc_core_laws.proofs.Common.{false≢true, first_state, function, if◌then◌else◌, imports, is_allowed}
use Rattle.sc_core_laws.proofs.Common.{is_legal_from, is_number, is_some, is_word, leads, legal, length-map, list_all}
use Rattle.sc_core_laws.proofs.Common.{map, may_call, may_perform, part, performer, performs, refl, roles_in, rows_left}
use Rattle.sc_core_laws.proofs.Common.{run_step, scripted_call, scripted_step, stands_after, stands_after_all, subst}
use Rattle.sc_core_laws.proofs.Common.{suc, sym, takes, then_kept, true, within, zero, ℕ, ◌++◌, ◌<◌, ◌∙◌, ◌∷◌, ◌≡◌}
use Rattle.sc_event.specs.declared.row.Action.TheVariants as act
use Rattle.sc_core_laws.specs.Prelude.{IsSpentOutside, SpendsOutside}
use Rattle.sc_core_laws.proofs.Growing.{BodyGoes, within_goes}
use Rattle.sc_core_laws.proofs.Keeping.{Walk, place, BodyWalks, raise, cross_walks, main_walks, run_step_walks}
use Rattle.sc_core_laws.proofs.Keeping.{led_somewhere, led_there}
use Rattle.sc_core_laws.proofs.Matching.{scripted_goes_on}
use Rattle.sc_core_laws.proofs.Rows.{Next, counts_its_own, row_of_next, stands_last}

-- TRACES
-- an event of a legal trace is allowed where the run stands before it
pub allowed_at : (interfaces : Interfaces) (at : Option Standing) (u : List Event) (e : Event) (more : List Event)
    (st : Standing) → is_legal_from interfaces at (u ++ e ∷ more) ≡ true → stands_after_all at u ≡ Some st →
    is_allowed interfaces st e ≡ true
allowed_at interfaces None [] e more st l is = absurd (cc)
allowed_at interfaces (Some a) [] e more st l is = grind (arith, l, is)
allowed_at interfaces None (x ∷ u) e more st l is = absurd (false≢true l)
allowed_at interfaces (Some a) (x ∷ u) e more st l is = allowed_at interfaces _ u e more st (and_parts _ _ l).1 is

-- words are words
pub words_are : (args : List ℕ) → list_all is_word (map (λ w. Word w) args) ≡ true
words_are [] = refl
words_are (w ∷ args) = words_are args

-- A run that stops for want of turns has none left while it keeps to the trace, with an event to come, and none where
-- the active compartment doesn't perform.
record HasSpent (main : ℕ) (trace : List Event) (set : CompSet) (s : State) : Type 0 where
  along : (event : Event) (more : List Event) → trace ≡ s.trace ++ event ∷ more → s.turns ≡ 0
  outside : IsSpentOutside main set s

abbrev Spent : ℕ → List Event → CompSet → RunEnd → State → Type 0
Spent main trace set Ended s = Unit {0}
Spent main trace set (Blamed comp cause line) s = Unit {0}
Spent main trace set TurnsOut s = HasSpent main trace set s
Spent main trace set EventsOut s = Unit {0}

module _ (main : ℕ) (trace : List Event) where
  -- fewer turns than a number are left, and the run stands here
  record Stands (n : ℕ) (st : Standing) (turns : ℕ) (emitted : List Event) : Type 0 where
    pub few : turns < n
    pub stands : stands_after_all (at_start main) emitted ≡ Some st

  abbrev At : ℕ → Standing → State → Type 0
  At n st s = Stands n st s.turns s.trace

  emitted : (n : ℕ) (st next : Standing) (s : State) (e : Event) → At n st s → stands_after st e ≡ Some next →
      At n next (emit_event e s)
  emitted n st next s e at then_on = record { few = at.few; stands = stands_last _ s.trace e st at.stands ∙ then_on }

-- FUNCTIONS
module _ (denotations : Denotations) (leads_on : ExportsLead denotations) (trace : List Event)
    (legal_trace : legal denotations.interfaces trace ≡ true) (set : CompSet) where
  abbrev main : ℕ
  main = denotations.interfaces.main

  abbrev roles : Roles
  roles = roles_in main set trace

  abbrev Now : ℕ → Standing → State → Type 0
  Now = At main trace

  -- a function that performs is the one by which its compartment was entered
  record Runs (st : Standing) (comp number : ℕ) : Type 0 where
    pub active : comp ≡ st.active.comp
    pub entered : set comp ≡ true → denotations.entered comp st.active.entry ≡ Some number

  abbrev entered_at : Standing → ℕ → ℕ → Standing
  entered_at st to index =
      record { active = record { comp = to; entry = Export index }; waiting = st.active ∷ st.waiting }

  abbrev walk : Walk denotations
  walk = record {
    Place = Standing;
    At = Now;
    Ends = Spent main trace set;
    In = λ st comp. comp ≡ st.active.comp;
    Runs = Runs;
    inner = λ st comp f. st;
    across = entered_at;
    cross_runs = λ st to index number f same. record { active = refl; entered = λ performing. same };
    halts = λ st s at. (let few = at.few in absurd (omega (arith, few)));
    spent = λ n st s none here. record {
      along = λ event more along. none;
      outside = record { at = st; stood = here.stands; spent = λ out. none };
    };
    less = λ n m st s is at. record { few = (let few = at.few in omega (arith, is, few)); stands = at.stands };
    raised = λ n st s at. record { few = (let few = at.few in omega (arith, few)); stands = at.stands };
    stored = λ n st s memory at. at;
    begins = λ n st comp f args s at. at;
    ends = λ n st comp f first s at. at;
    enters = λ n st from to index args s here may at. emitted main trace n st (entered_at st to index) s _ at refl;
    leaves = λ n st from to index args v s here may at. emitted main trace n (entered_at st to index) st s _ at refl;
    reads = λ n st from args s here may at. emitted main trace n st st s _ at refl;
    writes = λ n st from args s here may at. emitted main trace n st st s _ at refl;
  }

  abbrev Kind : ℕ → Standing → Property
  Kind = place denotations walk

  abbrev BodyAlong : ℕ → Body → Type 0
  BodyAlong = BodyWalks denotations walk

  -- where a compartment that performs has no row for what comes next, nothing comes next
  wants_row : (k comp : ℕ) (st : Standing) (s : State) → comp ≡ st.active.comp → set comp ≡ true → Now k st s →
      ((event : Event) (more : List Event) → trace ≡ s.trace ++ event ∷ more → ⊥) → HasSpent main trace set s
  wants_row k comp st s active performing here none = record {
    along = λ event more is. absurd (none event more is);
    outside = record {
      at = st;
      stood = here.stands;
      spent = λ out. (let clash : true ≡ false = sym performing ∙ ap set active ∙ out in cc clash);
    };
  }

  module _ (n : ℕ) (body : Body) (along : BodyAlong n body) where
    -- OF COMPARTMENTS THAT PERFORM
    -- what is asked for may be called
    abbrev MayAsk : ℕ → Action → Type 0
    MayAsk comp (act.Call to index args) = may_call denotations comp (Cross to index) (map (λ w. Word w) args) ≡ true
    MayAsk comp (act.Ret v) = Unit {0}
    MayAsk comp (act.Out w) = may_call denotations comp Output (Word w ∷ []) ≡ true
    MayAsk comp (act.In w) = may_call denotations comp Input [] ≡ true
    MayAsk comp (act.End w) = Unit {0}

    may_ask : (st : Standing) (comp : ℕ) (e : Event) → performer e ≡ comp →
        may_perform denotations.interfaces st e ≡ true → MayAsk comp (action_of e)
    may_ask st comp (Call from to index args) own may =
        let parts = and_parts (imports denotations.interfaces from _) _ may in
        subst (λ c. may_call denotations c (Cross to index) (map (λ w. Word w) args) ≡ true) own (and_from _ _ parts.0
        (and_from (takes denotations.interfaces to index _) _
        (ap (takes denotations.interfaces to index) (length-map args _) ∙ parts.1)
        (and_from (list_all is_word (map _ args)) _ (words_are args) (leads_on to index _ parts.1))))
    may_ask st comp (Ret from to v) own may = tt
    may_ask st comp (Out from w) own may =
        subst (λ c. may_call denotations c Output (Word w ∷ []) ≡ true) own (and_from _ _ may refl)
    may_ask st comp (In from w) own may = subst (λ c. may_call denotations c Input [] ≡ true) own may
    may_ask st comp (End from w) own may = tt

    -- the next event of the trace is the compartment's next row
    record IsNext (st : Standing) (comp : ℕ) (u : List Event) (e : Event) : Type 0 where
      pub row : Next (rows_left roles comp u) st e
      pub own : performer e ≡ comp
      pub may : may_perform denotations.interfaces st e ≡ true

    is_next : (st : Standing) (comp : ℕ) (s : State) (e : Event) (more : List Event) → comp ≡ st.active.comp →
        Now (suc n) st s → trace ≡ s.trace ++ e ∷ more → IsNext st comp s.trace e
    is_next st comp s e more here at is =
        let allowed = allowed_at denotations.interfaces (at_start main) s.trace e more st
        (subst (λ t. legal denotations.interfaces t ≡ true) is legal_trace) at.stands in
        let parts = and_parts _ _ allowed in
        let own = eqb-true _ _ parts.0 ∙ sym here in
        record { row = row_of_next main comp trace s.trace e more st is at.stands own; own = own; may = parts.1 }

    -- a function of a compartment that performs, with the row that it performs next
    module _ (row : Row) (rest : List Row) (number : ℕ) (here : Here) (s : State) (st : Standing)
        (rows : row ∷ rest ≡ rows_left roles here.comp s.trace) (active : here.comp ≡ st.active.comp)
        (is : is_some (function denotations here.comp number) ≡ true)
        (performing : set here.comp ≡ true)
        (entered : denotations.entered here.comp st.active.entry ≡ Some number) (at : Now (suc n) st s)
        (next : (t : State) → rest ≡ rows_left roles here.comp t.trace → Now (suc n) st t →
        Kept (Kind (suc n) st) (performs denotations body rest number here t)) where
      same_row : (e : Event) (more : List Event) → (following : IsNext st here.comp s.trace e) →
          row ≡ record { entry = st.active.entry; number = following.row.number; action = action_of e }
      same_row e more following = let same = rows ∙ following.row.is in cc same

      -- it names this function
      names : (e : Event) (more : List Event) → trace ≡ s.trace ++ e ∷ more →
          is_number number (denotations.entered here.comp row.entry) ≡ true
      names e more along_trace =
          let following = is_next st _ s e more active at along_trace in
          ap (λ r. is_number number (denotations.entered here.comp r.entry)) (same_row e more following) ∙
          ap (is_number number) entered ∙ eq-eqb number number refl

      -- and asks for what may be called
      asked : (action : Action) → row.action ≡ action → (e : Event) (more : List Event) →
          trace ≡ s.trace ++ e ∷ more → MayAsk here.comp action
      asked action its e more along_trace =
          let following = is_next st _ s e more active at along_trace in
          subst (MayAsk _) (sym (ap (λ r. r.action) (same_row e more following)) ∙ its)
          (may_ask st _ e following.own following.may)

      -- once an event was emitted, the rows after it are left
      rows_then : (e : Event) → performer e ≡ here.comp → rest ≡ rows_left roles here.comp (s.trace ++ e ∷ [])
      rows_then e own = ap (drop 1) rows ∙ drop_next (part main _ trace) (count_of _ s.trace)
          ∙ ap (λ k. drop k (part main here.comp trace)) (sym (counts_its_own _ s.trace e own))

      asks_along : (target : CallTarget) (args : List Value) (action : Action)
          (k : Option Value → State → Piece (Option Value)) → row.action ≡ action →
          (MayAsk here.comp action → may_call denotations here.comp target args ≡ true) →
          (may_call denotations here.comp target args ≡ true →
          Kept (Kind (suc n) st) (and_then (called denotations body here.comp target args s) k)) →
          Kept (Kind (suc n) st) (and_then (asks denotations body here.comp target args s) k)
      asks_along target args action k its well go = by _ refl where
        by : (b : Bool) → may_call denotations here.comp target args ≡ b → Kept (Kind (suc n) st) (and_then (if b then
            (if b then called denotations body here.comp target args s else Stopped (Blamed here.comp BadType 0) s) else
            Stopped TurnsOut s) k)
        by true may = go may
        by false may = record {
          after = wants_row (suc n) here.comp st s active performing at (λ e more along_trace.
              (let clash : false ≡ true = sym may ∙ well (asked action its e more along_trace) in cc clash));
        }

      acts_along : (action : Action) → row.action ≡ action → Kept (Kind (suc n) st)
          (acts denotations body action (performs denotations body rest number here) (body number here) here.comp s)
      acts_along (act.Call to index args) its = asks_along (Cross to index) (map (λ w. Word w) args) _ _ its (λ h. h)
          (λ may. raise denotations walk n st _
          (then_kept (Kind n st) (called denotations body here.comp (Cross to index) (map
          _ args) s) _ (cross_walks denotations walk n body along st here.comp to index (map _ args) s active may at)
          (λ v t
          at. along number here t st is (record { active = active; entered = λ performing. entered }) at)))
      acts_along (act.Ret v) its = record { after = at }
      acts_along (act.Out w) its = asks_along Output (Word w ∷ []) _ _ its (λ h. h)
          (λ may. next _ (rows_then _ refl) (emitted main trace _ st st s _ at refl))
      acts_along (act.In w) its = asks_along Input [] _ _ its (λ h. h) (λ may. next _ (rows_then _ refl)
          (emitted main trace _ st st s _ at refl))
      acts_along (act.End w) its = record { after = at }

      row_along : Kept (Kind (suc n) st) (performs denotations body (row ∷ rest) number here s)
      row_along = by (is_number number (denotations.entered here.comp row.entry)) refl where
        by : (b : Bool) → is_number number (denotations.entered here.comp row.entry) ≡ b → Kept (Kind (suc n) st)
            (if b then acts denotations body row.action (performs denotations body rest number here) (body number here)
            here.comp s else Stopped TurnsOut s)
        by true named = acts_along row.action refl
        by false named = record {
          after = wants_row (suc n) here.comp st s active performing at (λ e more along_trace.
              (let clash : false ≡ true = sym named ∙ names e more along_trace in cc clash));
        }

    performs_along : (rows : List Row) (number : ℕ) (here : Here) (s : State) (st : Standing) →
        rows ≡ rows_left roles here.comp s.trace → here.comp ≡ st.active.comp →
        is_some (function denotations here.comp number) ≡ true → set here.comp ≡ true →
        denotations.entered here.comp st.active.entry ≡ Some number →
        Now (suc n) st s → Kept (Kind (suc n) st) (performs denotations body rows number here s)
    performs_along [] number here s st rows active is performing entered at = record {
      after = wants_row (suc n) here.comp st s active performing at (λ e more along_trace.
          (let following = is_next st _ s e more active at along_trace in
          let never = rows ∙ following.row.is in cc never));
    }
    performs_along (row ∷ rest) number here s st rows active is performing entered at =
        row_along row rest number here s st rows active is performing entered at
        (λ t rows at. performs_along rest number here t st rows active is performing entered at)

  module _ (obedient : Obedient denotations) where
    abbrev its_bodies : ℕ → Body
    its_bodies = within (scripted_step denotations roles (run_step denotations))

    step_along : (n : ℕ) (body : Body) → BodyGoes body → BodyAlong n body →
        BodyAlong (suc n) (scripted_step denotations roles (run_step denotations) body)
    step_along n body goes along number here s st is runs at = by (set here.comp) refl where
      by : (b : Bool) → set here.comp ≡ b → Kept (Kind (suc n) st) (if b then performs denotations body
          (rows_left roles here.comp s.trace) number here s else run_step denotations body number here s)
      by true performing = performs_along n body along (rows_left roles here.comp s.trace) number here s st refl
          runs.active is performing (runs.entered performing) at
      by false plain = run_step_walks denotations walk n body along obedient goes number here s st is runs.active
          (λ k f. record { active = runs.active; entered = λ performing. absurd (false≢true (sym plain ∙ performing)) })
          (λ cause line s at. tt) at

    within_along : (n : ℕ) → BodyAlong n (its_bodies n)
    within_along zero number here s st is runs at = let few = at.few in absurd (omega (arith, few))
    within_along (suc n) number here s st is runs at = step_along n (its_bodies n)
        (within_goes (scripted_step denotations roles _) (scripted_goes_on denotations obedient roles) n)
        (within_along n)
        number here s st is runs at

    abbrev first : Standing
    first = record { active = record { comp = main; entry = Main }; waiting = [] }

    main_along : (globals : Memory) (inputs : List ℕ) (turns : ℕ) →
        leads denotations main (denotations.entered main Main) ≡ true →
        Kept (Kind (suc turns) first) (scripted_call denotations roles globals inputs turns)
    main_along globals inputs turns is = main_walks denotations walk (suc turns)
        (its_bodies (suc turns)) (within_along (suc turns)) first (first_state globals inputs turns)
        (λ none. absurd (cc (led_somewhere denotations main _ is, none)))
        (λ number same none. absurd (cc (led_there denotations main number _ is same, none)))
        (λ number f same. record { active = refl; entered = λ performing. same })
        (record { few = omega arith; stands = refl })

-- a run that stops for want of turns
has_spent : (denotations : Denotations) → Obedient denotations → ExportsLead denotations →
    leads denotations denotations.interfaces.main (denotations.entered denotations.interfaces.main Main) ≡ true →
    (trace : List Event) → legal denotations.interfaces trace ≡ true → (set : CompSet) (globals : Memory)
    (inputs : List ℕ) (turns : ℕ) (s : State) →
    scripted_call denotations (roles_in denotations.interfaces.main set trace) globals inputs turns ≡ Stopped TurnsOut
    s → HasSpent denotations.interfaces.main trace set s
has_spent denotations obedient leads_on main_leads trace legal_trace set globals inputs turns s is =
    let kept = main_along denotations leads_on trace legal_trace set obedient globals inputs turns main_leads in
    (subst (λ x. Kept (Kind denotations leads_on trace legal_trace set (suc turns)
    (first denotations leads_on trace legal_trace set obedient)) x) is kept).after

pub spends_along : (denotations : Denotations) → Obedient denotations → ExportsLead denotations →
    leads denotations denotations.interfaces.main (denotations.entered denotations.interfaces.main Main) ≡ true →
    (trace : List Event) → legal denotations.interfaces trace ≡ true → SpendsAlong denotations trace
spends_along denotations obedient leads_on main_leads trace legal_trace set globals inputs turns s is =
    (has_spent denotations obedient leads_on main_leads trace legal_trace set globals inputs turns s is).along

pub spends_outside : (denotations : Denotations) → Obedient denotations → ExportsLead denotations →
    leads denotations denotations.interfaces.main (denotations.entered denotations.interfaces.main Main) ≡ true →
    (trace : List Event) → legal denotations.interfaces trace ≡ true → SpendsOutside denotations trace
spends_outside denotations obedient leads_on main_leads trace legal_trace set globals inputs turns s is =
    (has_spent denotations obedient leads_on main_leads trace legal_trace set globals inputs turns s is).outside
