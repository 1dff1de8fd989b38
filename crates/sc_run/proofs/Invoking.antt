-- Calls in statements: refused, looked up, and of the environment.
use Rattle.sc_run.proofs.Common.{BadType, Blamed, Bool, Call, Callee, Comes, Cross, Doing, EntryAt, Err, Export}
use Rattle.sc_run.proofs.Common.{FoundAt, Frame, Function, In, Input, Left, List, None, Ok, Option, Out, Output, Own}
use Rattle.sc_run.proofs.Common.{Piece, ProgramTree, Reached, Result, RunEnd, Seen, Some, State, Step, Steps, Stop}
use Rattle.sc_run.proofs.Common.{Stopped, To, TypedExpr, Value, Word, Work, [], and_then, ap, arith, back_cross}
use Rattle.sc_run.proofs.Common.{back_from, back_own, bodies, call, called, calls_in, computed, crossed, denotations}
use Rattle.sc_run.proofs.Common.{drop, emit_event, entry_from, entry_in, false, false≢true, first_word, found, function}
use Rattle.sc_run.proofs.Common.{here_of, if◌then◌else◌, is_some, is_word, leads, length, map, may_call, next_input}
use Rattle.sc_run.proofs.Common.{read_input, refl, result_goes, run_in, seen_of, sym, then_then, true, true≢false, turn}
use Rattle.sc_run.proofs.Common.{values, way_in, word_in, ℕ, ◌&&◌, ◌++◌, ◌∙◌, ◌∷◌, ◌≡◌}
use Rattle.sc_event.specs.Prelude.{imports, is_function, takes}
use Rattle.std.specs.List.{list_all}
use Rattle.sc_base.proofs.Bools.{and_rest}
use Rattle.sc_core.specs.declared.expr.CallTarget.{CallTarget}
use Rattle.sc_run.proofs.Looping.{step_stops, steps_as, steps_on}

-- words cross as they are
words_cross : (args : List Value) → list_all is_word args ≡ true → crossed args ≡ args
words_cross [] words = refl
words_cross (Word w ∷ args) words = ap (λ vs. Word w ∷ vs) (words_cross args words)
words_cross (_ ∷ args) words = absurd (false≢true words)

first_fails : (a b c d : Bool) → (a && (b && c)) ≡ false → (a && (b && (c && d))) ≡ false
first_fails true true true d is = absurd (true≢false is)
first_fails _ _ _ _ is = refl

last_fails : (a b c : Bool) {d : Bool} → d ≡ false → (a && (b && (c && d))) ≡ false
last_fails true true true is = is
last_fails _ _ _ is = refl

all_hold : (a b c : Bool) {d : Bool} → (a && (b && c)) ≡ true → d ≡ true → (a && (b && (c && d))) ≡ true
all_hold true true true is last = last
all_hold _ _ _ is last = absurd (false≢true is)

module _ (program : ProgramTree) (f : Frame) (to : To) where
  abbrev rg : Option Value → State → Piece (Left (Unit {0}))
  rg = result_goes program f to

  -- the blame of a call that may not be made
  abbrev pub refusal : RunEnd
  refusal = Blamed f.scope.comp.now BadType 0

  abbrev stops_here : {V : Type 0} → State → Piece V
  stops_here s = Stopped refusal s

  halts : {V : Type 0} {before : Seen} → Comes before before (Err refusal) (stops_here {V = V})
  halts = record { comes = λ s is_seen. (refl, is_seen); fewer = omega arith; lengths = λ comp. omega arith }

  -- a call that is refused, or made
  abbrev calling : CallTarget → List Value → Doing
  calling target args n s = and_then (calls_in program n f.scope.comp.now target args s) rg

  abbrev tried : Bool → CallTarget → List Value → Doing
  tried b target args n s = and_then
      (if b then called (denotations program) (bodies program n) f.scope.comp.now target args
      s else Stopped refusal s) rg

  pub refused : {cost : ℕ} {before : Seen} {work : List Work} (target : CallTarget) (args : List Value) {end : RunEnd} →
      end ≡ refusal → may_call (denotations program) f.scope.comp.now target args ≡ false →
      Steps program cost before work f (calling target args) (Stop end) before work f
  refused target args same is = rw same (steps_as (λ n s. ap (λ b. tried b target args n s) is)
      (step_stops (λ n. rg) halts))

  allowed : {cost : ℕ} {before after : Seen} {work later : List Work} (target : CallTarget) (args : List Value)
      {step : Step} {g : Frame} → may_call (denotations program) f.scope.comp.now target args ≡ true →
      Steps program cost before work f (tried true target args) step after later g →
      Steps program cost before work f (calling target args) step after later g
  allowed target args is h = steps_as (λ n s. ap (λ b. tried b target args n s) is) h

  pub own_missing : {cost : ℕ} {before : Seen} {work : List Work} (number : ℕ) (args : List Value)
      {end : RunEnd} → end ≡ refusal →
      function (denotations program) f.scope.comp.now number ≡ None →
      Steps program cost before work f (calling (Own number) args) (Stop end) before work f
  own_missing number args same is = refused (Own number) args same (ap is_some is)

  -- a function that is entered, as a call sees it
  abbrev entering : Callee → List Value → Option ℕ → Doing
  entering callee args crossing n s =
      and_then (and_then (turn s) (λ _ s. run_in (denotations program) (bodies program n) callee.comp.now callee.number
      args
      (back_from program f callee crossing) (entry_from f callee args crossing s))) rg

  is_there : (callee : Callee) {comp number : ℕ} → callee.comp.now ≡ comp → callee.number ≡ number → {g : Function} →
      function (denotations program) callee.comp.now callee.number ≡ Some g →
      is_some (function (denotations program) comp number) ≡ true
  is_there callee here place there = (λ i. is_some
      (function (denotations program) (sym here i) (sym place i))) ∙ ap is_some there

  pub own_enters : {cost : ℕ} {before after : Seen} {work later : List Work} (callee : Callee) (number : ℕ)
      (args : List Value) {step : Step} {g : Frame} → FoundAt program f.scope.comp.now number (Some callee) →
      Steps program cost before work f (entering callee args None) step after later g →
      Steps program cost before work f (calling (Own number) args) step after later g
  own_enters callee number args found h = allowed (Own number) args (is_there callee found.0 found.1 found.2)
      (steps_as (λ n s i. and_then (and_then (turn s) (λ _ s. run_in (denotations program) (bodies program n)
      (sym found.0 i) (sym found.1 i) args back_own s)) rg) h)

  module _ (comp index : ℕ) (args : List Value) where
    abbrev imported : Bool
    imported = imports program.interfaces f.scope.comp.now (is_function comp index)

    abbrev taken : Bool
    taken = takes program.interfaces comp index (length args)

    abbrev words : Bool
    words = list_all is_word args

    abbrev leads_there : Option ℕ → Bool
    leads_there o = leads (denotations program) comp o

    -- what of a call across is tested before its function is looked up
    abbrev pub MayCross : Bool → Type 0
    MayCross may = may ≡ (imported && (taken && words))

    pub cross_refused : {cost : ℕ} {before : Seen} {work : List Work} {end : RunEnd} → end ≡ refusal → MayCross false →
        Steps program cost before work f (calling (Cross comp index) args) (Stop end) before work f
    cross_refused same may = refused (Cross comp index) args same (first_fails _ taken words _ (sym may))

    no_lead : (o : Option ℕ) → entry_in program comp (Export index) ≡ o → EntryAt program comp (Export index) None →
        leads_there o ≡ false
    no_lead None is h = refl
    no_lead (Some number) is h = ap is_some (h number is)

    pub cross_missing : {cost : ℕ} {before : Seen} {work : List Work} {end : RunEnd} → end ≡ refusal →
        EntryAt program comp (Export index) None →
        Steps program cost before work f (calling (Cross comp index) args) (Stop end) before work f
    cross_missing same none = refused (Cross comp index) args same (last_fails _ taken words (no_lead _ refl none))

    pub cross_enters : {cost : ℕ} {before after : Seen} {work later : List Work} (callee : Callee) {step : Step}
        {g : Frame} → MayCross true → EntryAt program comp (Export index) (Some callee) →
        Steps program cost before work f (entering callee args (Some index)) step after later g →
        Steps program cost before work f (calling (Cross comp index) args) step after later g
    cross_enters callee may entry h = allowed (Cross comp index) args (all_hold imported taken words (sym may)
        (ap leads_there entry.0 ∙ is_there callee entry.1.0 refl entry.1.2)) (steps_as same h) where
          as_words : crossed args ≡ args
          as_words = words_cross args (and_rest taken words (and_rest imported (taken && words) (sym may)))

          same : (n : ℕ) (s : State) → tried true (Cross comp index) args n s ≡ entering callee args (Some index) n s
          same n s = (λ i. and_then (and_then (turn s) (λ _ s. and_then (found (entry.0 i) s) (λ number s. run_in
              (denotations program) (bodies program n) comp number (as_words i)
              (back_cross program.interfaces f.scope.comp.now comp index)
              (emit_event (Call f.scope.comp.now comp index (map word_in args)) s)))) rg) ∙
              (λ i. and_then (and_then (turn s)
              (λ _ s. run_in (denotations program) (bodies program n) (sym entry.1.0 i)
              callee.number args (back_cross program.interfaces f.scope.comp.now (sym entry.1.0 i) index)
              (emit_event (Call f.scope.comp.now (sym entry.1.0 i) index (map word_in args)) s))) rg)

  -- the next input
  pub input_steps : {cost : ℕ} {before middle emitted after : Seen} {work : List Work} (args : List Value) {word : ℕ}
      {step : Step} →
      may_call (denotations program) f.scope.comp.now Input args ≡ true → word ≡ next_input before.inputs →
      middle ≡ record before { inputs = drop 1 before.inputs } →
      emitted ≡ record middle { trace = middle.trace ++ In f.scope.comp.now word ∷ [] } →
      Steps program cost emitted work f (λ n s. rg (Some (Word word)) s) step after work f →
      Steps program cost before work f (calling Input args) step after work f
  input_steps {before} {emitted} args {word} may is rest emits_trace h = allowed Input args may (steps_on
      {p = λ s. Reached (Some (Word _)) (read_input f.scope.comp.now s)} (λ n. rg) (record {
        comes = λ s is_seen. (ap (λ w. Some (Word w)) (ap (λ x. next_input x.inputs) is_seen ∙ sym is), seen s is_seen);
        fewer = omega (arith, ap (λ x. x.turns) emits_trace, ap (λ x. x.turns) rest);
        lengths = λ comp. omega (
          arith,
          ap (λ x. length (x.memory comp)) emits_trace,
          ap (λ x. length (x.memory comp))
              rest,
        );
      }) h) where
        seen : (s : State) → seen_of s ≡ before → seen_of (read_input f.scope.comp.now s) ≡ emitted
        seen s is_seen = ap {A = Seen} (λ x. record x {
          trace = x.trace ++ In f.scope.comp.now (next_input x.inputs) ∷ [];
          inputs = drop 1 x.inputs;
        }) is_seen ∙ (λ i. record before {
          trace = before.trace ++ In f.scope.comp.now (sym is i) ∷ [];
          inputs = drop 1 before.inputs;
        }) ∙ ap {A = Seen} (λ x. record x { trace = x.trace ++ In f.scope.comp.now word ∷ [] }) (sym rest) ∙ sym
            emits_trace

  pub output_steps : {cost : ℕ} {before emitted after : Seen} {work : List Work} (args : List Value) {word : ℕ}
      {step : Step} →
      may_call (denotations program) f.scope.comp.now Output args ≡ true → word ≡ first_word args →
      emitted ≡ record before { trace = before.trace ++ Out f.scope.comp.now word ∷ [] } →
      Steps program cost emitted work f (λ n s. rg None s) step after work f →
      Steps program cost before work f (calling Output args) step after work f
  output_steps {before} args may is emits_trace h = allowed Output args may (steps_on
      {p = λ s. Reached None _} (λ n. rg) (record {
        comes = λ s is_seen. (
          refl,
          ap {A = Seen} (λ x.
              record x { trace = x.trace ++ Out f.scope.comp.now (first_word args) ∷ [] }) is_seen ∙
              (λ i. record before { trace = before.trace ++ Out f.scope.comp.now (sym is i) ∷ [] }) ∙ sym emits_trace,
        );
        fewer = omega (arith, ap (λ x. x.turns) emits_trace);
        lengths = λ comp. omega (arith, ap (λ x. length (x.memory comp)) emits_trace);
      }) h)

  module _ (target : CallTarget) (args : List TypedExpr) (line : ℕ) where
    abbrev given_args : State → Piece (List Value)
    given_args s = computed (here_of f.scope) line (values (map (way_in f) args) (s.memory f.scope.comp.now)) s

    abbrev whole_call : Doing
    whole_call n s = and_then (call (here_of f.scope) (calls_in program n) target (map (way_in f) args) line s) rg

    abbrev stepwise : Doing
    stepwise n s = and_then (given_args s) (λ vs. calling target vs n)

    by_assoc : (n : ℕ) (s : State) → whole_call n s ≡ stepwise n s
    by_assoc n s = then_then (given_args s) (λ vs s. calls_in program n _ target vs s) rg

  pub call_steps_by : {cost : ℕ} {before after : Seen} {work later : List Work} (target : CallTarget)
      {es given_es : List TypedExpr} (line : ℕ) {r : Result (List Value) RunEnd} {vs given_vs : List Value}
      {step : Step} {g : Frame} → given_es ≡ es → r ≡ Ok vs → given_vs ≡ vs →
      Comes before before r (given_args target given_es line) →
      Steps program cost before work f (calling target given_vs) step after later g →
      Steps program cost before work f (whole_call target es line) step after later g
  call_steps_by target line same is values_is c h = steps_as (by_assoc target _ line)
      (steps_on (λ n vs. calling target vs n) (rw (same, is) at c) (rw values_is at h))

  pub call_blamed_by : {cost : ℕ} {before : Seen} {work : List Work} (target : CallTarget)
      {es given_es : List TypedExpr} (line : ℕ) {r : Result (List Value) RunEnd} {end : RunEnd} → given_es ≡ es → r ≡
      Err end →
      Comes before before r (given_args target given_es line) →
      Steps program cost before work f (whole_call target es line) (Stop end) before work f
  call_blamed_by target line same is c = steps_as (by_assoc target _ line)
      (step_stops (λ n vs. calling target vs n) (rw (same, is) at c))
