-- Each combinator only goes on: events are appended, and no turns come back.
use Rattle.sc_core_laws.proofs.Common.{Action, AllFrom, Body, Bool, Call, CallTarget, Calls, Closed, Cross, Denotations}
use Rattle.sc_core_laws.proofs.Common.{Does, Event, Exit, FrameChange, Function, Goes, Gone, Grown, Here, In, Input}
use Rattle.sc_core_laws.proofs.Common.{Interfaces, IsPrefix, Left, List, None, On, Opened, Option, Output, Own, Piece}
use Rattle.sc_core_laws.proofs.Common.{Reached, Roles, Route, Row, Some, State, Step, Stopped, TurnsOut, Value, Word}
use Rattle.sc_core_laws.proofs.Common.{[], acts, and_then, ap, append-nil, append_assoc, arith, asks, back_cross}
use Rattle.sc_core_laws.proofs.Common.{back_own, begun, call_cross, call_own, called, calls, done, emit_event, false}
use Rattle.sc_core_laws.proofs.Common.{follow, found, function, if◌then◌else◌, is_number, last, length, length-append}
use Rattle.sc_core_laws.proofs.Common.{map, may_call, performs, read_input, refl, rows_left, run_in, run_step}
use Rattle.sc_core_laws.proofs.Common.{scripted_step, suc, sym, take, true, turn, turn_of, within, word_in, zero, ℕ}
use Rattle.sc_core_laws.proofs.Common.{◌++◌, ◌∙◌, ◌∷◌, ◌≡◌, ◌≤◌}
use Rattle.sc_core.specs.Prelude.{Out}
use Rattle.sc_event.specs.declared.row.Action.TheVariants as act

abbrev pub prefix_same : {A : Type 0} (xs : List A) → IsPrefix xs xs
prefix_same xs = record { more = []; is = sym (append-nil xs) }

abbrev pub prefix_more : {A : Type 0} (xs ys zs : List A) → IsPrefix xs ys → IsPrefix ys zs → IsPrefix xs zs
prefix_more xs ys zs a b =
    record { more = a.more ++ b.more; is = b.is ∙ ap (λ x. x ++ b.more) a.is ∙ append_assoc xs a.more b.more }

pub same : (s : State) → Grown s s
same s = record { events = prefix_same s.trace; frames = prefix_same _; late = tt; turns = omega arith }

-- moments at which changes were made

pub from_less : (events more : ℕ) → events ≤ more → (changes : List FrameChange) → AllFrom more changes →
    AllFrom events changes
from_less events more le [] h = tt
from_less events more le (Opened emitted c size ∷ changes) h =
    grind (arith, from_less events more le changes h.1, h.0, le)
from_less events more le (Closed emitted c size ∷ changes) h =
    grind (arith, from_less events more le changes h.1, h.0, le)

pub from_append : (events : ℕ) (first second : List FrameChange) → AllFrom events first → AllFrom events second →
    AllFrom events (first ++ second)
from_append events [] second h k = k
from_append events (Opened emitted c size ∷ first) second h k = (h.0, from_append events first second h.1 k)
from_append events (Closed emitted c size ∷ first) second h k = (h.0, from_append events first second h.1 k)

pub prefix_no_longer : {A : Type 0} (xs ys : List A) → IsPrefix xs ys → length xs ≤ length ys
prefix_no_longer xs ys h = let long = ap length h.is ∙ length-append xs h.more in omega (arith, long)

pub late_more : (s t : State) (first second : List FrameChange) → IsPrefix s.trace t.trace →
    AllFrom (length s.trace) first → AllFrom (length t.trace) second → AllFrom (length s.trace) (first ++ second)
late_more s t first second events h k =
    from_append _ first second h (from_less _ _ (prefix_no_longer s.trace t.trace events) second k)

pub more : (s t u : State) → Grown s t → Grown t u → Grown s u
more s t u a b =
    record {
      events = prefix_more s.trace t.trace u.trace a.events b.events;
      frames = prefix_more _ t.frames _ a.frames b.frames;
      late = late_more s t _ _ a.events a.late b.late;
      turns = (let p = a.turns in let q = b.turns in omega (arith, p, q));
    }

pub reached : {V : Type 0} (v : V) (s t : State) → Grown s t → Gone s (Reached v t)
reached v s t g = record { grown = g; stop = tt }

pub stays : {V : Type 0} (v : V) → Goes (Reached v)
stays v s = reached v s s (same s)

pub no_turn : {V : Type 0} (s : State) → Gone {V = V} s (Stopped TurnsOut s)
no_turn s = record { grown = same s; stop = tt }

-- what goes on from a later state goes on from an earlier one
pub earlier : {V : Type 0} (s t : State) (o : Piece V) → Grown s t → Gone t o → Gone s o
earlier s t o g h = record { grown = more s t _ g h.grown; stop = h.stop }

-- pieces in a row
pub then_then : {U V W : Type 0} (o : Piece U) (k : U → State → Piece V) (l : V → State → Piece W) →
    and_then (and_then o k) l ≡ and_then o (λ u s. and_then (k u s) l)
then_then o k l = grind arith

pub then_from : {V W : Type 0} (o : Piece V) (k : V → State → Piece W) → ((v : V) → Goes (k v)) →
    Grown (last o) (last (and_then o k))
then_from (Reached v s) k h = (h v s).grown
then_from (Stopped end s) k h = same s

-- a prefix of the trace at the end of a piece stays a prefix after what follows
pub then_prefix : {V W : Type 0} (u : List Event) (o : Piece V) (k : V → State → Piece W) → ((v : V) → Goes (k v)) →
    IsPrefix u (last o).trace → IsPrefix u (last (and_then o k)).trace
then_prefix u o k goes prefix = prefix_more u (last o).trace _ prefix (then_from o k goes).events

pub then_goes : {V W : Type 0} (s : State) (o : Piece V) (k : V → State → Piece W) → Gone s o → ((v : V) → Goes (k v)) →
    Gone s (and_then o k)
then_goes s (Reached v t) k g h = earlier s t _ g.grown (h v t)
then_goes s (Stopped end t) k g h = record { grown = g.grown; stop = g.stop }

take_goes : {A : Type 0} (route : Route) (go : Does A) → ((a : A) → Goes (go a)) → (a : A) → Goes (take route go a)
take_goes On go h a = h a
take_goes (Out exit) go h a = stays _

pub follow_goes : {A : Type 0} (route : Exit → Route) (s : State) (o : Piece (Left A)) (go : Does A) → Gone s o →
    ((a : A) → Goes (go a)) → Gone s (follow route o go)
follow_goes route s o go g h = then_goes s o _ g (λ left. take_goes _ go h _)

pub turn_of_goes : (n : ℕ) (s : State) → n ≡ s.turns → Gone s (turn_of n s)
turn_of_goes zero s is = no_turn s
turn_of_goes (suc n) s is =
    reached tt s _ (record {
      events = prefix_same s.trace;
      frames = prefix_same _;
      late = tt;
      turns =
          omega (arith, is);
    })

pub turn_goes : (s : State) → Gone s (turn s)
turn_goes s = turn_of_goes s.turns s refl

pub emitted : (event : Event) (s : State) → Grown s (emit_event event s)
emitted event s = record {
  events = record { more = event ∷ []; is = refl };
  frames = prefix_same _;
  late = tt;
  turns = omega arith;
}

-- calls, and functions as calls see them
abbrev pub CallsGo : Calls → Type 0
CallsGo calls = (from : ℕ) (target : CallTarget) (args : List Value) → Goes (calls from target args)

abbrev pub BodyGoes : Body → Type 0
BodyGoes body = (number : ℕ) (here : Here) → Goes (body number here)

-- a function that only goes on where its calls do
abbrev pub FunctionGoes : Function → Type 0
FunctionGoes f = (calls : Calls) → CallsGo calls → (here : Here) → Goes (f.does calls here)

abbrev pub DenotationsGo : Denotations → Type 0
DenotationsGo denotations = (comp number : ℕ) (f : Function) → function denotations comp number ≡ Some f →
    FunctionGoes f

pub found_goes : {V : Type 0} (v : Option V) (s : State) → Gone s (found v s)
found_goes None s = no_turn s
found_goes (Some v) s = stays v s

pub begun_goes : (comp : ℕ) (f : Function) (args : List Value) (s : State) → Grown s (begun comp f args s)
begun_goes comp f args s =
    record {
      events = prefix_same s.trace;
      frames = record { more = Opened _ comp f.frame_size ∷ []; is = refl };
      late = (omega arith, tt);
      turns = omega arith;
    }

pub done_goes : (comp : ℕ) (f : Function) (first : ℕ) (s : State) → Grown s (done comp f first s)
done_goes comp f first s =
    record {
      events = prefix_same s.trace;
      frames = record { more = Closed _ comp f.frame_size ∷ []; is = refl };
      late = (omega arith, tt);
      turns = omega arith;
    }

pub read_goes : (comp : ℕ) (s : State) → Grown s (read_input comp s)
read_goes comp s =
    record {
      events = record { more = In comp _ ∷ []; is = refl };
      frames = prefix_same _;
      late = tt;
      turns = omega arith;
    }

pub if_goes : {V : Type 0} (s : State) (b : Bool) (o p : Piece V) → Gone s o → Gone s p → Gone s (if b then o else p)
if_goes s true o p h k = h
if_goes s false o p h k = k

pub back_goes : (interfaces : Interfaces) (from to index : ℕ) (v : Option Value) →
    Goes (back_cross interfaces from to index v)
back_goes interfaces from to index v s = reached _ s _ (emitted _ s)

module _ (denotations : Denotations) (body : Body) (goes : BodyGoes body) where
  -- what follows once the function is found
  pub frame_goes : (comp number : ℕ) (f : Function) (args : List Value)
      (back : Option Value → State → Piece (Option Value)) → ((v : Option Value) → Goes (back v)) →
      Goes (λ s. and_then (body number (record { comp = comp; first = length (s.memory comp) }) (begun comp f args s))
      (λ v t. back v (done comp f (length (s.memory comp)) t)))
  frame_goes comp number f args back k s =
      let first : ℕ = length (s.memory comp) in
      let here : Here = record { comp = comp; first = first } in
      let start = begun comp f args s in
      then_goes s (body number here start) _ (earlier s start _ (begun_goes comp f args s) (goes number here start))
      (λ v t. let end = done comp f first t in earlier t end _ (done_goes comp f first t) (k v end))

  pub run_goes : (comp number : ℕ) (args : List Value) (back : Option Value → State → Piece (Option Value)) →
      ((v : Option Value) → Goes (back v)) → Goes (run_in denotations body comp number args back)
  run_goes comp number args back k s = then_goes s (found (function denotations comp number) s) _
      (found_goes (function denotations comp number) s) (λ f. frame_goes comp number f args back k)

  pub own_goes : (comp number : ℕ) (args : List Value) → Goes (call_own denotations body comp number args)
  own_goes comp number args = run_goes comp number args back_own (λ v. stays v)

  pub cross_goes : (from to index : ℕ) (args : List Value) → Goes (call_cross denotations body from to index args)
  cross_goes from to index args s =
      then_goes s (found (denotations.entered to _) s) _ (found_goes (denotations.entered to _) s) (λ number s.
      let event = Call from to index (map word_in args) in
      earlier s (emit_event event s) _ (emitted event s) (run_goes to number _
      (back_cross denotations.interfaces from to index) (back_goes denotations.interfaces from to index) _))

  pub called_go : CallsGo (called denotations body)
  called_go from (Own number) args s = then_goes s (turn s) _ (turn_goes s) (λ u. own_goes from number args)
  called_go from (Cross to index) args s = then_goes s (turn s) _ (turn_goes s) (λ u. cross_goes from to index args)
  called_go from Input args s = reached _ s _ (read_goes from s)
  called_go from Output args s = reached _ s _ (emitted _ s)

  pub calls_go : CallsGo (calls denotations body)
  calls_go from target args s =
      if_goes s (may_call denotations from target args) (called denotations body from target args s)
      (Stopped _ s) (called_go from target args s) (record { grown = same s; stop = tt })

  -- a call that a script asks for is made where it may be
  pub asks_is : (comp : ℕ) (target : CallTarget) (args : List Value) (s : State) →
      asks denotations body comp target args s
      ≡ (if may_call denotations comp target args then called denotations body comp target args s else Stopped TurnsOut
      s)
  asks_is comp target args s = grind arith

  pub asks_go : (comp : ℕ) (target : CallTarget) (args : List Value) → Goes (asks denotations body comp target args)
  asks_go comp target args s = if_goes s (may_call denotations comp target args)
      (calls denotations body comp target args s)
      (Stopped TurnsOut s) (calls_go comp target args s) (no_turn s)

  pub run_step_goes : DenotationsGo denotations → BodyGoes (run_step denotations body)
  run_step_goes h number here s = known (function denotations _ number) (h _ number) where
    known : (f : Option Function) → ((g : Function) → f ≡ Some g → FunctionGoes g) →
        Gone s (and_then (found f s) (λ f s. f.does (calls denotations body) here s))
    known None h = no_turn s
    known (Some f) h = h f refl (calls denotations body) calls_go here s

  pub acts_go : (action : Action) (next again : State → Piece (Option Value)) → Goes next → Goes again → (comp : ℕ) →
      Goes (acts denotations body action next again comp)
  acts_go (act.Call to index args) next again h k comp s = then_goes s
      (asks denotations body comp (Cross to index) (map _ args) s) _ (asks_go comp (Cross to index) (map _ args) s)
      (λ v. k)
  acts_go (act.Ret v) next again h k comp s = stays _ s
  acts_go (act.Out w) next again h k comp s =
      then_goes s (asks denotations body comp Output (Word w ∷ []) s) _ (asks_go comp Output (Word w ∷ []) s) (λ v. h)
  acts_go (act.In w) next again h k comp s =
      then_goes s (asks denotations body comp Input [] s) _ (asks_go comp Input [] s) (λ v. h)
  acts_go (act.End w) next again h k comp s = stays _ s

  pub performs_go : (rows : List Row) → BodyGoes (performs denotations body rows)
  performs_go [] number here s = no_turn s
  performs_go (row ∷ rest) number here s = if_goes s (is_number number _) _ _
      (acts_go _ _ _ (performs_go rest number here) (goes number here) _ s) (no_turn s)

-- functions in which calls go on only go on
abbrev pub StepGoes : Step → Type 0
StepGoes step = (body : Body) → BodyGoes body → BodyGoes (step body)

pub scripted_goes : (denotations : Denotations) (roles : Roles) (step : Step) → StepGoes step →
    StepGoes (scripted_step denotations roles step)
scripted_goes denotations roles step h body goes number here s = by_role _ where
  by_role : (b : Bool) → Gone s (if b then performs denotations body (rows_left roles here.comp s.trace) number here s
      else step body number here s)
  by_role true = performs_go denotations body goes _ number here s
  by_role false = h body goes number here s

pub within_goes : (step : Step) → StepGoes step → (n : ℕ) → BodyGoes (within step n)
within_goes step h zero number here s = no_turn s
within_goes step h (suc n) number here s = h _ (within_goes step h n) number here s
