-- To prove that denoted functions keep a property of states, prove it of what changes memory, of turns and of calls.
use Rattle.sc_core_laws.proofs.Common.{Action, BadType, Blamed, Blocks, Body, Bool, Call, CallTarget, Calls, Cause}
use Rattle.sc_core_laws.proofs.Common.{Cross, Denotations, Export, Function, Gone, Grown, Here, Input, Kept, List, Main}
use Rattle.sc_core_laws.proofs.Common.{Meets, Memory, Never, None, Obedient, Option, Out, Output, Own, Piece, Property}
use Rattle.sc_core_laws.proofs.Common.{Ret, Roles, Row, RunEnd, Some, State, TurnsOut, Value, Word, [], acts, and_then}
use Rattle.sc_core_laws.proofs.Common.{ap, arith, asks, back_cross, back_own, begun, call_own, called, calls, crossing}
use Rattle.sc_core_laws.proofs.Common.{done, emit_event, export_at, false, first_word, found, function, if◌then◌else◌}
use Rattle.sc_core_laws.proofs.Common.{is_some, leads, length, map, may_call, performs, read_input, refl, rows_left}
use Rattle.sc_core_laws.proofs.Common.{run_in, run_step, scripted_step, subst, suc, sym, then_kept, true, turn, turn_of}
use Rattle.sc_core_laws.proofs.Common.{with_blocks, within, word_in, zero, ℕ, ◌<◌, ◌∙◌, ◌∷◌, ◌≡◌}
use Rattle.sc_event.specs.declared.row.Action.TheVariants as act
use Rattle.sc_core_laws.proofs.Growing.{BodyGoes, CallsGo, calls_go, within_goes}
use Rattle.sc_core_laws.proofs.Related.{Kept as RelationKept, KeptAt, RelatedFunctions}
use Rattle.sc_core_laws.proofs.Matching.{related_denotations, scripted_goes_on}

-- what is to be proved of a property, for the functions of a compartment
pub record IsKept (K : Property) (here : Here) : Type 0 where
  pub memory : (s : State) (blocks : Blocks) → K.Goes s →
      K.Goes (record s { memory = with_blocks here.comp blocks s.memory })
  pub turned : (s : State) → K.Goes s → Kept K (turn s)
  pub blamed : (s : State) (cause : Cause) (line : ℕ) → K.Goes s → K.Ends (Blamed here.comp cause line) s

-- calls from a compartment keep the property
abbrev pub CallsKeep : Property → ℕ → Calls → Type 0
CallsKeep K from calls =
    (target : CallTarget) (args : List Value) (s : State) → K.Goes s → Kept K (calls from target args s)

-- A property is kept as a relation of a state to itself.
module _ (K : Property) where
  record One (s t : State) : Type 0 where
    pub goes : K.Goes s
    pub is : t ≡ s

  abbrev Pieces : (V : Type 0) → Piece V → Piece V → Type 0
  Pieces V o p = Kept K {V = V} o

  then_grown : (V W : Type 0) (s : State) (o : Piece V) (k : V → State → Piece W) → Gone s o → Kept K o →
      ((v : V) (t : State) → Grown s t → K.Goes t → Kept K (k v t)) → Kept K (and_then o k)
  then_grown V W s o k g h n = grind (arith, g, h, n)

  turn_kept : (W : Type 0) (k : Unit {0} → State → Piece W) (s : State) (m : ℕ) → m ≡ s.turns → Kept K (turn_of m s) →
      ((t : State) → t.turns < s.turns → K.Goes t → Kept K (k tt t)) → Kept K (and_then (turn_of m s) k)
  turn_kept W k s m is h n = grind (arith, is, h)

  module _ (here : Here) (kept : IsKept K here) where
    one_kept : RelationKept One Pieces
    one_kept = record {
      reached = λ V v s t one. record { after = one.goes };
      after =
          λ V W s t o p k l one g g' goes goes' h n. then_grown V W s o k g h
          (λ v x up at. n v x x up (subst (λ y. Grown y x) (sym one.is) up) (record { goes = at; is = refl }));
      turned = λ W k l goes goes' s t one n. turn_kept W k s s.turns refl (kept.turned s one.goes)
          (λ x less at. n x x less (subst (λ y. x.turns < y.turns) (sym one.is) less)
          (record { goes = at; is = refl }));
    }

    one_at : (at : Here) → IsKept K at → KeptAt One Pieces Never at
    one_at at is = grind (arith, is)

    -- a function whose pieces keep what its calls keep
    keeps_here : (f g : Option Function) → Meets (RelatedFunctions One Pieces (IsKept K)) f g → (h : Function) →
        f ≡ Some h → (by : Calls) → CallsGo by → CallsKeep K here.comp by → (s : State) → K.Goes s →
        Kept K (h.does by here s)
    keeps_here None None meets h is by goes keeps s at = absurd (cc)
    keeps_here (Some f) (Some g) meets h is by goes keeps s at =
        let equal : f ≡ h = cc in
        subst (λ x. Kept K (x.does by here s)) equal ((meets.does by by here kept (λ target args. record {
          first = goes _ target args;
          second = goes _ target args;
          both = λ s t one. keeps target args s one.goes;
        })).both s s (record { goes = at; is = refl }))
    keeps_here _ _ meets h is by goes keeps s at = absurd meets

-- a denoted function keeps what its calls keep
pub function_keeps : (denotations : Denotations) → Obedient denotations → (comp number : ℕ) (f : Function) →
    function denotations comp number ≡ Some f → (K : Property) (here : Here) → IsKept K here → (by : Calls) →
    CallsGo by →
    CallsKeep K here.comp by → (s : State) → K.Goes s → Kept K (f.does by here s)
function_keeps denotations obedient comp number f is K here kept by goes keeps s at =
    let related = related_denotations Never (One K) (Pieces K) (IsKept K) (one_kept K here kept) (one_at K here kept)
    denotations
    denotations obedient in
    keeps_here K here kept _ (function denotations comp number) (related.functions comp number) f is by goes keeps s at

-- what is looked up is there, or that it isn't allows to stop
looked_up : {V W : Type 0} (K : Property) (o : Option V) (s : State) (go : V → State → Piece W) →
    (o ≡ None → K.Ends TurnsOut s) → ((v : V) → o ≡ Some v → Kept K (go v s)) → Kept K (and_then (found o s) go)
looked_up K o s go none h = grind (arith, none, h)

-- what is looked up and there
pub there : {V W : Type 0} (K : Property) (o : Option V) (s : State) (go : V → State → Piece W) → is_some o ≡ true →
    ((v : V) → o ≡ Some v → Kept K (go v s)) → Kept K (and_then (found o s) go)
there K o s go is h = looked_up K o s go (λ none. absurd (cc (is, none))) h

pub led_somewhere : (denotations : Denotations) (comp : ℕ) (number : Option ℕ) → leads denotations comp number ≡ true →
    is_some number ≡ true
led_somewhere denotations comp None is = is
led_somewhere denotations comp (Some number) is = refl

pub led_there : (denotations : Denotations) (comp number : ℕ) (o : Option ℕ) → leads denotations comp o ≡ true →
    o ≡ Some number →
    is_some (function denotations comp number) ≡ true
led_there denotations comp number o is same = sym (ap (leads denotations comp) same) ∙ is

-- a call across that may be made leads somewhere
pub led : (denotations : Denotations) (from to index : ℕ) (args : List Value) →
    may_call denotations from (Cross to index) args ≡ true →
    leads denotations to (denotations.entered to (Export index)) ≡ true
led denotations from to index args may = grind arith

-- a piece that keeps another property, and what follows it
pub then_other : {V W : Type 0} (K L : Property) (piece : Piece V) (go : V → State → Piece W) →
    ((end : RunEnd) (s : State) → K.Ends end s → L.Ends end s) → Kept K piece →
    ((v : V) (s : State) → K.Goes s → Kept L (go v s)) → Kept L (and_then piece go)
then_other K L piece go ends h k = grind (arith, ends, h)

-- A denoted function, and the rows that its compartment performs, keep a property that its calls keep.
module _ (K : Property) (denotations : Denotations) (body : Body) (here : Here) (called_keep : (target : CallTarget)
    (args : List Value) (s : State) → may_call denotations here.comp target args ≡ true → K.Goes s →
    Kept K (called denotations body here.comp target args s)) where
  pub calls_keep : IsKept K here → CallsKeep K here.comp (calls denotations body)
  calls_keep kept target args s h = grind (arith, called_keep target args s, kept.blamed s BadType 0 h, h)

  module _ (number : ℕ) (stops : (s : State) → K.Goes s → K.Ends TurnsOut s) where
    asks_keep : CallsKeep K here.comp (asks denotations body)
    asks_keep target args s h = grind (arith, called_keep target args s, stops s h, h)

    module _ (again : (s : State) → K.Goes s → Kept K (body number here s)) where
      acts_keep : (action : Action) (next : State → Piece (Option Value)) → ((s : State) → K.Goes s → Kept K (next s)) →
          (s : State) → K.Goes s → Kept K (acts denotations body action next (body number here) here.comp s)
      acts_keep (act.Call to index args) next n s h = then_kept K
          (asks denotations body here.comp (Cross to index) (map _ args)
          s) _ (asks_keep (Cross to index) (map _ args) s h) (λ v. again)
      acts_keep (act.Ret v) next n s h = record { after = h }
      acts_keep (act.Out w) next n s h = then_kept K (asks denotations body here.comp Output (Word w ∷ []) s) _
          (asks_keep Output (Word w ∷ []) s h) (λ v. n)
      acts_keep (act.In w) next n s h =
          then_kept K (asks denotations body here.comp Input [] s) _ (asks_keep Input [] s h) (λ v. n)
      acts_keep (act.End w) next n s h = record { after = h }

      performs_keep : (rows : List Row) (s : State) → K.Goes s → Kept K (performs denotations body rows number here s)
      performs_keep [] s h = record { after = stops s h }
      performs_keep (row ∷ rest) s h = grind (
        arith,
        stops s h,
        acts_keep row.action (performs denotations body rest number here) (performs_keep rest) s h,
      )

-- A property of the places at which a run stands, with fewer turns than a number: what calls have to keep of it, so
-- that functions do.
pub record Walk (denotations : Denotations) : Type 1 where
  pub Place : Type 0
  pub At : ℕ → Place → State → Type 0
  pub Ends : RunEnd → State → Type 0
  -- a compartment is at a place, and a function runs at one
  pub In : Place → ℕ → Type 0
  pub Runs : Place → ℕ → ℕ → Type 0
  -- the place within a frame, and within a call across
  pub inner : Place → ℕ → Function → Place
  pub across : Place → ℕ → ℕ → Place
  pub cross_runs : (i : Place) (to index number : ℕ) (f : Function) →
      denotations.entered to (Export index) ≡ Some number → Runs (inner (across i to index) to f) to number
  pub halts : (i : Place) (s : State) → At zero i s → Ends TurnsOut s
  pub spent : (n : ℕ) (i : Place) (s : State) → s.turns ≡ 0 → At (suc n) i s → Ends TurnsOut s
  pub less : (n m : ℕ) (i : Place) (s : State) → suc m ≡ s.turns → At (suc n) i s → At n i (record s { turns = m })
  pub raised : (n : ℕ) (i : Place) (s : State) → At n i s → At (suc n) i s
  pub stored : (n : ℕ) (i : Place) (s : State) (memory : Memory) → At n i s → At n i (record s { memory = memory })
  pub begins : (n : ℕ) (i : Place) (comp : ℕ) (f : Function) (args : List Value) (s : State) → At n i s →
      At n (inner i comp f) (begun comp f args s)
  pub ends : (n : ℕ) (i : Place) (comp : ℕ) (f : Function) (first : ℕ) (s : State) → At n (inner i comp f) s →
      At n i (done comp f first s)
  pub enters : (n : ℕ) (i : Place) (from to index : ℕ) (args : List Value) (s : State) → In i from →
      may_call denotations from (Cross to index) args ≡ true → At n i s →
      At n (across i to index) (emit_event (Call from to index (map word_in args)) s)
  pub leaves : (n : ℕ) (i : Place) (from to index : ℕ) (args : List Value) (v : Option Value) (s : State) → In i from →
      may_call denotations from (Cross to index) args ≡ true → At n (across i to index) s →
      At n i (emit_event (Ret to from (crossing (export_at denotations.interfaces to index) v)) s)
  pub reads : (n : ℕ) (i : Place) (from : ℕ) (args : List Value) (s : State) → In i from →
      may_call denotations from Input args ≡ true → At n i s → At n i (read_input from s)
  pub writes : (n : ℕ) (i : Place) (from : ℕ) (args : List Value) (s : State) → In i from →
      may_call denotations from Output args ≡ true → At n i s → At n i (emit_event (Out from (first_word args)) s)

module _ (denotations : Denotations) (walk : Walk denotations) where
  abbrev pub place : ℕ → walk.Place → Property
  place n i = record { Goes = walk.At n i; Ends = walk.Ends }

  abbrev pub BodyWalks : ℕ → Body → Type 0
  BodyWalks n body = (number : ℕ) (here : Here) (s : State) (i : walk.Place) →
      is_some (function denotations here.comp number) ≡ true → walk.Runs i here.comp number → walk.At n i s →
      Kept (place n i) (body number here s)

  pub raise : {V : Type 0} (n : ℕ) (i : walk.Place) (o : Piece V) → Kept (place n i) o → Kept (place (suc n) i) o
  raise n i o h = grind (arith, h)

  -- a turn, and then what has one turn less
  after_turn : {V : Type 0} (n m : ℕ) (i : walk.Place) (s : State) (k : State → Piece V) → m ≡ s.turns →
      walk.At (suc n) i s → ((t : State) → walk.At n i t → Kept (place n i) (k t)) →
      Kept (place n i) (and_then (turn_of m s) (λ _. k))
  after_turn n m i s k is at h = grind (arith, is, h)

  turned : (n m : ℕ) (i : walk.Place) (s : State) → m ≡ s.turns → walk.At (suc n) i s →
      Kept (place (suc n) i) (turn_of m s)
  turned n m i s is at = grind (arith, is)

  module _ (n : ℕ) (body : Body) (walks : BodyWalks n body) where
    run_walks : (i j : walk.Place) (comp number : ℕ) (args : List Value)
        (back : Option Value → State → Piece (Option Value)) →
        ((f : Function) → walk.Runs (walk.inner i comp f) comp number) →
        ((v : Option Value) (s : State) → walk.At n i s → Kept (place n j) (back v s)) → (s : State) →
        (function denotations comp number ≡ None → walk.Ends TurnsOut s) → walk.At n i s →
        Kept (place n j) (run_in denotations body comp number args back s)
    run_walks i j comp number args back runs b s none at =
        looked_up (place n j) (function denotations comp number) s _ none (λ f is.
        then_other (place n (walk.inner i comp f)) (place n j) (body number _ _) _ (λ end s h. h)
        (walks number (record { comp = comp; first = length (s.memory comp) }) _ (walk.inner i comp f) (ap is_some is)
        (runs f) (walk.begins n i comp f args s at)) (λ v t at. b v _ (walk.ends n i comp f _ t at)))

    pub own_walks : (i : walk.Place) (comp number : ℕ) (args : List Value) →
        ((f : Function) → walk.Runs (walk.inner i comp f) comp number) → (s : State) →
        (function denotations comp number ≡ None → walk.Ends TurnsOut s) → walk.At n i s →
        Kept (place n i) (call_own denotations body comp number args s)
    own_walks i comp number args runs = run_walks i i comp number args back_own runs (λ v s at. record { after = at })

    pub cross_walks : (i : walk.Place) (from to index : ℕ) (args : List Value) (s : State) → walk.In i from →
        may_call denotations from (Cross to index) args ≡ true → walk.At (suc n) i s →
        Kept (place n i) (called denotations body from (Cross to index) args s)
    cross_walks i from to index args s here may at = after_turn n s.turns i s _ refl at (λ s at.
        let is = led denotations from to index args may in
        there (place n i) (denotations.entered to _) s _ (led_somewhere denotations to _ is) (λ number same.
        let known = led_there denotations to number _ is same in
        run_walks (walk.across i to index) i to number _ (back_cross denotations.interfaces from to index)
        (λ f. walk.cross_runs i to index number f same)
        (λ v s at. record { after = walk.leaves n i from to index args v s here may at }) _
        (λ none. absurd (cc (known, none))) (walk.enters n i from to index args s here may at)))

    called_walks : (i : walk.Place) (from : ℕ) (target : CallTarget) (args : List Value) (s : State) → walk.In i from →
        ((number : ℕ) (f : Function) → walk.Runs (walk.inner i from f) from number) →
        may_call denotations from target args ≡ true → walk.At (suc n) i s →
        Kept (place (suc n) i) (called denotations body from target args s)
    called_walks i from (Own number) args s here runs may at = raise n i _ (after_turn n s.turns i s _ refl at
        (λ t at. own_walks i from number args (runs number) t (λ none. absurd (cc (may, none))) at))
    called_walks i from (Cross to index) args s here runs may at =
        raise n i _ (cross_walks i from to index args s here may at)
    called_walks i from Input args s here runs may at = record { after = walk.reads (suc n) i from args s here may at }
    called_walks i from Output args s here runs may at =
        record { after = walk.writes (suc n) i from args s here may at }

    -- the first call of `main`
    pub main_walks : (i : walk.Place) (s : State) →
        (denotations.entered denotations.interfaces.main Main ≡ None → walk.Ends TurnsOut s) →
        ((number : ℕ) → denotations.entered denotations.interfaces.main Main ≡ Some number →
        function denotations denotations.interfaces.main number ≡ None → walk.Ends TurnsOut s) →
        ((number : ℕ) (f : Function) → denotations.entered denotations.interfaces.main Main ≡ Some number →
        walk.Runs (walk.inner i denotations.interfaces.main f) denotations.interfaces.main number) → walk.At n i s →
        Kept (place n i) (and_then (found (denotations.entered denotations.interfaces.main Main) s)
        (λ number s. call_own denotations body denotations.interfaces.main number [] s))
    main_walks i s unled none runs at = looked_up (place n i) (denotations.entered _ Main) s _ unled (λ number is.
        own_walks i _ number [] (λ f. runs number f is) s (none number is) at)

    -- a function of a compartment that may be blamed runs
    pub run_step_walks : Obedient denotations → BodyGoes body →
        (number : ℕ) (here : Here) (s : State) (i : walk.Place) →
        is_some (function denotations here.comp number) ≡ true → walk.In i here.comp →
        ((k : ℕ) (f : Function) → walk.Runs (walk.inner i here.comp f) here.comp k) → ((cause : Cause) (line : ℕ)
        (s : State) → walk.At (suc n) i s → walk.Ends (Blamed here.comp cause line) s) → walk.At (suc n) i s →
        Kept (place (suc n) i) (run_step denotations body number here s)
    run_step_walks obedient goes number here s i is at_place runs blamed at =
        let kept : IsKept (place (suc n) i) here = record {
          memory = λ s blocks at. walk.stored (suc n) i s _ at;
          turned = λ s at. turned n s.turns i s refl at;
          blamed = λ s cause line at. blamed cause line s at;
        } in
        there (place (suc n) i) (function denotations here.comp number) s
        (λ f s. f.does (calls denotations body) here s) is
        (λ f found_f. function_keeps denotations obedient here.comp number f found_f (place (suc n) i) here kept
        (calls denotations body) (calls_go denotations body goes) (calls_keep (place (suc n) i) denotations body here
        (λ target args s may at. called_walks i here.comp target args s at_place runs may at) kept) s at)

  -- where turns don't matter, also where some compartments perform
  module _ (lowered : (n : ℕ) (i : walk.Place) (s : State) → walk.At (suc n) i s → walk.At n i s)
      (at_place : (i : walk.Place) (comp number : ℕ) → walk.Runs i comp number → walk.In i comp)
      (owns : (i : walk.Place) (comp number : ℕ) (f : Function) → walk.In i comp →
      walk.Runs (walk.inner i comp f) comp number) (obedient : Obedient denotations) (roles : Roles)
      (blamed : (comp number : ℕ) → roles.scripted comp ≡ false → is_some (function denotations comp number) ≡ true →
      (n : ℕ) (i : walk.Place) → walk.In i comp → (cause : Cause) (line : ℕ) (s : State) → walk.At n i s →
      walk.Ends (Blamed comp cause line) s) where
    stops : (n : ℕ) (i : walk.Place) (s : State) → walk.At n i s → walk.Ends TurnsOut s
    stops zero i s at = walk.halts i s at
    stops (suc n) i s at = stops n i s (lowered n i s at)

    step_walks : (n : ℕ) (body : Body) → BodyGoes body → BodyWalks n body →
        BodyWalks (suc n) (scripted_step denotations roles (run_step denotations) body)
    step_walks n body goes walks number here s i is runs at = by _ refl where
      here_at : walk.In i here.comp
      here_at = at_place i here.comp number runs

      owned : (k : ℕ) (f : Function) → walk.Runs (walk.inner i here.comp f) here.comp k
      owned k f = owns i here.comp k f here_at

      by : (b : Bool) → roles.scripted here.comp ≡ b → Kept (place (suc n) i) (if b then performs denotations body
          (rows_left roles here.comp s.trace) number here s else run_step denotations body number here s)
      by true performing = performs_keep (place (suc n) i) denotations body here
          (λ target args s may at. called_walks n body walks i here.comp target args s here_at owned may at) number
          (λ s at. stops (suc n) i s at) (λ s at. raise n i _ (walks number here s i is runs (lowered n i s at))) _ s at
      by false plain = run_step_walks n body walks obedient goes number here s i is here_at owned
          (λ cause line s at. blamed here.comp number plain is (suc n) i here_at cause line s at) at

    pub scripted_walks : (n : ℕ) → BodyWalks n (within (scripted_step denotations roles (run_step denotations)) n)
    scripted_walks zero number here s i is runs at = record { after = walk.halts i s at }
    scripted_walks (suc n) number here s i is runs at = step_walks n _ (within_goes (scripted_step denotations roles _)
        (scripted_goes_on denotations obedient roles) n) (scripted_walks n) number here s i is runs at
