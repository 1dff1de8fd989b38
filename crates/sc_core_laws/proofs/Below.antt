-- Two runs that do the same, where the second may have more turns, and may go on where the first has to stop.
use Rattle.sc_core_laws.proofs.Common.{Action, AllFrom, BadType, Blamed, Body, Bool, Call, CallTarget, Cause, Cross}
use Rattle.sc_core_laws.proofs.Common.{Denotations, Ended, EventsOut, Export, Function, Goes, Gone, Grown, Here, Input}
use Rattle.sc_core_laws.proofs.Common.{Interfaces, IsPrefix, List, Meets, None, Ok, Option, Output, Own, Piece, Reached}
use Rattle.sc_core_laws.proofs.Common.{Result, Roles, Row, RunEnd, Some, State, Step, Stopped, TurnsOut, Value, Word}
use Rattle.sc_core_laws.proofs.Common.{[], acts, and_then, ap, ap₂, arith, asks, back_cross, back_own, begun}
use Rattle.sc_core_laws.proofs.Common.{call_cross, call_own, called, calls, computed, crossed, done, emit_event, false}
use Rattle.sc_core_laws.proofs.Common.{found, function, if◌then◌else◌, inl, inr, is_number, last, length, map, may_call}
use Rattle.sc_core_laws.proofs.Common.{option_value, performs, refl, rows_left, run_in, run_step, scripted_step, subst}
use Rattle.sc_core_laws.proofs.Common.{suc, sym, true, turn, turn_of, with_blocks, within, word_in, zero, ℕ, ◌+◌, ◌<◌}
use Rattle.sc_core_laws.proofs.Common.{◌∙◌, ◌∷◌, ◌≡◌, ◌≤◌, ◌⊎◌}
use Rattle.sc_core_laws.proofs.Growing.{prefix_same, prefix_more, then_from, late_more, same, no_turn, stays, earlier}
use Rattle.sc_core_laws.proofs.Growing.{back_goes, then_goes, turn_goes, BodyGoes, StepGoes, done_goes, frame_goes}
use Rattle.sc_core_laws.proofs.Growing.{cross_goes, called_go, performs_go, within_goes, then_then}
use Rattle.sc_core_laws.proofs.Related.{Related, Kept, then_related, if_related, KeptAt, Anywhere, RelatedCalls}
use Rattle.sc_core_laws.proofs.Related.{RelatedFunctions, RelatedDenotations, may_same}
use Rattle.sc_core_laws.proofs.Expressions.{Keeps, alike, blamed}
use Rattle.sc_event.specs.declared.row.Action.TheVariants as act

-- the state with `d` more turns
abbrev pub richer : ℕ → State → State
richer d s = record s { turns = s.turns + d }

abbrev pub richer_piece : {V : Type 0} → ℕ → Piece V → Piece V
richer_piece d (Reached v s) = Reached v (richer d s)
richer_piece d (Stopped end s) = Stopped end (richer d s)

-- the second state has the events and the changes of frames of the first, and then those that came later
pub record Later (s t : State) : Type 0 where
  pub events : IsPrefix s.trace t.trace
  pub frames : IsPrefix s.frames t.frames
  pub late : AllFrom (length s.trace) frames.more

pub later : (s t : State) → Grown s t → Later s t
later s t g = record { events = g.events; frames = g.frames; late = g.late }

later_more : (s t u : State) → Later s t → Grown t u → Later s u
later_more s t u h g =
    record {
      events = prefix_more s.trace t.trace u.trace h.events g.events;
      frames = prefix_more _ t.frames _ h.frames g.frames;
      late = late_more s t _ _ h.events h.late g.late;
    }

-- by how many turns the second is richer, for which causes it goes on where the first is blamed, and whether it does
-- where the first has no turn
module _ (d : ℕ) (Soft : Cause → Type 0) (Turns : Type 0) where
  -- the ends at which the second may go on
  abbrev pub Passes : RunEnd → Type 0
  Passes Ended = ⊥
  Passes (Blamed comp cause line) = Soft cause
  Passes TurnsOut = Turns
  Passes EventsOut = ⊥

  -- the second comes to the same, or its events and its frames go on from those with which the first stopped
  pub data Below (V : Type 0) (o p : Piece V) : Type 0 where
    along : p ≡ richer_piece d o → Below V o p
    passed : (end : RunEnd) (s : State) → o ≡ Stopped end s → Passes end → Later s (last p) → Below V o p

  -- states in which fewer calls than this are still made
  pub record Ahead (n n' : ℕ) (s s' : State) : Type 0 where
    pub state : s' ≡ richer d s
    pub few : s.turns < n
    pub few' : s'.turns < n'

  module _ (n n' : ℕ) (spent : (d ≡ 0) ⊎ Turns) where
    abbrev After : (V W : Type 0) (s s' : State) (k l : V → State → Piece W) → Type 0
    After V W s s' k l = (v : V) (t t' : State) → Grown s t → Grown s' t' → Ahead n n' t t' → Below W (k v t) (l v t')

    on_along : (V W : Type 0) (s s' : State) (o p : Piece V) (k l : V → State → Piece W) → Ahead n n' s s' → Gone s o →
        Gone s' p → p ≡ richer_piece d o → After V W s s' k l → Below W (and_then o k) (and_then p l)
    on_along V W s s' (Reached v t) p k l a g g' is h =
        let g2 = subst (λ x. Grown s' (last x)) is g'.grown in
        subst (λ x. Below W (k v t) (and_then x l)) (sym is) (h v t _ g.grown g2 (record {
          state = refl;
          few = at_most t.turns s.turns n g.grown.turns a.few;
          few' = at_most _ _ n' g2.turns a.few';
        }))
      where
        at_most : (x y z : ℕ) → x ≤ y → y < z → x < z
        at_most x y z p q = omega (arith, p, q)
    on_along V W s s' (Stopped end t) p k l a g g' is h = along (ap (λ x. and_then x l) is)

    after : (V W : Type 0) (s s' : State) (o p : Piece V) (k l : V → State → Piece W) → Ahead n n' s s' → Gone s o →
        Gone s' p → ((v : V) → Goes (k v)) → ((v : V) → Goes (l v)) → Below V o p → After V W s s' k l →
        Below W (and_then o k) (and_then p l)
    after V W s s' o p k l a g g' goes goes' (along is) h = on_along V W s s' o p k l a g g' is h
    after V W s s' o p k l a g g' goes goes' (passed end t is passes prefix) h =
        passed end t (ap (λ x. and_then x k) is) passes (later_more t _ _ prefix (then_from p l goes'))

    -- a turn of both, where the first has m turns and the second m'
    turn_at : (W : Type 0) (k l : Unit {0} → State → Piece W) → ((v : Unit {0}) → Goes (l v)) → (s : State) (m m' : ℕ) →
        m ≡ s.turns → m' ≡ m + d → s.turns < n → s.turns + d < n'
        → ((t t' : State) → t.turns < s.turns → t'.turns < s.turns + d → Ahead n n' t t' → Below W (k tt t) (l tt t')) →
        Below W (and_then (turn_of m s) k) (and_then (turn_of m' (richer d s)) l)
    turn_at W k l goes s (suc m) zero is is' few few' h = absurd (omega (arith, is'))
    turn_at W k l goes s (suc m) (suc m') is is' few few' h =
        let rest : m' ≡ m + d = omega (arith, is') in
        h (record s { turns = m }) (record s { turns = m' }) (omega (arith, is)) (omega (arith, is, rest))
        (record {
          state = ap (λ x. record s { turns = x }) rest;
          few = omega (arith, is, few);
          few' = omega (arith, is, rest, few');
        })
    turn_at W k l goes s zero zero is is' few few' h = along refl
    turn_at W k l goes s zero (suc m') is is' few few' h = passes spent where
      passes : (d ≡ 0) ⊎ Turns → Below W (Stopped TurnsOut s) (l tt (record s { turns = m' }))
      passes (inl none) = absurd (omega (arith, is', none))
      passes (inr turns) = passed TurnsOut s refl turns (on (goes tt (record s { turns = m' })).grown) where
        on : Grown (record s { turns = m' }) (last (l tt (record s { turns = m' }))) →
            Later s (last (l tt (record s { turns = m' })))
        on g = record { events = g.events; frames = g.frames; late = g.late }

    turned : (W : Type 0) (k l : Unit {0} → State → Piece W) → ((v : Unit {0}) → Goes (k v)) →
        ((v : Unit {0}) → Goes (l v)) → (s s' : State) → Ahead n n' s s'
        → ((t t' : State) → t.turns < s.turns → t'.turns < s'.turns → Ahead n n' t t' → Below W (k tt t) (l tt t')) →
        Below W (and_then (turn s) k) (and_then (turn s') l)
    turned W k l goes goes' s s' a h =
        let same_turns = ap (λ x. x.turns) a.state in
        subst (λ x. Below W (and_then (turn s) k) (and_then (turn x) l)) (sym a.state)
        (turn_at W k l goes' s s.turns _ refl refl a.few (subst (λ x. x < n') same_turns a.few')
        (λ t t' less less' b. h t t' less (subst (λ x. t'.turns < x) (sym same_turns) less') b))

    pub below_kept : Kept (Ahead n n') Below
    below_kept = record { reached = λ V v s s' a. along (ap (Reached v) a.state); after = after; turned = turned }

    computed_below : (V : Type 0) (here : Here) (line : ℕ) (r r' : Result V Cause) (s : State) → Keeps Soft V r r' →
        Below V (computed here line r s) (computed here line r' (richer d s))
    computed_below V here line r r' s (alike is) =
        along (ap (λ x. computed here line x (richer d s)) is ∙ itself r) where
          itself : (r : Result V Cause) → computed here line r (richer d s) ≡ richer_piece d (computed here line r s)
          itself r = grind arith
    computed_below V here line r r' s (blamed cause soft is) =
        passed (Blamed here.comp cause line) s (ap (λ x. computed here line x s) is) soft (stays r') where
          stays : (r : Result V Cause) → Later s (last (computed here line r (richer d s)))
          stays (Ok v) = record { events = prefix_same s.trace; frames = prefix_same _; late = tt }
          stays _ = record { events = prefix_same s.trace; frames = prefix_same _; late = tt }

    pub below_at : (here : Here) → KeptAt (Ahead n n') Below Soft here
    below_at here =
        record {
          computing = λ V line e e' h s s' a. subst (λ x. Below V (computed here line (e (s.memory here.comp)) s)
              (computed here line (e' (x.memory here.comp)) x)) (sym a.state)
              (computed_below V here line _ (e' _) s (h _));
          passed = λ V cause line soft s s' a p g. passed _ s refl soft
              (let on = later (richer d s) (last p) (subst (λ x. Grown x (last p)) a.state g.grown) in
              record { events = on.events; frames = on.frames; late = on.late });
          stored =
              λ blocks s s' a. record {
                state = ap {A = State} (λ x. record x { memory = with_blocks here.comp blocks x.memory }) a.state;
                few = a.few;
                few' = a.few';
              };
        }

-- Calls and scripts in two runs, of which the second may be richer or go on.

module _ (d : ℕ) (Soft : Cause → Type 0) (Turns : Type 0) (spent : (d ≡ 0) ⊎ Turns) where
  abbrev Beneath : Piece (Option Value) → Piece (Option Value) → Type 0
  Beneath = Below d Soft Turns (Option Value)

  -- doings that are related where fewer calls than this are still made
  abbrev pub Under : (n n' : ℕ) → (f g : State → Piece (Option Value)) → Type 0
  Under n n' = Related (Ahead d Soft Turns n n') (Below d Soft Turns) (Option Value)

  abbrev pub BodiesBelow : (n n' : ℕ) → Body → Body → Type 0
  BodiesBelow n n' a b = (number : ℕ) (here : Here) → Under n n' (a number here) (b number here)

  abbrev pub DenotationsBelow : (n n' : ℕ) → Denotations → Denotations → Type 0
  DenotationsBelow n n' = RelatedDenotations (Ahead d Soft Turns n n') (Below d Soft Turns) Anywhere

  abbrev FunctionsBelow : (n n' : ℕ) → Function → Function → Type 0
  FunctionsBelow n n' = RelatedFunctions (Ahead d Soft Turns n n') (Below d Soft Turns) Anywhere

  from_richer : (n n' : ℕ) (f g : State → Piece (Option Value)) → Goes f → Goes g →
      ((s : State) → Ahead d Soft Turns n n' s (richer d s) → Beneath (f s) (g (richer d s))) → Under n n' f g
  from_richer n n' f g go go' h = record {
    first = go;
    second = go';
    both = λ s s' ahead. subst (λ x. Beneath (f s) (g x)) (sym ahead.state)
        (h s (subst (Ahead d Soft Turns n n' s) ahead.state ahead));
  }

  -- what is the same in both
  same_below : (n n' : ℕ) (f g : State → Piece (Option Value)) → Goes f → Goes g →
      ((s : State) → g (richer d s) ≡ richer_piece d (f s)) → Under n n' f g
  same_below n n' f g go go' is = from_richer n n' f g go go' (λ s ahead. along (is s))

  pub stop_below : (n n' : ℕ) → Under n n' (Stopped TurnsOut) (Stopped TurnsOut)
  stop_below n n' = same_below n n' _ _ (λ s. no_turn s) (λ s. no_turn s) (λ s. refl)

  -- what follows once a function is looked up
  found_below : (m m' n n' : ℕ) (f g : Option Function) → Meets (FunctionsBelow m m') f g →
      (k l : Function → State → Piece (Option Value)) →
      ((f g : Function) → FunctionsBelow m m' f g → Under n n' (k f) (l g)) →
      Under n n' (λ s. and_then (found f s) k) (λ s. and_then (found g s) l)
  found_below m m' n n' None None meets k l h = stop_below n n'
  found_below m m' n n' (Some f) (Some g) meets k l h = h f g meets
  found_below m m' n n' _ _ meets k l h = absurd meets

  module _ (n n' : ℕ) (a b : Body) (bodies : BodiesBelow n n' a b) where
    goes : BodyGoes a
    goes number here = (bodies number here).first

    goes' : BodyGoes b
    goes' number here = (bodies number here).second

    -- a function that was found in both
    entered_below : (f g : Function) → g.cells ≡ f.cells → g.frame_size ≡ f.frame_size →
        (comp number : ℕ) (args : List Value)
        (back : Option Value → State → Piece (Option Value)) → ((v : Option Value) → Goes (back v)) →
        ((v : Option Value) (s : State) → back v (richer d s) ≡ richer_piece d (back v s)) → (s : State) →
        Ahead d Soft Turns n n' s (richer d s) → Beneath
        (and_then (a number (record { comp = comp; first = length (s.memory comp) }) (begun comp f args s))
        (λ v t. back v (done comp f (length (s.memory comp)) t)))
        (and_then (b number (record { comp = comp; first = length (s.memory comp) }) (begun comp g args (richer d s)))
        (λ v t. back v (done comp g (length (s.memory comp)) t)))
    entered_below f g cells frame_size comp number args back k k' s ahead =
        let first : ℕ = length (s.memory comp) in
        let here : Here = record { comp = comp; first = first } in
        let start : State = begun comp f args s in
        let alike_start : begun comp g args (richer d s) ≡ richer d start =
        ap₂ (λ cells frame_size. begun comp (record g { cells = cells; frame_size = frame_size }) args (richer d s))
        cells frame_size in
        let out : Option Value → State → Piece (Option Value) = λ v t. back v (done comp f first t) in
        let out' : Option Value → State → Piece (Option Value) = λ v t. back v (done comp g first t) in
        let alike_out : (v : Option Value) (t : State) → out' v (richer d t) ≡ richer_piece d (out v t) = λ v t.
        ap₂ (λ cells frame_size. back v
        (done comp (record g { cells = cells; frame_size = frame_size }) first (richer d t))) cells frame_size
        ∙ k' v (done comp f first t) in
        let leaves : (f : Function) (v : Option Value) → Goes (λ t. back v (done comp f first t)) =
        λ f v t. earlier t (done comp f first t) (back v _) (done_goes comp f first t) (k v (done comp f first t)) in
        let inside : Ahead d Soft Turns n n' start (richer d start) =
        record { state = refl; few = ahead.few; few' = ahead.few' } in
        subst (λ x. Beneath (and_then (a number here start) out) (and_then (b number here x) out')) (sym alike_start)
        ((below_kept d Soft Turns n n' spent).after (Option Value) (Option Value) start (richer d start) (a number here
        start) (b number here _) out out' inside (goes number here start) (goes' number here _) (leaves f) (leaves g)
        ((bodies number here).both start (richer d start) inside) (λ v t t' x x' ahead. along (ap (out' v) ahead.state ∙
        alike_out v t)))

    module _ (L M : Denotations) (related : DenotationsBelow (suc n) (suc n') L M) where
      run_below : (comp number : ℕ) (args : List Value) (back : Option Value → State → Piece (Option Value))
          → ((v : Option Value) → Goes (back v)) →
          ((v : Option Value) (s : State) → back v (richer d s) ≡ richer_piece d (back v s)) →
          Under n n' (run_in L a comp number args back) (run_in M b comp number args back)
      run_below comp number args back k k' = found_below _ _ n n' (function L comp number) (function M comp number)
          (related.functions comp number) _ _ (λ f g meets. from_richer n n' _ _
          (frame_goes L a goes comp number f args back k) (frame_goes M b goes' comp number g args back k)
          (λ s ahead. entered_below f g meets.cells meets.frame_size comp number args back k k' s ahead))

      pub own_below : (comp number : ℕ) (args : List Value) →
          Under n n' (call_own L a comp number args) (call_own M b comp number args)
      own_below comp number args = run_below comp number args back_own (λ v. stays v) (λ v s. refl)

      -- a call across, once the number of the function is known
      abbrev crosses : Denotations → Body → Interfaces → (from to index : ℕ) → List Value → ℕ → State →
          Piece (Option Value)
      crosses denotations body interfaces from to index args number s = run_in denotations body to number (crossed args)
          (back_cross interfaces from to index) (emit_event (Call from to index (map word_in args)) s)

      cross_to : (from to index : ℕ) (args : List Value) (number : Option ℕ) (s : State) →
          Ahead d Soft Turns n n' s (richer d s) →
          Beneath (and_then (found number s) (crosses L a L.interfaces from to index args))
          (and_then (found number (richer d s)) (crosses M b L.interfaces from to index args))
      cross_to from to index args None s ahead = along refl
      cross_to from to index args (Some number) s ahead = (run_below to number (crossed args)
          (back_cross L.interfaces from to index) (back_goes L.interfaces from to index) (λ v s. refl)).both
          (emit_event _ s)
          (emit_event _ (richer d s)) (record { state = refl; few = ahead.few; few' = ahead.few' })

      cross_below : (from to index : ℕ) (args : List Value) →
          Under n n' (call_cross L a from to index args) (call_cross M b from to index args)
      cross_below from to index args = from_richer n n' _ _ (cross_goes L a goes from to index args) (cross_goes M b
          goes' from to index args) (λ s ahead. subst (λ x. Beneath (call_cross L a from to index args s) (and_then
          (found x (richer d s)) (crosses M b M.interfaces from to index args)))
          (sym (related.entered to (Export index)))
          (subst (λ i. Beneath (call_cross L a from to index args s) (and_then (found (L.entered to (Export index))
          (richer d s)) (crosses M b i from to index args))) (sym related.interfaces) (cross_to from to index args
          (L.entered to _) s ahead)))

      abbrev Within : (f g : State → Piece (Option Value)) → Type 0
      Within = Under (suc n) (suc n')

      -- a turn, and then what is related while fewer calls are made
      after_turn : (f g : State → Piece (Option Value)) → Under n n' f g →
          Within (λ s. and_then (turn s) (λ _. f)) (λ s. and_then (turn s) (λ _. g))
      after_turn f g h = record {
        first = λ s. then_goes s (turn s) (λ _. f) (turn_goes s) (λ _. h.first);
        second = λ s. then_goes s (turn s) (λ _. g) (turn_goes s) (λ _. h.second);
        both = λ s s' ahead. (below_kept d Soft Turns (suc n) (suc n') spent).turned (Option Value) (λ _. f) (λ _. g)
            (λ _. h.first) (λ _. h.second) s s' ahead (λ t t' less less' next. h.both t t' (record {
              state = next.state;
              few = omega (arith, less, ahead.few);
              few' = omega (arith, less', ahead.few');
            }));
      }

      called_below : (from : ℕ) (target : CallTarget) (args : List Value) →
          Within (called L a from target args) (called M b from target args)
      called_below from (Own number) args = after_turn _ _ (own_below from number args)
      called_below from (Cross to index) args = after_turn _ _ (cross_below from to index args)
      called_below from Input args = same_below _ _ (called L a from Input args) (called M b from Input args)
          (called_go L a goes from Input args) (called_go M b goes' from Input args) (λ s. refl)
      called_below from Output args = same_below _ _ (called L a from Output args) (called M b from Output args)
          (called_go L a goes from Output args) (called_go M b goes' from Output args) (λ s. refl)

      -- the same tests are made
      tested : (from : ℕ) (target : CallTarget) (args : List Value) (f : State → Piece (Option Value))
          (g : Bool → State → Piece (Option Value)) → Within f (g (may_call L from target args)) →
          Within f (g (may_call M from target args))
      tested from target args f g h =
          subst (λ may. Within f (g may)) (sym (may_same _ _ Anywhere L M related from target args)) h

      pub calls_below : (from : ℕ) → RelatedCalls (Ahead d Soft Turns (suc n) (suc n')) (Below d Soft Turns) Anywhere
          from
          (calls L a) (calls M b)
      calls_below from target args = tested from target args _ (λ may s. if may then called M b from target args s else
          Stopped (Blamed from BadType 0) s) (if_related _ _ (may_call L from target args) _ _ _ _
          (called_below from target args) (same_below _ _ _ _ (λ s. record { grown = same s; stop = tt })
          (λ s. record { grown = same s; stop = tt }) (λ s. refl)))

      asked_below : (from : ℕ) (target : CallTarget) (args : List Value) →
          Within (asks L a from target args) (asks M b from target args)
      asked_below from target args = tested from target args _ (λ may s. if may then calls M b from target args s else
          Stopped TurnsOut s) (if_related _ _ (may_call L from target args) _ _ _ _ (calls_below from target args)
          (stop_below _ _))

      pub run_step_below : BodiesBelow (suc n) (suc n') (run_step L a) (run_step M b)
      run_step_below number here = found_below _ _ (suc n) (suc n') (function L _ number) (function M _ number)
          (related.functions _ number) _ _ (λ f g meets. meets.does _ _ here tt (calls_below _))

      -- a row's call takes its turn first, where it may be made, and then the function performs again
      row_call : (number : ℕ) (here : Here) (to index : ℕ) (args : List Value) →
          Within (λ s. and_then (asks L a here.comp (Cross to index) args s) (λ v. a number here))
          (λ s. and_then (asks M b here.comp (Cross to index) args s) (λ v. b number here))
      row_call number here to index args = tested here.comp (Cross to index) args _ (λ may s. and_then (if may then
          (if may then called M b here.comp (Cross to index) args s else Stopped (Blamed here.comp BadType 0) s) else
          Stopped TurnsOut s) (λ v. b number here)) (by (may_call L here.comp (Cross to index) args)) where
            by : (may : Bool) → Within (λ s. and_then (if may then (if may then called L a here.comp (Cross to index)
                args s else Stopped (Blamed here.comp BadType 0) s) else Stopped TurnsOut s) (λ v. a number here))
                (λ s. and_then (if may then (if may then called M b here.comp (Cross to index) args s else
                Stopped (Blamed here.comp BadType 0) s) else Stopped TurnsOut s) (λ v. b number here))
            by false = stop_below _ _
            by true = subst (λ f. Within f (λ s. and_then (called M b here.comp (Cross to index) args s)
                (λ v. b number here)))
                (λ i s. sym (then_then (turn s) (λ _. call_cross L a here.comp to index args) (λ v. a number here)) i)
                (subst (Within (λ s. and_then (turn s) (λ _ s. and_then (call_cross L a here.comp to index args s)
                (λ v. a number here))))
                (λ i s. sym (then_then (turn s) (λ _. call_cross M b here.comp to index args) (λ v. b number here)) i)
                (after_turn _ _ (then_related _ _ (below_kept d Soft Turns n n' spent)
                (call_cross L a here.comp to index args) (call_cross M b here.comp to index args) (λ v. a number here)
                (λ v. b number here) (cross_below here.comp to index args) (λ v. bodies number here))))

      -- a call of the environment, and then the rows after it
      row_then : (from : ℕ) (target : CallTarget) (args : List Value) (next next' : State → Piece (Option Value)) →
          Within next next' → Within (λ s. and_then (asks L a from target args s) (λ v. next))
          (λ s. and_then (asks M b from target args s) (λ v. next'))
      row_then from target args next next' h = then_related _ _ (below_kept d Soft Turns (suc n) (suc n') spent)
          (asks L a from target args) (asks M b from target args) (λ v. next) (λ v. next')
          (asked_below from target args) (λ v. h)

      acts_below : (action : Action) (next next' : State → Piece (Option Value)) → Within next next' →
          (number : ℕ) (here : Here) → Within (acts L a action next (a number here) here.comp)
          (acts M b action next' (b number here) here.comp)
      acts_below (act.Call to index words) next next' h number here = row_call number here to index (map _ words)
      acts_below (act.Ret v) next next' h number here =
          same_below _ _ (Reached _) (Reached (option_value v)) (λ s. stays _ s) (λ s. stays _ s) (λ s. refl)
      acts_below (act.Out w) next next' h number here = row_then here.comp Output (Word w ∷ []) next next' h
      acts_below (act.In w) next next' h number here = row_then here.comp Input [] next next' h
      acts_below (act.End w) next next' h number here =
          same_below _ _ (Reached _) (Reached (Some (Word w))) (λ s. stays _ s) (λ s. stays _ s) (λ s. refl)

      performs_below : (rows : List Row) → BodiesBelow (suc n) (suc n') (performs L a rows) (performs M b rows)
      performs_below [] number here = stop_below _ _
      performs_below (row ∷ rest) number here = subst (λ x. Within (performs L a (row ∷ rest) number here)
          (λ s. if is_number number x then acts M b row.action (performs M b rest number here) (b number here) here.comp
          s else Stopped TurnsOut s)) (sym (related.entered _ _)) (if_related _ _ (is_number number _) _ _ _ _
          (acts_below row.action _ _ (performs_below rest number here) number here) (stop_below _ _))

      pub scripted_below : (roles : Roles) (step step' : Step) → BodiesBelow (suc n) (suc n') (step a) (step' b) →
          BodiesBelow (suc n) (suc n') (scripted_step L roles step a) (scripted_step M roles step' b)
      scripted_below roles step step' h number here = if_related _ _ (roles.scripted _) _ _ _ _ (from_richer _ _ _ _
          (λ s. performs_go L a goes _ number here s) (λ s. performs_go M b goes' _ number here s) (λ s ahead.
          (performs_below (rows_left roles here.comp s.trace) number here).both s (richer d s) ahead)) (h number here)

  -- steps under which bodies are related for one call more
  abbrev pub StepsBelow : Step → Step → Type 0
  StepsBelow step step' =
      (n n' : ℕ) (a b : Body) → BodiesBelow n n' a b → BodiesBelow (suc n) (suc n') (step a) (step' b)

  pub within_below : (step step' : Step) → StepGoes step → StepGoes step' → StepsBelow step step' → (n n' : ℕ) →
      BodiesBelow n n' (within step n) (within step' n')
  within_below step step' goes goes' h (suc n) (suc n') number here =
      h n n' _ _ (within_below step step' goes goes' h n n') number here
  within_below step step' goes goes' h zero n' number here = from_richer zero n' _ _ (within_goes step goes zero number
      here) (within_goes step' goes' n' number here) (λ s ahead. absurd (omega (arith, ahead.few)))
  within_below step step' goes goes' h (suc n) zero number here = from_richer (suc n) zero _ _
      (within_goes step goes (suc n) number here) (within_goes step' goes' zero number here)
      (λ s ahead. absurd (omega (arith, ahead.few')))
