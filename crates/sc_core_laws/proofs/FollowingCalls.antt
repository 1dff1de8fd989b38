-- Calls in two runs along one trace, of which the second has more compartments that perform their parts of it.
use Rattle.sc_core_laws.proofs.Common.{Action, BadType, Body, Bool, Call, CallTarget, Cross, Denotations, Event, Export}
use Rattle.sc_core_laws.proofs.Common.{Function, Goes, Gone, Here, In, Input, IsFixed, IsPrefix, List, Meets, None}
use Rattle.sc_core_laws.proofs.Common.{Option, Out, Output, Own, Piece, Proto, Reached, Ret, Row, Some, Standing, State}
use Rattle.sc_core_laws.proofs.Common.{Step, Stopped, TurnsOut, Value, Word, [], action_of, acts, and_from, and_parts}
use Rattle.sc_core_laws.proofs.Common.{and_then, ap, ap₂, arith, asks, at_start, back_cross, begun, blocks_for}
use Rattle.sc_core_laws.proofs.Common.{both_ways, call_cross, call_own, called, calls, crossed, crossing, done, drop}
use Rattle.sc_core_laws.proofs.Common.{emit_event, ended, eq-eqb, export_at, false, first_word, found, function}
use Rattle.sc_core_laws.proofs.Common.{if◌then◌else◌, imports, is_number, is_output, is_word, last, length, list_all}
use Rattle.sc_core_laws.proofs.Common.{map, may_call, next_input, now, option_value, performer, performs, read_input}
use Rattle.sc_core_laws.proofs.Common.{refl, roles_in, rows_left, run_in, run_step, scripted_step, stands_after}
use Rattle.sc_core_laws.proofs.Common.{stands_after_all, subst, suc, sym, takes, true, turn, turn_of, within, word_in}
use Rattle.sc_core_laws.proofs.Common.{zero, ℕ, ◌++◌, ◌∙◌, ◌∷◌, ◌≡◌}
use Rattle.sc_event.specs.declared.row.Action.TheVariants as act
use Rattle.sc_core_laws.proofs.Growing.{prefix_same, prefix_more, more, reached, stays, no_turn, earlier, then_goes}
use Rattle.sc_core_laws.proofs.Growing.{BodyGoes, done_goes, own_goes, cross_goes, back_goes, calls_go, performs_go}
use Rattle.sc_core_laws.proofs.Growing.{DenotationsGo, run_step_goes, scripted_goes, asks_is, asks_go, run_goes}
use Rattle.sc_core_laws.proofs.Growing.{then_prefix}
use Rattle.sc_core_laws.proofs.Related.{RelatedCalls, RelatedFunctions, RelatedDenotations}
use Rattle.sc_core_laws.proofs.Rows.{InLine, in_line_before, NextIs, over, next_emitted_is, Next, row_of_next}
use Rattle.sc_core_laws.proofs.Rows.{rows_after, emitted as next_emitted, then_along}
use Rattle.sc_core_laws.proofs.Following.{Abreast, Beyond, KeepsUp, Keeping, near_blocks, near_emit, whole, beyond_then}
use Rattle.sc_core_laws.proofs.Following.{follow_kept, Stands, OneSided, Performs, Perform, left_goes, perform_kept}
use Rattle.sc_core_laws.proofs.Following.{stands_stored, MovesOrReturns, beyond_back, beyond_in, KeepsUp as follows}
use Rattle.sc_core_laws.proofs.Following.{Performs as performing, MovesOn as passed, MovesOrReturns as passing}
use Rattle.sc_core_laws.proofs.Following.{near_with, stops_short, both_stop, both_blamed, stops_here, blamed_here}
use Rattle.sc_core_laws.proofs.Scripts.{words_are}

-- a call of this compartment, whose first block is this
abbrev pub at : (comp first : ℕ) → Here
at comp first = record { comp = comp; first = first }

-- what crossed crosses again as the same
crossing_stays : (proto : Option Proto) (v : Option Value) → crossing proto (option_value (crossing proto v))
    ≡ crossing proto v
crossing_stays proto v = grind arith

crossed_again : (args : List Value) → crossed (map (λ w. Word w) (map word_in args)) ≡ crossed args
crossed_again [] = refl
crossed_again (v ∷ args) = ap (λ rest. Word (word_in v) ∷ rest) (crossed_again args)

words_again : (words : List ℕ) → map word_in (map (λ w. Word w) words) ≡ words
words_again [] = refl
words_again (w ∷ words) = ap (λ rest. w ∷ rest) (words_again words)

as_many : (args : List Value) → length (map (λ w. Word w) (map word_in args)) ≡ length args
as_many [] = refl
as_many (v ∷ args) = ap suc (as_many args)

-- a compartment that performs in the first run does in the second
module _ (L : Denotations) (main : ℕ) (t : List Event) (S S' : ℕ → Bool)
    (larger : (c : ℕ) → S c ≡ true → S' c ≡ true) where
  abbrev pub first_step : Step
  first_step = scripted_step L (roles_in main S t) (run_step L)

  abbrev pub second_step : Step
  second_step = scripted_step L (roles_in main S' t) (run_step L)

  -- what functions do in the second run
  abbrev pub second : Body
  second = now second_step

  abbrev pub N : Standing → State → State → Type 0
  N = Abreast main t S'

  abbrev pub F : Standing → Piece (Option Value) → Piece (Option Value) → Type 0
  F st o p = Keeping main t S' st (Option Value) o p

  abbrev Up : Standing → Piece (Option Value) → Piece (Option Value) → Type 0
  Up st o p = KeepsUp main t S' st (Option Value) o p

  -- what the denoted functions keep
  abbrev RelatedRunsFollow : Type 0
  RelatedRunsFollow = (st : Standing) → RelatedDenotations (N st) (Keeping main t S' st) (λ h. S' h.comp ≡ false) L L

  abbrev RelatedRunsPerform : Type 0
  RelatedRunsPerform = (st : Standing) (left : Piece (Option Value)) (rest : State → Piece (Option Value))
      (goes : Goes rest) → ((s : State) → Stands main t S' st left rest goes s →
      MovesOrReturns main t S' s.trace left) → RelatedDenotations
      (OneSided main t S' st left rest goes) (Perform main t S' st left rest goes) (λ h. S' h.comp ≡ true) L L

  -- a step, by whether the compartment performs
  role_is : (body : Body) (set : ℕ → Bool) (number : ℕ) (here : Here) (s : State) (b : Bool) → set here.comp ≡ b →
      scripted_step L (roles_in main set t) (run_step L) body number here s ≡ (if b then performs L body
      (rows_left (roles_in main set t) here.comp s.trace) number here s else run_step L body number here s)
  role_is body set number here s b is = grind (arith, is)

  module _ (fixed : IsFixed second_step) (second_goes : BodyGoes second) where
    -- the function with which a compartment was entered goes on performing
    abbrev pub Onward : (k comp first : ℕ) → State → Piece (Option Value)
    Onward k comp first = second k (at comp first)

    abbrev pub Held : Standing → (k comp first : ℕ) → Piece (Option Value) → State → Type 0
    Held st k comp first left s = Stands main t S' st left (Onward k comp first) (second_goes k (at comp first)) s

    abbrev pub P : Standing → (k comp first : ℕ) → Piece (Option Value) → Piece (Option Value) → Type 0
    P st k comp first left o = Perform main t S' st left (Onward k comp first) (second_goes k (at comp first))
        (Option Value) o o

    -- what is to be proved of the bodies of the first run
    pub record Bodies (a : Body) : Type 0 where
      pub goes : BodyGoes a
      -- of a compartment that performs in neither run, and of one that performs in the second
      pub plain : (number : ℕ) (here : Here) (st : Standing) (s s' : State) → S' here.comp ≡ false → N st s s' →
          F st (a number here s) (second number here s')
      pub resumes : (number comp first k first' : ℕ) (st : Standing) (left : Piece (Option Value)) (s : State) →
          S' comp ≡ true → L.entered comp st.active.entry ≡ Some k → Held st k comp first' left s →
          P st k comp first' left (a number (at comp first) s)

    performs_now : (k comp first : ℕ) (s : State) → S' comp ≡ true → second k (at comp first) s
        ≡ performs L second (rows_left (roles_in main S' t) comp s.trace) k (at comp first) s
    performs_now k comp first s set = fixed k _ s ∙ role_is second S' k (at comp first) s true set

    -- THE NEXT ROW
    pub record Emitting (k comp first : ℕ) (e : Event) (s : State) : Type 0 where
      pub rest : List Row
      pub left : rows_left (roles_in main S' t) comp (s.trace ++ e ∷ []) ≡ rest
      pub is : second k (at comp first) s ≡ acts L second (action_of e) (performs L second rest k (at comp first))
          (second k (at comp first)) comp s

    -- an event of a compartment that performs: the trace ends, or the second run emits it too
    pub data Emits (k comp first : ℕ) (s s' : State) (e : Event) : Type 0 where
      all_emitted : t ≡ s.trace → Emits k comp first s s' e
      emits_it : (more : List Event) → t ≡ s.trace ++ e ∷ more → Emitting k comp first e s' → Emits k comp first s s' e

    pub emits_next : (k comp first : ℕ) (st : Standing) (s s' : State) (e : Event) → S' comp ≡ true →
        L.entered comp st.active.entry ≡ Some k → performer e ≡ comp → N st s s' → InLine t (s.trace ++ e ∷ []) →
        Emits k comp first s s' e
    emits_next k comp first st s s' e set is_k own n along = by_next (next_emitted_is t s.trace e n.prefix along) where
      performs_next : (more : List Event) → t ≡ s'.trace ++ e ∷ more → Emitting k comp first e s'
      performs_next more is =
          let stands = ap (stands_after_all (at_start main)) n.trace ∙ n.stands in
          let next : Next _ st e = row_of_next main comp t s'.trace e more st is stands own in
          let row : Row = record { entry = st.active.entry; number = next.number; action = action_of e } in
          let doing =
          acts L second (action_of e) (performs L second next.rest k _) (second k (at comp first)) comp s' in
          record {
            rest = next.rest;
            left = rows_after main comp t s'.trace e st own next;
            is = performs_now k comp first s' set ∙ ap (λ rows. performs L second rows k (at comp first) s') next.is
                ∙ ap (λ n. if is_number k n then doing else Stopped TurnsOut s') is_k
                ∙ ap (λ b. if b then doing else Stopped TurnsOut s') (eq-eqb k k refl);
          }

      by_next : NextIs t s.trace e → Emits k comp first s s' e
      by_next (over all) = all_emitted all
      by_next (next_emitted more all) =
          emits_it more all (performs_next more (all ∙ ap (λ u. u ++ e ∷ more) (sym n.trace)))

    -- a function that performs emits an event more, wants a turn or a row for it, or returns
    abbrev Passes : State → Piece (Option Value) → Type 0
    Passes s p = MovesOrReturns main t S' s.trace p

    halts : (s : State) → Passes s (Stopped TurnsOut s)
    halts s = passing.passes (passed.no_turn s refl refl)

    -- a call emits its event, or there is no turn or no function for it
    data Asked (e : Event) (u : List Event) (o : Piece (Option Value)) : Type 0 where
      silent : (y : State) → o ≡ Stopped TurnsOut y → y.trace ≡ u → Asked e u o
      loud : IsPrefix (u ++ e ∷ []) (last o).trace → Asked e u o

    cross_asked : (body : Body) → BodyGoes body → (comp to index : ℕ) (args : List Value) (s : State) (m : ℕ) →
        Asked (Call comp to index (map word_in args)) s.trace
        (and_then (turn_of m s) (λ _ s. call_cross L body comp to index args s))
    cross_asked body goes comp to index args s zero = silent s refl refl
    cross_asked body goes comp to index args s (suc m) = by_number (L.entered to (Export index)) where
      by_number : (number : Option ℕ) → Asked (Call comp to index (map word_in args)) s.trace
          (and_then (found number (record s { turns = m })) (λ number s. run_in L body to number (crossed args)
          (back_cross L.interfaces comp to index) (emit_event (Call comp to index (map word_in args)) s)))
      by_number None = silent (record s { turns = m }) refl refl
      by_number (Some number) = loud (run_goes L body goes to number _
          (back_cross L.interfaces comp to index) (back_goes L.interfaces comp to index) _).grown.events

    asks_pass : (comp : ℕ) (target : CallTarget) (args : List Value) (e : Event) (s : State)
        (k : Option Value → State → Piece (Option Value)) → ((v : Option Value) → Goes (k v)) →
        Asked e s.trace (called L second comp target args s) →
        Passes s (and_then (asks L second comp target args s) k)
    asks_pass comp target args e s k goes h = subst (λ o. Passes s (and_then o k))
        (sym (asks_is L second second_goes comp target args s)) (by_test (may_call L comp target args) h) where
          by_test : (b : Bool) → Asked e s.trace (called L second comp target args s) →
              Passes s (and_then (if b then called L second comp target args s else Stopped TurnsOut s) k)
          by_test true (silent y stops trace) = passing.passes (passed.no_turn y (ap (λ o. and_then o k) stops) trace)
          by_test true (loud prefix) = passing.passes (passed.longer e (then_prefix (s.trace ++ e ∷ [])
              (called L second comp target args s) k goes prefix))
          by_test false h = halts s

    action_passes : (action : Action) (k comp first : ℕ) (next : State → Piece (Option Value)) → Goes next →
        (s : State) → Passes s (acts L second action next (second k (at comp first)) comp s)
    action_passes (act.Call to index words) k comp first next goes s =
        let args = map (λ w. Word w) words in
        asks_pass comp (Cross to index) args (Call comp to index (map word_in args)) s (λ v. second k _)
        (λ v. second_goes k (at comp first)) (cross_asked second second_goes comp to index args s s.turns)
    action_passes (act.Ret v) k comp first next goes s = passing.hands_back _ s refl refl
    action_passes (act.Out w) k comp first next goes s =
        asks_pass comp Output (Word w ∷ []) (Out comp w) s (λ v. next) (λ v. goes) (loud (prefix_same _))
    action_passes (act.In w) k comp first next goes s =
        asks_pass comp Input [] (In comp _) s (λ v. next) (λ v. goes) (loud (prefix_same _))
    action_passes (act.End w) k comp first next goes s = passing.hands_back _ s refl refl

    rows_pass : (rows : List Row) (k comp first : ℕ) (s : State) → Passes s (performs L second rows k (at comp first) s)
    rows_pass [] k comp first s = halts s
    rows_pass (row ∷ rest) k comp first s = by_test _ where
      by_test : (b : Bool) → Passes s (if b then acts L second row.action (performs L second rest k (at comp first))
          (second k (at comp first)) comp s else Stopped TurnsOut s)
      by_test true = action_passes _ k comp first _ (performs_go L second second_goes rest k _) s
      by_test false = halts s

    pub second_passes : (k comp first : ℕ) (s : State) → S' comp ≡ true → Passes s (second k (at comp first) s)
    second_passes k comp first s set = subst (Passes s) (sym (performs_now k comp first s set))
        (rows_pass (rows_left (roles_in main S' t) comp s.trace) k comp first s)

    held_passes : (st : Standing) (k comp theirs : ℕ) (left : Piece (Option Value)) → S' comp ≡ true → (s : State) →
        Held st k comp theirs left s → MovesOrReturns main t S' s.trace left
    held_passes st k comp theirs left set s h = subst (λ u. MovesOrReturns main t S' u left) h.near.trace
        (subst (MovesOrReturns main t S' _) (sym h.is) (second_passes k comp theirs h.other set))

    -- CALLS ACROSS
    -- a call of this function returns
    abbrev returns : (to from index : ℕ) → Function → ℕ → Option Value → State → Piece (Option Value)
    returns to from index f first v s = back_cross L.interfaces from to index v (done to f first s)

    -- what crosses then
    abbrev back : (to index : ℕ) → Option Value → Option ℕ
    back to index v = crossing (export_at L.interfaces to index) v

    returns_goes : (to from index : ℕ) (f : Function) (first : ℕ) (v : Option Value) →
        Goes (returns to from index f first v)
    returns_goes to from index f first v s =
        earlier s (done to f first s) _ (done_goes to f first s) (back_goes L.interfaces from to index v _)

    -- the standing within a call
    abbrev inside : Standing → (to index : ℕ) → Standing
    inside st to index =
        record { active = record { comp = to; entry = Export index }; waiting = st.active ∷ st.waiting }

    -- the whole trace is emitted before this event
    abbrev past : (u : List Event) (e : Event) → t ≡ u → IsPrefix t (u ++ e ∷ [])
    past u e is = whole main t S' u (u ++ e ∷ []) is (record { more = e ∷ []; is = refl })

    -- an event in both, and what follows it
    emits_trace : (V : Type 0) (st after : Standing) (y y' : State) (e : Event) (o p : Piece V) →
        stands_after st e ≡ Some after → N st y y' → IsPrefix (y.trace ++ e ∷ []) (last o).trace →
        IsPrefix (y'.trace ++ e ∷ []) (last p).trace →
        (N after (emit_event e y) (emit_event e y') → Keeping main t S' st V o p) → Keeping main t S' st V o p
    emits_trace V st after y y' e o p moves n prefix prefix' go = record {
      follows = λ along.
          by_next (next_emitted_is t y.trace e n.prefix (in_line_before t _ (last o).trace prefix along)) along;
    } where
      by_next : NextIs t y.trace e → InLine t (last o).trace → KeepsUp main t S' st V o p
      by_next (over all) along = follows.done
          (prefix_more t (y.trace ++ e ∷ []) (last o).trace (past y.trace e all) prefix)
          (prefix_more t (y'.trace ++ e ∷ []) (last p).trace (past y'.trace e (all ∙ sym n.trace)) prefix')
      by_next (next_emitted more all) along = (go (near_emit main t S' st after y y' e more moves all n)).follows along

    module _ (st : Standing) (from to index : ℕ) (f : Function) (first : ℕ) where
      -- what the call does at its end, and what it emits then
      abbrev ends : Option Value → State → Piece (Option Value)
      ends = returns to from index f first

      abbrev emitted : Option Value → Event
      emitted v = Ret to from (back to index v)

      ended_near : (first' : ℕ) (u u' : State) (v : Option Value) (more : List Event) →
          t ≡ u.trace ++ emitted v ∷ more →
          (S' to ≡ false → ended first' (length f.cells) (u'.memory to) ≡ ended first (length f.cells) (u.memory to)) →
          N (inside st to index) u u' → N st (emit_event (emitted v) (done to f first u))
          (emit_event (emitted v) (done to f first' u'))
      ended_near first' u u' v more all same near = near_emit main t S' (inside st to index) st (done to f first u)
          (done to f first' u') (emitted v) more refl all (near_blocks main t S' _ u u' to _ _ _ _ same near)

      both_return : (o p : Piece (Option Value)) → InLine t (last (and_then o ends)).trace →
          Up (inside st to index) o p → Up st (and_then o ends) (and_then p ends)
      both_return o p along (follows.done a b) = follows.done
          (then_prefix t o ends (returns_goes to from index f first) a)
          (then_prefix t p ends (returns_goes to from index f first) b)
      both_return o p along (follows.both v u u' is is' near) =
          subst (λ y. Up st (and_then y ends) (and_then p ends)) (sym is)
          (subst (λ y. Up st (ends v u) (and_then y ends)) (sym is')
          (emitted_both (next_emitted_is t u.trace (emitted v)
          near.prefix (subst (λ y. InLine t (last (and_then y ends)).trace) is along)))) where
            emitted_both : NextIs t u.trace (emitted v) → Up st (ends v u) (ends v u')
            emitted_both (over all) =
                follows.done (past u.trace (emitted v) all) (past u'.trace (emitted v) (all ∙ sym near.trace))
            emitted_both (next_emitted more all) =
                follows.both (option_value (back to index v)) _ _ refl refl (ended_near
                first u u' v more all (λ clear. ap (ended first (length f.cells)) (near.memory to clear)) near)
      both_return o p along (follows.stop end x is by) = follows.stop end x (ap (λ y. and_then y ends) is)
          (beyond_then main t S' (Option Value) (Option Value) end x p ends (returns_goes to from index f first) by)

      module _ (first' : ℕ) where
        -- in the second run
        abbrev ends' : Option Value → State → Piece (Option Value)
        ends' = returns to from index f first'

        held_return : (k : ℕ) (o left : Piece (Option Value)) → S' to ≡ true → L.entered to (Export index) ≡ Some k →
            InLine t (last (and_then o ends)).trace → Performs main t S' (inside st to index) left (Onward k to first')
            (second_goes k (at to first')) (Option Value) o → Up st (and_then o ends) (and_then left ends')
        held_return k o left set is_k along (performing.done a b) = follows.done
            (then_prefix t o ends (returns_goes to from index f first) a)
            (then_prefix t left ends' (returns_goes to from index f first') b)
        held_return k o left set is_k along (performing.here v u is stands) =
            subst (λ y. Up st (and_then y ends) (and_then left ends')) (sym is) (emitted_held (emits_next k to first'
            (inside st to index) u stands.other (emitted v) set is_k refl stands.near
            (subst (λ y. InLine t (last (and_then y ends)).trace) is along))) where
              emitted_held : Emits k to first' u stands.other (emitted v) → Up st (ends v u) (and_then left ends')
              emitted_held (all_emitted all) =
                  follows.done (past u.trace (emitted v) all)
                  (whole main t S' u.trace _ all (then_prefix u.trace left ends'
                  (returns_goes to from index f first') (left_goes main t S' (inside st to index) left
                  (Onward k to first') (second_goes k (at to first')) u stands)))
              emitted_held (emits_it more all now) = follows.both (option_value (back to index v)) _ _ refl
                  (ap (λ y. and_then y ends') (stands.is ∙ now.is) ∙
                  ap (λ w. Reached (option_value w) (emit_event (Ret to
                  from w) (done to f first' stands.other))) (crossing_stays (export_at L.interfaces to index) v))
                  (ended_near first' u stands.other v more all (λ clear. absurd (both_ways _ clear set)) stands.near)
        held_return k o left set is_k along (performing.stop end x is by) =
            follows.stop end x (ap (λ y. and_then y ends) is) (beyond_back main t S' (Option Value) end x left ends'
            (returns_goes to from index f first') (λ v u. (emitted v, prefix_same (u.trace ++ emitted v ∷ []))) by)

    module _ (a : Body) (bodies : Bodies a) where
      -- the call once the function is found: its variables and its frame are there, and the call is emitted
      abbrev starts : (from to index : ℕ) → List Value → Function → State → State
      starts from to index args f s = begun to f (crossed args) (emit_event (Call from to index (map word_in args)) s)

      abbrev enters : Body → (from to index number : ℕ) → List Value → Function → State → Piece (Option Value)
      enters body from to index number args f s =
          and_then (body number (at to (length (s.memory to))) (starts from to index args f s))
          (returns to from index f (length (s.memory to)))

      enters_goes : (body : Body) → BodyGoes body →
          (from to index number : ℕ) (args : List Value) (f : Function) (s : State) →
          Gone (starts from to index args f s) (enters body from to index number args f s)
      enters_goes body goes from to index number args f s =
          then_goes _ (body number _ _) (returns to from index f _) (goes number _ _) (returns_goes to from index f _)

      module _ (from to index number : ℕ) (args : List Value) (f : Function) (is_number : L.entered to (Export index)
          ≡ Some number) (st : Standing) (s s' : State) (n : N st s s') where
        abbrev first : ℕ
        first = length (s.memory to)

        abbrev first' : ℕ
        first' = length (s'.memory to)

        abbrev event : Event
        event = Call from to index (map word_in args)

        abbrev x : State
        x = starts from to index args f s

        abbrev x' : State
        x' = starts from to index args f s'

        -- the call in both runs
        abbrev run : Piece (Option Value)
        run = enters a from to index number args f s

        abbrev run' : Piece (Option Value)
        run' = enters second from to index number args f s'

        along_inside : InLine t (last run).trace → InLine t (last (a number (at to first) x)).trace
        along_inside =
            then_along t (a number (at to first) x) (returns to from index f first) (returns_goes to from index f first)

        -- by whether the callee's compartment performs in the second run
        callee : (b : Bool) → S' to ≡ b → N (inside st to index) x x' → InLine t (last run).trace → Up st run run'
        callee true set near along = held_return st from to index f first first' number (a number (at to first) x)
            (second number (at to first') x') set is_number along ((bodies.resumes number to first number first'
            (inside st to index) (second number (at to first') x') x set is_number
            (record { other = x'; near = near; is = refl })).performs (along_inside along))
        callee false clear near along =
            subst (λ k. Up st run (and_then (second number (at to k) x') (returns to from index f k)))
            (sym (ap length (n.memory to clear))) (both_return st from to index f first (a number _ x)
            (second number (at to first) x') along
            ((bodies.plain number (at to first) (inside st to index) x x' clear near).follows (along_inside along)))

        enters_follow : F st run run'
        enters_follow = emits_trace (Option Value) st (inside st to index) s s' event run run' refl n
            (enters_goes a bodies.goes from to index number args f s).grown.events
            (enters_goes second second_goes from to index number args f s').grown.events
            (λ near. record {
              follows = callee _ refl (near_blocks main t S' _ _ _ to _ _ _ _
                  (λ clear. ap (λ blocks. blocks ++ blocks_for f.cells (crossed args)) (n.memory to clear)) near);
            })

      -- what is looked up is there in both runs, or both stop
      found_follow : {V : Type 0} (o : Option V) (go go' : V → State → Piece (Option Value)) (st : Standing)
          (s s' : State) → s'.trace ≡ s.trace → ((v : V) → o ≡ Some v → F st (go v s) (go' v s')) →
          F st (and_then (found o s) go) (and_then (found o s') go')
      found_follow None go go' st s s' same h = both_stop main t S' st (Option Value) s s' same
      found_follow (Some v) go go' st s s' same h = h v refl

      pub cross_follows : (from to index : ℕ) (args : List Value) (st : Standing) (s s' : State) → N st s s' →
          F st (call_cross L a from to index args s) (call_cross L second from to index args s')
      cross_follows from to index args st s s' n = found_follow (L.entered to _) _ _ st s s' n.trace (λ number is.
          let event : Event = Call from to index (map word_in args) in
          found_follow (function L to number) _ _ st (emit_event event s) (emit_event event s')
          (ap (λ u. u ++ event ∷ []) n.trace) (λ f there. enters_follow from to index number args f is st s s' n))

      if_follows : (b : Bool) (st : Standing) (o o' p p' : Piece (Option Value)) → F st o o' → F st p p' →
          F st (if b then o else p) (if b then o' else p')
      if_follows b st o o' p p' h k = grind (arith, h, k)

      -- with its turn
      turned_follows : (from to index : ℕ) (args : List Value) (st : Standing) (s s' : State) → N st s s' →
          F st (called L a from (Cross to index) args s) (called L second from (Cross to index) args s')
      turned_follows from to index args st s s' n = (follow_kept main t S' st).turned (Option Value) _ _
          (λ _. cross_goes L a bodies.goes from to index args) (λ _. cross_goes L second second_goes from to index args)
          s s' n (λ y y' less less' near. cross_follows from to index args st y y' near)

      -- EVENTS OF THE ENVIRONMENT, AND CALLS WITHIN, WHERE NOBODY PERFORMS
      -- the state once an input is taken
      abbrev taken : State → State
      taken s = record s { inputs = drop 1 s.inputs }

      taken_near : (st : Standing) (s s' : State) → N st s s' → N st (taken s) (taken s')
      taken_near st s s' n = near_with main t S' st s s' s.turns s'.turns _ _ n.turns (ap (drop 1) n.inputs) n

      own_follows : (comp number : ℕ) (args : List Value) → S' comp ≡ false → (st : Standing)
          (s s' : State) → N st s s' → F st (call_own L a comp number args s) (call_own L second comp number args s')
      own_follows comp number args clear st s s' n =
          found_follow (function L comp number) _ _ st s s' n.trace (λ f there.
          let first : ℕ = length (s.memory comp) in
          let ends : ℕ → Option Value → State → Piece (Option Value) = λ first v u. Reached v (done comp f first u) in
          let near_start : N st (begun comp f args s) (begun comp f args s') = near_blocks main t S' st s s' comp _ _ _
          _ (λ c. ap (λ blocks. blocks ++ blocks_for f.cells args) (n.memory comp c)) n in
          subst (λ k. F st (and_then (a number (at comp first) (begun comp f args s)) (ends first))
          (and_then (second number (at comp k) (begun comp f args s')) (ends k))) (sym
          (ap length (n.memory comp clear)))
          ((follow_kept main t S' st).after (Option Value) _ (begun comp f args s) (begun comp f args s') (a number _ _)
          (second number _ _) (ends first) (ends first) near_start (bodies.goes number _ _)
          (second_goes number (at comp first) _) (λ v u. reached v u _ (done_goes comp f first u))
          (λ v u. reached v u _ (done_goes comp f first u)) (bodies.plain number _ st _ _ clear near_start)
          (λ v u u' up up' near. (follow_kept main t S' st).reached (Option Value) v _ _ (near_blocks main t S' st u u'
          comp _ _ _ _ (λ c. ap (ended first _) (near.memory comp c)) near))))

      both_called : (here : Here) → S' here.comp ≡ false →
          (st : Standing) (target : CallTarget) (args : List Value) (s s' : State) → N st s s' →
          F st (called L a here.comp target args s) (called L second here.comp target args s')
      both_called here clear st (Own number) args s s' n = (follow_kept main t S' st).turned (Option Value) _ _
          (λ _. own_goes L a bodies.goes _ number args) (λ _. own_goes L second second_goes _ number args) s s' n
          (λ y y' less less' near. own_follows here.comp number args clear st y y' near)
      both_called here clear st (Cross to index) args s s' n = turned_follows _ to index args st s s' n
      both_called here clear st Input args s s' n = subst (λ i. F st (called L a here.comp Input args s)
          (Reached (Some (Word (next_input i))) (emit_event (In here.comp (next_input i)) (taken s')))) (sym n.inputs)
          (emits_trace _ st st (taken s) (taken s') (In _ (next_input s.inputs)) _ _ refl (taken_near st s s' n)
          (prefix_same _) (prefix_same _) (λ near. (follow_kept main t S' st).reached (Option Value) _ _ _ near))
      both_called here clear st Output args s s' n =
          emits_trace _ st st s s' (Out here.comp _) _ _ refl n (prefix_same _)
          (prefix_same _) (λ near. (follow_kept main t S' st).reached (Option Value) None _ _ near)

      both_calls : (here : Here) → S' here.comp ≡ false →
          (st : Standing) (target : CallTarget) (args : List Value) (s s' : State) → N st s s' →
          F st (calls L a here.comp target args s) (calls L second here.comp target args s')
      both_calls here clear st target args s s' n = if_follows (may_call L here.comp target args) st _ _ _ _
          (both_called here clear st target args s s' n)
          (both_blamed main t S' st (Option Value) here.comp BadType 0 s s' clear n.trace)

      -- calls of a compartment that performs in neither run
      pub calls_follow : (here : Here) → S' here.comp ≡ false → (st : Standing) → RelatedCalls (Abreast main t S' st)
          (Keeping main t S' st) (λ h. S' h.comp ≡ false) here.comp (calls L a) (calls L second)
      calls_follow here clear st target args =
          record {
            first = calls_go L a bodies.goes _ target args;
            second = calls_go L second second_goes _ target args;
            both = both_calls here clear st target args;
          }

      -- A FUNCTION THAT PERFORMS IN THE SECOND, WHATEVER IT DOES IN THE FIRST
      module _ (st : Standing) (k comp theirs : ℕ) (left : Piece (Option Value)) (set : S' comp ≡ true)
          (is_k : L.entered comp st.active.entry ≡ Some k) where
        abbrev rest : State → Piece (Option Value)
        rest = Onward k comp theirs

        abbrev rest_goes : Goes rest
        rest_goes = second_goes k (at comp theirs)

        abbrev H : State → Type 0
        H s = Held st k comp theirs left s

        abbrev One : State → State → Type 0
        One = OneSided main t S' st left rest rest_goes

        abbrev Pieces : (V : Type 0) → Piece V → Piece V → Type 0
        Pieces = Perform main t S' st left rest rest_goes

        abbrev Keeps : Piece (Option Value) → Type 0
        Keeps o = Pieces (Option Value) o o

        abbrev Done : Piece (Option Value) → Type 0
        Done o = Performs main t S' st left rest rest_goes (Option Value) o

        -- to perform these rows is to go on
        rows_now : (u : State) (rows : List Row) → rows_left (roles_in main S' t) comp u.trace ≡ rows →
            performs L second rows k (at comp theirs) u ≡ rest u
        rows_now u rows is =
            sym (performs_now k comp theirs u set ∙ ap (λ rows. performs L second rows k (at comp theirs) u) is)

        following : (s : State) → H s → IsPrefix s.trace (last left).trace
        following s h = left_goes main t S' st left rest _ s h

        stopped : (s : State) → H s → Done (Stopped TurnsOut s)
        stopped s h = stops_here main t S' st left rest rest_goes (Option Value) s s refl h

        -- what may be called
        abbrev may : (target : CallTarget) → List Value → Bool
        may target args = may_call L comp target args

        asks_allowed : (target : CallTarget) (args : List Value) (u : State) → may target args ≡ true →
            asks L second comp target args u ≡ called L second comp target args u
        asks_allowed target args u allowed = grind arith

        -- an event of the environment, after which these inputs are left in the runs
        event_performs : (e : Event) (v : Option Value) (inputs inputs' : List ℕ) (s : State) (h : H s) →
            performer e ≡ comp → stands_after st e ≡ Some st → N st (record s { inputs = inputs })
            (record h.other { inputs = inputs' }) → ((next : State → Piece (Option Value)) →
            acts L second (action_of e) next rest comp h.other ≡ next
            (emit_event e (record h.other { inputs = inputs' }))) →
            InLine t (s.trace ++ e ∷ []) → Done (Reached v (emit_event e (record s { inputs = inputs })))
        event_performs e v inputs inputs' s h own stays near acted along =
            by_emits (emits_next k comp theirs st s h.other e set is_k own h.near along) where
              by_emits : Emits k comp theirs s h.other e →
                  Done (Reached v (emit_event e (record s { inputs = inputs })))
              by_emits (all_emitted all) =
                  performing.done (past s.trace e all) (whole main t S' s.trace (last left).trace all (following s h))
              by_emits (emits_it more all act) = performing.here v _ refl (record {
                other = emit_event e (record h.other { inputs = inputs' });
                near = near_emit main t S' st st (record s { inputs = inputs }) _ e more stays all near;
                is = h.is ∙ act.is ∙ acted (performs L second act.rest k (at comp theirs))
                    ∙ rows_now (emit_event e (record h.other { inputs = inputs' })) act.rest act.left;
              })

        output_performs : (args : List Value) (s : State) → H s → may Output args ≡ true →
            InLine t (s.trace ++ Out comp (first_word args) ∷ []) →
            Done (Reached None (emit_event (Out comp (first_word args)) s))
        output_performs args s h allowed = event_performs (Out comp (first_word args)) None s.inputs h.other.inputs s h
            refl refl h.near (λ next. ap (λ o. and_then o (λ v. next)) (asks_allowed Output
            (Word (first_word args) ∷ []) h.other (and_from (imports L.interfaces comp is_output) true
            (and_parts (imports L.interfaces comp is_output) _ allowed).0 refl)))

        input_performs : (args : List Value) (s : State) → H s → may Input args ≡ true →
            InLine t (s.trace ++ In comp (next_input s.inputs) ∷ []) →
            Done (Reached (Some (Word (next_input s.inputs))) (read_input comp s))
        input_performs args s h allowed = event_performs (In comp (next_input s.inputs)) _ (drop 1 s.inputs)
            (drop 1 h.other.inputs) s h refl refl (taken_near st s h.other h.near)
            (λ next. ap (λ o. and_then o (λ v. next)) (asks_allowed Input [] h.other allowed)
            ∙ ap (λ i. next (emit_event (In comp (next_input i)) (taken h.other))) h.near.inputs)

        -- a call with the words of a row is the call with the values that they come of
        words_may : (to index : ℕ) (args : List Value) → may (Cross to index) args ≡ true →
            may (Cross to index) (map (λ w. Word w) (map word_in args)) ≡ true
        words_may to index args allowed =
            let first = and_parts (imports L.interfaces comp _) _ allowed in
            let second = and_parts (takes L.interfaces to index _) _ first.1 in
            let third = and_parts (list_all is_word args) _ second.1 in
            and_from _ _ first.0 (and_from (takes L.interfaces to index _)
            _ (ap (takes L.interfaces to index) (as_many args) ∙ second.0) (and_from _ _ (words_are (map word_in args))
            third.1))

        recalled : (to index : ℕ) (args : List Value) (u : State) → may (Cross to index) args ≡ true →
            asks L second comp (Cross to index) (map (λ w. Word w) (map word_in args)) u ≡ called L second comp
            (Cross to index) args u
        recalled to index args u allowed = asks_allowed (Cross to index) (map _ _) u (words_may to index args allowed) ∙
            ap₂ (λ values words. and_then (turn u) (λ _ s. and_then (found (L.entered to (Export index)) s) (λ number s.
            run_in L second to number values (back_cross L.interfaces comp to index)
            (emit_event (Call comp to index words) s)))) (crossed_again args) (words_again _)

        module _ (to index : ℕ) (args : List Value) (s : State) (h : H s) where
          abbrev calling : Event
          calling = Call comp to index (map word_in args)

          abbrev o : Piece (Option Value)
          o = called L a comp (Cross to index) args s

          abbrev p : Piece (Option Value)
          p = called L second comp (Cross to index) args h.other

          by_follows : left ≡ and_then p (λ v. rest) → Up st o p → Done o
          by_follows is (follows.done x y) = performing.done x
              (subst (λ z. IsPrefix t (last z).trace) (sym is) (then_prefix t p (λ v. rest) (λ v. rest_goes) y))
          by_follows is (follows.both v y y' at_y at_y' near) = performing.here v y at_y
              (record { other = y'; near = near; is = is ∙ ap (λ z. and_then z (λ v. rest)) at_y' })
          by_follows is (follows.stop end y at_y by) = performing.stop end y at_y (beyond_in main t S' end y left
              (subst (Beyond main t S' (Option Value) end y) (sym is)
              (beyond_then main t S' (Option Value) (Option Value) end y p (λ v. rest) (λ v. rest_goes) by)))

          cross_performs : may (Cross to index) args ≡ true → InLine t (last o).trace → Done o
          cross_performs allowed along = by_emitted (cross_asked a bodies.goes comp to index args s s.turns) where
            by_emitted : Asked calling s.trace o → Done o
            by_emitted (silent y stops trace) = subst Done (sym stops)
                (stops_here main t S' st left rest rest_goes (Option Value) s y trace h)
            by_emitted (loud prefix) = by_emits (emits_next k comp theirs st s h.other calling set is_k refl h.near
                (in_line_before t (s.trace ++ calling ∷ []) (last o).trace prefix along)) where
                  by_emits : Emits k comp theirs s h.other calling → Done o
                  by_emits (all_emitted all) = performing.done
                      (prefix_more t (s.trace ++ calling ∷ []) (last o).trace (past s.trace calling all) prefix)
                      (whole main t S' s.trace (last left).trace all (following s h))
                  by_emits (emits_it more all act) = by_follows
                      (h.is ∙ act.is ∙ ap (λ o. and_then o (λ v. rest)) (recalled to index args h.other allowed))
                      ((turned_follows comp to index args st s h.other h.near).follows along)

        found_performs : {V : Type 0} (o : Option V) (go : V → State → Piece (Option Value)) (s : State) → H s →
            ((v : V) → Keeps (go v s)) → Keeps (and_then (found o s) go)
        found_performs None go s h k = record { performs = λ along. stopped s h }
        found_performs (Some v) go s h k = k v

        own_function_performs : (number : ℕ) (args : List Value) (s : State) → H s →
            Keeps (call_own L a comp number args s)
        own_function_performs number args s h = found_performs (function L comp number) _ s h (λ f.
            let first : ℕ = length (s.memory comp) in
            let start : State = begun comp f args s in
            let h_start : H start = stands_stored main t S' st left rest rest_goes comp
            (s.memory comp ++ blocks_for f.cells args) _ s set h in
            let o : Piece (Option Value) = a number (at comp first) start in
            let ends : Option Value → State → Piece _ = λ v u. Reached v (done comp f first u) in
            let ends_go : (v : Option Value) → Goes (ends v) =
            λ v u. reached v u (done comp f first u) (done_goes comp f first u) in
            (perform_kept main t S' st left rest rest_goes).after (Option Value) (Option Value) start start o o ends
            ends (record { same = refl; stands = h_start }) (bodies.goes number (at comp first) start)
            (bodies.goes number (at comp first) start) ends_go ends_go
            (bodies.resumes number comp first k theirs st left start set is_k h_start)
            (λ v u u' up up' one. record {
              performs = λ along. performing.here v (done comp f first u) refl (stands_stored main t S' st left rest
                  rest_goes comp (ended first (length f.cells) (u.memory comp)) _ u set one.stands);
            }))

        if_performs : (b : Bool) (o p : Piece (Option Value)) → (b ≡ true → InLine t (last o).trace → Done o) →
            Done p → InLine t (last (if b then o else p)).trace → Done (if b then o else p)
        if_performs true o p h k along = h refl along
        if_performs false o p h k along = k

        allowed_performs : (target : CallTarget) (args : List Value) (s s' : State) → One s s' →
            may target args ≡ true → InLine t (last (called L a comp target args s)).trace →
            Done (called L a comp target args s)
        allowed_performs (Own number) args s s' one allowed =
            ((perform_kept main t S' st left rest rest_goes).turned (Option Value) (λ _. call_own L a comp number args)
            (λ _. call_own L a comp number args) (λ _. own_goes L a bodies.goes comp number args)
            (λ _. own_goes L a bodies.goes comp number args) s s' one (λ y y' less less' now_one. record {
              performs = (own_function_performs number args y now_one.stands).performs;
            })).performs
        allowed_performs (Cross to index) args s s' one allowed = cross_performs to index args s one.stands allowed
        allowed_performs Input args s s' one allowed = input_performs args s one.stands allowed
        allowed_performs Output args s s' one allowed = output_performs args s one.stands allowed

        -- a call that may not be made is blamed, and the second run, in which the compartment performs, passes that
        -- point
        guarded_performs : (target : CallTarget) (args : List Value) (s s' : State) → One s s' →
            InLine t (last (calls L a comp target args s)).trace → Done (calls L a comp target args s)
        guarded_performs target args s s' one = if_performs (may target args) (called L a comp target args s) _
            (allowed_performs target args s s' one) (blamed_here main t S' st left rest rest_goes (Option Value) comp
            BadType 0 s set one.stands (held_passes st k comp theirs left set s one.stands))

        pub calls_perform : RelatedCalls One Pieces (λ h. S' h.comp ≡ true) comp (calls L a) (calls L a)
        calls_perform target args = record {
          first = calls_go L a bodies.goes comp target args;
          second = calls_go L a bodies.goes comp target args;
          both = λ s s' one. record { performs = guarded_performs target args s s' one };
        }

        -- the rows that it performs in the first
        asks_then : (target : CallTarget) (args : List Value) (go : State → Piece (Option Value)) → Goes go →
            ((u : State) → H u → Keeps (go u)) → (s : State) → H s →
            Keeps (and_then (asks L a comp target args s) (λ v. go))
        asks_then target args go goes h s held =
            (perform_kept main t S' st left rest rest_goes).after (Option Value) (Option Value) s s
            (asks L a comp target args s) (asks L a comp target args s) (λ v. go) (λ v. go)
            (record { same = refl; stands = held }) (asks_go L a bodies.goes comp target args s)
            (asks_go L a bodies.goes comp target args s) (λ v. goes) (λ v. goes) (record {
              performs = if_performs (may target args) (calls L a comp target args s) _ (λ allowed.
                  guarded_performs target args s s (record { same = refl; stands = held })) (stopped s held);
            }) (λ v u u' up up' one. record { performs = (h u one.stands).performs })

        acts_perform : (action : Action) (next : State → Piece (Option Value)) (number mine : ℕ) → Goes next →
            ((u : State) → H u → Keeps (next u)) → (s : State) → H s →
            Keeps (acts L a action next (a number (at comp mine)) comp s)
        acts_perform (act.Call to index words) next number mine goes h s held =
            asks_then (Cross to index) (map (λ w. Word w) words) (a number (at comp mine)) (bodies.goes number _)
            (λ u. bodies.resumes number comp mine k theirs st left u set is_k) s held
        acts_perform (act.Ret v) next number mine goes h s held =
            record { performs = λ along. performing.here _ s refl held }
        acts_perform (act.Out w) next number mine goes h s held = asks_then Output (Word w ∷ []) next goes h s held
        acts_perform (act.In w) next number mine goes h s held = asks_then Input [] next goes h s held
        acts_perform (act.End w) next number mine goes h s held =
            record { performs = λ along. performing.here _ s refl held }

        performs_perform : (rows : List Row) (number mine : ℕ) (s : State) → H s →
            Keeps (performs L a rows number (at comp mine) s)
        performs_perform [] number mine s held = record { performs = λ along. stopped s held }
        performs_perform (row ∷ rows) number mine s held = record {
          performs = if_performs (is_number number _) (acts L a row.action (performs L a rows number (at comp mine))
              (a number (at comp mine)) comp s) _ (λ is. (acts_perform row.action _ number mine
              (performs_go L a bodies.goes rows number _) (performs_perform rows number mine) s held).performs)
              (stopped s held);
        }

        -- the function that it runs in the first
        function_performs : (f g : Option Function) → Meets (RelatedFunctions One Pieces (λ h. S' h.comp ≡ true)) f g →
            (mine : ℕ) (s : State) → H s →
            Keeps (and_then (found f s) (λ f s. f.does (calls L a) (at comp mine) s))
        function_performs None g meets mine s held = record { performs = λ along. stopped s held }
        function_performs _ (Some g) meets mine s held = record {
          performs = ((meets.does _ (calls L a) _ set calls_perform).both s s
              (record { same = refl; stands = held })).performs;
        }
        function_performs _ None meets mine s held = absurd meets

      -- ONE STEP
      module _ (denotations_go : DenotationsGo L) (follow_related : RelatedRunsFollow)
          (perform_related : RelatedRunsPerform) where
        runs_follow : (f g : Option Function) (st : Standing) →
            Meets (RelatedFunctions (Abreast main t S' st) (Keeping main t S' st) (λ h. S' h.comp ≡ false)) f g →
            (here : Here) → S' here.comp ≡ false → (s s' : State) → N st s s' →
            F st (and_then (found f s) (λ f s. f.does (calls L a) here s))
            (and_then (found g s') (λ f s. f.does (calls L second) here s))
        runs_follow None None st meets here clear s s' n = both_stop main t S' st (Option Value) s s' n.trace
        runs_follow (Some f) (Some g) st meets here clear s s' n =
            (meets.does _ _ here clear (calls_follow here clear st)).both s s' n
        runs_follow _ _ st meets here clear s s' n = absurd meets

        smaller : (c : ℕ) → S' c ≡ false → S c ≡ false
        smaller c clear = grind (arith, larger c, clear)

        step_plain : (number : ℕ) (here : Here) (st : Standing) (s s' : State) → S' here.comp ≡ false → N st s s' →
            F st (first_step a number here s) (second number here s')
        step_plain number here st s s' clear n =
            subst (λ x. F st x (second number here s')) (sym (role_is a S number here s false (smaller _ clear))) (subst
            (F st _) (sym (fixed number here s' ∙ role_is second S' number here s' false clear)) (runs_follow
            (function L _ number) (function L _ number) st ((follow_related st).functions _ number) here clear s s' n))

        step_resumes : (number comp mine k theirs : ℕ) (st : Standing) (left : Piece (Option Value)) (s : State) →
            S' comp ≡ true → L.entered comp st.active.entry ≡ Some k → Held st k comp theirs left s →
            P st k comp theirs left (first_step a number (at comp mine) s)
        step_resumes number comp mine k theirs st left s set is_k h = grind (
          arith,
          performs_perform st k comp theirs
              left set is_k (rows_left (roles_in main S t) comp s.trace) number mine s h,
          function_performs st k comp
              theirs left set is_k (function L comp number) (function L comp number) ((perform_related st left _ _
              (held_passes st k comp theirs left set)).functions comp number) mine s h,
        )

        pub step_bodies : Bodies (first_step a)
        step_bodies = record {
          goes = scripted_goes L (roles_in main S t) (run_step L)
              (λ body goes. run_step_goes L body goes denotations_go) a bodies.goes;
          plain = step_plain;
          resumes = step_resumes;
        }

    -- where no call may be open the first run stops
    no_bodies : Bodies (within first_step zero)
    no_bodies =
        record {
          goes = λ number here s. no_turn s;
          plain = λ number here st s s' clear n. stops_now number here st s s' n;
          resumes = λ number comp mine k theirs st left s set is_k h. record {
            performs = λ along.
                stops_here main t S' st left (Onward k comp theirs) (second_goes k _) (Option Value) s s refl h;
          };
        } where
          stops_now : (number : ℕ) (here : Here) (st : Standing) (s s' : State) → N st s s' →
              F st (Stopped TurnsOut s) (second number here s')
          stops_now number here st s s' n = stops_short main t S' st (Option Value) s (second number here s') (subst
              (λ u. IsPrefix u (last (second number here s')).trace) n.trace (second_goes number here s').grown.events)

    module _ (denotations_go : DenotationsGo L) (follow_related : RelatedRunsFollow)
        (perform_related : RelatedRunsPerform) where
      pub all_bodies : (n : ℕ) → Bodies (within first_step n)
      all_bodies zero = no_bodies
      all_bodies (suc n) = step_bodies (within first_step n) (all_bodies n) denotations_go follow_related
          perform_related
