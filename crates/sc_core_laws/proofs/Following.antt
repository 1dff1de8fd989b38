-- Two runs along one trace, of which the second has more compartments that perform their parts of it: the relation of
-- their pieces.
use Rattle.sc_core_laws.proofs.Common.{Blamed, Blocks, Bool, Cause, Err, Event, FrameChange, Goes, Gone, Grown, Here}
use Rattle.sc_core_laws.proofs.Common.{IsPrefix, List, Never, Ok, Option, Piece, Reached, Result, RunEnd, Some}
use Rattle.sc_core_laws.proofs.Common.{Standing, State, Stopped, TurnsOut, Value, [], and_then, ap, append_assoc, arith}
use Rattle.sc_core_laws.proofs.Common.{at_start, both_ways, computed, emit_event, false, last, refl, stands_after}
use Rattle.sc_core_laws.proofs.Common.{stands_after_all, subst, suc, sym, true, turn_of, with_blocks, zero, ℕ, ◌++◌}
use Rattle.sc_core_laws.proofs.Common.{◌<◌, ◌∙◌, ◌∷◌, ◌≡◌, ◌≤◌}
use Rattle.sc_core_laws.proofs.Growing.{prefix_same, then_prefix, then_goes, turn_of_goes}
use Rattle.sc_core_laws.proofs.Related.{Kept, KeptAt}
use Rattle.sc_core_laws.proofs.Expressions.{Keeps, alike, blamed}
use Rattle.sc_core_laws.proofs.Rows.{stands_last, InLine, then_along}

-- MEMORY
-- where the run is blamed on a compartment of which this is said
abbrev pub IfBlamed : (ℕ → Bool) → Bool → RunEnd → Type 0 → Type 0
IfBlamed set said end W = (comp : ℕ) (cause : Cause) (line : ℕ) → end ≡ Blamed comp cause line → set comp ≡ said → W

no_blame : (set : ℕ → Bool) (said : Bool) (W : Type 0) → IfBlamed set said TurnsOut W
no_blame set said W comp cause line is said_so = absurd (cc)

-- the main compartment, the trace, and the compartments that perform in the second run
module _ (main : ℕ) (t : List Event) (S' : ℕ → Bool) where
  -- two states of the runs at one place of the trace: as many turns or more, and the same blocks where nobody performs
  pub record Abreast (st : Standing) (s s' : State) : Type 0 where
    pub trace : s'.trace ≡ s.trace
    pub prefix : IsPrefix s.trace t
    pub turns : s.turns ≤ s'.turns
    pub inputs : s'.inputs ≡ s.inputs
    pub memory : (c : ℕ) → S' c ≡ false → s'.memory c ≡ s.memory c
    pub stands : stands_after_all (at_start main) s.trace ≡ Some st

  -- a compartment that is blamed is blamed in the second run too, unless it performs there
  abbrev pub Agreed : (V : Type 0) → RunEnd → State → Piece V → Type 0
  Agreed V end s p = IfBlamed S' false end ((s' : State) × (p ≡ Stopped end s') × (s'.trace ≡ s.trace))

  -- the second run emits an event more, or wants a turn or a row for it
  pub data MovesOn (V : Type 0) (u : List Event) (p : Piece V) : Type 0 where
    no_turn : (s' : State) → p ≡ Stopped TurnsOut s' → s'.trace ≡ u → MovesOn V u p
    longer : (e : Event) → IsPrefix (u ++ e ∷ []) (last p).trace → MovesOn V u p

  -- the same, or it returns, and its caller emits the return
  pub data MovesOrReturns (u : List Event) (p : Piece (Option Value)) : Type 0 where
    passes : MovesOn (Option Value) u p → MovesOrReturns u p
    hands_back : (v : Option Value) (s' : State) → p ≡ Reached v s' → s'.trace ≡ u → MovesOrReturns u p

  -- the second run goes on where the first has stopped; if the blamed compartment performs there, this holds
  pub record GoesOn (V Passed : Type 0) (end : RunEnd) (s : State) (p : Piece V) : Type 0 where
    pub prefix : IsPrefix s.trace (last p).trace
    pub agreed : Agreed V end s p
    pub passed : IfBlamed S' true end Passed

  abbrev pub Beyond : (V : Type 0) → RunEnd → State → Piece V → Type 0
  Beyond V end s p = GoesOn V (MovesOn V s.trace p) end s p

  -- the same in a function that performs
  abbrev pub BeyondIn : RunEnd → State → Piece (Option Value) → Type 0
  BeyondIn end s p = GoesOn (Option Value) (MovesOrReturns s.trace p) end s p

  pub beyond_in : (end : RunEnd) (s : State) (p : Piece (Option Value)) → Beyond (Option Value) end s p →
      BeyondIn end s p
  beyond_in end s p by = record {
    prefix = by.prefix;
    agreed = by.agreed;
    passed = λ comp cause line is set. passes (by.passed comp cause line is set);
  }

  -- both have emitted the whole trace; or both come to the same at one place of it; or the first has stopped
  pub data KeepsUp (st : Standing) (V : Type 0) (o p : Piece V) : Type 0 where
    done : IsPrefix t (last o).trace → IsPrefix t (last p).trace → KeepsUp st V o p
    both : (v : V) (s s' : State) → o ≡ Reached v s → p ≡ Reached v s' → Abreast st s s' → KeepsUp st V o p
    stop : (end : RunEnd) (s : State) → o ≡ Stopped end s → Beyond V end s p → KeepsUp st V o p

  -- as far as the first keeps to the trace
  pub record Keeping (st : Standing) (V : Type 0) (o p : Piece V) : Type 0 where
    pub follows : InLine t (last o).trace → KeepsUp st V o p

  -- STATES
  -- other blocks and other frames
  pub near_blocks : (st : Standing) (s s' : State) (c : ℕ) (x x' : Blocks) (frames frames' : List FrameChange) →
      (S' c ≡ false → x' ≡ x) → Abreast st s s' →
      Abreast st (record s { memory = with_blocks c x s.memory; frames = frames })
      (record s' { memory = with_blocks c x' s'.memory; frames = frames' })
  near_blocks st s s' c x x' frames frames' same n = grind arith

  -- other turns and other inputs
  pub near_with : (st : Standing) (s s' : State) (turns turns' : ℕ) (inputs inputs' : List ℕ) → turns ≤ turns' →
      inputs' ≡ inputs → Abreast st s s' → Abreast st (record s { turns = turns; inputs = inputs })
      (record s' { turns = turns'; inputs = inputs' })
  near_with st s s' turns turns' inputs inputs' few is n = grind (arith, is)

  pub near_emit : (st after : Standing) (s s' : State) (e : Event) (more : List Event) →
      stands_after st e ≡ Some after → t ≡ s.trace ++ e ∷ more → Abreast st s s' →
      Abreast after (emit_event e s) (emit_event e s')
  near_emit st after s s' e more moves is n =
      record {
        trace = ap (λ u. u ++ e ∷ []) n.trace;
        prefix = record { more = more; is = is ∙ sym (append_assoc s.trace _ more) };
        turns = n.turns;
        inputs = n.inputs;
        memory = n.memory;
        stands = stands_last _ s.trace e st n.stands ∙ moves;
      }

  -- a piece that goes on from the place where the trace ends has emitted all of it
  pub whole : (u v : List Event) → t ≡ u → IsPrefix u v → IsPrefix t v
  whole u v is prefix = subst (λ x. IsPrefix x v) (sym is) prefix

  -- THE COMBINATORS IN BOTH RUNS
  passed_then : (V W : Type 0) (u : List Event) (p : Piece V) (l : V → State → Piece W) → ((v : V) → Goes (l v)) →
      MovesOn V u p → MovesOn W u (and_then p l)
  passed_then V W u p l goes (no_turn s' is same) = no_turn s' (ap (λ y. and_then y l) is) same
  passed_then V W u p l goes (longer e prefix) = longer e (then_prefix (u ++ e ∷ []) p l goes prefix)

  pub past_then : (V W A B : Type 0) (end : RunEnd) (s : State) (p : Piece V) (l : V → State → Piece W) →
      ((v : V) → Goes (l v)) → (A → B) → GoesOn V A end s p → GoesOn W B end s (and_then p l)
  past_then V W A B end s p l goes f by = record {
    prefix = then_prefix s.trace p l goes by.prefix;
    agreed = λ comp cause line is clear.
        (let x = by.agreed comp cause line is clear in (x.0, ap (λ y. and_then y l) x.1, x.2));
    passed = λ comp cause line is set. f (by.passed comp cause line is set);
  }

  pub beyond_then : (V W : Type 0) (end : RunEnd) (s : State) (p : Piece V) (l : V → State → Piece W) →
      ((v : V) → Goes (l v)) → Beyond V end s p → Beyond W end s (and_then p l)
  beyond_then V W end s p l goes = past_then V W _ _ end s p l goes (passed_then V W s.trace p l goes)

  -- what performs returns, and its return is emitted
  passed_back : (W : Type 0) (u : List Event) (p : Piece (Option Value)) (l : Option Value → State → Piece W) →
      ((v : Option Value) → Goes (l v)) →
      ((v : Option Value) (x : State) → (e : Event) × IsPrefix (x.trace ++ e ∷ []) (last (l v x)).trace) →
      MovesOrReturns u p → MovesOn W u (and_then p l)
  passed_back W u p l goes emits_trace (passes h) = passed_then _ W u p l goes h
  passed_back W u p l goes emits_trace (hands_back v s' is same) =
      (let e : Event = (emits_trace v s').0 in longer e
      (subst (λ y. IsPrefix (u ++ e ∷ []) (last (and_then y l)).trace) (sym is)
      (subst (λ x. IsPrefix (x ++ e ∷ []) (last (l v s')).trace) same (emits_trace v s').1)))

  pub beyond_back : (W : Type 0) (end : RunEnd) (s : State) (p : Piece (Option Value)) (l : Option Value → State →
      Piece W) → ((v : Option Value) → Goes (l v)) → ((v : Option Value) (x : State) →
      (e : Event) × IsPrefix (x.trace ++ e ∷ []) (last (l v x)).trace) → BeyondIn end s p →
      Beyond W end s (and_then p l)
  beyond_back W end s p l goes emits_trace =
      past_then _ W _ _ end s p l goes (passed_back W s.trace p l goes emits_trace)

  module _ (st : Standing) where
    -- the first stops without a turn
    pub stops_short : (V : Type 0) (s : State) (p : Piece V) → IsPrefix s.trace (last p).trace →
        Keeping st V (Stopped TurnsOut s) p
    stops_short V s p prefix = record {
      follows = λ along.
          stop TurnsOut s refl (record { prefix = prefix; agreed = no_blame _ _ _; passed = no_blame _ _ _ });
    }

    -- both stop
    same_prefix : (s s' : State) → s'.trace ≡ s.trace → IsPrefix s.trace s'.trace
    same_prefix s s' is = subst (IsPrefix s.trace) (sym is) (prefix_same s.trace)

    pub both_stop : (V : Type 0) (s s' : State) → s'.trace ≡ s.trace →
        Keeping st V (Stopped TurnsOut s) (Stopped TurnsOut s')
    both_stop V s s' is = stops_short V s (Stopped TurnsOut s') (same_prefix s s' is)

    pub both_blamed : (V : Type 0) (comp : ℕ) (cause : Cause) (line : ℕ) (s s' : State) → S' comp ≡ false →
        s'.trace ≡ s.trace → Keeping st V (Stopped (Blamed comp cause line) s) (Stopped (Blamed comp cause line) s')
    both_blamed V comp cause line s s' clear is = record {
      follows = λ along. stop _ s refl (record {
        prefix = same_prefix s s' is;
        agreed = λ c cause line blame clear. (s', refl, is);
        passed = λ c cause' line' blame set.
            (let same : comp ≡ c = cc in absurd (both_ways (S' comp) clear (ap S' same ∙ set)));
      });
    }

    then_follows : (V W : Type 0) (s s' : State) (o p : Piece V) (k l : V → State → Piece W) → Gone s o → Gone s' p →
        ((v : V) → Goes (k v)) → ((v : V) → Goes (l v)) →
        ((v : V) (x x' : State) → Grown s x → Grown s' x' → Abreast st x x' → Keeping st W (k v x) (l v x'))
        → InLine t (last (and_then o k)).trace → KeepsUp st V o p → KeepsUp st W (and_then o k) (and_then p l)
    then_follows V W s s' o p k l g g' goes goes' h along (done a b) =
        done (then_prefix t o k goes a) (then_prefix t p l goes' b)
    then_follows V W s s' o p k l g g' goes goes' h along (both v x x' is is' near) =
        let grown : Grown s x = subst (λ y. Grown s (last y)) is g.grown in
        let grown' : Grown s' x' = subst (λ y. Grown s' (last y)) is' g'.grown in
        let next : KeepsUp st W (k v x) (l v x') =
        (h v x x' grown grown' near).follows (subst (λ y. InLine t (last (and_then y k)).trace) is along) in
        subst (λ y. KeepsUp st W (and_then y k) (and_then p l)) (sym is)
        (subst (λ y. KeepsUp st W (k v x) (and_then y l)) (sym is') next)
    then_follows V W s s' o p k l g g' goes goes' h along (stop end x is by) =
        stop end x (ap (λ y. and_then y k) is) (beyond_then V W end x p l goes' by)

    turn_follows : (W : Type 0) (k l : Unit {0} → State → Piece W) → ((v : Unit {0}) → Goes (l v)) → (s s' : State) →
        Abreast st s s' → (m m' : ℕ) → m ≡ s.turns → m' ≡ s'.turns
        → ((x x' : State) → x.turns < s.turns → x'.turns < s'.turns → Abreast st x x' →
        Keeping st W (k tt x) (l tt x')) → Keeping st W (and_then (turn_of m s) k) (and_then (turn_of m' s') l)
    turn_follows W k l goes s s' n zero m' is is' h =
        stops_short W s _ (subst (λ u. IsPrefix u (last (and_then (turn_of m' s') l)).trace) n.trace
        (then_goes s' (turn_of m' s') l (turn_of_goes m' s' is') goes).grown.events)
    turn_follows W k l goes s s' n (suc m) zero is is' h = (let le = n.turns in absurd (omega (arith, le, is, is')))
    turn_follows W k l goes s s' n (suc m) (suc m') is is' h = (let le = n.turns in h _ _ (omega (arith, is))
        (omega (arith, is')) (near_with st s s' m m' _ _ (omega (arith, le, is, is')) n.inputs n))

    pub follow_kept : Kept (Abreast st) (Keeping st)
    follow_kept =
        record {
          reached = λ V v s s' n. record { follows = λ along. both v s s' refl refl n };
          after =
              λ V W s s' o p k l n g g' goes goes' r h. record {
                follows = λ along. then_follows V W s s' o p k l g g' goes goes' h along
                    (r.follows (then_along t o k goes along));
              };
          turned = λ W k l goes goes' s s' n h. turn_follows W k l goes' s s' n s.turns _ refl refl h;
        }

    computed_follow : (V : Type 0) (here : Here) → S' here.comp ≡ false →
        (line : ℕ) (r : Result V Cause) (s s' : State) → Abreast st s s' →
        Keeping st V (computed here line r s) (computed here line r s')
    computed_follow V here clear line (Ok v) s s' n = record { follows = λ along. both v s s' refl refl n }
    computed_follow V here clear line (Err cause) s s' n = both_blamed V _ cause line s s' clear n.trace

    -- calls of a compartment that performs in neither run
    pub follow_at : (here : Here) → S' here.comp ≡ false → KeptAt (Abreast st) (Keeping st) Never here
    follow_at here clear =
        record {
          computing = λ V line e e' h s s' n. subst
              (λ x. Keeping st V (computed here line (e (s.memory here.comp)) s) (computed here line (e' x) s'))
              (sym (n.memory here.comp clear)) (equal V line (e _) (e' _) s s' n (h _));
          passed = λ V cause line soft s s' n p g. absurd soft;
          stored = λ blocks s s' n. near_blocks st s s' here.comp blocks blocks _ _ (λ c. refl) n;
        } where
          equal : (V : Type 0) (line : ℕ) (r r' : Result V Cause) (s s' : State) → Abreast st s s' →
              Keeps Never V r r' → Keeping st V (computed here line r s) (computed here line r' s')
          equal V line r r' s s' n (alike is) =
              subst (λ x. Keeping st V (computed here line r s) (computed here line x s')) (sym is)
              (computed_follow V here clear line r s s' n)
          equal V line r r' s s' n (blamed cause never is) = absurd never

    -- A FUNCTION THAT RUNS IN THE FIRST AND PERFORMS IN THE SECOND: what is left of it there, and what it does from a
    -- state on
    module _ (left : Piece (Option Value)) (rest : State → Piece (Option Value)) (rest_goes : Goes rest) where
      -- where the first run stands, the second performs what is left
      pub record Stands (s : State) : Type 0 where
        pub other : State
        pub near : Abreast st s other
        pub is : left ≡ rest other

      pub record OneSided (s s' : State) : Type 0 where
        pub same : s' ≡ s
        pub stands : Stands s

      pub data Performs (V : Type 0) (o : Piece V) : Type 0 where
        done : IsPrefix t (last o).trace → IsPrefix t (last left).trace → Performs V o
        here : (v : V) (s : State) → o ≡ Reached v s → Stands s → Performs V o
        stop : (end : RunEnd) (s : State) → o ≡ Stopped end s → BeyondIn end s left → Performs V o

      pub record Perform (V : Type 0) (o p : Piece V) : Type 0 where
        pub performs : InLine t (last o).trace → Performs V o

      -- what is left goes on from where the first run stands
      pub left_goes : (s : State) → Stands s → IsPrefix s.trace (last left).trace
      left_goes s x = grind arith

      then_performs : (V W : Type 0) (s : State) (o : Piece V) (k : V → State → Piece W) → Gone s o →
          ((v : V) → Goes (k v)) →
          ((v : V) (x : State) → Grown s x → Stands x → InLine t (last (k v x)).trace → Performs W (k v x)) →
          InLine t (last (and_then o k)).trace → Performs V o → Performs W (and_then o k)
      then_performs V W s o k g goes h along (done a b) = done (then_prefix t o k goes a) b
      then_performs V W s o k g goes h along (here v x is stands) = subst (λ y. Performs W (and_then y k)) (sym is)
          (h v x (subst (λ y. Grown s (last y)) is g.grown) stands
          (subst (λ y. InLine t (last (and_then y k)).trace) is along))
      then_performs V W s o k g goes h along (stop end x is by) = stop end x (ap (λ y. and_then y k) is) by

      -- the first stops without a turn
      pub stops_here : (V : Type 0) (s y : State) → y.trace ≡ s.trace → Stands s → Performs V (Stopped TurnsOut y)
      stops_here V s y is x = stop TurnsOut y refl (record {
        prefix = subst (λ u. IsPrefix u (last left).trace) (sym is) (left_goes s x);
        agreed = no_blame _ _ _;
        passed = no_blame _ _ _;
      })

      -- the first is blamed
      pub blamed_here : (V : Type 0) (comp : ℕ) (cause : Cause) (line : ℕ) (s : State) → S' comp ≡ true → Stands s →
          MovesOrReturns s.trace left → Performs V (Stopped (Blamed comp cause line) s)
      blamed_here V comp cause line s set x by = stop _ s refl (record {
        prefix = left_goes s x;
        agreed = λ c cause' line' blame clear.
            (let same : comp ≡ c = cc in absurd (both_ways (S' c) clear (ap S' (sym same) ∙ set)));
        passed = λ c cause line blame set. by;
      })

      turn_performs : (W : Type 0) (k : Unit {0} → State → Piece W) → (s : State) → Stands s → (m : ℕ) → m ≡ s.turns →
          ((x : State) → x.turns < s.turns → Stands x → InLine t (last (k tt x)).trace → Performs W (k tt x)) →
          InLine t (last (and_then (turn_of m s) k)).trace → Performs W (and_then (turn_of m s) k)
      turn_performs W k s x zero is h along = stops_here W s s refl x
      turn_performs W k s x (suc m) is h along = (let le = x.near.turns in h _ (omega (arith, is)) (record {
        other = x.other;
        is = x.is;
        near = near_with st s x.other m _ _ _ (omega (arith, le, is)) x.near.inputs x.near;
      }) along)

      pub perform_kept : Kept OneSided Perform
      perform_kept =
          record {
            reached = λ V v s s' one. record { performs = λ along. here v s refl one.stands };
            after = λ V W s s' o p k l one g g' goes goes' r h. record {
              performs = λ along. then_performs V W s o k g goes (λ v x grown stands.
                  (h v x x grown (subst (λ z. Grown z x) (sym one.same) grown)
                  (record { same = refl; stands = stands })).performs) along
                  (r.performs (then_along t o k goes along));
            };
            turned = λ W k l goes goes' s s' one h. record {
              performs = turn_performs W k s one.stands s.turns refl (λ x less stands.
                  (h x x less (subst (λ z. x.turns < z.turns) (sym one.same) less)
                  (record { same = refl; stands = stands })).performs);
            };
          }

      computed_performs : (V : Type 0) (at : Here) → S' at.comp ≡ true →
          ((s : State) → Stands s → MovesOrReturns s.trace left) → (line : ℕ) (r : Result V Cause) (s : State) →
          Stands s → Performs V (computed at line r s)
      computed_performs V at set by line (Ok v) s x = here v s refl x
      computed_performs V at set by line (Err cause) s x = blamed_here V _ cause line s set x (by s x)

      pub stands_stored : (c : ℕ) (x : Blocks) (frames : List FrameChange) (s : State) → S' c ≡ true → Stands s →
          Stands (record s { memory = with_blocks c x s.memory; frames = frames })
      stands_stored c x frames s set at = grind arith

      -- calls of a compartment that performs only in the second run
      pub perform_at : ((s : State) → Stands s → MovesOrReturns s.trace left) → (at : Here) → S' at.comp ≡ true →
          KeptAt OneSided Perform Never at
      perform_at by at set =
          record {
            computing = λ V line e e' h s s' one. record {
              performs = λ along. computed_performs V at set by line _ s one.stands;
            };
            passed = λ V cause line soft s s' one p g. absurd soft;
            stored =
                λ blocks s s' one. record {
                  same = ap {A = State} (λ z. record z { memory = with_blocks at.comp blocks z.memory }) one.same;
                  stands = stands_stored at.comp blocks _ s set one.stands;
                };
          }
