-- Runs along a stretch on which no end is emitted.
use Rattle.sc_emit_run_laws.proofs.Common.{Bool, Call, End, Event, Goes, ImageParts, In, IsPrefix, IsWellFormed, List}
use Rattle.sc_emit_run_laws.proofs.Common.{None, Option, Out, Outcome, Ret, Some, Stop, Traps, [], ap, arith, false}
use Rattle.sc_emit_run_laws.proofs.Common.{goes_adds, goes_one, has_no_end, is_end, is_ended, le-leb, leb-false}
use Rattle.sc_emit_run_laws.proofs.Common.{leb-true, length, list_any, nat_le, not, not_stopped, option_map_or}
use Rattle.sc_emit_run_laws.proofs.Common.{prefix_long, prefix_more, prefix_same, refl, run, run_goes, run_out}
use Rattle.sc_emit_run_laws.proofs.Common.{run_stopped, run_traps, slice_get, step, stopped, subst, suc, suc-add, sym}
use Rattle.sc_emit_run_laws.proofs.Common.{take, take_all, take_prefix as take_exactly, take_prefixes, then_on, true}
use Rattle.sc_emit_run_laws.proofs.Common.{walk, walk_adds, zero, zero-add, ℕ, ◌++◌, ◌+◌, ◌-◌, ◌<◌, ◌||◌, ◌∙◌, ◌∷◌, ◌≡◌}
use Rattle.sc_emit_run_laws.proofs.Common.{if◌then◌else◌, inl, inr, same_Some, ⊎_elim, ◌≤◌, ◌⊎◌}
use Rattle.sc_image.specs.Prelude.{MachineState, is_end as ends}
use Rattle.sc_base.specs.declared.stop.Stop.TheVariants.{Ended, EventsOut}
use Rattle.sc_emit_run_laws.specs.Prelude.{IsTrap}

-- LISTS

-- a prefix of this length
pub take_prefix : {A : Type 0} (n : ℕ) (xs ys : List A) → IsPrefix xs ys → length xs ≡ n → take n ys ≡ xs
take_prefix n xs ys prefix long =
    ap (take n) prefix.is ∙ ap (λ m. take m (xs ++ prefix.more)) (sym long) ∙ take_exactly xs prefix.more

-- and one that is no longer
pub prefix_taken : {A : Type 0} (n : ℕ) (xs ys : List A) → IsPrefix xs ys → length xs ≤ n → IsPrefix xs (take n ys)
prefix_taken n xs ys prefix short =
    subst (λ zs. IsPrefix zs (take n ys)) (take_all n xs short) (take_prefixes n n xs ys (omega arith) prefix)

-- NO END

same_end : (e : Event) → ends e ≡ is_end e
same_end (Call from to index args) = refl
same_end (Ret from to value) = refl
same_end (Out comp value) = refl
same_end (In comp value) = refl
same_end (End comp value) = refl

none_at : (k : ℕ) (xs : List Event) → has_no_end xs ≡ true → option_map_or ends (slice_get xs k) false ≡ false
none_at k [] h = refl
none_at zero (x ∷ xs) h = same_end x ∙ by (is_end x) h where
  by : (b : Bool) → not (b || list_any is_end xs) ≡ true → b ≡ false
  by true h = cc h
  by false h = refl
none_at (suc k) (x ∷ xs) h = none_at k xs (by (is_end x) h) where
  by : (b : Bool) → not (b || list_any is_end xs) ≡ true → has_no_end xs ≡ true
  by true h = cc h
  by false h = h

pub not_over : (trace : List Event) → has_no_end trace ≡ true → is_ended trace ≡ false
not_over trace h = none_at (length trace - 1) trace h

pub prefix_endless : (xs ys : List Event) → IsPrefix xs ys → has_no_end ys ≡ true → has_no_end xs ≡ true
prefix_endless xs ys prefix h = fewer xs (subst (λ zs. has_no_end zs ≡ true) prefix.is h) where
  fewer : (xs : List Event) → has_no_end (xs ++ prefix.more) ≡ true → has_no_end xs ≡ true
  fewer [] h = refl
  fewer (x ∷ xs) h = by (is_end x) (fewer xs) h where
    by : (b : Bool) → (has_no_end (xs ++ prefix.more) ≡ true → has_no_end xs ≡ true) →
        not (b || list_any is_end (xs ++ prefix.more)) ≡ true → not (b || list_any is_end xs) ≡ true
    by true later h = h
    by false later h = later h

-- STOPS

-- the length of a trace stops no run by a trap
no_trap : (events : ℕ) (trace : List Event) (stop : Stop) → stopped events trace ≡ Some stop → IsTrap stop → ⊥
unfolding stopped
no_trap events trace stop is traps = by (is_ended trace) (nat_le events (length trace)) is where
  by : (ended full : Bool) → (if ended then Some Ended else if full then Some EventsOut else None) ≡ Some stop → ⊥
  by true full is = (let same : Ended ≡ stop = same_Some Ended stop is in subst IsTrap (sym same) traps)
  by false true is = (let same : EventsOut ≡ stop = same_Some EventsOut stop is in subst IsTrap (sym same) traps)
  by false false is = cc is

-- STEPS

module _ (image : ImageParts) (inputs : List ℕ) (formed : IsWellFormed image) where
  pub goes_prefix : (state next : MachineState) → step image inputs state ≡ Goes next → IsPrefix state.trace next.trace
  goes_prefix state next goes = goes_adds image inputs formed state next goes

  pub walk_prefix : (n : ℕ) (from to : MachineState) → walk image inputs n from ≡ Goes to → IsPrefix from.trace to.trace
  walk_prefix n from to goes = walk_adds image inputs formed n from to goes

  -- RUNS
  module _ (events : ℕ) where
    pub no_steps : (state : MachineState) → (run image inputs events 0 state).state ≡ state
    no_steps state = by (stopped events state.trace) refl where
      by : (o : Option Stop) → stopped events state.trace ≡ o → (run image inputs events 0 state).state ≡ state
      by None is = ap (λ r. r.state) (run_out image inputs events state is)
      by (Some stop) is = ap (λ r. r.state) (run_stopped image inputs events 0 state stop is)

    -- one that takes no step
    no_step_traps : (state : MachineState) → IsTrap (run image inputs events 0 state).stop → ⊥
    no_step_traps state = by (stopped events state.trace) refl where
      by : (o : Option Stop) → stopped events state.trace ≡ o → IsTrap (run image inputs events 0 state).stop → ⊥
      by None is traps = subst (λ r. IsTrap r.stop) (run_out image inputs events state is) traps
      by (Some stop) is traps =
          no_trap events state.trace stop is
          (subst (λ r. IsTrap r.stop) (run_stopped image inputs events 0 state stop is) traps)

    full_stops : (trace : List Event) → is_ended trace ≡ false → events ≤ length trace →
        stopped events trace ≡ Some EventsOut
    unfolding stopped
    full_stops trace going le = rw (going, le-leb events (length trace) le) refl

    -- a run that has its events, and one that hasn't
    pub at_full : (n : ℕ) (state : MachineState) → is_ended state.trace ≡ false → events ≤ length state.trace →
        (run image inputs events n state).state ≡ state
    at_full n state going le =
        ap (λ r. r.state) (run_stopped image inputs events n state EventsOut (full_stops state.trace going le))

    full_traps : (n : ℕ) (state : MachineState) → is_ended state.trace ≡ false → events ≤ length state.trace →
        IsTrap (run image inputs events n state).stop → ⊥
    full_traps n state going le traps =
        subst (λ r. IsTrap r.stop) (run_stopped image inputs events n state EventsOut (full_stops state.trace going le))
        traps

    module _ (to : MachineState) (going : has_no_end to.trace ≡ true) where
      -- what a run of this many steps, and more or fewer, emits of a stretch from this state
      pub record Along (n : ℕ) (from : MachineState) : Type 0 where
        pub fewer : (m : ℕ) → m ≤ n → IsPrefix (run image inputs events m from).state.trace (take events to.trace)
        pub full : (m : ℕ) → n ≤ m → events ≤ length to.trace →
            (run image inputs events m from).state.trace ≡ take events to.trace
        pub further : (k : ℕ) → length to.trace < events →
            run image inputs events (n + k) from ≡ run image inputs events k to
        -- no trap stops it on the stretch, nor one that may emit no more than the stretch
        pub trapless : (m : ℕ) → (m ≤ n) ⊎ (events ≤ length to.trace) → IsTrap (run image inputs events m from).stop →
            ⊥

      before : (from : MachineState) → IsPrefix from.trace to.trace → is_ended from.trace ≡ false
      before from prefix = not_over from.trace (prefix_endless from.trace to.trace prefix going)

      here : length to.trace ≤ events → Along 0 to
      here short = record {
        fewer = λ m le. subst (λ k. IsPrefix (run image inputs events k to).state.trace (take events to.trace))
            (sym (zero_is m le)) (subst (λ t. IsPrefix t (take events to.trace)) (sym (ap (λ s. s.trace) (no_steps to)))
            (prefix_taken events to.trace to.trace (prefix_same to.trace) short));
        full = λ m le full. ap (λ s. s.trace) (at_full m to (not_over to.trace going) full) ∙
            sym (take_prefix events to.trace to.trace (prefix_same to.trace) (omega (arith, short, full)));
        further = λ k less. ap (λ j. run image inputs events j to) (zero-add k);
        trapless = λ m bounded traps. ⊎_elim
            (λ le. no_step_traps to (subst (λ k. IsTrap (run image inputs events k to).stop) (zero_is m le) traps))
            (λ full. full_traps m to (not_over to.trace going) full traps) bounded;
      } where
        zero_is : (m : ℕ) → m ≤ 0 → m ≡ 0
        zero_is m le = omega (arith, le)

      -- the run has its events already
      done : (n : ℕ) (from : MachineState) → IsPrefix from.trace to.trace → length from.trace ≤ events →
          events ≤ length from.trace → Along n from
      done n from prefix short full =
          let whole : take events to.trace ≡ from.trace =
          take_prefix events from.trace to.trace prefix (omega (arith, short, full)) in
          let stays : (m : ℕ) → (run image inputs events m from).state.trace ≡ take events to.trace =
          λ m. ap (λ s. s.trace) (at_full m from (before from prefix) full) ∙ sym whole in
          record {
            fewer = λ m le. subst (λ t. IsPrefix t (take events to.trace)) (sym (stays m))
                (prefix_same (take events to.trace));
            full = λ m le long. stays m;
            further = λ k less. absurd (omega (arith, less, full, prefix_long from.trace to.trace prefix));
            trapless = λ m bounded traps. full_traps m from (before from prefix) full traps;
          }

      -- it goes on by a step
      further : (n : ℕ) (from next : MachineState) → IsPrefix from.trace to.trace → length from.trace < events →
          step image inputs from ≡ Goes next → Along n next → Along (suc n) from
      further n from next prefix short goes rest =
          let early = not_stopped image inputs formed events from.trace (before from prefix) short in
          let on : (m : ℕ) → run image inputs events (suc m) from ≡ run image inputs events m next =
          λ m. run_goes image inputs events m from next early goes in
          record {
            fewer = λ m le. fewer_at on m le;
            full = λ m le long. full_at on m le long;
            further = λ k less. ap (λ j. run image inputs events j from) (suc-add n k) ∙ on (n + k) ∙
                rest.further k less;
            trapless = λ m bounded traps. trapless_at on m bounded traps;
          }
        where
          fewer_at : ((m : ℕ) → run image inputs events (suc m) from ≡ run image inputs events m next) → (m : ℕ) →
              m ≤ suc n → IsPrefix (run image inputs events m from).state.trace (take events to.trace)
          fewer_at on zero le =
              subst (λ t. IsPrefix t (take events to.trace)) (sym (ap (λ s. s.trace) (no_steps from)))
              (prefix_taken events from.trace to.trace prefix (omega (arith, short)))
          fewer_at on (suc m) le =
              subst (λ r. IsPrefix r.state.trace (take events to.trace)) (sym (on m)) (rest.fewer m (omega (arith, le)))

          trapless_at : ((m : ℕ) → run image inputs events (suc m) from ≡ run image inputs events m next) → (m : ℕ) →
              (m ≤ suc n) ⊎ (events ≤ length to.trace) → IsTrap (run image inputs events m from).stop → ⊥
          trapless_at on zero bounded traps = no_step_traps from traps
          trapless_at on (suc m) bounded traps =
              rest.trapless m (⊎_elim (λ le. inl (omega (arith, le))) (λ full. inr full) bounded)
              (subst (λ r. IsTrap r.stop) (on m) traps)

          full_at : ((m : ℕ) → run image inputs events (suc m) from ≡ run image inputs events m next) → (m : ℕ) →
              suc n ≤ m → events ≤ length to.trace →
              (run image inputs events m from).state.trace ≡ take events to.trace
          full_at on zero le long = absurd (omega (arith, le))
          full_at on (suc m) le long = ap (λ r. r.state.trace) (on m) ∙ rest.full m (omega (arith, le)) long

      along_by : (n : ℕ) (from : MachineState) (outcome : Outcome) → step image inputs from ≡ outcome →
          then_on outcome (walk image inputs n) ≡ Goes to → IsPrefix from.trace to.trace → length from.trace ≤ events →
          ((next : MachineState) → walk image inputs n next ≡ Goes to → length next.trace ≤ events → Along n next) →
          Along (suc n) from
      along_by n from (Goes next) is goes prefix short later = by (nat_le events (length from.trace)) refl where
        by : (b : Bool) → nat_le events (length from.trace) ≡ b → Along (suc n) from
        by true full = done (suc n) from prefix short (leb-true events (length from.trace) full)
        by false full =
            let less : length from.trace < events = leb-false events (length from.trace) full in
            further n from next prefix less is
            (later next goes (omega (arith, less, goes_one image inputs formed from next is)))
      along_by n from (Traps reason) is goes prefix short later = cc goes

      pub along : (n : ℕ) (from : MachineState) → walk image inputs n from ≡ Goes to → length from.trace ≤ events →
          Along n from
      along zero from goes short =
          let same : from ≡ to = cc goes in
          subst (λ s. Along 0 s) (sym same) (here (subst (λ s. length s.trace ≤ events) same short))
      along (suc n) from goes short =
          along_by n from (step image inputs from) refl goes (walk_prefix (suc n) from to goes) short (along n)

  -- a run only adds to the trace
  run_prefix_by : (events n : ℕ) (from : MachineState) (outcome : Outcome) → step image inputs from ≡ outcome →
      ((next : MachineState) → IsPrefix next.trace (run image inputs events n next).state.trace) →
      (o : Option Stop) → stopped events from.trace ≡ o →
      IsPrefix from.trace (run image inputs events (suc n) from).state.trace
  run_prefix_by events n from outcome is later (Some stop) early =
      subst (λ r. IsPrefix from.trace r.state.trace) (sym (run_stopped image inputs events (suc n) from stop early))
      (prefix_same from.trace)
  run_prefix_by events n from (Goes next) is later None early =
      subst (λ r. IsPrefix from.trace r.state.trace) (sym (run_goes image inputs events n from next early is))
      (prefix_more from.trace next.trace (run image inputs events n next).state.trace (goes_prefix from next is)
      (later next))
  run_prefix_by events n from (Traps reason) is later None early =
      subst (λ r. IsPrefix from.trace r.state.trace) (sym (run_traps image inputs events n from reason early is))
      (prefix_same from.trace)

  pub run_prefix : (events n : ℕ) (from : MachineState) → IsPrefix from.trace (run image inputs events n
      from).state.trace
  run_prefix events zero from =
      subst (λ s. IsPrefix from.trace s.trace) (sym (no_steps events from)) (prefix_same from.trace)
  run_prefix events (suc n) from =
      run_prefix_by events n from (step image inputs from) refl (run_prefix events n) (stopped events from.trace) refl
