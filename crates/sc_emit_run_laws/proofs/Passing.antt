-- A state that the machine reaches, and the trace of a run of `steps` steps: the run doesn't come so far, or it passes.
use Rattle.sc_emit_run_laws.proofs.Common.{Blamed, Bool, End, Ended, Event, EventsOut, Goes, ImageParts, IsBlamed}
use Rattle.sc_emit_run_laws.proofs.Common.{IsPrefix, IsStop, IsWellFormed, KeepsTo, List, Owner, Reaches, RunEnd}
use Rattle.sc_emit_run_laws.proofs.Common.{SourceRun, Traps, TurnsOut, [], append-nil, arith, drop, on_end, false, inl}
use Rattle.sc_emit_run_laws.proofs.Common.{inr, leb-false, leb-true, length, ltb-false, ltb-true, nat_le, nat_lt}
use Rattle.sc_emit_run_laws.proofs.Common.{prefix_more, prefix_same, refl, reg, step, subst, sym, take}
use Rattle.sc_emit_run_laws.proofs.Common.{take-append-drop, true, ℕ, ⊎_elim, ◌++◌, ◌<◌, ◌∙◌, ◌∷◌, ◌≡◌, ◌≤◌, ◌⊎◌}
use Rattle.sc_image.specs.Prelude.{a0, machine}
use Rattle.sc_emit_run_laws.proofs.Emits.{ended_is, few, full, later_prefix, trapped_is}

prefix_of_take : {A : Type 0} (n : ℕ) (xs : List A) → IsPrefix (take n xs) xs
prefix_of_take n xs = record { more = drop n xs; is = sym (take-append-drop n xs) }

module _ (image : ImageParts) (inputs : List ℕ) (formed : IsWellFormed image) (steps events : ℕ) where
  abbrev pub observed : List Event
  observed = (machine image inputs steps events).state.trace

  module _ (bound : ℕ) (place : Reaches image inputs bound) where
    abbrev there : List Event
    there = place.reached.trace

    -- the run has come there, and may emit more events
    record Passes : Type 0 where
      pub more : place.steps < steps
      pub events_left : length there < events
      pub prefix : IsPrefix there observed

    passes : IsPrefix observed there ⊎ Passes
    passes = by (nat_lt place.steps steps) refl where
      full_by : (b : Bool) → nat_le events (length there) ≡ b → place.steps < steps → IsPrefix observed there ⊎ Passes
      full_by true is less =
          inl (subst (λ t. IsPrefix t there)
          (sym (full image inputs formed bound place events steps (omega (arith, less))
          (leb-true events (length there) is))) (prefix_of_take events there))
      full_by false is less =
          let events_left : length there < events = leb-false events (length there) is in
          inr (record {
            more = less;
            events_left = events_left;
            prefix = later_prefix image inputs formed bound place events steps (omega (arith, less)) events_left;
          })

      by : (b : Bool) → nat_lt place.steps steps ≡ b → IsPrefix observed there ⊎ Passes
      by true is = full_by (nat_le events (length there)) refl (ltb-true place.steps steps is)
      by false is =
          inl (prefix_more observed (take events there) there
          (few image inputs formed bound place events steps (ltb-false place.steps steps is))
          (prefix_of_take events there))

    -- where the next step is the end of the run
    pub emits_finish : step image inputs place.reached ≡ Goes (on_end place.reached) → (whole : List Event) →
        (on_end place.reached).trace ≡ whole → IsPrefix observed whole
    emits_finish goes whole is =
        ⊎_elim
        (λ prefix. prefix_more observed there whole prefix
        (record { more = End place.reached.active (reg place.reached a0) ∷ []; is = sym is }))
        (λ past. subst (IsPrefix observed)
        (ended_is image inputs formed bound place events steps past.more past.events_left goes ∙ is)
        (prefix_same observed)) passes

    -- where the machine stands trapped
    pub emits_trap : step image inputs place.reached ≡ Traps Owner → (whole : List Event) → IsPrefix there whole →
        IsPrefix observed whole
    emits_trap traps whole begins =
        ⊎_elim (λ prefix. prefix_more observed there whole prefix begins)
        (λ past. subst (λ r. IsPrefix r.state.trace whole)
        (sym (trapped_is image inputs formed bound place events steps past.more past.events_left traps)) begins) passes

    -- a run that stops there for want of turns has emitted the machine's whole trace, or the machine's steps are used
    abbrev IsUsed : SourceRun → Type 0
    IsUsed run =
        run.end ≡ TurnsOut → (event : Event) (more : List Event) → observed ≡ run.trace ++ event ∷ more →
        steps ≤ place.steps

    -- where a run stops there
    pub emits_stop : (run : SourceRun) → there ≡ run.trace → IsStop run.end → IsUsed run → KeepsTo observed run
    emits_stop run same stop used =
        ⊎_elim (λ prefix. inl (subst (IsPrefix observed) same prefix))
        (λ past. stopped run.end refl stop past.more (subst (λ t. IsPrefix t observed) same past.prefix)) passes where
          observed_all : (more : List Event) → run.end ≡ TurnsOut → observed ≡ run.trace ++ more → place.steps < steps →
              IsPrefix observed run.trace
          observed_all [] out is less =
              subst (IsPrefix observed) (is ∙ append-nil run.trace) (prefix_same observed)
          observed_all (event ∷ more) out is less = absurd (omega (arith, less, used out event more is))

          stopped : (end : RunEnd) → run.end ≡ end → IsStop end → place.steps < steps → IsPrefix run.trace observed →
              KeepsTo observed run
          stopped Ended is stop less prefix = absurd stop
          stopped (Blamed comp cause line) is stop less prefix = inr (subst IsBlamed (sym is) tt, prefix)
          stopped TurnsOut is stop less prefix = inl (observed_all prefix.more is prefix.is less)
          stopped EventsOut is stop less prefix = absurd stop
