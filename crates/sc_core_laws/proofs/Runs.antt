-- Whole runs: steps of the denotations of two programs, and what they come to when stopped at a number of events.
use Rattle.sc_core_laws.proofs.Common.{AllFrom, Blamed, Bool, Cause, Denotations, DenotationsMatch, End, Ended, Event}
use Rattle.sc_core_laws.proofs.Common.{EventsOut, FrameChange, HasFixedPoint, Here, IsFixed, IsPrefix, IsSteady, IsStop}
use Rattle.sc_core_laws.proofs.Common.{List, Main, Memory, Never, None, Obedient, Option, Piece, Reached, Roles, Run}
use Rattle.sc_core_laws.proofs.Common.{RunEnd, Some, SourceRun, State, Step, Stopped, StopsSo, TurnsOut, Value, []}
use Rattle.sc_core_laws.proofs.Common.{and_then, ap, arith, call_own, exit_word, false, first_state, found}
use Rattle.sc_core_laws.proofs.Common.{if◌then◌else◌, inl, last, length, length-append, now, reaches, refl, roles_run}
use Rattle.sc_core_laws.proofs.Common.{run_step, run_to, scripted_step, stopped_at, subst, suc, sym, take_all, true}
use Rattle.sc_core_laws.proofs.Common.{within, zero, ℕ, ◌++◌, ◌+◌, ◌<◌, ◌∙◌, ◌∷◌, ◌≡◌, ◌≤◌, ◌⊎◌}
use Rattle.std.proofs.Common.{take}
use Rattle.sc_core_laws.proofs.Growing.{prefix_more, prefix_no_longer, StepGoes, within_goes, run_step_goes}
use Rattle.sc_core_laws.proofs.Growing.{scripted_goes, BodyGoes}
pub use Rattle.sc_core_laws.proofs.Growing.{prefix_no_longer as prefix_long}
use Rattle.sc_core_laws.proofs.Related.{Anywhere}
use Rattle.sc_core_laws.proofs.Matching.{related_denotations, first_goes, second_goes, idle, scripted_goes_on}
use Rattle.sc_core_laws.proofs.Below.{Under, stop_below, richer, richer_piece, Passes, Below, along, passed, below_kept}
use Rattle.sc_core_laws.proofs.Below.{below_at, StepsBelow, DenotationsBelow, run_step_below, scripted_below, own_below}
use Rattle.sc_core_laws.proofs.Below.{within_below, BodiesBelow}

-- LISTS
take_prefix : {A : Type 0} (n m : ℕ) (xs more : List A) → n ≤ m → IsPrefix (take n xs) (take m (xs ++ more))
take_prefix zero m xs more le = record { more = take m _; is = refl }
take_prefix (suc n) zero xs more le = absurd (omega (arith, le))
take_prefix (suc n) (suc m) [] more le = record { more = take (suc m) more; is = refl }
take_prefix (suc n) (suc m) (x ∷ xs) more le =
    let rest = take_prefix n m xs more (omega (arith, le)) in
    record { more = rest.more; is = ap (λ ys. x ∷ ys) rest.is }

pub take_prefixes : {A : Type 0} (n m : ℕ) (xs ys : List A) → n ≤ m → IsPrefix xs ys → IsPrefix (take n xs) (take m ys)
take_prefixes n m xs ys le prefix =
    subst (λ z. IsPrefix (take n xs) (take m z)) (sym prefix.is) (take_prefix n m xs prefix.more le)

-- RUNS THAT ARE STOPPED
at_most : {n m : ℕ} → n < m → n ≤ m
at_most less = omega (arith, less)

pub unreached : (events : ℕ) (run : SourceRun) (end : RunEnd) → reaches events run end ≡ false →
    length run.trace ≤ events
unreached events run end below = grind arith

-- a run that is cut at `events` events, or not
abbrev pub cut_if : ℕ → Bool → SourceRun → SourceRun
cut_if events b run = if b then record { trace = take events run.trace; end = EventsOut } else run

pub trace_is : (events : ℕ) (run : SourceRun) → (stopped_at events run).trace ≡ take events run.trace
trace_is events run = by_test _ refl where
  by_test : (b : Bool) → reaches events run run.end ≡ b → (cut_if events b run).trace ≡ take events run.trace
  by_test true is = refl
  by_test false is = sym (take_all events _ (unreached events run run.end is))

-- a run that reaches fewer events reaches more no sooner
pub still_unreached : (events more_events : ℕ) (run : SourceRun) (end : RunEnd) → events ≤ more_events →
    reaches events run end ≡ false → reaches more_events run end ≡ false
still_unreached events more_events run end le is = grind (arith, le, is)

-- the frames of a run are those of its last state
pub frames_are : (main : ℕ) (p : Piece (Option Value)) → (run_to main p).frames ≡ (last p).frames
frames_are main p = grind arith

-- THE SAME RUN, OR ONE THAT GOES ON
module _ (d : ℕ) (Soft : Cause → Type 0) (Turns : Type 0) where
  -- the second run is the first, or goes on where that stopped, in its frames too; where it comes to an end it has more
  -- events
  pub data RunsBelow (x y : Run) : Type 0 where
    same_run : y ≡ x → RunsBelow x y
    goes_past : (end : RunEnd) → x.behaviour.end ≡ end → IsStop end → Passes d Soft Turns end →
        IsPrefix x.behaviour.trace y.behaviour.trace → (y.behaviour.end ≡ Ended →
        length x.behaviour.trace < length y.behaviour.trace) →
        (frames : IsPrefix x.frames y.frames) → AllFrom (length x.behaviour.trace) frames.more → RunsBelow x y

  run_to_same : (main : ℕ) (o : Piece (Option Value)) → run_to main (richer_piece d o) ≡ run_to main o
  run_to_same main o = grind arith

  past : (main : ℕ) (trace : List Event) (p : Piece (Option Value)) → StopsSo p → IsPrefix trace (last p).trace →
      IsPrefix trace (run_to main p).behaviour.trace × ((run_to main p).behaviour.end ≡ Ended →
      length trace < length (run_to main p).behaviour.trace)
  past main trace (Reached v s) stop prefix =
      let long : length trace ≤ length s.trace = prefix_no_longer trace s.trace prefix in
      let one : length (s.trace ++ End main (exit_word v) ∷ []) ≡ length s.trace + 1 =
      length-append s.trace (End main (exit_word v) ∷ []) in (
        prefix_more trace s.trace (s.trace ++ End main (exit_word v) ∷ []) prefix
            (record { more = End main (exit_word v) ∷ []; is = refl }),
        λ is. omega (arith, long, one),
      )
  past main trace (Stopped Ended s) stop prefix = absurd stop
  past main trace (Stopped (Blamed comp cause line) s) stop prefix = (prefix, λ is. absurd (cc))
  past main trace (Stopped TurnsOut s) stop prefix = (prefix, λ is. absurd (cc))
  past main trace (Stopped EventsOut s) stop prefix = absurd stop

  -- frames that go on, with changes only at `events` events and later
  abbrev FramesOn : ℕ → List FrameChange → List FrameChange → Type 0
  FramesOn events before after = (prefix : IsPrefix before after) × AllFrom events prefix.more

  pub run_to_below : (main : ℕ) (o p : Piece (Option Value)) → StopsSo o → StopsSo p →
      Below d Soft Turns (Option Value) o p → RunsBelow (run_to main o) (run_to main p)
  run_to_below main o p stop stop' (along is) = same_run (ap (run_to main) is ∙ run_to_same main o)
  run_to_below main o p stop stop' (passed end s is passes on) =
      let ends : (run_to main o).behaviour.trace ≡ s.trace = ap (λ x. (run_to main x).behaviour.trace) is in
      let more =
      past main (run_to main o).behaviour.trace p stop' (subst (λ x. IsPrefix x (last p).trace) (sym ends) on.events) in
      let frames : (run_to main o).frames ≡ s.frames = ap (λ x. (run_to main x).frames) is in
      let late : FramesOn (length (run_to main o).behaviour.trace) (run_to main o).frames (run_to main p).frames =
      subst (λ n. FramesOn n (run_to main o).frames (run_to main p).frames) (sym (ap length ends))
      (subst (λ x. FramesOn (length s.trace) x (run_to main p).frames) (sym frames)
      (subst (FramesOn _ _) (sym (frames_are main p)) (on.frames, on.late))) in
      goes_past end (ap (λ x. (run_to main x).behaviour.end) is) (subst StopsSo is stop) passes more.0 more.1 late.0
      late.1

  module _ (spent : (d ≡ 0) ⊎ Turns) (L M : Denotations) (match : DenotationsMatch Soft L M) where
    pub any_denotations : (n n' : ℕ) → DenotationsBelow d Soft Turns spent n n' L M
    any_denotations n n' = related_denotations Soft _ _ Anywhere (below_kept d Soft Turns n n' spent)
        (λ here good. below_at d Soft Turns n n' spent here) L M match

    pub scripted_steps : (roles : Roles) → StepsBelow d Soft Turns spent (scripted_step L roles (run_step L))
        (scripted_step M roles (run_step M))
    scripted_steps roles n n' a b h =
        let below = any_denotations (suc n) (suc n') in
        scripted_below d Soft Turns spent n n' a b h L M below roles (run_step L) (run_step M)
        (run_step_below d Soft Turns spent n n' a b h L M below)

    module _ (roles : Roles) (globals : Memory) (inputs : List ℕ) (turns : ℕ) where
      abbrev step : Step
      step = scripted_step L roles (run_step L)

      abbrev step' : Step
      step' = scripted_step M roles (run_step M)

      goes : StepGoes step
      goes = scripted_goes L roles _ (λ body goes. run_step_goes L body goes (first_goes Soft L M match))

      goes' : StepGoes step'
      goes' = scripted_goes M roles _ (λ body goes. run_step_goes M body goes (second_goes Soft L M match))

      abbrev main : ℕ
      main = L.interfaces.main

      abbrev start : State
      start = first_state globals inputs turns

      -- what comes of the first call of `main`, where it is of this compartment
      abbrev first_call : Denotations → Step → (turns main : ℕ) → Option ℕ → State → Piece (Option Value)
      first_call denotations step turns main number s = and_then (found number s)
          (λ number s. call_own denotations (within step (suc turns)) main number [] s)

      begin_below : (number : Option ℕ) → Under d Soft Turns spent (suc turns) (suc (turns + d))
          (first_call L step turns main number) (first_call M step' (turns + d) main number)
      begin_below None = stop_below d Soft Turns spent _ _
      begin_below (Some number) = own_below d Soft Turns spent (suc turns) (suc (turns + d)) (within step (suc turns))
          (within step' (suc _)) (within_below d Soft Turns spent step step' goes goes' (scripted_steps roles)
          (suc turns) (suc _)) L M (any_denotations _ _) main number []

      pub runs_below : RunsBelow (roles_run L globals inputs turns roles) (roles_run M globals inputs (turns + d) roles)
      runs_below =
          let begins = begin_below (L.entered main Main) in
          subst (λ i. RunsBelow (roles_run L globals inputs turns roles)
          (run_to i.main (first_call M step' (turns + d) i.main (M.entered i.main Main) (richer d start))))
          (sym match.interfaces) (subst (λ number. RunsBelow (roles_run L globals inputs turns roles)
          (run_to main (first_call M step' (turns + d) main number (richer d start)))) (sym (match.entered main Main))
          (run_to_below main _ _ (begins.first start).stop (begins.second (richer d start)).stop
          (begins.both start (richer d start) (record { state = refl; few = omega arith; few' = omega arith }))))

-- What functions do with as many open calls as they have turns is a fixed point.

no_richer : (s : State) → richer 0 s ≡ s
no_richer s = (let none : s.turns + 0 ≡ s.turns = omega arith in ap (λ n. record s { turns = n }) none)

no_richer_piece : {V : Type 0} (o : Piece V) → richer_piece 0 o ≡ o
no_richer_piece o = grind arith

-- with as many turns, the same causes and the same ends there is no run but the same
nothing_passes : (end : RunEnd) → Passes 0 Never ⊥ end → ⊥
nothing_passes end h = grind (arith, h)

pub only_same : {V : Type 0} (o p : Piece V) → Below 0 Never ⊥ V o p → p ≡ o
only_same o p h = grind arith

module _ (step : Step) (goes : StepGoes step) (steps : StepsBelow 0 Never ⊥ (inl refl) step step) where
  -- more open calls than turns are as good as any number of them
  pub any_depth : (n m number : ℕ) (here : Here) (s : State) → s.turns < n → s.turns < m →
      within step m number here s ≡ within step n number here s
  any_depth n m number here s few few' = ap (within step m number here) (sym (no_richer s)) ∙ only_same _ _
      ((within_below 0 Never ⊥ (inl refl) step step goes goes steps n m number here).both s (richer 0 s)
      (record { state = refl; few = few; few' = omega (arith, few') }))

  pub now_goes : BodyGoes (now step)
  now_goes number here s = within_goes step goes (suc s.turns) number here s

  pub fixed : IsFixed step
  fixed number here s =
      let inner : BodiesBelow 0 Never ⊥ (inl refl) s.turns (s.turns + 0) (within step s.turns) (now step) =
      λ number here. record {
        first = within_goes step goes s.turns number here;
        second = now_goes number here;
        both = λ t t' ahead. (within_below 0 Never ⊥ (inl refl) step step goes goes steps s.turns (suc t'.turns) number
            here).both t t' (record { state = ahead.state; few = ahead.few; few' = omega arith });
      } in
      sym (only_same _ _ ((steps s.turns (s.turns + 0) (within step s.turns) (now step) inner number here).both s
      (richer 0 s) (record { state = refl; few = omega arith; few' = omega arith })))
      ∙ ap (step _ number here) (no_richer s)

module _ (denotations : Denotations) (obedient : Obedient denotations) where
  steady_steps : (roles : Roles) →
      StepsBelow 0 Never ⊥ (inl refl) (scripted_step denotations roles (run_step denotations))
      (scripted_step denotations roles (run_step denotations))
  steady_steps = scripted_steps 0 Never ⊥ (inl refl) denotations denotations obedient

  pub scripted_fixed : (roles : Roles) → IsFixed (scripted_step denotations roles (run_step denotations))
  scripted_fixed roles =
      fixed (scripted_step denotations roles _) (scripted_goes_on denotations obedient roles) (steady_steps roles)

  scripted_steady : (roles : Roles) → IsSteady (scripted_step denotations roles (run_step denotations))
  scripted_steady roles =
      any_depth (scripted_step denotations roles _) (scripted_goes_on denotations obedient roles) (steady_steps roles)

  pub has_fixed_point : HasFixedPoint denotations
  has_fixed_point = record {
    run = scripted_fixed idle;
    scripted = scripted_fixed;
    run_steady = scripted_steady idle;
    scripted_steady = scripted_steady;
  }
