-- The compartment that a run blames stands active after the run's events, whichever compartments perform.
use Rattle.sc_core_laws.proofs.Common.{Blamed, Bool, Cause, Denotations, Ended, Event, EventsOut, Export, Kept, List}
use Rattle.sc_core_laws.proofs.Common.{Main, Memory, Obedient, Option, Piece, Reached, Roles, RunEnd, Some}
use Rattle.sc_core_laws.proofs.Common.{SourceRun, Standing, Stopped, TurnsOut, Value, [], at_start, false}
use Rattle.sc_core_laws.proofs.Common.{first_state, reaches, refl, roles_run, run_step, run_to, scripted_step}
use Rattle.sc_core_laws.proofs.Common.{stands_after_all, stopped_at, subst, suc, sym, true, within, ℕ, ◌∷◌, ◌≡◌}
use Rattle.sc_core_laws.specs.Prelude.{StandsActive}
use Rattle.sc_core_laws.proofs.Keeping.{Walk, place, main_walks, scripted_walks}
use Rattle.sc_core_laws.proofs.Rows.{stands_last}
use Rattle.sc_core_laws.proofs.Runs.{cut_if}

module _ (denotations : Denotations) where
  abbrev main : ℕ
  main = denotations.interfaces.main

  -- an end that blames no compartment but the active one
  abbrev BlamesActive : RunEnd → List Event → Type 0
  BlamesActive Ended trace = Unit {0}
  BlamesActive (Blamed comp cause line) trace = StandsActive main comp trace
  BlamesActive TurnsOut trace = Unit {0}
  BlamesActive EventsOut trace = Unit {0}

  abbrev entered_at : Standing → ℕ → ℕ → Standing
  entered_at st to index =
      record { active = record { comp = to; entry = Export index }; waiting = st.active ∷ st.waiting }

  -- the run stands here
  abbrev walk : Walk denotations
  walk = record {
    Place = Standing;
    At = λ n st s. stands_after_all (at_start main) s.trace ≡ Some st;
    Ends = λ end s. BlamesActive end s.trace;
    In = λ st comp. comp ≡ st.active.comp;
    Runs = λ st comp number. comp ≡ st.active.comp;
    inner = λ st comp f. st;
    across = entered_at;
    cross_runs = λ st to index number f same. refl;
    halts = λ st s at. tt;
    spent = λ n st s none at. tt;
    less = λ n m st s is at. at;
    raised = λ n st s at. at;
    stored = λ n st s memory at. at;
    begins = λ n st comp f args s at. at;
    ends = λ n st comp f first s at. at;
    enters = λ n st from to index args s here may at. stands_last _ s.trace _ st at;
    leaves = λ n st from to index args v s here may at. stands_last _ s.trace _ (entered_at st to index) at;
    reads = λ n st from args s here may at. stands_last _ s.trace _ st at;
    writes = λ n st from args s here may at. stands_last _ s.trace _ st at;
  }

  abbrev begins : Standing
  begins = record { active = record { comp = main; entry = Main }; waiting = [] }

  piece_blames : (n : ℕ) (piece : Piece (Option Value)) → Kept (place denotations walk n begins) piece →
      BlamesActive (run_to main piece).behaviour.end (run_to main piece).behaviour.trace
  piece_blames n (Reached v s) h = tt
  piece_blames n (Stopped end s) h = h.after

  stopped_blames : (events : ℕ) (run : SourceRun) → BlamesActive run.end run.trace →
      BlamesActive (stopped_at events run).end (stopped_at events run).trace
  stopped_blames events run h = by (reaches events run run.end) where
    by : (b : Bool) → BlamesActive (cut_if events b run).end (cut_if events b run).trace
    by true = tt
    by false = h

  module _ (obedient : Obedient denotations) (roles : Roles) (globals : Memory) (inputs : List ℕ) (turns : ℕ) where
    run_blames : BlamesActive (roles_run denotations globals inputs turns roles).behaviour.end
        (roles_run denotations globals inputs turns roles).behaviour.trace
    run_blames = piece_blames (suc turns) _ (main_walks denotations walk (suc turns)
        (within (scripted_step denotations roles (run_step denotations)) (suc turns))
        (scripted_walks denotations walk (λ n st s at. at) (λ st comp number is. is) (λ st comp number f is. is)
        obedient roles (λ comp number plain is n st here cause line s at. record { at = st; stood = at; active = sym here })
        (suc turns)) begins (first_state globals inputs turns) (λ none. tt) (λ number is none. tt)
        (λ number f is. refl) refl)

pub blamed_stand_active : (denotations : Denotations) → Obedient denotations → (globals : Memory) (inputs : List ℕ)
    (turns events : ℕ) (roles : Roles) (comp : ℕ) (cause : Cause) (line : ℕ) →
    (stopped_at events (roles_run denotations globals inputs turns roles).behaviour).end ≡ Blamed comp cause line →
    StandsActive denotations.interfaces.main comp
    (stopped_at events (roles_run denotations globals inputs turns roles).behaviour).trace
blamed_stand_active denotations obedient globals inputs turns events roles comp cause line ends =
    let run : SourceRun = (roles_run denotations globals inputs turns roles).behaviour in
    subst (λ end. BlamesActive denotations end (stopped_at events run).trace) ends
    (stopped_blames denotations events run (run_blames denotations obedient roles globals inputs turns))
