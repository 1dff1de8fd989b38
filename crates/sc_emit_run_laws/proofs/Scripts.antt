-- The run of a program's code in which a set performs its part of the machine's trace keeps to that trace, by what its
-- code comes to once `main` has begun.
use Rattle.sc_emit_run_laws.proofs.Common.{AllBefore, BodiesFollow, Body, Bool, Denotations, Departs, Emits, End}
use Rattle.sc_emit_run_laws.proofs.Common.{Event, Finishes, Function, FunctionGives, Gone, Here, ImageParts, IsBuilt}
use Rattle.sc_emit_run_laws.proofs.Common.{IsFull, IsLeft, IsPrefix, IsRun, IsUnknown, Joint, KeepsTo, List, Main}
use Rattle.sc_emit_run_laws.proofs.Common.{Memory, Option, Overflows, Owner, PerformersDo, Piece, Reached, Reaches}
use Rattle.sc_emit_run_laws.proofs.Common.{Roles, RunEnd, Setting, Some, Standing, Standpoint, Stands, State as Meant}
use Rattle.sc_emit_run_laws.proofs.Common.{Stopped, TacTree, Traps, TurnsOut, UnknownGives, Value, Walks, Word, []}
use Rattle.sc_emit_run_laws.proofs.Common.{and_then, ap, append-nil, ap₂, arith, at_start, begun, bodies, call_own}
use Rattle.sc_emit_run_laws.proofs.Common.{code_denotations, code_function, code_globals, code_obeys, done, done_goes}
use Rattle.sc_emit_run_laws.proofs.Common.{exit_word, false, finishes, found, frames_are, function_entered}
use Rattle.sc_emit_run_laws.proofs.Common.{functions_in, gate, has_no_end, inl, inr, is_full, is_some, jalr_target}
use Rattle.sc_emit_run_laws.proofs.Common.{keeps_depths, last, leads, legal, length, machine, overflows_then}
use Rattle.sc_emit_run_laws.proofs.Common.{own_goes, pos, prefix_more, ran, refl, roles_in, run_step, run_to}
use Rattle.sc_emit_run_laws.proofs.Common.{scripted_call, scripted_code_run, scripted_goes_on, scripted_step, setting}
use Rattle.sc_emit_run_laws.proofs.Common.{slice_get, spends_along, stack_depth, stack_size, stands, stands_after_all}
use Rattle.sc_emit_run_laws.proofs.Common.{step, steps_emit, subst, suc, sym, true, within_goes, wrapping, ℕ, ⊎_elim}
use Rattle.sc_emit_run_laws.proofs.Common.{◌++◌, ◌<◌, ◌∙◌, ◌∷◌, ◌≡◌, ◌≤◌, ◌⊎◌}
use Rattle.sc_image.specs.Prelude.{MachineRun, MachineState, a0, machine as ran_by, ra}
use Rattle.sc_core_laws.proofs.Scripts.{spends_outside}
use Rattle.sc_core_laws.specs.Prelude.{AllFrom, Grown, IsSpentOutside}
use Rattle.sc_emit_hart.specs.Prelude.{LacksRoom}
use Rattle.sc_emit_run_laws.specs.Prelude.{HasOutcome, IsTrap}
use Rattle.sc_emit_run_laws.proofs.Emits.{IsPast, later_prefix, past_it}
use Rattle.sc_emit_run_laws.proofs.Emitted.{walks_there}
use Rattle.sc_emit_run_laws.proofs.Placed.{stands_so, standing_in}
use Rattle.sc_emit_run_laws.proofs.Along.{prefix_endless}
use Rattle.sc_emit_run_laws.proofs.Exports.{exports_lead}
use Rattle.sc_emit_run_laws.proofs.Finish.{body_gave, run_prefix, word_given}
use Rattle.sc_emit_run_laws.proofs.Passing.{emits_finish, emits_stop, emits_trap}
use Rattle.sc_emit_run_laws.proofs.Sections.{function_found}
use Rattle.sc_emit_run_laws.proofs.Start.{IsMain, P as P', base, begins, main_there, settled, x as x'}
use Rattle.sc_emit_run_laws.proofs.UnknownFrames.{settled_started, started}

module _ (program : TacTree) (image : ImageParts) (turn_pays : ℕ) (set : ℕ → Bool)
    (built : IsBuilt set program image turn_pays) (inputs : List ℕ) (steps events : ℕ) where
  -- the machine's run and its trace
  abbrev pub its : MachineRun
  its = ran_by image inputs steps events

  abbrev pub trace : List Event
  trace = its.state.trace

  abbrev denotations : Denotations
  denotations = code_denotations wrapping program

  abbrev main : ℕ
  main = program.interfaces.main

  abbrev globals : Memory
  globals = code_globals program.sections

  abbrev pub roles : Roles
  roles = roles_in main set trace

  abbrev pub T : Setting
  T = setting program image inputs set turn_pays built.addresses

  abbrev pub P : Standpoint
  P = P' built inputs steps

  abbrev pub x : Joint
  x = x' built inputs steps

  abbrev body : Body
  body = bodies program roles (suc steps)

  pub there : IsMain (functions_in program main) (function_entered Main (slice_get program.sections main))
  there = main_there program built.rules

  -- `main`, with all that it calls
  abbrev whole : Piece (Option Value)
  whole = call_own denotations body image.main there.number [] x.meant

  abbrev pub main_ran : Piece (Option Value)
  main_ran = ran program roles (suc steps) image.main there.number there.f [] x.meant

  main_its : slice_get (functions_in program image.main) there.number ≡ Some there.f
  main_its = ap (λ c. slice_get (functions_in program c) there.number) built.linked.main ∙ there.its

  whole_ran : whole ≡ main_ran
  whole_ran =
      ap (λ o. and_then (found o x.meant) (λ f s.
      and_then (body there.number (record { comp = image.main; first = length (s.memory image.main) })
      (begun image.main f [] s)) (λ v t. Reached v (done image.main f (length (s.memory image.main)) t))))
      (function_found program image.main there.number there.f main_its)

  called_whole : scripted_call denotations roles globals inputs steps ≡ whole
  called_whole =
      ap (λ o. and_then (found o x.meant) (λ number s. call_own denotations body main number [] s)) there.enters ∙
      ap (λ c. call_own denotations body c there.number [] x.meant) (sym built.linked.main)

  run_is : scripted_code_run wrapping program inputs steps set trace ≡ run_to main whole
  run_is = ap (run_to main) called_whole

  -- it emits no end, and goes on from the first state
  no_end : has_no_end (last whole).trace ≡ true
  no_end =
      (keeps_depths denotations (code_obeys.itself wrapping program)).scripted_no_end roles (suc steps) image.main
      there.number [] x.meant refl

  gone : Gone x.meant whole
  gone =
      own_goes denotations body (within_goes (scripted_step denotations roles (run_step denotations))
      (scripted_goes_on denotations (code_obeys.itself wrapping program) roles) (suc steps)) image.main there.number []
      x.meant

  led : leads denotations main (denotations.entered main Main) ≡ true
  led =
      ap (leads denotations main) there.enters ∙ ap is_some (function_found program main there.number there.f there.its)

  abbrev reaches : (taken : ℕ) (reached : MachineState) → Walks image inputs taken (machine P x) reached →
      has_no_end reached.trace ≡ true → Reaches image inputs (suc taken)
  reaches taken reached walks going = record {
    steps = taken;
    reached = reached;
    walks = walks;
    within = omega arith;
    going = going;
  }

  -- where `main` returns the machine finishes, and where it stops the machine has emitted its events
  abbrev pub MainGives : Piece (Option Value) → Type 0
  MainGives (Reached v s) = (bound : ℕ) × Finishes image inputs bound steps (run_to main (Reached v s))
  MainGives (Stopped end s) = (budget : ℕ) × Emits T P x budget s

  -- the machine stands trapped since a stack is full, and has emitted the events of a state from which the piece goes
  -- on
  pub record IsTrapped (piece : Piece (Option Value)) : Type 0 where
    pub taken : ℕ
    pub reached : MachineState
    pub walks : Walks image inputs taken (machine P x) reached
    pub traps : step image inputs reached ≡ Traps Owner
    pub lacks : LacksRoom image reached
    pub begun : Meant
    pub trace : reached.trace ≡ begun.trace
    pub deep : stack_size < stack_depth reached.active begun
    pub timed : AllBefore (suc (length begun.trace)) begun.frames
    pub grown : Grown begun (last piece)

  overflow_traps : (budget : ℕ) (piece : Piece (Option Value)) → Overflows T P x budget piece → IsTrapped piece
  overflow_traps budget piece over = record {
    taken = over.steps;
    reached = over.reached;
    walks = over.run;
    traps = over.traps;
    lacks = over.lacks;
    begun = over.begun;
    trace = over.trace;
    deep = over.deep;
    timed = over.timed;
    grown = over.grown;
  }

  -- it has emitted a prefix of the piece's trace
  prefix_of : (piece : Piece (Option Value)) (at : IsTrapped piece) → IsPrefix at.reached.trace (last piece).trace
  prefix_of piece at = subst (λ t. IsPrefix t (last piece).trace) (sym at.trace) at.grown.events

  abbrev pub MainFollowed : Piece (Option Value) → Type 0
  MainFollowed piece = MainGives piece ⊎ IsTrapped piece

  -- the state in which it stands trapped is reached, and what it has emitted begins the run's trace
  abbrev reaches_trap : (at : IsTrapped whole) → Reaches image inputs (suc at.taken)
  reaches_trap at =
      reaches at.taken at.reached at.walks
      (prefix_endless at.reached.trace (last whole).trace (prefix_of whole at) no_end)

  trap_prefix : (at : IsTrapped whole) → IsPrefix at.reached.trace (run_to main whole).behaviour.trace
  trap_prefix at =
      prefix_more at.reached.trace (last whole).trace (run_to main whole).behaviour.trace (prefix_of whole at)
      (run_prefix main whole)

  trap_full : (at : IsTrapped whole) → IsFull image inputs (suc at.taken) steps (run_to main whole)
  trap_full at = record {
    place = reaches_trap at;
    traps = at.traps;
    lacks = at.lacks;
    trace = trap_prefix at;
    exceeds = record {
      moment = record {
        made = at.begun.frames;
        prefix = record { more = at.grown.frames.more; is = frames_are main whole ∙ at.grown.frames.is };
        before = subst (λ (t : List Event). AllBefore (suc (length t)) at.begun.frames) (sym at.trace) at.timed;
        after = subst (λ (t : List Event). AllFrom (length t) at.grown.frames.more) (sym at.trace) at.grown.late;
      };
      deep = at.deep;
    };
  }

  module _ (is_legal : legal program.interfaces trace ≡ true) where
    -- WHERE IT STOPS
    module _ (end : RunEnd) (s : Meant) (is : whole ≡ Stopped end s) (budget : ℕ) (observed : Emits T P x budget s)
      where
        -- where it is out of turns, and hasn't emitted all of the trace, no step is left
        used : end ≡ TurnsOut → (event : Event) (more : List Event) → trace ≡ s.trace ++ event ∷ more →
            steps ≤ observed.steps
        used out event more along =
            omega (
              arith,
              observed.costs.least,
              spends_along denotations (code_obeys.itself wrapping program) (exports_lead program built.rules) led trace
                  is_legal set globals inputs steps s (called_whole ∙ is ∙ ap (λ end. Stopped end s) out) event more
                  along,
            )

        abbrev place : Reaches image inputs (suc observed.steps)
        place =
            reaches observed.steps observed.reached observed.run
            (ap has_no_end observed.trace ∙ ap (λ p. has_no_end (last p).trace) (sym is) ∙ no_end)

        stops : KeepsTo trace (run_to main (Stopped end s)).behaviour
        stops =
            emits_stop image inputs built.linked.formed steps events (suc observed.steps) place
            (run_to main (Stopped end s)).behaviour observed.trace (subst (Gone x.meant) is gone).stop used

        -- where a trap stops the machine in a compartment that doesn't perform, it is out of turns only after as many
        -- steps
        module _ (traps : IsTrap its.stop) (honest : set its.state.active ≡ false) where
          its_prefix : IsPrefix s.trace trace
          its_prefix =
              let past : IsPast image inputs built.linked.formed (suc observed.steps) place events steps =
              past_it image inputs built.linked.formed (suc observed.steps) place events steps traps in
              let more : observed.steps < steps = past.more in
              subst (λ t. IsPrefix t trace) observed.trace
              (later_prefix image inputs built.linked.formed (suc observed.steps) place events steps
              (omega (arith, more)) past.short)

          spent_outside : end ≡ TurnsOut → trace ≡ s.trace → steps ≤ observed.steps
          spent_outside out same =
              let way = walks_there image inputs events steps in
              let spent : IsSpentOutside main set s =
              spends_outside denotations (code_obeys.itself wrapping program) (exports_lead program built.rules) led
              trace is_legal set globals inputs steps s (called_whole ∙ is ∙ ap (λ end. Stopped end s) out) in
              let stood_so : spent.at ≡ standing_in its.state =
              (stands_so image inputs built.linked.formed way.0 its.state way.1).place spent.at
              (ap (λ main. stands_after_all (at_start main) trace) built.linked.main ∙
              ap (λ t. stands_after_all (at_start main) t) same ∙ spent.stood) in
              let none : s.turns ≡ 0 =
              spent.spent (ap (λ (at : Standing). set at.active.comp) stood_so ∙ honest) in
              omega (arith, observed.costs.least, none)

          out_of_turns : (more : List Event) → trace ≡ s.trace ++ more → end ≡ TurnsOut → steps ≤ observed.steps
          out_of_turns [] along out = spent_outside out (along ∙ append-nil s.trace)
          out_of_turns (event ∷ more) along out = used out event more along

          stands_stopped : Stands image inputs (suc observed.steps) steps (run_to main (Stopped end s))
          stands_stopped = record {
            place = place;
            trace = observed.trace;
            end = (subst (Gone x.meant) is gone).stop;
            spent = out_of_turns its_prefix.more its_prefix.is;
          }

    keeps_by : (piece : Piece (Option Value)) → whole ≡ piece → MainGives piece →
        KeepsTo trace (run_to main piece).behaviour
    keeps_by (Reached v s) is finish =
        let f : Finishes image inputs finish.0 steps (run_to main (Reached v s)) = finish.1 in
        inl (emits_finish image inputs built.linked.formed steps events finish.0 f.place f.ends
        (run_to main (Reached v s)).behaviour.trace f.trace)
    keeps_by (Stopped end s) is observed = stops end s is observed.0 observed.1

    -- WHERE A STACK IS FULL
    full : IsTrapped whole → KeepsTo trace (run_to main whole).behaviour
    full at =
        inl (emits_trap image inputs built.linked.formed steps events (suc at.taken)
        (reaches_trap at) at.traps (run_to main whole).behaviour.trace (trap_prefix at))

    -- where a trap stops the machine in a compartment that doesn't perform
    module _ (traps : IsTrap its.stop) (honest : set its.state.active ≡ false) where
      outcome_by : (piece : Piece (Option Value)) → whole ≡ piece → MainGives piece →
          HasOutcome image inputs steps (run_to main piece)
      outcome_by (Reached v s) is finish = record { bound = finish.0; outcome = finishes finish.1 }
      outcome_by (Stopped end s) is observed = record {
        bound = suc observed.1.steps;
        outcome = stands (stands_stopped end s is observed.0 observed.1 traps honest);
      }

      pub has_outcome : MainFollowed main_ran →
          HasOutcome image inputs steps (scripted_code_run wrapping program inputs steps set trace)
      has_outcome followed =
          subst (HasOutcome image inputs steps) (sym run_is)
          (⊎_elim (λ gives. outcome_by whole refl gives)
          (λ at. record { bound = suc at.taken; outcome = is_full (trap_full at) })
          (subst MainFollowed (sym whole_ran) followed))

    -- where `main` is followed, the run keeps to the machine's trace
    pub keeps_trace : MainFollowed main_ran →
        KeepsTo trace (scripted_code_run wrapping program inputs steps set trace).behaviour
    keeps_trace followed =
        subst (λ r. KeepsTo trace r.behaviour) (sym run_is)
        (⊎_elim (λ gives. keeps_by whole refl gives) full
        (subst MainFollowed (sym whole_ran) followed))

  -- WHERE `main` RUNS ITS CODE
  module _ (honest : set image.main ≡ false) where
    module _ (budget : ℕ) (v : Option Value) (s : Meant) (is : main_ran ≡ Reached v s)
        (left : IsLeft T P x budget gate v s) where
      gives_word : (w : ℕ) × (v ≡ Some (Word w))
      gives_word =
          let here : Here = record { comp = image.main; first = length (x.meant.memory image.main) } in
          let gave = body_gave (bodies program roles (suc steps) there.number here
          (begun image.main (code_function wrapping there.f) [] x.meant))
          (done image.main (code_function wrapping there.f) (length (x.meant.memory image.main))) v s is in
          (built.results roles).ends (suc steps) there.number here
          (begun image.main (code_function wrapping there.f) [] x.meant) gave.0 v honest built.linked.main
          (ap (λ c. function_entered Main (slice_get program.sections c)) built.linked.main ∙ there.enters) gave.1

      abbrev stands_at : MachineState
      stands_at = machine P left.y

      trace_is : stands_at.trace ≡ s.trace
      trace_is = ap (λ m. m.trace) left.meant_is

      returns : Finishes image inputs (suc left.leads.steps) steps (run_to main (Reached v s))
      returns = record {
        place = reaches left.leads.steps stands_at left.leads.run
            (ap has_no_end trace_is ∙ ap (λ p. has_no_end (last p).trace) (sym (whole_ran ∙ is)) ∙ no_end);
        ends = steps_emit.ends image inputs stands_at ra (pos 0)
            (record { word = left.jump.word; fetched = left.jump.fetched; decodes = left.jump.decodes })
            (ap (λ base. jalr_target base (pos 0)) left.ra) refl;
        trace = ap₂ (λ t e. t ++ e ∷ []) trace_is (ap₂ End built.linked.main
            (word_given T (left.y.inj P.comp) (left.y.regs a0) v gives_word.0 gives_word.1 left.value));
        end = refl;
      }

    gives_by : (budget : ℕ) (piece : Piece (Option Value)) → main_ran ≡ piece → FunctionGives T P x budget gate piece →
        MainGives piece
    gives_by budget (Reached v s) is left = (suc left.leads.steps, returns budget v s is left)
    gives_by budget (Stopped end s) is observed = (budget, observed)

    pub runs_code : ((n : ℕ) → BodiesFollow program roles T n) → MainFollowed main_ran
    runs_code follow =
        let run : IsRun program roles T (suc steps) there.number there.f P x [] gate =
        follow (suc steps) P x there.number there.f [] gate main_its (rw there.lone refl) (sym there.lone)
        (begins built inputs steps honest there.number there.f there.enters) in
        ⊎_elim (λ gives. inl (gives_by run.0 main_ran refl gives)) (λ over. inr (overflow_traps run.0 main_ran over))
        run.1.1

  -- WHERE `main` PERFORMS
  module _ (performing : set image.main ≡ true) where
    unknown_main : T.performs image.main ≡ true
    unknown_main = rw performing refl

    abbrev F : Function
    F = code_function wrapping there.f

    -- its variables and its frame are there
    abbrev opened : Joint
    opened = started T P image.main unknown_main F [] x

    abbrev its_first : ℕ
    its_first = length (x.meant.memory image.main)

    abbrev close : Meant → Meant
    close = done image.main F its_first

    unknown : IsUnknown program roles T P opened there.number
    unknown = record {
      performs = performing;
      settled = settled_started T P image.main unknown_main F [] x (settled built inputs steps);
      floors = (base built inputs steps).floors;
      entered = ap (λ c. function_entered Main (slice_get program.sections c)) built.linked.main ∙ there.enters;
    }

    abbrev performed : Piece (Option Value)
    performed =
        bodies program roles (suc steps) there.number (record { comp = image.main; first = its_first }) opened.meant

    abbrev closing : Piece (Option Value) → Piece (Option Value)
    closing piece = and_then piece (λ v t. Reached v (close t))

    departs : (v : Option Value) (s : Meant) → performed ≡ Reached v s → Departs program roles T P opened v s →
        MainGives (Reached v (close s))
    departs v s is left =
        let y : MachineState = machine P left.y in
        let trace_is : y.trace ≡ s.trace = ap (λ m. m.trace) left.meant_is in (
          suc left.leads.steps,
          record {
            place = reaches left.leads.steps y left.leads.run
                (ap has_no_end trace_is ∙ ap (λ p. has_no_end (last (closing p)).trace) (sym is) ∙
                ap (λ p. has_no_end (last p).trace) (sym whole_ran) ∙ no_end);
            ends = left.goes;
            trace = ap₂ (λ t e. t ++ e ∷ []) trace_is
                (ap₂ End built.linked.main (sym (ap exit_word left.value)));
            end = refl;
          },
        )

    performs_by : (piece : Piece (Option Value)) → performed ≡ piece → UnknownGives program roles T P opened piece →
        MainGives (closing piece)
    performs_by (Reached v s) is left = departs v s is left
    performs_by (Stopped end s) is observed = (
      0,
      record {
        steps = observed.steps;
        reached = observed.reached;
        run = observed.run;
        trace = observed.trace;
        costs = record { least = observed.costs.least; most = observed.costs.most };
      },
    )

    close_goes : (v : Option Value) (s : Meant) → Gone s (Reached v (close s))
    close_goes v s = record { grown = done_goes image.main F its_first s; stop = tt }

    traps_by : Overflows T P opened 0 performed → IsTrapped (closing performed)
    traps_by over =
        let closed : Overflows T P opened 0 (closing performed) =
        overflows_then T P opened 0 performed (λ v t. Reached v (close t)) close_goes over in
        record {
          taken = closed.steps;
          reached = closed.reached;
          walks = closed.run;
          traps = closed.traps;
          lacks = closed.lacks;
          begun = closed.begun;
          trace = closed.trace;
          deep = closed.deep;
          timed = closed.timed;
          grown = closed.grown;
        }

    pub performs_rows : ((n : ℕ) → PerformersDo program roles T n) → MainFollowed main_ran
    performs_rows perform =
        ⊎_elim (λ gives. inl (performs_by performed refl gives)) (λ over. inr (traps_by over))
        (perform (suc steps) P opened there.number its_first unknown)

  -- where the functions of all compartments are followed, the run keeps to the machine's trace
  pub keeps : legal program.interfaces trace ≡ true → ((n : ℕ) → BodiesFollow program roles T n) →
      ((n : ℕ) → PerformersDo program roles T n) →
      KeepsTo trace (scripted_code_run wrapping program inputs steps set trace).behaviour
  keeps is_legal follow perform = by (set image.main) refl where
    by : (b : Bool) → set image.main ≡ b →
        KeepsTo trace (scripted_code_run wrapping program inputs steps set trace).behaviour
    by true performing = keeps_trace is_legal (performs_rows performing perform)
    by false honest = keeps_trace is_legal (runs_code honest follow)

  -- and where a trap stops the machine in a compartment that doesn't perform, the run has an outcome
  pub stops_so : legal program.interfaces trace ≡ true → ((n : ℕ) → BodiesFollow program roles T n) →
      ((n : ℕ) → PerformersDo program roles T n) → IsTrap its.stop → set its.state.active ≡ false →
      HasOutcome image inputs steps (scripted_code_run wrapping program inputs steps set trace)
  stops_so is_legal follow perform traps honest = by (set image.main) refl where
    by : (b : Bool) → set image.main ≡ b →
        HasOutcome image inputs steps (scripted_code_run wrapping program inputs steps set trace)
    by true performing = has_outcome is_legal traps honest (performs_rows performing perform)
    by false unscripted = has_outcome is_legal traps honest (runs_code unscripted follow)
