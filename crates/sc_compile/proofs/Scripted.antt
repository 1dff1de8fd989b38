-- The program in which a set performs its part of the machine's trace, by the run of its code.
use Rattle.sc_compile.proofs.Common.{Bool, CompSet, EmitsOrIsBlamed, Event, IsBlamed, IsStop, IsWellTyped, KeepsTo}
use Rattle.sc_compile.proofs.Common.{List, ProgramTree, Run, ap, c_arith, false, inl, inr, length, ltb-false}
use Rattle.sc_compile.proofs.Common.{ltb-true, nat_lt, program_tac, refl, scripted_by, scripted_code_run}
use Rattle.sc_compile.proofs.Common.{scripted_run_of, shorter_first, subst, sym, true, unstopped, wrapped_code_agrees}
use Rattle.sc_compile.proofs.Common.{wrapping, ℕ, ⊎_elim, ◌<◌, ◌∙◌, ◌≡◌}
use Rattle.sc_base.specs.Prelude.{IsPrefix}
use Rattle.sc_core.specs.declared.cause.Cause.{Cause}
use Rattle.sc_core.specs.declared.run.RunEnd.{RunEnd}
use Rattle.sc_core.specs.declared.run.RunEnd.TheVariants.{Blamed, Ended, EventsOut, TurnsOut}
use Rattle.sc_core.specs.declared.run.SourceRun.{SourceRun}
use Rattle.sc_core_laws.proofs.ProgramLaws.{blamed_are_there, nobody_who_performs_is_blamed}
use Rattle.sc_core_laws.proofs.Growing.{prefix_same}
use Rattle.sc_core_laws.proofs.Runs.{trace_is}
use Rattle.sc_emit_run_laws.proofs.Along.{take_prefix}
use Rattle.sc_emit_run_laws.proofs.Kept.{keeps_along, keeps_until_blame}
use Rattle.sc_compile.proofs.Tac.{means_in_c}

-- a blame with its compartment
pub record IsBlame (end : RunEnd) : Type 0 where
  pub comp : ℕ
  pub cause : Cause
  pub line : ℕ
  pub is : end ≡ Blamed comp cause line

pub blame_of : (end : RunEnd) → IsBlamed end → IsBlame end
blame_of Ended h = absurd h
blame_of (Blamed comp cause line) h = record { comp = comp; cause = cause; line = line; is = refl }
blame_of TurnsOut h = absurd h
blame_of EventsOut h = absurd h

pub stops_so : (end : RunEnd) → IsBlamed end → IsStop end
stops_so Ended h = absurd h
stops_so (Blamed comp cause line) h = tt
stops_so TurnsOut h = absurd h
stops_so EventsOut h = absurd h

module _ (program : ProgramTree) (typed : IsWellTyped program) (set : CompSet) (inputs : List ℕ) (turns : ℕ)
    (observed : List Event) where
  abbrev whole : Run
  whole = scripted_run_of c_arith program inputs turns set observed

  abbrev cut : SourceRun
  cut = scripted_by c_arith program set observed inputs turns (length observed)

  -- what the code keeps to its program keeps to
  program_keeps : KeepsTo observed (scripted_code_run wrapping (program_tac program) inputs turns set
      observed).behaviour →
      KeepsTo observed whole.behaviour
  program_keeps keeps =
      keeps_along observed whole (scripted_code_run c_arith (program_tac program) inputs turns set observed)
      ((means_in_c program typed).scripted inputs turns set observed)
      (keeps_until_blame observed (scripted_code_run c_arith (program_tac program) inputs turns set observed)
      (scripted_code_run wrapping (program_tac program) inputs turns set observed)
      (wrapped_code_agrees.scripted (program_tac program) set observed inputs turns) keeps)

  observed_all : IsPrefix observed whole.behaviour.trace → cut.trace ≡ observed
  observed_all prefix =
      trace_is (length observed) whole.behaviour ∙
      take_prefix (length observed) observed whole.behaviour.trace prefix refl

  blamed_before : IsBlamed whole.behaviour.end → IsPrefix whole.behaviour.trace observed →
      length whole.behaviour.trace < length observed → EmitsOrIsBlamed (length program.sections) set observed cut
  blamed_before ends prefix less =
      let same : cut ≡ whole.behaviour =
      unstopped (length observed) whole.behaviour (stops_so whole.behaviour.end ends) less in
      let blame = blame_of whole.behaviour.end ends in
      let is : cut.end ≡ Blamed blame.comp blame.cause blame.line = ap (λ (r : SourceRun). r.end) same ∙ blame.is in
      inr (
        record {
          comp = blame.comp;
          cause = blame.cause;
          line = blame.line;
          compartment = blamed_are_there.programs c_arith program set observed inputs turns (length observed) blame.comp
              blame.cause blame.line is;
          outside = nobody_who_performs_is_blamed.programs c_arith program set observed inputs turns (length observed)
              blame.comp blame.cause blame.line is;
          blamed = is;
          prefix = subst (λ (r : SourceRun). IsPrefix r.trace observed) (sym same) prefix;
        },
        subst (λ (r : SourceRun). length r.trace < length observed) (sym same) less,
      )

  pub emits_or_is_blamed : KeepsTo observed whole.behaviour → EmitsOrIsBlamed (length program.sections) set observed cut
  emits_or_is_blamed keeps =
      ⊎_elim (λ emitted. inl (observed_all emitted))
      (λ h. by h.0 h.1 (nat_lt (length whole.behaviour.trace) (length observed)) refl) keeps where
        by : IsBlamed whole.behaviour.end → IsPrefix whole.behaviour.trace observed → (b : Bool) →
            nat_lt (length whole.behaviour.trace) (length observed) ≡ b →
            EmitsOrIsBlamed (length program.sections) set observed cut
        by ends prefix true is =
            blamed_before ends prefix (ltb-true (length whole.behaviour.trace) (length observed) is)
        by ends prefix false is =
            inl (observed_all (shorter_first observed whole.behaviour.trace observed (prefix_same observed) prefix
            (ltb-false (length whole.behaviour.trace) (length observed) is)))

  -- where the run of the code keeps to the trace
  pub scripted_emits :
      KeepsTo observed (scripted_code_run wrapping (program_tac program) inputs turns set observed).behaviour →
      EmitsOrIsBlamed (length program.sections) set observed cut
  scripted_emits keeps = emits_or_is_blamed (program_keeps keeps)
