-- The laws: of all denotations that obey, and so of every program.
use Rattle.sc_core_laws.proofs.Common.{BlameIsPassed, BlameRemains, BlamedAreThere, ChainExists, ChainIsLeast}
use Rattle.sc_core_laws.proofs.Common.{ChainsRise, Denotations, DepthsAreKept, EmptySetIsMeaning, Event, FixedPoint}
use Rattle.sc_core_laws.proofs.Common.{HoldsOfSets, List, MeaningGoesOn, Memory, MoreGoesOn, MoreMayPerform}
use Rattle.sc_core_laws.proofs.Common.{NobodyWhoPerformsIsBlamed, Obedient, OnlyGoesOn, ProgramsObey, CompSet}
use Rattle.sc_core_laws.proofs.Common.{SourceRun}
use Rattle.sc_core_laws.proofs.Common.{TracesAreLegal, TurnsOutMeansTurns, WrappedAgrees, WrappingAgrees, c_arith}
use Rattle.sc_core_laws.proofs.Common.{denotations_of, functions_in, globals_of, length-map, performed_by, refl}
use Rattle.sc_core_laws.proofs.Common.{roles_in, run_step, scripted_step, subst, wrapping, ℕ, ◌<◌}
use Rattle.sc_core_laws.proofs.Growing.{within_goes}
use Rattle.sc_core_laws.proofs.Matching.{run_goes_on, scripted_goes_on}
use Rattle.sc_core_laws.proofs.Statements.{program_obeys}
use Rattle.sc_core_laws.proofs.Runs.{has_fixed_point}
use Rattle.sc_core_laws.proofs.More.{more_runs, more_scripted, runs_agree, scripts_agree, wrapping_matches}
use Rattle.sc_core_laws.specs.Prelude.{BlamedStandActive}
use Rattle.sc_core_laws.proofs.Active.{blamed_stand_active as stand_active}
use Rattle.sc_core_laws.proofs.Legality.{runs_legal, scripts_legal}
use Rattle.sc_core_laws.proofs.Blames.{blamed_is_there, nobody_is_blamed, chain_rises, has_chain}
use Rattle.sc_core_laws.proofs.FollowingRuns.{emits_with_more, keeps_blames, passes_blames, least_is_chain}
use Rattle.sc_core_laws.proofs.Depths.{keeps_depths}
use Rattle.sc_core_laws.proofs.Scripts.{spends_along, spends_outside}
use Rattle.sc_core_laws.proofs.Turns.{spends_turns}

pub programs_obey : ProgramsObey
programs_obey = record { itself = program_obeys; wraps = wrapping_matches }

pub only_goes_on : OnlyGoesOn
only_goes_on = record {
  any_denotations = λ denotations obedient n number here. within_goes (run_step denotations)
      (run_goes_on denotations obedient) n number
      here;
  scripts = λ denotations obedient roles n number here. within_goes (scripted_step denotations roles _)
      (scripted_goes_on denotations obedient roles) n number here;
  programs = λ arith program n number here. within_goes (run_step (denotations_of arith program))
      (run_goes_on (denotations_of arith program) (program_obeys arith program)) n number here;
}

pub fixed_point : FixedPoint
fixed_point = record {
  any_denotations = has_fixed_point;
  programs = λ arith program. has_fixed_point (denotations_of arith program) (program_obeys arith program);
}

pub empty_set : EmptySetIsMeaning
empty_set = record {
  any_denotations = λ denotations globals trace inputs turns. refl;
  meaning = λ program trace inputs turns events. refl;
  wrapped = λ program trace inputs turns events. refl;
}

pub more_goes_on : MoreGoesOn
more_goes_on = record {
  any_denotations = more_scripted;
  programs = λ arith program set trace inputs. more_scripted (denotations_of arith program)
      (program_obeys arith program)
      (globals_of _) inputs (roles_in _ set trace);
}

pub meaning_goes_on : MeaningGoesOn
meaning_goes_on = record {
  any_denotations = more_runs;
  programs = λ arith program inputs. more_runs (denotations_of arith program) (program_obeys arith program)
      (globals_of _) inputs;
}

pub wrapping_agrees : WrappingAgrees
wrapping_agrees = record {
  any_denotations = scripts_agree;
  programs = λ program set trace inputs turns. scripts_agree (denotations_of c_arith program)
      (denotations_of wrapping program)
      (wrapping_matches program) (globals_of _) inputs turns (roles_in _ set trace);
}

pub wrapped_agrees : WrappedAgrees
wrapped_agrees = record {
  any_denotations = runs_agree;
  programs = λ program inputs turns. runs_agree (denotations_of c_arith program) (denotations_of wrapping program)
      (wrapping_matches program) (globals_of _) inputs turns;
}

pub traces_are_legal : TracesAreLegal
traces_are_legal = record {
  any_denotations = runs_legal;
  scripts = scripts_legal;
  meaning = λ arith program inputs turns events. runs_legal (denotations_of arith program) (program_obeys arith program)
      (globals_of _) inputs turns events;
  scripted = λ arith program set trace inputs turns events. scripts_legal (denotations_of arith program)
      (program_obeys arith program) (globals_of _) inputs turns events (roles_in _ set trace);
}

pub nobody_who_performs_is_blamed : NobodyWhoPerformsIsBlamed
nobody_who_performs_is_blamed = record {
  any_denotations = nobody_is_blamed;
  programs = λ arith program set trace inputs turns events. nobody_is_blamed (denotations_of arith program)
      (program_obeys arith program) (globals_of _) inputs turns events (roles_in _ set trace);
}

pub blamed_are_there : BlamedAreThere
blamed_are_there = record {
  any_denotations = blamed_is_there;
  programs = λ arith program set trace inputs turns events comp cause line ends. subst (λ n. comp < n)
      (length-map _ (functions_in arith _))
      (blamed_is_there (denotations_of arith program) (program_obeys arith program)
      (globals_of _) inputs turns events (roles_in _ set trace) comp cause line ends);
}

pub blamed_stand_active : BlamedStandActive
blamed_stand_active = record {
  any_denotations = stand_active;
  programs = λ arith program set trace inputs turns events. stand_active (denotations_of arith program)
      (program_obeys arith program) (globals_of _) inputs turns events (roles_in _ set trace);
}

-- what holds of denotations that obey holds of programs
of_sets : (law : List Event → (CompSet → SourceRun) → Type 0) →
    ((denotations : Denotations) → Obedient denotations →
    (globals : Memory) (inputs : List ℕ) (turns : ℕ) (trace : List Event) →
    law trace (performed_by denotations globals inputs turns trace)) → HoldsOfSets law
of_sets law holds = record {
  any_denotations = holds;
  programs = λ arith program inputs turns trace. holds (denotations_of arith program) (program_obeys arith program)
      (globals_of _) inputs turns trace;
}

pub more_may_perform : MoreMayPerform
more_may_perform = of_sets _ emits_with_more

pub blame_remains : BlameRemains
blame_remains = of_sets _ keeps_blames

pub blame_is_passed : BlameIsPassed
blame_is_passed = of_sets _ passes_blames

pub chain_is_least : ChainIsLeast
chain_is_least = of_sets _ least_is_chain

pub chains_rise : ChainsRise
chains_rise = of_sets _ chain_rises

pub chain_exists : ChainExists
chain_exists = of_sets _ (λ denotations _ globals inputs turns trace. has_chain trace _)

pub depths_are_kept : DepthsAreKept
depths_are_kept = record {
  any_denotations = keeps_depths;
  programs = λ arith program. keeps_depths (denotations_of arith program) (program_obeys arith program);
}

pub turns_out_means_turns : TurnsOutMeansTurns
turns_out_means_turns = record {
  any_denotations = spends_turns;
  programs = λ arith program. spends_turns (denotations_of arith program) (program_obeys arith program);
  scripts = spends_along;
  outside = spends_outside;
}
