-- What is compiled does what its program means.
use Rattle.sc_compile.proofs.Common.{AgreesInDepth, All, AreEmitted, AreNamed, Arith, EachEmits}
use Rattle.sc_compile.proofs.Common.{ForwardSimulation, GlobalsAreWords, ImageParts, IsBuilt, IsCompiled, IsFunction}
use Rattle.sc_compile.proofs.Common.{IsLinkable, IsLinked, IsRobust, IsWellTyped, IsWhole, IsWord, List, None}
use Rattle.sc_compile.proofs.Common.{ProgramTree, Run}
use Rattle.sc_compile.proofs.Common.{SimulatesRun, addresses_at, all_codes, arith, built_image, c_arith, code_run}
use Rattle.sc_compile.proofs.Common.{outcomes_simulate, program_nodes, program_tac, refl, run_of, same}
use Rattle.sc_compile.proofs.Common.{same_run, subst, suc, too_large, wrapped_code_agrees, wrapping, ℕ, ◌*◌, ◌≡◌}
use Rattle.sc_linker.proofs.Whole.{linked_images_hold}
use Rattle.sc_core_laws.specs.Prelude.{nobody}
use Rattle.sc_linker.specs.Prelude.{HasInterfaces}
use Rattle.sc_emit_run_laws.proofs.Whole.{simulates}
use Rattle.sc_compile.proofs.Given.{own_robust, robust}
use Rattle.sc_compile.proofs.Linkable.{is_linkable}
use Rattle.sc_compile.proofs.Linked.{is_linked}
use Rattle.sc_compile.proofs.NoTests.{no_tests}
use Rattle.sc_compile.proofs.Results.{gives_results, source_of}
use Rattle.sc_compile.proofs.Stop.{ends_by_event}
use Rattle.sc_compile.proofs.Tac.{MeansIn, function_rules, means_in_c, means_wrapped, tac_rules}

-- a run agrees with itself
itself : (run : Run) → AgreesInDepth run run
itself run = record {
  whole = same_run refl;
  behaviour = λ events. same refl;
  depth = λ events comp. omega arith;
}

module _ (program : ProgramTree) (typed : IsWellTyped program) (named : AreNamed program.interfaces)
    (words : GlobalsAreWords program.sections) (fits : too_large program ≡ None) (each : EachEmits program)
    (whole : All IsWhole (all_codes (program_tac program))) where
  abbrev image : ImageParts
  image = built_image program

  abbrev turn_pays : ℕ
  turn_pays = 24 * program_nodes program

  emitted : AreEmitted program
  emitted = record { functions = each; whole = whole }

  linkable : IsLinkable program (all_codes (program_tac program))
  linkable = is_linkable program typed fits each

  linked : IsLinked nobody (program_tac program) image turn_pays
      (addresses_at program (all_codes (program_tac program)))
  linked = is_linked program typed named words fits emitted

  built : IsBuilt nobody (program_tac program) image turn_pays
  built = record {
    rules = (tac_rules program typed).rules;
    functions = λ comp number f is.
        let from = source_of program typed comp number f is in
        subst IsFunction from.same
        (function_rules program typed comp from.section from.is number from.source from.its);
    results = gives_results program typed;
    addresses = addresses_at program (all_codes (program_tac program));
    linked = linked;
  }

  -- beside a run of the code that agrees with the one in which every operation gives a word
  emits_by : (arith' : Arith) → MeansIn arith' program (program_tac program) → (inputs : List ℕ) (turns : ℕ) →
      All IsWord inputs →
      AgreesInDepth (code_run arith' (program_tac program) inputs turns)
      (code_run wrapping (program_tac program) inputs turns) →
      SimulatesRun image inputs (turn_pays * suc turns) turns (run_of arith' program inputs turns)
  emits_by arith' means inputs turns are agrees =
      outcomes_simulate.along image inputs (turn_pays * suc turns) turns (run_of arith' program inputs turns)
      (code_run arith' (program_tac program) inputs turns)
      (means.meaning inputs turns)
      (outcomes_simulate.emits image inputs (turn_pays * suc turns) turns
      (code_run arith' (program_tac program) inputs turns)
      (code_run wrapping (program_tac program) inputs turns) linked.formed are agrees
      (simulates (program_tac program) image turn_pays built inputs turns are))

  all_by : (arith' : Arith) → ((inputs : List ℕ) (turns : ℕ) → All IsWord inputs →
      SimulatesRun image inputs (turn_pays * suc turns) turns (run_of arith' program inputs turns)) →
      ForwardSimulation arith' program image
  all_by arith' observed inputs turns events are = (observed inputs turns are).forward events

  emits_c : (inputs : List ℕ) (turns : ℕ) → All IsWord inputs →
      SimulatesRun image inputs (turn_pays * suc turns) turns (run_of c_arith program inputs turns)
  emits_c inputs turns are =
      emits_by c_arith (means_in_c program typed) inputs turns are
      (wrapped_code_agrees.meaning (program_tac program) inputs turns)

  interfaces : HasInterfaces program.interfaces image
  interfaces = linked_images_hold.interfaces program (all_codes (program_tac program))

  itself_robust : IsRobust program nobody image
  itself_robust = own_robust program typed (all_codes (program_tac program)) turn_pays built interfaces linked.formed

  pub compiled : IsCompiled program image
  compiled = record {
    well_formed = linked.formed;
    interfaces = interfaces;
    forward = all_by c_arith emits_c;
    wrapped = all_by wrapping (λ inputs turns are. emits_by wrapping (means_wrapped program typed) inputs turns are
        (itself (code_run wrapping (program_tac program) inputs turns)));
    backward = λ inputs steps events are. (emits_c inputs steps are).backward steps events (omega arith);
    no_tests = no_tests program typed linkable emitted;
    scripted = λ inputs steps events set are.
        itself_robust.scripted inputs steps events set (λ c none. absurd (cc)) are;
    allowed = itself_robust.allowed;
    trapped = λ inputs steps events are traps. (emits_c inputs steps are).trapped steps events (omega arith) traps;
    trapped_outside = itself_robust.trapped_outside;
    ends = ends_by_event image;
    robust = λ given other but.
        robust program typed (all_codes (program_tac program)) turn_pays built interfaces given other but;
  }
