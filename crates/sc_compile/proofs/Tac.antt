-- The three-address code of a program, lowered and optimised: it keeps the rules, means the same, and its sections and
-- functions are those of the source.
use Rattle.sc_compile.proofs.Common.{Arith, Entry, Event, IsFunction, IsWellTyped, List, None, Option, ProgramTree}
use Rattle.sc_compile.proofs.Common.{Roles, Run, Some, TacFnTree, TacSection, TacTree, TypedFunction, TypedSection}
use Rattle.sc_compile.proofs.Common.{ap, c_arith, code_run, function_tac, keeps_meaning, keeps_rules}
use Rattle.sc_compile.proofs.Common.{lowered_function, lowered_program, lowered_section, map, option_map, program_tac}
use Rattle.sc_compile.proofs.Common.{refl, run_of, scripted_code_run, scripted_run_of, section_tac, slice_get}
use Rattle.sc_compile.proofs.Common.{slice_get-map, subst, sym, wrapping, ℕ, ◌∙◌, ◌≡◌, ◌≤◌}
use Rattle.std.proofs.Common.{Bool}
use Rattle.sc_core.specs.Prelude.{denotations_of, run_step, scripted_step, within}
use Rattle.sc_core_laws.specs.Agreement.{BehavioursAgree}
use Rattle.sc_core_laws.specs.Prelude.{BodiesAgree, RunsAgree}
use Rattle.sc_core.specs.declared.run.SourceRun.{SourceRun}
use Rattle.sc_tac.specs.Prelude.{branches as code_ifs, code_denotations}
use Rattle.sc_lower.proofs.Entries.{first_at}
use Rattle.sc_lower.specs.Prelude.{MeansTheSame}
use Rattle.sc_opt.specs.Prelude.{KeepsRules, RunsAlike, optimised_function, optimised_section}
use Rattle.sc_opt.proofs.Passes.{fewer_branches, optimised_keeps_rules}
use Rattle.sc_opt.proofs.Promises.{optimiser_keeps_meaning, optimiser_keeps_rules}
use Rattle.sc_compile.proofs.Lists.{map_twice, mapped}

-- SECTIONS AND FUNCTIONS
pub tac_at : (program : ProgramTree) (comp : ℕ) → slice_get (program_tac program).sections comp
    ≡ option_map (section_tac program.interfaces comp) (slice_get program.sections comp)
tac_at program comp =
    slice_get-map optimised_section (lowered_program program).sections comp
    ∙ ap (option_map optimised_section) (first_at program.interfaces program.sections comp)
    ∙ twice (slice_get program.sections comp) where
      twice : (o : Option TypedSection) →
          option_map optimised_section (option_map (lowered_section program.interfaces comp) o)
          ≡ option_map (section_tac program.interfaces comp) o
      twice None = refl
      twice (Some section) = refl

pub functions_are : (program : ProgramTree) (comp : ℕ) (section : TypedSection) →
    (section_tac program.interfaces comp section).functions
    ≡ map (function_tac program.interfaces comp section.structs) section.functions
functions_are program comp section =
    map_twice optimised_function (lowered_function program.interfaces comp section.structs) section.functions

-- RULES
module _ (program : ProgramTree) (typed : IsWellTyped program) where
  lowered_rules : KeepsRules (lowered_program program)
  lowered_rules = record {
    rules = (keeps_rules program typed).programs;
    functions = λ comp number section f is at. by comp number section f (slice_get program.sections comp) refl is at;
  } where
    by : (comp number : ℕ) (section : TacSection) (f : TacFnTree) (o : Option TypedSection) →
        slice_get program.sections comp ≡ o → slice_get (lowered_program program).sections comp ≡ Some section →
        slice_get section.functions number ≡ Some f → IsFunction f
    by comp number section f None there is at =
        let never : None ≡ Some section = sym (ap (option_map (lowered_section program.interfaces comp)) there)
        ∙ sym (first_at program.interfaces program.sections comp) ∙ is in absurd (cc never)
    by comp number section f (Some source) there is at =
        let both : Some (lowered_section program.interfaces comp source) ≡ Some section =
        sym (ap (option_map (lowered_section program.interfaces comp)) there)
        ∙ sym (first_at program.interfaces program.sections comp) ∙ is in
        let same : lowered_section program.interfaces comp source ≡ section = cc both in
        let found = mapped (lowered_function program.interfaces comp source.structs) source.functions number f
        (ap (λ (s : TacSection). slice_get s.functions number) same ∙ at) in
        subst IsFunction found.1.1 ((keeps_rules program typed).functions comp source there number found.0 found.1.0)

  pub tac_rules : KeepsRules (program_tac program)
  tac_rules = optimiser_keeps_rules (lowered_program program) lowered_rules

  pub function_rules : (comp : ℕ) (section : TypedSection) → slice_get program.sections comp ≡ Some section →
      (number : ℕ) (f : TypedFunction) → slice_get section.functions number ≡ Some f →
      IsFunction (function_tac program.interfaces comp section.structs f)
  function_rules comp section is number f its =
      optimised_keeps_rules (lowered_function program.interfaces comp section.structs f)
      ((keeps_rules program typed).functions comp section is number f its)

-- MEANING
behaviours_along : (a b c : SourceRun) → BehavioursAgree a b → BehavioursAgree b c → BehavioursAgree a c
behaviours_along a b c h k = record { trace = h.trace ∙ k.trace; end = h.end ∙ k.end }

runs_along : (a b c : Run) → RunsAgree a b → RunsAgree b c → RunsAgree a c
runs_along a b c h k = record {
  behaviour = λ events. behaviours_along _ _ _ (h.behaviour events) (k.behaviour events);
  whole = behaviours_along _ _ _ h.whole k.whole;
  frames = h.frames ∙ k.frames;
}

-- code means what a program does: runs, entries and bodies agree, also where compartments perform
pub record MeansIn (arith : Arith) (program : ProgramTree) (code : TacTree) : Type 0 where
  pub meaning : (inputs : List ℕ) (turns : ℕ) →
      RunsAgree (run_of arith program inputs turns) (code_run arith code inputs turns)
  pub scripted : (inputs : List ℕ) (turns : ℕ) (set : ℕ → Bool) (trace : List Event) →
      RunsAgree (scripted_run_of arith program inputs turns set trace)
      (scripted_code_run arith code inputs turns set trace)
  pub entered : (comp : ℕ) (entry : Entry) →
      (denotations_of arith program).entered comp entry ≡ (code_denotations arith code).entered comp entry
  pub bodies : (roles : Roles) (open_calls : ℕ) →
      let tree = denotations_of arith program in
      let does = code_denotations arith code in
      BodiesAgree (within (scripted_step tree roles (run_step tree)) open_calls)
      (within (scripted_step does roles (run_step does)) open_calls)

along : (arith : Arith) (program : ProgramTree) (code other : TacTree) → MeansTheSame program code →
    RunsAlike arith code other → MeansIn arith program other
along arith program code other lowers keeps = record {
  meaning = λ inputs turns. runs_along _ _ _ (lowers.meaning arith inputs turns) (keeps.meaning inputs turns);
  scripted = λ inputs turns set trace.
      runs_along _ _ _ (lowers.scripted arith inputs turns set trace) (keeps.scripted set trace inputs turns);
  entered = λ comp entry. lowers.entered arith comp entry ∙ keeps.entered comp entry;
  bodies = λ roles open_calls number here s. record {
    same = (lowers.bodies arith roles open_calls number here s).same
        ∙ (keeps.bodies roles open_calls number here s).same;
  };
}

module _ (program : ProgramTree) (typed : IsWellTyped program) where
  pub means_in_c : MeansIn c_arith program (program_tac program)
  means_in_c = along c_arith program (lowered_program program) (program_tac program) (keeps_meaning program typed)
      (optimiser_keeps_meaning.of_c (lowered_program program) (lowered_rules program typed))

  pub means_wrapped : MeansIn wrapping program (program_tac program)
  means_wrapped = along wrapping program (lowered_program program) (program_tac program) (keeps_meaning program typed)
      (optimiser_keeps_meaning.of_wrapping (lowered_program program) (lowered_rules program typed))

-- BRANCHES
pub tac_branches : (f : TacFnTree) → code_ifs (optimised_function f).body ≤ code_ifs f.body
tac_branches f = fewer_branches f.body
