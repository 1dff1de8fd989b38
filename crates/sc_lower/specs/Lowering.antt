-- What lowering keeps.
use Rattle.sc_lower.specs.Common.{Arith, Entry, IsFunction, IsProgram, IsWellTyped, ProgramTree, Roles, TypedFunction}
use Rattle.sc_tac.specs.declared.program.TacTree.{TacTree}
use Rattle.sc_lower.specs.Common.{TypedSection, code_denotations, code_depth_by, code_run, denotations_of, depth_by}
use Rattle.sc_lower.specs.Common.{run_of, run_step, scripted_code_depth_by, scripted_code_run, scripted_depth_by}
use Rattle.sc_lower.specs.Common.{scripted_run_of, scripted_step, within}
use Rattle.sc_core_laws.specs.Prelude.{BodiesAgree, RunsAgree}
use Rattle.std.specs.Prelude.{◌≡◌, ℕ, Bool, List, Some, slice_get}
use Rattle.sc_event.specs.declared.event.Event.{Event}
use Rattle.sc_lower.specs.Programs.{lowered_function, lowered_program}

-- Code runs as a program does, in each arithmetic: its traces, its ends and the compartments that are blamed are the
-- same wherever a run is stopped, also where compartments perform their parts of a trace. Code has no lines, so these
-- may differ.
pub record MeansTheSame (program : ProgramTree) (code : TacTree) : Type 0 where
  pub meaning : (arith : Arith) (inputs : List ℕ) (turns : ℕ) →
      RunsAgree (run_of arith program inputs turns) (code_run arith code inputs turns)
  pub scripted : (arith : Arith) (inputs : List ℕ) (turns : ℕ) (set : ℕ → Bool) (trace : List Event) →
      RunsAgree (scripted_run_of arith program inputs turns set trace)
      (scripted_code_run arith code inputs turns set trace)
  -- the stack depths are the same
  pub depth : (arith : Arith) (inputs : List ℕ) (turns events comp : ℕ) →
      depth_by arith program inputs turns events comp ≡ code_depth_by arith code inputs turns events comp
  pub scripted_depth : (arith : Arith) (set : ℕ → Bool) (trace : List Event) (inputs : List ℕ)
      (turns events comp : ℕ) →
      scripted_depth_by arith program set trace inputs turns events comp
      ≡ scripted_code_depth_by arith code set trace inputs turns events comp
  -- entries lead to the same functions, and these do the same, whoever performs and however many calls may be open
  pub entered : (arith : Arith) (comp : ℕ) (entry : Entry) →
      (denotations_of arith program).entered comp entry ≡ (code_denotations arith code).entered comp entry
  pub bodies : (arith : Arith) (roles : Roles) (open_calls : ℕ) →
      let tree = denotations_of arith program in
      let does = code_denotations arith code in
      BodiesAgree (within (scripted_step tree roles (run_step tree)) open_calls)
      (within (scripted_step does roles (run_step does)) open_calls)

-- Code keeps what three-address code keeps. Of each function: its temporaries and variables are its own, each temporary
-- is assigned before it is read, there are at most as many as nodes, and the code weighs less than 24 for each node. Of
-- the program: its entries, its calls and the globals that it names.
pub record KeepsCodeRules (program : ProgramTree) (code : TacTree) : Type 0 where
  pub functions : (comp : ℕ) (section : TypedSection) → slice_get program.sections comp ≡ Some section →
      (number : ℕ) (f : TypedFunction) → slice_get section.functions number ≡ Some f →
      IsFunction (lowered_function program.interfaces comp section.structs f)
  pub programs : IsProgram code

-- The code of a well-typed program does both.
abbrev pub KeepsMeaning : Type 0
KeepsMeaning = (program : ProgramTree) → IsWellTyped program → MeansTheSame program (lowered_program program)

abbrev pub KeepsRules : Type 0
KeepsRules = (program : ProgramTree) → IsWellTyped program → KeepsCodeRules program (lowered_program program)
