-- What is promised of the optimiser.
use Rattle.std.specs.Prelude.{◌≡◌, ℕ, ◌≤◌, Bool, true, List, [], ◌∷◌, map, Some, slice_get}
use Rattle.sc_base.specs.declared.op.BinaryOp.TheVariants.{Add}
use Rattle.sc_event.specs.declared.event.Event.{Event}
use Rattle.sc_event.specs.declared.interface.Scalar.TheVariants.{Int}
use Rattle.sc_event.specs.declared.row.Entry.{Entry}
use Rattle.sc_core.specs.Prelude.{Arith, Roles, c_arith, run_step, scripted_step, within, wrapping}
use Rattle.sc_core_laws.specs.Prelude.{BodiesAgree, Meets, RunsAgree}
use Rattle.sc_tac.specs.Prelude.{IsFunction, IsProgram, branches, code_denotations, code_run, scripted_code_run}
use Rattle.sc_tac.specs.declared.function.TacFnTree.{TacFnTree}
use Rattle.sc_tac.specs.declared.program.TacSection.{TacSection}
use Rattle.sc_tac.specs.declared.program.TacTree.{TacTree}
use Rattle.sc_tac.specs.declared.stmt.Constant.TheVariants.{Word}
use Rattle.sc_tac.specs.declared.stmt.TacOp.TheVariants.{Binary}
use Rattle.sc_tac.specs.declared.stmt.TacStmt.{TacStmt, TacStmt-F, roll-TacStmt}
use Rattle.sc_tac.specs.declared.stmt.TacStmt.TheOpen as tac
use Rattle.sc_opt.specs.Pass.{lean, one_pass}
use Rattle.sc_opt.specs.Optimised.{optimised_program, statements}

-- Q of each function of a program
abbrev pub EachFunction : (TacFnTree → Type 0) → TacTree → Type 0
EachFunction Q program = (comp number : ℕ) (section : TacSection) (f : TacFnTree) →
    slice_get program.sections comp ≡ Some section → slice_get section.functions number ≡ Some f → Q f

-- the rules of programs, and those of functions of each function
pub record KeepsRules (program : TacTree) : Type 0 where
  pub rules : IsProgram program
  pub functions : EachFunction IsFunction program

-- the same trace, the same kind of end and blamed compartment, and the same frames, so the same stack depths: in the
-- meaning and where compartments perform their parts of a trace, and in what functions do, whoever performs what
pub record RunsAlike (arith : Arith) (program other : TacTree) : Type 0 where
  pub meaning : (inputs : List ℕ) (turns : ℕ) →
      RunsAgree (code_run arith program inputs turns) (code_run arith other inputs turns)
  pub scripted : (set : ℕ → Bool) (trace : List Event) (inputs : List ℕ) (turns : ℕ) →
      RunsAgree (scripted_code_run arith program inputs turns set trace)
      (scripted_code_run arith other inputs turns set trace)
  -- entries lead to the same functions
  pub entered : (comp : ℕ) (entry : Entry) →
      (code_denotations arith program).entered comp entry ≡ (code_denotations arith other).entered comp entry
  pub bodies : (roles : Roles) (open_calls : ℕ) → BodiesAgree
      (within (scripted_step (code_denotations arith program) roles (run_step (code_denotations arith program)))
      open_calls)
      (within (scripted_step (code_denotations arith other) roles (run_step (code_denotations arith other))) open_calls)

pub record OptimiserKeepsMeaning : Type 0 where
  pub of_c : (program : TacTree) → KeepsRules program → RunsAlike c_arith program (optimised_program program)
  pub of_wrapping : (program : TacTree) → KeepsRules program → RunsAlike wrapping program (optimised_program program)

-- each function of the result is lean
abbrev pub ResultsAreLean : Type 0
ResultsAreLean = (program : TacTree) → KeepsRules program →
    EachFunction (λ f. lean f.body ≡ true) (optimised_program program)

-- what is kept of a function
pub record KeepsFunction (f g : TacFnTree) : Type 0 where
  pub comp : g.comp ≡ f.comp
  pub name : g.name ≡ f.name
  pub entry : g.entry ≡ f.entry
  pub params : g.params ≡ f.params
  pub result : g.result ≡ f.result
  pub temps : g.temps ≡ f.temps
  pub objects : g.objects ≡ f.objects
  pub nodes : g.nodes ≡ f.nodes
  pub statements : statements g.body ≤ statements f.body
  pub branches : branches g.body ≤ branches f.body

-- of a section: the functions in their order
pub record KeepsSection (section other : TacSection) : Type 0 where
  pub structs : other.structs ≡ section.structs
  pub globals : other.globals ≡ section.globals
  pub functions : (number : ℕ) →
      Meets KeepsFunction (slice_get section.functions number) (slice_get other.functions number)

-- and of a program
pub record KeepsShape (program other : TacTree) : Type 0 where
  pub interfaces : other.interfaces ≡ program.interfaces
  pub sections : (comp : ℕ) → Meets KeepsSection (slice_get program.sections comp) (slice_get other.sections comp)

abbrev pub OptimiserKeepsShape : Type 0
OptimiserKeepsShape = (program : TacTree) → KeepsShape program (optimised_program program)

-- and the rules
abbrev pub OptimiserKeepsRules : Type 0
OptimiserKeepsRules = (program : TacTree) → KeepsRules program → KeepsRules (optimised_program program)

-- a chain of operators on constants goes in one pass: 1 + 2 + 3 + 4
abbrev pub sum : ℕ → ℕ → ℕ → TacStmt-F TacStmt
sum dest left right = tac.Op dest (Binary Add Int) left (Some right)

abbrev pub chain : List (TacStmt-F TacStmt)
chain = tac.Const 0 (Word 1) ∷ tac.Const 1 (Word 2) ∷ sum 2 0 1 ∷ tac.Const 3 (Word 3) ∷ sum 4 2 3
    ∷ tac.Const 5 (Word 4) ∷ sum 6 4 5 ∷ tac.Output 6 ∷ []

abbrev pub ChainGoesAtOnce : Type 0
ChainGoesAtOnce = one_pass (map roll-TacStmt chain) ≡ map roll-TacStmt (tac.Const 6 (Word 10) ∷ tac.Output 6 ∷ [])
