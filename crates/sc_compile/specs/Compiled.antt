-- What an image does, and what its program means.
use Rattle.sc_core.specs.Prelude.{instrs_a_node}
use Rattle.sc_compile.specs.Common.{Arith, ImageParts, IsBlamed, IsWord, ProgramTree, StackIsFull, TypedSection}
use Rattle.sc_compile.specs.Common.{branches, c_arith, is_branch, is_ebreak, machine, meaning, meaning_by, nodes}
use Rattle.sc_compile.specs.Common.{run_of, scripted_meaning, total, wrapping}
use Rattle.sc_base.specs.Prelude.{IsPrefix}
use Rattle.sc_event.specs.Prelude.{legal}
use Rattle.sc_core_laws.specs.Prelude.{IsBlamedOutside, CompSet, IsSubset, nobody}
use Rattle.rv_code.specs.Prelude.{decoded}
use Rattle.sc_image.specs.Prelude.{IsButFor, IsWellFormed, code_in}
use Rattle.sc_linker.specs.Prelude.{HasInterfaces}
use Rattle.sc_compile.specs.Stop.{EndsByEvent, TrapsOutside, TrapsWhereBlamed}
use Rattle.std.specs.Prelude.{◌≡◌, ℕ, suc, ◌*◌, ◌<◌, ◌≤◌, ◌⊎◌, Bool, true, false, List, ◌++◌, length, map, All, Option}
use Rattle.std.specs.Prelude.{None, Some, slice_get}
use Rattle.std.specs.List.{AllZip, concat, count_by}
use Rattle.rv_code.specs.declared.instr.Instr.{Instr}
use Rattle.sc_event.specs.declared.event.Event.{Event}
use Rattle.sc_core.specs.declared.run.SourceRun.{SourceRun}
use Rattle.sc_core.specs.declared.section.TypedFunction.{TypedFunction}

-- the nodes of all functions
abbrev pub program_nodes : ProgramTree → ℕ
program_nodes program = total (map {A = TypedSection} (λ section. total (map nodes section.functions)) program.sections)

-- Within 24 steps a node for each turn, and for the start, the machine emits all that the program emits in this
-- arithmetic, wherever that run is stopped and however it ends. The one exception is a full stack.
abbrev pub ForwardSimulation : Arith → ProgramTree → ImageParts → Type 0
ForwardSimulation arith program image = (inputs : List ℕ) (turns events : ℕ) → All IsWord inputs →
    let run = machine image inputs (instrs_a_node * program_nodes program * suc turns) events in
    let meant = meaning_by arith program inputs turns events in
    IsPrefix meant.trace run.state.trace ⊎ StackIsFull image run (run_of arith program inputs turns) events

-- In any number of steps the machine emits nothing that the program doesn't emit in as many turns, unless the program
-- is blamed and the machine has emitted all of its trace.
abbrev pub BackwardSimulation : ProgramTree → ImageParts → Type 0
BackwardSimulation program image = (inputs : List ℕ) (steps events : ℕ) → All IsWord inputs →
    let observed = (machine image inputs steps events).state.trace in
    let meant = meaning program inputs steps events in
    IsPrefix observed meant.trace ⊎ (IsBlamed meant.end × IsPrefix meant.trace observed)

-- A run in which a set performs its part of a trace has this trace, or is blamed before its end, on one of `count`
-- compartments, outside of the set.
abbrev pub EmitsOrIsBlamed : (count : ℕ) → CompSet → List Event → SourceRun → Type 0
EmitsOrIsBlamed count set trace run =
    (run.trace ≡ trace) ⊎ (IsBlamedOutside count set run trace × (length run.trace < length trace))

abbrev pub test_word : (Instr → Bool) → ℕ → Bool
test_word test word = holds (decoded word) where
  holds : Option Instr → Bool
  holds None = false
  holds (Some instr) = test instr

-- a function's code has no more branches than the function has `if`, `while`, `for`, `&&` and `||`
abbrev pub HasFewBranches : TypedFunction → List ℕ → Type 0
HasFewBranches f code = count_by (test_word is_branch) code ≤ branches f

-- Each word of a section's code is an instruction, and none is EBREAK. There is no branch but in the codes of its
-- functions, which stand one after the other, and none is left there for a test of undefined behaviour.
pub record HasNoTests (section : TypedSection) (code : List ℕ) : Type 0 where
  pub instructions : All (λ word. test_word (λ instr. true) word ≡ true) code
  pub no_ebreak : All (λ word. test_word is_ebreak word ≡ false) code
  pub entries : List ℕ
  pub functions : List (List ℕ)
  pub whole : code ≡ entries ++ concat functions
  pub entered : All (λ word. test_word is_branch word ≡ false) entries
  pub branches : AllZip HasFewBranches section.functions functions

-- What an image does of which some compartments are given, with any code, where all others are the program's.
pub record IsRobust (program : ProgramTree) (given : CompSet) (image : ImageParts) : Type 0 where
  pub interfaces : HasInterfaces program.interfaces image
  -- Where a set of compartments that includes the given ones performs its part of the machine's trace, the run of the
  -- program with as many turns as there were steps has the same trace, or a compartment outside of the set is blamed
  -- before.
  pub scripted : (inputs : List ℕ) (steps events : ℕ) (set : CompSet) → IsSubset given set → All IsWord inputs →
      let observed = (machine image inputs steps events).state.trace in
      EmitsOrIsBlamed (length program.sections) set observed
      (scripted_meaning program set observed inputs steps (length observed))
  -- the program's interfaces allow the machine's trace
  pub allowed : (inputs : List ℕ) (steps events : ℕ) → All IsWord inputs →
      legal program.interfaces (machine image inputs steps events).state.trace ≡ true
  -- where a trap stops the machine outside of a set that includes the given compartments and performs
  pub trapped_outside : TrapsOutside program image given

pub record IsCompiled (program : ProgramTree) (image : ImageParts) : Type 0 where
  -- so that the laws of isolation hold of it
  pub well_formed : IsWellFormed image
  -- by which its compartments call one another, and runs are reported
  pub interfaces : HasInterfaces program.interfaces image
  pub forward : ForwardSimulation c_arith program image
  -- after undefined arithmetic the code goes on with what the machine's operations give
  pub wrapped : ForwardSimulation wrapping program image
  pub backward : BackwardSimulation program image
  pub no_tests : (comp : ℕ) (section : TypedSection) → slice_get program.sections comp ≡ Some section →
      HasNoTests section (code_in image comp)
  -- where a set of compartments performs its part of the machine's trace, the run with as many turns as there were
  -- steps has the same trace, or a compartment outside of the set is blamed before
  pub scripted : (inputs : List ℕ) (steps events : ℕ) (set : CompSet) → All IsWord inputs →
      let observed = (machine image inputs steps events).state.trace in
      EmitsOrIsBlamed (length program.sections) set observed
      (scripted_meaning program set observed inputs steps (length observed))
  -- the program's interfaces allow the machine's trace
  pub allowed : (inputs : List ℕ) (steps events : ℕ) → All IsWord inputs →
      legal program.interfaces (machine image inputs steps events).state.trace ≡ true
  -- where a trap stops the machine
  pub trapped : TrapsWhereBlamed program image
  pub trapped_outside : TrapsOutside program image nobody
  pub ends : EndsByEvent image
  -- in place of some compartments any code may stand
  pub robust : (given : CompSet) (other : ImageParts) → IsButFor given image other → IsRobust program given other
