-- Helping: what the passes give of a program's functions.
use Rattle.sc_core.specs.Prelude.{bytes_a_node, most_code, most_frame}
use Rattle.sc_compile.specs.Common.{IsEmitted, IsWhole, ProgramTree, TacFnTree, TacSection, assigned, frame_bound}
use Rattle.sc_compile.specs.Common.{frame_of, functions_in, intervals_of}
use Rattle.std.specs.Prelude.{◌≡◌, ◌≤◌, ◌*◌, ℕ, All, List, Some, slice_get}
use Rattle.sc_core.specs.declared.section.TypedFunction.{TypedFunction}
use Rattle.sc_core.specs.declared.section.TypedStruct.{TypedStruct}
use Rattle.sc_event.specs.declared.interface.Interfaces.{Interfaces}
use Rattle.sc_lower.specs.Prelude.{IsLowerable}
use Rattle.sc_tac.specs.declared.machine_code.CodeTree.{CodeTree}
use Rattle.sc_compile.specs.Image.{all_codes, function_code, function_tac, program_tac}

-- a function that isn't too large
pub record Fits (f : TacFnTree) : Type 0 where
  pub code : bytes_a_node * f.nodes ≤ most_code
  pub frame : frame_bound f.objects f.nodes ≤ most_frame

-- the code of a function keeps what emission promises
abbrev pub EmitsSo : TacFnTree → Type 0
EmitsSo f = IsEmitted f (frame_of f.objects (assigned (intervals_of f))) (function_code f)

abbrev pub EmitsAll : TacSection → Type 0
EmitsAll section = All EmitsSo section.functions

module _ (interfaces : Interfaces) (comp : ℕ) (structs : List TypedStruct) where
  -- a function of a section, from its source: its code, what emission promises of it, and what it takes
  abbrev pub code_from : TypedFunction → CodeTree
  code_from f = function_code (function_tac interfaces comp structs f)

  abbrev pub EmitsFrom : TypedFunction → Type 0
  EmitsFrom f = EmitsSo (function_tac interfaces comp structs f)

  pub record CanBeCompiled (f : TypedFunction) : Type 0 where
    pub lowerable : IsLowerable interfaces comp structs f
    pub fits : Fits (function_tac interfaces comp structs f)

-- that of each function of a program does
abbrev pub EachEmits : ProgramTree → Type 0
EachEmits program = (comp number : ℕ) (f : TacFnTree) →
    slice_get (functions_in (program_tac program) comp) number ≡ Some f → EmitsSo f

-- and consists of instructions that there are
pub record AreEmitted (program : ProgramTree) : Type 0 where
  pub functions : EachEmits program
  pub whole : All IsWhole (all_codes (program_tac program))
