-- What of a program is too large, by the name of its compartment.
use Rattle.sc_top.specs.Common.{CompileFault, Interfaces, ProgramTree, comp_name, too_large}
use Rattle.std.specs.Prelude.{Option, None, Some, option_and_then}
use Rattle.sc_compile.specs.declared.fault.CompileFault.TheVariants as compiling
use Rattle.sc_top.specs.declared.status.TooLarge.{TooLarge}
use Rattle.sc_top.specs.declared.status.TooLarge.TheVariants.{Code, Globals, Frame}

abbrev pub by_name : Interfaces → CompileFault → Option TooLarge
by_name interfaces (compiling.CodeTooLarge comp bound) = Some (Code (comp_name interfaces comp) bound)
by_name interfaces (compiling.DataTooLarge comp bytes) = Some (Globals (comp_name interfaces comp) bytes)
by_name interfaces (compiling.FrameTooLarge comp function bound) =
    Some (Frame (comp_name interfaces comp) function bound)
by_name interfaces compiling.OutOfMemory = None

-- what is too large first, if anything is
abbrev pub large_in : ProgramTree → Option TooLarge
large_in program = option_and_then (by_name program.interfaces) (too_large program)
