-- The lines that list the interfaces of a program.
use Rattle.sc_event.specs.Prelude.{comp_name, export_at, spaced_names}
use Rattle.std.specs.Prelude.{ℕ, List, ◌++◌, flat_map, map, codes, Option, Some, None}
use Rattle.std.specs.Option.{option_map_or}
use Rattle.sc_event.specs.declared.interface.Scalar.{Scalar}
use Rattle.sc_event.specs.declared.interface.Scalar.TheVariants.{Int, Unsigned}
use Rattle.sc_event.specs.declared.interface.Proto.{Proto}
use Rattle.sc_event.specs.declared.interface.Import.{Import}
use Rattle.sc_event.specs.declared.interface.Import.TheVariants.{Input, Output, Function}
use Rattle.sc_event.specs.declared.interface.Interface.{Interface}
use Rattle.sc_event.specs.declared.interface.Interfaces.{Interfaces}

abbrev pub scalar_word : Scalar → List ℕ
scalar_word Int = codes "int"
scalar_word Unsigned = codes "unsigned"

abbrev pub result_word : Option Scalar → List ℕ
result_word None = codes "void"
result_word (Some scalar) = scalar_word scalar

-- the last words of a line: types of parameters
abbrev pub params_end : List Scalar → List ℕ
params_end params = spaced_names (map scalar_word params) ++ codes "\n"

-- the last words of a line: the types of a function's result and parameters
abbrev pub types_end : Proto → List ℕ
types_end proto = codes " " ++ (result_word proto.result ++ params_end proto.params)

-- the last words of a line: a function's name and types
abbrev pub function_end : Proto → List ℕ
function_end proto = codes " " ++ (proto.name ++ types_end proto)

abbrev pub export_report : Proto → List ℕ
export_report proto = codes "export" ++ function_end proto

-- an import of a function that a compartment exports
abbrev pub function_report : (comp : List ℕ) → Proto → List ℕ
function_report comp proto = codes "import " ++ (comp ++ function_end proto)

-- the environment offers `int input(void)` and `void output(int)`
abbrev pub import_report : Interfaces → Import → List ℕ
import_report interfaces Input = codes "import Env input int\n"
import_report interfaces Output = codes "import Env output void int\n"
import_report interfaces (Function comp index) = option_map_or (function_report (comp_name interfaces comp))
    (export_at interfaces comp index) (codes "")

abbrev pub comp_line : List ℕ → List ℕ
comp_line name = codes "compartment " ++ (name ++ codes "\n")

-- a compartment, what it exports and what it imports
abbrev pub interface_text : Interfaces → Interface → List ℕ
interface_text interfaces comp = comp_line comp.name ++
    (flat_map export_report comp.exports ++ flat_map (import_report interfaces) comp.imports)

abbrev pub main_line : List ℕ → List ℕ
main_line name = codes "main " ++ (name ++ codes "\n")

-- all compartments, and the one that defines `main`
abbrev pub check_text : Interfaces → List ℕ
check_text interfaces = flat_map (interface_text interfaces) interfaces.comps ++
    main_line (comp_name interfaces interfaces.main)
