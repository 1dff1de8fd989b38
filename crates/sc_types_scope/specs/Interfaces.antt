-- What the sections of a text offer and use, as the interfaces of its program.
pub use Rattle.sc_base.specs.Identifier.{main_name}
use Rattle.sc_types_scope.specs.Common.{BaseTree, ExportLine, FunctionTree, HeadTree, ImportLine, ParamTree}
use Rattle.sc_types_scope.specs.Common.{SectionTree, Text, TypeName, all_hold, head_of, number_by_name}
use Rattle.std.specs.Prelude.{ℕ, zero, suc, Bool, not, ◌==◌, bytes_eq, codes, List, [], ◌∷◌, map, Option, Some, None}
use Rattle.std.specs.Prelude.{if◌then◌else◌, unwrap_or}
use Rattle.std.specs.Option.{option_map, option_map_or}
use Rattle.sc_event.specs.declared.interface.Scalar.{Scalar}
use Rattle.sc_event.specs.declared.interface.Scalar.TheVariants as scalar
use Rattle.sc_event.specs.declared.interface.Proto.{Proto}
use Rattle.sc_event.specs.declared.interface.Import.{Import}
use Rattle.sc_event.specs.declared.interface.Import.TheVariants as import
use Rattle.sc_event.specs.declared.interface.Interface.{Interface}
use Rattle.sc_event.specs.declared.interface.Interfaces.{Interfaces}
use Rattle.sc_ast.specs.declared.types.BaseTree.TheVariants as base
use Rattle.sc_types_scope.specs.Declarations.{among, function_decls, function_names, export_names}

abbrev pub number_or_zero : Option ℕ → ℕ
number_or_zero number = unwrap_or number 0

-- the environment offers `input` and `output`
abbrev pub environment : Text
environment = codes "Env"

abbrev pub is_environment : ImportLine → Bool
is_environment line = bytes_eq line.comp environment

-- whether a section, of number k, offers what the section of number `importer` imports with this line
abbrev pub offers : (importer : ℕ) → ImportLine → ℕ → SectionTree → Bool
offers importer line k section =
    all_hold (
    bytes_eq section.name line.comp ∷
    not (k == importer) ∷
    among (export_names section) line.name ∷ []
    )

-- the first section that does, among those from number k on
abbrev pub offering : (importer : ℕ) → ImportLine → ℕ → List SectionTree → Option (ℕ × SectionTree)
offering importer line k [] = None
offering importer line k (section ∷ sections) =
    if offers importer line k section then Some (k, section) else offering importer line (suc k) sections

-- the function that an import line of a section names: an export, by its section's number and its place there
abbrev pub offered : ImportLine → Option (ℕ × SectionTree) → Import
offered line None = import.Function 0 0
offered line (Some (k, section)) = import.Function k (number_or_zero (number_by_name (export_names section) line.name))

abbrev pub import_of : List SectionTree → (importer : ℕ) → ImportLine → Import
import_of sections importer line =
    if is_environment line then (if bytes_eq line.name (codes "input") then import.Input else import.Output)
    else offered line (offering importer line 0 sections)

-- a type of a value that crosses
abbrev pub base_scalar : BaseTree → Scalar
base_scalar base.Unsigned = scalar.Unsigned
base_scalar _ = scalar.Int

abbrev pub scalar_of : TypeName → Scalar
scalar_of ty = base_scalar ty.base

-- the first function of a name
abbrev pub function_named : Text → List FunctionTree → Option FunctionTree
function_named name [] = None
function_named name (tree ∷ trees) = if bytes_eq tree.head.name name then Some tree else function_named name trees

-- what an export promises, by the function's definition
abbrev pub promised : Text → Option FunctionTree → Proto
promised name None = record { name = name; params = []; result = None }
promised name (Some tree) =
    record {
      name = name;
      params = map (λ param. scalar_of param.ty) tree.head.params;
      result = option_map scalar_of tree.head.result;
    }

abbrev pub proto_of : SectionTree → ExportLine → Proto
proto_of section line = promised line.name (function_named line.name (function_decls section.decls))

abbrev pub interface_of : List SectionTree → (number : ℕ) → SectionTree → Interface
interface_of sections number section =
    record {
      name = section.name;
      exports = map (proto_of section) section.exports;
      imports = map (import_of sections number) section.imports;
    }

-- those of the sections from number k on
abbrev pub interfaces_from : List SectionTree → ℕ → List SectionTree → List Interface
interfaces_from sections k [] = []
interfaces_from sections k (section ∷ rest) = interface_of sections k section ∷ interfaces_from sections (suc k) rest

abbrev pub defines_main : SectionTree → Bool
defines_main section = among (function_names section.decls) main_name

-- the first of the sections from number k on that defines `main`
abbrev pub main_from : ℕ → List SectionTree → ℕ
main_from k [] = 0
main_from k (section ∷ sections) = if defines_main section then k else main_from (suc k) sections

abbrev pub interfaces_of : List SectionTree → Interfaces
interfaces_of sections = record { comps = interfaces_from sections 0 sections; main = main_from 0 sections }
