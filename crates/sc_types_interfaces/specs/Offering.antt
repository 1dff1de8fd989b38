-- Helping: the interfaces of sections by tables of places, in which a name is found at once.
use Rattle.sc_base.specs.Prelude.{most_params}
use Rattle.sc_types_interfaces.specs.Common.{Decl, ExportLine, ImportLine, SectionTable, SectionTree, Text, among}
use Rattle.sc_types_interfaces.specs.Common.{first_by_name, function_in, function_decls, is_environment, main_name}
use Rattle.sc_types_interfaces.specs.Common.{most_compartments, most_exports, number_or_zero, scalar_of, with_first}
use Rattle.std.specs.Prelude.{ℕ, suc, ◌≤◌, bytes_eq, List, [], ◌∷◌, All, length, map, min, take, slice_get, Option}
use Rattle.std.specs.Prelude.{Some, None, if◌then◌else◌}
use Rattle.std.specs.Option.{option_and_then, option_map}
use Rattle.sc_event.specs.declared.interface.Proto.{Proto}
use Rattle.sc_event.specs.declared.interface.Import.{Import}
use Rattle.sc_event.specs.declared.interface.Import.TheVariants as import
use Rattle.sc_event.specs.declared.interface.Interface.{Interface}
use Rattle.sc_ast.specs.declared.section.FunctionParam.{FunctionParam}
use Rattle.sc_ast.specs.declared.section.FunctionTree.{FunctionTree}
use Rattle.sc_types_interfaces.specs.Rules.{input_name}
use Rattle.sc_types_interfaces.specs.Tables.{offering_number}

-- The counts within which sections have interfaces.

abbrev pub HasFewExports : SectionTree → Type 0
HasFewExports section = length section.exports ≤ most_exports

abbrev pub HasFewParams : FunctionTree → Type 0
HasFewParams tree = length tree.head.params ≤ most_params

-- at most as many sections, exports and parameters as are allowed
pub record IsWithinCounts (text : List SectionTree) : Type 0 where
  pub sections : length text ≤ most_compartments
  pub exports : All HasFewExports text
  pub params : All (λ section. All HasFewParams (function_decls section.decls)) text

-- Places of names.

abbrev pub Placed : Type 0
Placed = List (Text × ℕ)

-- the places, after a name came at this place too, if it did
abbrev pub option_placed : Placed → Option Text → ℕ → Placed
option_placed known None place = known
option_placed known (Some name) place = with_first known name place

-- the places, after these came from place k on
abbrev pub all_placed : Placed → ℕ → List (Option Text) → Placed
all_placed known k [] = known
all_placed known k (name ∷ names) = all_placed (option_placed known name k) (suc k) names

abbrev pub export_name : ExportLine → Option Text
export_name line = Some line.name

abbrev pub function_name : Decl → Option Text
function_name decl = option_map (λ tree. tree.head.name) (function_in decl)

abbrev pub export_places : SectionTree → Placed
export_places section = all_placed [] 0 (map export_name section.exports)

abbrev pub function_places : List Decl → Placed
function_places decls = all_placed [] 0 (map function_name decls)

-- What a section offers and uses.

-- a function by its name
abbrev pub function_at : List Decl → Placed → Text → Option FunctionTree
function_at decls places name = option_and_then (λ place. option_and_then function_in (slice_get decls place))
    (first_by_name places name)

abbrev pub promised_by : Text → Option FunctionTree → Proto
promised_by name None = record { name = name; params = []; result = None }
promised_by name (Some tree) =
    record {
      name = name;
      params = take most_params (map {A = FunctionParam} (λ param. scalar_of param.ty) tree.head.params);
      result = option_map scalar_of tree.head.result;
    }

abbrev pub export_by : List Decl → Placed → ExportLine → Proto
export_by decls places line = promised_by line.name (function_at decls places line.name)

-- an export by its section's number, at most 31, and its place there, at most 65535
abbrev pub offered_by : List Placed → ImportLine → Option ℕ → Import
offered_by places line None = import.Function 0 0
offered_by places line (Some k) =
    import.Function (min k 31) (min (number_or_zero (option_and_then (λ found. first_by_name found line.name)
    (slice_get places k))) 65535)

abbrev pub import_by : List SectionTable → List Placed → (importer : ℕ) → ImportLine → Import
import_by tables places importer line =
    if is_environment line then (if bytes_eq line.name input_name then import.Input else import.Output)
    else offered_by places line (offering_number importer line 0 tables)

abbrev pub interface_by : List SectionTable → List Placed → (number : ℕ) → SectionTree → Interface
interface_by tables places number section =
    record {
      name = section.name;
      exports = map (export_by section.decls
          (function_places section.decls)) section.exports;
      imports = map (import_by tables places number) section.imports;
    }

abbrev pub interfaces_by : List SectionTable → List Placed → ℕ → List SectionTree → List Interface
interfaces_by tables places k [] = []
interfaces_by tables places k (section ∷ rest) = interface_by tables places k section ∷
    interfaces_by tables places (suc k) rest

-- the number of the first section that defines `main`, among those from number k on
abbrev pub main_by : ℕ → List SectionTable → ℕ
main_by k [] = 0
main_by k (table ∷ tables) = if among table.functions main_name then k else main_by (suc k) tables
