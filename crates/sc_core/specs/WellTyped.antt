-- What every program keeps: its types, its names where they matter, its interfaces and its counts.
use Rattle.sc_core.specs.Common.{Import, Interfaces, Proto, all_hold, export_at, most_compartments, most_exports}
use Rattle.sc_core.specs.Common.{most_height, most_params}
use Rattle.std.specs.Prelude.{ℕ, zero, suc, ◌+◌, Bool, true, false, not, ◌&&◌, ◌==◌, nat_lt, nat_le, IsTrue, List, []}
use Rattle.std.specs.Prelude.{◌∷◌, ◌++◌, map, length, take, codes, bytes_eq, slice_get, Option, None, Some, is_some}
use Rattle.std.specs.List.{list_any, list_all}
use Rattle.sc_event.specs.declared.interface.Interface.{Interface}
use Rattle.sc_event.specs.declared.interface.Import.TheVariants as import
use Rattle.sc_core.specs.declared.ty.Ty.{Ty}
use Rattle.sc_core.specs.declared.ty.Ty.TheVariants as ty
use Rattle.sc_core.specs.declared.ty.BaseTy.{BaseTy}
use Rattle.sc_core.specs.declared.ty.BaseTy.TheVariants as base
use Rattle.sc_core.specs.declared.expr.TypedExpr.{TypedExpr}
use Rattle.sc_core.specs.declared.stmt.TypedStmt.{TypedStmt}
use Rattle.sc_core.specs.declared.section.TypedStruct.{TypedStruct}
use Rattle.sc_core.specs.declared.section.TypedMember.{TypedMember}
use Rattle.sc_core.specs.declared.section.TypedGlobal.{TypedGlobal}
use Rattle.sc_core.specs.declared.section.TypedParam.{TypedParam}
use Rattle.sc_core.specs.declared.section.TypedLocal.{TypedLocal}
use Rattle.sc_core.specs.declared.section.TypedFunction.{TypedFunction}
use Rattle.sc_core.specs.declared.section.TypedSection.{TypedSection}
use Rattle.sc_core.specs.declared.program.ProgramTree.{ProgramTree}
use Rattle.sc_core.specs.Value.{truth}
use Rattle.sc_core.specs.Types.{is_array, cells_of, most_cells}
use Rattle.sc_core.specs.Sizes.{nodes, total}
use Rattle.sc_core.specs.Height.{expr_height, stmt_height}
use Rattle.sc_core.specs.Meaning.{main_name}
use Rattle.sc_core.specs.Typing.{Scope, Callable, Signature, signature_of, proto_signature, same_ty, body_fits}
use Rattle.sc_core.specs.Typing.{init_fits}

-- nodes of a function
abbrev pub most_nodes : ℕ
most_nodes = 16777216

-- no name stands twice
abbrev pub are_distinct : List (List ℕ) → Bool
are_distinct [] = true
are_distinct (name ∷ names) = not (list_any (bytes_eq name) names) && are_distinct names

abbrev pub base_within : ℕ → BaseTy → Bool
base_within count (base.Struct n) = nat_lt n count
base_within count _ = true

abbrev pub starred_within : ℕ → ℕ → ℕ → BaseTy → Bool
starred_within whole pointed zero base = base_within whole base
starred_within whole pointed (suc stars) base = base_within pointed base

-- a type over the first structs: over `whole` of them by value, over `pointed` of them after a `*` (C11 6.7.2.1p3)
abbrev pub type_within : ℕ → ℕ → Ty → Bool
type_within whole pointed (ty.Struct n) = nat_lt n whole
type_within whole pointed (ty.Pointer stars base) = nat_le 1 stars && base_within pointed base
type_within whole pointed (ty.Array stars base length) = nat_le 1 length && starred_within whole pointed stars base
type_within whole pointed _ = true

-- members stand one after another, from an offset to the end, and each has a type over the structs before
abbrev pub members_fit : List TypedStruct → ℕ → ℕ → List TypedMember → ℕ → Bool
members_fit structs k offset [] end = offset == end
members_fit structs k offset (m ∷ members) end =
    all_hold (
    (m.offset == offset) ∷
    type_within k (suc k) m.ty ∷
    members_fit structs k (offset + cells_of structs m.ty) members end ∷ []
    )

-- a struct has a member, holds only structs that stand before it, points to these and itself, and has few cells
abbrev pub struct_fits : List TypedStruct → ℕ → TypedStruct → Bool
struct_fits structs k s =
    all_hold (
    nat_le 1 (length s.members) ∷
    members_fit structs k 0 s.members s.cells ∷
    nat_le s.cells most_cells ∷ []
    )

abbrev pub structs_fit : List TypedStruct → ℕ → List TypedStruct → Bool
structs_fit structs k [] = true
structs_fit structs k (s ∷ rest) = struct_fits structs k s && structs_fit structs (suc k) rest

abbrev pub variable_fits : List TypedStruct → Ty → Bool
variable_fits structs t =
    type_within (length structs) (length structs) t && nat_le (cells_of structs t) most_cells

-- what a global may begin with (C11 6.7.9p11, p14)
abbrev pub words_fit : Ty → List ℕ → Bool
words_fit ty.Int words = nat_le (length words) 1
words_fit ty.Unsigned words = nat_le (length words) 1
words_fit (ty.Pointer stars base) words = nat_le (length words) 1 && list_all (λ w. w == 0) words
words_fit (ty.Array zero base.Int count) words = nat_le (length words) count
words_fit (ty.Array zero base.Unsigned count) words = nat_le (length words) count
words_fit _ words = nat_le (length words) 0

abbrev pub global_fits : List TypedStruct → TypedGlobal → Bool
global_fits structs g = variable_fits structs g.ty && words_fit g.ty g.init

abbrev pub scope_of : TypedSection → TypedFunction → Scope
scope_of section f =
    record {
      structs = section.structs;
      globals = map {A = TypedGlobal} (λ g. g.ty) section.globals;
      params = map {A = TypedParam} (λ p. p.ty) f.params;
      locals = map {A = TypedLocal} (λ l. l.ty) f.locals;
    }

-- a type of a parameter or of a result is no array
abbrev pub passed_fits : List TypedStruct → Ty → Bool
passed_fits structs t = not (is_array t) && variable_fits structs t

abbrev pub result_fits : List TypedStruct → Option Ty → Bool
result_fits structs None = true
result_fits structs (Some t) = passed_fits structs t

abbrev pub init_height : Option TypedExpr → ℕ
init_height None = 0
init_height (Some e) = expr_height e

-- a local's type and its initialiser
abbrev pub local_fits : Scope → TypedLocal → Bool
local_fits scope l =
    all_hold (
    variable_fits scope.structs l.ty ∷
    init_fits scope l.ty l.init ∷
    nat_le (init_height l.init) most_height ∷ []
    )

abbrev pub params_fit : List TypedStruct → List TypedParam → Bool
params_fit structs params = list_all {X = TypedParam} (λ p. passed_fits structs p.ty) params

-- no statement of a body is higher than the limit
abbrev pub is_low : List TypedStmt → Bool
is_low body = list_all {X = TypedStmt} (λ s. nat_le (stmt_height s) most_height) body

abbrev pub function_fits : Callable → TypedSection → TypedFunction → Bool
function_fits callable section f =
    all_hold (
    nat_le (length f.params) most_params ∷
    params_fit section.structs f.params ∷
    result_fits section.structs f.result ∷
    list_all (local_fits (scope_of section f)) f.locals ∷
    body_fits (scope_of section f) callable f.result f.body ∷
    is_low f.body ∷ []
    )

abbrev pub same_types : List Ty → List Ty → Bool
same_types [] [] = true
same_types (a ∷ types) (b ∷ others) = same_ty a b && same_types types others
same_types _ _ = false

abbrev pub same_results : Option Ty → Option Ty → Bool
same_results None None = true
same_results (Some a) (Some b) = same_ty a b
same_results _ _ = false

abbrev pub same_signature : Signature → Signature → Bool
same_signature a b = same_types a.params b.params && same_results a.result b.result

-- no function that crosses is called `bt_..`, so that no text of a script can meet it
abbrev pub is_plain_name : List ℕ → Bool
is_plain_name name = not (bytes_eq (take 3 name) (codes "bt_"))

-- one of the functions has this name and these types
abbrev pub is_defined_in : List TypedFunction → Proto → Bool
is_defined_in functions proto =
    list_any {X = TypedFunction}
    (λ f. bytes_eq f.name proto.name && same_signature (signature_of f) (proto_signature proto)) functions

-- an export is a function of its section with this head, and isn't `main`
abbrev pub export_fits : List TypedFunction → Proto → Bool
export_fits functions proto =
    all_hold (
    is_plain_name proto.name ∷
    not (bytes_eq proto.name main_name) ∷
    is_defined_in functions proto ∷ []
    )

-- an import is the environment's, or an export of another compartment
abbrev pub import_fits : Interfaces → ℕ → Import → Bool
import_fits interfaces comp import.Input = true
import_fits interfaces comp import.Output = true
import_fits interfaces comp (import.Function to index) =
    not (to == comp) && is_some (export_at interfaces to index)

abbrev pub export_name : Option Proto → List ℕ
export_name None = []
export_name (Some proto) = proto.name

-- the name by which an import is called
abbrev pub import_name : Interfaces → Import → List ℕ
import_name interfaces import.Input = codes "input"
import_name interfaces import.Output = codes "output"
import_name interfaces (import.Function to index) = export_name (export_at interfaces to index)

abbrev pub callable_in : Interfaces → Interface → TypedSection → Callable
callable_in interfaces interface section =
    record { interfaces = interfaces; imports = interface.imports; functions = map signature_of section.functions }

-- how many structs, globals and functions a section has
abbrev pub decl_count : TypedSection → ℕ
decl_count section = length section.structs + (length section.globals + length section.functions)

abbrev pub section_fits : Interfaces → ℕ → Interface → TypedSection → Bool
section_fits interfaces comp interface section =
    all_hold (
    structs_fit section.structs 0 section.structs ∷
    list_all (global_fits section.structs) section.globals ∷
    list_all (function_fits (callable_in interfaces interface section) section) section.functions ∷
    nat_le (total (map nodes section.functions)) most_nodes ∷
    nat_le (decl_count section) most_nodes ∷ []
    )

-- the names by which a section's functions are called
abbrev pub callable_names : Interfaces → Interface → TypedSection → List (List ℕ)
callable_names interfaces interface section =
    map (import_name interfaces) interface.imports ++ map {A = TypedFunction} (λ f. f.name) section.functions

abbrev pub export_names : Interface → List (List ℕ)
export_names interface = map {A = Proto} (λ p. p.name) interface.exports

-- what a section imports and what it defines have names of their own, its exports have too, and exports and imports
-- lead to functions
abbrev pub interface_fits : Interfaces → ℕ → Interface → TypedSection → Bool
interface_fits interfaces comp interface section =
    all_hold (
    are_distinct (callable_names interfaces interface section) ∷
    are_distinct (export_names interface) ∷
    list_all (export_fits section.functions) interface.exports ∷
    list_all (import_fits interfaces comp) interface.imports ∷
    nat_le (length interface.exports) most_exports ∷
    nat_le (length interface.imports) most_exports ∷ []
    )

-- each compartment with its section, from this number on
abbrev pub sections_fit : Interfaces → ℕ → List Interface → List TypedSection → Bool
sections_fit interfaces comp [] [] = true
sections_fit interfaces comp (interface ∷ comps) (section ∷ sections) =
    all_hold (
    section_fits interfaces comp interface section ∷
    interface_fits interfaces comp interface section ∷
    sections_fit interfaces (suc comp) comps sections ∷ []
    )
sections_fit interfaces comp _ _ = false

-- `int main(void)`
abbrev pub is_main : TypedFunction → Bool
is_main f = bytes_eq f.name main_name

abbrev pub main_signature : Signature
main_signature = record { params = []; result = Some ty.Int }

abbrev pub main_fits : Option TypedSection → Bool
main_fits None = false
main_fits (Some section) =
    list_any {X = TypedFunction} (λ f. is_main f && same_signature (signature_of f) main_signature) section.functions

-- the sections that define `main`
abbrev pub mains_in : List TypedSection → ℕ
mains_in [] = 0
mains_in (section ∷ sections) = truth (list_any is_main section.functions) + mains_in sections

abbrev pub has_few_compartments : ProgramTree → Bool
has_few_compartments program = nat_le (length program.sections) most_compartments

-- compartments have names of their own, and none has that of the environment
abbrev pub has_distinct_names : ProgramTree → Bool
has_distinct_names program = are_distinct (codes "Env" ∷ map {A = Interface} (λ i. i.name) program.interfaces.comps)

-- one section for each compartment, and each fits
abbrev pub has_fitting_sections : ProgramTree → Bool
has_fitting_sections program = sections_fit program.interfaces 0 program.interfaces.comps program.sections

-- the main compartment has `int main(void)`
abbrev pub has_main : ProgramTree → Bool
has_main program = main_fits (slice_get program.sections program.interfaces.main)

-- exactly one section has a `main`
abbrev pub has_one_main : ProgramTree → Bool
has_one_main program = mains_in program.sections == 1

abbrev pub is_well_typed : ProgramTree → Bool
is_well_typed program =
    all_hold (
    has_few_compartments program ∷
    has_distinct_names program ∷
    has_fitting_sections program ∷
    has_main program ∷
    has_one_main program ∷ []
    )

abbrev pub IsWellTyped : ProgramTree → Type 0
IsWellTyped program = IsTrue (is_well_typed program)
