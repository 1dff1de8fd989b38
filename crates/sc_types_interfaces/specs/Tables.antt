-- Helping: the rules of interfaces by tables of the names that sections declare, in which a name is found at once.
use Rattle.sc_types_interfaces.specs.Common.{Decl, ExportLine, Function, HeadTree, ImportLine, Proto, SectionTable}
use Rattle.sc_types_interfaces.specs.Common.{SectionTree, Text, all_hold, among, export_names, first_by_name}
use Rattle.sc_types_interfaces.specs.Common.{function_names, head_in, head_of, heads_in, import_names, is_environment}
use Rattle.sc_types_interfaces.specs.Common.{line_of_text, main_name, numbered, proto_names, unless, with_first}
use Rattle.std.specs.Prelude.{ℕ, suc, Bool, true, not, ◌&&◌, ◌||◌, ◌==◌, bytes_eq, List, [], ◌∷◌, ◌++◌, map, slice_get}
use Rattle.std.specs.Prelude.{Option, Some, None, is_some, if◌then◌else◌}
use Rattle.std.specs.Option.{option_and_then}
use Rattle.sc_types_interfaces.specs.declared.agreements.Agreements.{Agreements}
use Rattle.sc_types_interfaces.specs.declared.imports.Imported.{Imported}
use Rattle.sc_types_interfaces.specs.Rules.{agree, head_crosses, int_type, input_name, output_name, main_holds}
use Rattle.sc_types_interfaces.specs.Rules.{export_fits, import_fits, environment_offers, name_fits}

-- names that are known, after these came too
abbrev pub all_numbered : List Text → List Text → List Text
all_numbered known [] = known
all_numbered known (name ∷ names) = all_numbered (numbered known name) names

-- Heads by their names.

abbrev pub no_heads : Agreements
no_heads = record { firsts = []; conflicts = [] }

-- no head agrees with what this name stands for
abbrev pub forbidden : Agreements → Text → Agreements
forbidden known name = record known { conflicts = numbered known.conflicts name }

abbrev pub added_beside : Agreements → Text → HeadTree → Option HeadTree → Agreements
added_beside known name head None = record known { firsts = with_first known.firsts name head }
added_beside known name head (Some first) = if agree first head then known else forbidden known name

-- a name stands for this head too
abbrev pub added : Agreements → Text → HeadTree → Agreements
added known name head = added_beside known name head (first_by_name known.firsts name)

abbrev pub all_added : Agreements → List HeadTree → Agreements
all_added known [] = known
all_added known (head ∷ heads) = all_added (added known head.name head) heads

abbrev pub agrees_first : Option HeadTree → HeadTree → Bool
agrees_first None head = true
agrees_first (Some first) head = agree first head

-- a head agrees with all that its name stands for
abbrev pub allowed : Agreements → HeadTree → Bool
allowed known head = not (among known.conflicts head.name) && agrees_first (first_by_name known.firsts head.name) head

-- What others, and its own directives, ask of a section.

abbrev pub table_of : SectionTree → SectionTable
table_of section =
    record {
      name = section.name;
      functions = all_numbered [] (function_names section.decls);
      protos = all_numbered [] (proto_names section.decls);
      exports = all_numbered [] (export_names section);
      heads = all_added no_heads (heads_in section.decls);
    }

-- the section of number k, by its table, offers what another one imports with this line
abbrev pub offers_by : (importer : ℕ) → ImportLine → ℕ → SectionTable → Bool
offers_by importer line k table =
    all_hold (
    bytes_eq table.name line.comp ∷
    not (k == importer) ∷
    among table.exports line.name ∷ []
    )

-- the number of the first section that offers an import, among those from number k on
abbrev pub offering_number : (importer : ℕ) → ImportLine → ℕ → List SectionTable → Option ℕ
offering_number importer line k [] = None
offering_number importer line k (table ∷ tables) =
    if offers_by importer line k table then Some k else offering_number importer line (suc k) tables

abbrev pub offering_table : List SectionTable → (importer : ℕ) → ImportLine → Option SectionTable
offering_table tables importer line = option_and_then (slice_get tables) (offering_number importer line 0 tables)

-- Exports.

abbrev pub exports_broken : (functions before : List Text) → List ExportLine → List ℕ
exports_broken functions before [] = []
exports_broken functions before (line ∷ lines) =
    unless (export_fits functions before line) line.line ++ exports_broken functions (numbered before line.name) lines

-- Imports.

-- `int input(void)` and `void output(int)`
abbrev pub input_head : HeadTree
input_head = record { result = Some int_type; name = input_name; params = []; line = 0 }

abbrev pub output_head : HeadTree
output_head = record {
  result = None;
  name = output_name;
  params = record { ty = int_type; name = None } ∷ [];
  line = 0;
}

abbrev pub is_offered_by : List SectionTable → (importer : ℕ) → ImportLine → Bool
is_offered_by tables importer line =
    if is_environment line then environment_offers line.name else is_some (offering_number importer line 0 tables)

abbrev pub imports_broken : List SectionTable → (importer : ℕ) → (functions protos before : List Text) →
    List ImportLine →
    List ℕ
imports_broken tables importer functions protos before [] = []
imports_broken tables importer functions protos before (line ∷ lines) =
    unless (import_fits (is_offered_by tables importer line) functions protos before line) line.line ++
    imports_broken tables importer functions protos (numbered before line.name) lines

-- what the environment promises of a name
abbrev pub environment_added : Agreements → Text → Agreements
environment_added known name =
    if bytes_eq name input_name then added known name input_head
    else if bytes_eq name output_name then added known name output_head
    else known

abbrev pub first_added : Agreements → Text → Option HeadTree → Agreements
first_added known name None = known
first_added known name (Some first) = added known name first

-- what another section declares a name as
abbrev pub others_added : Agreements → Text → Option SectionTable → Agreements
others_added known name None = known
others_added known name (Some other) =
    if among other.heads.conflicts name then forbidden known name else
    first_added known name (first_by_name other.heads.firsts name)

abbrev pub import_added : List SectionTable → (importer : ℕ) → Agreements → ImportLine → Agreements
import_added tables importer known line =
    if is_environment line then environment_added known line.name
    else others_added known line.name (offering_table tables importer line)

abbrev pub imports_added : List SectionTable → (importer : ℕ) → Agreements → List ImportLine → Agreements
imports_added tables importer known [] = known
imports_added tables importer known (line ∷ lines) = imports_added tables importer
    (import_added tables importer known line) lines

abbrev pub imported_by : List SectionTable → (importer : ℕ) → SectionTree → Imported
imported_by tables importer section =
    record {
      names = all_numbered [] (import_names section);
      heads = imports_added tables importer no_heads section.imports;
    }

-- Declarations.

abbrev pub head_fits_by : SectionTable → Imported → Agreements → HeadTree → Bool
head_fits_by table imported known head =
    allowed known head && (head_crosses head || not (among table.exports head.name || among imported.names head.name))

abbrev pub decl_broken : SectionTable → Imported → (mains : Bool) → Agreements → Decl → List ℕ
decl_broken table imported mains known (Proto head) =
    unless (head_fits_by table imported known head && allowed imported.heads head) head.line
decl_broken table imported mains known (Function tree) =
    unless (head_fits_by table imported known (head_of tree.head) &&
    main_holds mains (head_of tree.head)) tree.head.line
decl_broken table imported mains known _ = []

abbrev pub head_added : Agreements → Option HeadTree → Agreements
head_added known None = known
head_added known (Some head) = added known head.name head

abbrev pub decls_broken : SectionTable → Imported → (mains : Bool) → Agreements → List Decl → List ℕ
decls_broken table imported mains known [] = []
decls_broken table imported mains known (decl ∷ decls) =
    decl_broken table imported mains known decl ++ decls_broken table imported mains (head_added known (head_in decl))
    decls

-- Sections.

abbrev pub section_broken : List SectionTable → (number : ℕ) → SectionTable → (mains : Bool) → (before : List Text) →
    SectionTree → List ℕ
section_broken tables number table mains before section =
    unless (name_fits before section.name) 1 ++
    (exports_broken table.functions [] section.exports ++
    (imports_broken tables number table.functions table.protos [] section.imports ++
    decls_broken table (imported_by tables number section) mains no_heads section.decls))

abbrev pub lines_broken : List SectionTable → ℕ → (mains : Bool) → (before : List Text) → List SectionTree → List ℕ
lines_broken tables k mains before [] = []
lines_broken tables k mains before (section ∷ rest) =
    map (line_of_text section.line) (section_broken tables k (table_of section) mains before section) ++
    lines_broken tables (suc k) (mains || among (table_of section).functions main_name)
    (numbered before section.name) rest
