-- What a section declares, and the names that stand there.
use Rattle.sc_types_scope.specs.Common.{Decl, ExportLine, Function, FunctionTree, Global, GlobalTree, HeadTree}
use Rattle.sc_types_scope.specs.Common.{ImportLine, Proto, SectionTree, Struct, StructTree, Text, head_of, is_numbered}
use Rattle.std.specs.Prelude.{ℕ, Bool, true, not, ◌&&◌, List, [], ◌∷◌, map, Option, Some, None}
use Rattle.std.specs.List.{filter_map}

-- whether a name is one of these
abbrev pub among : List Text → Text → Bool
among = is_numbered

abbrev pub is_new : List Text → Text → Bool
is_new names name = not (among names name)

-- no name stands twice
abbrev pub are_distinct : List Text → Bool
are_distinct [] = true
are_distinct (name ∷ names) = is_new names name && are_distinct names

abbrev pub struct_in : Decl → Option StructTree
struct_in (Struct tree) = Some tree
struct_in _ = None

abbrev pub global_in : Decl → Option GlobalTree
global_in (Global tree) = Some tree
global_in _ = None

abbrev pub proto_in : Decl → Option HeadTree
proto_in (Proto head) = Some head
proto_in _ = None

abbrev pub function_in : Decl → Option FunctionTree
function_in (Function tree) = Some tree
function_in _ = None

-- a function's head or a prototype
abbrev pub head_in : Decl → Option HeadTree
head_in (Proto head) = Some head
head_in (Function tree) = Some (head_of tree.head)
head_in _ = None

-- all of one kind, in order
abbrev pub structs_in : List Decl → List StructTree
structs_in = filter_map struct_in

abbrev pub globals_in : List Decl → List GlobalTree
globals_in = filter_map global_in

abbrev pub protos_in : List Decl → List HeadTree
protos_in = filter_map proto_in

abbrev pub function_decls : List Decl → List FunctionTree
function_decls = filter_map function_in

abbrev pub heads_in : List Decl → List HeadTree
heads_in = filter_map head_in

-- their names
abbrev pub struct_names : List Decl → List Text
struct_names decls = map {A = StructTree} (λ tree. tree.name) (structs_in decls)

abbrev pub global_names : List Decl → List Text
global_names decls = map {A = GlobalTree} (λ tree. tree.name) (globals_in decls)

abbrev pub proto_names : List Decl → List Text
proto_names decls = map {A = HeadTree} (λ head. head.name) (protos_in decls)

abbrev pub function_names : List Decl → List Text
function_names decls = map {A = FunctionTree} (λ tree. tree.head.name) (function_decls decls)

-- the names that a section exports and imports
abbrev pub export_names : SectionTree → List Text
export_names section = map {A = ExportLine} (λ line. line.name) section.exports

abbrev pub import_names : SectionTree → List Text
import_names section = map {A = ImportLine} (λ line. line.name) section.imports
