-- The tree of a performing section, with lines.
use Rattle.sc_back_performer_laws.proofs.Common.{Binary, Entry, Equal, Export, FunctionTree, GlobalTree, HeadTree}
use Rattle.sc_back_performer_laws.proofs.Common.{Import, ImportLine, Interface, Interfaces, List, Main, None, Option}
use Rattle.sc_back_performer_laws.proofs.Common.{Proto, Row, Scalar, SectionTree, Some, StmtKind, StmtTree, Unsigned}
use Rattle.sc_back_performer_laws.proofs.Common.{Variable, [], action_kind, counter_name, export_names, filter}
use Rattle.sc_back_performer_laws.proofs.Common.{function_params, if◌then◌else◌, imported, is_of, literal, main_proto}
use Rattle.sc_back_performer_laws.proofs.Common.{map, names_of, option_map, owner_name, proto_params, suc, type_name}
use Rattle.sc_back_performer_laws.proofs.Common.{value_tree, ℕ, ◌++◌, ◌==◌, ◌∷◌, ◌≡◌}
use Rattle.sc_back.specs.Prelude.{counter}
use Rattle.sc_ast.specs.declared.stmt.StmtKind.TheVariants.{Assign, If, While}
use Rattle.sc_ast.specs.declared.section.Decl.TheVariants as decl

-- Statements.

abbrev pub stmt_at : ℕ → StmtKind → StmtTree
stmt_at line kind = record { line = line; kind = kind }

abbrev pub row_at : Interfaces → Option Scalar → Row → (line set_line action_line : ℕ) → StmtTree
row_at interfaces result row line set_line action_line =
    stmt_at line (If (Binary Equal (Variable counter_name) (value_tree Unsigned row.number))
    (stmt_at set_line (Assign (Variable counter_name) (value_tree Unsigned (suc row.number))) ∷
    stmt_at action_line (action_kind interfaces result row.action) ∷ []) [])

abbrev pub while_at : ℕ → StmtTree
while_at line = stmt_at line (While (literal 1) [])

-- the statements of a function with this result that does these rows
pub data IsBackBody (interfaces : Interfaces) (result : Option Scalar) : List Row → List StmtTree → Type 0 where
  ends : (line : ℕ) → IsBackBody interfaces result [] (while_at line ∷ [])
  does : (row : Row) (rows : List Row) (stmts : List StmtTree) (line set_line action_line : ℕ) →
      IsBackBody interfaces result rows stmts →
      IsBackBody interfaces result (row ∷ rows) (row_at interfaces result row line set_line action_line ∷ stmts)

-- Functions.

abbrev pub function_at : Proto → (line close_line : ℕ) → List StmtTree → FunctionTree
function_at f line close_line body = record {
  head = record {
    result = option_map type_name f.result;
    name = f.name;
    params = function_params 0 f.params;
    line = line;
  };
  locals = [];
  body = body;
  close_line = close_line;
}

-- the functions of these entries
pub data AreFunctions (interfaces : Interfaces) (rows : List Row) : List (Entry × Proto) → List FunctionTree →
    Type 0 where
  no_functions : AreFunctions interfaces rows [] []
  and_function : (entry : Entry) (f : Proto) (entries : List (Entry × Proto)) (trees : List FunctionTree)
      (line close_line : ℕ) (body : List StmtTree) →
      IsBackBody interfaces f.result (filter (is_of entry) rows) body → AreFunctions interfaces rows entries trees →
      AreFunctions interfaces rows ((entry, f) ∷ entries) (function_at f line close_line body ∷ trees)

abbrev pub entries_from : (index : ℕ) → List Proto → List (Entry × Proto)
entries_from index [] = []
entries_from index (f ∷ exports) = (Export index, f) ∷ entries_from (suc index) exports

abbrev pub main_entries : Interfaces → (comp : ℕ) → List (Entry × Proto)
main_entries interfaces comp = if comp == interfaces.main then (Main, main_proto) ∷ [] else []

abbrev pub entries_of : Interfaces → (comp : ℕ) → Interface → List (Entry × Proto)
entries_of interfaces comp interface = entries_from 0 interface.exports ++ main_entries interfaces comp

-- What is imported.

abbrev pub use_of : Import → Option Proto → List (Import × Proto) → List (Import × Proto)
use_of import None rest = rest
use_of import (Some f) rest = (import, f) ∷ rest

-- each import with the function that it names
abbrev pub uses : Interfaces → List Import → List (Import × Proto)
uses interfaces [] = []
uses interfaces (import ∷ imports) = use_of import (imported interfaces import) (uses interfaces imports)

abbrev pub import_at : Interfaces → Import × Proto → (line : ℕ) → ImportLine
import_at interfaces used line = record { comp = owner_name interfaces used.0; name = used.1.name; line = line }

abbrev pub head_at : Proto → (line : ℕ) → HeadTree
head_at f line = record {
  result = option_map type_name f.result;
  name = f.name;
  params = proto_params 0 f.params;
  line = line;
}

pub data AreImports (interfaces : Interfaces) : List (Import × Proto) → List ImportLine → Type 0 where
  no_imports : AreImports interfaces [] []
  and_import : (used : Import × Proto) (others : List (Import × Proto)) (lines : List ImportLine) (line : ℕ) →
      AreImports interfaces others lines →
      AreImports interfaces (used ∷ others) (import_at interfaces used line ∷ lines)

pub data AreHeads : List (Import × Proto) → List HeadTree → Type 0 where
  no_heads : AreHeads [] []
  and_head : (used : Import × Proto) (others : List (Import × Proto)) (heads : List HeadTree) (line : ℕ) →
      AreHeads others heads → AreHeads (used ∷ others) (head_at used.1 line ∷ heads)

-- Sections.

abbrev pub counter_at : (line : ℕ) → GlobalTree
counter_at line = record counter { line = line }

pub record IsBackTree (interfaces : Interfaces) (comp : ℕ) (rows : List Row) (interface : Interface)
    (section : SectionTree) : Type 0 where
  pub name : section.name ≡ interface.name
  pub exports : export_names section ≡ names_of interface.exports
  pub imports : AreImports interfaces (uses interfaces interface.imports) section.imports
  pub heads : List HeadTree
  pub are_heads : AreHeads (uses interfaces interface.imports) heads
  pub counter_line : ℕ
  pub functions : List FunctionTree
  pub are_functions : AreFunctions interfaces rows (entries_of interfaces comp interface) functions
  pub decls : section.decls ≡ map decl.Proto heads ++ decl.Global (counter_at counter_line) ∷
      map decl.Function functions
