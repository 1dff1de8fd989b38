-- Helping: what a section's tables of calls hold.
use Rattle.sc_types_elab.specs.Common.{Decl, FunctionTree, HeadTree, Import, ImportLine, SectionTree, Signature}
use Rattle.sc_types_elab.specs.Common.{StructTree, function_decls, head_of, heads_in}
use Rattle.std.specs.Prelude.{◌≡◌, ℕ, List, ◌++◌, map}
use Rattle.sc_types_elab.specs.Sections.{signature_by, import_target}
use Rattle.sc_types_elab_expr.specs.declared.callees.Callees.{Callees}

abbrev pub function_name : FunctionTree → List ℕ
function_name tree = tree.head.name

abbrev pub struct_name : StructTree → List ℕ
struct_name tree = tree.name

abbrev pub head_name : HeadTree → List ℕ
head_name head = head.name

abbrev pub import_line_name : ImportLine → List ℕ
import_line_name line = line.name

abbrev pub function_signature : List (List ℕ) → FunctionTree → Signature
function_signature tags tree = signature_by tags (head_of tree.head)

-- the heads by which calls are typed, each name by its first: those of the functions, and after them all that are
-- declared
abbrev pub calling_heads : List Decl → List HeadTree
calling_heads decls = map (λ tree. head_of tree.head) (function_decls decls) ++ heads_in decls

-- whom a section calls, where its structs have these tags and it imports these functions
pub record CallsIn (tags : List (List ℕ)) (section : SectionTree) (used : List Import)
    (callees : Callees) : Type 0 where
  pub heads : callees.heads ≡ map head_name (calling_heads section.decls)
  pub signatures : callees.signatures ≡ map (signature_by tags) (calling_heads section.decls)
  pub functions : callees.functions ≡ map function_name (function_decls section.decls)
  pub imports : callees.imports ≡ map import_line_name section.imports
  pub targets : callees.targets ≡ map import_target used
