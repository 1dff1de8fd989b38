-- The sections of a made text with any lines.
use Rattle.sc_report_made.proofs.Common.{ExportLine, FunctionLines, FunctionTree, HeadTree, ImportLine, List}
use Rattle.sc_report_made.proofs.Common.{SectionTree, StmtTree, [], all_functions, call_kind, codes, export_at}
use Rattle.sc_report_made.proofs.Common.{function_at, worker_functions, import_at, literal, main_at, map, numbers_from}
use Rattle.sc_report_made.proofs.Common.{output_import, output_kind, output_proto, proto_at, return_kind, stmt_at}
use Rattle.sc_report_made.proofs.Common.{table_at, worker_name, workers, ℕ, ◌++◌, ◌∷◌, ◌≡◌}
use Rattle.sc_ast.specs.declared.section.Decl.TheVariants as decl

-- `Main`

pub data AreImports (size : ℕ) : List ℕ → List ImportLine → Type 0 where
  no_imports : AreImports size [] []
  and_import : (j line : ℕ) (js : List ℕ) (lines : List ImportLine) → AreImports size js lines →
      AreImports size (j ∷ js) (import_at size j line ∷ lines)

pub data AreProtos : List ℕ → List HeadTree → Type 0 where
  no_protos : AreProtos [] []
  and_proto : (j line : ℕ) (js : List ℕ) (heads : List HeadTree) → AreProtos js heads →
      AreProtos (j ∷ js) (proto_at j line ∷ heads)

-- a call of each function, what it gives is written, and the end
pub data AreCalls (seed : ℕ) : List ℕ → List StmtTree → Type 0 where
  ends : (line : ℕ) → AreCalls seed [] (stmt_at line (return_kind (literal 0)) ∷ [])
  calls : (j first second : ℕ) (js : List ℕ) (stmts : List StmtTree) → AreCalls seed js stmts →
      AreCalls seed (j ∷ js) (stmt_at first (call_kind seed j) ∷ stmt_at second output_kind ∷ stmts)

pub record IsMain (size seed : ℕ) (section : SectionTree) : Type 0 where
  pub imports : List ImportLine
  pub output_line : ℕ
  pub protos : List HeadTree
  pub proto_line : ℕ
  pub head_line : ℕ
  pub local_line : ℕ
  pub close_line : ℕ
  pub body : List StmtTree
  pub imports_are : AreImports size (all_functions size) imports
  pub protos_are : AreProtos (all_functions size) protos
  pub body_is : AreCalls seed (all_functions size) body
  pub is : section ≡ record {
    name = codes "Main";
    line = section.line;
    exports = [];
    imports = imports ++ output_import output_line ∷ [];
    decls = map decl.Proto protos ++ decl.Proto (output_proto proto_line) ∷
        decl.Function (main_at head_line local_line close_line body) ∷ [];
  }

-- Workers

pub data AreExports : List ℕ → List ExportLine → Type 0 where
  no_exports : AreExports [] []
  and_export : (j line : ℕ) (js : List ℕ) (lines : List ExportLine) → AreExports js lines →
      AreExports (j ∷ js) (export_at j line ∷ lines)

pub data AreFunctions (seed : ℕ) : List ℕ → List FunctionTree → Type 0 where
  no_functions : AreFunctions seed [] []
  and_function : (j : ℕ) (lines : FunctionLines) (js : List ℕ) (trees : List FunctionTree) →
      AreFunctions seed js trees → AreFunctions seed (j ∷ js) (function_at seed j lines ∷ trees)

pub record IsWorker (size seed i : ℕ) (section : SectionTree) : Type 0 where
  pub exports : List ExportLine
  pub table_line : ℕ
  pub functions : List FunctionTree
  pub exports_are : AreExports (worker_functions size i) exports
  pub functions_are : AreFunctions seed (worker_functions size i) functions
  pub is : section ≡ record {
    name = worker_name i;
    line = section.line;
    exports = exports;
    imports = [];
    decls = decl.Global (table_at table_line) ∷ map decl.Function functions;
  }

pub data AreWorkers (size seed : ℕ) : List ℕ → List SectionTree → Type 0 where
  no_workers : AreWorkers size seed [] []
  and_worker : (i : ℕ) (section : SectionTree) (is : List ℕ) (sections : List SectionTree) →
      IsWorker size seed i section → AreWorkers size seed is sections →
      AreWorkers size seed (i ∷ is) (section ∷ sections)

-- all sections of a made text
pub record AreMade (size seed : ℕ) (sections : List SectionTree) : Type 0 where
  pub main : SectionTree
  pub others : List SectionTree
  pub main_is : IsMain size seed main
  pub others_are : AreWorkers size seed (numbers_from 0 (workers size)) others
  pub are : sections ≡ main ∷ others
