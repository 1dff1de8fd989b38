-- What the sections of a made text declare.
use Rattle.sc_report_made.proofs.Common.{Decl, ExportLine, FunctionTree, HeadTree, ImportLine, List, [], ap, codes}
use Rattle.sc_report_made.proofs.Common.{function_name, function_decls, globals_in, head_of, heads_in, map}
use Rattle.sc_report_made.proofs.Common.{output_import}
use Rattle.sc_report_made.proofs.Common.{protos_in, refl, structs_in, ℕ, ◌++◌, ◌∷◌, ◌≡◌}
use Rattle.sc_ast.specs.declared.section.Decl.TheVariants as decl
use Rattle.sc_report_made.proofs.Naming.{function_names}
use Rattle.sc_report_made.proofs.Shapes.{AreExports, AreFunctions, AreImports, AreProtos, and_export, and_function}
use Rattle.sc_report_made.proofs.Shapes.{and_import, and_proto, no_exports, no_functions, no_imports, no_protos}

-- Names.

pub imports_named : (size line : ℕ) (js : List ℕ) (lines : List ImportLine) → AreImports size js lines →
    map {A = ImportLine} (λ one. one.name) (lines ++ output_import line ∷ []) ≡ function_names js ++ codes "output" ∷ []
imports_named size line _ _ no_imports = refl
imports_named size line _ _ (and_import j at js lines h) =
    ap (λ x. function_name j ∷ x) (imports_named size line js lines h)

pub protos_named : (js : List ℕ) (heads : List HeadTree) → AreProtos js heads →
    map {A = HeadTree} (λ head. head.name) heads ≡ function_names js
protos_named _ _ no_protos = refl
protos_named _ _ (and_proto j at js heads h) = ap (λ x. function_name j ∷ x) (protos_named js heads h)

pub exports_named : (js : List ℕ) (lines : List ExportLine) → AreExports js lines →
    map {A = ExportLine} (λ one. one.name) lines ≡ function_names js
exports_named _ _ no_exports = refl
exports_named _ _ (and_export j at js lines h) = ap (λ x. function_name j ∷ x) (exports_named js lines h)

pub functions_named : (seed : ℕ) (js : List ℕ) (trees : List FunctionTree) → AreFunctions seed js trees →
    map {A = FunctionTree} (λ tree. tree.head.name) trees ≡ function_names js
functions_named seed _ _ no_functions = refl
functions_named seed _ _ (and_function j lines js trees h) =
    ap (λ x. function_name j ∷ x) (functions_named seed js trees h)

-- Only prototypes, and others after them.

pub protos_heads : (heads : List HeadTree) → heads_in (map decl.Proto heads) ≡ heads
protos_heads [] = refl
protos_heads (h ∷ heads) = ap (λ x. h ∷ x) (protos_heads heads)

module _ (more : List Decl) where
  pub after_structs : (heads : List HeadTree) → structs_in (map decl.Proto heads ++ more) ≡ structs_in more
  after_structs [] = refl
  after_structs (h ∷ heads) = after_structs heads

  pub after_globals : (heads : List HeadTree) → globals_in (map decl.Proto heads ++ more) ≡ globals_in more
  after_globals [] = refl
  after_globals (h ∷ heads) = after_globals heads

  pub after_functions : (heads : List HeadTree) → function_decls (map decl.Proto heads ++ more) ≡ function_decls more
  after_functions [] = refl
  after_functions (h ∷ heads) = after_functions heads

  pub after_protos : (heads : List HeadTree) → protos_in (map decl.Proto heads ++ more) ≡ heads ++ protos_in more
  after_protos [] = refl
  after_protos (h ∷ heads) = ap (λ x. h ∷ x) (after_protos heads)

  pub after_heads : (heads : List HeadTree) → heads_in (map decl.Proto heads ++ more) ≡ heads ++ heads_in more
  after_heads [] = refl
  after_heads (h ∷ heads) = ap (λ x. h ∷ x) (after_heads heads)

-- Only functions.

pub functions_structs : (trees : List FunctionTree) → structs_in (map decl.Function trees) ≡ []
functions_structs [] = refl
functions_structs (t ∷ trees) = functions_structs trees

pub functions_globals : (trees : List FunctionTree) → globals_in (map decl.Function trees) ≡ []
functions_globals [] = refl
functions_globals (t ∷ trees) = functions_globals trees

pub functions_protos : (trees : List FunctionTree) → protos_in (map decl.Function trees) ≡ []
functions_protos [] = refl
functions_protos (t ∷ trees) = functions_protos trees

pub functions_functions : (trees : List FunctionTree) → function_decls (map decl.Function trees) ≡ trees
functions_functions [] = refl
functions_functions (t ∷ trees) = ap (λ x. t ∷ x) (functions_functions trees)

pub functions_heads : (trees : List FunctionTree) →
    heads_in (map decl.Function trees) ≡ map (λ tree. head_of tree.head) trees
functions_heads [] = refl
functions_heads (t ∷ trees) = ap (λ x. head_of t.head ∷ x) (functions_heads trees)
