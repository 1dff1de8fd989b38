-- What names stand for in a worker, and that it breaks no rule of types.
use Rattle.sc_report_made.proofs.Common.{Callees, FunctionLines, FunctionTree, GlobalTree, HeadTree, List, SectionTree}
use Rattle.sc_report_made.proofs.Common.{Some, StructTree, [], ap, ap₂, codes, concat, decl_type_lines, function_at}
use Rattle.sc_report_made.proofs.Common.{function_decls, worker_functions, global_variable, globals_in, head_of}
use Rattle.sc_report_made.proofs.Common.{heads_in}
use Rattle.sc_report_made.proofs.Common.{map, refl, scope_in, section_type_lines, stmt_type_lines, struct_names}
use Rattle.sc_report_made.proofs.Common.{structs}
use Rattle.sc_report_made.proofs.Common.{structs_in, table_at, type_of, visible_of, ℕ, ◌++◌, ◌∙◌, ◌∷◌, ◌≡◌}
use Rattle.sc_types_elab.specs.Prelude.{function_type_lines}
use Rattle.sc_ast.specs.declared.section.Decl.TheVariants as decl
use Rattle.sc_core.specs.declared.ty.Ty.TheVariants as ty
unfoldable use Rattle.sc_types_elab.specs.Prelude.{typed_structs}
use Rattle.sc_report_made.proofs.Declared.{functions_functions, functions_globals, functions_heads, functions_structs}
use Rattle.sc_report_made.proofs.Shapes.{AreFunctions, IsWorker, and_function, no_functions}
use Rattle.sc_report_made.proofs.WorkerTypes.{body_none, worker_scope, worker_visible}

abbrev pub heads_of : List FunctionTree → List HeadTree
heads_of trees = map (λ tree. head_of tree.head) trees

module _ (size seed i : ℕ) (section : SectionTree) (worker : IsWorker size seed i section) where
  pub no_structs : structs_in section.decls ≡ []
  no_structs = ap (λ s. structs_in s.decls) worker.is ∙ functions_structs worker.functions

  pub no_tags : struct_names section.decls ≡ []
  no_tags = ap (map {A = StructTree} (λ tree. tree.name)) no_structs

  pub one_global : globals_in section.decls ≡ table_at worker.table_line ∷ []
  one_global =
      ap (λ s. globals_in s.decls) worker.is ∙
      ap (λ x. table_at worker.table_line ∷ x) (functions_globals worker.functions)

  pub functions_are : function_decls section.decls ≡ worker.functions
  functions_are = ap (λ s. function_decls s.decls) worker.is ∙ functions_functions worker.functions

  pub heads_are : heads_in section.decls ≡ heads_of worker.functions
  heads_are = ap (λ s. heads_in s.decls) worker.is ∙ functions_heads worker.functions

  pub structs_none : structs section ≡ []
  unfolding typed_structs
  structs_none = λ i. typed_structs (no_tags i) [] (no_structs i)

  module _ (j : ℕ) (lines : FunctionLines) where
    abbrev tree : FunctionTree
    tree = function_at seed j lines

    visible_is : visible_of section tree ≡ worker_visible
    visible_is = λ i. record {
      tags = no_tags i;
      structs = structs_none i;
      globals = map (global_variable (no_tags i)) (one_global i);
      params = record { name = codes "x"; ty = ty.Int } ∷ [];
      locals = record { name = codes "i"; ty = ty.Int } ∷ record { name = codes "s"; ty = ty.Int } ∷ [];
    }

    scope_is : scope_in section tree ≡ worker_scope
    scope_is = λ i. record {
      structs = structs_none i;
      globals = map {A = GlobalTree} (λ global. type_of (no_tags i) global.ty) (one_global i);
      params = ty.Int ∷ [];
      locals = ty.Int ∷ ty.Int ∷ [];
    }

    function_none : (callees : Callees) → function_type_lines section callees tree ≡ []
    function_none callees =
        (λ i. concat (map (stmt_type_lines (visible_is i) callees (scope_is i) (Some ty.Int)) tree.body)) ∙
        body_none callees seed j lines

  module _ (callees : Callees) where
    functions_none : (js : List ℕ) (trees : List FunctionTree) → AreFunctions seed js trees →
        concat (map (decl_type_lines section callees) (map decl.Function trees)) ≡ []
    functions_none js trees no_functions = refl
    functions_none js trees (and_function j lines others more rest) =
        ap₂ (λ x y. x ++ y) (function_none j lines callees) (functions_none others more rest)

    -- a worker breaks no rule of types, whatever is called
    pub worker_typed : section_type_lines section callees ≡ []
    worker_typed =
        ap (λ s. concat (map (decl_type_lines section callees) s.decls)) worker.is ∙
        functions_none (worker_functions size i) worker.functions worker.functions_are
