-- `Main` breaks no rule of types.
use Rattle.sc_report_made.proofs.Common.{AssignCall, Call, CallTree, Callees, ExprTree, GlobalTree, HeadTree, List}
use Rattle.sc_report_made.proofs.Common.{Local, ReturnValue, Scope, SectionTree, Some, StmtTree, TypedExpr, Variable}
use Rattle.sc_report_made.proofs.Common.{Visible, [], all_functions, all_hold, ap, args_fit, argument}
use Rattle.sc_report_made.proofs.Common.{assign_call_holds, call_holds, call_kind, call_of, callees_of, codes, concat}
use Rattle.sc_report_made.proofs.Common.{decl_type_lines, function_name, global_variable, goes_into, going_to_all}
use Rattle.sc_report_made.proofs.Common.{is_target}
use Rattle.sc_report_made.proofs.Common.{judged, literal, map, output_kind, params_called, place_judged, refl}
use Rattle.sc_report_made.proofs.Common.{result_goes}
use Rattle.sc_report_made.proofs.Common.{return_kind, return_value_holds, rules, scope_in, section_type_lines, stmt_at}
use Rattle.sc_report_made.proofs.Common.{stmt_type_lines, structs, true, type_of, typed, unless, visible_of, ℕ, ◌&&◌}
use Rattle.sc_report_made.proofs.Common.{◌++◌}
use Rattle.sc_report_made.proofs.Common.{◌∙◌, ◌∷◌, ◌≡◌}
use Rattle.sc_types_elab.specs.Prelude.{function_type_lines}
use Rattle.sc_ast.specs.declared.expr.ExprTree as exprs
use Rattle.sc_ast.specs.declared.stmt.StmtKind as kinds
use Rattle.sc_ast.specs.declared.stmt.StmtTree as stmts
use Rattle.sc_ast.specs.declared.section.Decl.TheVariants as decl
use Rattle.sc_core.specs.declared.expr.TypedExpr as typed_exprs
use Rattle.sc_core.specs.declared.expr.TypedKind as typed_kinds
use Rattle.sc_core.specs.declared.ty.Ty.TheVariants as ty
unfoldable use Rattle.sc_types_elab.specs.Prelude.{typed_structs}
use Rattle.sc_report_made.proofs.Literals.{argument_small, literal_goes}
use Rattle.sc_report_made.proofs.Shapes.{AreCalls, IsMain, calls, ends}
use Rattle.sc_report_made.proofs.Signatures.{HasSignatures, function_signature, no_structs, no_tags, output_signature}
use Rattle.sc_report_made.proofs.Signatures.{last_decls, no_globals, output_typed, signatures, tree_of}

-- what is visible in `main`: its local
abbrev pub main_visible : Visible
main_visible = record {
  tags = [];
  structs = [];
  globals = [];
  params = [];
  locals = record { name = codes "r"; ty = ty.Int } ∷ [];
}

abbrev main_scope : Scope
main_scope = record { structs = []; globals = []; params = []; locals = ty.Int ∷ [] }

-- The local.

abbrev typed_local : TypedExpr
typed_local = record { ty = ty.Int; kind = typed_kinds.Variable (Local 0) }

local_typed : typed main_visible (Variable (codes "r")) ≡ typed_local
local_typed = search (rules, exprs.the_lemmas)

local_judged : judged main_scope typed_local ≡ place_judged ty.Int true
local_judged = search (rules, typed_exprs.the_lemmas, typed_kinds.the_lemmas)

local_goes : goes_into ty.Int (judged main_scope (typed main_visible (Variable (codes "r")))) ≡ true
local_goes = ap (λ e. goes_into ty.Int (judged main_scope e)) local_typed ∙ ap (goes_into ty.Int) local_judged

module _ (callees : Callees) where
  -- the lines of a statement that break a rule
  abbrev lines : StmtTree → List ℕ
  lines = stmt_type_lines main_visible callees main_scope (Some ty.Int)

  assign_call_at : (line : ℕ) (place : ExprTree) (call : CallTree) → lines (stmt_at line (AssignCall place call)) ≡
      unless (assign_call_holds main_visible callees main_scope (Some ty.Int) place call) line
  assign_call_at line place call = search (rules, exprs.the_lemmas, kinds.the_lemmas, stmts.the_lemmas)

  call_at : (line : ℕ) (call : CallTree) → lines (stmt_at line (Call call)) ≡
      unless (call_holds main_visible callees main_scope (Some ty.Int) call) line
  call_at line call = search (rules, exprs.the_lemmas, kinds.the_lemmas, stmts.the_lemmas)

  return_at : (line : ℕ) (value : ExprTree) → lines (stmt_at line (ReturnValue value)) ≡
      unless (return_value_holds main_visible callees main_scope (Some ty.Int) value) line
  return_at line value = search (rules, exprs.the_lemmas, kinds.the_lemmas, stmts.the_lemmas)

  function_fits : (seed j : ℕ) → callees.signature (function_name j) ≡ Some function_signature →
      call_holds main_visible callees main_scope (Some ty.Int) (call_of seed j) ≡ true
  function_fits seed j has =
      ap (λ s. args_fit s (map (judged main_scope) (going_to_all (params_called s)
      (map (typed main_visible) (literal (argument seed j) ∷ []))))) has ∙
      ap (λ b. b && true) (literal_goes main_visible main_scope (argument seed j) (argument_small seed j))

  called : (seed j line : ℕ) → callees.signature (function_name j) ≡ Some function_signature →
      lines (stmt_at line (call_kind seed j)) ≡ []
  called seed j line has =
      assign_call_at line (Variable (codes "r")) (call_of seed j) ∙
      (λ i. unless (all_hold (is_target (judged main_scope (local_typed i)) ∷ function_fits seed j has i ∷
      result_goes (has i) (local_typed i).ty ∷ [])) line) ∙
      ap (λ e. unless (all_hold (is_target e ∷ true ∷ true ∷ [])) line) local_judged

  written : (line : ℕ) → callees.signature (codes "output") ≡ Some output_signature →
      lines (stmt_at line output_kind) ≡ []
  written line has =
      call_at line (record { name = codes "output"; args = Variable (codes "r") ∷ [] }) ∙
      ap (λ s. unless (args_fit s (map (judged main_scope) (going_to_all (params_called s)
      (map (typed main_visible) (Variable (codes "r") ∷ []))))) line) has ∙
      ap (λ b. unless (b && true) line) local_goes

  returned : (line : ℕ) → lines (stmt_at line (return_kind (literal 0))) ≡ []
  returned line =
      return_at line (literal 0) ∙ ap (λ b. unless b line) (literal_goes main_visible main_scope 0 refl)

  body_none : (seed : ℕ) (js : List ℕ) (body : List StmtTree) → AreCalls seed js body →
      HasSignatures callees js → callees.signature (codes "output") ≡ Some output_signature →
      concat (map lines body) ≡ []
  body_none seed js body (ends line) has output = ap (λ x. x ++ []) (returned line)
  body_none seed js body (calls j first second others stmts rest) has output =
      λ i. called seed j first has.0 i ++ (written second output i ++
      body_none seed others stmts rest has.1 output i)

module _ (size seed : ℕ) (section : SectionTree) (main : IsMain size seed section) where
  structs_none : structs section ≡ []
  unfolding typed_structs
  structs_none = λ i. typed_structs (no_tags size seed section main i) [] (no_structs size seed section main i)

  visible_is : visible_of section (tree_of size seed section main) ≡ main_visible
  visible_is = λ i. record {
    tags = no_tags size seed section main i;
    structs = structs_none i;
    globals = map (global_variable (no_tags size seed section main i)) (no_globals size seed section main i);
    params = [];
    locals = record { name = codes "r"; ty = ty.Int } ∷ [];
  }

  scope_is : scope_in section (tree_of size seed section main) ≡ main_scope
  scope_is = λ i. record {
    structs = structs_none i;
    globals = map {A = GlobalTree} (λ global. type_of (no_tags size seed section main i) global.ty)
        (no_globals size seed section main i);
    params = [];
    locals = ty.Int ∷ [];
  }

  module _ (sections : List SectionTree) (number : ℕ) where
    abbrev callees : Callees
    callees = callees_of sections number section

    function_none : function_type_lines section callees (tree_of size seed section main) ≡ []
    function_none =
        (λ i. concat (map (stmt_type_lines (visible_is i) callees (scope_is i) (Some ty.Int)) main.body)) ∙
        body_none callees seed (all_functions size) main.body main.body_is
        (signatures size seed section main sections number) (output_typed size seed section main sections number)

    decls_none : (heads : List HeadTree) →
        concat (map (decl_type_lines section callees) (map decl.Proto heads ++ last_decls size seed section main)) ≡ []
    decls_none [] = ap (λ x. x ++ []) function_none
    decls_none (x ∷ heads) = decls_none heads

    -- `Main` breaks no rule of types, whatever stands beside it
    pub main_typed : section_type_lines section callees ≡ []
    main_typed =
        ap (λ s. concat (map (decl_type_lines section callees) s.decls)) main.is ∙ decls_none main.protos
