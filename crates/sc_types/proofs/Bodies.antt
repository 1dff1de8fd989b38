-- Statements that break no rule of names and of types are well typed.
use Rattle.sc_types.proofs.Common.{Bool, CallTree, Callable, Callees, ExprTree, Inside, Known, List, None, Option}
use Rattle.sc_types.proofs.Common.{Scope, SimpleKind, SimpleTree, Some, StmtKind, StmtKind-F, StmtTree, Ty, TypeName}
use Rattle.sc_types.proofs.Common.{TypedStmt, TypedStmtKind, TypedStmtKind-F, Visible, [], and_first, and_from}
use Rattle.sc_types.proofs.Common.{and_rest, ap, arith, assign_call_fits, assign_call_holds, base_known, base_of}
use Rattle.sc_types.proofs.Common.{call_fits, call_holds, call_known, cells_of, concat, count_fits, element_cells}
use Rattle.sc_types.proofs.Common.{expr_known, going_to_some, is_callable, is_target, is_type, judged, kind_fits}
use Rattle.sc_types.proofs.Common.{kind_type_lines, kind_typed, list_all, malloc_fits, malloc_holds, malloc_known, map}
use Rattle.sc_types.proofs.Common.{most_cells, nat_le, option_map, part_fits, part_type_lines, pointer_to, refl}
use Rattle.sc_types.proofs.Common.{result_goes, return_call_holds, returned_call_fits, roll-TypedStmtKind, simple_fits}
use Rattle.sc_types.proofs.Common.{simple_holds, simple_known, stmt_fits, stmt_induction, stmt_type_lines, stmt_typed}
use Rattle.sc_types.proofs.Common.{subst, sym, target_signature, true, type_of_name, typed_call, typed_count}
use Rattle.sc_types.proofs.Common.{typed_freed, typed_simple, typed_simple_kind, typed_stmt, typed_value, ℕ, ◌&&◌, ◌∙◌}
use Rattle.sc_types.proofs.Common.{◌∷◌, ◌≡◌}
use Rattle.sc_core.proofs.Layers.{layer_of, on_line, stmt_at}
use Rattle.sc_ast.specs.declared.stmt.SimpleKind.TheVariants as simple
use Rattle.sc_ast.specs.declared.stmt.StmtKind.TheOpen as tree
use Rattle.sc_ast.proofs.Induction as tree_induction
use Rattle.sc_ast.proofs.Layers as tree_layers
use Rattle.sc_core.specs.declared.stmt.TypedStmtKind.TheOpen as layer
use Rattle.sc_types_scope.specs.Names as names
use Rattle.sc_types_elab_expr.specs.Expressions as elab
use Rattle.sc_types.proofs.Lookups.{rule_holds, no_lines}
use Rattle.sc_types.proofs.Allocated.{malloc_is_fit}
use Rattle.sc_core.proofs.Judged.{judged_ty}

module _ (known : Known) (visible : Visible) (callees : Callees) (scope : Scope) (callable : Callable)
    (same : (name : List ℕ) → is_callable known name ≡ true →
    target_signature callable (callees.target name) ≡ callees.signature name)
    (structs : scope.structs ≡ visible.structs) (small : (t : TypeName) → base_known known.tags t.base ≡ true →
    nat_le (cells_of visible.structs (type_of_name visible.tags t)) most_cells ≡ true) (result : Option Ty) where
  -- Calls.

  call_is : (call : CallTree) → call_known known call ≡ true → call_holds visible callees scope result call ≡ true →
      call_fits callable (typed_call visible callees call).target
      (map (judged scope) (typed_call visible callees call).args) ≡ true
  call_is call in_names holds = grind (arith, same call.name)

  assign_call_is : (place : ExprTree) (call : CallTree) → (expr_known known place && call_known known call) ≡ true →
      assign_call_holds visible callees scope result place call ≡ true →
      assign_call_fits callable (judged scope (elab.typed visible place)) (typed_call visible callees call).target
      (map (judged scope) (typed_call visible callees call).args) ≡ true
  assign_call_is place call in_names holds =
      grind (arith, call_is call, same call.name, judged_ty scope (elab.typed visible place))

  return_call_is : (present : Option Ty) (call : CallTree) → call_known known call ≡ true →
      return_call_holds visible callees scope result present call ≡ true → returned_call_fits callable present
      (typed_call visible callees call).target (map (judged scope) (typed_call visible callees call).args) ≡ true
  return_call_is None call in_names holds = holds
  return_call_is (Some t) call in_names holds =
      and_from _ _ (call_is call in_names (and_first _ _ holds)) (ap (λ signature. result_goes signature t)
      (same call.name (and_first _ _ in_names)) ∙ and_rest (call_holds visible callees scope result call) _ holds)

  -- Allocations.

  malloc_is : (place : ExprTree) (count : Option ExprTree) (of : TypeName) → malloc_known known place count of ≡ true →
      malloc_holds visible callees scope result place count of ≡ true →
      malloc_fits scope.structs (judged scope (elab.typed visible place))
      (option_map (judged scope) (typed_count visible callees count)) (element_cells visible callees of) ≡ true
  malloc_is place count of in_names holds =
      subst (λ all. malloc_fits all (judged scope (elab.typed visible place))
      (option_map (judged scope) (typed_count visible callees count)) (element_cells visible callees of) ≡ true)
      (sym structs) (malloc_is_fit visible.structs (judged scope (elab.typed visible place))
      (option_map (judged scope) (typed_count visible callees count)) of.stars (base_of visible.tags of.base)
      (small of (and_rest _ _ (and_rest _ _ in_names)))
      (subst (λ t. (is_target (judged scope (elab.typed visible place)) &&
      (is_type (pointer_to (type_of_name visible.tags of)) t &&
      count_fits (option_map (judged scope) (typed_count visible callees count)))) ≡ true)
      (sym (judged_ty scope (elab.typed visible place))) holds))

  -- Statements.

  simple_is : (s : SimpleKind) → simple_known known s ≡ true → simple_holds visible callees scope result s ≡ true →
      simple_fits scope callable result (typed_simple_kind visible callees s) ≡ true
  simple_is (simple.Assign place value) in_names holds = holds
  simple_is (simple.AssignCall place call) in_names holds = assign_call_is place call in_names holds
  simple_is (simple.Call call) in_names holds = call_is call in_names holds
  simple_is (simple.Malloc place count of) in_names holds = malloc_is place count of in_names holds
  simple_is (simple.Free pointer) in_names holds = holds

  part_is : (part : Option SimpleTree) → names.part_name_lines known part ≡ [] →
      part_type_lines visible callees scope result part ≡ [] →
      part_fits scope callable result (option_map (typed_simple visible callees) part) ≡ true
  part_is None in_names holds = refl
  part_is (Some s) in_names holds = simple_is s.kind (rule_holds _ s.line in_names) (rule_holds _ s.line holds)

  abbrev Fits : StmtTree → Type 0
  Fits s = (looping : Bool) → names.stmt_name_lines known s looping ≡ [] → stmt_type_lines visible callees scope result
      s ≡ [] →
      stmt_fits scope callable result (typed_stmt visible callees result s) looping ≡ true

  -- statements in order, where each fits
  all_fit : (looping : Bool) (stmts : List StmtTree) →
      tree_induction.Each Fits stmts → names.all_in known looping (map (names.stmt_name_lines known) stmts) ≡ [] →
      concat (map (stmt_type_lines visible callees scope result) stmts) ≡ [] → list_all {X = Bool → Bool}
      (λ s. s looping) (map (stmt_fits scope callable result) (map (typed_stmt visible callees result) stmts)) ≡ true
  all_fit looping [] each in_names holds = refl
  all_fit looping (s ∷ stmts) each in_names holds =
      grind (arith, no_lines, each.0 looping, all_fit looping stmts each.1)

  -- the layer of a statement, where the statements inside have their types
  abbrev Layer : Type 0
  Layer = StmtKind-F StmtKind StmtTree

  abbrev in_names_at : Layer → ℕ → Bool → List ℕ
  in_names_at k = tree_layers.layer_of (ℕ → Bool → List ℕ) (Bool → List ℕ) (names.kind_name_lines known)
      (λ s. s.kind s.line) k

  abbrev lines_at : Layer → ℕ → List ℕ
  lines_at k = tree_layers.layer_of (ℕ → List ℕ) (List ℕ) (kind_type_lines visible callees scope result)
      (λ s. s.kind s.line) k

  abbrev typed_at : Layer → TypedStmtKind
  typed_at k = tree_layers.layer_of TypedStmtKind TypedStmt (kind_typed visible callees result)
      (stmt_typed visible callees result) k

  module _ (line : ℕ) (k : TypedStmtKind-F TypedStmtKind TypedStmt) (looping : Bool) where
    -- a statement of this layer
    fits_at : stmt_fits scope callable result (on_line line k) looping ≡
        layer_of (Bool → Bool) (Bool → Bool) (kind_fits scope callable result) (λ s. s.kind) k looping
    fits_at = ap (λ fits. fits looping) (stmt_at _ _ (kind_fits scope callable result) (λ s. s.kind) line k)

  by_kind : (line : ℕ) (k : Layer) → Inside Fits k → (looping : Bool) → in_names_at k line looping ≡ [] →
      lines_at k line ≡ [] → stmt_fits scope callable result (record { line = line; kind = typed_at k }) looping ≡ true
  unfolding roll-TypedStmtKind denote.Hole.Carrier.roll
  by_kind line tree.Empty under looping in_names holds = fits_at line layer.Empty looping
  by_kind line (tree.Assign place value) under looping in_names holds =
      fits_at line (layer.Assign (elab.typed visible place) (typed_value visible callees place value)) looping ∙
      rule_holds _ line holds
  by_kind line (tree.AssignCall place call) under looping in_names holds =
      fits_at line (layer.AssignCall (elab.typed visible place) (typed_call visible callees call)) looping ∙
      assign_call_is place call (rule_holds _ line in_names) (rule_holds _ line holds)
  by_kind line (tree.Call call) under looping in_names holds =
      fits_at line (layer.Call (typed_call visible callees call)) looping ∙
      call_is call (rule_holds _ line in_names) (rule_holds _ line holds)
  by_kind line (tree.Malloc place count of) under looping in_names holds =
      fits_at line (layer.Malloc (elab.typed visible place) (typed_count visible callees count)
      (element_cells visible callees of)) looping ∙
      malloc_is place count of (rule_holds _ line in_names) (rule_holds _ line holds)
  by_kind line (tree.Free pointer) under looping in_names holds =
      fits_at line (layer.Free (typed_freed visible callees pointer)) looping ∙ rule_holds _ line holds
  by_kind line (tree.If cond first second) under looping in_names holds =
      fits_at line (layer.If (elab.typed visible cond) (map (typed_stmt visible callees result) first)
      (map (typed_stmt visible callees result) second)) looping
      ∙ grind (arith, no_lines, all_fit looping first under.0, all_fit looping second under.1)
  by_kind line (tree.While cond body) under looping in_names holds =
      fits_at line (layer.While (elab.typed visible cond) (map (typed_stmt visible callees result) body)) looping
      ∙ grind (arith, no_lines, all_fit true body under)
  by_kind line (tree.For first cond next body) under looping in_names holds =
      fits_at line (layer.For (option_map (typed_simple visible callees) first) (elab.typed visible cond)
      (option_map (typed_simple visible callees) next) (map (typed_stmt visible callees result) body)) looping
      ∙ grind (arith, no_lines, part_is first, part_is next, all_fit true body under)
  by_kind line tree.Break under looping in_names holds =
      fits_at line layer.Break looping ∙ rule_holds looping line in_names
  by_kind line tree.Continue under looping in_names holds =
      fits_at line layer.Continue looping ∙ rule_holds looping line in_names
  by_kind line tree.Return under looping in_names holds = fits_at line layer.Return looping ∙ rule_holds _ line holds
  by_kind line (tree.ReturnValue value) under looping in_names holds = fits_at line
      (layer.ReturnValue (going_to_some result (elab.typed visible value))) looping ∙ rule_holds _ line holds
  by_kind line (tree.ReturnCall call) under looping in_names holds =
      fits_at line (layer.ReturnCall (typed_call visible callees call)) looping ∙
      return_call_is result call (rule_holds _ line in_names) (rule_holds _ line holds)

  pub fits : (s : StmtTree) → Fits s
  fits = stmt_induction Fits (λ line k under looping in_names holds. ap (λ s. stmt_fits scope callable result s looping)
      (tree_layers.stmt_at _ _ _ (stmt_typed visible callees result) line k) ∙ by_kind line k under looping
      (sym (ap (λ lines. lines looping) (tree_layers.stmt_at _ _ (names.kind_name_lines known) (λ s. s.kind s.line) line
      k))
      ∙ in_names) (sym (tree_layers.stmt_at _ _ _ _ line k) ∙ holds))
