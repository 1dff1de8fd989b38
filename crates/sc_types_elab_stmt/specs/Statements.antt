-- Statements with their types, and the lines of those that break the rules of types (C11 6.8).
use Rattle.sc_types_elab_stmt.specs.Common.{CallTree, Callees, ExprTree, Judged, Scope, Signature, SimpleKind}
use Rattle.sc_types_elab_stmt.specs.Common.{SimpleTree, StmtKind-F, StmtTree, StmtTree-F, Ty, TypeName, TypedCall}
use Rattle.sc_types_elab_stmt.specs.Common.{TypedExpr, TypedSimple, TypedSimpleKind, TypedStmt, TypedStmtKind, Visible}
use Rattle.sc_types_elab_stmt.specs.Common.{args_fit, assign_fits, cells_under, count_fits, fold-StmtTree, going_to}
use Rattle.sc_types_elab_stmt.specs.Common.{is_scalar, is_target, is_type, judged, pointer_to, points, result_goes}
use Rattle.sc_types_elab_stmt.specs.Common.{returned_fits, type_of_name, typed}
use Rattle.sc_base.specs.Prelude.{all_hold}
use Rattle.sc_types_scope.specs.Prelude.{unless}
use Rattle.std.specs.Prelude.{ℕ, Bool, false, ◌&&◌, not, List, [], ◌∷◌, ◌++◌, map, Option, Some, None, is_some}
use Rattle.std.specs.List.{concat}
use Rattle.std.specs.Option.{option_map}
use Rattle.sc_ast.specs.declared.stmt.SimpleKind.TheVariants as simple_tree
use Rattle.sc_ast.specs.declared.stmt.StmtKind.TheOpen as tree
use Rattle.sc_core.specs.declared.ty.Ty.TheVariants as ty
use Rattle.sc_core.specs.declared.ty.BaseTy.TheVariants as base
use Rattle.sc_core.specs.declared.stmt.TypedStmtKind as typed_kind
use Rattle.sc_core.specs.declared.stmt.TypedSimpleKind.TheVariants as simple

-- a value on its way to a place that there may not be
abbrev pub going_to_some : Option Ty → TypedExpr → TypedExpr
going_to_some None e = e
going_to_some (Some place) e = going_to place e

-- the type of a null pointer that is freed
abbrev pub int_pointer : Ty
int_pointer = ty.Pointer 1 base.Int

-- arguments on their way to parameters
abbrev pub going_to_all : List Ty → List TypedExpr → List TypedExpr
going_to_all [] exprs = exprs
going_to_all types [] = []
going_to_all (t ∷ types) (e ∷ exprs) = going_to t e ∷ going_to_all types exprs

abbrev pub params_called : Option Signature → List Ty
params_called None = []
params_called (Some signature) = signature.params

module _ (visible : Visible) (callees : Callees) where
  abbrev pub typed_args : CallTree → List TypedExpr
  typed_args call = going_to_all (params_called (callees.signature call.name)) (map (typed visible) call.args)

  abbrev pub typed_call : CallTree → TypedCall
  typed_call call = record { target = callees.target call.name; args = typed_args call }

  -- the value of an assignment to a place
  abbrev pub typed_value : ExprTree → ExprTree → TypedExpr
  typed_value place value = going_to (typed visible place).ty (typed visible value)

  -- how many elements are allocated, where it stands
  abbrev pub typed_count : Option ExprTree → Option TypedExpr
  typed_count = option_map (typed visible)

  -- the cells of one element
  abbrev pub element_cells : TypeName → ℕ
  element_cells = cells_under visible.tags visible.structs

  -- what is freed: a literal of value 0 is a null pointer there
  abbrev pub typed_freed : ExprTree → TypedExpr
  typed_freed pointer = going_to int_pointer (typed visible pointer)

  abbrev pub typed_simple_kind : SimpleKind → TypedSimpleKind
  typed_simple_kind (simple_tree.Assign place value) = simple.Assign (typed visible place) (typed_value place value)
  typed_simple_kind (simple_tree.AssignCall place call) = simple.AssignCall (typed visible place) (typed_call call)
  typed_simple_kind (simple_tree.Call call) = simple.Call (typed_call call)
  typed_simple_kind (simple_tree.Malloc place count of) =
      simple.Malloc (typed visible place) (typed_count count) (element_cells of)
  typed_simple_kind (simple_tree.Free pointer) = simple.Free (typed_freed pointer)

  abbrev pub typed_simple : SimpleTree → TypedSimple
  typed_simple s = record { line = s.line; kind = typed_simple_kind s.kind }

  module _ (result : Option Ty) where
    abbrev pub kind_typed : StmtKind-F TypedStmtKind TypedStmt → TypedStmtKind
    kind_typed tree.Empty = typed_kind.Empty
    kind_typed (tree.Assign place value) = typed_kind.Assign (typed visible place) (typed_value place value)
    kind_typed (tree.AssignCall place call) = typed_kind.AssignCall (typed visible place) (typed_call call)
    kind_typed (tree.Call call) = typed_kind.Call (typed_call call)
    kind_typed (tree.Malloc place count of) =
        typed_kind.Malloc (typed visible place) (typed_count count) (element_cells of)
    kind_typed (tree.Free pointer) = typed_kind.Free (typed_freed pointer)
    kind_typed (tree.If cond first second) = typed_kind.If (typed visible cond) first second
    kind_typed (tree.While cond body) = typed_kind.While (typed visible cond) body
    kind_typed (tree.For first cond next body) =
        typed_kind.For (option_map typed_simple first) (typed visible cond) (option_map typed_simple next) body
    kind_typed tree.Break = typed_kind.Break
    kind_typed tree.Continue = typed_kind.Continue
    kind_typed tree.Return = typed_kind.Return
    kind_typed (tree.ReturnValue value) = typed_kind.ReturnValue (going_to_some result (typed visible value))
    kind_typed (tree.ReturnCall call) = typed_kind.ReturnCall (typed_call call)

    abbrev pub stmt_typed : StmtTree-F TypedStmtKind TypedStmt → TypedStmt
    stmt_typed s = record { line = s.line; kind = s.kind }

    -- a statement with its types
    abbrev pub typed_stmt : StmtTree → TypedStmt
    typed_stmt = fold-StmtTree TypedStmtKind TypedStmt kind_typed stmt_typed

  -- The rules. Each is judged by what the typed expressions are.
  module _ (scope : Scope) (result : Option Ty) where
    abbrev pub judge : TypedExpr → Judged
    judge = judged scope

    abbrev pub call_holds : CallTree → Bool
    call_holds call = args_fit (callees.signature call.name) (map judge (typed_args call))

    abbrev pub assign_holds : ExprTree → ExprTree → Bool
    assign_holds place value = assign_fits (judge (typed visible place)) (judge (typed_value place value))

    abbrev pub assign_call_holds : ExprTree → CallTree → Bool
    assign_call_holds place call =
        all_hold (
        is_target (judge (typed visible place)) ∷
        call_holds call ∷
        result_goes (callees.signature call.name) (typed visible place).ty ∷ []
        )

    -- a number of elements of a type is allocated for a pointer to this type (C11 7.22.3.4)
    abbrev pub malloc_holds : ExprTree → Option ExprTree → TypeName → Bool
    malloc_holds place count of =
        all_hold (
        is_target (judge (typed visible place)) ∷
        is_type (pointer_to (type_of_name visible.tags of)) (typed visible place).ty ∷
        count_fits (option_map judge (typed_count count)) ∷ []
        )

    -- a pointer is freed (C11 7.22.3.3)
    abbrev pub free_holds : ExprTree → Bool
    free_holds pointer = points (judge (typed_freed pointer))

    abbrev pub cond_holds : ExprTree → Bool
    cond_holds cond = is_scalar (judge (typed visible cond))

    abbrev pub return_call_holds : Option Ty → CallTree → Bool
    return_call_holds None call = false
    return_call_holds (Some t) call = call_holds call && result_goes (callees.signature call.name) t

    abbrev pub return_value_holds : ExprTree → Bool
    return_value_holds value = returned_fits result (judge (going_to_some result (typed visible value)))

    abbrev pub simple_holds : SimpleKind → Bool
    simple_holds (simple_tree.Assign place value) = assign_holds place value
    simple_holds (simple_tree.AssignCall place call) = assign_call_holds place call
    simple_holds (simple_tree.Call call) = call_holds call
    simple_holds (simple_tree.Malloc place count of) = malloc_holds place count of
    simple_holds (simple_tree.Free pointer) = free_holds pointer

    -- the lines of a part of `for`
    abbrev pub part_type_lines : Option SimpleTree → List ℕ
    part_type_lines None = []
    part_type_lines (Some s) = unless (simple_holds s.kind) s.line

    -- the lines of a kind of statement at a line, where those of the statements inside are known
    abbrev pub kind_type_lines : StmtKind-F (ℕ → List ℕ) (List ℕ) → ℕ → List ℕ
    kind_type_lines (tree.Assign place value) line = unless (assign_holds place value) line
    kind_type_lines (tree.AssignCall place call) line = unless (assign_call_holds place call) line
    kind_type_lines (tree.Call call) line = unless (call_holds call) line
    kind_type_lines (tree.Malloc place count of) line = unless (malloc_holds place count of) line
    kind_type_lines (tree.Free pointer) line = unless (free_holds pointer) line
    kind_type_lines (tree.If cond first second) line = unless (cond_holds cond) line ++ (concat first ++ concat second)
    kind_type_lines (tree.While cond body) line = unless (cond_holds cond) line ++ concat body
    kind_type_lines (tree.For first cond next body) line =
        part_type_lines first ++ (unless (cond_holds cond) line ++ (part_type_lines next ++ concat body))
    kind_type_lines tree.Return line = unless (not (is_some result)) line
    kind_type_lines (tree.ReturnValue value) line = unless (return_value_holds value) line
    kind_type_lines (tree.ReturnCall call) line = unless (return_call_holds result call) line
    kind_type_lines _ line = []

    -- the lines of the statements that break rules of types, in a statement
    abbrev pub stmt_type_lines : StmtTree → List ℕ
    stmt_type_lines = fold-StmtTree (ℕ → List ℕ) (List ℕ) kind_type_lines (λ s. s.kind s.line)
