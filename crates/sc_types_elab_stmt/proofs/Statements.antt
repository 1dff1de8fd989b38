-- What statements are in a function's body, form by form.
use Rattle.sc_types_elab_stmt.proofs.Common.{CallTree, ExprTree, FunctionScope, List, None, Option, SectionScope}
use Rattle.sc_types_elab_stmt.proofs.Common.{SimpleTree, Some, StmtTree, TypeName, args_in, call_in, called}
use Rattle.sc_types_elab_stmt.proofs.Common.{cells_under, count_in, expr_in, going_to_some, int_pointer, kind_in, map}
use Rattle.sc_types_elab_stmt.proofs.Common.{params_called, part_in, refl, returned_in, rules, simple_in, stmt_in}
use Rattle.sc_types_elab_stmt.proofs.Common.{value_in, ◌≡◌}
use Rattle.sc_ast.specs.declared.stmt.SimpleKind.TheVariants as simple_tree
use Rattle.sc_ast.specs.declared.stmt.StmtTree as trees
use Rattle.sc_ast.specs.declared.stmt.StmtKind as tree
use Rattle.sc_core.specs.declared.stmt.TypedSimpleKind.TheVariants as simple
use Rattle.sc_core.specs.declared.stmt.TypedStmtKind as typed

module _ (section : SectionScope) (function : FunctionScope) where
  pub call_is : (call : CallTree) → call_in section function call ≡ record {
    target = (called section.callees).target call.name;
    args = args_in section function (params_called ((called section.callees).signature call.name)) call.args;
  }
  unfolding call_in args_in
  call_is call = refl

  pub count_none : count_in section function None ≡ None
  unfolding count_in
  count_none = refl

  pub count_some : (count : ExprTree) → count_in section function (Some count) ≡ Some (expr_in section function count)
  unfolding count_in expr_in
  count_some count = refl

  pub returned_is : (value : ExprTree) → returned_in section function value ≡
      going_to_some function.result (expr_in section function value)
  unfolding returned_in expr_in
  returned_is value = refl

  pub simple_assign : (place value : ExprTree) → simple_in section function (simple_tree.Assign place value) ≡
      simple.Assign (expr_in section function place)
      (value_in section function (expr_in section function place).ty value)
  unfolding simple_in expr_in value_in
  simple_assign place value = refl

  pub simple_assign_call : (place : ExprTree) (call : CallTree) →
      simple_in section function (simple_tree.AssignCall place call) ≡
      simple.AssignCall (expr_in section function place) (call_in section function call)
  unfolding simple_in expr_in call_in
  simple_assign_call place call = refl

  pub simple_call : (call : CallTree) → simple_in section function (simple_tree.Call call) ≡
      simple.Call (call_in section function call)
  unfolding simple_in call_in
  simple_call call = refl

  pub simple_malloc : (place : ExprTree) (count : Option ExprTree) (of : TypeName) →
      simple_in section function (simple_tree.Malloc place count of) ≡
      simple.Malloc (expr_in section function place) (count_in section function count)
      (cells_under section.tags section.structs of)
  unfolding simple_in expr_in count_in
  simple_malloc place count of = refl

  pub simple_free : (pointer : ExprTree) → simple_in section function (simple_tree.Free pointer) ≡
      simple.Free (value_in section function int_pointer pointer)
  unfolding simple_in value_in
  simple_free pointer = refl

  pub part_none : part_in section function None ≡ None
  unfolding part_in
  part_none = refl

  pub part_some : (s : SimpleTree) → part_in section function (Some s) ≡
      Some (record { line = s.line; kind = simple_in section function s.kind })
  unfolding part_in simple_in
  part_some s = refl

  pub kind_empty : kind_in section function tree.Empty ≡ typed.Empty
  unfolding kind_in
  kind_empty = search (rules, tree.the_lemmas, trees.the_lemmas)

  pub kind_assign : (place value : ExprTree) → kind_in section function (tree.Assign place value) ≡
      typed.Assign (expr_in section function place)
      (value_in section function (expr_in section function place).ty value)
  unfolding kind_in expr_in value_in
  kind_assign place value = search (rules, tree.the_lemmas, trees.the_lemmas)

  pub kind_assign_call : (place : ExprTree) (call : CallTree) → kind_in section function
      (tree.AssignCall place call) ≡ typed.AssignCall (expr_in section function place) (call_in section function call)
  unfolding kind_in expr_in call_in
  kind_assign_call place call = search (rules, tree.the_lemmas, trees.the_lemmas)

  pub kind_call : (call : CallTree) → kind_in section function (tree.Call call) ≡
      typed.Call (call_in section function call)
  unfolding kind_in call_in
  kind_call call = search (rules, tree.the_lemmas, trees.the_lemmas)

  pub kind_malloc : (place : ExprTree) (count : Option ExprTree) (of : TypeName) →
      kind_in section function (tree.Malloc place count of) ≡ typed.Malloc (expr_in section function place)
      (count_in section function count) (cells_under section.tags section.structs of)
  unfolding kind_in expr_in count_in
  kind_malloc place count of = search (rules, tree.the_lemmas, trees.the_lemmas)

  pub kind_free : (pointer : ExprTree) → kind_in section function (tree.Free pointer) ≡
      typed.Free (value_in section function int_pointer pointer)
  unfolding kind_in value_in
  kind_free pointer = search (rules, tree.the_lemmas, trees.the_lemmas)

  pub kind_if : (cond : ExprTree) (first second : List StmtTree) →
      kind_in section function (tree.If cond first second) ≡ typed.If (expr_in section function cond)
      (map (stmt_in section function) first) (map (stmt_in section function) second)
  unfolding kind_in expr_in stmt_in
  kind_if cond first second = search (rules, tree.the_lemmas, trees.the_lemmas)

  pub kind_while : (cond : ExprTree) (body : List StmtTree) → kind_in section function
      (tree.While cond body) ≡ typed.While (expr_in section function cond) (map (stmt_in section function) body)
  unfolding kind_in expr_in stmt_in
  kind_while cond body = search (rules, tree.the_lemmas, trees.the_lemmas)

  pub kind_for : (first : Option SimpleTree) (cond : ExprTree) (next : Option SimpleTree) (body : List StmtTree) →
      kind_in section function (tree.For first cond next body) ≡ typed.For (part_in section function first)
      (expr_in section function cond) (part_in section function next) (map (stmt_in section function) body)
  unfolding kind_in expr_in part_in stmt_in
  kind_for first cond next body = search (rules, tree.the_lemmas, trees.the_lemmas)

  pub kind_break : kind_in section function tree.Break ≡ typed.Break
  unfolding kind_in
  kind_break = search (rules, tree.the_lemmas, trees.the_lemmas)

  pub kind_continue : kind_in section function tree.Continue ≡ typed.Continue
  unfolding kind_in
  kind_continue = search (rules, tree.the_lemmas, trees.the_lemmas)

  pub kind_return : kind_in section function tree.Return ≡ typed.Return
  unfolding kind_in
  kind_return = search (rules, tree.the_lemmas, trees.the_lemmas)

  pub kind_return_value : (value : ExprTree) → kind_in section function (tree.ReturnValue value) ≡
      typed.ReturnValue (returned_in section function value)
  unfolding kind_in returned_in
  kind_return_value value = search (rules, tree.the_lemmas, trees.the_lemmas)

  pub kind_return_call : (call : CallTree) → kind_in section function (tree.ReturnCall call) ≡
      typed.ReturnCall (call_in section function call)
  unfolding kind_in call_in
  kind_return_call call = search (rules, tree.the_lemmas, trees.the_lemmas)

  pub stmt_is : (s : StmtTree) → stmt_in section function s ≡
      record { line = s.line; kind = kind_in section function s.kind }
  unfolding stmt_in kind_in
  stmt_is s = search (rules, tree.the_lemmas, trees.the_lemmas)

pub ruleset count_forms = (count_none, count_some)

pub ruleset simple_forms = (simple_assign, simple_assign_call, simple_call, simple_malloc, simple_free)

pub ruleset part_forms = (part_none, part_some)

pub ruleset kind_forms = (
  kind_empty,
  kind_assign,
  kind_assign_call,
  kind_call,
  kind_malloc,
  kind_free,
  kind_if,
  kind_while,
  kind_for,
  kind_break,
  kind_continue,
  kind_return,
  kind_return_value,
  kind_return_call,
)
