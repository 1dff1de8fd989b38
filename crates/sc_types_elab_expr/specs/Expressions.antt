-- Expressions with their types (C11 6.5). Where an expression breaks the rules of types, it gets some type that doesn't
-- fit.
use Rattle.sc_types_elab_expr.specs.Common.{ExprTree, ExprTree-F, Global, Ty, TypedExpr, TypedMember, common, decayed}
use Rattle.sc_types_elab_expr.specs.Common.{fold-ExprTree, fold-TypedExpr, is_pointer, pointer_to, target}
use Rattle.sc_ast.specs.Prelude.{Number}
use Rattle.std.specs.Prelude.{ℕ, zero, Bool, true, false, ◌&&◌, if◌then◌else◌, Option, Some, None}
use Rattle.std.specs.Option.{option_map_or}
use Rattle.sc_base.specs.declared.op.UnaryOp.{UnaryOp}
use Rattle.sc_base.specs.declared.op.UnaryOp.TheVariants as unary
use Rattle.sc_base.specs.declared.op.BinaryOp.{BinaryOp}
use Rattle.sc_base.specs.declared.op.BinaryOp.TheVariants as op
use Rattle.sc_ast.specs.declared.expr.ExprTree.TheOpen as tree
use Rattle.sc_core.specs.declared.ty.Ty.TheVariants as ty
use Rattle.sc_core.specs.declared.ty.BaseTy.TheVariants as base
use Rattle.sc_core.specs.declared.expr.TypedKind
use Rattle.sc_core.specs.declared.expr.TypedKind.{TypedKind-F}
use Rattle.sc_core.specs.declared.expr.TypedKind.TheOpen as term
use Rattle.sc_types_elab_expr.specs.Scopes.{Visible, Found, variable_named, member_named, struct_of}
use Rattle.sc_types_elab_expr.specs.TypeNames.{cells_under}

-- the type of what isn't there: a pointer without a `*`, which nothing has, so that nothing fits it
abbrev pub no_ty : Ty
no_ty = ty.Pointer 0 base.Int

-- a type, where there is one
abbrev pub or_int : Option Ty → Ty
or_int None = ty.Int
or_int (Some t) = t

-- the type of a sum or a difference: of two pointers it is `int` (a difference; a sum of two doesn't fit)
abbrev pub moved_ty : Ty → Ty → Ty
moved_ty a b =
    if is_pointer a then (if is_pointer b then ty.Int else decayed a) else if is_pointer b then decayed b else
    common a b

abbrev pub binary_ty : BinaryOp → Ty → Ty → Ty
binary_ty op.OrElse a b = ty.Int
binary_ty op.AndAlso a b = ty.Int
binary_ty op.Equal a b = ty.Int
binary_ty op.NotEqual a b = ty.Int
binary_ty op.Less a b = ty.Int
binary_ty op.Greater a b = ty.Int
binary_ty op.LessEqual a b = ty.Int
binary_ty op.GreaterEqual a b = ty.Int
binary_ty op.ShiftLeft a b = a
binary_ty op.ShiftRight a b = a
binary_ty op.Add a b = moved_ty a b
binary_ty op.Sub a b = moved_ty a b
binary_ty o a b = common a b

abbrev pub unary_ty : UnaryOp → Ty → Ty
unary_ty unary.Not a = ty.Int
unary_ty o a = a

-- a literal of value 0
abbrev pub zero_step : TypedKind-F Bool Bool → Bool
zero_step (term.Literal zero) = true
zero_step _ = false

abbrev pub is_zero_literal : TypedExpr → Bool
is_zero_literal = fold-TypedExpr Bool Bool zero_step (λ e. e.kind)

-- where a pointer goes, a literal of value 0 is a null pointer (C11 6.3.2.3p3)
abbrev pub going_to : Ty → TypedExpr → TypedExpr
going_to place e = if is_pointer place && is_zero_literal e then record { ty = decayed place; kind = e.kind } else e

-- both operands of `==` and `!=` may be null beside a pointer
abbrev pub beside : BinaryOp → Ty → TypedExpr → TypedExpr
beside op.Equal other e = going_to other e
beside op.NotEqual other e = going_to other e
beside o other e = e

abbrev pub literal_typed : Number → TypedExpr
literal_typed number = record {
  ty = if number.unsigned then ty.Unsigned else ty.Int;
  kind = TypedKind.Literal number.value;
}

-- the bytes of a value with that number of cells (C11 6.5.3.4)
abbrev pub sizeof_typed : (cells : ℕ) → TypedExpr
sizeof_typed cells = record { ty = ty.Unsigned; kind = TypedKind.SizeOf cells }

abbrev pub variable_typed : Option Found → TypedExpr
variable_typed None = record { ty = no_ty; kind = TypedKind.Variable (Global 0) }
variable_typed (Some f) = record { ty = f.ty; kind = TypedKind.Variable f.variable }

abbrev pub binary_typed : BinaryOp → TypedExpr → TypedExpr → TypedExpr
binary_typed o a b =
    record { ty = binary_ty o a.ty b.ty; kind = TypedKind.Binary o (beside o b.ty a) (beside o a.ty b) }

abbrev pub member_ty : Option TypedMember → Ty
member_ty member = option_map_or (λ m. m.ty) member no_ty

abbrev pub member_offset : Option TypedMember → ℕ
member_offset member = option_map_or (λ m. m.offset) member 0

module _ (visible : Visible) where
  abbrev pub expr_typed : ExprTree-F TypedExpr → TypedExpr
  expr_typed (tree.Literal number) = literal_typed number
  expr_typed (tree.Variable name) = variable_typed (variable_named visible name)
  expr_typed (tree.Unary o e) = record { ty = unary_ty o e.ty; kind = TypedKind.Unary o e }
  expr_typed (tree.Binary o a b) = binary_typed o a b
  expr_typed (tree.Index a b) = record { ty = or_int (target (decayed a.ty)); kind = TypedKind.Index a b }
  expr_typed (tree.Member a name) =
      let member = member_named name (struct_of visible.structs (Some a.ty)) in
      record { ty = member_ty member; kind = TypedKind.Member a (member_offset member) }
  expr_typed (tree.Arrow a name) =
      let member = member_named name (struct_of visible.structs (target (decayed a.ty))) in
      record { ty = member_ty member; kind = TypedKind.Arrow a (member_offset member) }
  expr_typed (tree.Deref e) = record { ty = or_int (target (decayed e.ty)); kind = TypedKind.Deref e }
  expr_typed (tree.Address e) = record { ty = or_int (pointer_to e.ty); kind = TypedKind.Address e }
  expr_typed (tree.SizeOf of) = sizeof_typed (cells_under visible.tags visible.structs of)

  -- an expression with its types
  abbrev pub typed : ExprTree → TypedExpr
  typed = fold-ExprTree TypedExpr expr_typed
