-- The code of expressions: one temporary for each node at most, numbered upward.
use Rattle.sc_lower.specs.Common.{BinaryOp, Const, Global, GlobalPlace, If, Load, Local, ObjectPlace, Op, Param}
use Rattle.sc_lower.specs.Common.{TacStmt, Ty, TypedExpr, TypedExpr-F, TypedKind-F, TypedStruct, VarRef, fold-TypedExpr}
use Rattle.sc_lower.specs.Common.{is_array, is_pointer, is_unsigned, is_unsigned_op, size_in_bytes, target_cells}
use Rattle.std.specs.Prelude.{ℕ, suc, ◌+◌, Bool, true, false, List, [], ◌∷◌, ◌++◌, None, Some}
use Rattle.std.specs.Prelude.{if◌then◌else◌}
use Rattle.sc_base.specs.declared.op.UnaryOp.{UnaryOp}
use Rattle.sc_base.specs.declared.op.UnaryOp.TheVariants as unary
use Rattle.sc_base.specs.declared.op.BinaryOp.TheVariants as op
use Rattle.sc_event.specs.declared.interface.Scalar.{Scalar}
use Rattle.sc_event.specs.declared.interface.Scalar.TheVariants.{Int, Unsigned}
use Rattle.sc_core.specs.declared.expr.TypedKind.TheOpen as term
use Rattle.sc_core.specs.declared.value.Want.{Want}
use Rattle.sc_core.specs.declared.value.Want.TheVariants as want
use Rattle.sc_tac.specs.declared.stmt.Constant.{Constant}
use Rattle.sc_tac.specs.declared.stmt.Constant.TheVariants as constant
use Rattle.sc_tac.specs.declared.stmt.TacOp.{TacOp}
use Rattle.sc_tac.specs.declared.stmt.TacOp.TheVariants as tacop

-- code, the temporary in which it leaves what it computes, and the next free one
pub record Low : Type 0 where
  pub code : List TacStmt
  pub at : ℕ
  pub next : ℕ

-- code from the first free temporary on
abbrev pub Lows : Type 0
Lows = ℕ → Low

-- code for the place or the value, as it is wanted
abbrev pub Forms : Type 0
Forms = Want → Lows

-- an expression: its type and its code
pub record Lowered : Type 0 where
  pub ty : Ty
  pub form : Forms

-- an expression on its own: its type, and its code at that type
abbrev pub lowered_step : TypedExpr-F (Ty → Forms) Lowered → Lowered
lowered_step e = record { ty = e.ty; form = e.kind e.ty }

-- SHAPES
-- a statement that assigns a temporary and reads none
abbrev pub lone : (ℕ → TacStmt) → Lows
lone make n = record { code = make n ∷ []; at = n; next = suc n }

-- a value, and then a statement that computes from it; a temporary of its own takes the result
abbrev pub from_one : Lows → (ℕ → ℕ → TacStmt) → Lows
from_one a make n = let x = a n in
    record { code = x.code ++ make x.next x.at ∷ []; at = x.next; next = suc x.next }

-- two values, and then a statement that computes from them; a temporary of its own takes the result
abbrev pub from_two : Lows → Lows → (ℕ → ℕ → ℕ → TacStmt) → Lows
from_two a b make n = let x = a n in let y = b x.next in
    record { code = x.code ++ (y.code ++ make y.next x.at y.at ∷ []); at = y.next; next = suc y.next }

-- a value, and then statements that put another in its place
abbrev pub replaced : Lows → (ℕ → List TacStmt) → Lows
replaced a last n = let x = a n in record { code = x.code ++ last x.at; at = x.at; next = x.next }

-- a value, and then a statement that runs the code of a second one where it needs it, and `last` after that; a
-- temporary of its own takes the result
abbrev pub from_first : Lows → Lows → (ℕ → ℕ → List TacStmt) → (ℕ → ℕ → List TacStmt → TacStmt) → Lows
from_first a b last make n = let x = a n in let y = b x.next in
    record { code = x.code ++ make y.next x.at (y.code ++ last y.next y.at) ∷ []; at = y.next; next = suc y.next }

-- a place; its temporary takes what stands there, if that is wanted. The value of an array is its place (C11 6.3.2.1p3)
abbrev pub loaded : Ty → Want → ℕ → List TacStmt
loaded ty want.Place at = []
loaded ty want.Value at = if is_array ty then [] else Load at at (is_pointer ty) ∷ []

abbrev pub at_place : Ty → Lows → Forms
at_place ty place w = replaced place (loaded ty w)

-- an expression that names no place
abbrev pub no_place : Lows → Forms
no_place value w = value

-- the size of a type with that number of cells (C11 6.5.3.4)
abbrev pub size_of : ℕ → Constant
size_of cells = constant.Word (size_in_bytes cells)

-- OPERATORS
abbrev pub scalar_in : Bool → Scalar
scalar_in true = Unsigned
scalar_in false = Int

abbrev pub scalar_of : Ty → Scalar
scalar_of ty = scalar_in (is_unsigned ty)

-- a literal of a pointer type is null (C11 6.3.2.3p3)
abbrev pub constant_of : Ty → ℕ → Constant
constant_of ty word = if is_pointer ty then constant.Null else constant.Word word

abbrev pub place_code : ℕ → VarRef → ℕ → TacStmt
place_code params (Global g) dest = GlobalPlace dest g
place_code params (Param p) dest = ObjectPlace dest p
place_code params (Local l) dest = ObjectPlace dest (params + l)

abbrev pub not_op : Ty → TacOp
not_op ty = if is_pointer ty then tacop.PointerNot else tacop.Unary unary.Not (scalar_of ty)

abbrev pub unary_op : UnaryOp → Ty → TacOp
unary_op unary.Not ty = not_op ty
unary_op o ty = tacop.Unary o (scalar_of ty)

abbrev pub is_sub : BinaryOp → Bool
is_sub op.Sub = true
is_sub o = false

-- an operator between two pointers to elements of `cells` cells
abbrev pub between_op : BinaryOp → ℕ → TacOp
between_op op.Sub cells = tacop.PointerDifference cells
between_op o cells = tacop.PointerCompare o

-- 1 where the value is not 0 or null, else 0 (C11 6.5.13p3)
abbrev pub truth_code : Ty → ℕ → ℕ → List TacStmt
truth_code ty dest value = Op dest (not_op ty) value None ∷ Op dest (tacop.Unary unary.Not Int) dest None ∷ []

-- the second value counts where the first is true, else the result is 0
abbrev pub and_code : ℕ → ℕ → List TacStmt → TacStmt
and_code dest first second = If first second (Const dest (constant.Word 0) ∷ [])

-- the second value counts where the first is false, else the result is 1
abbrev pub or_code : ℕ → ℕ → List TacStmt → TacStmt
or_code dest first second = If first (Const dest (constant.Word 1) ∷ []) second

-- `&&` and `||`, of which the second value doesn't always count
abbrev pub is_logical : BinaryOp → Bool
is_logical op.AndAlso = true
is_logical op.OrElse = true
is_logical o = false

abbrev pub logical_code : BinaryOp → ℕ → ℕ → List TacStmt → TacStmt
logical_code op.AndAlso = and_code
logical_code o = or_code

module _ (structs : List TypedStruct) where
  -- a pointer moved on or back by a number of elements; an integer of the type `index` counts them
  abbrev pub move_op : BinaryOp → (pointer index : Ty) → TacOp
  move_op o pointer index = tacop.PointerMove (is_sub o) (target_cells structs pointer) (scalar_of index)

  -- an operator after a pointer
  abbrev pub pointer_code : BinaryOp → Ty → Ty → (dest x y : ℕ) → TacStmt
  pointer_code o left right dest x y =
      if is_pointer right
      then Op dest (between_op o (target_cells structs left)) x (Some y)
      else Op dest (move_op o left right) x (Some y)

  -- an operator after an integer; in a sum with a pointer the pointer comes first
  abbrev pub integer_code : BinaryOp → Ty → Ty → (dest x y : ℕ) → TacStmt
  integer_code o left right dest x y =
      if is_pointer right
      then Op dest (move_op o right left) y (Some x)
      else Op dest (tacop.Binary o (scalar_in (is_unsigned_op o left right))) x (Some y)

  -- an operator between two values of these types
  abbrev pub binary_code : BinaryOp → Ty → Ty → (dest x y : ℕ) → TacStmt
  binary_code o left right dest x y =
      if is_pointer left then pointer_code o left right dest x y else integer_code o left right dest x y

  abbrev pub binary : BinaryOp → Lowered → Lowered → Lows
  binary op.AndAlso a b = from_first (a.form want.Value) (b.form want.Value) (truth_code b.ty) and_code
  binary op.OrElse a b = from_first (a.form want.Value) (b.form want.Value) (truth_code b.ty) or_code
  binary o a b = from_two (a.form want.Value) (b.form want.Value) (binary_code o a.ty b.ty)

  -- the place of an element (C11 6.5.2.1)
  abbrev pub element : Lowered → Lowered → Lows
  element a b =
      from_two (a.form want.Value) (b.form want.Value) (λ dest x y. Op dest (move_op op.Add a.ty b.ty) x (Some y))

  -- the place of a member, from the place or the pointer of its struct
  abbrev pub member : ℕ → Lows → Lows
  member offset a = from_one a (λ dest x. Op dest (tacop.PointerMember offset) x None)

  module _ (params : ℕ) where
    -- the code of an expression of this type, from that of its parts
    abbrev pub term_step : TypedKind-F (Ty → Forms) Lowered → Ty → Forms
    term_step (term.Literal word) ty = no_place (lone (λ dest. Const dest (constant_of ty word)))
    term_step (term.Variable v) ty = at_place ty (lone (place_code params v))
    term_step (term.Unary o a) ty =
        no_place (from_one (a.form want.Value) (λ dest x. Op dest (unary_op o a.ty) x None))
    term_step (term.Binary o a b) ty = no_place (binary o a b)
    term_step (term.Index a b) ty = at_place ty (element a b)
    term_step (term.Member a offset) ty = at_place ty (member offset (a.form want.Place))
    term_step (term.Arrow a offset) ty = at_place ty (member offset (a.form want.Value))
    term_step (term.Deref a) ty = at_place ty (a.form want.Value)
    term_step (term.Address a) ty = no_place (a.form want.Place)
    term_step (term.SizeOf cells) ty = no_place (lone (λ dest. Const dest (size_of cells)))

    abbrev pub lowered : TypedExpr → Lowered
    lowered = fold-TypedExpr (Ty → Forms) Lowered term_step lowered_step

    -- the code of an expression
    abbrev pub forms : TypedExpr → Forms
    forms e = (lowered e).form
