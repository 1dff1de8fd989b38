-- Which expressions and statements have their types (C11 6.5 to 6.8).
use Rattle.sc_core.specs.Common.{BinaryOp, Import, Interfaces, Proto, Scalar, UnaryOp, all_hold, export_at}
use Rattle.std.specs.Prelude.{ℕ, zero, suc, ◌-◌, ◌^◌, Bool, true, false, not, ◌&&◌, ◌||◌, ◌==◌, nat_lt, nat_le, List}
use Rattle.std.specs.Prelude.{[], ◌∷◌, map, length, Option, None, Some, is_some, option_map, slice_get}
use Rattle.std.specs.List.{list_any, list_all}
use Rattle.sc_event.specs.declared.interface.Scalar.TheVariants as scalar
use Rattle.sc_event.specs.declared.interface.Import.TheVariants as import
use Rattle.sc_base.specs.declared.op.UnaryOp.TheVariants as unary
use Rattle.sc_base.specs.declared.op.BinaryOp.TheVariants as op
use Rattle.sc_core.specs.declared.ty.Ty.{Ty}
use Rattle.sc_core.specs.declared.ty.Ty.TheVariants as ty
use Rattle.sc_core.specs.declared.ty.BaseTy.{BaseTy}
use Rattle.sc_core.specs.declared.ty.BaseTy.TheVariants as base
use Rattle.sc_core.specs.declared.expr.TypedExpr.{TypedExpr, fold-TypedExpr}
use Rattle.sc_core.specs.declared.expr.TypedKind.{TypedKind-F}
use Rattle.sc_core.specs.declared.expr.TypedKind.TheOpen as term
use Rattle.sc_core.specs.declared.expr.VarRef.{VarRef}
use Rattle.sc_core.specs.declared.expr.VarRef.TheVariants.{Global, Param, Local}
use Rattle.sc_core.specs.declared.expr.CallTarget.{CallTarget}
use Rattle.sc_core.specs.declared.expr.CallTarget.TheVariants.{Own, Cross, Input, Output}
use Rattle.sc_core.specs.declared.stmt.TypedStmt.{TypedStmt, fold-TypedStmt}
use Rattle.sc_core.specs.declared.stmt.TypedStmtKind.{TypedStmtKind-F}
use Rattle.sc_core.specs.declared.stmt.TypedStmtKind.TheOpen as layer
use Rattle.sc_core.specs.declared.stmt.TypedSimple.{TypedSimple}
use Rattle.sc_core.specs.declared.stmt.TypedSimpleKind.{TypedSimpleKind}
use Rattle.sc_core.specs.declared.stmt.TypedSimpleKind.TheVariants as simple
use Rattle.sc_core.specs.declared.section.TypedStruct.{TypedStruct}
use Rattle.sc_core.specs.declared.section.TypedMember.{TypedMember}
use Rattle.sc_core.specs.declared.section.TypedParam.{TypedParam}
use Rattle.sc_core.specs.declared.section.TypedFunction.{TypedFunction}
use Rattle.sc_core.specs.Types.{is_pointer, most_cells, target_cells}

abbrev pub same_base : BaseTy → BaseTy → Bool
same_base base.Int base.Int = true
same_base base.Unsigned base.Unsigned = true
same_base (base.Struct m) (base.Struct n) = m == n
same_base _ _ = false

abbrev pub same_ty : Ty → Ty → Bool
same_ty ty.Int ty.Int = true
same_ty ty.Unsigned ty.Unsigned = true
same_ty (ty.Struct m) (ty.Struct n) = m == n
same_ty (ty.Pointer stars a) (ty.Pointer more b) = stars == more && same_base a b
same_ty (ty.Array stars a length) (ty.Array more b count) =
    all_hold ((stars == more) ∷ same_base a b ∷ (length == count) ∷ [])
same_ty _ _ = false

abbrev pub is_type : Option Ty → Ty → Bool
is_type None b = false
is_type (Some a) b = same_ty a b

abbrev pub is_integer : Ty → Bool
is_integer ty.Int = true
is_integer ty.Unsigned = true
is_integer _ = false

-- a type with this number of `*`
abbrev pub starred : ℕ → BaseTy → Ty
starred zero base.Int = ty.Int
starred zero base.Unsigned = ty.Unsigned
starred zero (base.Struct n) = ty.Struct n
starred (suc stars) base = ty.Pointer (suc stars) base

-- the type of the value of a place: an array gives a pointer to its first element (C11 6.3.2.1p3)
abbrev pub decayed : Ty → Ty
decayed (ty.Array stars base length) = ty.Pointer (suc stars) base
decayed ty = ty

-- what a pointer points to
abbrev pub target : Ty → Option Ty
target (ty.Pointer stars base) = Some (starred (stars - 1) base)
target _ = None

-- a pointer to a place of this type; the place of an array has none
abbrev pub pointer_to : Ty → Option Ty
pointer_to ty.Int = Some (ty.Pointer 1 base.Int)
pointer_to ty.Unsigned = Some (ty.Pointer 1 base.Unsigned)
pointer_to (ty.Struct n) = Some (ty.Pointer 1 (base.Struct n))
pointer_to (ty.Pointer stars base) = Some (ty.Pointer (suc stars) base)
pointer_to (ty.Array stars base length) = None

-- the type of a result of two integers: `unsigned int` if one is (C11 6.3.1.8)
abbrev pub common : Ty → Ty → Ty
common ty.Unsigned b = ty.Unsigned
common a ty.Unsigned = ty.Unsigned
common a b = ty.Int

-- an expression: its type, whether it has it, and whether it is a place or a null pointer
pub record Judged : Type 0 where
  pub ty : Ty
  pub fits : Bool
  pub place : Bool
  pub null : Bool

-- a value that is no place, and no null pointer
abbrev pub value_judged : Ty → Bool → Judged
value_judged t holds = record { ty = t; fits = holds; place = false; null = false }

abbrev pub place_judged : Ty → Bool → Judged
place_judged t holds = record { ty = t; fits = holds; place = true; null = false }

abbrev pub is_int : Judged → Bool
is_int e = e.fits && is_integer e.ty

abbrev pub points : Judged → Bool
points e = e.fits && is_pointer e.ty

-- a pointer that is no literal
abbrev pub is_address : Judged → Bool
is_address e = points e && not e.null

-- what may be a condition (C11 6.2.5p21)
abbrev pub is_scalar : Judged → Bool
is_scalar e = is_int e || is_address e

abbrev pub both_ints : Judged → Judged → Bool
both_ints a b = is_int a && is_int b

abbrev pub same_pointers : Judged → Judged → Bool
same_pointers a b = same_ty (decayed a.ty) (decayed b.ty)

-- `==` and `!=` also take a pointer and a null pointer, but not two of these (C11 6.5.9p2)
abbrev pub are_equatable : Judged → Judged → Bool
are_equatable a b =
    both_ints a b ||
    all_hold (points a ∷ points b ∷ same_pointers a b ∷ not (a.null && b.null) ∷ [])

-- what `<` and the like compare (C11 6.5.8p2)
abbrev pub are_ordered : Judged → Judged → Bool
are_ordered a b =
    both_ints a b ||
    all_hold (is_address a ∷ is_address b ∷ same_pointers a b ∷ [])

-- a sum of two integers, or of a pointer and an integer (C11 6.5.6p2)
abbrev pub sum_fits : Judged → Judged → Ty → Bool
sum_fits a b t =
    both_ints a b && same_ty t (common a.ty b.ty) ||
    all_hold (is_address a ∷ is_int b ∷ same_ty t (decayed a.ty) ∷ []) ||
    all_hold (is_int a ∷ is_address b ∷ same_ty t (decayed b.ty) ∷ [])

-- a difference of two integers, of a pointer and an integer, or of two pointers (C11 6.5.6p3)
abbrev pub difference_fits : Judged → Judged → Ty → Bool
difference_fits a b t =
    both_ints a b && same_ty t (common a.ty b.ty) ||
    all_hold (is_address a ∷ is_int b ∷ same_ty t (decayed a.ty) ∷ []) ||
    all_hold (is_address a ∷ is_address b ∷ same_pointers a b ∷ same_ty t ty.Int ∷ [])

-- whether an operator gives this type (C11 6.5.5 to 6.5.14)
abbrev pub binary_fits : BinaryOp → Judged → Judged → Ty → Bool
binary_fits op.OrElse a b t = all_hold (is_scalar a ∷ is_scalar b ∷ same_ty t ty.Int ∷ [])
binary_fits op.AndAlso a b t = all_hold (is_scalar a ∷ is_scalar b ∷ same_ty t ty.Int ∷ [])
binary_fits op.Equal a b t = are_equatable a b && same_ty t ty.Int
binary_fits op.NotEqual a b t = are_equatable a b && same_ty t ty.Int
binary_fits op.Less a b t = are_ordered a b && same_ty t ty.Int
binary_fits op.Greater a b t = are_ordered a b && same_ty t ty.Int
binary_fits op.LessEqual a b t = are_ordered a b && same_ty t ty.Int
binary_fits op.GreaterEqual a b t = are_ordered a b && same_ty t ty.Int
binary_fits op.ShiftLeft a b t = both_ints a b && same_ty t a.ty
binary_fits op.ShiftRight a b t = both_ints a b && same_ty t a.ty
binary_fits op.Add a b t = sum_fits a b t
binary_fits op.Sub a b t = difference_fits a b t
binary_fits o a b t = both_ints a b && same_ty t (common a.ty b.ty)

abbrev pub unary_fits : UnaryOp → Judged → Ty → Bool
unary_fits unary.Not a t = is_scalar a && same_ty t ty.Int
unary_fits o a t = is_int a && same_ty t a.ty

-- a literal of type `int` is at most 2147483647; one of a pointer type is 0 (C11 6.3.2.3p3, 6.4.4.1)
abbrev pub literal_fits : ℕ → Ty → Bool
literal_fits word ty.Int = nat_le word 2147483647
literal_fits word ty.Unsigned = nat_lt word (2 ^ 32)
literal_fits word (ty.Pointer stars base) = word == 0
literal_fits word _ = false

abbrev pub has_member : Option TypedStruct → ℕ → Ty → Bool
has_member None offset t = false
has_member (Some s) offset t = list_any {X = TypedMember} (λ m. m.offset == offset && same_ty m.ty t) s.members

-- what may be named in a function: the structs, and the types of the variables
pub record Scope : Type 0 where
  pub structs : List TypedStruct
  pub globals : List Ty
  pub params : List Ty
  pub locals : List Ty

abbrev pub variable_ty : Scope → VarRef → Option Ty
variable_ty scope (Global n) = slice_get scope.globals n
variable_ty scope (Param n) = slice_get scope.params n
variable_ty scope (Local n) = slice_get scope.locals n

abbrev pub member_of : Scope → Option Ty → ℕ → Ty → Bool
member_of scope (Some (ty.Struct n)) offset t = has_member (slice_get scope.structs n) offset t
member_of scope _ offset t = false

module _ (scope : Scope) where
  -- an expression of this type, from its parts (C11 6.5.2, 6.5.3)
  abbrev pub term_judged : TypedKind-F (Ty → Judged) Judged → Ty → Judged
  term_judged (term.Literal word) t =
      record { ty = t; fits = literal_fits word t; place = false; null = is_pointer t }
  term_judged (term.Variable v) t = place_judged t (is_type (variable_ty scope v) t)
  term_judged (term.Unary o a) t = value_judged t (unary_fits o a t)
  term_judged (term.Binary o a b) t = value_judged t (binary_fits o a b t)
  term_judged (term.Index a b) t =
      place_judged t (all_hold (is_address a ∷ is_int b ∷ is_type (target (decayed a.ty)) t ∷ []))
  term_judged (term.Member a offset) t =
      place_judged t (all_hold (a.fits ∷ a.place ∷ member_of scope (Some a.ty) offset t ∷ []))
  term_judged (term.Arrow a offset) t =
      place_judged t (is_address a && member_of scope (target (decayed a.ty)) offset t)
  term_judged (term.Deref a) t = place_judged t (is_address a && is_type (target (decayed a.ty)) t)
  term_judged (term.Address a) t = value_judged t (all_hold (a.fits ∷ a.place ∷ is_type (pointer_to a.ty) t ∷ []))
  term_judged (term.SizeOf cells) t =
      value_judged t (nat_le cells most_cells && same_ty t ty.Unsigned)

  abbrev pub judged : TypedExpr → Judged
  judged = fold-TypedExpr (Ty → Judged) Judged term_judged (λ e. e.kind e.ty)

-- a value of one type goes into a place of another: between integers, or the same pointer type (C11 6.5.16.1)
abbrev pub type_goes : Ty → Ty → Bool
type_goes place value =
    is_integer place && is_integer value || is_pointer place && same_ty place value

abbrev pub goes_into : Ty → Judged → Bool
goes_into place e = e.fits && type_goes place (decayed e.ty)

abbrev pub all_go_into : List Ty → List Judged → Bool
all_go_into [] [] = true
all_go_into (t ∷ types) (e ∷ exprs) = goes_into t e && all_go_into types exprs
all_go_into _ _ = false

-- the types of a function's parameters and of its result
pub record Signature : Type 0 where
  pub params : List Ty
  pub result : Option Ty

abbrev pub scalar_ty : Scalar → Ty
scalar_ty scalar.Int = ty.Int
scalar_ty scalar.Unsigned = ty.Unsigned

abbrev pub result_ty : Option Scalar → Option Ty
result_ty None = None
result_ty (Some s) = Some (scalar_ty s)

abbrev pub signature_of : TypedFunction → Signature
signature_of f = record { params = map {A = TypedParam} (λ p. p.ty) f.params; result = f.result }

abbrev pub proto_signature : Proto → Signature
proto_signature proto = record { params = map scalar_ty proto.params; result = result_ty proto.result }

abbrev pub same_import : Import → Import → Bool
same_import import.Input import.Input = true
same_import import.Output import.Output = true
same_import (import.Function comp index) (import.Function to place) = comp == to && index == place
same_import _ _ = false

abbrev pub option_signature : {A : Type 0} → (A → Signature) → Option A → Option Signature
option_signature f None = None
option_signature f (Some x) = Some (f x)

-- the signature, where the test holds
abbrev pub allowed : Bool → Option Signature → Option Signature
allowed true signature = signature
allowed false signature = None

-- what may be called in a section: its functions, and what it imports
pub record Callable : Type 0 where
  pub interfaces : Interfaces
  pub imports : List Import
  pub functions : List Signature

abbrev pub target_signature : Callable → CallTarget → Option Signature
target_signature callable (Own n) = slice_get callable.functions n
target_signature callable (Cross comp index) =
    allowed (list_any (same_import (import.Function comp index)) callable.imports)
    (option_signature proto_signature (export_at callable.interfaces comp index))
target_signature callable Input =
    allowed (list_any (same_import import.Input) callable.imports)
    (Some (record { params = []; result = Some ty.Int }))
target_signature callable Output =
    allowed (list_any (same_import import.Output) callable.imports)
    (Some (record { params = ty.Int ∷ []; result = None }))

-- the arguments go into the parameters (C11 6.5.2.2p2)
abbrev pub args_fit : Option Signature → List Judged → Bool
args_fit None args = false
args_fit (Some signature) args = all_go_into signature.params args

abbrev pub option_goes : Option Ty → Ty → Bool
option_goes None place = false
option_goes (Some t) place = type_goes place t

-- what is called has a result that goes into a place of this type
abbrev pub result_goes : Option Signature → Ty → Bool
result_goes None place = false
result_goes (Some signature) place = option_goes signature.result place

-- a place that can be stored to
abbrev pub is_target : Judged → Bool
is_target e = e.fits && e.place

-- a value into a place (C11 6.5.16.1)
abbrev pub assign_fits : Judged → Judged → Bool
assign_fits place e = is_target place && goes_into place.ty e

-- the number of elements that are allocated, where it stands
abbrev pub count_fits : Option Judged → Bool
count_fits None = true
count_fits (Some e) = is_int e

-- a place for a pointer to elements of `cells` cells each, and how many of them are allocated (C11 7.22.3.4)
abbrev pub malloc_fits : List TypedStruct → Judged → Option Judged → (cells : ℕ) → Bool
malloc_fits structs place count cells =
    all_hold (
    is_target place ∷
    is_some (target place.ty) ∷
    (target_cells structs place.ty == cells) ∷
    nat_le cells most_cells ∷
    count_fits count ∷ []
    )

-- a value that is returned from a function with this result (C11 6.8.6.4)
abbrev pub returned_fits : Option Ty → Judged → Bool
returned_fits None e = false
returned_fits (Some t) e = goes_into t e

module _ (callable : Callable) where
  abbrev pub call_fits : CallTarget → List Judged → Bool
  call_fits target args = args_fit (target_signature callable target) args

  abbrev pub assign_call_fits : Judged → CallTarget → List Judged → Bool
  assign_call_fits place target args =
      all_hold (
      is_target place ∷
      call_fits target args ∷
      result_goes (target_signature callable target) place.ty ∷ []
      )

  abbrev pub returned_call_fits : Option Ty → CallTarget → List Judged → Bool
  returned_call_fits None target args = false
  returned_call_fits (Some t) target args = call_fits target args && result_goes (target_signature callable target) t

module _ (scope : Scope) (callable : Callable) (result : Option Ty) where
  abbrev pub simple_fits : TypedSimpleKind → Bool
  simple_fits (simple.Assign place e) = assign_fits (judged scope place) (judged scope e)
  simple_fits (simple.AssignCall place c) =
      assign_call_fits callable (judged scope place) c.target (map (judged scope) c.args)
  simple_fits (simple.Call c) = call_fits callable c.target (map (judged scope) c.args)
  simple_fits (simple.Malloc place count cells) =
      malloc_fits scope.structs (judged scope place) (option_map (judged scope) count) cells
  simple_fits (simple.Free e) = points (judged scope e)

  abbrev pub part_fits : Option TypedSimple → Bool
  part_fits None = true
  part_fits (Some s) = simple_fits s.kind

  -- whether a statement has its types, in a loop or outside (C11 6.8)
  abbrev pub kind_fits : TypedStmtKind-F (Bool → Bool) (Bool → Bool) → Bool → Bool
  kind_fits layer.Empty looping = true
  kind_fits (layer.Assign place e) looping = assign_fits (judged scope place) (judged scope e)
  kind_fits (layer.AssignCall place c) looping =
      assign_call_fits callable (judged scope place) c.target (map (judged scope) c.args)
  kind_fits (layer.Call c) looping = call_fits callable c.target (map (judged scope) c.args)
  kind_fits (layer.Malloc place count cells) looping =
      malloc_fits scope.structs (judged scope place) (option_map (judged scope) count) cells
  kind_fits (layer.Free e) looping = points (judged scope e)
  kind_fits (layer.If cond first second) looping =
      all_hold (
      is_scalar (judged scope cond) ∷
      list_all {X = Bool → Bool} (λ s. s looping) first ∷
      list_all {X = Bool → Bool} (λ s. s looping) second ∷ []
      )
  kind_fits (layer.While cond body) looping =
      is_scalar (judged scope cond) && list_all {X = Bool → Bool} (λ s. s true) body
  kind_fits (layer.For first cond next body) looping =
      all_hold (
      part_fits first ∷
      is_scalar (judged scope cond) ∷
      part_fits next ∷
      list_all {X = Bool → Bool} (λ s. s true) body ∷ []
      )
  kind_fits layer.Break looping = looping
  kind_fits layer.Continue looping = looping
  kind_fits layer.Return looping = not (is_some result)
  kind_fits (layer.ReturnValue e) looping = returned_fits result (judged scope e)
  kind_fits (layer.ReturnCall c) looping = returned_call_fits callable result c.target (map (judged scope) c.args)

  abbrev pub stmt_fits : TypedStmt → Bool → Bool
  stmt_fits = fold-TypedStmt (Bool → Bool) (Bool → Bool) kind_fits (λ s. s.kind)

  -- the statements of a function's body
  abbrev pub body_fits : List TypedStmt → Bool
  body_fits body = list_all {X = TypedStmt} (λ s. stmt_fits s false) body

-- an initialiser of a local stands only at an integer or a pointer (C11 6.7.9p11)
abbrev pub init_fits : Scope → Ty → Option TypedExpr → Bool
init_fits scope t None = true
init_fits scope t (Some e) = goes_into t (judged scope e)
