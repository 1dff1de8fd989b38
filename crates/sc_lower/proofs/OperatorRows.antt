-- Worked programs: each operator of `int`, of `unsigned int` and of pointers.
use Rattle.sc_lower.proofs.Common.{Amp, Arrow, AssignLine, At, BinaryOp, Bool, Done, Dot, End, Ended, Fork, Line, Lines}
use Rattle.sc_lower.proofs.Common.{List, Lit, Local, NoLine, One, Out, ReturnValueLine, Scalar, Shape, Sheet, Slot}
use Rattle.sc_lower.proofs.Common.{Some, Two, Ty, Var, [], by_plan, c_arith, false, fetched, give, int_op, int_pointer}
use Rattle.sc_lower.proofs.Common.{ints, lit, local, main_with, output, refl, roll-TacStmt, slot, true, word, ℕ, ◌+◌}
use Rattle.sc_lower.proofs.Common.{◌∷◌}
use Rattle.sc_base.specs.declared.op.BinaryOp.TheVariants as op
use Rattle.sc_base.specs.declared.op.UnaryOp.TheVariants as unary
use Rattle.sc_event.specs.declared.interface.Scalar.TheVariants as scalar
use Rattle.sc_core.specs.declared.ty.BaseTy.TheVariants as base
use Rattle.sc_core.specs.declared.ty.Ty.TheVariants as ty
use Rattle.sc_tac.specs.declared.stmt.TacOp.TheVariants as tacop
use Rattle.sc_tac.specs.declared.stmt.TacStmt.TheOpen as tac
use Rattle.sc_tac.proofs.Runs.{only_main}
use Rattle.sc_tac.proofs.Shapes.{Shape as TacShape}
use Rattle.sc_lower.proofs.Plans.{AllEmit, lowered_is}
use Rattle.sc_lower.proofs.Rows.{BothMean, a, member, move, one_op, out, p, pair, place, pointer_fetched, sheet, store}
use Rattle.sc_lower.proofs.Rows.{two_op, unsigned_lit}

abbrev pub begun : Ty → Shape → Slot
begun ty init = record { ty = ty; init = Some init; line = 1 }

abbrev pub returned : Lines
returned = ReturnValueLine 1 (lit 0) NoLine

abbrev pub zero_given : ℕ → TacShape
zero_given n = word n 0 (give n)

abbrev pub sums : List BinaryOp
sums =
    op.BitOr ∷ op.BitXor ∷ op.BitAnd ∷ op.ShiftLeft ∷ op.ShiftRight ∷ op.Add ∷ op.Sub ∷ op.Mul ∷ op.Div ∷ op.Rem ∷ []

abbrev pub comparisons : List BinaryOp
comparisons = op.Equal ∷ op.NotEqual ∷ op.Less ∷ op.Greater ∷ op.LessEqual ∷ op.GreaterEqual ∷ []

-- `output(x o 3);` for each operator, where `x` is the first local
abbrev pub outs : (operand result : Ty) → List BinaryOp → Lines → Lines
outs operand result [] rest = rest
outs operand result (o ∷ os) rest =
    out (Two result o (Var operand (Local 0)) (Lit operand 3)) (outs operand result os rest)

abbrev pub outs_code : Scalar → List BinaryOp → (ℕ → TacShape) → ℕ → TacShape
outs_code s [] rest n = rest n
outs_code s (o ∷ os) rest n =
    fetched n 0 (word (n + 1) 3 (two_op (tacop.Binary o s) (n + 2) n (n + 1) (output (n + 2) (
    outs_code s os rest (n + 3)))))

-- `int x = 13;`, `output(x | 3);` and so on for each operator, `return 0;`
abbrev pub of_int : List Sheet
of_int =
    sheet [] [] (main_with (begun ty.Int (lit 13) ∷ [])
    (outs ty.Int ty.Int sums (outs ty.Int ty.Int comparisons returned)) 1 ∷ []) ∷ []

abbrev pub of_int_code : TacShape
of_int_code =
    word 0 13 (place 1 0 (store 1 0 (
    outs_code scalar.Int sums (outs_code scalar.Int comparisons zero_given) 2)))

pub of_int_emit : AllEmit of_int ((of_int_code ∷ []) ∷ [])
unfolding roll-TacStmt denote.Hole.Carrier.roll
of_int_emit = ((refl, tt), tt)

pub of_int_mean : BothMean only_main of_int [] 0 20 (record {
  trace =
      Out 0 15 ∷ Out 0 14 ∷ Out 0 1 ∷ Out 0 104 ∷ Out 0 1 ∷ Out 0 16 ∷ Out 0 10 ∷ Out 0 39 ∷ Out 0 4 ∷ Out 0 1 ∷
      Out 0 0 ∷ Out 0 1 ∷ Out 0 0 ∷ Out 0 1 ∷ Out 0 0 ∷ Out 0 1 ∷ End 0 0 ∷ [];
  end = Ended;
})
of_int_mean = (
  lowered_is c_arith only_main of_int ((of_int_code ∷ []) ∷ []) of_int_emit [] 0 20,
  by_plan only_main of_int [] 0 20,
)

-- the same of `unsigned int x = 4294967293;`
abbrev pub of_unsigned : List Sheet
of_unsigned =
    sheet [] [] (main_with (begun ty.Unsigned (unsigned_lit 4294967293) ∷ [])
    (outs ty.Unsigned ty.Unsigned sums (outs ty.Unsigned ty.Int comparisons returned)) 1 ∷ []) ∷ []

abbrev pub of_unsigned_code : TacShape
of_unsigned_code =
    word 0 4294967293 (place 1 0 (store 1 0 (
    outs_code scalar.Unsigned sums (outs_code scalar.Unsigned comparisons zero_given) 2)))

pub of_unsigned_emit : AllEmit of_unsigned ((of_unsigned_code ∷ []) ∷ [])
unfolding roll-TacStmt denote.Hole.Carrier.roll
of_unsigned_emit = ((refl, tt), tt)

pub of_unsigned_mean : BothMean only_main of_unsigned [] 0 20 (record {
  trace =
      Out 0 4294967295 ∷ Out 0 4294967294 ∷ Out 0 1 ∷ Out 0 4294967272 ∷ Out 0 536870911 ∷ Out 0 0 ∷
      Out 0 4294967290 ∷ Out 0 4294967287 ∷ Out 0 1431655764 ∷ Out 0 1 ∷
      Out 0 0 ∷ Out 0 1 ∷ Out 0 0 ∷ Out 0 1 ∷ Out 0 0 ∷ Out 0 1 ∷ End 0 0 ∷ [];
  end = Ended;
})
of_unsigned_mean = (
  lowered_is c_arith only_main of_unsigned ((of_unsigned_code ∷ []) ∷ []) of_unsigned_emit [] 0 20,
  by_plan only_main of_unsigned [] 0 20,
)

-- those whose result hangs on the sign, of `int x = -13;`
abbrev pub below_zero : List Sheet
below_zero =
    sheet [] [] (main_with (begun ty.Int (One ty.Int unary.Minus (lit 13)) ∷ [])
    (outs ty.Int ty.Int (op.ShiftRight ∷ op.Mul ∷ op.Div ∷ op.Rem ∷ op.Less ∷ op.Greater ∷ []) returned) 1 ∷ []) ∷ []

abbrev pub below_zero_code : TacShape
below_zero_code =
    word 0 13 (one_op (tacop.Unary unary.Minus scalar.Int) 1 0 (place 2 0 (store 2 1 (
    outs_code scalar.Int (op.ShiftRight ∷ op.Mul ∷ op.Div ∷ op.Rem ∷ op.Less ∷ op.Greater ∷ []) zero_given 3))))

pub below_zero_emit : AllEmit below_zero ((below_zero_code ∷ []) ∷ [])
unfolding roll-TacStmt denote.Hole.Carrier.roll
below_zero_emit = ((refl, tt), tt)

pub below_zero_mean : BothMean only_main below_zero [] 0 10 (record {
  trace =
      Out 0 4294967294 ∷ Out 0 4294967257 ∷ Out 0 4294967292 ∷ Out 0 4294967295 ∷ Out 0 1 ∷ Out 0 0 ∷ End 0 0 ∷ [];
  end = Ended;
})
below_zero_mean = (
  lowered_is c_arith only_main below_zero ((below_zero_code ∷ []) ∷ []) below_zero_emit [] 0 10,
  by_plan only_main below_zero [] 0 10,
)

abbrev pub u : Shape
u = Var ty.Unsigned (Local 1)

-- `int x = 7; unsigned int u = 1; output(+x); output(-u); output(+u); output(~u); return 0;`
abbrev pub with_one : List Sheet
with_one =
    sheet [] [] (main_with (begun ty.Int (lit 7) ∷ begun ty.Unsigned (unsigned_lit 1) ∷ [])
    (out (One ty.Int unary.Plus (local 0))
    (out (One ty.Unsigned unary.Minus u)
    (out (One ty.Unsigned unary.Plus u)
    (out (One ty.Unsigned unary.BitNot u) returned)))) 1 ∷ []) ∷ []

abbrev pub with_one_code : TacShape
with_one_code =
    word 0 7 (place 1 0 (store 1 0 (word 2 1 (place 3 1 (store 3 2 (
    fetched 4 0 (one_op (tacop.Unary unary.Plus scalar.Int) 5 4 (output 5 (
    fetched 6 1 (one_op (tacop.Unary unary.Minus scalar.Unsigned) 7 6 (output 7 (
    fetched 8 1 (one_op (tacop.Unary unary.Plus scalar.Unsigned) 9 8 (output 9 (
    fetched 10 1 (one_op (tacop.Unary unary.BitNot scalar.Unsigned) 11 10 (output 11 (
    zero_given 12))))))))))))))))))

pub with_one_emit : AllEmit with_one ((with_one_code ∷ []) ∷ [])
unfolding roll-TacStmt denote.Hole.Carrier.roll
with_one_emit = ((refl, tt), tt)

pub with_one_mean : BothMean only_main with_one [] 0 10 (record {
  trace = Out 0 7 ∷ Out 0 4294967295 ∷ Out 0 1 ∷ Out 0 4294967294 ∷ End 0 0 ∷ [];
  end = Ended;
})
with_one_mean = (
  lowered_is c_arith only_main with_one ((with_one_code ∷ []) ∷ []) with_one_emit [] 0 10,
  by_plan only_main with_one [] 0 10,
)

abbrev pub truth : ℕ → ℕ → TacShape
truth dest x =
    one_op (tacop.Unary unary.Not scalar.Int) dest x (one_op (tacop.Unary unary.Not scalar.Int) dest dest Done)

-- `int x = 0; output(x && 1 / x); output(x || 3); output(x || x); output(5 && 3); return 0;`
abbrev pub logic : List Sheet
logic =
    sheet [] [] (main_with (begun ty.Int (lit 0) ∷ [])
    (out (Two ty.Int op.AndAlso (local 0) (Two ty.Int op.Div (lit 1) (local 0)))
    (out (Two ty.Int op.OrElse (local 0) (lit 3))
    (out (Two ty.Int op.OrElse (local 0) (local 0))
    (out (Two ty.Int op.AndAlso (lit 5) (lit 3)) returned)))) 1 ∷ []) ∷ []

abbrev pub logic_code : TacShape
logic_code =
    word 0 0 (place 1 0 (store 1 0 (
    fetched 2 0 (Fork 2 (word 3 1 (fetched 4 0 (int_op op.Div 5 3 4 (truth 6 5)))) (word 6 0 Done) (output 6 (
    fetched 7 0 (Fork 7 (word 9 1 Done) (word 8 3 (truth 9 8)) (output 9 (
    fetched 10 0 (Fork 10 (word 12 1 Done) (fetched 11 0 (truth 12 11)) (output 12 (
    word 13 5 (Fork 13 (word 14 3 (truth 15 14)) (word 15 0 Done) (output 15 (
    zero_given 16)))))))))))))))

pub logic_emit : AllEmit logic ((logic_code ∷ []) ∷ [])
unfolding roll-TacStmt denote.Hole.Carrier.roll
logic_emit = ((refl, tt), tt)

pub logic_mean : BothMean only_main logic [] 0 10
    (record { trace = Out 0 0 ∷ Out 0 1 ∷ Out 0 0 ∷ Out 0 1 ∷ End 0 0 ∷ []; end = Ended })
logic_mean = (
  lowered_is c_arith only_main logic ((logic_code ∷ []) ∷ []) logic_emit [] 0 10,
  by_plan only_main logic [] 0 10,
)

-- `output(p o a);` for each operator, where the locals are `int a[3]` and `int *p`
abbrev pub orders : List BinaryOp → Lines → Lines
orders [] rest = rest
orders (o ∷ os) rest = out (Two ty.Int o p a) (orders os rest)

abbrev pub orders_code : List BinaryOp → ℕ → TacShape
orders_code [] n = zero_given n
orders_code (o ∷ os) n =
    pointer_fetched n 1 (place (n + 1) 0 (two_op (tacop.PointerCompare o) (n + 2) n (n + 1) (output (n + 2) (
    orders_code os (n + 3)))))

-- `int a[3]; int *p = &a[2];`, `output(p == a);` and so on for each comparison, `return 0;`
abbrev pub of_pointers : List Sheet
of_pointers =
    sheet [] [] (main_with (slot (ints 3) ∷ begun int_pointer (Amp int_pointer (At ty.Int a (lit 2))) ∷ [])
    (orders comparisons returned) 1 ∷ []) ∷ []

abbrev pub of_pointers_code : TacShape
of_pointers_code =
    place 0 0 (word 1 2 (move false 2 0 1 (place 3 1 (store 3 2 (orders_code comparisons 4)))))

pub of_pointers_emit : AllEmit of_pointers ((of_pointers_code ∷ []) ∷ [])
unfolding roll-TacStmt denote.Hole.Carrier.roll
of_pointers_emit = ((refl, tt), tt)

pub of_pointers_mean : BothMean only_main of_pointers [] 0 10 (record {
  trace = Out 0 0 ∷ Out 0 1 ∷ Out 0 0 ∷ Out 0 1 ∷ Out 0 0 ∷ Out 0 1 ∷ End 0 0 ∷ [];
  end = Ended;
})
of_pointers_mean = (
  lowered_is c_arith only_main of_pointers ((of_pointers_code ∷ []) ∷ []) of_pointers_emit [] 0 10,
  by_plan only_main of_pointers [] 0 10,
)

abbrev pub pair_pointer : Ty
pair_pointer = ty.Pointer 1 (base.Struct 0)

abbrev pub pairs : Shape
pairs = Var (ty.Array 0 (base.Struct 0) 3) (Local 0)

abbrev pub t : Shape
t = Var pair_pointer (Local 1)

-- `struct s x[3]; struct s *t; t = x + 2u; t = t - 1u; t[1u].n = 8; output((1u + t)->n); output(t - x); return 0;`
abbrev pub steps : List Sheet
steps =
    sheet (pair ∷ []) [] (main_with (slot (ty.Array 0 (base.Struct 0) 3) ∷ slot pair_pointer ∷ [])
    (AssignLine 1 t (Two pair_pointer op.Add pairs (unsigned_lit 2))
    (AssignLine 1 t (Two pair_pointer op.Sub t (unsigned_lit 1))
    (AssignLine 1 (Dot ty.Int (At (ty.Struct 0) t (unsigned_lit 1)) 1) (lit 8)
    (out (Arrow ty.Int (Two pair_pointer op.Add (unsigned_lit 1) t) 1)
    (out (Two ty.Int op.Sub t pairs) returned))))) 1 ∷ []) ∷ []

abbrev pub two_further : Bool → ℕ → ℕ → ℕ → TacShape → TacShape
two_further minus dest x y rest = two_op (tacop.PointerMove minus 2 scalar.Unsigned) dest x y rest

abbrev pub steps_code : TacShape
steps_code =
    place 0 0 (word 1 2 (two_further false 2 0 1 (place 3 1 (store 3 2 (
    pointer_fetched 4 1 (word 5 1 (two_further true 6 4 5 (place 7 1 (store 7 6 (
    word 8 8 (pointer_fetched 9 1 (word 10 1 (two_further false 11 9 10 (member 12 11 (store 12 8 (
    word 13 1 (pointer_fetched 14 1 (two_further false 15 14 13 (member 16 15 (
    Line (tac.Load 16 16 false) (output 16 (
    pointer_fetched 17 1 (place 18 0 (two_op (tacop.PointerDifference 2) 19 17 18 (output 19 (
    zero_given 20))))))))))))))))))))))))))

pub steps_emit : AllEmit steps ((steps_code ∷ []) ∷ [])
unfolding roll-TacStmt denote.Hole.Carrier.roll
steps_emit = ((refl, tt), tt)

pub steps_mean : BothMean only_main steps [] 0 10 (record { trace = Out 0 8 ∷ Out 0 1 ∷ End 0 0 ∷ []; end = Ended })
steps_mean = (
  lowered_is c_arith only_main steps ((steps_code ∷ []) ∷ []) steps_emit [] 0 10,
  by_plan only_main steps [] 0 10,
)
