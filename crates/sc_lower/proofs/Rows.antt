-- Worked programs: the code of each, and what the code means, which is what the program means.
use Rattle.sc_lower.proofs.Common.{Amp, Arrow, AssignCallLine, AssignLine, At, BinaryOp, Blamed, Bool, BreakLine, Call}
use Rattle.sc_lower.proofs.Common.{CallLine, ContinueLine, Cross, Cycle, Done, Dot, EmptyLine, End, Ended, ForLine}
use Rattle.sc_lower.proofs.Common.{Fork, IfLine, In, Input, Interfaces, Line, Lines, List, Lit, Local, NoLine, None}
use Rattle.sc_lower.proofs.Common.{One, Out, Output, Overflow, Own, Plan, Ret, ReturnCallLine, ReturnLine}
use Rattle.sc_lower.proofs.Common.{ReturnValueLine, Shape, Sheet, Some, SourceRun, Star, TacOp, Two, TypedGlobal}
use Rattle.sc_lower.proofs.Common.{TypedStruct, Var, WhileLine, [], across_interfaces, by_plan, c_arith, code_meaning}
use Rattle.sc_lower.proofs.Common.{code_wrapped, codes, false, fetched, give, global, global_of, int_op, int_pointer}
use Rattle.sc_lower.proofs.Common.{ints, lit, local, lowered_program, main_with, meaning, output, param, plan, plus}
use Rattle.sc_lower.proofs.Common.{program, refl, roll-TacStmt, slot, true, word, wrapping, ℕ, ◌∷◌, ◌≡◌}
use Rattle.sc_base.specs.declared.op.BinaryOp.TheVariants as op
use Rattle.sc_base.specs.declared.op.UnaryOp.TheVariants as unary
use Rattle.sc_event.specs.declared.interface.Scalar.TheVariants as scalar
use Rattle.sc_core.specs.declared.ty.BaseTy.TheVariants as base
use Rattle.sc_core.specs.declared.ty.Ty.TheVariants as ty
use Rattle.sc_tac.specs.declared.stmt.Constant.TheVariants as constant
use Rattle.sc_tac.specs.declared.stmt.TacOp.TheVariants as tacop
use Rattle.sc_tac.specs.declared.stmt.TacStmt.TheOpen as tac
use Rattle.sc_tac.proofs.Runs.{only_main}
use Rattle.sc_tac.proofs.Shapes.{Shape as TacShape}
use Rattle.sc_lower.proofs.Plans.{AllEmit, lowered_is}

-- the code and the program come to this
abbrev pub BothMean : Interfaces → List Sheet → List ℕ → (turns events : ℕ) → SourceRun → Type 0
BothMean interfaces sheets inputs turns events run =
    (code_meaning (lowered_program (program interfaces sheets)) inputs turns events ≡ run)
    × (meaning (program interfaces sheets) inputs turns events ≡ run)

abbrev pub sheet : List TypedStruct → List TypedGlobal → List Plan → Sheet
sheet structs globals plans = record { structs = structs; globals = globals; plans = plans }

abbrev pub one_op : TacOp → ℕ → ℕ → TacShape → TacShape
one_op o dest x rest = Line (tac.Op dest o x None) rest

abbrev pub two_op : TacOp → ℕ → ℕ → ℕ → TacShape → TacShape
two_op o dest x y rest = Line (tac.Op dest o x (Some y)) rest

abbrev pub place : ℕ → ℕ → TacShape → TacShape
place dest object rest = Line (tac.ObjectPlace dest object) rest

abbrev pub store : ℕ → ℕ → TacShape → TacShape
store at value rest = Line (tac.Store at value) rest

abbrev pub out : Shape → Lines → Lines
out e rest = CallLine 1 Output (e ∷ []) rest

-- `int x = 7; output(-x); output(!x); output(~x); return x % 4;`
abbrev pub signs : List Sheet
signs =
    sheet [] [] (
    main_with (record { ty = ty.Int; init = Some (lit 7); line = 1 } ∷ [])
    (out (One ty.Int unary.Minus (local 0)) (out (One ty.Int unary.Not (local 0))
    (out (One ty.Int unary.BitNot (local 0))
    (ReturnValueLine 1 (Two ty.Int op.Rem (local 0) (lit 4)) NoLine)))) 1 ∷ []) ∷ []

abbrev pub signs_code : TacShape
signs_code =
    word 0 7 (place 1 0 (store 1 0 (
    fetched 2 0 (one_op (tacop.Unary unary.Minus scalar.Int) 3 2 (output 3 (
    fetched 4 0 (one_op (tacop.Unary unary.Not scalar.Int) 5 4 (output 5 (
    fetched 6 0 (one_op (tacop.Unary unary.BitNot scalar.Int) 7 6 (output 7 (
    fetched 8 0 (word 9 4 (int_op op.Rem 10 8 9 (give 10)))))))))))))))

pub signs_emit : AllEmit signs ((signs_code ∷ []) ∷ [])
unfolding roll-TacStmt denote.Hole.Carrier.roll
signs_emit = ((refl, tt), tt)

pub signs_mean : BothMean only_main signs [] 0 10 (record {
  trace = Out 0 4294967289 ∷ Out 0 0 ∷ Out 0 4294967288 ∷ End 0
      3 ∷ [];
  end = Ended;
})
signs_mean = (
  lowered_is c_arith only_main signs ((signs_code ∷ []) ∷ []) signs_emit [] 0 10,
  by_plan only_main signs [] 0 10,
)

abbrev pub u : Shape
u = Var ty.Unsigned (Local 0)

abbrev pub unsigned_lit : ℕ → Shape
unsigned_lit n = Lit ty.Unsigned n

abbrev pub unsigned_op : BinaryOp → ℕ → ℕ → ℕ → TacShape → TacShape
unsigned_op o dest x y rest = two_op (tacop.Binary o scalar.Unsigned) dest x y rest

-- `unsigned u = 5; if (u == 5 || u / 0) output(1); else output(2); if (u < 6 && !u) output(3); else output(4); return
-- 0;`
abbrev pub choices : List Sheet
choices =
    sheet [] [] (
    main_with (record { ty = ty.Unsigned; init = Some (unsigned_lit 5); line = 1 } ∷ [])
    (IfLine 1 (Two ty.Int op.OrElse (Two ty.Int op.Equal u (unsigned_lit 5))
    (Two ty.Unsigned op.Div u (unsigned_lit 0)))
    (out (lit 1) NoLine) (out (lit 2) NoLine)
    (IfLine 1 (Two ty.Int op.AndAlso (Two ty.Int op.Less u (unsigned_lit 6)) (One ty.Int unary.Not u))
    (out (lit 3) NoLine) (out (lit 4) NoLine)
    (ReturnValueLine 1 (lit 0) NoLine))) 1 ∷ []) ∷ []

abbrev pub choices_code : TacShape
choices_code =
    word 0 5 (place 1 0 (store 1 0 (
    fetched 2 0 (word 3 5 (unsigned_op op.Equal 4 2 3 (
    Fork 4 (word 8 1 Done)
    (fetched 5 0 (word 6 0 (unsigned_op op.Div 7 5 6 (
    one_op (tacop.Unary unary.Not scalar.Unsigned) 8 7 (one_op (tacop.Unary unary.Not scalar.Int) 8 8 Done)))))
    (Fork 8 (word 9 1 (output 9 Done)) (word 10 2 (output 10 Done)) (
    fetched 11 0 (word 12 6 (unsigned_op op.Less 13 11 12 (
    Fork 13
    (fetched 14 0 (one_op (tacop.Unary unary.Not scalar.Unsigned) 15 14 (
    one_op (tacop.Unary unary.Not scalar.Int) 16 15 (one_op (tacop.Unary unary.Not scalar.Int) 16 16 Done))))
    (word 16 0 Done)
    (Fork 16 (word 17 3 (output 17 Done)) (word 18 4 (output 18 Done)) (
    word 19 0 (give 19))))))))))))))

pub choices_emit : AllEmit choices ((choices_code ∷ []) ∷ [])
unfolding roll-TacStmt denote.Hole.Carrier.roll
choices_emit = ((refl, tt), tt)

pub choices_mean : BothMean only_main choices [] 0 10 (record { trace = Out 0 1 ∷ Out 0 4 ∷ End 0 0 ∷ []; end = Ended })
choices_mean = (
  lowered_is c_arith only_main choices ((choices_code ∷ []) ∷ []) choices_emit [] 0 10,
  by_plan only_main choices [] 0 10,
)

-- `for (i = 0; i < 4; i = i + 1) { if (i == 2) continue; output(i); } while (1) { ; break; } return i;`
abbrev pub loops : List Sheet
loops =
    sheet [] [] (
    main_with (slot ty.Int ∷ [])
    (ForLine 1 (local 0) (lit 0) (Two ty.Int op.Less (local 0) (lit 4)) (local 0) (plus (local 0) (lit 1))
    (IfLine 1 (Two ty.Int op.Equal (local 0) (lit 2)) (ContinueLine 1 NoLine) NoLine (out (local 0) NoLine))
    (WhileLine 1 (lit 1) (EmptyLine 1 (BreakLine 1 NoLine))
    (ReturnValueLine 1 (local 0) NoLine))) 1 ∷ []) ∷ []

abbrev pub loops_code : TacShape
loops_code =
    word 0 0 (place 1 0 (store 1 0 (
    Cycle (fetched 2 0 (word 3 4 (int_op op.Less 4 2 3 (Fork 4 Done (Line tac.Break Done) Done))))
    (fetched 5 0 (word 6 2 (int_op op.Equal 7 5 6 (
    Fork 7 (Line tac.Continue Done) Done (fetched 8 0 (output 8 Done))))))
    (fetched 9 0 (word 10 1 (int_op op.Add 11 9 10 (place 12 0 (store 12 11 Done)))))
    (Cycle (word 13 1 (Fork 13 Done (Line tac.Break Done) Done)) (Line tac.Break Done) Done
    (fetched 14 0 (give 14))))))

pub loops_emit : AllEmit loops ((loops_code ∷ []) ∷ [])
unfolding roll-TacStmt denote.Hole.Carrier.roll
loops_emit = ((refl, tt), tt)

pub loops_mean : BothMean only_main loops [] 5 10 (record {
  trace = Out 0 0 ∷ Out 0 1 ∷ Out 0 3 ∷ End 0 4 ∷ [];
  end = Ended;
})
loops_mean =
    (lowered_is c_arith only_main loops ((loops_code ∷ []) ∷ []) loops_emit [] 5 10, by_plan only_main loops [] 5 10)

abbrev pub a : Shape
a = Var (ints 3) (Local 0)

abbrev pub p : Shape
p = Var int_pointer (Local 1)

abbrev pub move : Bool → ℕ → ℕ → ℕ → TacShape → TacShape
move minus dest x y rest = two_op (tacop.PointerMove minus 1 scalar.Int) dest x y rest

abbrev pub pointer_fetched : ℕ → ℕ → TacShape → TacShape
pointer_fetched dest object rest = place dest object (Line (tac.Load dest dest true) rest)

-- `int a[3]; int *p; p = &a[1]; *(p + 1) = 9; *p = 8; output(a[2]); output(p - 1 == a); output(2 + a - p); p = 0;
-- output(!p); output(1 && p); return 0;`
abbrev pub pointers : List Sheet
pointers =
    sheet [] [] (
    main_with (slot (ints 3) ∷ slot int_pointer ∷ [])
    (AssignLine 1 p (Amp int_pointer (At ty.Int a (lit 1)))
    (AssignLine 1 (Star ty.Int (Two int_pointer op.Add p (lit 1))) (lit 9)
    (AssignLine 1 (Star ty.Int p) (lit 8)
    (out (At ty.Int a (lit 2))
    (out (Two ty.Int op.Equal (Two int_pointer op.Sub p (lit 1)) a)
    (out (Two ty.Int op.Sub (Two int_pointer op.Add (lit 2) a) p)
    (AssignLine 1 p (Lit int_pointer 0)
    (out (One ty.Int unary.Not p)
    (out (Two ty.Int op.AndAlso (lit 1) p)
    (ReturnValueLine 1 (lit 0) NoLine)))))))))) 1 ∷ []) ∷ []

abbrev pub pointers_code : TacShape
pointers_code =
    place 0 0 (word 1 1 (move false 2 0 1 (place 3 1 (store 3 2 (
    word 4 9 (pointer_fetched 5 1 (word 6 1 (move false 7 5 6 (store 7 4 (
    word 8 8 (pointer_fetched 9 1 (store 9 8 (
    place 10 0 (word 11 2 (move false 12 10 11 (Line (tac.Load 12 12 false) (output 12 (
    pointer_fetched 13 1 (word 14 1 (move true 15 13 14 (place 16 0 (
    two_op (tacop.PointerCompare op.Equal) 17 15 16 (output 17 (
    word 18 2 (place 19 0 (move false 20 19 18 (pointer_fetched 21 1 (
    two_op (tacop.PointerDifference 1) 22 20 21 (output 22 (
    Line (tac.Const 23 constant.Null) (place 24 1 (store 24 23 (
    pointer_fetched 25 1 (one_op tacop.PointerNot 26 25 (output 26 (
    word 27 1 (
    Fork 27 (pointer_fetched 28 1 (one_op tacop.PointerNot 29 28 (one_op (tacop.Unary unary.Not scalar.Int) 29 29
    Done)))
    (word 29 0 Done)
    (output 29 (word 30 0 (give 30))))))))))))))))))))))))))))))))))))))))

pub pointers_emit : AllEmit pointers ((pointers_code ∷ []) ∷ [])
unfolding roll-TacStmt denote.Hole.Carrier.roll
pointers_emit = ((refl, tt), tt)

pub pointers_mean : BothMean only_main pointers [] 0 10
    (record { trace = Out 0 9 ∷ Out 0 1 ∷ Out 0 1 ∷ Out 0 1 ∷ Out 0 0 ∷ End 0 0 ∷ []; end = Ended })
pointers_mean = (
  lowered_is c_arith only_main pointers ((pointers_code ∷ []) ∷ []) pointers_emit [] 0 10,
  by_plan only_main pointers [] 0 10,
)

-- `struct s { int m; int n; };`
abbrev pub pair : TypedStruct
pair = record {
  name = codes "s";
  members = record { name = codes "m"; ty = ty.Int; offset = 0 } ∷ record {
    name = codes "n";
    ty = ty.Int;
    offset = 1;
  } ∷ [];
  cells = 2;
}

abbrev pub v : Shape
v = Var (ty.Struct 0) (Local 0)

abbrev pub t : Shape
t = Var (ty.Pointer 1 (base.Struct 0)) (Local 1)

abbrev pub member : ℕ → ℕ → TacShape → TacShape
member dest x rest = one_op (tacop.PointerMember 1) dest x rest

-- `int g;` and `struct s v; struct s *t; v.n = 3; t = &v; g = t->n; output(g); output((*t).n);` and the closing brace
abbrev pub members : List Sheet
members =
    sheet (pair ∷ []) (global_of ty.Int ∷ []) (
    main_with (slot (ty.Struct 0) ∷ slot (ty.Pointer 1 (base.Struct 0)) ∷ [])
    (AssignLine 1 (Dot ty.Int v 1) (lit 3)
    (AssignLine 1 t (Amp (ty.Pointer 1 (base.Struct 0)) v)
    (AssignLine 1 (global 0) (Arrow ty.Int t 1)
    (out (global 0)
    (out (Dot ty.Int (Star (ty.Struct 0) t) 1) NoLine))))) 1 ∷ []) ∷ []

abbrev pub members_code : TacShape
members_code =
    word 0 3 (place 1 0 (member 2 1 (store 2 0 (
    place 3 0 (place 4 1 (store 4 3 (
    pointer_fetched 5 1 (member 6 5 (Line (tac.Load 6 6 false) (Line (tac.GlobalPlace 7 0) (store 7 6 (
    Line (tac.GlobalPlace 8 0) (Line (tac.Load 8 8 false) (output 8 (
    pointer_fetched 9 1 (member 10 9 (Line (tac.Load 10 10 false) (output 10 Done))))))))))))))))))

pub members_emit : AllEmit members ((members_code ∷ []) ∷ [])
unfolding roll-TacStmt denote.Hole.Carrier.roll
members_emit = ((refl, tt), tt)

pub members_mean : BothMean only_main members [] 0 10 (record { trace = Out 0 3 ∷ Out 0 3 ∷ End 0 0 ∷ []; end = Ended })
members_mean = (
  lowered_is c_arith only_main members ((members_code ∷ []) ∷ []) members_emit [] 0 10,
  by_plan only_main members [] 0 10,
)

-- `int f(int a) { return a + a; }`, `void h(void) { return; }`, `int k(int a) { return f(a); }`, and
-- `int x; x = input(); x = k(x); h(); output(x); return x;`
abbrev pub helpers : List Sheet
helpers =
    sheet [] [] (
    plan (codes "f") (ty.Int ∷ []) [] (ReturnValueLine 1 (plus (param 0) (param 0)) NoLine) 1 ∷
    record { name = codes "h"; params = []; locals = []; result = None; body = ReturnLine 1 NoLine; close_line = 1 } ∷
    plan (codes "k") (ty.Int ∷ []) [] (ReturnCallLine 1 (Own 0) (param 0 ∷ []) NoLine) 1 ∷
    main_with (slot ty.Int ∷ [])
    (AssignCallLine 1 (local 0) Input []
    (AssignCallLine 1 (local 0) (Own 2) (local 0 ∷ [])
    (CallLine 1 (Own 1) []
    (out (local 0)
    (ReturnValueLine 1 (local 0) NoLine))))) 1 ∷ []) ∷ []

abbrev pub helpers_code : List TacShape
helpers_code =
    fetched 0 0 (fetched 1 0 (int_op op.Add 2 0 1 (give 2))) ∷
    Line (tac.Return None) Done ∷
    fetched 0 0 (Line (tac.CallOwn (Some 1) 0 (0 ∷ [])) (give 1)) ∷
    Line (tac.Input (Some 0)) (place 1 0 (store 1 0 (
    fetched 2 0 (Line (tac.CallOwn (Some 3) 2 (2 ∷ [])) (place 4 0 (store 4 3 (
    Line (tac.CallOwn None 1 []) (
    fetched 5 0 (output 5 (fetched 6 0 (give 6))))))))))) ∷ []

pub helpers_emit : AllEmit helpers (helpers_code ∷ [])
unfolding roll-TacStmt denote.Hole.Carrier.roll
helpers_emit = ((refl, (refl, (refl, (refl, tt)))), tt)

pub helpers_mean : BothMean only_main helpers (21 ∷ []) 3 10 (record {
  trace = In 0 21 ∷ Out 0 42 ∷ End 0 42 ∷ [];
  end = Ended;
})
helpers_mean = (
  lowered_is c_arith only_main helpers (helpers_code ∷ []) helpers_emit (21 ∷ []) 3 10,
  by_plan only_main helpers (21 ∷ []) 3
      10,
)

-- `int x; x = put(9); output(x); return 0;` and, in another compartment, `int put(int a) { return a; }`
abbrev pub across : List Sheet
across =
    sheet [] [] (
    main_with (slot ty.Int ∷ [])
    (AssignCallLine 1 (local 0) (Cross 1 0) (lit 9 ∷ []) (out (local 0) (ReturnValueLine 1 (lit 0) NoLine))) 1 ∷ []) ∷
    sheet [] [] (plan (codes "put") (ty.Int ∷ []) [] (ReturnValueLine 1 (param 0) NoLine) 1 ∷ []) ∷ []

abbrev pub across_code : List (List TacShape)
across_code =
    (word 0 9 (Line (tac.CallCross (Some 1) 1 0 (0 ∷ [])) (place 2 0 (store 2 1 (
    fetched 3 0 (output 3 (word 4 0 (give 4))))))) ∷ []) ∷
    (fetched 0 0 (give 0) ∷ []) ∷ []

pub across_emit : AllEmit across across_code
unfolding roll-TacStmt denote.Hole.Carrier.roll
across_emit = ((refl, tt), ((refl, tt), tt))

pub across_mean : BothMean across_interfaces across [] 1 10
    (record { trace = Call 0 1 0 (9 ∷ []) ∷ Ret 1 0 (Some 9) ∷ Out 0 9 ∷ End 0 0 ∷ []; end = Ended })
across_mean = (
  lowered_is c_arith across_interfaces across across_code across_emit [] 1 10,
  by_plan across_interfaces across [] 1
      10,
)

-- `return 2147483647 + 1;` is blamed, on its line or on none, and wraps
abbrev pub too_large : List Sheet
too_large = sheet [] [] (main_with [] (ReturnValueLine 3 (plus (lit 2147483647) (lit 1)) NoLine) 4 ∷ []) ∷ []

abbrev pub too_large_code : TacShape
too_large_code = word 0 2147483647 (word 1 1 (int_op op.Add 2 0 1 (give 2)))

pub too_large_emit : AllEmit too_large ((too_large_code ∷ []) ∷ [])
unfolding roll-TacStmt denote.Hole.Carrier.roll
too_large_emit = ((refl, tt), tt)

pub too_large_is_blamed : code_meaning (lowered_program (program only_main too_large)) [] 0 10 ≡ record {
  trace = [];
  end = Blamed 0 Overflow 0;
}
too_large_is_blamed = lowered_is c_arith only_main too_large ((too_large_code ∷ []) ∷ []) too_large_emit [] 0 10

pub too_large_was_blamed : meaning (program only_main too_large) [] 0 10 ≡
    record { trace = []; end = Blamed 0 Overflow 3 }
too_large_was_blamed = by_plan only_main too_large [] 0 10

pub too_large_wraps : code_wrapped (lowered_program (program only_main too_large)) [] 0 10
    ≡ record { trace = End 0 2147483648 ∷ []; end = Ended }
too_large_wraps = lowered_is wrapping only_main too_large ((too_large_code ∷ []) ∷ []) too_large_emit [] 0 10
