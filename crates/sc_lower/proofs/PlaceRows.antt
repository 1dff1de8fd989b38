-- Worked programs: each form of place, also in one another, and calls into and out of them.
use Rattle.sc_lower.proofs.Common.{Amp, Arrow, AssignCallLine, AssignLine, At, Call, CallLine, Cross, Done, Dot, End}
use Rattle.sc_lower.proofs.Common.{Ended, Fork, Global, IfLine, In, Input, Interfaces, Line, List, Local, NoLine, None}
use Rattle.sc_lower.proofs.Common.{Out, Own, Param, Ret, ReturnCallLine, ReturnLine, ReturnValueLine, Shape}
use Rattle.sc_lower.proofs.Common.{Sheet, Some, Star, Two, Ty, TypedStruct, Var, [], by_plan, c_arith, codes, false}
use Rattle.sc_lower.proofs.Common.{fetched, give, global, global_of, int_op, int_pointer, ints, lit, local, main_with}
use Rattle.sc_lower.proofs.Common.{output, param, plan, plus, refl, roll-TacStmt, slot, true, word, ℕ, ◌∷◌}
use Rattle.sc_base.specs.declared.op.BinaryOp.TheVariants as op
use Rattle.sc_event.specs.declared.interface.Import.TheVariants as import
use Rattle.sc_event.specs.declared.interface.Scalar.TheVariants as scalar
use Rattle.sc_core.specs.declared.ty.BaseTy.TheVariants as base
use Rattle.sc_core.specs.declared.ty.Ty.TheVariants as ty
use Rattle.sc_tac.specs.declared.stmt.TacOp.TheVariants as tacop
use Rattle.sc_tac.specs.declared.stmt.TacStmt.TheOpen as tac
use Rattle.sc_tac.proofs.Runs.{only_main}
use Rattle.sc_tac.proofs.Shapes.{Shape as TacShape}
use Rattle.sc_lower.proofs.Plans.{AllEmit, lowered_is}
use Rattle.sc_lower.proofs.Rows.{BothMean, move, one_op, out, pair, place, pointer_fetched, sheet, store, two_op}

-- `struct box { struct s p; int a[3]; };`
abbrev pub box : TypedStruct
box = record {
  name = codes "box";
  members = record { name = codes "p"; ty = ty.Struct 0; offset = 0 } ∷ record {
    name = codes "a";
    ty = ints 3;
    offset = 2;
  } ∷ [];
  cells = 5;
}

abbrev pub boxes_ty : Ty
boxes_ty = ty.Array 0 (base.Struct 1) 2

abbrev pub box_pointer : Ty
box_pointer = ty.Pointer 1 (base.Struct 1)

abbrev pub g : Shape
g = Var (ints 2) (Global 0)

abbrev pub boxes : Shape
boxes = Var boxes_ty (Local 0)

abbrev pub t : Shape
t = Var box_pointer (Local 1)

abbrev pub r : Shape
r = Var int_pointer (Local 2)

abbrev pub q : Shape
q = Var (ty.Pointer 2 base.Int) (Local 3)

abbrev pub w : Shape
w = Var (ty.Array 1 base.Int 2) (Local 4)

-- `int g[2];` and
-- `struct box b[2]; struct box *t; int *r; int **q; int *w[2];
-- g[1] = 4; b[1].a[2] = 5; t = b + 1; t->p.n = 6; r = &t->a[1]; *r = 7; q = &r; w[1] = r;
-- output(**q); output(r[1]); output(t[0].p.n); output((*t).a[1]); output(*&g[1]); output(*w[1]); return (&t->p)->n;`
abbrev pub places : List Sheet
places =
    sheet (pair ∷ box ∷ []) (global_of (ints 2) ∷ []) (
    main_with (slot boxes_ty ∷ slot box_pointer ∷ slot int_pointer ∷ slot (ty.Pointer 2 base.Int) ∷
    slot (ty.Array 1 base.Int 2) ∷ [])
    (AssignLine 1 (At ty.Int g (lit 1)) (lit 4)
    (AssignLine 1 (At ty.Int (Dot (ints 3) (At (ty.Struct 1) boxes (lit 1)) 2) (lit 2)) (lit 5)
    (AssignLine 1 t (Two box_pointer op.Add boxes (lit 1))
    (AssignLine 1 (Dot ty.Int (Arrow (ty.Struct 0) t 0) 1) (lit 6)
    (AssignLine 1 r (Amp int_pointer (At ty.Int (Arrow (ints 3) t 2) (lit 1)))
    (AssignLine 1 (Star ty.Int r) (lit 7)
    (AssignLine 1 q (Amp (ty.Pointer 2 base.Int) r)
    (AssignLine 1 (At int_pointer w (lit 1)) r
    (out (Star ty.Int (Star int_pointer q))
    (out (At ty.Int r (lit 1))
    (out (Dot ty.Int (Dot (ty.Struct 0) (At (ty.Struct 1) t (lit 0)) 0) 1)
    (out (At ty.Int (Dot (ints 3) (Star (ty.Struct 1) t) 2) (lit 1))
    (out (Star ty.Int (Amp int_pointer (At ty.Int g (lit 1))))
    (out (Star ty.Int (At int_pointer w (lit 1)))
    (ReturnValueLine 1 (Arrow ty.Int (Amp (ty.Pointer 1 (base.Struct 0)) (Arrow (ty.Struct 0) t 0)) 1)
    NoLine))))))))))))))) 1 ∷ []) ∷ []

abbrev pub five_further : ℕ → ℕ → ℕ → TacShape → TacShape
five_further dest x y rest = two_op (tacop.PointerMove false 5 scalar.Int) dest x y rest

abbrev pub member_at : ℕ → ℕ → ℕ → TacShape → TacShape
member_at offset dest x rest = one_op (tacop.PointerMember offset) dest x rest

abbrev pub load : ℕ → TacShape → TacShape
load at rest = Line (tac.Load at at false) rest

abbrev pub places_code : TacShape
places_code =
    word 0 4 (Line (tac.GlobalPlace 1 0) (word 2 1 (move false 3 1 2 (store 3 0 (
    word 4 5 (place 5 0 (word 6 1 (five_further 7 5 6 (member_at 2 8 7 (word 9 2 (move false 10 8 9 (store 10 4 (
    place 11 0 (word 12 1 (five_further 13 11 12 (place 14 1 (store 14 13 (
    word 15 6 (pointer_fetched 16 1 (member_at 0 17 16 (member_at 1 18 17 (store 18 15 (
    pointer_fetched 19 1 (member_at 2 20 19 (word 21 1 (move false 22 20 21 (place 23 2 (store 23 22 (
    word 24 7 (pointer_fetched 25 2 (store 25 24 (
    place 26 2 (place 27 3 (store 27 26 (
    pointer_fetched 28 2 (place 29 4 (word 30 1 (move false 31 29 30 (store 31 28 (
    pointer_fetched 32 3 (Line (tac.Load 32 32 true) (load 32 (output 32 (
    pointer_fetched 33 2 (word 34 1 (move false 35 33 34 (load 35 (output 35 (
    pointer_fetched 36 1 (word 37 0 (five_further 38 36 37 (member_at 0 39 38 (member_at 1 40 39 (load 40 (output 40 (
    pointer_fetched 41 1 (member_at 2 42 41 (word 43 1 (move false 44 42 43 (load 44 (output 44 (
    Line (tac.GlobalPlace 45 0) (word 46 1 (move false 47 45 46 (load 47 (output 47 (
    place 48 4 (word 49 1 (move false 50 48 49 (Line (tac.Load 50 50 true) (load 50 (output 50 (
    pointer_fetched 51 1 (member_at 0 52 51 (member_at 1 53 52 (load 53 (
    give 53)))))))))))))))))))))))))))))))))))))))))))))))))))))))))))))))))))))))))))))

pub places_emit : AllEmit places ((places_code ∷ []) ∷ [])
unfolding roll-TacStmt denote.Hole.Carrier.roll
places_emit = ((refl, tt), tt)

pub places_mean : BothMean only_main places [] 0 10 (record {
  trace = Out 0 7 ∷ Out 0 5 ∷ Out 0 6 ∷ Out 0 7 ∷ Out 0 4 ∷ Out 0 7 ∷ End 0 6 ∷ [];
  end = Ended;
})
places_mean = (
  lowered_is c_arith only_main places ((places_code ∷ []) ∷ []) places_emit [] 0 10,
  by_plan only_main places [] 0 10,
)

abbrev pub x : Shape
x = Var int_pointer (Param 1)

-- `int f(int a, int *x) { int i; a = a + 1; x[1] = a; i = a; if (x) i = i + 1; return i; }` and
-- `int a[2]; int i; i = f(6, a); output(a[1]); return i;`
abbrev pub parameters : List Sheet
parameters =
    sheet [] [] (
    plan (codes "f") (ty.Int ∷ int_pointer ∷ []) (slot ty.Int ∷ [])
    (AssignLine 1 (param 0) (plus (param 0) (lit 1))
    (AssignLine 1 (At ty.Int x (lit 1)) (param 0)
    (AssignLine 1 (local 0) (param 0)
    (IfLine 1 x (AssignLine 1 (local 0) (plus (local 0) (lit 1)) NoLine) NoLine
    (ReturnValueLine 1 (local 0) NoLine))))) 1 ∷
    main_with (slot (ints 2) ∷ slot ty.Int ∷ [])
    (AssignCallLine 1 (local 1) (Own 0) (lit 6 ∷ Var (ints 2) (Local 0) ∷ [])
    (out (At ty.Int (Var (ints 2) (Local 0)) (lit 1))
    (ReturnValueLine 1 (local 1) NoLine))) 1 ∷ []) ∷ []

abbrev pub parameters_code : List TacShape
parameters_code =
    fetched 0 0 (word 1 1 (int_op op.Add 2 0 1 (place 3 0 (store 3 2 (
    fetched 4 0 (pointer_fetched 5 1 (word 6 1 (move false 7 5 6 (store 7 4 (
    fetched 8 0 (place 9 2 (store 9 8 (
    pointer_fetched 10 1 (
    Fork 10 (fetched 11 2 (word 12 1 (int_op op.Add 13 11 12 (place 14 2 (store 14 13 Done))))) Done (
    fetched 15 2 (give 15)))))))))))))))) ∷
    word 0 6 (place 1 0 (Line (tac.CallOwn (Some 2) 0 (0 ∷ 1 ∷ [])) (place 3 1 (store 3 2 (
    place 4 0 (word 5 1 (move false 6 4 5 (load 6 (output 6 (
    fetched 7 1 (give 7))))))))))) ∷ []

pub parameters_emit : AllEmit parameters (parameters_code ∷ [])
unfolding roll-TacStmt denote.Hole.Carrier.roll
parameters_emit = ((refl, (refl, tt)), tt)

pub parameters_mean : BothMean only_main parameters [] 1 10 (record { trace = Out 0 7 ∷ End 0 8 ∷ []; end = Ended })
parameters_mean = (
  lowered_is c_arith only_main parameters (parameters_code ∷ []) parameters_emit [] 1 10,
  by_plan only_main parameters [] 1 10,
)

-- CALLS
abbrev pub asked_interfaces : Interfaces
asked_interfaces = record {
  comps =
      record {
        name = codes "Main";
        exports = [];
        imports = import.Function 1 0 ∷ import.Function 1 1 ∷ import.Input ∷ import.Output ∷ [];
      } ∷
      record {
        name = codes "Net";
        exports =
            record { name = codes "less"; params = scalar.Int ∷ scalar.Int ∷ []; result = Some scalar.Int } ∷
            record { name = codes "tell"; params = scalar.Int ∷ []; result = None } ∷ [];
        imports = [];
      } ∷ [];
  main = 0;
}

abbrev pub y : Shape
y = Var int_pointer (Local 1)

abbrev pub v : Shape
v = Var (ty.Struct 0) (Local 2)

-- `int g;`, `int ask(void) { return input(); }` and
-- `int a[2]; int *y; struct s v;
-- y = a; g = input(); a[1] = less(g, 3); *y = less(a[1], g); tell(*y); less(1, 2); input(); output(a[0]); v.n = ask();
-- return less(a[0], v.n);`
-- In another compartment `int less(int a, int b) { return a - b; }` and `void emit_event(int a) { return; }`
abbrev pub asked : List Sheet
asked =
    sheet (pair ∷ []) (global_of ty.Int ∷ []) (
    plan (codes "ask") [] [] (ReturnCallLine 1 Input [] NoLine) 1 ∷
    main_with (slot (ints 2) ∷ slot int_pointer ∷ slot (ty.Struct 0) ∷ [])
    (AssignLine 1 y (Var (ints 2) (Local 0))
    (AssignCallLine 1 (global 0) Input []
    (AssignCallLine 1 (At ty.Int (Var (ints 2) (Local 0)) (lit 1)) (Cross 1 0) (global 0 ∷ lit 3 ∷ [])
    (AssignCallLine 1 (Star ty.Int y) (Cross 1 0) (At ty.Int (Var (ints 2) (Local 0)) (lit 1) ∷ global 0 ∷ [])
    (CallLine 1 (Cross 1 1) (Star ty.Int y ∷ [])
    (CallLine 1 (Cross 1 0) (lit 1 ∷ lit 2 ∷ [])
    (CallLine 1 Input []
    (out (At ty.Int (Var (ints 2) (Local 0)) (lit 0))
    (AssignCallLine 1 (Dot ty.Int v 1) (Own 0) []
    (ReturnCallLine 1 (Cross 1 0) (At ty.Int (Var (ints 2) (Local 0)) (lit 0) ∷ Dot ty.Int v 1 ∷ [])
    NoLine)))))))))) 1 ∷ []) ∷
    sheet [] [] (
    plan (codes "less") (ty.Int ∷ ty.Int ∷ []) [] (ReturnValueLine 1 (Two ty.Int op.Sub (param 0) (param 1)) NoLine)
    1 ∷ record {
      name = codes "tell";
      params = ty.Int ∷ [];
      locals = [];
      result = None;
      body = ReturnLine 1 NoLine;
      close_line = 1;
    } ∷ []) ∷ []

abbrev pub asked_code : List (List TacShape)
asked_code =
    (Line (tac.Input (Some 0)) (give 0) ∷
    place 0 0 (place 1 1 (store 1 0 (
    Line (tac.Input (Some 2)) (Line (tac.GlobalPlace 3 0) (store 3 2 (
    Line (tac.GlobalPlace 4 0) (load 4 (word 5 3 (Line (tac.CallCross (Some 6) 1 0 (4 ∷ 5 ∷ [])) (
    place 7 0 (word 8 1 (move false 9 7 8 (store 9 6 (
    place 10 0 (word 11 1 (move false 12 10 11 (load 12 (Line (tac.GlobalPlace 13 0) (load 13 (
    Line (tac.CallCross (Some 14) 1 0 (12 ∷ 13 ∷ [])) (pointer_fetched 15 1 (store 15 14 (
    pointer_fetched 16 1 (load 16 (Line (tac.CallCross None 1 1 (16 ∷ [])) (
    word 17 1 (word 18 2 (Line (tac.CallCross None 1 0 (17 ∷ 18 ∷ [])) (
    Line (tac.Input None) (
    place 19 0 (word 20 0 (move false 21 19 20 (load 21 (output 21 (
    Line (tac.CallOwn (Some 22) 0 []) (place 23 2 (member_at 1 24 23 (store 24 22 (
    place 25 0 (word 26 0 (move false 27 25 26 (load 27 (place 28 2 (member_at 1 29 28 (load 29 (
    Line (tac.CallCross (Some 30) 1 0 (27 ∷ 29 ∷ [])) (
    give 30))))))))))))))))))))))))))))))))))))))))))))))) ∷ []) ∷
    (fetched 0 0 (fetched 1 1 (int_op op.Sub 2 0 1 (give 2))) ∷ Line (tac.Return None) Done ∷ []) ∷ []

pub asked_emit : AllEmit asked asked_code
unfolding roll-TacStmt denote.Hole.Carrier.roll
asked_emit = ((refl, (refl, tt)), ((refl, (refl, tt)), tt))

pub asked_mean : BothMean asked_interfaces asked (10 ∷ 20 ∷ 30 ∷ []) 6 20 (record {
  trace =
      In 0 10 ∷ Call 0 1 0 (10 ∷ 3 ∷ []) ∷ Ret 1 0 (Some 7) ∷
      Call 0 1 0 (7 ∷ 10 ∷ []) ∷ Ret 1 0 (Some 4294967293) ∷
      Call 0 1 1 (4294967293 ∷ []) ∷ Ret 1 0 None ∷
      Call 0 1 0 (1 ∷ 2 ∷ []) ∷ Ret 1 0 (Some 4294967295) ∷ In 0 20 ∷ Out 0 4294967293 ∷ In 0 30 ∷
      Call 0 1 0 (4294967293 ∷ 30 ∷ []) ∷ Ret 1 0 (Some 4294967263) ∷ End 0 4294967263 ∷ [];
  end = Ended;
})
asked_mean = (
  lowered_is c_arith asked_interfaces asked asked_code asked_emit (10 ∷ 20 ∷ 30 ∷ []) 6 20,
  by_plan asked_interfaces asked (10 ∷ 20 ∷ 30 ∷ []) 6 20,
)
