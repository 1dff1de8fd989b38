-- The meanings of worked code, computed.
use Rattle.sc_tac.proofs.Common.{Event, Export, Indeterminate, Interfaces, List, Main, NoReturn, None, OutOfBounds}
use Rattle.sc_tac.proofs.Common.{Overflow, Some, TypedGlobal, [], branches, c_arith, code_meaning, code_wrapped, codes}
use Rattle.sc_tac.proofs.Common.{false, scripted_code_meaning, true, weight, wrapping, ℕ, ◌==◌, ◌∷◌, ◌≡◌}
use Rattle.sc_base.specs.declared.op.BinaryOp.{BinaryOp}
use Rattle.sc_base.specs.declared.op.BinaryOp.TheVariants as op
use Rattle.sc_event.specs.declared.event.Event.TheVariants.{Call, Ret, Out, In, End}
use Rattle.sc_event.specs.declared.interface.Import.TheVariants as import
use Rattle.sc_event.specs.declared.interface.Scalar.TheVariants as scalar
use Rattle.sc_core.specs.declared.run.RunEnd.TheVariants.{Ended, Blamed, TurnsOut, EventsOut}
use Rattle.sc_core.specs.declared.ty.Ty.TheVariants as ty
use Rattle.sc_tac.specs.declared.stmt.Constant.TheVariants as constant
use Rattle.sc_tac.specs.declared.stmt.TacOp.TheVariants as tacop
use Rattle.sc_tac.specs.declared.stmt.TacStmt.TheOpen as tac
use Rattle.sc_tac.proofs.Shapes.{Shape, Done, Line, Fork, Cycle, stmts}
use Rattle.sc_tac.proofs.Plans.{Plan, Sheet, branches_are, program, meaning_is, scripted_is, weight_is}

abbrev pub word : ℕ → ℕ → Shape → Shape
word dest w rest = Line (tac.Const dest (constant.Word w)) rest

abbrev pub int_op : BinaryOp → ℕ → ℕ → ℕ → Shape → Shape
int_op o dest left right rest = Line (tac.Op dest (tacop.Binary o scalar.Int) left (Some right)) rest

abbrev pub output : ℕ → Shape → Shape
output t rest = Line (tac.Output t) rest

abbrev pub give : ℕ → Shape
give t = Line (tac.Return (Some t)) Done

-- the value of an object, by way of its place
abbrev pub fetched : ℕ → ℕ → Shape → Shape
fetched dest object rest = Line (tac.ObjectPlace dest object) (Line (tac.Load dest dest false) rest)

abbrev pub put_into : ℕ → ℕ → ℕ → Shape → Shape
put_into object place value rest = Line (tac.ObjectPlace place object) (Line (tac.Store place value) rest)

abbrev pub only_main : Interfaces
only_main = record {
  comps = record { name = codes "Main"; exports = []; imports = import.Input ∷ import.Output ∷ [] } ∷ [];
  main = 0;
}

abbrev pub main_with : ℕ → List ℕ → ℕ → Shape → Plan
main_with temps objects nodes body =
    record {
      comp = 0;
      entry = Some Main;
      params = 0;
      result = true;
      temps = temps;
      objects = objects;
      nodes = nodes;
      body = body;
    }

abbrev pub one_function : Plan → List Sheet
one_function plan = record { globals = []; plans = plan ∷ [] } ∷ []

-- `output(a + b); return a;`
abbrev pub sum : ℕ → ℕ → Plan
sum a b = main_with 3 [] 5 (word 0 a (word 1 b (int_op op.Add 2 0 1 (output 2 (give 0)))))

pub adds : code_meaning (program only_main (one_function (sum 2 3))) [] 0 10 ≡
    record { trace = Out 0 5 ∷ End 0 2 ∷ []; end = Ended }
adds = meaning_is c_arith only_main (one_function (sum 2 3)) [] 0 10

pub overflow_is_blamed : code_meaning (program only_main (one_function (sum 2147483647 1))) [] 0 10 ≡
    record { trace = []; end = Blamed 0 Overflow 0 }
overflow_is_blamed = meaning_is c_arith only_main (one_function (sum 2147483647 1)) [] 0 10

pub overflow_wraps : code_wrapped (program only_main (one_function (sum 2147483647 1))) [] 0 10 ≡
    record { trace = Out 0 2147483648 ∷ End 0 2147483647 ∷ []; end = Ended }
overflow_wraps = meaning_is wrapping only_main (one_function (sum 2147483647 1)) [] 0 10

pub stops_at_its_events : code_meaning (program only_main (one_function (sum 2 3))) [] 0 1 ≡
    record { trace = Out 0 5 ∷ []; end = EventsOut }
stops_at_its_events = meaning_is c_arith only_main (one_function (sum 2 3)) [] 0 1

-- `for (i = 0; i < 4; i = i + 1) { if (i == 2) continue; output(i); } return 7;`
abbrev pub skips_two : Shape
skips_two =
    word 0 0 (put_into 0 1 0 (
    Cycle (fetched 2 0 (word 3 4 (int_op op.Less 4 2 3 (Fork 4 Done (Line tac.Break Done) Done))))
    (fetched 5 0
    (word 6 2 (int_op op.Equal 7 5 6 (Fork 7 (Line tac.Continue Done) Done (fetched 8 0 (output 8 Done))))))
    (fetched 9 0 (word 10 1 (int_op op.Add 11 9 10 (put_into 0 12 11 Done))))
    (word 13 7 (give 13))))

pub its_weight : weight (stmts skips_two) ≡ 174
its_weight = weight_is skips_two

pub its_branches : branches (stmts skips_two) ≡ 2
its_branches = branches_are skips_two

abbrev pub skipping : List Sheet
skipping = one_function (main_with 14 (1 ∷ []) 20 skips_two)

pub continue_goes_to_next : code_meaning (program only_main skipping) [] 4 10 ≡
    record { trace = Out 0 0 ∷ Out 0 1 ∷ Out 0 3 ∷ End 0 7 ∷ []; end = Ended }
continue_goes_to_next = meaning_is c_arith only_main skipping [] 4 10

pub each_round_takes_a_turn : code_meaning (program only_main skipping) [] 3 10 ≡
    record { trace = Out 0 0 ∷ Out 0 1 ∷ []; end = TurnsOut }
each_round_takes_a_turn = meaning_is c_arith only_main skipping [] 3 10

-- `int f(int a) { a = a + x; return a; }` with a global `x`, and `x = input(); r = f(5); output(r); return 0;`
abbrev pub int_global : TypedGlobal
int_global = record { name = codes "x"; ty = ty.Int; init = [] }

abbrev pub calling : List Sheet
calling =
    record {
      globals = int_global ∷ [];
      plans =
          record {
            comp = 0;
            entry = None;
            params = 1;
            result = true;
            temps = 6;
            objects = 1 ∷ [];
            nodes = 9;
            body = fetched 0 0
                (Line (tac.GlobalPlace 1 0)
                (Line (tac.Load 2 1 false) (int_op op.Add 3 0 2 (put_into 0 4 3 (fetched 5 0 (give 5))))));
          } ∷
          main_with 7 (1 ∷ []) 12 (
          Line (tac.Input (Some 0)) (Line (tac.GlobalPlace 1 0) (Line (tac.Store 1 0) (
          word 2 5
          (Line (tac.CallOwn (Some 3) 0 (2 ∷ [])) (put_into 0 4 3 (fetched 5 0 (output 5 (word 6 0 (give 6))))))))))
          ∷ [];
    } ∷ []

pub calls_its_function : code_meaning (program only_main calling) (37 ∷ []) 1 10 ≡
    record { trace = In 0 37 ∷ Out 0 42 ∷ End 0 0 ∷ []; end = Ended }
calls_its_function = meaning_is c_arith only_main calling (37 ∷ []) 1 10

pub a_call_takes_a_turn : code_meaning (program only_main calling) (37 ∷ []) 0 10 ≡
    record { trace = In 0 37 ∷ []; end = TurnsOut }
a_call_takes_a_turn = meaning_is c_arith only_main calling (37 ∷ []) 0 10

-- `int x; return x;`
abbrev pub uninitialised : List Sheet
uninitialised = one_function (main_with 1 (1 ∷ []) 4 (fetched 0 0 (give 0)))

pub uninitialised_is_blamed : code_meaning (program only_main uninitialised) [] 0 10 ≡
    record { trace = []; end = Blamed 0 Indeterminate 0 }
uninitialised_is_blamed = meaning_is c_arith only_main uninitialised [] 0 10

-- `int x[2]; x[2] = 1;` and the closing brace
abbrev pub past_the_end : List Sheet
past_the_end =
    one_function (main_with 4 (2 ∷ []) 6 (
    word 0 1 (Line (tac.ObjectPlace 1 0) (word 2 2 (
    Line (tac.Op 3 (tacop.PointerMove false 1 scalar.Int) 1 (Some 2)) (Line (tac.Store 3 0) Done))))))

pub past_the_end_is_blamed : code_meaning (program only_main past_the_end) [] 0 10 ≡
    record { trace = []; end = Blamed 0 OutOfBounds 0 }
past_the_end_is_blamed = meaning_is c_arith only_main past_the_end [] 0 10

-- the closing brace gives 0 only in `main`
abbrev pub braces : Shape → List Sheet
braces body =
    record {
      globals = [];
      plans =
          record {
            comp = 0;
            entry = None;
            params = 0;
            result = true;
            temps = 0;
            objects = [];
            nodes = 1;
            body = Done;
          } ∷
          main_with 1 [] 3 body ∷ [];
    } ∷ []

pub main_gives_0 : code_meaning (program only_main (braces Done)) [] 0 10 ≡ record { trace = End 0 0 ∷ []; end = Ended }
main_gives_0 = meaning_is c_arith only_main (braces Done) [] 0 10

pub others_are_blamed : code_meaning (program only_main (braces (Line (tac.CallOwn (Some 0) 0 []) Done))) [] 1 10 ≡
    record { trace = []; end = Blamed 0 NoReturn 0 }
others_are_blamed = meaning_is c_arith only_main (braces (Line (tac.CallOwn (Some 0) 0 []) Done)) [] 1 10

-- `Main` calls `put` of `Net`, which gives what it was handed
abbrev pub across_interfaces : Interfaces
across_interfaces = record {
  comps =
      record { name = codes "Main"; exports = []; imports = import.Function 1 0 ∷ import.Output ∷ [] } ∷
      record {
        name = codes "Net";
        exports = record { name = codes "put"; params = scalar.Int ∷ []; result = Some scalar.Int } ∷ [];
        imports = [];
      } ∷ [];
  main = 0;
}

abbrev pub asking : Shape
asking = word 0 9 (Line (tac.CallCross (Some 1) 1 0 (0 ∷ [])) (output 1 (word 2 0 (give 2))))

abbrev pub answering : Shape
answering = fetched 0 0 (give 0)

abbrev pub caller : Sheet
caller = record { globals = []; plans = main_with 3 [] 5 asking ∷ [] }

abbrev pub callee : Sheet
callee = record {
  globals = [];
  plans =
      record {
        comp = 1;
        entry = Some (Export 0);
        params = 1;
        result = true;
        temps = 1;
        objects = 1 ∷ [];
        nodes = 4;
        body = answering;
      } ∷ [];
}

abbrev pub across : List Sheet
across = caller ∷ callee ∷ []

pub calls_across : code_meaning (program across_interfaces across) [] 1 10 ≡
    record { trace = Call 0 1 0 (9 ∷ []) ∷ Ret 1 0 (Some 9) ∷ Out 0 9 ∷ End 0 0 ∷ []; end = Ended }
calls_across = meaning_is c_arith across_interfaces across [] 1 10

-- `Net` performs a script in which it gives 8
abbrev pub emitted : List Event
emitted = Call 0 1 0 (9 ∷ []) ∷ Ret 1 0 (Some 8) ∷ Out 0 8 ∷ End 0 0 ∷ []

pub performs_its_part : scripted_code_meaning (program across_interfaces across) (λ comp. comp == 1) emitted [] 1 10 ≡
    record { trace = emitted; end = Ended }
performs_its_part = scripted_is c_arith across_interfaces across [] 1 10 (λ comp. comp == 1) emitted
