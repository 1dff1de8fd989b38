-- Worked programs, as plans.
use Rattle.sc_core.proofs.Common.{CallTarget, Global, Import, Interfaces, List, Local, None, Option, Param, Proto}
use Rattle.sc_core.proofs.Common.{Scalar, Some, Ty, TypedGlobal, [], codes, ℕ, ◌∷◌}
use Rattle.sc_core.specs.declared.expr.CallTarget.TheVariants.{Cross, Output, Own}
use Rattle.sc_event.specs.declared.interface.Interface.{Interface}
use Rattle.sc_event.specs.declared.interface.Scalar.TheVariants as scalar
use Rattle.sc_event.specs.declared.interface.Import.TheVariants as import
use Rattle.sc_core.specs.declared.ty.Ty.TheVariants as ty
use Rattle.sc_core.specs.declared.ty.BaseTy.TheVariants as base
use Rattle.sc_base.specs.declared.op.UnaryOp.TheVariants as unary
use Rattle.sc_base.specs.declared.op.BinaryOp.TheVariants as op
use Rattle.sc_core.proofs.Shapes.{Shape, Lit, Var, One, Two, At, Star, Amp, Lines, NoLine, AssignLine, AssignCallLine}
use Rattle.sc_core.proofs.Shapes.{CallLine, ReturnValueLine}
use Rattle.sc_core.proofs.Plans.{Slot, Plan, Sheet}

-- expressions of type `int`
abbrev pub lit : ℕ → Shape
lit n = Lit ty.Int n

abbrev pub global : ℕ → Shape
global n = Var ty.Int (Global n)

abbrev pub param : ℕ → Shape
param n = Var ty.Int (Param n)

abbrev pub local : ℕ → Shape
local n = Var ty.Int (Local n)

abbrev pub plus : Shape → Shape → Shape
plus a b = Two ty.Int op.Add a b

-- an array of `n` elements of type `int`
abbrev pub ints : ℕ → Ty
ints n = ty.Array 0 base.Int n

-- `x[e]` of a global `int x[length]`
abbrev pub element : ℕ → ℕ → Shape → Shape
element length n e = At ty.Int (Var (ints length) (Global n)) e

-- `int *`
abbrev pub int_pointer : Ty
int_pointer = ty.Pointer 1 base.Int

abbrev pub slot : Ty → Slot
slot ty = record { ty = ty; init = None; line = 0 }

abbrev pub global_of : Ty → TypedGlobal
global_of ty = record { name = codes "g"; ty = ty; init = [] }

abbrev pub proto : List ℕ → List Scalar → Option Scalar → Proto
proto name params result = record { name = name; params = params; result = result }

abbrev pub interface : List ℕ → List Proto → List Import → Interface
interface name exports imports = record { name = name; exports = exports; imports = imports }

-- `int main(void)` with these locals and lines
abbrev pub main_with : List Slot → Lines → ℕ → Plan
main_with locals body close_line =
    record {
      name = codes "main";
      params = [];
      locals = locals;
      result = Some ty.Int;
      body = body;
      close_line = close_line;
    }

abbrev pub plan : List ℕ → List Ty → List Slot → Lines → ℕ → Plan
plan name params locals body close_line =
    record { name = name; params = params; locals = locals; result = Some ty.Int; body = body; close_line = close_line }

abbrev pub sheet : List TypedGlobal → List Plan → Sheet
sheet globals plans = record { structs = []; globals = globals; plans = plans }

-- one compartment that may output
abbrev pub one_compartment : Interfaces
one_compartment = record { comps = interface (codes "Main") [] (import.Output ∷ []) ∷ []; main = 0 }

abbrev pub output_then : ℕ → Shape → Lines → Lines
output_then line e rest = CallLine line Output (e ∷ []) rest

abbrev pub seven : List Sheet
seven = sheet [] (main_with [] (output_then 5 (lit 7) (ReturnValueLine 6 (lit 0) NoLine)) 7 ∷ []) ∷ []

-- `a = -2147483647 - 1; b = -1; output(a / b); return 0;`
abbrev pub min_by_minus_one : List Sheet
min_by_minus_one =
    sheet [] (main_with (slot ty.Int ∷ slot ty.Int ∷ [])
    (AssignLine 7 (local 0) (Two ty.Int op.Sub (One ty.Int unary.Minus (lit 2147483647)) (lit 1))
    (AssignLine 8 (local 1) (One ty.Int unary.Minus (lit 1))
    (output_then 9 (Two ty.Int op.Div (local 0) (local 1)) (ReturnValueLine 10 (lit 0) NoLine)))) 11 ∷ []) ∷ []

-- `int x; output(1); output(x & 0); return 0;`
abbrev pub uninitialised : List Sheet
uninitialised =
    sheet [] (main_with (slot ty.Int ∷ []) (output_then 6 (lit 1)
    (output_then 7 (Two ty.Int op.BitAnd (local 0) (lit 0)) (ReturnValueLine 8 (lit 0) NoLine))) 9 ∷ []) ∷ []

-- `int f(void) { }` and `int r; r = f(); return r;`
abbrev pub missing_return : List Sheet
missing_return =
    sheet [] (plan (codes "f") [] [] NoLine 3 ∷ main_with (slot ty.Int ∷ [])
    (AssignCallLine 6 (local 0) (Own 0) [] (ReturnValueLine 7 (local 0) NoLine)) 8 ∷ []) ∷ []

-- `int *leak(void)` returns the place of its local; `p = leak(); v = *p; return v;`
abbrev pub leak : List Sheet
leak =
    sheet [] (record {
      name = codes "leak";
      params = [];
      locals = slot ty.Int ∷ [];
      result = Some int_pointer;
      body = AssignLine 4 (local 0) (lit 1) (ReturnValueLine 5 (Amp int_pointer (local 0)) NoLine);
      close_line = 6;
    } ∷
    main_with (slot int_pointer ∷ slot ty.Int ∷ [])
    (AssignCallLine 10 (Var int_pointer (Local 0)) (Own 0) []
    (AssignLine 11 (local 1) (Star ty.Int (Var int_pointer (Local 0))) (ReturnValueLine 12 (local 1) NoLine))) 13 ∷
    []) ∷ []

-- `Main` calls `put` of `Net`, which stores past the end of `int buf[4]`
abbrev pub two_ints : List Scalar
two_ints = scalar.Int ∷ scalar.Int ∷ []

abbrev pub store_interfaces : Interfaces
store_interfaces =
    record {
      comps = interface (codes "Main") [] (import.Function 1 0 ∷ import.Output ∷ []) ∷
          interface (codes "Net") (proto (codes "put") two_ints (Some scalar.Int) ∷ []) [] ∷ [];
      main = 0;
    }

abbrev pub store_sheets : List Sheet
store_sheets =
    sheet [] (main_with (slot ty.Int ∷ []) (AssignCallLine 8 (local 0) (Cross 1 0) (lit 4 ∷ lit 9 ∷ [])
    (output_then 9 (local 0) (ReturnValueLine 10 (lit 0) NoLine))) 11 ∷ []) ∷
    sheet (global_of (ints 4) ∷ global_of ty.Int ∷ [])
    (plan (codes "put") (ty.Int ∷ ty.Int ∷ []) []
    (AssignLine 6 (element 4 0 (param 0)) (param 1) (ReturnValueLine 7 (global 1) NoLine)) 8 ∷ []) ∷ []

-- `Main` calls `f` of `A` and `g` of `B`; each stores past the end of its `int x[2]`
abbrev pub one_int : List Scalar
one_int = scalar.Int ∷ []

abbrev pub two_stores_interfaces : Interfaces
two_stores_interfaces =
    record {
      comps = interface (codes "Main") [] (import.Function 1 0 ∷ import.Function 2 0 ∷ import.Output ∷ []) ∷
          interface (codes "A") (proto (codes "f") one_int (Some scalar.Int) ∷ []) [] ∷
          interface (codes "B") (proto (codes "g") one_int (Some scalar.Int) ∷ []) [] ∷ [];
      main = 0;
    }

abbrev pub past_end : List ℕ → Sheet
past_end name =
    sheet (global_of (ints 2) ∷ global_of ty.Int ∷ [])
    (plan name (ty.Int ∷ []) [] (AssignLine 6 (element 2 0 (param 0)) (lit 5)
    (ReturnValueLine 7 (global 1) NoLine)) 8 ∷ [])

abbrev pub two_stores : List Sheet
two_stores =
    sheet [] (main_with (slot ty.Int ∷ []) (AssignCallLine 10 (local 0) (Cross 1 0) (lit 2 ∷ [])
    (output_then 11 (local 0) (AssignCallLine 12 (local 0) (Cross 2 0) (lit 2 ∷ [])
    (output_then 13 (local 0) (ReturnValueLine 14 (lit 0) NoLine))))) 15 ∷ []) ∷ past_end (codes "f") ∷
    past_end (codes "g") ∷ []

-- `Main` calls `f` of `A`, which calls `g` of `B`, which calls `h` of `A`
abbrev pub reentry_interfaces : Interfaces
reentry_interfaces =
    record {
      comps = interface (codes "Main") [] (import.Function 1 0 ∷ import.Output ∷ []) ∷
          interface (codes "A") (proto (codes "f") one_int (Some scalar.Int) ∷
          proto (codes "h") one_int (Some scalar.Int) ∷ []) (import.Function 2 0 ∷ []) ∷
          interface (codes "B") (proto (codes "g") one_int (Some scalar.Int) ∷ []) (import.Function 1 1 ∷ []) ∷ [];
      main = 0;
    }

abbrev pub reentry : List Sheet
reentry =
    sheet [] (main_with (slot ty.Int ∷ []) (AssignCallLine 8 (local 0) (Cross 1 0) (lit 2 ∷ [])
    (output_then 9 (local 0) (ReturnValueLine 10 (lit 0) NoLine))) 11 ∷ []) ∷
    sheet (global_of (ints 2) ∷ global_of ty.Int ∷ [])
    (plan (codes "f") (ty.Int ∷ []) (slot ty.Int ∷ [])
    (AssignLine 10 (element 2 0 (param 0)) (lit 5)
    (AssignCallLine 11 (local 0) (Cross 2 0) (global 1 ∷ [])
    (ReturnValueLine 12 (plus (local 0) (global 1)) NoLine))) 13 ∷
    plan (codes "h") (ty.Int ∷ []) [] (AssignLine 15 (global 1) (plus (global 1) (param 0))
    (ReturnValueLine 16 (global 1) NoLine)) 17 ∷ []) ∷
    sheet [] (plan (codes "g") (ty.Int ∷ []) (slot ty.Int ∷ [])
    (AssignCallLine 7 (local 0) (Cross 1 1) (plus (param 0) (lit 1) ∷ []) (ReturnValueLine 8 (local 0) NoLine)) 9 ∷
    []) ∷ []

-- `Main` calls `f` of `A`, which has `int a[8000]` and calls `g` of `B`, which calls `f` again, and so on
abbrev pub deep_interfaces : Interfaces
deep_interfaces = record {
  comps =
      interface (codes "Main") [] (import.Function 1 0 ∷ []) ∷
      interface (codes "A") (proto (codes "f") [] (Some scalar.Int) ∷ []) (import.Function 2 0 ∷ []) ∷
      interface (codes "B") (proto (codes "g") [] (Some scalar.Int) ∷ []) (import.Function 1 0 ∷ []) ∷ [];
  main = 0;
}

abbrev pub calling : CallTarget → ℕ → Lines
calling target place = AssignCallLine 4 (local place) target [] (ReturnValueLine 5 (local place) NoLine)

abbrev pub deep : List Sheet
deep =
    sheet [] (main_with (slot ty.Int ∷ []) (calling (Cross 1 0) 0) 6 ∷ []) ∷
    sheet [] (plan (codes "f") [] (slot (ints 8000) ∷ slot ty.Int ∷ []) (AssignCallLine 4 (local 1) (Cross 2 0) []
    (ReturnValueLine 5 (Two ty.Int op.Add (local 1) (lit 1)) NoLine)) 6 ∷ []) ∷
    sheet [] (plan (codes "g") [] (slot ty.Int ∷ []) (calling (Cross 1 0) 0) 6 ∷ []) ∷ []
