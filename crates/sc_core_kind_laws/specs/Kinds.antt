-- Values have the kind of their types: words for integers, pointers and null for pointers. So no operator of a program
-- meets an operand that it has no meaning for, and only numbers cross between compartments.
use Rattle.sc_event.specs.Prelude.{export_at}
use Rattle.sc_core.specs.Prelude.{Arith, Blocks, Body, Function, Here, IsWellTyped, Reached, Roles, Scope, State}
use Rattle.sc_core.specs.Prelude.{called, calls, crossing, denotations_of, entry_in, function, is_pointer, judged}
use Rattle.sc_core.specs.Prelude.{option_value, run_step, scripted_step, ways, within}
use Rattle.std.specs.Prelude.{◌≡◌, ℕ, Bool, true, false, not, ◌&&◌, List, [], ◌∷◌, Option, None, Some, Ok, slice_get}
use Rattle.sc_core.specs.declared.ty.Ty.{Ty}
use Rattle.sc_core.specs.declared.expr.TypedExpr.{TypedExpr}
use Rattle.sc_core.specs.declared.section.TypedStruct.{TypedStruct}
use Rattle.sc_core.specs.declared.section.TypedFunction.{TypedFunction}
use Rattle.sc_core.specs.declared.section.TypedSection.{TypedSection}
use Rattle.sc_core.specs.declared.program.ProgramTree.{ProgramTree}
use Rattle.sc_core.specs.declared.value.Value.{Value}
use Rattle.sc_core.specs.declared.value.Value.TheVariants.{Word, Null, Ptr}
use Rattle.sc_core.specs.declared.value.Want.TheVariants as want
use Rattle.sc_event.specs.declared.interface.Proto.{Proto}
use Rattle.sc_event.specs.declared.row.Entry.TheVariants.{Export}

-- whether a value is one of a pointer, or else a word
abbrev pub is_of : (pointer : Bool) → Value → Bool
is_of pointer (Word w) = not pointer
is_of pointer Null = pointer
is_of pointer (Ptr p) = pointer

abbrev pub has_kind : Ty → Value → Bool
has_kind ty v = is_of (is_pointer ty) v

-- what a function returns: a value of its result's kind, where it has a result
abbrev pub returns_kind : Option Ty → Option Value → Bool
returns_kind None None = true
returns_kind None (Some v) = false
returns_kind (Some ty) None = false
returns_kind (Some ty) (Some v) = has_kind ty v

-- values of the kinds of these types, one for each
abbrev pub have_kinds : List Ty → List Value → Bool
have_kinds [] [] = true
have_kinds [] (v ∷ vs) = false
have_kinds (ty ∷ types) [] = false
have_kinds (ty ∷ types) (v ∷ vs) = has_kind ty v && have_kinds types vs

-- the functions of a section that may not be there, and a function of a program
abbrev pub section_functions : Option TypedSection → List TypedFunction
section_functions None = []
section_functions (Some section) = section.functions

abbrev pub function_at : ProgramTree → (comp number : ℕ) → Option TypedFunction
function_at program comp number = slice_get (section_functions (slice_get program.sections comp)) number

-- what an expression that fits gives has the kind of its type, and the place that it names is one
pub record ValuesHaveKinds : Type 0 where
  pub value : (arith : Arith) (structs : List TypedStruct) (here : Here) (params : ℕ) (scope : Scope) (e : TypedExpr) →
      (judged scope e).fits ≡ true →
      (blocks : Blocks) (v : Value) → ways arith structs here params e want.Value blocks ≡ Ok v → has_kind e.ty v ≡ true
  pub place : (arith : Arith) (structs : List TypedStruct) (here : Here) (params : ℕ) (scope : Scope) (e : TypedExpr) →
      (judged scope e).fits ≡ true → (judged scope e).place ≡ true →
      (blocks : Blocks) (q : Value) → ways arith structs here params e want.Place blocks ≡ Ok q → is_of true q ≡ true

-- what functions do where at most `open_calls` calls may be open and some compartments perform
abbrev pub bodies_of : Arith → ProgramTree → Roles → (open_calls : ℕ) → Body
bodies_of arith program roles =
    within (scripted_step (denotations_of arith program) roles (run_step (denotations_of arith program)))

-- what functions of a well-typed program return, and what they ask for, where they don't perform
pub record ResultsHaveKinds : Type 0 where
  -- a function returns a value of its result's kind
  pub returned : (arith : Arith) (program : ProgramTree) → IsWellTyped program →
      (roles : Roles) (open_calls number : ℕ) (here : Here) (f : TypedFunction) → roles.scripted here.comp ≡ false →
      function_at program here.comp number ≡ Some f →
      (s t : State) (v : Option Value) → bodies_of arith program roles open_calls number here s ≡ Reached v t →
      returns_kind f.result v ≡ true
  -- what an export returns is what crosses: a word where its prototype has a result, and else nothing
  pub crosses : (arith : Arith) (program : ProgramTree) → IsWellTyped program →
      (roles : Roles) (open_calls index number : ℕ) (here : Here) (proto : Proto) →
      roles.scripted here.comp ≡ false → export_at program.interfaces here.comp index ≡ Some proto →
      entry_in program here.comp (Export index) ≡ Some number →
      (s t : State) (v : Option Value) → bodies_of arith program roles open_calls number here s ≡ Reached v t →
      option_value (crossing (Some proto) v) ≡ v
  -- a function makes only calls that may be made: it does the same where nobody asks whether they may
  pub allowed : (arith : Arith) (program : ProgramTree) → IsWellTyped program →
      (roles : Roles) (open_calls number : ℕ) (here : Here) (f : Function) → roles.scripted here.comp ≡ false →
      function (denotations_of arith program) here.comp number ≡ Some f →
      (s : State) →
      f.does (called (denotations_of arith program) (bodies_of arith program roles open_calls)) here s
      ≡ f.does (calls (denotations_of arith program) (bodies_of arith program roles open_calls)) here s
