-- What the functions of a program return, whoever performs and however many calls may be open.
use Rattle.sc_emit_run_laws.specs.Common.{Body, Export, Here, Main, Proto, Reached, Roles, State, TacFnTree, TacTree}
use Rattle.sc_emit_run_laws.specs.Common.{Value, Word, code_denotations, crossing, export_at, function_entered}
use Rattle.sc_emit_run_laws.specs.Common.{option_value, run_step, scripted_step, within, wrapping}
use Rattle.std.specs.Prelude.{◌≡◌, ℕ, true, false, Option, Some, slice_get, IsSome}
use Rattle.sc_emit_run_laws.specs.Linked.{functions_in}

-- what its functions do where at most `open_calls` calls may be open and some compartments perform
abbrev pub bodies : TacTree → Roles → (open_calls : ℕ) → Body
bodies program roles =
    within (scripted_step (code_denotations wrapping program) roles (run_step (code_denotations wrapping program)))

pub record GivesResults (program : TacTree) (roles : Roles) : Type 0 where
  -- a function with a result gives a value
  pub given : (open_calls number : ℕ) (here : Here) (f : TacFnTree) (s t : State) (v : Option Value) →
      roles.scripted here.comp ≡ false → slice_get (functions_in program here.comp) number ≡ Some f →
      f.result ≡ true → bodies program roles open_calls number here s ≡ Reached v t → IsSome v
  -- what an export gives is what crosses: a word where its prototype has a result, and else nothing
  pub crosses : (open_calls index number : ℕ) (here : Here) (proto : Proto) (s t : State) (v : Option Value) →
      roles.scripted here.comp ≡ false → export_at program.interfaces here.comp index ≡ Some proto →
      function_entered (Export index) (slice_get program.sections here.comp) ≡ Some number →
      bodies program roles open_calls number here s ≡ Reached v t → option_value (crossing (Some proto) v) ≡ v
  -- `main` gives a word
  pub ends : (open_calls number : ℕ) (here : Here) (s t : State) (v : Option Value) →
      roles.scripted here.comp ≡ false → here.comp ≡ program.interfaces.main →
      function_entered Main (slice_get program.sections here.comp) ≡ Some number →
      bodies program roles open_calls number here s ≡ Reached v t → (w : ℕ) × (v ≡ Some (Word w))
