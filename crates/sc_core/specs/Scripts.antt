-- Compartments that perform a script in place of running their functions.
use Rattle.sc_core.specs.Common.{Event, count_of, part}
use Rattle.std.specs.Prelude.{ℕ, Bool, false, if◌then◌else◌, ◌==◌, List, [], ◌∷◌, map, drop, Option, None, Some}
use Rattle.sc_event.specs.declared.row.Row.{Row}
use Rattle.sc_event.specs.declared.row.Action.{Action}
use Rattle.sc_event.specs.declared.row.Action.TheVariants as act
use Rattle.sc_core.specs.declared.expr.CallTarget.{CallTarget}
use Rattle.sc_core.specs.declared.expr.CallTarget.TheVariants.{Cross, Input, Output}
use Rattle.sc_core.specs.declared.run.RunEnd.TheVariants.{TurnsOut}
use Rattle.sc_core.specs.declared.value.Value.{Value}
use Rattle.sc_core.specs.declared.value.Value.TheVariants.{Word}
use Rattle.sc_core.specs.Combinators.{State, Piece, Reached, Stopped, and_then}
use Rattle.sc_core.specs.Calls.{Denotations, Body, Step, may_call, calls, option_value}

-- who performs, and the rows of each
pub record Roles : Type 0 where
  pub scripted : ℕ → Bool
  pub rows : ℕ → List Row

-- the compartments of a set perform their parts of a trace
abbrev pub roles_in : ℕ → (ℕ → Bool) → List Event → Roles
roles_in main set trace = record { scripted = set; rows = λ comp. part main comp trace }

-- the rows of a compartment that are left after a trace: each of its events was one row
abbrev pub rows_left : Roles → ℕ → List Event → List Row
rows_left roles comp trace = drop (count_of comp trace) (roles.rows comp)

abbrev pub is_number : ℕ → Option ℕ → Bool
is_number number None = false
is_number number (Some n) = n == number

module _ (denotations : Denotations) (body : Body) where
  -- a call that a script asks for; where it may not be made, the run ends
  abbrev pub asks : ℕ → CallTarget → List Value → State → Piece (Option Value)
  asks comp target args s =
      if may_call denotations comp target args then calls denotations body comp target args s else Stopped TurnsOut s

  -- one action, which is a call of the environment, a call across, or a return. After the environment the function goes
  -- on with the rows that follow; after a call it performs again, the rows that are left then
  abbrev pub acts : Action → (State → Piece (Option Value)) → (State → Piece (Option Value)) → ℕ → State →
      Piece (Option Value)
  acts (act.Call to index args) next again comp s =
      and_then (asks comp (Cross to index) (map (λ w. Word w) args) s) (λ v s. again s)
  acts (act.Ret v) next again comp s = Reached (option_value v) s
  acts (act.Out w) next again comp s = and_then (asks comp Output (Word w ∷ []) s) (λ v s. next s)
  acts (act.In w) next again comp s = and_then (asks comp Input [] s) (λ v s. next s)
  acts (act.End w) next again comp s = Reached (Some (Word w)) s

  -- a function performs the rows that name it; where none is left, or the next names another, the run ends
  abbrev pub performs : List Row → Body
  performs [] number here s = Stopped TurnsOut s
  performs (row ∷ rest) number here s =
      if is_number number (denotations.entered here.comp row.entry) then
      acts row.action (performs rest number here) (body number here) here.comp s else Stopped TurnsOut s

-- functions of scripted compartments perform, all others do this step
abbrev pub scripted_step : Denotations → Roles → Step → Step
scripted_step denotations roles step body number here s =
    if roles.scripted here.comp then performs denotations body (rows_left roles here.comp s.trace) number here s else
    step body number here s
