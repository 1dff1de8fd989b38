-- What the code of a function counts on outside of it.
use Rattle.sc_emit.specs.Common.{IsAddress, Setting, TacStmt-F}
use Rattle.std.specs.Prelude.{◌≡◌, ℕ, ◌%◌, ◌^◌, ◌<◌, Bool, true, not, ◌&&◌, ◌||◌, length, Option, None, is_some}
use Rattle.sc_core.specs.declared.expr.CallTarget.{CallTarget}
use Rattle.sc_core.specs.declared.expr.CallTarget.TheVariants.{Own, Cross, Input, Output}
use Rattle.sc_tac.specs.declared.stmt.TacStmt.TheOpen as tac

-- calls are made as these tests say, and a value is taken of one that gives one
module _ (makes : CallTarget → (args : ℕ) → Bool) (gives : CallTarget → Bool) where
  abbrev pub is_call : CallTarget → (args : ℕ) → Option ℕ → Bool
  is_call target args dest = makes target args && (not (is_some dest) || gives target)

  abbrev pub calls_only : TacStmt-F Bool → Bool
  calls_only (tac.CallOwn dest function args) = is_call (Own function) (length args) dest
  calls_only (tac.CallCross dest comp index args) = is_call (Cross comp index) (length args) dest
  calls_only (tac.Input dest) = is_call Input 0 dest
  calls_only (tac.Output value) = is_call Output 1 None
  calls_only _ = true

-- where code lies
pub record IsCodeAddress (a : ℕ) : Type 0 where
  pub aligned : a % 4 ≡ 0
  pub low : a < 2 ^ 26

-- what a compartment's code may name, by these tests, is where it can be reached
pub record AreReached (T : Setting) (comp : ℕ) (function : ℕ → Bool) (entry : (comp index : ℕ) → Bool)
    (global : ℕ → Bool) : Type 0 where
  pub functions : (number : ℕ) → function number ≡ true → IsCodeAddress ((T.addresses comp).function number)
  pub entries : (to index : ℕ) → entry to index ≡ true → IsCodeAddress ((T.addresses comp).entry to index)
  pub globals : (number : ℕ) → global number ≡ true → number < T.globals comp
  pub places : (number : ℕ) → global number ≡ true → IsAddress ((T.addresses comp).global number)
