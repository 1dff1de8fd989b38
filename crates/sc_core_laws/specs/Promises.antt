-- Denotations whose functions agree where what they call gives the results that it promises: they run the same, whoever
-- performs.
use Rattle.sc_core_laws.specs.Common.{CallTarget, Calls, Denotations, Entry, Function, Memory, Piece, Reached, Roles}
use Rattle.sc_core_laws.specs.Common.{State, Stopped, Value, function, run_by, run_step, scripted_step, within}
use Rattle.std.specs.Prelude.{◌≡◌, ℕ, Bool, true, false, List, Option, None, Some, is_some}
use Rattle.sc_event.specs.Prelude.{export_at}
use Rattle.sc_event.specs.declared.interface.Proto.{Proto}
use Rattle.sc_core.specs.declared.expr.CallTarget.TheVariants.{Own, Cross, Input, Output}
use Rattle.sc_core_laws.specs.Agreement.{BodiesAgree, CallsAgree, Meets, PiecesAgree, RunsAgree}

-- what a piece comes to has this property
abbrev pub IfReached : {V : Type 0} → (V → Type 0) → Piece V → Type 0
IfReached G (Reached v s) = G v
IfReached G (Stopped end s) = Unit {0}

-- a value, where one is promised
abbrev pub Promised : Bool → Option Value → Type 0
Promised b v = b ≡ true → is_some v ≡ true

-- functions that callers can't tell apart
pub record HeadersAgree (f g : Function) : Type 0 where
  pub cells : f.cells ≡ g.cells
  pub frame_size : f.frame_size ≡ g.frame_size

-- which functions promise a value, by compartment and number
abbrev pub Promises : Type 0
Promises = ℕ → ℕ → Bool

abbrev pub has_result : Option Proto → Bool
has_result None = false
has_result (Some proto) = is_some proto.result

module _ (L M : Denotations) (promises : Promises) where
  abbrev pub promised_by : ℕ → CallTarget → Bool
  promised_by from (Own number) = promises from number
  promised_by from (Cross to index) = has_result (export_at L.interfaces to index)
  promised_by from Input = true
  promised_by from Output = false

  -- calls from a compartment give what is promised
  abbrev pub CallsGive : ℕ → Calls → Type 0
  CallsGive from C = (target : CallTarget) (args : List Value) (s : State) →
      IfReached (Promised (promised_by from target)) (C from target args s)

  -- two functions that agree where their calls do and give, and of which the first gives what it promises
  pub record AgreeWithPromises (comp number : ℕ) (f g : Function) : Type 0 where
    pub headers : HeadersAgree f g
    pub does : (C D : Calls) → CallsAgree C D → CallsGive comp C → (first : ℕ) (s : State) →
        PiecesAgree (f.does C (record { comp = comp; first = first }) s)
        (g.does D (record { comp = comp; first = first }) s)
    pub gives : (C : Calls) (first : ℕ) (s : State) →
        IfReached (Promised (promises comp number)) (f.does C (record { comp = comp; first = first }) s)

  pub record DenotationsAgreeWithPromises : Type 0 where
    pub interfaces : L.interfaces ≡ M.interfaces
    pub functions : (comp number : ℕ) →
        Meets (AgreeWithPromises comp number) (function L comp number) (function M comp number)
    pub entered : (comp : ℕ) (entry : Entry) → L.entered comp entry ≡ M.entered comp entry

-- the same traces, ends and frames, in the meaning and whoever performs whatever script, and what functions do agrees
-- at
-- any bound on open calls
pub record PromisingRunAlike : Type 0 where
  pub meaning : (L M : Denotations) (promises : Promises) → DenotationsAgreeWithPromises L M promises →
      (globals : Memory) (inputs : List ℕ) (turns : ℕ) →
      RunsAgree (run_by L (run_step L) globals inputs turns) (run_by M (run_step M) globals inputs turns)
  pub scripted : (L M : Denotations) (promises : Promises) → DenotationsAgreeWithPromises L M promises →
      (roles : Roles) (globals : Memory) (inputs : List ℕ) (turns : ℕ) →
      RunsAgree (run_by L (scripted_step L roles (run_step L)) globals inputs turns)
      (run_by M (scripted_step M roles (run_step M)) globals inputs turns)
  pub bodies : (L M : Denotations) (promises : Promises) → DenotationsAgreeWithPromises L M promises →
      (roles : Roles) (open_calls : ℕ) → BodiesAgree (within (scripted_step L roles (run_step L)) open_calls)
      (within (scripted_step M roles (run_step M)) open_calls)
