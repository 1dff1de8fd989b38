-- Calls: the variables and the frame of a function begin, its body runs, and they end (C11 6.2.4, 6.5.2.2). The same
-- for trees and for code.
use Rattle.sc_core.specs.Common.{Call, Entry, Export, In, Interfaces, Out, Proto, Ret, Scalar, all_hold, export_at}
use Rattle.sc_core.specs.Common.{imports, is_function, is_input, is_output, takes}
use Rattle.std.specs.Prelude.{ℕ, zero, suc, ◌++◌, Bool, true, false, ◌==◌, if◌then◌else◌, List, [], ◌∷◌, length, map}
use Rattle.std.specs.Prelude.{replicate, drop, Option, None, Some, is_some, slice_get, slice_index_or}
use Rattle.std.specs.List.{list_all}
use Rattle.sc_core.specs.declared.cause.Cause.TheVariants.{BadType}
use Rattle.sc_core.specs.declared.expr.CallTarget.{CallTarget}
use Rattle.sc_core.specs.declared.expr.CallTarget.TheVariants.{Own, Cross, Input, Output}
use Rattle.sc_core.specs.declared.run.RunEnd.TheVariants.{Blamed, TurnsOut}
use Rattle.sc_core.specs.declared.value.Cell.TheVariants.{Undef}
use Rattle.sc_core.specs.declared.value.Value.{Value}
use Rattle.sc_core.specs.declared.value.Value.TheVariants.{Word, Null, Ptr}
use Rattle.sc_core.specs.Memory.{Blocks, variable, with_blocks, cell_of, ended}
use Rattle.sc_core.specs.Combinators.{Opened, Closed, State, Here, Piece, Reached, Stopped, and_then, turn, emit_event}
use Rattle.sc_core.specs.Combinators.{Calls}

-- a function as a call sees it, whatever it is written in: the cells of its variables, parameters first, the bytes of
-- its frame at most, and what it does by what its calls do
pub record Function : Type 0 where
  pub cells : List ℕ
  pub frame_size : ℕ
  pub does : Calls → Here → State → Piece (Option Value)

-- a program as calls see it: the functions of each compartment, and the number of the function that an entry leads to
pub record Denotations : Type 0 where
  pub interfaces : Interfaces
  pub functions : List (List Function)
  pub entered : ℕ → Entry → Option ℕ

-- what a function does, by its number, once its variables are there
abbrev pub Body : Type 0
Body = ℕ → Here → State → Piece (Option Value)

module _ (denotations : Denotations) where
  abbrev pub functions_of : ℕ → List Function
  functions_of comp = slice_index_or denotations.functions comp []

  abbrev pub function : ℕ → ℕ → Option Function
  function comp number = slice_get (functions_of comp) number

  -- an entry of a compartment leads to a function of it
  abbrev pub leads : ℕ → Option ℕ → Bool
  leads comp None = false
  leads comp (Some number) = is_some (function comp number)

-- blocks of these sizes in cells: the first ones hold the arguments, the others nothing yet (C11 6.5.2.2p4, 6.7.9p10)
abbrev pub blocks_for : List ℕ → List Value → Blocks
blocks_for [] args = []
blocks_for (n ∷ cells) [] = variable (replicate n Undef) ∷ blocks_for cells []
blocks_for (n ∷ cells) (v ∷ args) = variable (cell_of v ∷ []) ∷ blocks_for cells args

-- the state once the variables and the frame of a function are there
abbrev pub begun : ℕ → Function → List Value → State → State
begun comp f args s =
    record s {
      memory = with_blocks comp (s.memory comp ++ blocks_for f.cells args) s.memory;
      frames = s.frames ++ Opened (length s.trace) comp f.frame_size ∷ [];
    }

-- the state once the variables of a function, whose first block is this, have ended, and its frame with them
abbrev pub done : ℕ → Function → ℕ → State → State
done comp f first s =
    record s {
      memory = with_blocks comp (ended first (length f.cells) (s.memory comp)) s.memory;
      frames = s.frames ++ Closed (length s.trace) comp f.frame_size ∷ [];
    }

-- what was tested to be there
abbrev pub found : {V : Type 0} → Option V → State → Piece V
found None s = Stopped TurnsOut s
found (Some v) s = Reached v s

-- only words cross between compartments
abbrev pub word_in : Value → ℕ
word_in (Word w) = w
word_in Null = 0
word_in (Ptr p) = 0

-- what crosses at a return: a word exactly where the prototype has a result
abbrev pub word_back : Option Scalar → Option Value → Option ℕ
word_back None v = None
word_back (Some scalar) None = Some 0
word_back (Some scalar) (Some v) = Some (word_in v)

abbrev pub crossing : Option Proto → Option Value → Option ℕ
crossing None v = None
crossing (Some proto) v = word_back proto.result v

abbrev pub option_value : Option ℕ → Option Value
option_value None = None
option_value (Some w) = Some (Word w)

-- the values that the called function gets
abbrev pub crossed : List Value → List Value
crossed args = map (λ v. Word (word_in v)) args

abbrev pub first_word : List Value → ℕ
first_word [] = 0
first_word (v ∷ vs) = word_in v

-- the next input, 0 after the last
abbrev pub next_input : List ℕ → ℕ
next_input [] = 0
next_input (w ∷ rest) = w

abbrev pub read_input : ℕ → State → State
read_input comp s = emit_event (In comp (next_input s.inputs)) (record s { inputs = drop 1 s.inputs })

abbrev pub is_word : Value → Bool
is_word (Word w) = true
is_word Null = false
is_word (Ptr p) = false

-- a compartment calls its own functions, and what it imports with as many values as are taken; only words cross
abbrev pub may_call : Denotations → ℕ → CallTarget → List Value → Bool
may_call denotations from (Own number) args = is_some (function denotations from number)
may_call denotations from (Cross to index) args =
    all_hold (
    imports denotations.interfaces from (is_function to index) ∷
    takes denotations.interfaces to index (length args) ∷
    list_all is_word args ∷
    leads denotations to (denotations.entered to (Export index)) ∷ []
    )
may_call denotations from Input args = imports denotations.interfaces from is_input
may_call denotations from Output args =
    all_hold (
    imports denotations.interfaces from is_output ∷
    (length args == 1) ∷
    list_all is_word args ∷ []
    )

-- a return inside a compartment
abbrev pub back_own : Option Value → State → Piece (Option Value)
back_own v s = Reached v s

-- a return to another compartment is emitted, and gives what crossed
abbrev pub back_cross : Interfaces → ℕ → ℕ → ℕ → Option Value → State → Piece (Option Value)
back_cross interfaces from to index v s =
    Reached (option_value (crossing (export_at interfaces to index) v))
    (emit_event (Ret to from (crossing (export_at interfaces to index) v)) s)

module _ (denotations : Denotations) (body : Body) where
  -- a function of this number runs from here, and `back` is what is done at its return
  abbrev pub run_in : ℕ → ℕ → List Value → (Option Value → State → Piece (Option Value)) → State → Piece (Option Value)
  run_in comp number args back s =
      and_then (found (function denotations comp number) s) (λ f s.
      and_then (body number (record { comp = comp; first = length (s.memory comp) }) (begun comp f args s)) (λ v t.
      back v (done comp f (length (s.memory comp)) t)))

  -- a call inside a compartment is no event
  abbrev pub call_own : ℕ → ℕ → List Value → State → Piece (Option Value)
  call_own comp number args s = run_in comp number args back_own s

  -- the call is emitted before the frame begins, and the return after it has ended
  abbrev pub call_cross : ℕ → ℕ → ℕ → List Value → State → Piece (Option Value)
  call_cross from to index args s =
      and_then (found (denotations.entered to (Export index)) s) (λ number s.
      run_in to number (crossed args) (back_cross denotations.interfaces from to index)
      (emit_event (Call from to index (map word_in args)) s))

  -- a call takes its turn once its arguments are there and before its event; the environment takes none
  abbrev pub called : Calls
  called from (Own number) args s = and_then (turn s) (λ _ s. call_own from number args s)
  called from (Cross to index) args s = and_then (turn s) (λ _ s. call_cross from to index args s)
  called from Input args s = Reached (Some (Word (next_input s.inputs))) (read_input from s)
  called from Output args s = Reached None (emit_event (Out from (first_word args)) s)

  -- any other call, which no typed program makes, is blamed, at no line
  abbrev pub calls : Calls
  calls from target args s =
      if may_call denotations from target args then called from target args s else Stopped (Blamed from BadType 0) s

-- functions, from what functions do that have one call less to make
abbrev pub Step : Type 0
Step = Body → Body

-- functions that do what they say
abbrev pub run_step : Denotations → Step
run_step denotations body number here s =
    and_then (found (function denotations here.comp number) s) (λ f s. f.does (calls denotations body) here s)

-- what a function does where at most this number of calls are open in it
abbrev pub within : Step → ℕ → Body
within step zero number here s = Stopped TurnsOut s
within step (suc n) number here s = step (within step n) number here s
