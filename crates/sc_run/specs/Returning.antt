-- Helping: how a call ends, as it is seen.
use Rattle.sc_run.specs.Common.{Frame, Piece, ProgramTree, Reached, Ret, RunEnd, State, Stopped, Value, cleared}
use Rattle.sc_run.specs.Common.{crossing, here_of, option_value, variables, with_blocks}
use Rattle.sc_event.specs.Prelude.{export_at}
use Rattle.std.specs.Prelude.{ℕ, ◌++◌, [], ◌∷◌, length, Option, None, Some, Result, Ok, Err}
use Rattle.sc_run.specs.Seen.{Seen}

-- what was found, with the state as it was
abbrev pub ended_as : Result (Option Value) RunEnd → State → Piece (Option Value)
ended_as (Ok v) s = Reached v s
ended_as (Err end) s = Stopped end s

-- how many variables a call has
abbrev pub variable_count : Frame → ℕ
variable_count f = length (variables f.scope.structs.now f.function.now)

-- the variables of a call have ended
abbrev pub left_by : Frame → Seen → Seen
left_by f seen =
    record seen {
      memory = with_blocks f.scope.comp.now (cleared (here_of f.scope).first (variable_count f)
          (seen.memory f.scope.comp.now)) seen.memory;
    }

-- what crosses at a return from an export
abbrev pub word_crossing : ProgramTree → Frame → ℕ → Option Value → Option ℕ
word_crossing program f index v = crossing (export_at program.interfaces f.scope.comp.now index) v

-- a return from an export is emitted
abbrev pub emitted_return : ProgramTree → Frame → Frame → Option ℕ → Option Value → Seen → Seen
emitted_return program caller f None v seen = seen
emitted_return program caller f (Some index) v seen =
    record seen {
      trace = seen.trace ++ Ret f.scope.comp.now caller.scope.comp.now (word_crossing program f index v) ∷
          [];
    }

-- what the function that called gets
abbrev pub back_value : ProgramTree → Frame → Option ℕ → Option Value → Option Value
back_value program f None v = v
back_value program f (Some index) v = option_value (word_crossing program f index v)
