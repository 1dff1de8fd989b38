-- Helping: how a call begins, as it is seen.
use Rattle.sc_run.specs.Common.{Acts, Block, Call, Callee, Frame, Memory, Piece, ProgramTree, State, Undef, Value}
use Rattle.sc_run.specs.Common.{back_cross, back_own, blocks_for, body_does, c_arith, cell_of, emit_event, here_of}
use Rattle.sc_run.specs.Common.{variable, variables, with_blocks, word_in}
use Rattle.std.specs.Prelude.{◌≡◌, ℕ, ◌<◌, ◌^◌, ◌++◌, List, [], ◌∷◌, length, map, pos, replicate, Option, None, Some}
use Rattle.sc_run.specs.Seen.{Seen}
use Rattle.sc_run.specs.Resume.{calls_in}

-- the block of a variable of `count` cells: it holds its argument, or nothing yet
abbrev pub block_for : ℕ → Option Value → Block
block_for count None = variable (replicate count Undef)
block_for count (Some v) = variable (cell_of v ∷ [])

-- the blocks of the variables of a function, after those of its compartment
abbrev pub with_variables : Callee → List Value → Memory → Memory
with_variables callee args memory =
    with_blocks callee.comp.now (memory callee.comp.now ++
    blocks_for (variables callee.structs.now callee.function.now) args) memory

-- the frame of a call whose variables begin
pub record Begun (callee : Callee) (args : List Value) (before after : Seen) (f : Frame) : Type 0 where
  pub structs : f.scope.structs ≡ callee.structs
  pub comp : f.scope.comp ≡ callee.comp
  pub first : f.scope.first ≡ pos (length (before.memory callee.comp.now))
  pub params : f.scope.params ≡ length callee.function.now.params
  pub function : f.function ≡ callee.function
  pub few : length f.function.now.locals < 2 ^ 32
  pub seen : after ≡ record before { memory = with_variables callee args before.memory }

-- a call of an export is emitted
abbrev pub emitted_call : Frame → Callee → List Value → Option ℕ → Seen → Seen
emitted_call caller callee args None seen = seen
emitted_call caller callee args (Some index) seen =
    record seen { trace = seen.trace ++ Call caller.scope.comp.now callee.comp.now index (map word_in args) ∷ [] }

abbrev pub entry_from : Frame → Callee → List Value → Option ℕ → State → State
entry_from caller callee args None s = s
entry_from caller callee args (Some index) s = emit_event (Call caller.scope.comp.now callee.comp.now index
    (map word_in args)) s

-- a return inside the compartment, or one from an export to the function that called
abbrev pub back_from : ProgramTree → Frame → Callee → Option ℕ → Option Value → State → Piece (Option Value)
back_from program caller callee None v s = back_own v s
back_from program caller callee (Some index) v s = back_cross program.interfaces caller.scope.comp.now callee.comp.now
    index v s

-- the initialisers and the statements of the function that runs
abbrev pub body_acts : ProgramTree → ℕ → Frame → Acts
body_acts program n f =
    body_does c_arith f.scope.structs.now (here_of f.scope) f.scope.params (calls_in program n) f.function.now
