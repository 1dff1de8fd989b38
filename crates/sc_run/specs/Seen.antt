-- Helping: what of a state is kept while a program runs: the changes of frames are not, nor the cells of variables that
-- have ended.
use Rattle.sc_run.specs.Common.{Event, Memory, State, given_back, memory_of}
use Rattle.sc_word.specs.Prelude.{word_of}
use Rattle.std.specs.Prelude.{ℕ, List, map}
use Rattle.sc_run.specs.declared.state.Machine.{Machine}

pub record Seen : Type 0 where
  pub memory : Memory
  pub trace : List Event
  pub turns : ℕ
  pub inputs : List ℕ

-- what is seen of a state
abbrev pub seen_of : State → Seen
seen_of s = record {
  memory = λ comp. map given_back (s.memory comp);
  trace = s.trace;
  turns = s.turns;
  inputs = s.inputs;
}

-- what the machine keeps
abbrev pub kept_by : Machine → Seen
kept_by m = record { memory = memory_of m.blocks; trace = m.trace; turns = m.turns; inputs = map word_of m.inputs.now }
