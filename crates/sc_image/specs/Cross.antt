-- What passes between compartments, and between a compartment and the environment: calls, returns, outputs and inputs.
-- Only numbers pass: every register that isn't named here is 0 on the other side.
use Rattle.sc_image.specs.Common.{Call, End, Export, In, Out, Ret}
use Rattle.std.specs.Prelude.{ℕ, suc, ◌+◌, ◌-◌, ◌*◌, ◌/◌, Bool, ◌&&◌, ◌==◌, nat_eq, nat_le, nat_lt, List, [], ◌∷◌}
use Rattle.std.specs.Prelude.{◌++◌, take, drop}
use Rattle.std.specs.Prelude.{slice_get, slice_set, Option, Some, None, unwrap_or, if◌then◌else◌}
use Rattle.std.specs.List.{list_any}
use Rattle.sc_zone.specs.Prelude.{taken, without_span}
unfoldable use Rattle.sc_zone.specs.Prelude.{least_free}
use Rattle.sc_zone.specs.declared.span.Span.{Span}
use Rattle.sc_image.specs.declared.parts.ImageParts.{ImageParts}
use Rattle.sc_image.specs.Layout.{gate, zone_start}
use Rattle.sc_image.specs.Calls.{has_result}
use Rattle.sc_image.specs.State.{MachineState, Crossing, ra, sp, a0, reg, saved_sp, written, with_reg, with_event}
use Rattle.sc_image.specs.State.{zone_of}

-- the registers with 0 in each that isn't kept
abbrev pub kept_from : (ℕ → Bool) → (r : ℕ) → List ℕ → List ℕ
kept_from keeps r [] = []
kept_from keeps r (word ∷ words) = (if keeps r then word else 0) ∷ kept_from keeps (suc r) words

abbrev pub kept : (ℕ → Bool) → List ℕ → List ℕ
kept keeps regs = kept_from keeps 0 regs

-- a register that holds one of `params` arguments: a0 and on
abbrev pub is_argument : (params r : ℕ) → Bool
is_argument params r = nat_le a0 r && nat_lt r (a0 + params)

-- a register that holds the result, where there is one: a0
abbrev pub is_result : (result : Bool) → (r : ℕ) → Bool
is_result result r = result && nat_eq r a0

abbrev pub cleared_for_call : (params : ℕ) → List ℕ → List ℕ
cleared_for_call params regs = kept (is_argument params) regs

abbrev pub cleared_for_return : (result : Bool) → List ℕ → List ℕ
cleared_for_return result regs = kept (is_result result) regs

-- the words of `params` arguments
abbrev pub arguments : (params : ℕ) → List ℕ → List ℕ
arguments params regs = take params (drop a0 regs)

-- what is kept of a call of the export of that index of compartment `to`, until it returns
abbrev pub crossing_to : MachineState → (to index : ℕ) → Crossing
crossing_to state to index = record {
  caller = state.active;
  pc = state.pc + 4;
  sp = reg state sp;
  callee = to;
  entry = Export index;
  saved = saved_sp state to;
}

-- a call of that export, which takes `params` words and begins at `entry`: all but what is kept of it
abbrev pub on_entry : MachineState → (to index params entry : ℕ) → MachineState
on_entry state to index params entry = record {
  regs = written (written (cleared_for_call params state.regs) ra gate) sp (saved_sp state to);
  pc = entry;
  active = to;
  saved = slice_set state.saved state.active (reg state sp);
  zones = state.zones;
  memory = state.memory;
  cross = state.cross;
  input = state.input;
  trace = state.trace ++ Call state.active to index (arguments params state.regs) ∷ [];
}

-- the call
abbrev pub on_call : MachineState → (to index params entry : ℕ) → MachineState
on_call state to index params entry = record (on_entry state to index params entry) {
  cross = crossing_to state to index ∷ state.cross;
}

-- what a function gives back, where it has a result
abbrev pub given_back : (result : Bool) → MachineState → Option ℕ
given_back result state = if result then Some (reg state a0) else None

-- a return to a caller, where these calls still wait: it goes on there, and the compartment that is left has its saved
-- sp of before
abbrev pub on_return_to : (result : Bool) → MachineState → Crossing → List Crossing → MachineState
on_return_to result state crossing waiting = record {
  regs = written (cleared_for_return result state.regs) sp crossing.sp;
  pc = crossing.pc;
  active = crossing.caller;
  saved = slice_set state.saved state.active crossing.saved;
  zones = state.zones;
  memory = state.memory;
  cross = waiting;
  input = state.input;
  trace = state.trace ++ Ret state.active crossing.caller (given_back result state) ∷ [];
}

-- the run ends: nothing but the trace changes
abbrev pub on_end : MachineState → MachineState
on_end state = with_event state (End state.active (reg state a0))

-- a return through the gate: to the latest caller that waits, and where none does the run ends
abbrev pub on_return : ImageParts → MachineState → List Crossing → MachineState
on_return image state [] = on_end state
on_return image state (crossing ∷ waiting) = on_return_to
    (has_result image crossing.callee crossing.entry) state crossing waiting

-- The environment.

-- a0 is emitted
abbrev pub on_output : MachineState → MachineState
on_output state = with_event state (Out state.active (reg state a0))

-- the input of that number, and 0 after the last
abbrev pub input_at : List ℕ → ℕ → ℕ
input_at inputs k = unwrap_or (slice_get inputs k) 0

-- the next input comes into a0
abbrev pub on_input : List ℕ → MachineState → MachineState
on_input inputs state =
    let word = input_at inputs state.input in
    let read : MachineState = record (with_reg state a0 word) { input = suc state.input } in
    with_event read (In state.active word)

-- The heap: the active compartment's zone, from which blocks are taken first fit.

abbrev pub with_zone : MachineState → List Span → MachineState
with_zone state spans = record state { zones = slice_set state.zones state.active spans }

-- the address of a place in the zone of compartment c, and 0 for none
abbrev pub zone_address : (c : ℕ) → Option ℕ → ℕ
zone_address c None = 0
zone_address c (Some place) = zone_start c + 4 * place

-- the address of a new block of `words` words comes into a0, and 0 where no place is free for it
abbrev pub on_alloc : MachineState → (words : ℕ) → MachineState
on_alloc state words =
    let spans = zone_of state state.active in
    let found = least_free spans words in
    with_reg (with_zone state (taken words found spans)) a0 (zone_address state.active found)

-- one of the zone's blocks starts at an address
abbrev pub starts_block : (c : ℕ) → List Span → (address : ℕ) → Bool
starts_block c spans address = list_any (λ span. zone_address c (Some span.place) == address) spans

-- the block that starts at an address is given back
abbrev pub on_free : MachineState → (address : ℕ) → MachineState
on_free state address = with_zone state
    (without_span ((address - zone_start state.active) / 4) (zone_of state state.active))
