-- Stretches of a run, for proofs about code: numbers of steps that lead from one state to another, and what they say of
-- whole runs.
use Rattle.sc_image.specs.Common.{Auipc, BadJump, Branch, BranchOp, Breakpoint, Ebreak, Ecall, Fence, Instr, Jal, Jalr}
use Rattle.sc_image.specs.Common.{Load, LoadOp, Lui, Op, OpImm, OpImmOp, OpOp, Region, Shift, ShiftOp, StepsOut, Stop}
use Rattle.sc_image.specs.Common.{Store, StoreOp, Trap, TrapReason, Upper, add_word, decoded, little_bytes, load_of}
use Rattle.sc_image.specs.Common.{word_of}
use Rattle.std.specs.Prelude.{◌≡◌, ℕ, zero, suc, ◌+◌, ◌*◌, ◌<◌, ◌≤◌, ℤ, true, false, List, ◌∷◌, ◌++◌, length, flat_map}
use Rattle.std.specs.Prelude.{slice_get, Some, None}
use Rattle.sc_image.specs.declared.parts.ImageParts.{ImageParts}
use Rattle.sc_image.specs.declared.parts.CompPart.{CompPart}
use Rattle.sc_base.specs.Word.{IsWord}
use Rattle.sc_image.specs.WellFormed.{IsWellFormed}
use Rattle.sc_image.specs.Layout.{stack_size, code_start, data_start, stack_top, code_in, word_at, data_regions}
use Rattle.sc_image.specs.Layout.{are_data, data_end, zone_size, zone_start}
use Rattle.sc_image.specs.State.{MachineState, reg, start_memory}
use Rattle.sc_image.specs.Step.{Outcome, Goes, Traps, next, gives, op_result, on_registers, shift_on_registers}
use Rattle.sc_image.specs.Step.{compares}
use Rattle.sc_image.specs.Step.{load, store, jump, jump_outside, leaves, jalr_target, environment_call, step}
use Rattle.sc_image.specs.Machine.{is_ended, stopped, run}
use Rattle.sc_image.specs.Isolation.{IsReached}

-- after an outcome: on from the state, or trapped
abbrev pub then_on : Outcome → (MachineState → Outcome) → Outcome
then_on (Goes state) go = go state
then_on (Traps reason) go = Traps reason

-- `steps` steps from a state on, whatever they emit, up to the first trap
abbrev pub walk : ImageParts → List ℕ → (steps : ℕ) → MachineState → Outcome
walk image inputs zero state = Goes state
walk image inputs (suc steps) state = then_on (step image inputs state) (walk image inputs steps)

-- `steps` steps lead from one state to another
pub record Walks (image : ImageParts) (inputs : List ℕ) (steps : ℕ) (from to : MachineState) : Type 0 where
  pub by : walk image inputs steps from ≡ Goes to

-- an instruction stands at the pc of a state
pub record IsAt (image : ImageParts) (state : MachineState) (instr : Instr) : Type 0 where
  pub word : ℕ
  pub fetched : word_at image state.active state.pc ≡ Some word
  pub decodes : decoded word ≡ Some instr

-- Stretches follow one another, and a run goes along a stretch as long as it neither ends nor has emitted all the
-- events that it may.
pub record StretchesCompose : Type 0 where
  pub one_step : (image : ImageParts) (inputs : List ℕ) (from to : MachineState) → step image inputs from ≡ Goes to →
      Walks image inputs 1 from to
  pub together : (image : ImageParts) (inputs : List ℕ) (m n : ℕ) (from middle to : MachineState) →
      Walks image inputs m from middle → Walks image inputs n middle to → Walks image inputs (m + n) from to
  pub run_along : (image : ImageParts) (inputs : List ℕ) (events steps more : ℕ) (from to : MachineState) →
      IsWellFormed image →
      Walks image inputs steps from to → from.trace ≡ to.trace → stopped events from.trace ≡ None →
      run image inputs events (steps + more) from ≡ run image inputs events more to
  pub run_step : (image : ImageParts) (inputs : List ℕ) (events more : ℕ) (from to : MachineState) →
      step image inputs from ≡ Goes to → stopped events from.trace ≡ None →
      run image inputs events (suc more) from ≡ run image inputs events more to
  pub run_trap : (image : ImageParts) (inputs : List ℕ) (events more : ℕ) (state : MachineState) (reason : TrapReason) →
      step image inputs state ≡ Traps reason → stopped events state.trace ≡ None →
      run image inputs events (suc more) state ≡ record { state = state; stop = Trap reason state.pc }
  pub run_stop : (image : ImageParts) (inputs : List ℕ) (events more : ℕ) (state : MachineState) (stop : Stop) →
      stopped events state.trace ≡ Some stop → run image inputs events more state ≡
      record { state = state; stop = stop }
  pub run_none : (image : ImageParts) (inputs : List ℕ) (events : ℕ) (state : MachineState) →
      stopped events state.trace ≡ None → run image inputs events 0 state ≡ record { state = state; stop = StepsOut }
  -- the state after one more step is reached, too
  pub reached_next : (image : ImageParts) (inputs : List ℕ) (from to : MachineState) → IsWellFormed image →
      IsReached image inputs from → is_ended from.trace ≡ false → step image inputs from ≡ Goes to →
      IsReached image inputs to

-- what the step is by the instruction at the pc
pub record StepsByInstruction : Type 0 where
  pub lui : (image : ImageParts) (inputs : List ℕ) (state : MachineState) (rd imm : ℕ) →
      IsAt image state (Upper Lui rd imm) → step image inputs state ≡ gives state rd imm
  pub auipc : (image : ImageParts) (inputs : List ℕ) (state : MachineState) (rd imm : ℕ) →
      IsAt image state (Upper Auipc rd imm) → step image inputs state ≡ gives state rd (add_word state.pc imm)
  pub jal : (image : ImageParts) (inputs : List ℕ) (state : MachineState) (rd : ℕ) (imm : ℤ) (target : ℕ) →
      IsAt image state (Jal rd imm) → add_word state.pc (word_of imm) ≡ target →
      step image inputs state ≡ jump image state rd target (jump_outside image state rd target)
  pub jalr : (image : ImageParts) (inputs : List ℕ) (state : MachineState) (rd rs1 : ℕ) (imm : ℤ) (target : ℕ) →
      IsAt image state (Jalr rd rs1 imm) → jalr_target (reg state rs1) imm ≡ target →
      step image inputs state ≡ jump image state rd target (leaves image state rd target)
  pub branch_taken : (image : ImageParts) (inputs : List ℕ) (state : MachineState) (op : BranchOp) (rs1 rs2 : ℕ)
      (imm : ℤ) (target : ℕ) →
      IsAt image state (Branch op rs1 rs2 imm) → compares op (reg state rs1) (reg state rs2) ≡ true →
      add_word state.pc (word_of imm) ≡ target →
      step image inputs state ≡ jump image state 0 target (Traps BadJump)
  pub branch_not_taken : (image : ImageParts) (inputs : List ℕ) (state : MachineState) (op : BranchOp) (rs1 rs2 : ℕ)
      (imm : ℤ) →
      IsAt image state (Branch op rs1 rs2 imm) → compares op (reg state rs1) (reg state rs2) ≡ false →
      step image inputs state ≡ next state
  pub loads : (image : ImageParts) (inputs : List ℕ) (state : MachineState) (op : LoadOp) (rd rs1 : ℕ) (imm : ℤ)
      (address : ℕ) →
      IsAt image state (Load op rd rs1 imm) → add_word (reg state rs1) (word_of imm) ≡ address →
      step image inputs state ≡ load image state op rd address
  pub stores : (image : ImageParts) (inputs : List ℕ) (state : MachineState) (op : StoreOp) (rs1 rs2 : ℕ) (imm : ℤ)
      (address : ℕ) →
      IsAt image state (Store op rs1 rs2 imm) → add_word (reg state rs1) (word_of imm) ≡ address →
      step image inputs state ≡ store image state op address (reg state rs2)
  pub op_imm : (image : ImageParts) (inputs : List ℕ) (state : MachineState) (op : OpImmOp) (rd rs1 : ℕ) (imm : ℤ) →
      IsAt image state (OpImm op rd rs1 imm) → step image inputs state ≡
      gives state rd (op_result (on_registers op) (reg state rs1) (word_of imm))
  pub shift : (image : ImageParts) (inputs : List ℕ) (state : MachineState) (op : ShiftOp) (rd rs1 amount : ℕ) →
      IsAt image state (Shift op rd rs1 amount) → step image inputs state ≡
      gives state rd (op_result (shift_on_registers op) (reg state rs1) amount)
  pub op : (image : ImageParts) (inputs : List ℕ) (state : MachineState) (op : OpOp) (rd rs1 rs2 : ℕ) →
      IsAt image state (Op op rd rs1 rs2) → step image inputs state ≡
      gives state rd (op_result op (reg state rs1) (reg state rs2))
  pub fence : (image : ImageParts) (inputs : List ℕ) (state : MachineState) (imm : ℤ) (rs1 rd : ℕ) →
      IsAt image state (Fence imm rs1 rd) → step image inputs state ≡ next state
  pub ecall : (image : ImageParts) (inputs : List ℕ) (state : MachineState) → IsAt image state Ecall →
      step image inputs state ≡ environment_call image inputs state
  pub ebreak : (image : ImageParts) (inputs : List ℕ) (state : MachineState) → IsAt image state Ebreak →
      step image inputs state ≡ Traps Breakpoint

-- where a compartment's words of code and bytes of data stand at the start
pub record ImageInMemory : Type 0 where
  pub code : (image : ImageParts) (c word : ℕ) (before after : List ℕ) → code_in image c ≡ before ++ word ∷ after →
      word_at image c (code_start c + 4 * length before) ≡ Some word
  pub stack : (image : ImageParts) (c : ℕ) (comp : CompPart) (k : ℕ) → slice_get image.comps c ≡ Some comp →
      k < stack_size → start_memory image (data_start c + k) ≡ Some 0
  pub globals : (image : ImageParts) (c : ℕ) (comp : CompPart) (k : ℕ) → IsWellFormed image →
      slice_get image.comps c ≡ Some comp →
      k < length comp.globals → start_memory image (stack_top c + k) ≡ slice_get comp.globals k
  -- where the globals are words, the lowest byte first, LW reads each
  pub global_words : (image : ImageParts) (c : ℕ) (comp : CompPart) (words : List ℕ) (k word : ℕ) → IsWellFormed image →
      slice_get image.comps c ≡ Some comp → comp.globals ≡ flat_map (little_bytes 4) words →
      slice_get words k ≡ Some word → IsWord word → load_of (start_memory image) (stack_top c + 4 * k) 4 ≡ word
  -- a zone holds zeros
  pub zone : (image : ImageParts) (c : ℕ) (comp : CompPart) (k : ℕ) → IsWellFormed image →
      slice_get image.comps c ≡ Some comp → comp.heap ≡ true → k < zone_size →
      start_memory image (zone_start c + k) ≡ Some 0
  -- the addresses of a region of the compartment's data are its data
  pub owned : (image : ImageParts) (c number address size : ℕ) (region : Region) →
      slice_get (data_regions image c) number ≡ Some region → region.start ≤ address →
      address + size ≤ region.start + region.bytes → are_data image c address size ≡ true
  -- and all its data lie between these
  pub within : (image : ImageParts) (c address size : ℕ) → IsWellFormed image → 0 < size →
      are_data image c address size ≡ true → (data_start c ≤ address) × (address + size ≤ data_end c)
