-- What one instruction does (RISC-V Unprivileged ISA, RV32I and M), and when it traps.
use Rattle.sc_image.specs.Common.{Auipc, BadCall, BadFree, BadJump, Branch, BranchOp, Breakpoint, Ebreak, Ecall, Fence}
use Rattle.sc_image.specs.Common.{Illegal}
use Rattle.sc_image.specs.Common.{Instr, Jal, Jalr, Load, LoadOp, Lui, Misaligned, NoImport, Op, OpImm, OpImmOp, OpOp}
use Rattle.sc_image.specs.Common.{Owner, Shift, ShiftOp, Store, StoreOp, TrapReason, Upper, UpperOp, add_word, decoded}
use Rattle.sc_image.specs.Common.{div_word}
use Rattle.sc_image.specs.Common.{divu_word, load_of, mul_word, mulh_word, mulhsu_word, mulhu_word, rem_word, remu_word}
use Rattle.sc_image.specs.Common.{signed, signed_of, sll_word, slt_word, sltu_word, sra_word, srl_word, with_bytes}
use Rattle.sc_image.specs.Common.{sub_word, word_of}
use Rattle.std.specs.Prelude.{ℕ, ℤ, ◌+◌, ◌*◌, ◌/◌, ◌%◌, ◌^◌, Bool, ◌&&◌, ◌==◌, not, nat_eq, nat_lt, nat_le, int_lt}
use Rattle.std.specs.Prelude.{int_le, List, Option, Some, None, if◌then◌else◌, bit_and, bit_or, bit_xor, is_some}
use Rattle.rv_code.specs.declared.instr.BranchOp.TheVariants.{Beq, Bne, Blt, Bge, Bltu, Bgeu}
use Rattle.rv_code.specs.declared.instr.LoadOp.TheVariants.{Lb, Lh, Lw, Lbu, Lhu}
use Rattle.rv_code.specs.declared.instr.StoreOp.TheVariants.{Sb, Sh, Sw}
use Rattle.rv_code.specs.declared.instr.OpImmOp.TheVariants.{Addi, Slti, Sltiu, Xori, Ori, Andi}
use Rattle.rv_code.specs.declared.instr.ShiftOp.TheVariants.{Slli, Srli, Srai}
use Rattle.rv_code.specs.declared.instr.OpOp.TheVariants.{Add, Sub, Sll, Slt, Sltu, Xor, Srl, Sra, Or, And, Mul, Mulh}
use Rattle.rv_code.specs.declared.instr.OpOp.TheVariants.{Mulhsu, Mulhu, Div, Divu, Rem, Remu}
use Rattle.sc_image.specs.declared.parts.ImageParts.{ImageParts}
use Rattle.sc_image.specs.Layout.{gate, comp_of_code, has_heap, word_at, are_data}
use Rattle.sc_image.specs.Calls.{may_input, may_output, may_call_export, entered_export, export_params}
use Rattle.sc_image.specs.State.{MachineState, ra, a0, a1, a7, reg, with_reg, with_pc, zone_of}
use Rattle.sc_image.specs.Cross.{on_alloc, on_call, on_free, on_input, on_output, on_return, starts_block}

-- the state after a step, or the reason why there is no step
pub data OutcomeOf (M : Type 0) : Type 0 where
  Goes : (state : M) → OutcomeOf M
  Traps : (reason : TrapReason) → OutcomeOf M

-- where a machine's whole state is a `MachineState`
abbrev pub Outcome : Type 0
Outcome = OutcomeOf MachineState

-- A machine's whole state M may hold more than a `MachineState`: how that part is seen, and how it is changed.
pub record Carrier (M : Type 0) : Type 0 where
  pub seen : M → MachineState
  pub changed : M → MachineState → M

-- where it holds nothing more
abbrev pub plain : Carrier MachineState
plain = record { seen = λ state. state; changed = λ state next. next }

-- on to the next instruction, with that part as the instruction leaves it: code lies below 2 ^ 26, so the pc doesn't
-- wrap
abbrev pub next_by : {M : Type 0} → Carrier M → M → (left : MachineState) → OutcomeOf M
next_by carrier state left = Goes (carrier.changed state (with_pc left (left.pc + 4)))

abbrev pub next : MachineState → Outcome
next state = next_by plain state state

-- on to the next instruction, with a word in rd
abbrev pub gives_by : {M : Type 0} → Carrier M → M → (rd word : ℕ) → OutcomeOf M
gives_by carrier state rd word = next_by carrier state (with_reg (carrier.seen state) rd word)

abbrev pub gives : MachineState → (rd word : ℕ) → Outcome
gives = gives_by plain

-- Arithmetic.

-- what an operation computes from two registers
abbrev pub op_result : OpOp → ℕ → ℕ → ℕ
op_result Add = add_word
op_result Sub = sub_word
op_result Sll = sll_word
op_result Slt = slt_word
op_result Sltu = sltu_word
op_result Xor = bit_xor
op_result Srl = srl_word
op_result Sra = sra_word
op_result Or = bit_or
op_result And = bit_and
op_result Mul = mul_word
op_result Mulh = mulh_word
op_result Mulhsu = mulhsu_word
op_result Mulhu = mulhu_word
op_result Div = div_word
op_result Divu = divu_word
op_result Rem = rem_word
op_result Remu = remu_word

-- what LUI gives, and what AUIPC does
abbrev pub upper_result : UpperOp → (pc imm : ℕ) → ℕ
upper_result Lui pc imm = imm
upper_result Auipc pc imm = add_word pc imm

-- an operation on an immediate computes what this one computes from the immediate's word
abbrev pub on_registers : OpImmOp → OpOp
on_registers Addi = Add
on_registers Slti = Slt
on_registers Sltiu = Sltu
on_registers Xori = Xor
on_registers Ori = Or
on_registers Andi = And

abbrev pub shift_on_registers : ShiftOp → OpOp
shift_on_registers Slli = Sll
shift_on_registers Srli = Srl
shift_on_registers Srai = Sra

-- whether two registers compare so
abbrev pub compares : BranchOp → ℕ → ℕ → Bool
compares Beq a b = a == b
compares Bne a b = not (a == b)
compares Blt a b = int_lt (signed_of a) (signed_of b)
compares Bge a b = int_le (signed_of b) (signed_of a)
compares Bltu a b = nat_lt a b
compares Bgeu a b = nat_le b a

-- Memory.

-- how many bytes a load or a store is of
abbrev pub load_size : LoadOp → ℕ
load_size Lb = 1
load_size Lh = 2
load_size Lw = 4
load_size Lbu = 1
load_size Lhu = 2

-- the register's word for a number that was loaded: LB and LH keep its sign
abbrev pub extended : LoadOp → ℕ → ℕ
extended Lb number = word_of (signed (2 ^ 7) number)
extended Lh number = word_of (signed (2 ^ 15) number)
extended _ number = number

abbrev pub store_size : StoreOp → ℕ
store_size Sb = 1
store_size Sh = 2
store_size Sw = 4

-- why the `size` bytes from an address on may not be accessed: it isn't a multiple of `size`, or the access isn't
-- allowed
abbrev pub refused_by : (allowed : Bool) → (size address : ℕ) → Option TrapReason
refused_by allowed size address =
    if not (address % size == 0) then Some Misaligned
    else if not allowed then Some Owner
    else None

abbrev pub unless_trap : {M : Type 0} → Option TrapReason → OutcomeOf M → OutcomeOf M
unless_trap None outcome = outcome
unless_trap (Some reason) outcome = Traps reason

-- the word that is loaded from an address
abbrev pub word_loaded : MachineState → LoadOp → (address : ℕ) → ℕ
word_loaded state op address = extended op (load_of state.memory address (load_size op))

abbrev pub load_by : {M : Type 0} → Carrier M → (allowed : Bool) → M → LoadOp → (rd address : ℕ) → OutcomeOf M
load_by carrier allowed state op rd address = unless_trap (refused_by allowed (load_size op) address)
    (gives_by carrier state rd (word_loaded (carrier.seen state) op address))

-- the state with the lowest bytes of a word at an address
abbrev pub with_stored : MachineState → StoreOp → (address word : ℕ) → MachineState
with_stored state op address word = record state { memory = with_bytes state.memory address (store_size op) word }

abbrev pub store_by : {M : Type 0} → Carrier M → (allowed : Bool) → M → StoreOp → (address word : ℕ) → OutcomeOf M
store_by carrier allowed state op address word = unless_trap (refused_by allowed (store_size op) address)
    (next_by carrier state (with_stored (carrier.seen state) op address word))

-- Jumps.

-- to a place in the own code, with the address of the next instruction in rd; what comes of any other target is given
abbrev pub jump_by : {M : Type 0} → Carrier M → (in_code : Bool) → M → (rd target : ℕ) → (elsewhere : OutcomeOf M) →
    OutcomeOf M
jump_by carrier in_code state rd target elsewhere =
    let seen = carrier.seen state in
    if not (target % 4 == 0) then Traps Misaligned
    else if in_code then Goes (carrier.changed state (with_pc (with_reg seen rd (seen.pc + 4)) target))
    else elsewhere

-- the target of JALR: bit 0 of the sum is cleared
abbrev pub jalr_target : (base : ℕ) → ℤ → ℕ
jalr_target base imm = add_word base (word_of imm) / 2 * 2

-- One instruction, by what a machine says of addresses: machines differ in nothing else.

pub record Protection (M : Type 0) : Type 0 where
  pub carrier : Carrier M
  -- the word that may be executed at an address
  pub fetched : M → (address : ℕ) → Option ℕ
  -- whether the `size` bytes from an address on may be loaded, or stored to
  pub may_load : M → (address size : ℕ) → Bool
  pub may_store : M → (address size : ℕ) → Bool
  -- where a jump leads whose target is out of the own code: of JAL, and of JALR
  pub jal_leaves : M → (rd target : ℕ) → OutcomeOf M
  pub jalr_leaves : M → (rd target : ℕ) → OutcomeOf M
  -- what a call of the environment does
  pub environment : M → OutcomeOf M

module _ {M : Type 0} (protection : Protection M) where
  abbrev jump_in : M → (rd target : ℕ) → (elsewhere : OutcomeOf M) → OutcomeOf M
  jump_in state rd target elsewhere = jump_by protection.carrier (is_some
      (protection.fetched state target)) state rd target elsewhere

  abbrev word_in : M → (r : ℕ) → ℕ
  word_in state r = reg (protection.carrier.seen state) r

  abbrev pc_in : M → ℕ
  pc_in state = (protection.carrier.seen state).pc

  abbrev gives_in : M → (rd word : ℕ) → OutcomeOf M
  gives_in = gives_by protection.carrier

  abbrev next_in : M → OutcomeOf M
  next_in state = next_by protection.carrier state (protection.carrier.seen state)

  unfoldable pub execute_by : M → Instr → OutcomeOf M
  execute_by state (Upper op rd imm) = gives_in state rd (upper_result op (pc_in state) imm)
  execute_by state (Jal rd imm) =
      let target = add_word (pc_in state) (word_of imm) in
      jump_in state rd target (protection.jal_leaves state rd target)
  execute_by state (Jalr rd rs1 imm) =
      let target = jalr_target (word_in state rs1) imm in
      jump_in state rd target (protection.jalr_leaves state rd target)
  execute_by state (Branch op rs1 rs2 imm) =
      if compares op (word_in state rs1) (word_in state rs2) then
      jump_in state 0 (add_word (pc_in state) (word_of imm)) (Traps BadJump) else next_in state
  execute_by state (Load op rd rs1 imm) =
      let address = add_word (word_in state rs1) (word_of imm) in
      load_by protection.carrier (protection.may_load state address (load_size op)) state op rd address
  execute_by state (Store op rs1 rs2 imm) =
      let address = add_word (word_in state rs1) (word_of imm) in
      let allowed = protection.may_store state address (store_size op) in
      store_by protection.carrier allowed state op address (word_in state rs2)
  execute_by state (OpImm op rd rs1 imm) =
      gives_in state rd (op_result (on_registers op) (word_in state rs1) (word_of imm))
  execute_by state (Shift op rd rs1 amount) =
      gives_in state rd (op_result (shift_on_registers op) (word_in state rs1) amount)
  execute_by state (Op op rd rs1 rs2) = gives_in state rd (op_result op (word_in state rs1) (word_in state rs2))
  execute_by state (Fence _ _ _) = next_in state
  execute_by state Ecall = protection.environment state
  execute_by state Ebreak = Traps Breakpoint

  -- the word of an instruction, if it is one
  abbrev pub if_decoded : M → Option Instr → OutcomeOf M
  if_decoded state None = Traps Illegal
  if_decoded state (Some instr) = execute_by state instr

  -- a word of the own code, if pc is at one
  abbrev pub if_fetched : M → Option ℕ → OutcomeOf M
  if_fetched state None = Traps BadJump
  if_fetched state (Some word) = if_decoded state (decoded word)

  -- the instruction at pc
  unfoldable pub step_by : M → OutcomeOf M
  step_by state = if_fetched state (protection.fetched state (pc_in state))

-- The machine of an image, by who owns an address: a compartment executes its own code, and loads and stores in its own
-- data.

abbrev pub refused : ImageParts → (c size address : ℕ) → Option TrapReason
refused image c size address = refused_by (are_data image c address size) size address

abbrev pub load : ImageParts → MachineState → LoadOp → (rd address : ℕ) → Outcome
load image state op rd address = load_by plain (are_data image state.active address (load_size op)) state op rd address

abbrev pub store : ImageParts → MachineState → StoreOp → (address word : ℕ) → Outcome
store image state op address word =
    store_by plain (are_data image state.active address (store_size op)) state op address word

abbrev pub jump : ImageParts → MachineState → (rd target : ℕ) → (elsewhere : Outcome) → Outcome
jump image state rd target elsewhere =
    jump_by plain (is_some (word_at image state.active target)) state rd target elsewhere

-- to where an export of another compartment begins, which is a call of it: the export's index is given, or that there
-- is none
abbrev pub export_called : ImageParts → MachineState → (to target : ℕ) → Option ℕ → Outcome
export_called image state to target None = Traps BadJump
export_called image state to target (Some index) =
    if may_call_export image state.active to index
    then Goes (on_call state to index (export_params image to index) target)
    else Traps NoImport

-- a jump out of the own code calls where rd is ra
abbrev pub jump_outside : ImageParts → MachineState → (rd target : ℕ) → Outcome
jump_outside image state rd target =
    if nat_eq rd ra then export_called image state (comp_of_code target) target
    (entered_export image (comp_of_code target) target)
    else Traps BadJump

-- JALR returns, too, where rd is x0 and the target is the gate
abbrev pub leaves : ImageParts → MachineState → (rd target : ℕ) → Outcome
leaves image state rd target =
    if nat_eq rd 0 && nat_eq target gate
    then Goes (on_return image state state.cross)
    else jump_outside image state rd target

-- the block that starts at an address is freed, and nothing where that is 0
abbrev pub frees : MachineState → (address : ℕ) → Outcome
frees state address =
    if nat_eq address 0 then next state
    else if starts_block state.active (zone_of state state.active) address then next (on_free state address)
    else Traps BadFree

-- a7 says what is called: 1 is `input`, 2 is `output`; with a heap, 3 allocates a0 times a1 words, and 4 frees
abbrev pub environment_call : ImageParts → List ℕ → MachineState → Outcome
environment_call image inputs state =
    if nat_eq (reg state a7) 1
    then (if may_input image state.active then next (on_input inputs state) else Traps NoImport)
    else if nat_eq (reg state a7) 2
    then (if may_output image state.active then next (on_output state) else Traps NoImport)
    else if not (has_heap image state.active) then Traps BadCall
    else if nat_eq (reg state a7) 3 then next (on_alloc state (reg state a0 * reg state a1))
    else if nat_eq (reg state a7) 4 then frees state (reg state a0)
    else Traps BadCall

abbrev pub by_owner : ImageParts → List ℕ → Protection MachineState
by_owner image inputs = record {
  carrier = plain;
  fetched = λ state. word_at image state.active;
  may_load = λ state. are_data image state.active;
  may_store = λ state. are_data image state.active;
  jal_leaves = jump_outside image;
  jalr_leaves = leaves image;
  environment = environment_call image inputs;
}

abbrev pub execute : ImageParts → List ℕ → MachineState → Instr → Outcome
execute image inputs = execute_by (by_owner image inputs)

abbrev pub step : ImageParts → List ℕ → MachineState → Outcome
step image inputs = step_by (by_owner image inputs)
