-- The instruction that a word encodes, by cases on the word's fields.
use Rattle.std.specs.Prelude.{ℕ, ◌+◌, ◌*◌, ◌/◌, ◌%◌, ◌^◌, ℤ, ◌&&◌, nat_eq, if◌then◌else◌, Option, Some, None, find}
use Rattle.std.specs.Option.{option_map, option_or}
use Rattle.rv_code.specs.declared.instr.UpperOp.TheVariants.{Lui, Auipc}
use Rattle.rv_code.specs.declared.instr.BranchOp.{BranchOp}
use Rattle.rv_code.specs.declared.instr.LoadOp.{LoadOp}
use Rattle.rv_code.specs.declared.instr.StoreOp.{StoreOp}
use Rattle.rv_code.specs.declared.instr.OpImmOp.{OpImmOp}
use Rattle.rv_code.specs.declared.instr.ShiftOp.{ShiftOp}
use Rattle.rv_code.specs.declared.instr.OpOp.{OpOp}
use Rattle.rv_code.specs.declared.instr.Instr.{Instr}
use Rattle.rv_code.specs.declared.instr.Instr.TheVariants.{Upper, Jal, Jalr, Branch, Load, Store, OpImm, Shift, Op}
use Rattle.rv_code.specs.declared.instr.Instr.TheVariants.{Fence, Ecall, Ebreak}
use Rattle.rv_code.specs.Ranges.{signed}
use Rattle.rv_code.specs.Table.{upper_opcode, jal_opcode, jalr_opcode, branch_opcode, load_opcode, store_opcode}
use Rattle.rv_code.specs.Table.{op_imm_opcode, op_opcode, fence_opcode, ecall_word, ebreak_word, jalr_funct3}
use Rattle.rv_code.specs.Table.{fence_funct3, branch_funct3, load_funct3, store_funct3, op_imm_funct3, shift_funct3}
use Rattle.rv_code.specs.Table.{shift_funct7, op_funct3, op_funct7, branch_ops, load_ops, store_ops, op_imm_ops}
use Rattle.rv_code.specs.Table.{shift_ops, op_ops}

-- The fields of a word.

abbrev pub opcode_of : ℕ → ℕ
opcode_of w = w % 2 ^ 7

abbrev pub rd_of : ℕ → ℕ
rd_of w = w / 2 ^ 7 % 2 ^ 5

abbrev pub funct3_of : ℕ → ℕ
funct3_of w = w / 2 ^ 12 % 2 ^ 3

abbrev pub rs1_of : ℕ → ℕ
rs1_of w = w / 2 ^ 15 % 2 ^ 5

abbrev pub rs2_of : ℕ → ℕ
rs2_of w = w / 2 ^ 20 % 2 ^ 5

abbrev pub funct7_of : ℕ → ℕ
funct7_of w = w / 2 ^ 25

abbrev pub i_imm_of : ℕ → ℤ
i_imm_of w = signed (2 ^ 11) (w / 2 ^ 20)

abbrev pub s_imm_of : ℕ → ℤ
s_imm_of w = signed (2 ^ 11) (2 ^ 5 * (w / 2 ^ 25) + w / 2 ^ 7 % 2 ^ 5)

abbrev pub b_imm_of : ℕ → ℤ
b_imm_of w =
    signed (2 ^ 12) (2 ^ 12 * (w / 2 ^ 31) + 2 ^ 11 * (w / 2 ^ 7 % 2) + 2 ^ 5 * (w / 2 ^ 25 % 2 ^ 6) + 2 *
    (w / 2 ^ 8 % 2 ^ 4))

abbrev pub u_imm_of : ℕ → ℕ
u_imm_of w = 2 ^ 12 * (w / 2 ^ 12)

abbrev pub j_imm_of : ℕ → ℤ
j_imm_of w =
    signed (2 ^ 20) (2 ^ 20 * (w / 2 ^ 31) + 2 ^ 12 * (w / 2 ^ 12 % 2 ^ 8) + 2 ^ 11 * (w / 2 ^ 20 % 2) + 2 *
    (w / 2 ^ 21 % 2 ^ 10))

-- The operation of a form with those function codes.

unfoldable pub branch_op_of : (funct3 : ℕ) → Option BranchOp
branch_op_of funct3 = find (λ op. nat_eq funct3 (branch_funct3 op)) branch_ops

unfoldable pub load_op_of : (funct3 : ℕ) → Option LoadOp
load_op_of funct3 = find (λ op. nat_eq funct3 (load_funct3 op)) load_ops

unfoldable pub store_op_of : (funct3 : ℕ) → Option StoreOp
store_op_of funct3 = find (λ op. nat_eq funct3 (store_funct3 op)) store_ops

unfoldable pub op_imm_op_of : (funct3 : ℕ) → Option OpImmOp
op_imm_op_of funct3 = find (λ op. nat_eq funct3 (op_imm_funct3 op)) op_imm_ops

unfoldable pub shift_op_of : (funct7 funct3 : ℕ) → Option ShiftOp
shift_op_of funct7 funct3 = find (λ op. nat_eq funct7 (shift_funct7 op) && nat_eq funct3 (shift_funct3 op)) shift_ops

unfoldable pub op_op_of : (funct7 funct3 : ℕ) → Option OpOp
op_op_of funct7 funct3 = find (λ op. nat_eq funct7 (op_funct7 op) && nat_eq funct3 (op_funct3 op)) op_ops

-- The instruction of a word, by its opcode.

unfoldable pub jalr_in : ℕ → Option Instr
jalr_in w = if nat_eq (funct3_of w) jalr_funct3 then Some (Jalr (rd_of w) (rs1_of w) (i_imm_of w)) else None

unfoldable pub branch_in : ℕ → Option Instr
branch_in w = option_map (λ op. Branch op (rs1_of w) (rs2_of w) (b_imm_of w)) (branch_op_of (funct3_of w))

unfoldable pub load_in : ℕ → Option Instr
load_in w = option_map (λ op. Load op (rd_of w) (rs1_of w) (i_imm_of w)) (load_op_of (funct3_of w))

unfoldable pub store_in : ℕ → Option Instr
store_in w = option_map (λ op. Store op (rs1_of w) (rs2_of w) (s_imm_of w)) (store_op_of (funct3_of w))

unfoldable pub shift_in : ℕ → Option Instr
shift_in w = option_map (λ op. Shift op (rd_of w) (rs1_of w) (rs2_of w)) (shift_op_of (funct7_of w) (funct3_of w))

-- no shift has the function code of another operation on an immediate
unfoldable pub op_imm_in : ℕ → Option Instr
op_imm_in w = option_or (option_map (λ op. OpImm op (rd_of w) (rs1_of w) (i_imm_of w)) (op_imm_op_of (funct3_of w)))
    (shift_in w)

unfoldable pub op_in : ℕ → Option Instr
op_in w = option_map (λ op. Op op (rd_of w) (rs1_of w) (rs2_of w)) (op_op_of (funct7_of w) (funct3_of w))

unfoldable pub fence_in : ℕ → Option Instr
fence_in w = if nat_eq (funct3_of w) fence_funct3 then Some (Fence (i_imm_of w) (rs1_of w) (rd_of w)) else None

unfoldable pub system_in : ℕ → Option Instr
system_in w = if nat_eq w ecall_word then Some Ecall else if nat_eq w ebreak_word then Some Ebreak else None

-- the instruction that a word encodes, if there is one
unfoldable pub decoded : ℕ → Option Instr
decoded w =
    if nat_eq (opcode_of w) (upper_opcode Lui) then Some (Upper Lui (rd_of w) (u_imm_of w))
    else if nat_eq (opcode_of w) (upper_opcode Auipc) then Some (Upper Auipc (rd_of w) (u_imm_of w))
    else if nat_eq (opcode_of w) jal_opcode then Some (Jal (rd_of w) (j_imm_of w))
    else if nat_eq (opcode_of w) jalr_opcode then jalr_in w
    else if nat_eq (opcode_of w) branch_opcode then branch_in w
    else if nat_eq (opcode_of w) load_opcode then load_in w
    else if nat_eq (opcode_of w) store_opcode then store_in w
    else if nat_eq (opcode_of w) op_imm_opcode then op_imm_in w
    else if nat_eq (opcode_of w) op_opcode then op_in w
    else if nat_eq (opcode_of w) fence_opcode then fence_in w
    else system_in w
