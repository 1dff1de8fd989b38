-- The word of an instruction, by arithmetic on its fields.
use Rattle.std.specs.Prelude.{◌≡◌, ℕ, ◌+◌, ◌*◌, ◌/◌, ◌%◌, ◌^◌, ℤ}
use Rattle.rv_code.specs.declared.instr.Instr.{Instr}
use Rattle.rv_code.specs.declared.instr.Instr.TheVariants.{Upper, Jal, Jalr, Branch, Load, Store, OpImm, Shift, Op}
use Rattle.rv_code.specs.declared.instr.Instr.TheVariants.{Fence, Ecall, Ebreak}
use Rattle.rv_code.specs.Ranges.{residue, IsReg, IsAmount, IsUpper, IsImmediate, IsBranchOffset, IsJumpOffset}
use Rattle.rv_code.specs.Table.{upper_opcode, jal_opcode, jalr_opcode, branch_opcode, load_opcode, store_opcode}
use Rattle.rv_code.specs.Table.{op_imm_opcode, op_opcode, fence_opcode, ecall_word, ebreak_word, jalr_funct3}
use Rattle.rv_code.specs.Table.{fence_funct3, branch_funct3, load_funct3, store_funct3, op_imm_funct3, shift_funct3}
use Rattle.rv_code.specs.Table.{shift_funct7, op_funct3, op_funct7}

-- The forms. Each summand is a field, times the power of two of its lowest bit.

abbrev pub r_word : (opcode rd funct3 rs1 rs2 funct7 : ℕ) → ℕ
r_word opcode rd funct3 rs1 rs2 funct7 =
    opcode + 2 ^ 7 * rd + 2 ^ 12 * funct3 + 2 ^ 15 * rs1 + 2 ^ 20 * rs2 + 2 ^ 25 * funct7

-- the immediate's 12 bits from bit 20 on
abbrev pub i_word : (opcode rd funct3 rs1 : ℕ) → ℤ → ℕ
i_word opcode rd funct3 rs1 imm =
    opcode + 2 ^ 7 * rd + 2 ^ 12 * funct3 + 2 ^ 15 * rs1 + 2 ^ 20 * residue (2 ^ 12) imm

-- the immediate's bits 4 to 0 from bit 7 on, and 11 to 5 from bit 25 on
abbrev pub s_word : (opcode funct3 rs1 rs2 : ℕ) → ℤ → ℕ
s_word opcode funct3 rs1 rs2 imm =
    let bits = residue (2 ^ 12) imm in
    opcode + 2 ^ 7 * (bits % 2 ^ 5) + 2 ^ 12 * funct3 + 2 ^ 15 * rs1 + 2 ^ 20 * rs2 + 2 ^ 25 * (bits / 2 ^ 5)

-- the immediate's bit 11 in bit 7, 4 to 1 from bit 8 on, 10 to 5 from bit 25 on, and 12 in bit 31
abbrev pub b_word : (opcode funct3 rs1 rs2 : ℕ) → ℤ → ℕ
b_word opcode funct3 rs1 rs2 imm =
    let bits = residue (2 ^ 13) imm in
    opcode + 2 ^ 7 * (bits / 2 ^ 11 % 2) + 2 ^ 8 * (bits / 2 % 2 ^ 4) + 2 ^ 12 * funct3 + 2 ^ 15 * rs1 + 2 ^ 20 * rs2 +
    2 ^ 25 * (bits / 2 ^ 5 % 2 ^ 6) + 2 ^ 31 * (bits / 2 ^ 12)

-- the immediate's bits 31 to 12 in their own places
abbrev pub u_word : (opcode rd imm : ℕ) → ℕ
u_word opcode rd imm = opcode + 2 ^ 7 * rd + imm

-- the immediate's bits 19 to 12 in their own places, 11 in bit 20, 10 to 1 from bit 21 on, and 20 in bit 31
abbrev pub j_word : (opcode rd : ℕ) → ℤ → ℕ
j_word opcode rd imm =
    let bits = residue (2 ^ 21) imm in
    opcode + 2 ^ 7 * rd + 2 ^ 12 * (bits / 2 ^ 12 % 2 ^ 8) + 2 ^ 20 * (bits / 2 ^ 11 % 2) +
    2 ^ 21 * (bits / 2 % 2 ^ 10) + 2 ^ 31 * (bits / 2 ^ 20)

-- the word of an instruction
unfoldable pub word_of : Instr → ℕ
word_of (Upper op rd imm) = u_word (upper_opcode op) rd imm
word_of (Jal rd imm) = j_word jal_opcode rd imm
word_of (Jalr rd rs1 imm) = i_word jalr_opcode rd jalr_funct3 rs1 imm
word_of (Branch op rs1 rs2 imm) = b_word branch_opcode (branch_funct3 op) rs1 rs2 imm
word_of (Load op rd rs1 imm) = i_word load_opcode rd (load_funct3 op) rs1 imm
word_of (Store op rs1 rs2 imm) = s_word store_opcode (store_funct3 op) rs1 rs2 imm
word_of (OpImm op rd rs1 imm) = i_word op_imm_opcode rd (op_imm_funct3 op) rs1 imm
word_of (Shift op rd rs1 amount) = r_word op_imm_opcode rd (shift_funct3 op) rs1 amount (shift_funct7 op)
word_of (Op op rd rs1 rs2) = r_word op_opcode rd (op_funct3 op) rs1 rs2 (op_funct7 op)
word_of (Fence imm rs1 rd) = i_word fence_opcode rd fence_funct3 rs1 imm
word_of Ecall = ecall_word
word_of Ebreak = ebreak_word

-- each field is in the range of its form
abbrev pub IsInstr : Instr → Type 0
IsInstr (Upper op rd imm) = IsReg rd × IsUpper imm
IsInstr (Jal rd imm) = IsReg rd × IsJumpOffset imm
IsInstr (Jalr rd rs1 imm) = IsReg rd × IsReg rs1 × IsImmediate imm
IsInstr (Branch op rs1 rs2 imm) = IsReg rs1 × IsReg rs2 × IsBranchOffset imm
IsInstr (Load op rd rs1 imm) = IsReg rd × IsReg rs1 × IsImmediate imm
IsInstr (Store op rs1 rs2 imm) = IsReg rs1 × IsReg rs2 × IsImmediate imm
IsInstr (OpImm op rd rs1 imm) = IsReg rd × IsReg rs1 × IsImmediate imm
IsInstr (Shift op rd rs1 amount) = IsReg rd × IsReg rs1 × IsAmount amount
IsInstr (Op op rd rs1 rs2) = IsReg rd × IsReg rs1 × IsReg rs2
IsInstr (Fence imm rs1 rd) = IsReg rd × IsReg rs1 × IsImmediate imm
IsInstr Ecall = Unit {0}
IsInstr Ebreak = Unit {0}

-- w is the word of the instruction i
pub record HasWord (i : Instr) (w : ℕ) : Type 0 where
  pub instr : IsInstr i
  pub word : w ≡ word_of i
