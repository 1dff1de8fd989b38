-- The opcodes and function codes of the instructions, as the manual lists them.
use Rattle.std.specs.Prelude.{ℕ, List, [], ◌∷◌}
use Rattle.rv_code.specs.declared.instr.UpperOp.{UpperOp}
use Rattle.rv_code.specs.declared.instr.UpperOp.TheVariants.{Lui, Auipc}
use Rattle.rv_code.specs.declared.instr.BranchOp.{BranchOp}
use Rattle.rv_code.specs.declared.instr.BranchOp.TheVariants.{Beq, Bne, Blt, Bge, Bltu, Bgeu}
use Rattle.rv_code.specs.declared.instr.LoadOp.{LoadOp}
use Rattle.rv_code.specs.declared.instr.LoadOp.TheVariants.{Lb, Lh, Lw, Lbu, Lhu}
use Rattle.rv_code.specs.declared.instr.StoreOp.{StoreOp}
use Rattle.rv_code.specs.declared.instr.StoreOp.TheVariants.{Sb, Sh, Sw}
use Rattle.rv_code.specs.declared.instr.OpImmOp.{OpImmOp}
use Rattle.rv_code.specs.declared.instr.OpImmOp.TheVariants.{Addi, Slti, Sltiu, Xori, Ori, Andi}
use Rattle.rv_code.specs.declared.instr.ShiftOp.{ShiftOp}
use Rattle.rv_code.specs.declared.instr.ShiftOp.TheVariants.{Slli, Srli, Srai}
use Rattle.rv_code.specs.declared.instr.OpOp.{OpOp}
use Rattle.rv_code.specs.declared.instr.OpOp.TheVariants.{Add, Sub, Sll, Slt, Sltu, Xor, Srl, Sra, Or, And, Mul, Mulh}
use Rattle.rv_code.specs.declared.instr.OpOp.TheVariants.{Mulhsu, Mulhu, Div, Divu, Rem, Remu}

-- opcodes, bits 6 to 0

abbrev pub upper_opcode : UpperOp → ℕ
upper_opcode Lui = 0b0110111
upper_opcode Auipc = 0b0010111

abbrev pub jal_opcode : ℕ
jal_opcode = 0b1101111

abbrev pub jalr_opcode : ℕ
jalr_opcode = 0b1100111

abbrev pub branch_opcode : ℕ
branch_opcode = 0b1100011

abbrev pub load_opcode : ℕ
load_opcode = 0b0000011

abbrev pub store_opcode : ℕ
store_opcode = 0b0100011

-- of the operations on an immediate, the shifts among them
abbrev pub op_imm_opcode : ℕ
op_imm_opcode = 0b0010011

abbrev pub op_opcode : ℕ
op_opcode = 0b0110011

abbrev pub fence_opcode : ℕ
fence_opcode = 0b0001111

-- ECALL and EBREAK are one word each

abbrev pub ecall_word : ℕ
ecall_word = 0x00000073

abbrev pub ebreak_word : ℕ
ebreak_word = 0x00100073

-- funct3, bits 14 to 12

abbrev pub jalr_funct3 : ℕ
jalr_funct3 = 0b000

abbrev pub fence_funct3 : ℕ
fence_funct3 = 0b000

abbrev pub branch_funct3 : BranchOp → ℕ
branch_funct3 Beq = 0b000
branch_funct3 Bne = 0b001
branch_funct3 Blt = 0b100
branch_funct3 Bge = 0b101
branch_funct3 Bltu = 0b110
branch_funct3 Bgeu = 0b111

abbrev pub load_funct3 : LoadOp → ℕ
load_funct3 Lb = 0b000
load_funct3 Lh = 0b001
load_funct3 Lw = 0b010
load_funct3 Lbu = 0b100
load_funct3 Lhu = 0b101

abbrev pub store_funct3 : StoreOp → ℕ
store_funct3 Sb = 0b000
store_funct3 Sh = 0b001
store_funct3 Sw = 0b010

abbrev pub op_imm_funct3 : OpImmOp → ℕ
op_imm_funct3 Addi = 0b000
op_imm_funct3 Slti = 0b010
op_imm_funct3 Sltiu = 0b011
op_imm_funct3 Xori = 0b100
op_imm_funct3 Ori = 0b110
op_imm_funct3 Andi = 0b111

abbrev pub shift_funct3 : ShiftOp → ℕ
shift_funct3 Slli = 0b001
shift_funct3 Srli = 0b101
shift_funct3 Srai = 0b101

abbrev pub op_funct3 : OpOp → ℕ
op_funct3 Add = 0b000
op_funct3 Sub = 0b000
op_funct3 Sll = 0b001
op_funct3 Slt = 0b010
op_funct3 Sltu = 0b011
op_funct3 Xor = 0b100
op_funct3 Srl = 0b101
op_funct3 Sra = 0b101
op_funct3 Or = 0b110
op_funct3 And = 0b111
op_funct3 Mul = 0b000
op_funct3 Mulh = 0b001
op_funct3 Mulhsu = 0b010
op_funct3 Mulhu = 0b011
op_funct3 Div = 0b100
op_funct3 Divu = 0b101
op_funct3 Rem = 0b110
op_funct3 Remu = 0b111

-- funct7, bits 31 to 25

abbrev pub shift_funct7 : ShiftOp → ℕ
shift_funct7 Slli = 0b0000000
shift_funct7 Srli = 0b0000000
shift_funct7 Srai = 0b0100000

abbrev pub op_funct7 : OpOp → ℕ
op_funct7 Add = 0b0000000
op_funct7 Sub = 0b0100000
op_funct7 Sll = 0b0000000
op_funct7 Slt = 0b0000000
op_funct7 Sltu = 0b0000000
op_funct7 Xor = 0b0000000
op_funct7 Srl = 0b0000000
op_funct7 Sra = 0b0100000
op_funct7 Or = 0b0000000
op_funct7 And = 0b0000000
op_funct7 Mul = 0b0000001
op_funct7 Mulh = 0b0000001
op_funct7 Mulhsu = 0b0000001
op_funct7 Mulhu = 0b0000001
op_funct7 Div = 0b0000001
op_funct7 Divu = 0b0000001
op_funct7 Rem = 0b0000001
op_funct7 Remu = 0b0000001

-- the operations of each form

abbrev pub branch_ops : List BranchOp
branch_ops = Beq ∷ Bne ∷ Blt ∷ Bge ∷ Bltu ∷ Bgeu ∷ []

abbrev pub load_ops : List LoadOp
load_ops = Lb ∷ Lh ∷ Lw ∷ Lbu ∷ Lhu ∷ []

abbrev pub store_ops : List StoreOp
store_ops = Sb ∷ Sh ∷ Sw ∷ []

abbrev pub op_imm_ops : List OpImmOp
op_imm_ops = Addi ∷ Slti ∷ Sltiu ∷ Xori ∷ Ori ∷ Andi ∷ []

abbrev pub shift_ops : List ShiftOp
shift_ops = Slli ∷ Srli ∷ Srai ∷ []

abbrev pub op_ops : List OpOp
op_ops = Add ∷ Sub ∷ Sll ∷ Slt ∷ Sltu ∷ Xor ∷ Srl ∷ Sra ∷ Or ∷ And ∷ Mul ∷ Mulh ∷ Mulhsu ∷ Mulhu ∷ Div ∷ Divu ∷ Rem ∷
    Remu ∷ []
