-- What this crate's contracts, its proofs and the crates above cite, passed on from one place. Declares nothing.
pub use Rattle.rv_code.specs.Decoding.{b_imm_of, funct3_of, funct7_of, i_imm_of, j_imm_of, opcode_of, rd_of, rs1_of}
pub use Rattle.rv_code.specs.Decoding.{rs2_of, s_imm_of, u_imm_of}
unfoldable pub use Rattle.rv_code.specs.Decoding.{branch_in, branch_op_of, decoded, fence_in, jalr_in, load_in}
unfoldable pub use Rattle.rv_code.specs.Decoding.{load_op_of, op_imm_in, op_imm_op_of, op_in, op_op_of, shift_in}
unfoldable pub use Rattle.rv_code.specs.Decoding.{shift_op_of, store_in, store_op_of, system_in}
pub use Rattle.rv_code.specs.Ranges.{IsAmount, IsBranchOffset, IsImmediate, IsJumpOffset, IsReg, IsUpper, residue}
pub use Rattle.rv_code.specs.Ranges.{signed}
pub use Rattle.rv_code.specs.Table.{branch_funct3, branch_opcode, branch_ops, fence_funct3, fence_opcode, jal_opcode}
pub use Rattle.rv_code.specs.Table.{jalr_funct3, jalr_opcode, load_funct3, load_opcode, load_ops, op_funct3, op_funct7}
pub use Rattle.rv_code.specs.Table.{op_imm_funct3, op_imm_opcode, op_imm_ops, op_opcode, op_ops, shift_funct3}
pub use Rattle.rv_code.specs.Table.{shift_funct7, shift_ops, store_funct3, store_opcode, store_ops, upper_opcode}
pub use Rattle.rv_code.specs.Words.{HasWord, IsInstr, b_word, i_word, j_word, r_word, s_word, u_word}
unfoldable pub use Rattle.rv_code.specs.Words.{word_of}
