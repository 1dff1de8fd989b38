-- The names from below that several definitions of this crate cite, passed on from one place. Declares nothing.
pub use Rattle.sc_word.specs.Prelude.{mul_word, signed_of, sub_word}
pub use Rattle.rv_code.specs.declared.instr.Instr.{Instr}
pub use Rattle.rv_code.specs.declared.instr.Instr.TheVariants.{Branch, Ecall, Jal, Jalr, Load, Op, OpImm, Shift, Store}
pub use Rattle.rv_code.specs.declared.instr.Instr.TheVariants.{Upper}
pub use Rattle.rv_code.specs.declared.instr.LoadOp.TheVariants.{Lw}
pub use Rattle.rv_code.specs.declared.instr.OpImmOp.TheVariants.{Addi, Andi, Ori, Slti, Sltiu, Xori}
pub use Rattle.rv_code.specs.declared.instr.OpOp.TheVariants.{Add, And, Div, Divu, Mul, Or, Rem, Remu, Sll, Slt, Sltu}
pub use Rattle.rv_code.specs.declared.instr.OpOp.TheVariants.{Sra, Srl, Sub, Xor}
pub use Rattle.rv_code.specs.declared.instr.StoreOp.TheVariants.{Sw}
pub use Rattle.rv_code.specs.declared.instr.UpperOp.TheVariants.{Lui}
pub use Rattle.sc_tac.specs.Prelude.{everywhere, is_one, is_unsigned, one_or_none, passes_few, temps_read, uses_heap}
pub use Rattle.sc_tac.specs.declared.frame.FrameTree.{FrameTree}
pub use Rattle.sc_tac.specs.declared.machine_code.CodeTree.{CodeTree}
pub use Rattle.sc_tac.specs.declared.machine_code.Relocation.{Relocation}
pub use Rattle.sc_tac.specs.declared.machine_code.Target.{Target}
pub use Rattle.sc_tac.specs.declared.machine_code.Target.TheVariants.{Entry, Function, Global}
pub use Rattle.sc_tac.specs.declared.place.Place.{Place}
pub use Rattle.sc_tac.specs.declared.stmt.TacOp.{TacOp}
pub use Rattle.sc_tac.specs.declared.stmt.TacStmt.{TacStmt, TacStmt-F, fold-TacStmt}
