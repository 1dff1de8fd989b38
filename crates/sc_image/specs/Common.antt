-- The names from below that several definitions of this crate cite, passed on from one place. Declares nothing.
pub use Rattle.byteorder.specs.Endian.{little_bytes, little_number}
pub use Rattle.sc_base.specs.Prelude.{is_between, is_name}
pub use Rattle.sc_base.specs.declared.stop.Stop.{Stop}
pub use Rattle.sc_base.specs.declared.stop.Stop.TheVariants.{Ended, EventsOut, StepsOut, Trap}
pub use Rattle.sc_base.specs.declared.stop.TrapReason.{TrapReason}
pub use Rattle.sc_base.specs.declared.stop.TrapReason.TheVariants.{BadCall, BadFree, BadJump, Breakpoint, Illegal}
pub use Rattle.sc_base.specs.declared.stop.TrapReason.TheVariants.{Misaligned, NoImport, Owner}
pub use Rattle.sc_event.specs.declared.event.Event.{Event}
pub use Rattle.sc_event.specs.declared.event.Event.TheVariants.{Call, End, In, Out, Ret}
pub use Rattle.sc_event.specs.declared.row.Entry.{Entry}
pub use Rattle.sc_event.specs.declared.row.Entry.TheVariants.{Export, Main}
pub use Rattle.sc_word.specs.Prelude.{add_word, div_word, divu_word, mul_word, mulh_word, mulhsu_word, mulhu_word}
pub use Rattle.sc_word.specs.Prelude.{rem_word, remu_word, signed_of, sll_word, slt_word, sltu_word, sra_word, srl_word}
pub use Rattle.sc_word.specs.Prelude.{sub_word, word_of}
pub use Rattle.rv_code.specs.Prelude.{decoded, signed}
pub use Rattle.rv_code.specs.declared.instr.BranchOp.{BranchOp}
pub use Rattle.rv_code.specs.declared.instr.Instr.{Instr}
pub use Rattle.rv_code.specs.declared.instr.Instr.TheVariants.{Branch, Ebreak, Ecall, Fence, Jal, Jalr, Load, Op, OpImm}
pub use Rattle.rv_code.specs.declared.instr.Instr.TheVariants.{Shift, Store, Upper}
pub use Rattle.rv_code.specs.declared.instr.LoadOp.{LoadOp}
pub use Rattle.rv_code.specs.declared.instr.OpImmOp.{OpImmOp}
pub use Rattle.rv_code.specs.declared.instr.OpOp.{OpOp}
pub use Rattle.rv_code.specs.declared.instr.ShiftOp.{ShiftOp}
pub use Rattle.rv_code.specs.declared.instr.StoreOp.{StoreOp}
pub use Rattle.rv_code.specs.declared.instr.UpperOp.{UpperOp}
pub use Rattle.rv_code.specs.declared.instr.UpperOp.TheVariants.{Auipc, Lui}
pub use Rattle.sc_store.specs.Prelude.{HoldsBytes, ByteMemory, is_in, load_of, with_bytes}
pub use Rattle.sc_store.specs.declared.region.Region.{Region}
