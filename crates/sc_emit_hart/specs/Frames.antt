-- Helping: what the prologue of a function does, and its epilogue.
use Rattle.sc_emit_hart.specs.Common.{ImageParts, Instr, ByteMemory, Traps, Walks, address_scratch, frame_taken}
use Rattle.sc_emit_hart.specs.Common.{moved_by}
use Rattle.sc_emit_hart.specs.Common.{ra, sp, step}
use Rattle.sc_emit_hart.specs.Hart.{Registers, World, at}
use Rattle.sc_emit_hart.specs.Words.{put_word, word}
use Rattle.std.specs.Prelude.{◌≡◌, ℕ, ◌+◌, ◌*◌, ◌%◌, ◌^◌, ◌<◌, List, [], ◌∷◌, length, pos}
use Rattle.rv_code.specs.declared.instr.Instr.TheVariants.{Load}
use Rattle.rv_code.specs.declared.instr.LoadOp.TheVariants.{Lw}
use Rattle.sc_base.specs.declared.stop.TrapReason.TheVariants.{Owner}
use Rattle.sc_emit_hart.specs.Pieces.{Besides, Does}

-- the epilogue but for the jump that ends it
abbrev pub epilogue_to_jump : ℕ → List Instr
epilogue_to_jump bytes = Load Lw ra sp (pos 0) ∷ moved_by sp sp bytes

module _ (image : ImageParts) (inputs : List ℕ) (world : World) (bytes : ℕ) (regs : Registers) (memory : ByteMemory)
  where
    -- sp comes to the bottom of the frame, where ra is stored
    pub record TakesFrame (bottom : ℕ) : Type 0 where
      pub after : Registers
      pub does : Does image inputs world (frame_taken bytes) regs memory after (put_word memory bottom (regs ra))
      pub lowered : after sp ≡ bottom
      pub others : (q : ℕ) → Besides (sp ∷ address_scratch ∷ []) q → after q ≡ regs q

    -- the bottom lies below the data: the machine traps at the store of ra
    pub record FrameOverflows (pc : ℕ) : Type 0 where
      pub steps : ℕ
      pub few : steps < length (frame_taken bytes)
      pub following : ℕ
      pub after : Registers
      pub walks : Walks image inputs steps (at pc regs memory world) (at following after memory world)
      pub last : following + 4 ≡ pc + 4 * length (frame_taken bytes)
      pub lowered : (after sp + bytes) % 2 ^ 32 ≡ regs sp
      pub traps : step image inputs (at following after memory world) ≡ Traps Owner

    -- ra is loaded from the bottom of the frame, above which sp comes
    pub record LeavesFrame : Type 0 where
      pub after : Registers
      pub does : Does image inputs world (epilogue_to_jump bytes) regs memory after memory
      pub loaded : after ra ≡ word memory (regs sp)
      pub raised : after sp ≡ regs sp + bytes
      pub others : (q : ℕ) → Besides (ra ∷ sp ∷ address_scratch ∷ []) q → after q ≡ regs q
