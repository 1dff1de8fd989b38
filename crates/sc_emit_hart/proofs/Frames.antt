-- The prologue of a function, and its epilogue.
use Rattle.sc_emit_hart.proofs.Common.{CodeAt, Computes, FrameOverflows, ImageParts, Instr, LeavesFrame, List, Load, Lw}
use Rattle.sc_emit_hart.proofs.Common.{ByteMemory, Owned, Registers, Store, Stores, Sw, TakesFrame, World, [], add_word}
use Rattle.sc_emit_hart.proofs.Common.{ap}
use Rattle.sc_emit_hart.proofs.Common.{arith, data_start, frame_taken, length, length-append, moved_by, pos, refl}
use Rattle.sc_emit_hart.proofs.Common.{sub_word, word, word_of-lt, word_of-unsigned_sub, ℕ, ◌%◌, ◌*◌, ◌+◌, ◌<◌, ◌^◌}
use Rattle.sc_emit_hart.proofs.Common.{◌∙◌, ◌∷◌, ◌≡◌}
use Rattle.sc_emit_hart.proofs.Fetching.{back_at, prefix_at}
use Rattle.sc_emit_hart.proofs.Steps.{sw_traps}
use Rattle.sc_emit_hart.proofs.Rows.{in_row, computes, loads, stores}
use Rattle.sc_emit_hart.proofs.Loading.{moves_on}

lowered : (sp bytes bottom : ℕ) → bottom + bytes ≡ sp → sp < 2 ^ 32 → add_word sp (sub_word 0 bytes) ≡ bottom
lowered sp bytes bottom sum below =
    ap (add_word sp) (word_of-unsigned_sub 0 bytes (omega arith) (omega arith)) ∙ omega arith

module _ (image : ImageParts) (inputs : List ℕ) (world : World) (memory : ByteMemory) (regs : Registers) (bytes : ℕ)
  where
    -- sp goes down
    goes_down : (bottom : ℕ) → bottom + bytes ≡ regs 2 → regs 2 < 2 ^ 32 →
        Computes image inputs world (moved_by 2 2 (sub_word 0 bytes)) (7 ∷ []) regs memory 2 bottom
    goes_down bottom sum below =
        computes image inputs world (7 ∷ []) bottom
        (moves_on image inputs world memory regs 2 2 (sub_word 0 bytes) (regs 2) (omega arith) (omega arith)
        (omega arith)
        refl (word_of-lt _)) (lowered (regs 2) bytes bottom sum below) (λ q k. k)

    at_bottom : (sp bottom : ℕ) → sp ≡ bottom → bottom + bytes ≡ regs 2 → regs 2 < 2 ^ 32 → add_word sp 0 ≡ bottom
    at_bottom sp bottom same sum below = omega arith

    took : (bottom : ℕ) (first : Computes image inputs world (moved_by 2 2 (sub_word 0 bytes)) (7 ∷ []) regs memory 2
        bottom) → Stores image inputs world (Store Sw 2 1 (pos 0) ∷ []) [] first.after memory bottom (regs 1) →
        TakesFrame image inputs world bytes regs memory bottom
    took bottom first second = record {
      after = second.after;
      does = in_row image inputs world first.does second.does;
      lowered = second.others 2 tt ∙ first.result;
      others = λ q k. second.others q tt ∙ first.others q k;
    }

    pub takes_frame : (bottom : ℕ) → bottom + bytes ≡ regs 2 → regs 2 < 2 ^ 32 → Owned image world.active bottom →
        TakesFrame image inputs world bytes regs memory bottom
    takes_frame bottom sum below owned =
        let first = goes_down bottom sum below in
        took bottom first
        (stores image inputs world first.after memory 2 1 (pos 0) bottom (regs 1) (omega arith) (omega arith)
        (at_bottom (first.after 2) bottom first.result sum below) (first.others 1 (omega arith)) owned)

    pub overflows : (pc bottom : ℕ) → bottom + bytes ≡ regs 2 → regs 2 < 2 ^ 32 → bottom % 4 ≡ 0 →
        bottom < data_start world.active → CodeAt image world.active pc (frame_taken bytes) →
        FrameOverflows image inputs world bytes regs memory pc
    overflows pc bottom sum below aligned low code =
        let first = goes_down bottom sum below in
        let down : List Instr = moved_by 2 2 (sub_word 0 bytes) in
        let last : List Instr = Store Sw 2 1 (pos 0) ∷ [] in
        let all : length (frame_taken bytes) ≡ length down + 1 = length-append down last in
        record {
          steps = length down;
          few = omega (arith, all);
          following = pc + 4 * length down;
          after = first.after;
          walks = first.does.walks pc (prefix_at image world.active pc down last code);
          last = omega (arith, all);
          lowered = omega (arith, first.result, sum, below);
          traps =
              sw_traps image inputs (pc + 4 * length down) first.after memory world 2 1 (pos 0) bottom (omega arith)
              (omega arith) (back_at image world.active pc down last code).0
              (at_bottom (first.after 2) bottom first.result sum below) aligned low;
        }

    left : (first : Computes image inputs world (Load Lw 1 2 (pos 0) ∷ []) [] regs memory 1 (word memory (regs 2))) →
        Computes image inputs world (moved_by 2 2 bytes) (7 ∷ []) first.after memory 2 (regs 2 + bytes) →
        LeavesFrame image inputs world bytes regs memory
    left first second = record {
      after = second.after;
      does = in_row image inputs world first.does second.does;
      loaded = second.others 1 (omega arith) ∙ first.result;
      raised = second.result;
      others = λ q k. second.others q k.1 ∙ first.others q (k.0, tt);
    }

    -- ra is what was stored, and sp goes up
    pub leaves_frame : regs 2 + bytes < 2 ^ 32 → Owned image world.active (regs 2) →
        LeavesFrame image inputs world bytes regs memory
    leaves_frame below owned =
        let first = loads image inputs world regs memory 1 2 (pos 0) (regs 2) (omega arith) (omega arith) (omega arith)
        owned in
        left first
        (computes image inputs world (7 ∷ []) (regs 2 + bytes)
        (moves_on image inputs world memory first.after 2 2 bytes (regs 2) (omega arith) (omega arith) (omega arith)
        (first.others 2 (omega arith)) (omega arith)) (omega arith) (λ q k. k))
