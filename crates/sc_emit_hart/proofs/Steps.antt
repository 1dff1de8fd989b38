-- One instruction, as a stretch of one step; and stretches in a row.
use Rattle.sc_emit_hart.proofs.Common.{BadJump, Branch, Fetches, Goes, ImageParts, Instr, IsAt, Jal, Jalr, List, Load}
use Rattle.sc_emit_hart.proofs.Common.{Lui, Lw, ByteMemory, Op, OpImm, OpImmOp, OpOp, Outcome, Owned, Owner, Registers}
use Rattle.sc_emit_hart.proofs.Common.{Shift, ShiftOp, Some, MachineState, Store, Sw, Traps, Upper, Walks, World}
use Rattle.sc_emit_hart.proofs.Common.{add_word, ap}
use Rattle.sc_emit_hart.proofs.Common.{ap₂, arith, at, jump_outside, compares, op_result, data_start, eq-eqb, false}
use Rattle.sc_emit_hart.proofs.Common.{gives}
use Rattle.sc_emit_hart.proofs.Common.{jalr_target, jump, leaves, load_of, look, on_registers, put_word, refl, set}
use Rattle.sc_emit_hart.proofs.Common.{shift_on_registers, step, steps_by_instruction, store, with_bytes, true}
use Rattle.sc_emit_hart.proofs.Common.{unless_trap}
use Rattle.sc_emit_hart.proofs.Common.{word, word_at, word_of, ℕ, ℤ, ◌%◌, ◌+◌, ◌<◌, ◌∙◌, ◌≡◌}
use Rattle.rv_code.specs.declared.instr.BranchOp.{BranchOp}
use Rattle.sc_image.proofs.Stretches.{stretches_compose}
use Rattle.sc_emit_hart.proofs.Registers.{read_listed, write_listed}
use Rattle.sc_emit_hart.proofs.Words.{owned_allowed, below_refused}

module _ (image : ImageParts) (inputs : List ℕ) where
  pub stay : {s : MachineState} → Walks image inputs 0 s s
  stay = record { by = refl }

  pub then_go : {a b : ℕ} {s t u : MachineState} → Walks image inputs a s t → Walks image inputs b t u →
      Walks image inputs (a + b) s u
  then_go {a} {b} {s} {t} {u} x y = stretches_compose.together image inputs a b s t u x y

  one : {s t : MachineState} → step image inputs s ≡ Goes t → Walks image inputs 1 s t
  one {s} {t} h = stretches_compose.one_step image inputs s t h

  module _ (pc : ℕ) (regs : Registers) (memory : ByteMemory) (world : World) where
    abbrev here : MachineState
    here = at pc regs memory world

    is_at : (instr : Instr) → Fetches image world.active pc instr → IsAt image here instr
    is_at instr f = record { word = f.word; fetched = f.fetched; decodes = f.decodes }

    -- a word goes into a register
    gives_at : (rd v : ℕ) → rd < 32 → gives here rd v ≡ Goes (at (pc + 4) (set regs rd v) memory world)
    gives_at rd v h =
        ap (λ list. Goes (record (at (pc + 4) regs memory world) { regs = list })) (write_listed regs rd v h)

    pub lui : (rd imm : ℕ) → rd < 32 → Fetches image world.active pc (Upper Lui rd imm) →
        Walks image inputs 1 here (at (pc + 4) (set regs rd imm) memory world)
    lui rd imm h f = one (steps_by_instruction.lui image inputs here rd imm (is_at _ f) ∙ gives_at rd imm h)

    pub op_imm : (op : OpImmOp) (rd rs : ℕ) (imm : ℤ) (x : ℕ) → rd < 32 → rs < 32 →
        Fetches image world.active pc (OpImm op rd rs imm) → op_result (on_registers op) (look regs rs) (word_of
        imm) ≡ x →
        Walks image inputs 1 here (at (pc + 4) (set regs rd x) memory world)
    op_imm op rd rs imm x h k f e =
        one (steps_by_instruction.op_imm image inputs here op rd rs imm (is_at _ f) ∙
        ap (λ a. gives here rd (op_result (on_registers op) a (word_of imm))) (read_listed regs rs k) ∙
        ap (gives here rd) e ∙ gives_at rd x h)

    pub shifts : (op : ShiftOp) (rd rs amount : ℕ) (x : ℕ) → rd < 32 → rs < 32 →
        Fetches image world.active pc (Shift op rd rs amount) →
        op_result (shift_on_registers op) (look regs rs) amount ≡ x →
        Walks image inputs 1 here (at (pc + 4) (set regs rd x) memory world)
    shifts op rd rs amount x h k f e =
        one (steps_by_instruction.shift image inputs here op rd rs amount (is_at _ f) ∙
        ap (λ a. gives here rd (op_result (shift_on_registers op) a amount)) (read_listed regs rs k) ∙
        ap (gives here rd) e ∙ gives_at rd x h)

    pub operate : (op : OpOp) (rd rs1 rs2 x : ℕ) → rd < 32 → rs1 < 32 → rs2 < 32 →
        Fetches image world.active pc (Op op rd rs1 rs2) → op_result op (look regs rs1) (look regs rs2) ≡ x →
        Walks image inputs 1 here (at (pc + 4) (set regs rd x) memory world)
    operate op rd rs1 rs2 x h k l f e =
        one (steps_by_instruction.op image inputs here op rd rs1 rs2 (is_at _ f) ∙
        ap₂ (λ a b. gives here rd (op_result op a b)) (read_listed regs rs1 k) (read_listed regs rs2 l) ∙
        ap (gives here rd) e ∙ gives_at rd x h)

    pub lw : (rd rs : ℕ) (imm : ℤ) (a : ℕ) → rd < 32 → rs < 32 →
        Fetches image world.active pc (Load Lw rd rs imm) → add_word (look regs rs) (word_of imm) ≡ a →
        Owned image world.active a →
        Walks image inputs 1 here (at (pc + 4) (set regs rd (word memory a)) memory world)
    unfolding word
    lw rd rs imm a h k f e owned =
        one (steps_by_instruction.loads image inputs here Lw rd rs imm a (is_at _ f)
        (ap (λ b. add_word b (word_of imm)) (read_listed regs rs k) ∙ e) ∙
        ap (λ why. unless_trap why (gives here rd (load_of memory a 4))) (owned_allowed image world.active a owned) ∙
        gives_at rd (load_of memory a 4) h)

    pub sw : (rs1 rs2 : ℕ) (imm : ℤ) (a : ℕ) → rs1 < 32 → rs2 < 32 →
        Fetches image world.active pc (Store Sw rs1 rs2 imm) → add_word (look regs rs1) (word_of imm) ≡ a →
        Owned image world.active a →
        Walks image inputs 1 here (at (pc + 4) regs (put_word memory a (look regs rs2)) world)
    unfolding put_word
    sw rs1 rs2 imm a h k f e owned =
        one (steps_by_instruction.stores image inputs here Sw rs1 rs2 imm a (is_at _ f)
        (ap (λ b. add_word b (word_of imm)) (read_listed regs rs1 h) ∙ e) ∙
        ap (store image here Sw a) (read_listed regs rs2 k) ∙
        ap (λ why. unless_trap why (Goes (at (pc + 4) regs (with_bytes memory a 4 (look regs rs2)) world)))
        (owned_allowed image world.active a owned))

    -- a store below the own data
    pub sw_traps : (rs1 rs2 : ℕ) (imm : ℤ) (a : ℕ) → rs1 < 32 → rs2 < 32 →
        Fetches image world.active pc (Store Sw rs1 rs2 imm) → add_word (look regs rs1) (word_of imm) ≡ a →
        a % 4 ≡ 0 → a < data_start world.active → step image inputs here ≡ Traps Owner
    sw_traps rs1 rs2 imm a h k f e aligned low =
        steps_by_instruction.stores image inputs here Sw rs1 rs2 imm a (is_at _ f)
        (ap (λ b. add_word b (word_of imm)) (read_listed regs rs1 h) ∙ e) ∙
        ap (store image here Sw a) (read_listed regs rs2 k) ∙
        ap (λ why. unless_trap why (Goes (at (pc + 4) regs (with_bytes memory a 4 (look regs rs2)) world)))
        (below_refused image world.active a aligned low)

    -- a jump inside the own code
    jump_at : (rd target word : ℕ) (elsewhere : Outcome) → rd < 32 → target % 4 ≡ 0 →
        word_at image world.active target ≡ Some word →
        jump image here rd target elsewhere ≡ Goes (at target (set regs rd (pc + 4)) memory world)
    jump_at rd target word elsewhere h aligned inside =
        rw (eq-eqb (target % 4) 0 aligned, inside)
        (ap (λ list. Goes (record (at target regs memory world) { regs = list })) (write_listed regs rd (pc + 4) h))

    pub jal : (rd : ℕ) (imm : ℤ) (target word : ℕ) → rd < 32 → Fetches image world.active pc (Jal rd imm) →
        add_word pc (word_of imm) ≡ target → target % 4 ≡ 0 → word_at image world.active target ≡ Some word →
        Walks image inputs 1 here (at target (set regs rd (pc + 4)) memory world)
    jal rd imm target word h f e aligned inside =
        one (steps_by_instruction.jal image inputs here rd imm target (is_at _ f) e ∙
        jump_at rd target word (jump_outside image here rd target) h aligned inside)

    pub jalr : (rd rs : ℕ) (imm : ℤ) (target word : ℕ) → rd < 32 → rs < 32 →
        Fetches image world.active pc (Jalr rd rs imm) → jalr_target (look regs rs) imm ≡ target → target % 4 ≡ 0 →
        word_at image world.active target ≡ Some word →
        Walks image inputs 1 here (at target (set regs rd (pc + 4)) memory world)
    jalr rd rs imm target word h k f e aligned inside =
        one (steps_by_instruction.jalr image inputs here rd rs imm target (is_at _ f)
        (ap (λ b. jalr_target b imm) (read_listed regs rs k) ∙ e) ∙
        jump_at rd target word (leaves image here rd target) h aligned inside)

    pub branch_taken : (op : BranchOp) (rs1 rs2 : ℕ) (imm : ℤ) (target word : ℕ) → rs1 < 32 → rs2 < 32 →
        Fetches image world.active pc (Branch op rs1 rs2 imm) → compares op (look regs rs1) (look regs rs2) ≡ true →
        add_word pc (word_of imm) ≡ target → target % 4 ≡ 0 → word_at image world.active target ≡ Some word →
        Walks image inputs 1 here (at target regs memory world)
    branch_taken op rs1 rs2 imm target word h k f taken e aligned inside =
        one (steps_by_instruction.branch_taken image inputs here op rs1 rs2 imm target (is_at _ f)
        (ap₂ (compares op) (read_listed regs rs1 h) (read_listed regs rs2 k) ∙ taken) e ∙
        jump_at 0 target word (Traps BadJump) (omega arith) aligned inside)

    pub branch_not_taken : (op : BranchOp) (rs1 rs2 : ℕ) (imm : ℤ) → rs1 < 32 → rs2 < 32 →
        Fetches image world.active pc (Branch op rs1 rs2 imm) → compares op (look regs rs1) (look regs rs2) ≡ false →
        Walks image inputs 1 here (at (pc + 4) regs memory world)
    branch_not_taken op rs1 rs2 imm h k f taken =
        one (steps_by_instruction.branch_not_taken image inputs here op rs1 rs2 imm (is_at _ f)
        (ap₂ (compares op) (read_listed regs rs1 h) (read_listed regs rs2 k) ∙ taken))
