-- Where a step of a function leads: on, but by an instruction that leads back.
use Rattle.sc_emit.proofs.Common.{Bool, ImageParts, Instr, List, None, Option, Some, add_word, ap, arith, eqb-true}
use Rattle.sc_emit.proofs.Common.{false, if◌then◌else◌, inl, inr, not, pos, ra, refl, subst, suc, sym, true}
use Rattle.sc_emit.proofs.Common.{unless_trap}
use Rattle.sc_emit.proofs.Common.{word_of, zero, ℕ, ℤ, ⊎_elim, ◌&&◌, ◌+◌, ◌<◌, ◌==◌, ◌^◌, ◌||◌, ◌∙◌, ◌≡◌, ◌⊎◌}
use Rattle.std.specs.Prelude.{negsuc}
use Rattle.rv_code.specs.declared.instr.Instr.TheVariants.{Branch, Ebreak, Ecall, Fence, Jal, Jalr, Load, Op, OpImm}
use Rattle.rv_code.specs.declared.instr.Instr.TheVariants.{Shift, Store, Upper}
use Rattle.rv_code.specs.declared.instr.UpperOp.TheVariants.{Auipc, Lui}
use Rattle.rv_code.specs.declared.instr.BranchOp.{BranchOp}
use Rattle.rv_code.specs.Prelude.{IsBranchOffset, IsInstr, IsJumpOffset}
use Rattle.sc_image.specs.Prelude.{Goes, IsAt, Outcome, MachineState, Traps, jump_outside, compares, jump, next, reg}
use Rattle.sc_image.specs.Prelude.{step}
use Rattle.sc_base.specs.declared.stop.TrapReason.{TrapReason}
use Rattle.sc_base.specs.declared.stop.TrapReason.TheVariants.{BadJump, Breakpoint}
use Rattle.sc_image.proofs.Running.{steps_by_instruction}
use Rattle.sc_emit.specs.Shapes.{distance, is_backward, is_known_jump, leads_back}
use Rattle.sc_emit.specs.Repeating.{ends_call, makes_call}
use Rattle.std.proofs.lemmas.Int.{ints}

-- WHERE A STEP LEADS
-- an outcome that is known, of what came of it
went_on : (o : Outcome) (s t u : MachineState) → o ≡ Goes u → u.pc ≡ s.pc + 4 → o ≡ Goes t → t.pc ≡ s.pc + 4
went_on o s t u is pc h =
    let both : Goes u ≡ Goes t = sym is ∙ h in
    let same : u ≡ t = cc both in
    subst (λ v. v.pc ≡ s.pc + 4) same pc

-- an access that isn't refused
accessed : (why : Option TrapReason) (s t u : MachineState) → u.pc ≡ s.pc → unless_trap why (next u) ≡ Goes t → t.pc ≡
    s.pc + 4
accessed None s t u same h = went_on (next u) s t (record u { pc = u.pc + 4 }) refl (ap (λ p. p + 4) same) h
accessed (Some reason) s t u same h = cc h

-- a jump, where nothing comes of a target outside of the code
jumped : (aligned in_code : Bool) (why : TrapReason) (t u : MachineState) →
    (if not aligned then Traps why else if in_code then Goes u else Traps BadJump) ≡ Goes t → t.pc ≡ u.pc
jumped true true why t u h = let same : u ≡ t = cc h in ap (λ v. v.pc) (sym same)
jumped true false why t u h = cc h
jumped false in_code why t u h = cc h

neither : (a b : Bool) → a ≡ false → b ≡ false → (a || b) ≡ true → ⊥
neither true b h k g = cc h
neither false true h k g = cc k
neither false false h k g = cc g

other_one : (a b : Bool) → (a || b) ≡ true → b ≡ false → a ≡ true
other_one true b h k = refl
other_one false true h k = cc k
other_one false false h k = cc h

module _ (image : ImageParts) (inputs : List ℕ) (s t : MachineState) (goes : step image inputs s ≡ Goes t) where
  -- to the next instruction, or as far as the instruction says
  abbrev pub Leads : Instr → Type 0
  Leads instr =
      (t.pc ≡ s.pc + 4)
      ⊎ ((imm : ℤ) × ((distance instr ≡ Some imm) × (t.pc ≡ add_word s.pc (word_of imm))))

  on : (instr : Instr) (u : MachineState) → step image inputs s ≡ Goes u → u.pc ≡ s.pc + 4 → Leads instr
  on instr u is pc = inl (went_on (step image inputs s) s t u is pc goes)

  jal_leads : (rd : ℕ) (imm : ℤ) → IsAt image s (Jal rd imm) → (rd == 0) ≡ true → Leads (Jal rd imm)
  jal_leads rd imm at zero_is =
      let at_zero : IsAt image s (Jal 0 imm) =
      subst (λ r. IsAt image s (Jal r imm)) (eqb-true rd 0 zero_is) at in
      let target : ℕ = add_word s.pc (word_of imm) in
      let is : step image inputs s ≡ jump image s 0 target (jump_outside image s 0 target) =
      steps_by_instruction.jal image inputs s 0 imm target at_zero refl in
      inr (imm, (rw zero_is refl, jumped _ _ _ t _ (sym is ∙ goes)))

  branch_leads : (op : BranchOp) (rs1 rs2 : ℕ) (imm : ℤ) → IsAt image s (Branch op rs1 rs2 imm) → (taken : Bool) →
      compares op (reg s rs1) (reg s rs2) ≡ taken → Leads (Branch op rs1 rs2 imm)
  branch_leads op rs1 rs2 imm at true is_taken =
      let target : ℕ = add_word s.pc (word_of imm) in
      let is : step image inputs s ≡ jump image s 0 target (Traps BadJump) =
      steps_by_instruction.branch_taken image inputs s op rs1 rs2 imm target at is_taken refl in
      inr (imm, (refl, jumped _ _ _ t _ (sym is ∙ goes)))
  branch_leads op rs1 rs2 imm at false is_taken =
      on (Branch op rs1 rs2 imm) _ (steps_by_instruction.branch_not_taken image inputs s op rs1 rs2 imm at is_taken)
      refl

  pub leads : (instr : Instr) → IsAt image s instr → is_known_jump instr ≡ true → makes_call instr ≡ false →
      ends_call instr ≡ false → Leads instr
  leads (Upper Lui rd imm) at known call end =
      on (Upper Lui rd imm) _ (steps_by_instruction.lui image inputs s rd imm at) refl
  leads (Upper Auipc rd imm) at known call end =
      on (Upper Auipc rd imm) _ (steps_by_instruction.auipc image inputs s rd imm at) refl
  leads (Jal rd imm) at known call end = jal_leads rd imm at (other_one (rd == 0) (rd == ra) known call)
  leads (Jalr rd rs1 imm) at known call end =
      absurd (neither (rd == ra) (rd == 0 && rs1 == ra) call end known)
  leads (Branch op rs1 rs2 imm) at known call end = branch_leads op rs1 rs2 imm at (compares op (reg s rs1) (reg s
      rs2)) refl
  leads (Load op rd rs1 imm) at known call end =
      inl (accessed _ s t _ refl
      (sym (steps_by_instruction.loads image inputs s op rd rs1 imm _ at refl) ∙ goes))
  leads (Store op rs1 rs2 imm) at known call end =
      inl (accessed _ s t _ refl
      (sym (steps_by_instruction.stores image inputs s op rs1 rs2 imm _ at refl) ∙ goes))
  leads (OpImm op rd rs1 imm) at known call end =
      on (OpImm op rd rs1 imm) _ (steps_by_instruction.op_imm image inputs s op rd rs1 imm at) refl
  leads (Shift op rd rs1 amount) at known call end =
      on (Shift op rd rs1 amount) _ (steps_by_instruction.shift image inputs s op rd rs1 amount at) refl
  leads (Op op rd rs1 rs2) at known call end =
      on (Op op rd rs1 rs2) _ (steps_by_instruction.op image inputs s op rd rs1 rs2 at) refl
  leads (Fence imm rs1 rd) at known call end =
      on (Fence imm rs1 rd) _ (steps_by_instruction.fence image inputs s imm rs1 rd at) refl
  leads Ecall at known call end = cc call
  leads Ebreak at known call end =
      let is : Traps Breakpoint ≡ Goes t = sym (steps_by_instruction.ebreak image inputs s at) ∙ goes in cc is

-- how far an instruction of an image leads on
forward_sum : (pc n : ℕ) → pc < 2 ^ 26 → n < 2 ^ 20 → add_word pc (word_of (pos n)) ≡ pc + n
forward_sum pc n low few = omega (arith, low, few)

-- neither jump nor branch is far
near : (instr : Instr) (n : ℕ) → IsInstr instr → distance instr ≡ Some (pos n) → n < 2 ^ 20
near (Jal rd imm) n fits is = by (rd == 0) is where
  by : (b : Bool) → (if b then Some imm else None) ≡ Some (pos n) → n < 2 ^ 20
  by true is =
      let same : imm ≡ pos n = cc is in
      let range : IsJumpOffset (pos n) = subst IsJumpOffset same fits.1 in omega (arith, ints, range.greatest)
  by false is = let none : ◌≡◌ {A = Option ℤ} None (Some (pos n)) = is in cc none
near (Branch op rs1 rs2 imm) n fits is =
    let same : imm ≡ pos n = cc is in
    let range : IsBranchOffset (pos n) = subst IsBranchOffset same fits.2 in omega (arith, ints, range.greatest)
near (Upper op rd imm) n fits is = let none : ◌≡◌ {A = Option ℤ} None (Some (pos n)) = is in cc none
near (Jalr rd rs1 imm) n fits is = let none : ◌≡◌ {A = Option ℤ} None (Some (pos n)) = is in cc none
near (Load op rd rs1 imm) n fits is = let none : ◌≡◌ {A = Option ℤ} None (Some (pos n)) = is in cc none
near (Store op rs1 rs2 imm) n fits is = let none : ◌≡◌ {A = Option ℤ} None (Some (pos n)) = is in cc none
near (OpImm op rd rs1 imm) n fits is = let none : ◌≡◌ {A = Option ℤ} None (Some (pos n)) = is in cc none
near (Shift op rd rs1 amount) n fits is = let none : ◌≡◌ {A = Option ℤ} None (Some (pos n)) = is in cc none
near (Op op rd rs1 rs2) n fits is = let none : ◌≡◌ {A = Option ℤ} None (Some (pos n)) = is in cc none
near (Fence imm rs1 rd) n fits is = let none : ◌≡◌ {A = Option ℤ} None (Some (pos n)) = is in cc none
near Ecall n fits is = let none : ◌≡◌ {A = Option ℤ} None (Some (pos n)) = is in cc none
near Ebreak n fits is = let none : ◌≡◌ {A = Option ℤ} None (Some (pos n)) = is in cc none

-- an instruction that doesn't lead back leads on
pub rises : (image : ImageParts) (inputs : List ℕ) (s t : MachineState) (instr : Instr) → step image inputs s ≡ Goes t →
    IsAt image s instr → IsInstr instr → s.pc < 2 ^ 26 → is_known_jump instr ≡ true → makes_call instr ≡ false →
    ends_call instr ≡ false → leads_back instr ≡ false → s.pc < t.pc
rises image inputs s t instr goes at fits low known call end on_is =
    ⊎_elim (λ next. omega (arith, next)) (λ far. by far.0 far.1.0 far.1.1)
    (leads image inputs s t goes instr at known call end) where
      by : (imm : ℤ) → distance instr ≡ Some imm → t.pc ≡ add_word s.pc (word_of imm) → s.pc < t.pc
      by (pos zero) is to =
          let back : leads_back instr ≡ true = ap is_backward is in let bad : true ≡ false = sym back ∙ on_is in cc bad
      by (pos (suc n)) is to =
          omega (arith, to, forward_sum s.pc (suc n) low (near instr (suc n) fits is))
      by (negsuc n) is to =
          let back : leads_back instr ≡ true = ap is_backward is in let bad : true ≡ false = sym back ∙ on_is in cc bad
