-- What instructions answer, as outcomes with levels, and what lies beyond the own code.
use Rattle.sc_tags.proofs.Bytes.{code_low, data_low}
use Rattle.sc_tags.proofs.Common.{Bool, ByteMemory, Code, Goes, ImageParts, Jalr, List, MachineState, None, Option}
use Rattle.sc_tags.proofs.Common.{Outcome, OutcomeOf, Some, TagRange, Tagged, TrapReason, Traps, all_tagged, ap, arith}
use Rattle.sc_tags.proofs.Common.{by_tag, carried_called, comp_of_code, core_of}
use Rattle.sc_tags.proofs.Common.{decoded, entered_export, environment_call}
use Rattle.sc_tags.proofs.Common.{eq-eqb, execute_by, false, gate, if◌then◌else◌, is_tag, jump_by, jump_outside}
use Rattle.sc_tags.proofs.Common.{length, lifted, load_of, on_return, on_tag_return, refl, reg, step_by, sym, tag_at}
use Rattle.sc_tags.proofs.Common.{tag_jumps, tag_step, tagged_word, true, with_outcome, ℕ, ◌%◌, ◌*◌, ◌/◌, ◌∙◌, ◌≡◌}
use Rattle.rv_code.specs.declared.instr.Instr.{Instr}
use Rattle.sc_base.specs.declared.stop.TrapReason.TheVariants.{BadJump, Illegal}
use Rattle.sc_machine.specs.Prelude.{outcome_of}
use Rattle.sc_tags.proofs.Lifting.{IsNotOwn, calls_same, environment_same, returns_same}
use Rattle.sc_tags.specs.Levels.{same_memory, with_levels}
use Rattle.sc_tags.specs.TagHart.{TagSite, is_own_code, tag_outcome}
use Rattle.sc_word.specs.Prelude.{add_word, word_of}
use Rattle.std.proofs.Common.{Err, Ok, Result, ne_eqb, ℤ, ◌≢◌}

-- an answer of the machine with regions, with levels
lift_outcome : {A : Type 0} (result : Result A TrapReason) (state : MachineState) (outcome : Outcome) →
    outcome_of result state ≡ outcome → tag_outcome result (with_levels state) ≡ lifted same_memory outcome
lift_outcome (Ok value) state outcome is = ap (lifted same_memory) is
lift_outcome (Err reason) state outcome is = ap (lifted same_memory) is

module _ {A : Type 0} (image : ImageParts) (state : MachineState) (result : Result A TrapReason)
    (left : MachineState) where
  -- calls of the environment, and jumps to what isn't the own compartment's
  pub environment_lifted : (inputs : List ℕ) → outcome_of result left ≡ environment_call image inputs state →
      tag_outcome result (with_levels left) ≡
      with_outcome (with_levels state) (environment_call image inputs (with_levels state).core)
  environment_lifted inputs is =
      lift_outcome result left _ is ∙ sym (environment_same image same_memory state inputs)

  pub calls_lifted : (rd target : ℕ) → comp_of_code target ≢ state.active →
      outcome_of result left ≡ jump_outside image state rd target →
      tag_outcome result (with_levels left) ≡ tag_jumps image (with_levels state) rd target
  calls_lifted rd target other is =
      let not_own : IsNotOwn image state target =
      record { other = λ index at. ne_eqb (comp_of_code target) state.active other } in
      lift_outcome result left _ is ∙ sym (calls_same image same_memory state rd target not_own)

pub elsewhere : (tagged : Tagged) (rd target : ℕ) (inside : Bool) (x : OutcomeOf Tagged) → target % 4 ≡ 0 →
    inside ≡ false → jump_by core_of inside tagged rd target x ≡ x
elsewhere tagged rd target inside x aligned out = rw (eq-eqb (target % 4) 0 aligned, out) refl

-- The gate is nobody's.

module _ (image : ImageParts) (ranges : List TagRange) where
  gate_tag : (c : ℕ) → is_tag (Code c) (tag_at image ranges gate) ≡ false
  gate_tag c = rw (code_low image (gate / 4 * 4) (omega arith) (omega arith), data_low image gate (omega arith)) refl

  gate_untagged : (c : ℕ) → all_tagged (tag_at image ranges) (Code c) gate 4 ≡ false
  unfolding all_tagged
  gate_untagged c = rw (gate_tag c) refl

  pub jalr_returns : (inputs : List ℕ) (tagged : Tagged) (rd rs1 : ℕ) (imm : ℤ) (sum : ℕ) →
      sum ≡ add_word (reg tagged.core rs1) (word_of imm) → rd ≡ 0 → sum / 2 * 2 ≡ gate →
      execute_by (by_tag image ranges inputs) tagged (Jalr rd rs1 imm) ≡ Goes (on_tag_return image tagged tagged.level)
  unfolding execute_by
  jalr_returns inputs tagged rd rs1 imm sum is zero_is at =
      rw (sym is, at, zero_is, gate_untagged tagged.core.active) refl

  -- Steps, by the word at the pc.

  pub step_nowhere : (inputs : List ℕ) (tagged : Tagged) →
      tagged_word image ranges tagged.core.active tagged.core.memory tagged.core.pc ≡ None →
      tag_step image ranges inputs tagged ≡ Traps BadJump
  unfolding step_by
  step_nowhere inputs tagged at = rw at refl

  pub step_illegal : (inputs : List ℕ) (tagged : Tagged) (word : ℕ) →
      tagged_word image ranges tagged.core.active tagged.core.memory tagged.core.pc ≡ Some word →
      decoded word ≡ None → tag_step image ranges inputs tagged ≡ Traps Illegal
  unfolding step_by
  step_illegal inputs tagged word at is = rw (at, is) refl

  pub step_executes : (inputs : List ℕ) (tagged : Tagged) (word : ℕ) (instr : Instr) →
      tagged_word image ranges tagged.core.active tagged.core.memory tagged.core.pc ≡ Some word →
      decoded word ≡ Some instr →
      tag_step image ranges inputs tagged ≡ execute_by (by_tag image ranges inputs) tagged instr
  unfolding step_by
  step_executes inputs tagged word instr at is = rw (at, is) refl

-- a return, as the machine with regions makes it
pub return_lifted : (image : ImageParts) (state left : MachineState) →
    left ≡ on_return image state state.cross →
    Goes (with_levels left) ≡ Goes (on_tag_return image (with_levels state) (length state.cross))
return_lifted image state left is =
    ap (λ s. Goes (with_levels s)) is ∙ sym (returns_same image same_memory state)

-- The word at an address, by the test of the tags.

pub fetched_none : (site : TagSite) (c a : ℕ) (memory : ByteMemory) → site.comp ≡ c → is_own_code site a ≡ false →
    tagged_word site.image site.ranges c memory a ≡ None
fetched_none site c a memory here out =
    ap (λ d. tagged_word site.image site.ranges d memory a) (sym here) ∙ rw out refl

pub fetched_some : (site : TagSite) (c a : ℕ) (memory : ByteMemory) → site.comp ≡ c → is_own_code site a ≡ true →
    tagged_word site.image site.ranges c memory a ≡ Some (load_of memory a 4)
fetched_some site c a memory here own =
    ap (λ d. tagged_word site.image site.ranges d memory a) (sym here) ∙ rw own refl
