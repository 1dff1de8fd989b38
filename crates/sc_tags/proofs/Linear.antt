-- Each step keeps one live capability at each level below the call level, and none at another.
use Rattle.sc_tags.proofs.Common.{AtNext, Bool, Branch, ByteMemory, CapabilitiesAreLinear}
use Rattle.sc_tags.proofs.Common.{Crossing, Ebreak, Ecall, Fence}
use Rattle.sc_tags.proofs.Common.{Goes, ImageParts, Instr, Jal, Jalr, List, Load, None, Op, OpImm}
use Rattle.sc_tags.proofs.Common.{Option, Outcome, OutcomeOf, Protection, Shift, Some, Store, Tagged}
use Rattle.sc_tags.proofs.Common.{TrapReason, Traps, Upper, any_run_keeps, arith, by_tag, carried_called}
use Rattle.sc_tags.proofs.Common.{compares, decoded, entered_export, eqb-true, execute_by, false, if_decoded}
use Rattle.sc_tags.proofs.Common.{if_fetched}
use Rattle.sc_tags.proofs.Common.{if◌then◌else◌, is_some, jump_by, le-ltb, lt-ltb, nat_eq, nat_lt}
use Rattle.sc_tags.proofs.Common.{nat_tests, not, on_tag_call, on_tag_return, refl, returned_by, step_by, suc, sym}
use Rattle.sc_tags.proofs.Common.{tag_jumps, tag_leaves, tag_start, true, unless_trap, with_outcome, zero}
use Rattle.sc_tags.proofs.Common.{BadJump, NoImport, comp_of_code, export_params, ℕ, ◌%◌, ◌==◌, ◌∙◌, ◌≡◌}

-- What doesn't look at registers, pc and memory a step keeps, if jumps out of the code and calls of the environment do.
module _ {M : Type 0} (protection : Protection M) (P : M → Type 0) (state : M)
    (keeps : (regs : List ℕ) (pc : ℕ) (memory : ByteMemory) → P (protection.carrier.changed state
    (record (protection.carrier.seen state) { regs = regs; pc = pc; memory = memory })))
    (jal : (rd target : ℕ) → AtNext P (protection.jal_leaves state rd target))
    (jalr : (rd target : ℕ) → AtNext P (protection.jalr_leaves state rd target))
    (environment : AtNext P (protection.environment state)) where
  -- the outcome goes on in a state where it holds, if it goes on
  record Keeps (outcome : OutcomeOf M) : Type 0 where
    pub next : AtNext P outcome

  goes : (regs : List ℕ) (pc : ℕ) (memory : ByteMemory) → Keeps (Goes (protection.carrier.changed state
      (record (protection.carrier.seen state) { regs = regs; pc = pc; memory = memory })))
  goes regs pc memory = record { next = keeps regs pc memory }

  traps : (reason : TrapReason) → Keeps (Traps reason)
  traps reason = record { next = tt }

  either : (b : Bool) (x y : OutcomeOf M) → Keeps x → Keeps y → Keeps (if b then x else y)
  either true x y p q = p
  either false x y p q = q

  jumps : (inside : Bool) (rd target : ℕ) (elsewhere : OutcomeOf M) → Keeps elsewhere →
      Keeps (jump_by protection.carrier inside state rd target elsewhere)
  jumps inside rd target elsewhere h =
      either (not (target % 4 == 0)) _ _ (traps _) (either inside _ elsewhere (goes _ _ _) h)

  accesses : (why : Option TrapReason) (x : OutcomeOf M) → Keeps x → Keeps (unless_trap why x)
  accesses None x h = h
  accesses (Some reason) x h = traps reason

  executes : (instr : Instr) → Keeps (execute_by protection state instr)
  unfolding execute_by
  executes (Upper op rd imm) = goes _ _ _
  executes (Jal rd imm) = jumps _ rd _ _ (record { next = jal rd _ })
  executes (Jalr rd rs1 imm) = jumps _ rd _ _ (record { next = jalr rd _ })
  executes (Branch op rs1 rs2 imm) = either (compares op _ _) _ _ (jumps _ 0 _ _ (traps _)) (goes _ _ _)
  executes (Load op rd rs1 imm) = accesses _ _ (goes _ _ _)
  executes (Store op rs1 rs2 imm) = accesses _ _ (goes _ _ _)
  executes (OpImm op rd rs1 imm) = goes _ _ _
  executes (Shift op rd rs1 amount) = goes _ _ _
  executes (Op op rd rs1 rs2) = goes _ _ _
  executes (Fence imm rs1 rd) = goes _ _ _
  executes Ecall = record { next = environment }
  executes Ebreak = traps _

  decodes : (instr : Option Instr) → Keeps (if_decoded protection state instr)
  decodes None = traps _
  decodes (Some instr) = executes instr

  fetches : (word : Option ℕ) → Keeps (if_fetched protection state word)
  fetches None = traps _
  fetches (Some word) = decodes (decoded word)

  pub step_keeps : AtNext P (step_by protection state)
  unfolding step_by
  step_keeps = (fetches _).next

-- one capability at each level below the call level, and none at another
abbrev IsLinear : Tagged → Type 0
IsLinear tagged = (l : ℕ) → is_some (tagged.capabilities l) ≡ nat_lt l tagged.level

made_by : (n l : ℕ) (x : Crossing) (old : Option Crossing) (same : Bool) → nat_eq l n ≡ same →
    is_some old ≡ nat_lt l n →
    is_some (if same then Some x else old) ≡ nat_lt l (suc n)
made_by n l x old true is h = let here = eqb-true l n is in sym (lt-ltb l (suc n) (omega (arith, here)))
made_by n l x old false is h = h ∙ grind (arith, nat_tests)

gone_by : (n l : ℕ) (old : Option Crossing) (same : Bool) → nat_eq l n ≡ same → is_some old ≡ nat_lt l (suc n) →
    is_some (if same then None else old) ≡ nat_lt l n
gone_by n l old true is h = let here = eqb-true l n is in sym (le-ltb l n (omega (arith, here)))
gone_by n l old false is h = h ∙ grind (arith, nat_tests)

module _ (image : ImageParts) (tagged : Tagged) (h : IsLinear tagged) where
  calls_keep : (to target : ℕ) (index : Option ℕ) → AtNext IsLinear (carried_called image tagged to target index)
  calls_keep to target None = tt
  calls_keep to target (Some index) = by _ _
    where
      by : (own may : Bool) → AtNext IsLinear (if own then Traps BadJump else if may
          then Goes (on_tag_call tagged to index (export_params image to index) target) else Traps NoImport)
      by true may = tt
      by false true = λ l. made_by tagged.level l _ _ _ refl (h l)
      by false false = tt

  jumps_keep : (rd target : ℕ) → AtNext IsLinear (tag_jumps image tagged rd target)
  jumps_keep rd target = by _
    where
      by : (links : Bool) → AtNext IsLinear (if links then carried_called image tagged (comp_of_code target) target
          (entered_export image (comp_of_code target) target) else Traps BadJump)
      by true = calls_keep _ target _
      by false = tt

  returned_keep : (n : ℕ) → tagged.level ≡ suc n → (capability : Option Crossing) →
      IsLinear (returned_by image tagged n capability)
  returned_keep n is None = h
  returned_keep n is (Some crossing) = λ l. gone_by n l _ _ refl (rw (sym is) (h l))

  return_keeps : (level : ℕ) → tagged.level ≡ level → IsLinear (on_tag_return image tagged level)
  return_keeps zero is = h
  return_keeps (suc n) is = returned_keep n is _

  leaves_keep : (rd target : ℕ) → AtNext IsLinear (tag_leaves image tagged rd target)
  leaves_keep rd target = by _
    where
      by : (returns : Bool) → AtNext IsLinear (if returns then Goes (on_tag_return image tagged tagged.level)
          else tag_jumps image tagged rd target)
      by true = return_keeps tagged.level refl
      by false = jumps_keep rd target

  outcome_keeps : (outcome : Outcome) → AtNext IsLinear (with_outcome tagged outcome)
  outcome_keeps (Goes core) = h
  outcome_keeps (Traps reason) = tt

pub capabilities_linear : CapabilitiesAreLinear
capabilities_linear image ranges inputs steps events =
    any_run_keeps (by_tag image ranges inputs) events IsLinear
    (λ tagged h early. step_keeps (by_tag image ranges inputs) IsLinear tagged (λ regs pc memory. h)
    (jumps_keep image tagged h) (leaves_keep image tagged h) (outcome_keeps image tagged h _))
    steps (tag_start image) (λ l. sym (le-ltb l 0 (omega arith)))
