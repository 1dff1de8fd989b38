-- While a compartment is active, images that agree for it have the same step.
use Rattle.sc_image.proofs.Common.{AgreeFor, Auipc, BadCall, BadJump, Bool, Branch, ByteMemory, Crossing, Ebreak, Ecall}
use Rattle.sc_image.proofs.Common.{Fence, Goes, ImageParts, Instr, IsWellFormed, Jal, Jalr, List, Load, Lui}
use Rattle.sc_image.proofs.Common.{MachineState, NoImport, None, Op, OpImm, Option, Outcome, Shift, Some, Store, Traps}
use Rattle.sc_image.proofs.Common.{Upper, [], a0, a1, a7, add_word, ap, by_owner, comp_of_code, compares, data_of}
use Rattle.sc_image.proofs.Common.{decoded, execute, execute_by, export_called, export_params, false, flat_map, frees}
use Rattle.sc_image.proofs.Common.{gate, has_heap, has_result, if_decoded, if_fetched, if◌then◌else◌, is_some}
use Rattle.sc_image.proofs.Common.{jalr_target, jump, jump_by, jump_outside, kept_by, leaves, load_by, load_size}
use Rattle.sc_image.proofs.Common.{may_call_export, nat_eq, next, not, on_alloc, on_call, on_input, on_output}
use Rattle.sc_image.proofs.Common.{on_return, on_return_to, own, plain, ra, refl, reg, saved_sp, step, step_by}
use Rattle.sc_image.proofs.Common.{store_by}
use Rattle.sc_image.proofs.Common.{store_size, subst, sym, true, word_of, zone_of, zone_start, ℕ, ◌&&◌, ◌*◌, ◌∙◌, ◌∷◌}
use Rattle.sc_image.proofs.Common.{◌≡◌}
use Rattle.sc_image.proofs.Memory.{zone_owned}

module _ (c : ℕ) (image image' : ImageParts) (agree : AgreeFor c image image') where
  pub data_agree : (memory : ByteMemory) → data_of image c memory ≡ data_of image' c memory
  data_agree memory = λ i address. if agree.owned address 1 i then memory address else None

  pub own_agree : (state : MachineState) → own image state c ≡ own image' state c
  own_agree state = λ i. record {
    bytes = data_agree state.memory i;
    zone = zone_of state c;
    saved = saved_sp state c;
    calls = flat_map (kept_by c) state.cross;
    running = if nat_eq state.active c then Some (record { regs = state.regs; pc = state.pc }) else None;
  }

-- whether the compartment has a heap is seen at the first address of its zone
pub heap_agree : (c : ℕ) (image image' : ImageParts) → IsWellFormed image → IsWellFormed image' →
    AgreeFor c image image' → has_heap image c ≡ has_heap image' c
heap_agree c image image' formed formed' agree =
    sym (zone_owned image c formed) ∙ agree.owned (zone_start c) 1 ∙ zone_owned image' c formed'

-- the latest call, if one is open, is of the active compartment
abbrev pub IsInLatest : MachineState → Type 0
IsInLatest state = (x : Crossing) (xs : List Crossing) → state.cross ≡ x ∷ xs → x.callee ≡ state.active

module _ (image image' : ImageParts) (inputs : List ℕ) (state : MachineState) (formed : IsWellFormed image)
    (formed' : IsWellFormed image') (agree : AgreeFor state.active image image') (latest : IsInLatest state) where
  jump_agree : (rd target : ℕ) (x x' : Outcome) → x ≡ x' → jump image state rd target x ≡ jump image' state rd target x'
  jump_agree rd target x x' same = λ i. jump_by plain (is_some (agree.code target i)) state rd target (same i)

  export_agree : (to target : ℕ) (index : Option ℕ) →
      export_called image state to target index ≡ export_called image' state to target index
  export_agree to target None = refl
  export_agree to target (Some index) =
      by_may _ refl ∙ ap (λ may. if may then Goes (on_call state to index (export_params image' to index) target) else
      Traps NoImport) (agree.imports to index)
    where
      by_may : (may : Bool) → may_call_export image state.active to index ≡ may →
          (if may then Goes (on_call state to index (export_params image to index) target) else Traps NoImport) ≡
          (if may then Goes (on_call state to index (export_params image' to index) target) else Traps NoImport)
      by_may true is = ap (λ params. Goes (on_call state to index params target)) (agree.params to index is)
      by_may false is = refl

  calls_agree : (rd target : ℕ) → jump_outside image state rd target ≡ jump_outside image' state rd target
  calls_agree rd target =
      let to = comp_of_code target in
      let same = export_agree to target _ ∙ ap (export_called image' state to target) (agree.entries to target) in
      λ i. if nat_eq rd ra then same i else Traps BadJump

  returns_agree : (cross : List Crossing) → state.cross ≡ cross → on_return image state cross ≡ on_return image' state
      cross
  returns_agree [] is = refl
  returns_agree (x ∷ xs) is = ap (λ result. on_return_to result state x xs)
      (subst (λ k. has_result image k x.entry ≡ has_result image' k x.entry) (sym (latest x xs is))
      (agree.results x.entry))

  leaves_agree : (rd target : ℕ) → leaves image state rd target ≡ leaves image' state rd target
  leaves_agree rd target = λ i. if nat_eq rd 0 && nat_eq target gate then Goes (returns_agree state.cross refl i) else
      calls_agree rd target i

  execute_agree : (instr : Instr) → execute image inputs state instr ≡ execute image' inputs state instr
  unfolding execute_by
  execute_agree (Upper Lui rd imm) = refl
  execute_agree (Upper Auipc rd imm) = refl
  execute_agree (Jal rd imm) = jump_agree rd _ _ _ (calls_agree rd _)
  execute_agree (Jalr rd rs1 imm) = jump_agree rd _ _ _ (leaves_agree rd (jalr_target (reg state rs1) imm))
  execute_agree (Branch op rs1 rs2 imm) = ap (λ taken. if compares op (reg state rs1) (reg state rs2) then taken else
      next state) (jump_agree 0 (add_word state.pc (word_of imm)) (Traps BadJump) _ refl)
  execute_agree (Load op rd rs1 imm) =
      let address = add_word (reg state rs1) (word_of imm) in
      ap (λ allowed. load_by plain allowed state op rd address) (agree.owned address (load_size op))
  execute_agree (Store op rs1 rs2 imm) =
      let address = add_word (reg state rs1) (word_of imm) in
      ap (λ allowed. store_by plain allowed state op address (reg state rs2)) (agree.owned address (store_size op))
  execute_agree (OpImm op rd rs1 imm) = refl
  execute_agree (Shift op rd rs1 amount) = refl
  execute_agree (Op op rd rs1 rs2) = refl
  execute_agree (Fence imm rs1 rd) = refl
  execute_agree Ecall = λ i.
      if nat_eq (reg state a7) 1 then (if agree.reads i then next (on_input inputs state) else Traps NoImport)
      else if nat_eq (reg state a7) 2 then (if agree.writes i then next (on_output state) else Traps NoImport)
      else if not (heap_agree state.active image image' formed formed' agree i) then Traps BadCall
      else if nat_eq (reg state a7) 3 then next (on_alloc state (reg state a0 * reg state a1))
      else if nat_eq (reg state a7) 4 then frees state (reg state a0)
      else Traps BadCall
  execute_agree Ebreak = refl

  decoded_agree : (instr : Option Instr) →
      if_decoded (by_owner image inputs) state instr ≡ if_decoded (by_owner image' inputs) state instr
  decoded_agree None = refl
  decoded_agree (Some instr) = execute_agree instr

  fetched_agree : (word : Option ℕ) →
      if_fetched (by_owner image inputs) state word ≡ if_fetched (by_owner image' inputs) state word
  fetched_agree None = refl
  fetched_agree (Some word) = decoded_agree (decoded word)

  pub step_agree : step image inputs state ≡ step image' inputs state
  unfolding step_by
  step_agree = fetched_agree _ ∙ ap (if_fetched (by_owner image' inputs) state) (agree.code state.pc)
