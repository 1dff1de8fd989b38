-- What a step can come to, in two states at once that a compartment can't distinguish: the same registers and pc, the
-- same bytes at its addresses, and the same blocks in its zone. A relation between the outcomes holds if it holds of
-- each kind of outcome.
use Rattle.sc_image.proofs.Common.{Auipc, BadCall, BadFree, BadJump, Bool, Branch, Breakpoint, Crossing, Ebreak, Ecall}
use Rattle.sc_image.proofs.Common.{Export, Fence, Goes, HasWord, HoldsBytes, Illegal, ImageParts, Instr, IsWellFormed}
use Rattle.sc_image.proofs.Common.{IsWord, Jal, Jalr, List, Load, LoadOp, Lui, MachineState, Misaligned, NoImport, None}
use Rattle.sc_image.proofs.Common.{Op, OpImm, Option, Outcome, OutcomeOf, Shift, ShiftOp, Some, Span, Store, StoreOp}
use Rattle.sc_image.proofs.Common.{TrapReason}
use Rattle.sc_image.proofs.Common.{Traps, Upper, a0, a1, a7, add_word-lt, ap, are_data, arith, by_owner, compares}
use Rattle.sc_image.proofs.Common.{decoded, entered_export, execute, execute_by, export_called, export_params, extended}
use Rattle.sc_image.proofs.Common.{false, frees, gives, has_heap, if_decoded, if_fetched, if◌then◌else◌, is_some}
use Rattle.sc_image.proofs.Common.{jalr_target, jump, jump_outside, leaves, length, length-set, load_of-same, load_size}
use Rattle.sc_image.proofs.Common.{may_call_export, may_input, may_output, nat_eq, next, not, on_alloc, on_call}
use Rattle.sc_image.proofs.Common.{on_input, on_output, on_registers, on_return, op_result, ra, refl, refused, reg}
use Rattle.sc_image.proofs.Common.{saved_sp, set, shift_on_registers, slice_get_within, slice_index, slice_set}
use Rattle.sc_image.proofs.Common.{sll_word-lt, sp, sra_word-lt, srl_word-lt, starts_block, step, step_by, store_size}
use Rattle.sc_image.proofs.Common.{subst, true, unless_trap, with_pc, with_reg, with_stored, with_zone, word_at}
use Rattle.sc_image.proofs.Common.{word_loaded, word_of, word_of-lt, written, zone_address, zone_of, zone_start, ℕ, ◌%◌}
use Rattle.sc_image.proofs.Common.{◌*◌, ◌+◌, ◌-◌, ◌/◌, ◌<◌, ◌==◌, ◌≡◌}
use Rattle.rv_code.specs.declared.instr.ShiftOp.TheVariants.{Slli, Srli, Srai}
use Rattle.rv_code.proofs.OneEach.{HasWord-decoded}
use Rattle.sc_image.proofs.Words.{AreWords, written_words, written_zero, computed_word, loaded_word, in_code}
use Rattle.sc_image.proofs.Words.{code_address, comp_found}
use Rattle.sc_zone.specs.Prelude.{taken, without_span}
unfoldable use Rattle.sc_zone.specs.Prelude.{least_free}
use Rattle.sc_zone.proofs.Places.{least_is_within}
use Rattle.sc_image.proofs.Memory.{allowed_data, one_of}

pub length-written : (regs : List ℕ) (r word : ℕ) → length (written regs r word) ≡ length regs
length-written regs r word = by_zero _
  where
    by_zero : (zero_is : Bool) → length (if zero_is then regs else set regs r word) ≡ length regs
    by_zero true = refl
    by_zero false = length-set regs r word

-- a shift's amount may be any number
shifted_word : (op : ShiftOp) (a amount : ℕ) → IsWord a → IsWord (op_result (shift_on_registers op) a amount)
shifted_word Slli a amount h = sll_word-lt a amount
shifted_word Srli a amount h = srl_word-lt a amount h
shifted_word Srai a amount h = sra_word-lt a amount

-- an address in a compartment's zone is a word
zone_word : (c : ℕ) (spans : List Span) (words : ℕ) (found : Option ℕ) → c < 32 → least_free spans words ≡ found →
    IsWord (zone_address c found)
zone_word c spans words None few is = omega arith
zone_word c spans words (Some place) few is = omega (arith, few, least_is_within spans words place is)

-- a compartment that has a heap is one of the image
heap_there : (image : ImageParts) (c : ℕ) → has_heap image c ≡ true → c < length image.comps
heap_there image c has =
    let found = comp_found (λ comp. comp.heap) false (λ heap. heap ≡ true) (λ never. cc never) _ has in
    slice_get_within image.comps c found.0 found.1

-- the crossing that a call opens
abbrev pub crossing_to : MachineState → (to index : ℕ) → Crossing
crossing_to state to index = record {
  caller = state.active;
  pc = state.pc + 4;
  sp = reg state sp;
  callee = to;
  entry = Export index;
  saved = saved_sp state to;
}

-- a property of the state, if any, that a step leads to
abbrev pub AtNext : {M : Type 0} → (M → Type 0) → OutcomeOf M → Type 0
AtNext P (Goes next) = P next
AtNext P (Traps reason) = Unit {0}

-- The two states.

-- the second state, where it has the registers, the pc and the active compartment of the first
abbrev pub standing : (one rest : MachineState) → MachineState
standing one rest = record rest { regs = one.regs; pc = one.pc; active = one.active }

module _ (image : ImageParts) (inputs inputs' : List ℕ) (formed : IsWellFormed image) (one rest : MachineState) where
  abbrev other : MachineState
  other = standing one rest

  -- the registers and the pc after a step that changes nothing else
  pub record Moves (regs' : List ℕ) (pc' : ℕ) : Type 0 where
    pub count : length regs' ≡ length one.regs
    pub zero : slice_index one.regs 0 ≡ 0 → slice_index regs' 0 ≡ 0
    pub words : IsWord (one.pc + 4) → AreWords one.regs → HoldsBytes one.memory → AreWords regs'
    pub goes : IsWord (one.pc + 4) → IsWord pc'

  -- a relation that holds of each kind of outcome
  pub record Cases (P : Outcome → Outcome → Type 0) : Type 0 where
    pub same : (a : ℕ) → are_data image one.active a 1 ≡ true → one.memory a ≡ rest.memory a
    pub zone : zone_of one one.active ≡ zone_of rest one.active
    pub traps : (reason : TrapReason) → P (Traps reason) (Traps reason)
    pub quiet : (regs' : List ℕ) (pc' : ℕ) → Moves regs' pc' →
        P (Goes (record one { regs = regs'; pc = pc' })) (Goes (record other { regs = regs'; pc = pc' }))
    pub rezones : (regs' : List ℕ) (pc' : ℕ) (spans : List Span) → Moves regs' pc' →
        P (Goes (record one { regs = regs'; pc = pc'; zones = slice_set one.zones one.active spans }))
        (Goes (record other { regs = regs'; pc = pc'; zones = slice_set rest.zones one.active spans }))
    pub stores : (op : StoreOp) (a word : ℕ) → refused image one.active (store_size op) a ≡ None →
        P (Goes (with_pc (with_stored one op a word) (one.pc + 4)))
        (Goes (with_pc (with_stored other op a word) (one.pc + 4)))
    pub calls : (to index target : ℕ) → entered_export image to target ≡ Some index →
        may_call_export image one.active to index ≡ true → P (Goes (on_call one to index (export_params image to index)
        target))
        (Goes (on_call other to index (export_params image to index) target))
    pub returns : P (Goes (on_return image one one.cross)) (Goes (on_return image other rest.cross))
    pub outputs : may_output image one.active ≡ true → P (Goes (with_pc (on_output one) (one.pc + 4)))
        (Goes (with_pc (on_output other) (one.pc + 4)))
    pub reads : may_input image one.active ≡ true → P (Goes (with_pc (on_input inputs one) (one.pc + 4)))
        (Goes (with_pc (on_input inputs' other) (one.pc + 4)))

  module _ (P : Outcome → Outcome → Type 0) (h : Cases P) where
    either : (b : Bool) (x x' y y' : Outcome) → P x x' → P y y' → P (if b then x else y) (if b then x' else y')
    either true x x' y y' p q = p
    either false x x' y y' p q = q

    where_true : (b : Bool) (x x' y y' : Outcome) → (b ≡ true → P x x') → P y y' →
        P (if b then x else y) (if b then x' else y')
    where_true true x x' y y' p q = p refl
    where_true false x x' y y' p q = q

    -- rd gets a word, and the pc goes on to this address
    moves_with : (rd word target : ℕ) →
        (IsWord (one.pc + 4) → AreWords one.regs → HoldsBytes one.memory → IsWord word) →
        (IsWord (one.pc + 4) → IsWord target) → Moves (written one.regs rd word) target
    moves_with rd word target is_word next = record {
      count = length-written one.regs rd word;
      zero = written_zero one.regs rd word;
      words = λ here h bytes. written_words one.regs rd word h (is_word here h bytes);
      goes = next;
    }

    gives_both : (rd word : ℕ) → (IsWord (one.pc + 4) → AreWords one.regs → HoldsBytes one.memory → IsWord word) →
        P (gives one rd word) (gives other rd word)
    gives_both rd word is_word = h.quiet _ _ (moves_with rd word _ is_word (λ here. here))

    moves_on : Moves one.regs (one.pc + 4)
    moves_on = record { count = refl; zero = λ z. z; words = λ here w bytes. w; goes = λ here. here }

    next_both : P (next one) (next other)
    next_both = h.quiet one.regs _ moves_on

    jump_both : (rd target : ℕ) (x x' : Outcome) → P x x' →
        P (jump image one rd target x) (jump image other rd target x')
    jump_both rd target x x' elsewhere = either (not (target % 4 == 0)) _ _ _ _ (h.traps Misaligned)
        (where_true (is_some (word_at image one.active target)) _ _ _ _ (λ some. h.quiet _ target
        (moves_with rd _ target (λ here w bytes. here) (λ here. code_address image formed _ target some))) elsewhere)

    export_both : (to target : ℕ) (index : Option ℕ) → entered_export image to target ≡ index →
        P (export_called image one to target index) (export_called image other to target index)
    export_both to target None at = h.traps BadJump
    export_both to target (Some index) at = may_by _ refl
      where
        may_by : (may : Bool) → may_call_export image one.active to index ≡ may →
            P (if may then Goes (on_call one to index (export_params image to index) target) else Traps NoImport)
            (if may then Goes (on_call other to index (export_params image to index) target) else Traps NoImport)
        may_by true is = h.calls to index target at is
        may_by false is = h.traps NoImport

    calls_both : (rd target : ℕ) → P (jump_outside image one rd target) (jump_outside image other rd target)
    calls_both rd target = either (nat_eq rd ra) _ _ _ _ (export_both _ target _ refl) (h.traps BadJump)

    leaves_both : (rd target : ℕ) → P (leaves image one rd target) (leaves image other rd target)
    leaves_both rd target = either _ _ _ _ _ h.returns (calls_both rd target)

    loaded_same : (op : LoadOp) (a : ℕ) → refused image one.active (load_size op) a ≡ None →
        word_loaded one op a ≡ word_loaded other op a
    loaded_same op a allowed = ap (extended op) (load_of-same one.memory rest.memory a _
        (λ k within. h.same _ (one_of image one.active a _ k (allowed_data image one.active _ a allowed) within)))

    load_both : (op : LoadOp) (rd a : ℕ) (why : Option TrapReason) → refused image one.active (load_size op) a ≡ why →
        P (unless_trap why (gives one rd (word_loaded one op a))) (unless_trap why (gives other rd (word_loaded other op
        a)))
    load_both op rd a (Some reason) is = h.traps reason
    load_both op rd a None is = subst (λ word. P (gives one rd (word_loaded one op a)) (gives other rd word))
        (loaded_same op a is) (gives_both rd _ (λ here w bytes. loaded_word one.memory op a bytes))

    store_both : (op : StoreOp) (a word : ℕ) (why : Option TrapReason) →
        refused image one.active (store_size op) a ≡ why → P (unless_trap why (next (with_stored one op a word)))
        (unless_trap why (next (with_stored other op a word)))
    store_both op a word (Some reason) is = h.traps reason
    store_both op a word None is = h.stores op a word is

    -- the heap

    -- an allocation and a free, from these blocks
    abbrev allocated : MachineState → (words : ℕ) → (spans : List Span) → MachineState
    allocated state words spans =
        let found = least_free spans words in
        with_reg (with_zone state (taken words found spans)) a0 (zone_address state.active found)

    abbrev freed : MachineState → (a : ℕ) → (spans : List Span) → Outcome
    freed state a spans =
        if nat_eq a 0 then next state else if starts_block state.active spans a
        then next (with_zone state (without_span ((a - zone_start state.active) / 4) spans)) else Traps BadFree

    alloc_both : (words : ℕ) → one.active < 32 → P (next (on_alloc one words)) (next (on_alloc other words))
    alloc_both words few =
        let spans = zone_of one one.active in
        subst (λ spans. P (next (on_alloc one words)) (next (allocated other words spans))) h.zone
        (h.rezones _ _ (taken words (least_free spans words) spans) (moves_with a0 _ _
        (λ here w bytes. zone_word one.active spans words _ few refl) (λ here. here)))

    frees_both : (a : ℕ) → P (frees one a) (frees other a)
    frees_both a =
        let spans = zone_of one one.active in
        subst (λ spans. P (frees one a) (freed other a spans)) h.zone (either (nat_eq a 0) _ _ _ _ next_both
        (either (starts_block one.active spans a) _ _ _ _ (h.rezones one.regs _ _ moves_on) (h.traps BadFree)))

    heap_both : (has : Bool) → has_heap image one.active ≡ has →
        P (if not has then Traps BadCall
        else if nat_eq (reg one a7) 3 then next (on_alloc one (reg one a0 * reg one a1))
        else if nat_eq (reg one a7) 4 then frees one (reg one a0) else Traps BadCall)
        (if not has then Traps BadCall
        else if nat_eq (reg one a7) 3 then next (on_alloc other (reg one a0 * reg one a1))
        else if nat_eq (reg one a7) 4 then frees other (reg one a0) else Traps BadCall)
    heap_both false is = h.traps BadCall
    heap_both true is = either (nat_eq (reg one a7) 3) _ _ _ _
        (alloc_both _ (omega (arith, heap_there image one.active is, formed.few_comps)))
        (either (nat_eq (reg one a7) 4) _ _ _ _ (frees_both _) (h.traps BadCall))

    execute_both : (instr : Instr) (word : ℕ) → HasWord instr word →
        P (execute image inputs one instr) (execute image inputs' other instr)
    unfolding execute_by
    execute_both (Upper Lui rd imm) word has = gives_both rd imm (λ here w bytes. has.instr.1.word)
    execute_both (Upper Auipc rd imm) word has = gives_both rd _ (λ here w bytes. add_word-lt one.pc imm)
    execute_both (Jal rd imm) word has = jump_both rd _ _ _ (calls_both rd _)
    execute_both (Jalr rd rs1 imm) word has = jump_both rd _ _ _ (leaves_both rd (jalr_target _ imm))
    execute_both (Branch op rs1 rs2 imm) word has =
        either (compares op _ _) _ _ _ _ (jump_both 0 _ _ _ (h.traps BadJump)) next_both
    execute_both (Load op rd rs1 imm) word has = load_both op rd _ _ refl
    execute_both (Store op rs1 rs2 imm) word has = store_both op _ _ _ refl
    execute_both (OpImm op rd rs1 imm) word has = gives_both rd (op_result (on_registers op) (reg one rs1) (word_of
        imm))
        (λ here w bytes. computed_word (on_registers op) (reg one rs1) (word_of imm) (w rs1) (word_of-lt imm))
    execute_both (Shift op rd rs1 amount) word has = gives_both rd
        (op_result (shift_on_registers op) (reg one rs1) amount) (λ here w bytes. shifted_word op _ amount (w rs1))
    execute_both (Op op rd rs1 rs2) word has = gives_both rd _ (λ here w bytes. computed_word op _ _ (w rs1) (w rs2))
    execute_both (Fence imm rs1 rd) word has = next_both
    execute_both Ecall word has = either (nat_eq (reg one a7) 1) _ _ _ _
        (where_true _ _ _ _ _ h.reads (h.traps NoImport)) (either (nat_eq _ 2) _ _ _ _
        (where_true (may_output image one.active) _ _ _ _ h.outputs (h.traps NoImport)) (heap_both _ refl))
    execute_both Ebreak word has = h.traps Breakpoint

    decoded_both : (word : ℕ) (instr : Option Instr) → IsWord word → decoded word ≡ instr →
        P (if_decoded (by_owner image inputs) one instr) (if_decoded (by_owner image inputs') other instr)
    decoded_both word None bits is = h.traps Illegal
    decoded_both word (Some instr) bits is = execute_both instr word (HasWord-decoded word instr bits is)

    fetched_both : (word : Option ℕ) → word_at image one.active one.pc ≡ word →
        P (if_fetched (by_owner image inputs) one word) (if_fetched (by_owner image inputs') other word)
    fetched_both None at = h.traps BadJump
    fetched_both (Some word) at = decoded_both word _ (in_code image formed one.active one.pc word at).bits refl

    -- the step
    pub step_both : P (step image inputs one) (step image inputs' other)
    unfolding step_by
    step_both = fetched_both _ refl

-- One state: a property of its outcome.
module _ (image : ImageParts) (inputs : List ℕ) (formed : IsWellFormed image) (state : MachineState)
    (P : Outcome → Type 0) where
  abbrev pub OneCases : Type 0
  OneCases = Cases image inputs inputs formed state state (λ x y. P x)

  pub step_of : OneCases → P (step image inputs state)
  step_of h = step_both image inputs inputs formed state _ _ h
