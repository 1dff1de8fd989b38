-- What a step is, runs and stretches of runs, and what stands in memory at the start.
use Rattle.sc_image.proofs.Common.{BadJump, Bool, ByteMemory, CompPart, Ended, Event, EventsOut, Goes, Illegal}
use Rattle.sc_image.proofs.Common.{ImageInMemory, ImageParts, Instr, IsAt, IsWellFormed, IsWord, List}
use Rattle.sc_image.proofs.Common.{MachineState, None, Option, Outcome, OutcomeOf, Protection, Region, RunOf, Some}
use Rattle.sc_image.proofs.Common.{StepsByInstruction, StepsOut, Stop, Trap, TrapReason, Traps, Walks, [], after}
use Rattle.sc_image.proofs.Common.{after_outcome, and_from, ap, by_owner, run_by}
use Rattle.sc_image.proofs.Common.{are_data, arith, byte_of, code_in, code_start, comp_of_data, continued, data_regions}
use Rattle.sc_image.proofs.Common.{data_start, decoded, eq-eqb, execute, execute_by, false, flat_map, if◌then◌else◌}
use Rattle.sc_image.proofs.Common.{is_in, le-leb, le-ltb, length, list_any, little_bytes, load_of, lt-ltb, most_globals}
use Rattle.sc_image.proofs.Common.{nat_eq, nat_le, nat_lt, or_left, or_right, refl, run, slice_get, slice_get_within}
use Rattle.sc_image.proofs.Common.{stack_size, stack_top, start_memory, step, step_by, stopped, stops_or, stretch}
use Rattle.sc_image.proofs.Common.{subst, suc, sym, then_on, true, unless_stopped, walk, word_at, zero, zero-add}
use Rattle.sc_image.proofs.Common.{zone_size, zone_start, ℕ, ◌%◌, ◌*◌, ◌++◌, ◌+◌, ◌-◌, ◌/◌, ◌<◌, ◌^◌, ◌∙◌, ◌∷◌, ◌≡◌}
use Rattle.sc_image.proofs.Common.{◌≤◌}
use Rattle.std.proofs.Math.Nat.{suc-add}
use Rattle.sc_image.proofs.Cases.{AtNext}
use Rattle.sc_image.proofs.Memory.{data_bounds, data_byte, start_is, zone_offset}

-- an instruction
pub step_executes : (image : ImageParts) (inputs : List ℕ) (state : MachineState) (word : ℕ) (instr : Instr) →
    word_at image state.active state.pc ≡ Some word → decoded word ≡ Some instr →
    step image inputs state ≡ execute image inputs state instr
unfolding step_by
step_executes image inputs state word instr at is = rw (at, is) refl

-- a word that is none
pub step_illegal : (image : ImageParts) (inputs : List ℕ) (state : MachineState) (word : ℕ) →
    word_at image state.active state.pc ≡ Some word → decoded word ≡ None → step image inputs state ≡ Traps Illegal
unfolding step_by
step_illegal image inputs state word at is = rw (at, is) refl

-- no word
pub step_nowhere : (image : ImageParts) (inputs : List ℕ) (state : MachineState) →
    word_at image state.active state.pc ≡ None → step image inputs state ≡ Traps BadJump
unfolding step_by
step_nowhere image inputs state at = rw at refl

-- A run may be cut into pieces: it goes on from the state that it stopped in.

-- a run that stops before another step doesn't stop for want of steps
stays_by : {M : Type 0} (ended full : Bool) (stop : Stop) (earlier later : RunOf M) →
    (if ended then Some Ended else if full then Some EventsOut else None) ≡ Some stop →
    unless_stopped stop earlier later ≡ earlier
stays_by true full stop earlier later h = let same : Ended ≡ stop = cc h in
    subst (λ s. unless_stopped s earlier later ≡ earlier) same refl
stays_by false true stop earlier later h = let same : EventsOut ≡ stop = cc h in
    subst (λ s. unless_stopped s earlier later ≡ earlier) same refl
stays_by false false stop earlier later h = cc h

stays : {M : Type 0} (events : ℕ) (trace : List Event) (stop : Stop) (earlier later : RunOf M) →
    stopped events trace ≡ Some stop → unless_stopped stop earlier later ≡ earlier
unfolding stopped
stays events trace stop earlier later h = stays_by _ _ stop _ later h

-- Runs of any machine.
module _ {M : Type 0} (protection : Protection M) (events : ℕ) where
  abbrev runs : (steps : ℕ) → M → RunOf M
  runs = run_by protection events

  abbrev early_in : M → Option Stop
  early_in state = stopped events (protection.carrier.seen state).trace

  abbrev pc_of : M → ℕ
  pc_of state = (protection.carrier.seen state).pc

  -- it stops with any number of steps
  pub stopped_run : (n : ℕ) (state : M) (stop : Stop) → early_in state ≡ Some stop →
      runs n state ≡ record { state = state; stop = stop }
  unfolding run_by
  stopped_run zero state stop h = rw h refl
  stopped_run (suc n) state stop h = rw h refl

  -- it stops for want of steps, goes on by one step, or traps
  pub out_run : (state : M) → early_in state ≡ None → runs 0 state ≡ record { state = state; stop = StepsOut }
  unfolding run_by
  out_run state early = rw early refl

  pub going_run : (n : ℕ) (state next : M) → early_in state ≡ None → step_by protection state ≡ Goes next →
      runs (suc n) state ≡ runs n next
  unfolding run_by
  going_run n state next early goes = rw (early, goes) refl

  pub trapped_run : (n : ℕ) (state : M) (reason : TrapReason) → early_in state ≡ None →
      step_by protection state ≡ Traps reason →
      runs (suc n) state ≡ record { state = state; stop = Trap reason (pc_of state) }
  unfolding run_by
  trapped_run n state reason early traps = rw (early, traps) refl

  module _ (n : ℕ) where
    -- with no steps at first
    none_first : (state : M) (early : Option Stop) → early_in state ≡ early →
        runs n state ≡ continued (runs n) (stops_or early state (record { state = state; stop = StepsOut }))
    none_first state None h = refl
    none_first state (Some stop) h = stopped_run n state stop h ∙ sym (stays events _ stop _ _ h)

    -- with one step more, of which the outcome is given
    one_more : (m : ℕ) (state : M) (outcome : OutcomeOf M) →
        ((next : M) → runs (m + n) next ≡ continued (runs n) (runs m next)) →
        after (pc_of state) state outcome (runs (m + n)) ≡
        continued (runs n) (after (pc_of state) state outcome (runs m))
    one_more m state (Goes next) later = later next
    one_more m state (Traps reason) later = refl

    -- and the stop before it
    one_first : (m : ℕ) (state : M) (early : Option Stop) → early_in state ≡ early →
        ((next : M) → runs (m + n) next ≡ continued (runs n) (runs m next)) → stops_or early state
        (after (pc_of state) state (step_by protection state) (runs (m + n))) ≡
        continued (runs n) (stops_or early state (after (pc_of state) state (step_by protection state) (runs m)))
    one_first m state None h later = one_more m state _ later
    one_first m state (Some stop) h later = sym (stays events _ stop _ _ h)

    -- m + n steps are m steps and then n
    pub more_run : (m : ℕ) (state : M) → runs (m + n) state ≡ continued (runs n) (runs m state)
    unfolding run_by
    more_run zero state = ap (λ k. runs k state) (zero-add n) ∙ none_first state _ refl
    more_run (suc m) state =
        ap (λ k. runs k state) (suc-add m n) ∙ one_first m state _ refl (more_run m)

-- Runs of the machine with regions.
module _ (image : ImageParts) (inputs : List ℕ) (events : ℕ) where
  abbrev machine_by : Protection MachineState
  machine_by = by_owner image inputs

  pub run_stopped : (n : ℕ) (state : MachineState) (stop : Stop) → stopped events state.trace ≡ Some stop →
      run image inputs events n state ≡ record { state = state; stop = stop }
  run_stopped = stopped_run machine_by events

  pub run_out : (state : MachineState) → stopped events state.trace ≡ None →
      run image inputs events 0 state ≡ record { state = state; stop = StepsOut }
  run_out = out_run machine_by events

  pub run_goes : (n : ℕ) (state next : MachineState) → stopped events state.trace ≡ None →
      step image inputs state ≡ Goes next → run image inputs events (suc n) state ≡ run image inputs events n next
  run_goes = going_run machine_by events

  pub run_traps : (n : ℕ) (state : MachineState) (reason : TrapReason) → stopped events state.trace ≡ None →
      step image inputs state ≡ Traps reason →
      run image inputs events (suc n) state ≡ record { state = state; stop = Trap reason state.pc }
  run_traps = trapped_run machine_by events

  pub run_more : (n m : ℕ) (state : MachineState) →
      run image inputs events (m + n) state ≡ continued (run image inputs events n) (run image inputs events m state)
  run_more = more_run machine_by events

-- What each step keeps, a run keeps.

pub after_keeps : (P : MachineState → Type 0) (state : MachineState) (outcome : Outcome) → P state → AtNext P outcome →
    P (after_outcome state outcome)
after_keeps P state (Goes next) h k = k
after_keeps P state (Traps reason) h k = h

module _ {M : Type 0} (protection : Protection M) (events : ℕ) (P : M → Type 0)
    (each : (state : M) → P state → early_in protection events state ≡ None → AtNext P (step_by protection state)) where
  stop_keeps : (early : Option Stop) (state : M) (later : RunOf M) → P state → (early ≡ None → P later.state) →
      P (stops_or early state later).state
  stop_keeps None state later h k = k refl
  stop_keeps (Some stop) state later h k = h

  go_keeps : (pc : ℕ) (state : M) (outcome : OutcomeOf M) (go : M → RunOf M) → P state → AtNext P outcome →
      ((next : M) → P next → P (go next).state) → P (after pc state outcome go).state
  go_keeps pc state (Goes next) go h k later = later next k
  go_keeps pc state (Traps reason) go h k later = h

  pub any_run_keeps : (steps : ℕ) (state : M) → P state → P (run_by protection events steps state).state
  unfolding run_by
  any_run_keeps zero state h = stop_keeps (early_in protection events state) state _ h (λ early. h)
  any_run_keeps (suc steps) state h = stop_keeps (early_in protection events state) state _ h
      (λ early. go_keeps _ state _ _ h (each state h early) (any_run_keeps steps))

pub run_keeps : (image : ImageParts) (inputs : List ℕ) (events : ℕ) (P : MachineState → Type 0) →
    ((state : MachineState) → P state → stopped events state.trace ≡ None → AtNext P (step image inputs state)) →
    (steps : ℕ) (state : MachineState) → P state → P (run image inputs events steps state).state
run_keeps image inputs = any_run_keeps (by_owner image inputs)

-- Stretches of a run, steps by their instruction, and what stands in memory at the start.

-- Stretches.

pub walk_one : (image : ImageParts) (inputs : List ℕ) (from to : MachineState) → step image inputs from ≡ Goes to →
    Walks image inputs 1 from to
walk_one image inputs from to goes = record { by = ap (λ o. then_on o (walk image inputs 0)) goes }

-- the first of some steps
pub first_step : (later : MachineState → Outcome) (to : MachineState) (outcome : Outcome) → then_on outcome later ≡ Goes
    to →
    (next : MachineState) × (outcome ≡ Goes next) × (later next ≡ Goes to)
first_step later to (Goes next) goes = (next, refl, goes)
first_step later to (Traps reason) goes = let never = goes in cc never

module _ (image : ImageParts) (inputs : List ℕ) where
  walk_on : (m n : ℕ) (from middle : MachineState) → walk image inputs m from ≡ Goes middle →
      walk image inputs (m + n) from ≡ walk image inputs n middle
  walk_on zero n from middle goes =
      let same : from ≡ middle = cc goes in ap (λ k. walk image inputs k from) (zero-add n) ∙
      ap (walk image inputs n) same
  walk_on (suc m) n from middle goes =
      let first = first_step (walk image inputs m) middle _ goes in
      ap (λ k. walk image inputs k from) (suc-add m n) ∙ ap (λ o. then_on o (walk image inputs (m + n))) first.1 ∙
      walk_on m n first.0 middle first.2

pub walk_together : (image : ImageParts) (inputs : List ℕ) (m n : ℕ) (from middle to : MachineState) →
    Walks image inputs m from middle → Walks image inputs n middle to → Walks image inputs (m + n) from to
walk_together image inputs m n from middle to first second =
    record { by = walk_on image inputs m n from middle first.by ∙ second.by }

-- Steps by their instruction.

module _ (image : ImageParts) (inputs : List ℕ) (state : MachineState) where
  by_instr : (instr : Instr) → IsAt image state instr → step image inputs state ≡ execute image inputs state instr
  by_instr instr at = step_executes image inputs state at.word instr at.fetched at.decodes

pub steps_by_instruction : StepsByInstruction
unfolding execute_by
steps_by_instruction = record {
  lui = λ image inputs state rd imm at. by_instr image inputs state _ at;
  auipc = λ image inputs state rd imm at. by_instr image inputs state _ at;
  jal = λ image inputs state rd imm target at same. by_instr image inputs state _ at ∙ rw same refl;
  jalr = λ image inputs state rd rs1 imm target at same. by_instr image inputs state _ at ∙ rw same refl;
  branch_taken = λ image inputs state op rs1 rs2 imm target at taken same. by_instr image inputs state _ at ∙
      rw (taken, same) refl;
  branch_not_taken = λ image inputs state op rs1 rs2 imm at taken. by_instr image inputs state _ at ∙ rw taken refl;
  loads = λ image inputs state op rd rs1 imm _ at same. by_instr image inputs state _ at ∙ rw same refl;
  stores = λ image inputs state op rs1 rs2 imm _ at same. by_instr image inputs state _ at ∙ rw same refl;
  op_imm = λ image inputs state op rd rs1 imm at. by_instr image inputs state _ at;
  shift = λ image inputs state op rd rs1 amount at. by_instr image inputs state _ at;
  op = λ image inputs state op rd rs1 rs2 at. by_instr image inputs state _ at;
  fence = λ image inputs state imm rs1 rd at. by_instr image inputs state _ at;
  ecall = λ image inputs state at. by_instr image inputs state _ at;
  ebreak = λ image inputs state at. by_instr image inputs state _ at;
}

-- Memory at the start.

past_prefix : (before : List ℕ) (word : ℕ) (after : List ℕ) →
    slice_get (before ++ word ∷ after) (length before) ≡ Some word
past_prefix [] word after = refl
past_prefix (x ∷ before) word after = past_prefix before word after

code_placed : (image : ImageParts) (c word : ℕ) (before after : List ℕ) → code_in image c ≡ before ++ word ∷ after →
    word_at image c (code_start c + 4 * length before) ≡ Some word
unfolding word_at
code_placed image c word before after is =
    let aligned : nat_eq ((code_start c + 4 * length before) % 4) 0 ≡ true = eq-eqb _ _ (omega arith) in
    let from : nat_le (code_start c) (code_start c + 4 * length before) ≡ true = le-leb _ _ (omega arith) in
    let place : (code_start c + 4 * length before - code_start c) / 4 ≡ length before = omega arith in
    rw (aligned, from, place, is) (past_prefix before word after)

module _ (image : ImageParts) (c : ℕ) (comp : CompPart) (found : slice_get image.comps c ≡ Some comp) (offset : ℕ)
    (within : offset < stretch) where
  data_placed : start_memory image (data_start c + offset) ≡ data_byte offset comp
  data_placed =
      let from : nat_lt (data_start c + offset) (data_start 0) ≡ false = le-ltb _ _ (omega arith) in
      let number : comp_of_data (data_start c + offset) ≡ c = omega (arith, within) in
      let place : (data_start c + offset - data_start 0) % stretch ≡ offset = omega (arith, within) in
      start_is (data_start c + offset) image ∙ rw (from, number, place, found) refl

stack_placed : (image : ImageParts) (c : ℕ) (comp : CompPart) (k : ℕ) → slice_get image.comps c ≡ Some comp →
    k < stack_size → start_memory image (data_start c + k) ≡ Some 0
stack_placed image c comp k found below =
    let low = lt-ltb _ _ below in
    data_placed image c comp found k (omega (arith, below)) ∙ rw low refl

globals_placed : (image : ImageParts) (c : ℕ) (comp : CompPart) (k : ℕ) → length comp.globals ≤ most_globals →
    slice_get image.comps c ≡ Some comp → k < length comp.globals →
    start_memory image (stack_top c + k) ≡ slice_get comp.globals k
globals_placed image c comp k few found below =
    let at : stack_top c + k ≡ data_start c + (stack_size + k) = omega arith in
    let high : nat_lt (stack_size + k) stack_size ≡ false = le-ltb _ _ (omega arith) in
    let within : nat_lt (stack_size + k) (stack_size + length comp.globals) ≡ true =
    lt-ltb _ _ (omega (arith, below)) in
    let place : stack_size + k - stack_size ≡ k = omega arith in
    ap (start_memory image) at ∙ data_placed image c comp found (stack_size + k)
    (omega (arith, below, few)) ∙ rw (high, within, place) refl

zone_placed : (image : ImageParts) (c : ℕ) (comp : CompPart) (k : ℕ) → IsWellFormed image →
    slice_get image.comps c ≡ Some comp → comp.heap ≡ true → k < zone_size →
    start_memory image (zone_start c + k) ≡ Some 0
zone_placed image c comp k formed found heap below =
    let few = (formed.comps c comp found).short_globals in
    let at : zone_start c + k ≡ data_start c + (zone_offset + k) = omega arith in
    let stack : nat_lt (zone_offset + k) stack_size ≡ false = le-ltb _ _ (omega arith) in
    let globals : nat_lt (zone_offset + k) (stack_size + length comp.globals) ≡ false =
    le-ltb _ _ (omega (arith, few)) in
    let from : nat_le zone_offset (zone_offset + k) ≡ true = le-leb _ _ (omega arith) in
    let upto : nat_lt (zone_offset + k) (zone_offset + zone_size) ≡ true = lt-ltb _ _ (omega (arith, below)) in
    ap (start_memory image) at ∙ data_placed image c comp found (zone_offset + k) (omega (arith, below)) ∙
    rw (stack, globals, heap, from, upto) refl

-- The bytes of words, one after the other.

-- the bytes of the first word
pub first_byte : (word : ℕ) (others : List ℕ) (j : ℕ) → j < 4 →
    slice_get (little_bytes 4 word ++ others) j ≡ Some (byte_of word j)
first_byte word others zero within = ap Some (omega arith)
first_byte word others (suc zero) within = refl
first_byte word others (suc (suc zero)) within = refl
first_byte word others (suc (suc (suc zero))) within = refl
first_byte word others (suc (suc (suc (suc j)))) within = absurd (omega (arith, within))

word_byte : (words : List ℕ) (k j word : ℕ) → j < 4 → slice_get words k ≡ Some word →
    slice_get (flat_map (little_bytes 4) words) (4 * k + j) ≡ Some (byte_of word j)
word_byte [] k j word within at = let none = at in cc none
word_byte (first ∷ words) zero j word within at =
    let same : first ≡ word = cc at in
    ap (slice_get (flat_map (little_bytes 4) (first ∷ words))) (zero-add j) ∙
    first_byte first (flat_map (little_bytes 4) words) j within ∙ ap (λ w. Some (byte_of w j)) same
word_byte (first ∷ words) (suc k) j word within at =
    let place : 4 * suc k + j ≡ suc (suc (suc (suc (4 * k + j)))) = omega arith in
    ap (slice_get (flat_map (little_bytes 4) (first ∷ words))) place ∙ word_byte words k j word within at

-- four bytes are the number that they make
four_bytes : (word : ℕ) → word < 2 ^ 32 →
    0 + byte_of word 0 * 256 ^ 0 + byte_of word 1 * 256 ^ 1 + byte_of word 2 * 256 ^ 2 + byte_of word 3 * 256 ^ 3 ≡ word
four_bytes word below = omega (arith, below)

-- the number that four bytes in memory make
pub load_is : (memory : ByteMemory) (a word : ℕ) → word < 2 ^ 32 →
    ((j : ℕ) → j < 4 → memory (a + j) ≡ Some (byte_of word j)) → load_of memory a 4 ≡ word
load_is memory a word below bytes = rw (
  bytes 0 (omega arith),
  bytes 1 (omega arith),
  bytes 2 (omega arith),
  bytes 3 (omega arith),
) (four_bytes word below)

pub words_placed : (image : ImageParts) (c : ℕ) (comp : CompPart) (words : List ℕ) (k word : ℕ) →
    length comp.globals ≤ most_globals → slice_get image.comps c ≡ Some comp →
    comp.globals ≡ flat_map (little_bytes 4) words → slice_get words k ≡ Some word → IsWord word →
    load_of (start_memory image) (stack_top c + 4 * k) 4 ≡ word
words_placed image c comp words k word few found bytes at below =
    load_is (start_memory image) _ word below (λ j within.
    let byte : slice_get _ (4 * k + j) ≡ Some (byte_of word j) = rw bytes (word_byte words k j word within at) in
    let place : stack_top c + 4 * k + j ≡ stack_top c + (4 * k + j) = omega arith in
    ap (start_memory image) place ∙ globals_placed image c comp _ few found (slice_get_within _ _ _ byte) ∙ byte)

-- The addresses of a region.

any_in : (regions : List Region) (number address : ℕ) (region : Region) → slice_get regions number ≡ Some region →
    is_in region address ≡ true → list_any (λ r. is_in r address) regions ≡ true
any_in [] number address region at within = let none = at in cc none
any_in (first ∷ regions) zero address region at within =
    let same : first ≡ region = cc at in
    or_left (is_in first address) _ (subst (λ r. is_in r address ≡ true) (sym same) within)
any_in (first ∷ regions) (suc number) address region at within =
    or_right (is_in first address) _ (any_in regions number _ region at within)

within_region : (region : Region) (address : ℕ) → region.start ≤ address → address + 1 ≤ region.start + region.bytes →
    is_in region address ≡ true
within_region region address low high = and_from _ _ (le-leb _ _ low) (lt-ltb _ _ (omega (arith, high)))

owned : (image : ImageParts) (c number address size : ℕ) (region : Region) →
    slice_get (data_regions image c) number ≡ Some region → region.start ≤ address →
    address + size ≤ region.start + region.bytes → are_data image c address size ≡ true
unfolding are_data
owned image c number address zero region at low high = refl
owned image c number address (suc size) region at low high =
    and_from _ _ (owned image c number address size region at low (omega (arith, high)))
    (any_in (data_regions image c) number (address + size) region at
    (within_region region _ (omega (arith, low)) (omega (arith, high))))

pub image_in_memory : ImageInMemory
image_in_memory = record {
  code = code_placed;
  stack = stack_placed;
  globals = λ image c comp k formed found.
      globals_placed image c comp k (formed.comps c comp found).short_globals found;
  global_words = λ image c comp words k word formed found.
      words_placed image c comp words k word (formed.comps c comp found).short_globals found;
  zone = zone_placed;
  owned = owned;
  within = data_bounds;
}
