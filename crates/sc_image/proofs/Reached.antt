-- What holds of every state that a run reaches.
use Rattle.sc_image.proofs.Common.{All, All-cons, All-head, All-nil, All-tail, AreNested, Bool, ByteMemory, Call}
use Rattle.sc_image.proofs.Common.{CompPart, Crossing, End, Event, Export, HoldsBytes, ImageParts, ImportPart, In}
use Rattle.sc_image.proofs.Common.{IsImport, IsReached, IsSteadyState, IsWellFormed, IsWord, KeepsWords, List}
use Rattle.sc_image.proofs.Common.{MachineState, None, Option, Out, Ret, RunsAreSteady, Some, Span, [], a0, after_step}
use Rattle.sc_image.proofs.Common.{ap, arith, call_of, count_read, entered_export, eqb-true, export_params, false, gate}
use Rattle.sc_image.proofs.Common.{get_or_from_slice_get, given_back, has_result, input_at, inputs_in, is_argument}
use Rattle.sc_image.proofs.Common.{is_result, kept, kept_from, length, length-map, length-set, list_any, map}
use Rattle.sc_image.proofs.Common.{may_call_export, on_call, on_input, on_return, open_after, open_calls, position, ra}
use Rattle.sc_image.proofs.Common.{refl, replicate, saved_sp, slice_get, slice_get_within, slice_index, sp, stack_tops}
use Rattle.sc_image.proofs.Common.{start, step, store_size, subst, suc, sym, true, unwrap_or, without_latest, word_at}
use Rattle.sc_image.proofs.Common.{written, zero, ℕ, ◌&&◌, ◌++◌, ◌+◌, ◌<◌, ◌==◌, ◌||◌, ◌∙◌, ◌∷◌, ◌≡◌, ◌≢◌, ◌≤◌}
use Rattle.std.proofs.lemmas.List.Sums.{fold-append}
use Rattle.sc_image.proofs.Words.{AreWords, set_words, written_words, written_zero, kept_words, kept_zero, in_code}
use Rattle.sc_image.proofs.Words.{code_address, comp_found, entry_address}
use Rattle.sc_image.proofs.Memory.{stored_bytes, start_bytes}
use Rattle.sc_image.proofs.Running.{step_nowhere, after_keeps, run_keeps}
use Rattle.sc_image.proofs.Cases.{AtNext, Moves, length-written, step_of}

-- One more event.

open_more : (trace : List Event) (event : Event) → open_calls (trace ++ event ∷ []) ≡
    open_after (open_calls trace) event
open_more trace event = fold-append _ [] trace _

read_more : (trace : List Event) (event : Event) → inputs_in (trace ++ event ∷ []) ≡ count_read (inputs_in trace) event
read_more trace event = fold-append _ 0 trace _

pub length-kept : (keeps : ℕ → Bool) (r : ℕ) (regs : List ℕ) → length (kept_from keeps r regs) ≡ length regs
length-kept keeps r [] = refl
length-kept keeps r (word ∷ words) = ap suc (length-kept keeps _ words)

-- as many stacks as compartments
pub length-stack_tops : (c : ℕ) (comps : List CompPart) → length (stack_tops c comps) ≡ length comps
length-stack_tops c [] = refl
length-stack_tops c (comp ∷ comps) = ap suc (length-stack_tops _ comps)

-- A call goes to another compartment of the image.

pub called_there : (image : ImageParts) (to target index : ℕ) → entered_export image to target ≡ Some index →
    to < length image.comps
called_there image to target index at =
    let found = comp_found (λ comp. _) []
    (λ exports. position (λ export. export.entry == target) exports ≡ Some index) (λ none. cc none) _ at in
    slice_get_within _ to found.0 found.1

to_own_by : (image : ImageParts) (c to index : ℕ) (import : ImportPart) (rest : Bool) → import.comp ≢ c →
    (rest ≡ true → c ≢ to) →
    (this : Bool) → (import.comp == to) ≡ this → (this && import.index == index || rest) ≡ true → c ≢ to
to_own_by image c to index import rest other later true is some = λ same. other (eqb-true _ to is ∙ sym same)
to_own_by image c to index import rest other later false is some = later some

none_to_own : (image : ImageParts) (c to index : ℕ) (imports : List ImportPart) → All (IsImport image c) imports →
    list_any (λ import. import.comp == to && import.index == index) imports ≡ true → c ≢ to
none_to_own image c to index [] all some = λ same. let never = some in cc never
none_to_own image c to index (import ∷ imports) all some =
    to_own_by image c to index import (list_any _ imports) (All-head (IsImport image c) import imports all).other
    (none_to_own image c to index imports (All-tail (IsImport image c) import _ all)) _ refl some

pub called_other : (image : ImageParts) (c to index : ℕ) → IsWellFormed image → may_call_export image c to index ≡ true
    →
    c ≢ to
called_other image c to index formed may =
    let found = comp_found (λ comp. _) []
    (λ imports. list_any (λ import. import.comp == to && import.index == index) imports ≡ true) (λ none. cc none)
    _ may in
    none_to_own image c to index _ (formed.comps c found.0 found.1).imports found.2

-- One more step.

-- an input is a word
input_by : (inputs : List ℕ) (k : ℕ) → All IsWord inputs → (found : Option ℕ) → slice_get inputs k ≡ found →
    IsWord (unwrap_or found 0)
input_by inputs k all None is = omega arith
input_by inputs k all (Some word) is =
    subst IsWord (get_or_from_slice_get inputs k word word is) (all k word (slice_get_within inputs k word is))

input_word : (inputs : List ℕ) (k : ℕ) → All IsWord inputs → IsWord (input_at inputs k)
input_word inputs k all = input_by inputs k all _ refl

-- other blocks in the zones
rezoned : (image : ImageParts) (state : MachineState) (zones : List (List Span)) →
    length zones ≡ length image.comps → IsSteadyState image state → IsSteadyState image (record state { zones = zones })
rezoned image state zones count h = record {
  regs = h.regs;
  words = h.words;
  zero = h.zero;
  pc = h.pc;
  active = h.active;
  saved = h.saved;
  saved_words = h.saved_words;
  zones = count;
  bytes = h.bytes;
  chain = h.chain;
  kept = h.kept;
  calls = h.calls;
  input = h.input;
}

module _ (image : ImageParts) (inputs : List ℕ) (formed : IsWellFormed image) (all : All IsWord inputs) (state :
    MachineState)
    (h : IsSteadyState image state) where
  -- the events that open or close no call, and the one input
  same_calls : (event : Event) → open_after (open_calls state.trace) event ≡ open_calls state.trace →
      map call_of state.cross ≡ open_calls (state.trace ++ event ∷ [])
  same_calls event same = h.calls ∙ sym (open_more state.trace event ∙ same)

  same_input : (event : Event) → count_read (inputs_in state.trace) event ≡ inputs_in state.trace →
      state.input ≡ inputs_in (state.trace ++ event ∷ [])
  same_input event same = h.input ∙ sym (read_more state.trace event ∙ same)

  -- the same calls, with the registers, the pc, the inputs, the bytes and the events that a step leads to
  steady_on : (regs : List ℕ) (pc place : ℕ) (memory : ByteMemory) (trace : List Event) → length regs ≡ 32 →
      AreWords regs → slice_index regs 0 ≡ 0 → IsWord pc → HoldsBytes memory →
      map call_of state.cross ≡ open_calls trace → place ≡ inputs_in trace →
      IsSteadyState image (record state { regs = regs; pc = pc; memory = memory; input = place; trace = trace })
  steady_on regs pc place memory trace count words stays here bytes calls on_input = record {
    regs = count;
    words = words;
    zero = stays;
    pc = here;
    active = h.active;
    saved = h.saved;
    saved_words = h.saved_words;
    zones = h.zones;
    bytes = bytes;
    chain = h.chain;
    kept = h.kept;
    calls = calls;
    input = on_input;
  }

  steady_return : (cross : List Crossing) → state.cross ≡ cross → IsSteadyState image (on_return image state cross)
  steady_return [] is =
      steady_on _ _ _ _ _ h.regs h.words h.zero h.pc h.bytes (same_calls (End _ _) refl) (same_input (End _ _) refl)
  steady_return (x ∷ xs) is =
      let chain : AreNested (length image.comps) state.active (x ∷ xs) =
      subst (AreNested (length image.comps) state.active) is h.chain in
      let keeps : All KeepsWords (x ∷ xs) = subst (All KeepsWords) is h.kept in
      let first : KeepsWords x = All-head KeepsWords x xs keeps in
      let result = has_result image x.callee x.entry in
      let event : Event = Ret state.active x.caller (given_back result state) in
      let calls : map call_of (x ∷ xs) ≡ open_calls state.trace =
      subst (λ cross. map call_of cross ≡ open_calls state.trace) is h.calls in
      record {
        regs = length-written (kept (is_result result) state.regs) sp x.sp ∙
            length-kept (is_result result) 0 state.regs ∙ h.regs;
        words = written_words (kept (is_result result) state.regs) sp x.sp
            (kept_words (is_result result) 0 state.regs h.words) first.sp;
        zero = written_zero (kept (is_result result) state.regs) sp x.sp
            (kept_zero (is_result result) 0 state.regs h.zero);
        pc = first.pc;
        active = chain.2;
        saved = length-set state.saved state.active x.saved ∙ h.saved;
        saved_words = set_words state.saved state.active x.saved h.saved_words first.saved;
        zones = h.zones;
        bytes = h.bytes;
        chain = chain.3;
        kept = All-tail KeepsWords x xs keeps;
        calls = ap without_latest calls ∙ sym (open_more state.trace event);
        input = same_input event refl;
      }

  module _ (here : IsWord (state.pc + 4)) where
    steady_call : (to index target : ℕ) → entered_export image to target ≡ Some index →
        may_call_export image state.active to index ≡ true →
        IsSteadyState image (on_call state to index (export_params image to index) target)
    steady_call to index target at may =
        let event = Call _ to index _ in
        let keeps = is_argument _ in
        let cleared = kept keeps _ in
        record {
          regs = length-written _ sp _ ∙ length-written cleared ra gate ∙ length-kept keeps 0 _ ∙ h.regs;
          words = written_words _ sp _
              (written_words cleared ra gate (kept_words keeps 0 _ h.words) (omega arith)) (h.saved_words to);
          zero = written_zero (written cleared ra gate) sp (saved_sp state to)
              (written_zero cleared ra gate (kept_zero keeps 0 _ h.zero));
          pc = entry_address image formed to target index at;
          active = called_there image to target index at;
          saved = length-set _ _ _ ∙ h.saved;
          saved_words = set_words _ _ _ h.saved_words (h.words sp);
          zones = h.zones;
          bytes = h.bytes;
          chain = (refl, called_other image _ to index formed may, h.active, h.chain);
          kept = All-cons KeepsWords _ _ (record { pc = here; sp = h.words sp; saved = h.saved_words to }) h.kept;
          calls = ap (λ calls. record { caller = state.active; callee = to; entry = Export index } ∷ calls) h.calls ∙
              sym (open_more state.trace event);
          input = same_input event refl;
        }

    moved : (regs : List ℕ) (pc : ℕ) → Moves image inputs inputs formed state state regs pc →
        IsSteadyState image (record state { regs = regs; pc = pc })
    moved regs pc moves = steady_on regs pc _ _ _ (moves.count ∙ h.regs) (moves.words here h.words h.bytes)
        (moves.zero h.zero) (moves.goes here) h.bytes h.calls h.input

    steady_next : AtNext (IsSteadyState image) (step image inputs state)
    steady_next = step_of image inputs formed state (AtNext (IsSteadyState image)) (record {
      same = λ a owned. refl;
      zone = refl;
      traps = λ reason. tt;
      quiet = λ regs pc moves. moved regs pc moves;
      rezones = λ regs pc spans moves. rezoned image _ _ (length-set state.zones state.active spans ∙ h.zones)
          (moved regs pc moves);
      stores = λ op a word allowed. steady_on _ _ _ _ _ h.regs h.words h.zero here
          (stored_bytes image formed state.active a (store_size op) word state.memory h.active allowed h.bytes)
          h.calls h.input;
      calls = steady_call;
      returns = steady_return state.cross refl;
      outputs = λ may. steady_on _ _ _ _ _ h.regs h.words h.zero here h.bytes (same_calls (Out _ _) refl)
          (same_input (Out _ _) refl);
      reads = λ may.
          let word = input_at inputs state.input in
          steady_on _ _ _ _ _ (length-written _ a0 word ∙ h.regs)
          (written_words _ a0 word h.words (input_word inputs state.input all)) (written_zero state.regs a0 word h.zero)
          here h.bytes (same_calls (In _ _) refl) (ap suc h.input ∙ sym (read_more state.trace (In _ _)));
    })

  by_fetch : (word : Option ℕ) → word_at image state.active state.pc ≡ word →
      AtNext (IsSteadyState image) (step image inputs state)
  by_fetch None at = subst (AtNext (IsSteadyState image)) (sym (step_nowhere image inputs state at)) tt
  by_fetch (Some word) at = steady_next (in_code image formed _ _ word at).next

  pub steady_step : AtNext (IsSteadyState image) (step image inputs state)
  steady_step = by_fetch _ refl

-- The start.

stack_tops_words : (c : ℕ) (comps : List CompPart) → c + length comps ≤ 32 → AreWords (stack_tops c comps)
stack_tops_words c [] few i = omega arith
stack_tops_words c (comp ∷ comps) few zero = omega (arith, few)
stack_tops_words c (comp ∷ comps) few (suc i) = stack_tops_words _ comps (omega (arith, few)) i

zeros_words : (n : ℕ) → AreWords (replicate n 0)
zeros_words zero i = omega arith
zeros_words (suc n) zero = omega arith
zeros_words (suc n) (suc i) = zeros_words n i

start_words : (top : ℕ) → IsWord top → AreWords (0 ∷ gate ∷ top ∷ replicate 29 0)
start_words top h zero = omega arith
start_words top h (suc zero) = omega arith
start_words top h (suc (suc zero)) = h
start_words top h (suc (suc (suc i))) = zeros_words 29 i

pub steady_start : (image : ImageParts) → IsWellFormed image → IsSteadyState image (start image)
steady_start image formed = record {
  regs = refl;
  words = start_words _ (omega (arith, formed.main, formed.few_comps));
  zero = refl;
  pc = code_address image formed image.main _ formed.entry;
  active = formed.main;
  saved = length-stack_tops 0 _;
  saved_words = stack_tops_words 0 _ (omega (arith, formed.few_comps));
  zones = length-map image.comps _;
  bytes = start_bytes image formed;
  chain = tt;
  kept = All-nil KeepsWords;
  calls = refl;
  input = refl;
}

pub reached_steady : (image : ImageParts) (inputs : List ℕ) (state : MachineState) → IsWellFormed image → All IsWord
    inputs →
    IsReached image inputs state → IsSteadyState image state
reached_steady image inputs state formed all reached =
    subst (IsSteadyState image) reached.1.1 (run_keeps image inputs _ (IsSteadyState image)
    (λ s h early. steady_step image inputs formed all s h) _ _ (steady_start image formed))

pub step_steady : (image : ImageParts) (inputs : List ℕ) (state : MachineState) → IsWellFormed image → All IsWord inputs
    →
    IsSteadyState image state → IsSteadyState image (after_step image inputs state)
step_steady image inputs state formed all h =
    after_keeps (IsSteadyState image) state (step image inputs state) h (steady_step image inputs formed all state h)

pub runs_are_steady : RunsAreSteady
runs_are_steady = record { first = steady_start; step = step_steady; reached = reached_steady }
