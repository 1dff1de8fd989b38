-- What belongs to a compartment that a call or a return makes active.
use Rattle.sc_image.proofs.Common.{Adds, AreNested, Bool, Call, Crossing, Entered, EntersByEvent, Event, ExportPart}
use Rattle.sc_image.proofs.Common.{Goes, ImageParts, In, IsSteadyState, IsWellFormed, Kept, List, MachineState, None}
use Rattle.sc_image.proofs.Common.{Option, Out, Outcome, Own, Ret, Some, Waits, [], a0, activates, after_outcome, ap}
use Rattle.sc_image.proofs.Common.{ap₂, arguments, arith, data_of, drop, drop-append_seam, entered_export, eq-eqb}
use Rattle.sc_image.proofs.Common.{eqb-true, export_params, exported_by, false, flat_map, gate, get_or, get_or-drop}
use Rattle.sc_image.proofs.Common.{get_or-set_other, get_or-take, get_or_from_slice_get, given_back, has_result}
use Rattle.sc_image.proofs.Common.{if◌then◌else◌, input_at, is_argument, is_result, is_some, kept, kept_by, kept_from}
use Rattle.sc_image.proofs.Common.{length, length-drop, length-take-le, nat_eq, nat_tests, ne_eqb, observation_of}
use Rattle.sc_image.proofs.Common.{on_call, on_return, on_return_to, option_map_or, own, position-Some, ra, refl, reg}
use Rattle.sc_image.proofs.Common.{saved_sp, slice_get, slice_get-get_or, slice_get_cases, slice_get_within, sp, subst}
use Rattle.sc_image.proofs.Common.{suc, sym, true, unwrap_or, written, zero, zone_of, ℕ, ⊎_elim, ◌++◌, ◌+◌, ◌-◌, ◌<◌}
use Rattle.sc_image.proofs.Common.{◌==◌, ◌∙◌, ◌∷◌, ◌≡◌, ◌≢◌, ◌≤◌}
use Rattle.sc_image.proofs.Events.{no_event, that_event}
use Rattle.sc_image.proofs.Cases.{crossing_to, step_of}
use Rattle.sc_image.proofs.Words.{comp_found, no_export}
use Rattle.sc_image.specs.Step.{step}

-- The words of `count` registers from r on, with 0 in each that isn't kept.
abbrev pub chosen : (keeps : ℕ → Bool) (word : ℕ → ℕ) (r count : ℕ) → List ℕ
chosen keeps word r zero = []
chosen keeps word r (suc count) = (if keeps r then word r else 0) ∷ chosen keeps word (suc r) count

if_same : (b : Bool) (x y : ℕ) → (b ≡ true → x ≡ y) → (if b then x else 0) ≡ (if b then y else 0)
if_same b x y h = grind arith

-- only the registers that are kept matter
kept_is : (keeps : ℕ → Bool) (word : ℕ → ℕ) (r : ℕ) (xs : List ℕ) →
    ((i : ℕ) → keeps (r + i) ≡ true → get_or xs i 0 ≡ word (r + i)) →
    kept_from keeps r xs ≡ chosen keeps word r (length xs)
kept_is keeps word r [] h = refl
kept_is keeps word r (x ∷ xs) h =
    let here : r + 0 ≡ r = omega arith in
    ap₂ (λ first later. first ∷ later) (if_same _ x _ (rw here at (h 0))) (kept_is keeps word (suc r) xs (λ i.
    let next : r + suc i ≡ suc r + i = omega arith in rw next at (h (suc i))))

all_kept : (keeps : ℕ → Bool) (word : ℕ → ℕ) (regs : List ℕ) → length regs ≡ 32 →
    ((i : ℕ) → keeps i ≡ true → get_or regs i 0 ≡ word i) → kept keeps regs ≡ chosen keeps word 0 32
all_kept keeps word regs same h = kept_is keeps word 0 regs (λ i. let here : 0 + i ≡ i = omega arith in rw here (h i)) ∙
    ap (chosen keeps word 0) same

-- the registers in a function that was called, by its arguments

pub length-arguments : (params : ℕ) (regs : List ℕ) → params ≤ 8 → length regs ≡ 32 →
    length (arguments params regs) ≡ params
length-arguments params regs few same = length-take-le params _ (omega (arith, length-drop 10 regs))

argument_is : (params i : ℕ) (regs : List ℕ) → is_argument params i ≡ true →
    get_or regs i 0 ≡ get_or (arguments params regs) (i - 10) 0
argument_is params i regs is =
    let place : (10 ≤ i) × (i < 10 + params) = (grind (arith, nat_tests), grind (arith, nat_tests)) in
    let at : 10 + (i - 10) ≡ i = omega arith in
    rw (get_or-take params (drop 10 regs) (i - 10) 0 (omega (arith, place)), get_or-drop, at) refl

abbrev pub regs_by : (params : ℕ) → List ℕ → List ℕ
regs_by params args = chosen (is_argument params) (λ r. get_or args (r - 10) 0) 0 32

arguments_same : (params : ℕ) (regs : List ℕ) → length regs ≡ 32 →
    kept (is_argument params) regs ≡ regs_by params (arguments params regs)
arguments_same params regs same = all_kept (is_argument params) _ regs same (λ i. argument_is params i regs)

-- the registers after a return

abbrev pub result_of : Option ℕ → List ℕ
result_of value = chosen (is_result (is_some value)) (λ r. unwrap_or value 0) 0 32

result_same : (result : Bool) (regs : List ℕ) → length regs ≡ 32 →
    kept (is_result result) regs ≡ result_of (if result then Some (get_or regs 10 0) else None)
result_same true regs same = all_kept (is_result true) _ regs same
    (λ i is. ap (λ k. get_or regs k 0) (eqb-true i 10 is))
result_same false regs same = all_kept (is_result false) (λ r. 0) regs same (λ i is. cc is)

-- The exports of a compartment.

pub few_params : (image : ImageParts) (d index : ℕ) → IsWellFormed image → export_params image d index ≤ 8
few_params image d index formed = ⊎_elim (λ at.
    let found = comp_found (λ comp. comp.exports) [] (λ exports. slice_get exports index ≡ Some at.0)
    (λ none. cc none) _ at.2 in
    let within = slice_get_within _ index at.0 found.2 in
    rw (at.2, ← get_or_from_slice_get _ index at.0 at.0 found.2)
    ((formed.comps d found.0 found.1).exports index at.0 within).params) (λ none. rw none.1 (omega arith))
    (slice_get_cases (exported_by image d) index).1

abbrev pub entry_of : List ExportPart → (index : ℕ) → ℕ
entry_of exports index = option_map_or (λ export. export.entry) (slice_get exports index) 0

abbrev pub words_of : List ExportPart → (index : ℕ) → ℕ
words_of exports index = option_map_or (λ export. export.params) (slice_get exports index) 0

pub entry_is : (image : ImageParts) (c target index : ℕ) → entered_export image c target ≡ Some index →
    entry_of (exported_by image c) index ≡ target
entry_is image c target index at =
    let first = position-Some (λ (export : ExportPart). export.entry == target)
    (exported_by image c) index no_export at in
    rw (slice_get-get_or (exported_by image c) index no_export first.0) (eqb-true _ _ first.1)

-- What is entered.

abbrev pub by_return : Own → Option ℕ → List Kept → Own
by_return before value (Waits pc sp_then ∷ rest) = record {
  bytes = before.bytes;
  zone = before.zone;
  saved = before.saved;
  calls = rest;
  running = Some (record { regs = written (result_of value) sp sp_then; pc = pc });
}
by_return before value _ = before

abbrev pub entered : List ExportPart → Own → Event → Own
entered exports before (Call from to index args) = record {
  bytes = before.bytes;
  zone = before.zone;
  saved = before.saved;
  calls = Entered before.saved ∷ before.calls;
  running =
      Some (record {
        regs = written (written (regs_by (words_of exports index) args) ra gate) sp before.saved;
        pc = entry_of exports index;
      });
}
entered exports before (Ret from to value) = by_return before value before.calls
entered exports before _ = before

-- the last event
last_same : (trace : List Event) (one other : Event) → trace ++ one ∷ [] ≡ trace ++ other ∷ [] → one ≡ other
last_same trace one other h =
    let same = sym (drop-append_seam trace _) ∙ ap (drop (length trace)) h ∙ drop-append_seam trace _ in
    cc same

module _ (image : ImageParts) (inputs : List ℕ) (state : MachineState) (d : ℕ) (formed : IsWellFormed image)
    (h : IsSteadyState image state) (differ : state.active ≢ d) where
  abbrev Enters : Outcome → Type 0
  Enters outcome = (after_outcome state outcome).active ≡ d → (event : Event) →
      (after_outcome state outcome).trace ≡ state.trace ++ event ∷ [] →
      own image (after_outcome state outcome) d ≡ entered (exported_by image d) (own image state d) event

  -- a call
  enters_call : (to index target : ℕ) → entered_export image to target ≡ Some index → to ≡ d →
      own image (on_call state to index (export_params image to index) target) d ≡
      entered (exported_by image d) (own image state d) (Call state.active to index (arguments (export_params image to
      index) state.regs))
  enters_call to index target at active =
      let kept_is : kept_by d (crossing_to state to index) ≡ Entered (saved_sp state d) ∷ [] =
      rw (ne_eqb state.active d differ, eq-eqb to d active) (ap (λ k. Entered (saved_sp state k) ∷ []) active) in
      let calls = ap (λ k. k ++ flat_map (kept_by d) state.cross) kept_is in
      let saved = get_or-set_other _ _ d _ 0 (λ same. differ (sym same)) in
      let regs : kept (is_argument (export_params image to index)) state.regs ≡
      regs_by (export_params image d index) (arguments (export_params image to index) state.regs) =
      arguments_same (export_params image to index) _ h.regs ∙
      ap (λ k. regs_by (export_params image k index) (arguments (export_params image to index) state.regs)) active in
      let entry = sym (entry_is image to target index at) ∙ ap (λ k. entry_of (exported_by image k) index) active in
      let runs : (if nat_eq to d then Some _ else None) ≡ Some _ =
      rw (eq-eqb to d active) (λ i. Some (record {
        regs = written (written (regs i) ra gate) sp (saved_sp state (active i));
        pc = entry i;
      })) in
      λ i. record {
        bytes = data_of image d state.memory;
        zone = zone_of state d;
        saved = saved i;
        calls = calls i;
        running = runs i;
      }

  -- a return
  enters_return : (cross : List Crossing) → state.cross ≡ cross → Enters (Goes (on_return image state cross))
  enters_return [] is = λ active event same. absurd (differ active)
  enters_return (x ∷ xs) is = λ active event same.
      let chain : AreNested (length _) _ (x ∷ xs) = subst (AreNested _ state.active) is h.chain in
      let callee : x.callee ≢ d = λ e. differ (sym chain.0 ∙ e) in
      let result = has_result image x.callee x.entry in
      let after = on_return_to result state x xs in
      let kept_is : kept_by d x ≡ Waits x.pc x.sp ∷ [] = rw (eq-eqb x.caller d active, ne_eqb x.callee d callee) refl in
      let calls = ap (flat_map (kept_by d)) is ∙ ap (λ k. k ++ flat_map (kept_by d) xs) kept_is in
      let saved = get_or-set_other state.saved state.active d x.saved 0 (λ e. differ (sym e)) in
      let regs : kept _ _ ≡ result_of _ = result_same result _ h.regs in
      let runs : (if nat_eq x.caller d then Some _ else None) ≡
      Some (record { regs = written (result_of (given_back result state)) sp x.sp; pc = x.pc }) =
      rw (eq-eqb x.caller d active) (λ i. Some (record { regs = written (regs i) sp x.sp; pc = x.pc })) in
      let is_event = last_same state.trace _ event same in
      let before = ap (by_return (own image state d) _) (sym calls) in
      let first : own image after d ≡ by_return (own image state d) _ (Waits x.pc x.sp ∷ flat_map _ xs) =
      λ i. record {
        bytes = data_of image d state.memory;
        zone = zone_of state d;
        saved = saved i;
        calls = flat_map (kept_by d) xs;
        running = runs i;
      } in
      subst (λ e. own image after d ≡ entered (exported_by image d) (own image state d) e) is_event (first ∙ before)

  pub step_enters : Enters (step image inputs state)
  step_enters = step_of image inputs formed state Enters (record {
    same = λ a owned. refl;
    zone = refl;
    traps = λ reason active event same. absurd (differ active);
    quiet = λ regs pc moves active event same. absurd (differ active);
    rezones = λ regs pc spans moves active event same. absurd (differ active);
    stores = λ op a word allowed active event same. absurd (differ active);
    calls = λ to index target at may active event same.
        subst (λ e. own image (on_call state to index (export_params image to index) target) d ≡
        entered (exported_by image d) (own image state d) e) (last_same state.trace (Call _ to index _) event same)
        (enters_call to index target at active);
    returns = enters_return state.cross refl;
    outputs = λ may active event same. absurd (differ active);
    reads = λ may active event same. absurd (differ active);
  })

-- Who is active after a step that emits this one event, a call of d or a return to it.

module _ (image : ImageParts) (inputs : List ℕ) (state : MachineState) (d : ℕ) (formed : IsWellFormed image) (event :
    Event)
    (activating : activates d event ≡ true) where
  abbrev Activated : Outcome → Type 0
  Activated outcome = observation_of state outcome ≡ Adds (event ∷ []) →
      ((after_outcome state outcome).active ≡ d) × ((after_outcome state outcome).trace ≡ state.trace ++ event ∷ [])

  activates_that : (one : Event) → one ≡ event → activates d one ≡ true
  activates_that one same = ap (activates d) same ∙ activating

  return_activates : (cross : List Crossing) → Activated (Goes (on_return image state cross))
  return_activates [] emits =
      let never = activates_that _ (that_event state.trace _ event emits) in cc never
  return_activates (x ∷ xs) emits =
      let one = Ret _ _ _ in
      let same = that_event state.trace one event emits in
      (eqb-true _ d (activates_that one same), ap (λ e. state.trace ++ e ∷ []) same)

  pub step_activates : Activated (step image inputs state)
  step_activates = step_of image inputs formed state Activated (record {
    same = λ a owned. refl;
    zone = refl;
    traps = λ reason emits. cc emits;
    quiet = λ regs pc moves emits. absurd (no_event state.trace event emits);
    rezones = λ regs pc spans moves emits. absurd (no_event state.trace event emits);
    stores = λ op a word allowed emits. absurd (no_event state.trace event emits);
    calls = λ to index target at may emits.
        let one : Event = Call state.active to index (arguments (export_params image to index) state.regs) in
        let same : one ≡ event = that_event state.trace one event emits in
        (eqb-true to d (activates_that one same), ap (λ e. state.trace ++ e ∷ []) same);
    returns = return_activates state.cross;
    outputs = λ may emits.
        let one : Event = Out state.active (reg state a0) in
        let never : false ≡ true = activates_that one (that_event state.trace one event emits) in cc never;
    reads = λ may emits.
        let one : Event = In state.active (input_at inputs state.input) in
        let never : false ≡ true = activates_that one (that_event state.trace one event emits) in cc never;
  })

pub enters_by_event : EntersByEvent
enters_by_event d = (
  entered,
  λ image inputs state event formed h differ emits activating.
      let after = step_activates image inputs state d formed event activating emits in
      step_enters image inputs state d formed h (λ e. differ (sym e)) after.0 event after.1,
)
