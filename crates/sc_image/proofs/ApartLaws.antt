-- What follows from runs that are apart: laws of their traces, of how they stop and of time, and what images are such
-- that their runs are apart.
use Rattle.sc_image.proofs.Common.{AgreeFor, Bool, CompPart, Ended, Entry, Event, EventsOut, Export, ExportPart}
use Rattle.sc_image.proofs.Common.{ImageParts, ImportPart, IsPrefix, List, MachineRun, MachineState, Main, None}
use Rattle.sc_image.proofs.Common.{Option, StepsOut, Stop, Trap, [], ap, append-nil, ap₂, arith, code_start}
use Rattle.sc_image.proofs.Common.{data_with, eq-eqb, false, has_result, if◌then◌else◌, inl, inr, is_in, length}
use Rattle.sc_image.proofs.Common.{list_any, map, nat_eq, nat_le, option_map_or, position, refl, run, slice_get}
use Rattle.sc_image.proofs.Common.{subst, suc, sym, true, zero, ℕ, ◌%◌, ◌&&◌, ◌++◌, ◌+◌, ◌-◌, ◌/◌, ◌==◌, ◌∙◌, ◌∷◌}
use Rattle.sc_image.proofs.Common.{◌≡◌, ◌≢◌, ◌≤◌, ◌⊎◌}
unfoldable use Rattle.sc_image.proofs.Common.{are_data, word_at}
use Rattle.sc_image.specs.Apart.{ActsNext, AgreeUpTo, AreApart, BeginOtherwise, GlobalsApart, GoOn}
use Rattle.sc_image.specs.Apart.{HaveParted, HaveStopped, ItsOutOfSteps, OnlySetDelays, OutOfSteps, PartAt}
use Rattle.sc_image.specs.Apart.{PartThere, SameAgree, SameBut, StopBoth, StopsApart, TracesApart, globals_in}
use Rattle.sc_image.specs.Apart.{image_with, next_outside, one_if_out, steps_outside}
use Rattle.sc_image.proofs.Stretches.{prefix_self}
use Rattle.sc_image.proofs.Enters.{words_of}
use Rattle.sc_image.proofs.ApartRuns.{runs_apart}

-- Runs that are apart.

module _ (set : ℕ → Bool) (one other : ImageParts) (run its_run : ℕ → MachineRun) (steps its_steps : ℕ)
    (h : AreApart set one other run its_run steps its_steps) where
  parted : PartAt set (run h.taken).state (its_run h.its_taken).state (run steps) (its_run its_steps) →
      HaveParted set (run steps) (its_run its_steps)
  parted part = record {
    state = (run h.taken).state;
    its = (its_run h.its_taken).state;
    trace = h.alike.trace;
    active = h.alike.active;
    part = part;
  }

-- The traces.

prefix_by : (first second others : List Event) → second ≡ others → IsPrefix first second → IsPrefix first others
prefix_by first second others same p = subst (IsPrefix first) same p

module _ (set : ℕ → Bool) (state its : MachineState) (trace its_trace : List Event) (same : state.trace ≡ its.trace)
    (active : state.active ≡ its.active) (member : set state.active ≡ true) where
  part_traces : (run its_run : MachineRun) (more its_more : List Event) → trace ≡ state.trace ++ more →
      its_trace ≡ its.trace ++ its_more → ActsNext state run more → ActsNext its its_run its_more →
      BeginOtherwise more its_more → AgreeUpTo set trace its_trace
  part_traces run its_run [] its_more is its_is acts its_acts apart = inl (record {
    more = its_more;
    is = its_is ∙ ap (λ t. t ++ its_more) (sym same ∙ sym (is ∙ append-nil state.trace));
  })
  part_traces run its_run (event ∷ more) [] is its_is acts its_acts apart = inr (inl (record {
    more = event ∷ more;
    is = is ∙ ap (λ t. t ++ event ∷ more) (same ∙ sym (its_is ∙ append-nil its.trace));
  }))
  part_traces run its_run (event ∷ more) (its_event ∷ its_more) is its_is acts its_acts apart = inr (inr (record {
    common = state.trace;
    event = event;
    later = more;
    its_event = its_event;
    its_later = its_more;
    is = is;
    its_is = its_is ∙ ap (λ t. t ++ its_event ∷ its_more) (sym same);
    member = ap set acts ∙ member;
    same = its_acts ∙ sym active ∙ sym acts;
    differ = apart;
  }))

module _ (set : ℕ → Bool) (one other : ImageParts) (run its_run : ℕ → MachineRun) (steps its_steps : ℕ)
    (h : AreApart set one other run its_run steps its_steps) where
  abbrev trace : List Event
  trace = (run steps).state.trace

  abbrev its_trace : List Event
  its_trace = (its_run its_steps).state.trace

  traces_by : GoOn set run its_run h.taken h.its_taken steps its_steps → AgreeUpTo set trace its_trace
  traces_by (StopBoth same) = inl (prefix_by trace trace its_trace
      (ap (λ s. s.trace) same.state_is ∙ h.alike.trace ∙ sym (ap (λ s. s.trace) same.its_state_is))
      (prefix_self trace))
  traces_by (PartThere part) = part_traces set (run h.taken).state (its_run h.its_taken).state trace its_trace
      h.alike.trace h.alike.active part.member (run steps) (its_run its_steps) part.more part.its_more part.trace
      part.its_trace part.acts part.its_acts part.apart
  traces_by (OutOfSteps is_out) =
      inl (subst (λ t. IsPrefix t its_trace) (sym h.alike.trace ∙ ap (λ k. (run k).state.trace) is_out.all)
      is_out.goes_on)
  traces_by (ItsOutOfSteps is_out) =
      inr (inl (subst (λ t. IsPrefix t trace) (h.alike.trace ∙ ap (λ k. (its_run k).state.trace) is_out.all)
      is_out.goes_on))

  -- Where neither run is out of steps.

  stops_by : (run steps).stop ≢ StepsOut → (its_run its_steps).stop ≢ StepsOut →
      GoOn set run its_run h.taken h.its_taken steps its_steps →
      HaveStopped (run steps) (its_run its_steps) ⊎ HaveParted set (run steps) (its_run its_steps)
  stops_by stops its_stops (StopBoth same) = inl (record {
    trace = ap (λ s. s.trace) same.state_is ∙ h.alike.trace ∙ sym (ap (λ s. s.trace) same.its_state_is);
    stop = same.stop;
  })
  stops_by stops its_stops (PartThere part) = inr (parted set one other run its_run steps its_steps h part)
  stops_by stops its_stops (OutOfSteps is_out) = absurd (stops is_out.out)
  stops_by stops its_stops (ItsOutOfSteps is_out) = absurd (its_stops is_out.out)

-- Time.

one_at_most : (stop : Stop) → one_if_out stop ≤ 1
one_at_most Ended = omega arith
one_at_most EventsOut = omega arith
one_at_most StepsOut = omega arith
one_at_most (Trap reason pc) = omega arith

counts_by : (inside : Bool) (stop : Stop) → (if inside then 0 else one_if_out stop) ≤ 1
counts_by true stop = omega arith
counts_by false stop = one_at_most stop

counts_one : (set : ℕ → Bool) (run : MachineRun) → next_outside set run ≤ 1
counts_one set run = counts_by (set run.state.active) run.stop

outside_within : (set : ℕ → Bool) (run : ℕ → MachineRun) (steps : ℕ) → steps_outside set run steps ≤ steps
outside_within set run zero = omega arith
outside_within set run (suc steps) =
    omega (arith, counts_one set (run 0), outside_within set (λ later. run (suc later)) steps)

module _ (set : ℕ → Bool) (one other : ImageParts) (run its_run : ℕ → MachineRun) (steps its_steps : ℕ)
    (h : AreApart set one other run its_run steps its_steps) where
  second_more : (run steps).stop ≢ StepsOut → (its_run its_steps).stop ≡ StepsOut →
      GoOn set run its_run h.taken h.its_taken steps its_steps →
      (steps_outside set its_run its_steps ≤ steps) ⊎ HaveParted set (run steps) (its_run its_steps)
  second_more stops its_out (StopBoth same) = absurd (stops (same.stop ∙ its_out))
  second_more stops its_out (PartThere part) = inr (parted set one other run its_run steps its_steps h part)
  second_more stops its_out (OutOfSteps is_out) = absurd (stops is_out.out)
  second_more stops its_out (ItsOutOfSteps is_out) =
      let same : steps_outside set run h.taken ≡ steps_outside set its_run its_steps =
      h.time ∙ ap (steps_outside set its_run) is_out.all in
      let few : steps_outside set run h.taken ≤ h.taken = outside_within set run h.taken in
      inl (omega (arith, same, few, h.within))

  first_more : (run steps).stop ≡ StepsOut → (its_run its_steps).stop ≢ StepsOut →
      GoOn set run its_run h.taken h.its_taken steps its_steps →
      (steps_outside set run steps ≤ its_steps) ⊎ HaveParted set (run steps) (its_run its_steps)
  first_more out its_stops (StopBoth same) = absurd (its_stops (sym same.stop ∙ out))
  first_more out its_stops (PartThere part) = inr (parted set one other run its_run steps its_steps h part)
  first_more out its_stops (OutOfSteps is_out) =
      let same : steps_outside set its_run h.its_taken ≡ steps_outside set run steps =
      sym h.time ∙ ap (steps_outside set run) is_out.all in
      let few : steps_outside set its_run h.its_taken ≤ h.its_taken = outside_within set its_run h.its_taken in
      inl (omega (arith, same, few, h.its_within))
  first_more out its_stops (ItsOutOfSteps is_out) = absurd (its_stops is_out.out)

pub traces_apart : TracesApart
traces_apart set one other inputs steps its_steps events formed formed' words agree =
    let h = runs_apart set one other inputs steps its_steps events formed formed' words agree in
    traces_by set one other _ _ steps its_steps h h.ends

pub stops_apart : StopsApart
stops_apart set one other inputs steps its_steps events formed formed' words agree stops its_stops =
    let h = runs_apart set one other inputs steps its_steps events formed formed' words agree in
    stops_by set one other _ _ steps its_steps h stops its_stops h.ends

pub only_set_delays : OnlySetDelays
only_set_delays set one other inputs steps its_steps events formed formed' words agree =
    let h = runs_apart set one other inputs steps its_steps events formed formed' words agree in
    record {
      second = λ stops its_out. second_more set one other _ _ steps its_steps h stops its_out h.ends;
      first = λ out its_stops. first_more set one other _ _ steps its_steps h out its_stops h.ends;
    }

-- Images that are the same outside a set.

-- what there is of a compartment, by what an image has at its number
abbrev code_of : Option CompPart → List ℕ
code_of found = option_map_or (λ comp. comp.code) found []

abbrev globals_of : Option CompPart → List ℕ
globals_of found = option_map_or (λ comp. comp.globals) found []

abbrev heap_of : Option CompPart → Bool
heap_of found = option_map_or (λ comp. comp.heap) found false

abbrev reads_of : Option CompPart → Bool
reads_of found = option_map_or (λ comp. comp.input) found false

abbrev writes_of : Option CompPart → Bool
writes_of found = option_map_or (λ comp. comp.output) found false

abbrev imports_of : Option CompPart → List ImportPart
imports_of found = option_map_or (λ comp. comp.imports) found []

-- the word of compartment c's code at an address, of this code
abbrev word_of_code : (c address : ℕ) → List ℕ → Option ℕ
word_of_code c address code =
    if nat_eq (address % 4) 0 && nat_le (code_start c) address then slice_get code ((address - code_start c) / 4) else
    None

abbrev owns_by : (c address : ℕ) → Option CompPart → Bool
owns_by c address found = list_any (λ region. is_in region address)
    (map (λ filled. filled.region) (data_with c (globals_of found) (heap_of found)))

abbrev calls_by : (to index : ℕ) → Option CompPart → Bool
calls_by to index found = list_any (λ import. import.comp == to && import.index == index) (imports_of found)

abbrev result_by : (index : ℕ) → List ExportPart → Bool
result_by index exports = option_map_or (λ export. export.result) (slice_get exports index) false

abbrev entered_by : (address : ℕ) → List ExportPart → Option ℕ
entered_by address exports = position (λ export. export.entry == address) exports

module _ (set : ℕ → Bool) (one other : ImageParts) (h : SameBut set one other) (c : ℕ) (out : set c ≡ false) where
  code_same : (address : ℕ) → word_at one c address ≡ word_at other c address
  unfolding word_at
  code_same address = ap (λ found. word_of_code c address (code_of found)) (h.comps c out)

  owned_same : (address size : ℕ) → are_data one c address size ≡ are_data other c address size
  unfolding are_data
  owned_same address zero = refl
  owned_same address (suc size) = ap₂ (λ low last. low && last) (owned_same address size)
      (ap (owns_by c (address + size)) (h.comps c out))

  result_same : (entry : Entry) → has_result one c entry ≡ has_result other c entry
  result_same Main = refl
  result_same (Export index) = ap (result_by index) (h.exports c)

  agree_for : AgreeFor c one other
  agree_for = record {
    code = code_same;
    owned = owned_same;
    reads = ap reads_of (h.comps c out);
    writes = ap writes_of (h.comps c out);
    imports = λ to index. ap (calls_by to index) (h.comps c out);
    results = result_same;
    entries = λ to address. ap (entered_by address) (h.exports to);
    params = λ to index may. ap (λ exports. words_of exports index) (h.exports to);
  }

pub same_agree : SameAgree
same_agree set one other h = record {
  count = h.count;
  main = h.main;
  entry = h.entry;
  others = agree_for set one other h;
  globals = λ c out. ap globals_of (h.comps c out);
}

-- One image with two contents of the globals of a compartment.

count_with : (c : ℕ) (globals : List ℕ) (comps : List CompPart) → length (globals_in c globals comps) ≡ length comps
count_with c globals [] = refl
count_with zero globals (comp ∷ comps) = refl
count_with (suc c) globals (comp ∷ comps) = ap suc (count_with c globals comps)

others_with : (c d : ℕ) (globals : List ℕ) (comps : List CompPart) → c ≢ d →
    slice_get (globals_in c globals comps) d ≡ slice_get comps d
others_with c d globals [] differ = refl
others_with zero zero globals (comp ∷ comps) differ = absurd (differ refl)
others_with zero (suc d) globals (comp ∷ comps) differ = refl
others_with (suc c) zero globals (comp ∷ comps) differ = refl
others_with (suc c) (suc d) globals (comp ∷ comps) differ =
    others_with c d globals comps (λ same. differ (ap suc same))

abbrev exports_of : Option CompPart → List ExportPart
exports_of found = option_map_or (λ comp. comp.exports) found []

exports_with : (c d : ℕ) (globals : List ℕ) (comps : List CompPart) →
    exports_of (slice_get (globals_in c globals comps) d) ≡ exports_of (slice_get comps d)
exports_with c d globals [] = refl
exports_with zero zero globals (comp ∷ comps) = refl
exports_with zero (suc d) globals (comp ∷ comps) = refl
exports_with (suc c) zero globals (comp ∷ comps) = refl
exports_with (suc c) (suc d) globals (comp ∷ comps) = exports_with c d globals comps

not_same : (c d : ℕ) → nat_eq c d ≡ false → c ≢ d
not_same c d out same = let never : true ≡ false = sym (eq-eqb c d same) ∙ out in cc never

same_with : (image : ImageParts) (c : ℕ) (globals its_globals : List ℕ) →
    SameBut (nat_eq c) (image_with image c globals) (image_with image c its_globals)
same_with image c globals its_globals = record {
  count = count_with c globals image.comps ∙ sym (count_with c its_globals image.comps);
  main = refl;
  entry = λ out. refl;
  comps = λ d out.
      let differ = not_same c d out in
      others_with c d globals image.comps differ ∙ sym (others_with c d its_globals image.comps differ);
  exports = λ d. exports_with c d globals image.comps ∙ sym (exports_with c d its_globals image.comps);
}

pub globals_apart : GlobalsApart
globals_apart image c globals its_globals inputs steps its_steps events formed formed' words =
    runs_apart (nat_eq c) (image_with image c globals) (image_with image c its_globals) inputs steps its_steps events
    formed formed' words (same_agree (nat_eq c) _ _ (same_with image c globals its_globals))
