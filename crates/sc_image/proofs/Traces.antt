-- The trace of a run is one that the image's interfaces allow, whatever the types of their scalars.
use Rattle.sc_image.proofs.Common.{All, AreNested, Bool, ByteMemory, Call, CompPart, Crossing, End, Ended, Entry, Event}
use Rattle.sc_image.proofs.Common.{EventsOut, Export, ExportPart, ImageParts, In, Int, IsSteadyState, IsWellFormed}
use Rattle.sc_image.proofs.Common.{IsWord, LegalByWords, List, MachineState, MachineTracesAreLegal, Main, None, Option}
use Rattle.sc_image.proofs.Common.{Out, Ret, Some, Span, [], a0, and_from, and_parts, ap, ap₂, arguments, arith, eq-eqb}
use Rattle.sc_image.proofs.Common.{export_params, exported_by, false, given_back, has_result, if◌then◌else◌}
use Rattle.sc_image.proofs.Common.{image_import, image_interface, image_interfaces, image_proto, inl, inr, is_end}
use Rattle.sc_image.proofs.Common.{is_ended, is_there, length, length-append, length-map, length-replicate, list_any}
use Rattle.sc_image.proofs.Common.{list_any-append, machine, map, may_call_export, may_input, may_output, on_return}
use Rattle.sc_image.proofs.Common.{option_and_then, option_map, option_map_or, or_right, refl}
use Rattle.sc_image.proofs.Common.{reg, run, slice_get, slice_get-map, start, step, stopped, subst, sym, true}
use Rattle.sc_image.proofs.Common.{true≢false, word_interface, word_interfaces, word_proto, ℕ, ◌&&◌, ◌++◌, ◌-◌, ◌<◌}
use Rattle.sc_image.proofs.Common.{◌==◌, ◌||◌, ◌∙◌, ◌∷◌, ◌≡◌, ◌⊎◌}
use Rattle.sc_base.proofs.Lists.{position_within}
use Rattle.sc_event.specs.Prelude.{Activation, Standing, at_start, awaits, comp_at, export_at, fits_result, imports}
use Rattle.sc_event.specs.Prelude.{is_allowed, is_function, is_input, is_legal_from, is_output, may_perform, may_return}
use Rattle.sc_event.specs.Prelude.{performer, resumed, stands_after, stands_after_all, takes}
use Rattle.sc_event.specs.declared.interface.Import.{Import}
use Rattle.sc_event.specs.declared.interface.Interfaces.{Interfaces}
use Rattle.sc_event.specs.declared.interface.Proto.{Proto}
use Rattle.sc_event.specs.declared.interface.Import.TheVariants.{Input, Output}
use Rattle.sc_event.specs.Lookup as lookup
use Rattle.sc_event.specs.Legal as law
use Rattle.sc_image.proofs.Cases.{AtNext, step_of}
use Rattle.sc_image.proofs.Words.{comp_found}
use Rattle.sc_image.proofs.Running.{run_keeps}
use Rattle.sc_image.proofs.Enters.{few_params, length-arguments}
use Rattle.sc_image.proofs.Reached.{steady_start, steady_step}
use Rattle.sc_event.specs.declared.interface.Interface.{Interface}
use Rattle.sc_event.specs.declared.interface.Scalar.{Scalar}

-- One more event.

legal_more : (interfaces : Interfaces) (at : Option Standing) (trace : List Event) (event : Event) (now : Standing) →
    is_legal_from interfaces at trace ≡ true → stands_after_all at trace ≡ Some now →
    is_allowed interfaces now event ≡ true → is_legal_from interfaces at (trace ++ event ∷ []) ≡ true
legal_more interfaces at [] event now legal stands allowed = rw stands (and_from _ true allowed refl)
legal_more interfaces None (first ∷ later) event now legal stands allowed = let never = legal in cc never
legal_more interfaces (Some at) (first ∷ later) event now legal stands allowed =
    let both = and_parts (is_allowed interfaces at first) _ legal in
    and_from _ _ both.0 (legal_more interfaces _ later event now both.1 stands allowed)

stands_more : (at : Option Standing) (trace : List Event) (event : Event) (now : Standing) →
    stands_after_all at trace ≡ Some now → stands_after_all at (trace ++ event ∷ []) ≡ stands_after now event
stands_more at [] event now stands = rw stands refl
stands_more None (first ∷ later) event now stands = let never = stands in cc never
stands_more (Some at) (first ∷ later) event now stands = stands_more _ later event now stands

-- the event at the end
last_of : {A : Type 0} (xs : List A) (x : A) → slice_get (xs ++ x ∷ []) (length (xs ++ x ∷ []) - 1) ≡ Some x
last_of xs x = let at : length (xs ++ x ∷ []) - 1 ≡ length xs = omega (arith, length-append xs (x ∷ [])) in
    rw at (by_length xs x)
  where
    by_length : {A : Type 0} (xs : List A) (x : A) → slice_get (xs ++ x ∷ []) (length xs) ≡ Some x
    by_length [] x = refl
    by_length (y ∷ xs) x = by_length xs x

pub ended_by : (trace : List Event) (event : Event) → is_ended (trace ++ event ∷ []) ≡ is_end event
ended_by trace event = ap (λ last. option_map_or is_end last false) (last_of trace event)

-- The interfaces of the image.

any_map : {A B : Type 0} (test : B → Bool) (f : A → B) (xs : List A) →
    list_any test (map f xs) ≡ list_any (λ x. test (f x)) xs
any_map test f [] = refl
any_map test f (x ∷ xs) = ap (λ later. test (f x) || later) (any_map test f xs)

any_after : {A : Type 0} (test : A → Bool) (xs ys : List A) → list_any test ys ≡ true → list_any test (xs ++ ys) ≡ true
any_after test xs ys some = list_any-append test xs ys ∙ or_right _ _ some

module _ (image : ImageParts) where
  abbrev said : Interfaces
  said = image_interfaces image

  comp_said : (c : ℕ) (comp : Option CompPart) → slice_get image.comps c ≡ comp →
      lookup.comp_at said c ≡ option_map image_interface comp
  comp_said c comp at = slice_get-map _ _ c ∙ ap (option_map _) at

  abbrev of_input : CompPart → List Import
  of_input comp = if comp.input then Input ∷ [] else []

  abbrev of_output : CompPart → List Import
  of_output comp = if comp.output then Output ∷ [] else []

  imports_said : (c : ℕ) (comp : CompPart) (is_it : Import → Bool) → slice_get image.comps c ≡ Some comp →
      imports said c is_it ≡ list_any is_it (of_input comp ++ (of_output comp ++ map image_import comp.imports))
  imports_said c comp is_it at =
      ap (λ found. list_any is_it (option_map_or (λ i. i.imports) found [])) (comp_said c _ at)

  input_said : (c : ℕ) → may_input image c ≡ true → imports said c is_input ≡ true
  input_said c may =
      let found = comp_found _ false (λ input. input ≡ true) (λ never. cc never) _ may in
      imports_said c found.0 _ found.1 ∙ rw found.2 refl

  output_said : (c : ℕ) → may_output image c ≡ true → imports said c is_output ≡ true
  output_said c may =
      let found = comp_found (λ comp. comp.output) false (λ output. output ≡ true) (λ never. cc never) _ may in
      imports_said c found.0 _ found.1 ∙ any_after is_output (of_input found.0)
      (of_output found.0 ++ map image_import found.0.imports) (rw found.2 refl)

  function_said : (c to index : ℕ) → may_call_export image c to index ≡ true → imports said c (is_function to index) ≡
      true
  function_said c to index may =
      let found = comp_found (λ comp. comp.imports) []
      (λ imports. list_any (λ import. import.comp == to && import.index == index) imports ≡ true)
      (λ never. cc never) _ may in
      let is_it = is_function to index in
      let others = map image_import found.0.imports in
      imports_said c found.0 is_it found.1 ∙ any_after is_it (of_input found.0) (of_output found.0 ++ others)
      (any_after is_it (of_output found.0) others (any_map is_it image_import found.0.imports ∙ found.2))

  -- an export of the image, as its interfaces say it
  record IsSaid (c index : ℕ) (export : ExportPart) : Type 0 where
    there : slice_get (exported_by image c) index ≡ Some export
    said_so : lookup.export_at said c index ≡ Some (image_proto export)

  said_at : (c index : ℕ) → index < length (exported_by image c) → (export : ExportPart) × IsSaid c index export
  said_at c index within =
      let there = is_there _ index within in
      let found = comp_found (λ comp. comp.exports) [] (λ exports. slice_get exports index ≡ Some there.0)
      (λ never. cc never) _ there.1 in (
        there.0,
        record {
          there = there.1;
          said_so = ap (λ found. option_and_then (λ i. slice_get i.exports index) found) (comp_said c _ found.1) ∙
              (slice_get-map image_proto found.0.exports index ∙ ap (option_map _) found.2);
        },
      )

-- Where a run stands, by its cross stack.

abbrev entry_of : List Crossing → Entry
entry_of [] = Main
entry_of (x ∷ xs) = x.entry

abbrev waiting_of : List Crossing → List Activation
waiting_of [] = []
waiting_of (x ∷ xs) = record { comp = x.caller; entry = entry_of xs } ∷ waiting_of xs

abbrev standing_of : MachineState → Standing
standing_of state = record {
  active = record { comp = state.active; entry = entry_of state.cross };
  waiting = waiting_of state.cross;
}

-- each open call is one of an export
abbrev IsOfExport : ImageParts → Crossing → Type 0
IsOfExport image x = (index : ℕ) × ((x.entry ≡ Export index) × (index < length (exported_by image x.callee)))

abbrev AreOfExports : ImageParts → List Crossing → Type 0
AreOfExports image [] = Unit {0}
AreOfExports image (x ∷ xs) = IsOfExport image x × AreOfExports image xs

-- the run goes on, and stands where its trace says
record IsTraced (image : ImageParts) (state : MachineState) : Type 0 where
  steady : IsSteadyState image state
  exports : AreOfExports image state.cross
  legal : law.legal (image_interfaces image) state.trace ≡ true
  stands : stands_after_all (at_start image.main) state.trace ≡ Some (standing_of state)

-- the run has ended
record IsOver (image : ImageParts) (state : MachineState) : Type 0 where
  legal : law.legal (image_interfaces image) state.trace ≡ true
  over : is_ended state.trace ≡ true

abbrev IsEmitted : ImageParts → MachineState → Type 0
IsEmitted image state = IsTraced image state ⊎ IsOver image state

module _ (image : ImageParts) (inputs : List ℕ) (formed : IsWellFormed image) (all : All IsWord inputs) (state :
    MachineState)
    (h : IsTraced image state) where
  -- a state after an event that is allowed, where the run goes on
  goes_on : (event : Event) (next : MachineState) → IsSteadyState image next → AreOfExports image next.cross →
      next.trace ≡ state.trace ++ event ∷ [] → is_allowed (image_interfaces image) (standing_of state) event ≡ true →
      stands_after (standing_of state) event ≡ Some (standing_of next) → IsEmitted image next
  goes_on event next steady exports trace allowed stands = inl (record {
    steady = steady;
    exports = exports;
    legal = ap (law.legal _) trace ∙ legal_more (image_interfaces image) (at_start _) state.trace event
        (standing_of state) h.legal h.stands allowed;
    stands = ap (stands_after_all _) trace ∙ (stands_more (at_start _) state.trace event _ h.stands ∙ stands);
  })

  silent : (regs : List ℕ) (pc : ℕ) (memory : ByteMemory) (zones : List (List Span)) →
      IsSteadyState image (record state { regs = regs; pc = pc; memory = memory; zones = zones }) →
      IsEmitted image (record state { regs = regs; pc = pc; memory = memory; zones = zones })
  silent regs pc memory zones steady =
      inl (record { steady = steady; exports = h.exports; legal = h.legal; stands = h.stands })

  fits_given : (result : Bool) → fits_result (if result then Some Int else None) (given_back result state) ≡ true
  fits_given true = refl
  fits_given false = refl

  emitted_return : (cross : List Crossing) → state.cross ≡ cross → IsSteadyState image (on_return image state cross) →
      IsEmitted image (on_return image state cross)
  emitted_return [] is steady =
      let event = End state.active (reg state a0) in
      let outermost = and_from (state.active == state.active) _ (eq-eqb _ _ refl)
      (ap (λ cross. law.is_outermost (waiting_of cross)) is) in
      inr (record {
        legal = legal_more (image_interfaces image) (at_start _) state.trace event
            (standing_of state) h.legal h.stands outermost;
        over = ended_by state.trace event;
      })
  emitted_return (x ∷ xs) is steady =
      let chain = subst (AreNested _ _) is h.steady.chain in
      let exports = subst (AreOfExports image) is h.exports in
      let index = exports.0.0 in
      let said = said_at image x.callee index exports.0.1.1 in
      let value = given_back (has_result image x.callee x.entry) state in
      let value_is = ap (λ entry. given_back (has_result image x.callee entry) state) exports.0.1.0 ∙
      ap (λ found. given_back (option_map_or (λ e. e.result) found false) state) said.1.there in
      let returns = ap (λ entry. may_return (image_interfaces image) x.callee entry value) exports.0.1.0 ∙
      (ap (λ found. option_map_or (λ p. fits_result p.result value) found false) said.1.said_so ∙
      (ap (fits_result (if said.0.result then Some Int else None)) value_is ∙ fits_given said.0.result)) in
      let here = subst (λ cross. may_return (image_interfaces image) state.active (entry_of cross) value ≡ true) (sym
      is)
      (subst (λ c. may_return (image_interfaces image) c x.entry value ≡ true) chain.0 returns) in
      let awaited = subst (λ cross. law.awaits (waiting_of cross) x.caller ≡ true) (sym is) (eq-eqb x.caller _ refl) in
      goes_on _ _ steady exports.1 refl (and_from (state.active == state.active) _ (eq-eqb _ _ refl)
      (and_from _ _ awaited here)) (ap (λ cross. resumed (waiting_of cross)) is)

  emitted_step : AtNext (IsEmitted image) (step image inputs state)
  emitted_step = step_of image inputs formed state
      (λ outcome. AtNext (IsSteadyState image) outcome → AtNext (IsEmitted image) outcome)
      (record {
        same = λ a owned. refl;
        zone = refl;
        traps = λ reason steady. tt;
        quiet = λ regs pc moves steady. silent regs pc _ _ steady;
        rezones = λ regs pc spans moves steady. silent regs pc _ _ steady;
        stores = λ op a word allowed steady. silent _ _ _ _ steady;
        calls = λ to index target at may steady.
            let said = said_at image to index (position_within (λ export. export.entry == target)
            (exported_by image to) index at) in
            let args = arguments (export_params image to index) state.regs in
            let params_is : export_params image to index ≡ said.0.params =
            ap (λ (found : Option ExportPart). option_map_or (λ e. e.params) found 0) said.1.there in
            let count : length args ≡ said.0.params =
            length-arguments _ state.regs (few_params image to index formed) h.steady.regs ∙ params_is in
            let taken : takes (image_interfaces image) to index _ ≡ true = ap (λ found. option_map_or (λ (p : Proto).
            length p.params == length args) found false) said.1.said_so ∙ eq-eqb (length _) (length args)
            (length-replicate said.0.params Int ∙ sym count) in
            goes_on (Call _ to index args) _ steady (
              (index, (refl, position_within (λ export. _ == target) (exported_by image to) index at)),
              h.exports,
            ) refl (and_from (state.active == state.active) _ (eq-eqb _ _ refl) (and_from _ _
            (function_said image _ to index may) taken)) refl;
        returns = λ steady. emitted_return state.cross refl steady;
        outputs = λ may steady. goes_on _ _ steady h.exports refl
            (and_from (state.active == state.active) _ (eq-eqb state.active _ refl) (output_said image _ may)) refl;
        reads = λ may steady. goes_on (In state.active _) _ steady h.exports refl
            (and_from (state.active == state.active) _ (eq-eqb _ _ refl) (input_said image state.active may)) refl;
      }) (steady_step image inputs formed all state h.steady)

-- Runs.

module _ (image : ImageParts) (events : ℕ) where
  -- a run that has ended stops
  not_over : (ended full : Bool) → (if ended then Some Ended else if full then Some EventsOut else None) ≡ None →
      ended ≡ false
  not_over false full is = refl
  not_over true full is = let never = is in cc never

  goes : (state : MachineState) → IsEmitted image state → stopped events state.trace ≡ None → IsTraced image state
  unfolding stopped
  goes state (inl traced) is = traced
  goes state (inr over) is = absurd (true≢false (sym over.over ∙ not_over _ _ is))

emitted_run : (image : ImageParts) (inputs : List ℕ) → IsWellFormed image → All IsWord inputs → (events steps : ℕ)
    (state : MachineState) → IsEmitted image state → IsEmitted image (run image inputs events steps state).state
emitted_run image inputs formed all events = run_keeps image inputs events (IsEmitted image)
    (λ state h early. emitted_step image inputs formed all state (goes image events state h early))

emitted_start : (image : ImageParts) → IsWellFormed image → IsEmitted image (start image)
emitted_start image formed = inl
    (record { steady = steady_start image formed; exports = tt; legal = refl; stands = refl })

emitted_legal : (image : ImageParts) (state : MachineState) → IsEmitted image state →
    law.legal (image_interfaces image) state.trace ≡ true
emitted_legal image state (inl traced) = traced.legal
emitted_legal image state (inr over) = over.legal

pub all_traces_legal : MachineTracesAreLegal
all_traces_legal image inputs steps events formed all = emitted_legal image (machine image inputs steps events).state
    (emitted_run image inputs formed all events steps _ (emitted_start image formed))

-- Legal traces don't depend on the types of scalars.

or_of_map : {A B C : Type 0} (f : A → B) (g : B → C) (h : A → C) (default : C) → ((x : A) → g (f x) ≡ h x) →
    (found : Option A) → option_map_or g (option_map f found) default ≡ option_map_or h found default
or_of_map f g h default same None = refl
or_of_map f g h default same (Some x) = same x

module _ (interfaces : Interfaces) where
  same_comp : (comp : ℕ) →
      comp_at (word_interfaces interfaces) comp ≡ option_map word_interface (comp_at interfaces comp)
  same_comp comp = slice_get-map _ _ comp

  same_imports : (comp : ℕ) (is_it : Import → Bool) →
      imports (word_interfaces interfaces) comp is_it ≡ imports interfaces comp is_it
  same_imports comp is_it = ap (λ found. list_any is_it (option_map_or (λ i. i.imports) found [])) (same_comp comp) ∙
      ap (list_any is_it) (or_of_map word_interface _ (λ i. i.imports) [] (λ i. refl) (comp_at interfaces comp))

  export_by : (index : ℕ) (found : Option Interface) →
      option_and_then (λ (i : Interface). slice_get i.exports index) (option_map word_interface found) ≡
      option_map word_proto (option_and_then (λ (i : Interface). slice_get i.exports index) found)
  export_by index None = refl
  export_by index (Some i) = slice_get-map _ _ index

  same_export : (comp index : ℕ) →
      export_at (word_interfaces interfaces) comp index ≡ option_map word_proto (export_at interfaces comp index)
  same_export comp index =
      ap (λ found. option_and_then (λ i. slice_get i.exports index) found) (same_comp comp) ∙ export_by index _

  same_takes : (comp index count : ℕ) →
      takes (word_interfaces interfaces) comp index count ≡ takes interfaces comp index count
  same_takes comp index count = ap (λ found. option_map_or (λ p. length p.params == count) found false)
      (same_export comp index) ∙ or_of_map word_proto (λ p. length p.params == count) (λ p. length p.params == count)
      false (λ p. ap (λ n. n == count) (length-map p.params _)) _

  fits_by : (result : Option Scalar) (value : Option ℕ) →
      fits_result (option_map (λ r. Int) result) value ≡ fits_result result value
  fits_by None value = refl
  fits_by (Some type) None = refl
  fits_by (Some type) (Some word) = refl

  same_return : (comp : ℕ) (entry : Entry) (value : Option ℕ) →
      may_return (word_interfaces interfaces) comp entry value ≡ may_return interfaces comp entry value
  same_return comp Main value = refl
  same_return comp (Export index) value = ap (λ found. option_map_or (λ p. fits_result p.result value) found false)
      (same_export comp index) ∙ or_of_map word_proto (λ p. fits_result p.result value)
      (λ p. fits_result p.result value) false (λ p. fits_by p.result value) _

  -- events

  same_event : (at : Standing) (event : Event) →
      may_perform (word_interfaces interfaces) at event ≡ may_perform interfaces at event
  same_event at (Call from to index args) = ap₂ (λ x y. x && y) (same_imports from _) (same_takes to index _)
  same_event at (Ret from to value) = ap (λ x. awaits at.waiting to && x) (same_return from _ value)
  same_event at (Out comp value) = same_imports comp _
  same_event at (In comp value) = same_imports comp _
  same_event at (End comp value) = refl

  same_from : (at : Option Standing) (trace : List Event) →
      is_legal_from (word_interfaces interfaces) at trace ≡ is_legal_from interfaces at trace
  same_from at [] = refl
  same_from None (event ∷ later) = refl
  same_from (Some at) (event ∷ later) = ap₂ (λ x y. (performer event == at.active.comp && x) && y) (same_event at event)
      (same_from (stands_after at event) later)

pub legal_by_words : LegalByWords
legal_by_words interfaces trace = same_from interfaces _ trace
