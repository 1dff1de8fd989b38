-- Three ways to run an image by which a compartment learns what belongs to another one, or may learn it. The laws of
-- runs or of steps refuse each of them.
use Rattle.std.proofs.Common.{Bool, List, None, Some, [], ap, arith, codes, eq-eqb, eqb-true, false, flat_map}
use Rattle.std.proofs.Common.{if◌then◌else◌, inl, inr, is_some}
use Rattle.std.proofs.Common.{length, nat_eq, refl, slice_get, slice_index, slice_index_or, slice_set, subst, suc, sym}
use Rattle.std.proofs.Common.{true, zero, ℕ, ◌++◌, ◌<◌, ◌^◌, ◌∙◌, ◌∷◌, ◌≡◌, ◌≢◌, ◌⊎◌}
use Rattle.std.proofs.lemmas.Bool.{false≢true}
use Rattle.std.proofs.lemmas.List.Elements.{All-from_recursion}
use Rattle.std.proofs.lemmas.Option.{none-some, same_Some}
use Rattle.std.specs.List.{AllByRecursion}
use Rattle.std.specs.Option.{option_map, option_map_or}
use Rattle.std.specs.Prelude.{drop}
unfoldable use Rattle.sc_base.specs.Prelude.{is_name}
use Rattle.sc_base.specs.Word.{IsWord}
use Rattle.sc_event.specs.Standing.{performer}
use Rattle.sc_image.specs.Common.{Event, Out}
use Rattle.sc_image.specs.declared.parts.CompPart.{CompPart}
use Rattle.sc_image.specs.declared.parts.ImageParts.{ImageParts}
use Rattle.sc_image.specs.Apart.{AgreeBut, AgreeUpTo, Execution, RunsApartBy, TracesApartBy}
use Rattle.sc_image.specs.Calls.{exported_by}
use Rattle.sc_image.specs.Cross.{on_call}
use Rattle.sc_image.specs.Isolation.{Adds, AddsOneBy, EntersByEventBy, FollowsFromOwnBy, IsIsolating, IsLoud, IsQuiet}
use Rattle.sc_image.specs.Isolation.{IsSilentBy, KeepsSteadyBy, LeavesDataBy, LeavesOthersBy, Point, Stepping}
use Rattle.sc_image.specs.Isolation.{activates, after_outcome, later_by, observation_of, own_at}
use Rattle.sc_image.specs.Layout.{initial_globals}
unfoldable use Rattle.sc_image.specs.Layout.{word_at}
use Rattle.sc_image.specs.AnyMachine.{run_with}
use Rattle.sc_image.specs.Machine.{run}
unfoldable use Rattle.sc_image.specs.Machine.{run_by, stopped}
use Rattle.sc_image.specs.Own.{Own, Running, data_of, kept_by, own}
use Rattle.sc_image.specs.State.{MachineState, reg, saved_sp, start, with_event, with_reg, zone_of}
use Rattle.sc_image.specs.Steady.{IsSteadyState}
use Rattle.sc_image.specs.Step.{Goes}
use Rattle.sc_image.specs.WellFormed.{IsComp, IsExport, IsImport, IsWellFormed}
use Rattle.sc_image.proofs.ApartLaws.{same_agree}
use Rattle.sc_image.proofs.BadMachines.{calling, calls, empty, gone_on, spoilt, steady, two}
use Rattle.sc_image.proofs.BadMachines as bad
use Rattle.sc_image.proofs.Cases.{length-written}
use Rattle.sc_image.proofs.Reached.{steady_start}
use Rattle.sc_image.proofs.Words.{written_words, written_zero}
use Rattle.std.proofs.Math.Seq.{drop-append_seam}
use Rattle.sc_image.proofs.Isolation.{idle_both}

-- The image: `M` and `N` call nobody, and `N` has one byte of globals, which only it may know.

abbrev main_part : CompPart
main_part = record {
  name = codes "M";
  input = false;
  output = false;
  heap = false;
  exports = [];
  imports = [];
  code = 19 ∷ [];
  globals = [];
}

abbrev other_part : (byte : ℕ) → CompPart
other_part byte = record {
  name = codes "N";
  input = false;
  output = false;
  heap = false;
  exports = [];
  imports = [];
  code = [];
  globals = byte ∷ [];
}

abbrev secret : (byte : ℕ) → ImageParts
secret byte = record { main = 0; entry = 16777216; comps = main_part ∷ other_part byte ∷ [] }

main_is : (byte : ℕ) → IsComp (secret byte) 0 main_part
unfolding is_name
main_is byte = record {
  name = refl;
  no_environment = λ same. (let l = ap length same in omega (arith, l));
  few_exports = omega arith;
  exports = All-from_recursion (IsExport (secret byte) 0) [] tt;
  export_names = λ i j d before within. absurd (omega (arith, within));
  export_entries = λ i j d before within. absurd (omega (arith, within));
  few_imports = omega arith;
  imports = All-from_recursion (IsImport (secret byte) 0) [] tt;
  distinct_imports = λ i j d before within. absurd (omega (arith, within));
  short_code = omega arith;
  words = All-from_recursion IsWord main_part.code (omega arith, tt);
  short_globals = omega arith;
  bytes = All-from_recursion (λ b. b < 2 ^ 8) [] tt;
}

other_is : (byte : ℕ) → byte < 256 → IsComp (secret byte) 1 (other_part byte)
unfolding is_name
other_is byte small = record {
  name = refl;
  no_environment = λ same. (let l = ap length same in omega (arith, l));
  few_exports = omega arith;
  exports = All-from_recursion (IsExport (secret byte) 1) [] tt;
  export_names = λ i j d before within. absurd (omega (arith, within));
  export_entries = λ i j d before within. absurd (omega (arith, within));
  few_imports = omega arith;
  imports = All-from_recursion (IsImport (secret byte) 1) [] tt;
  distinct_imports = λ i j d before within. absurd (omega (arith, within));
  short_code = omega arith;
  words = All-from_recursion IsWord [] tt;
  short_globals = omega arith;
  bytes = All-from_recursion (λ b. b < 2 ^ 8) (byte ∷ []) (omega (arith, small), tt);
}

main_there : (byte : ℕ) → is_some (word_at (secret byte) 0 16777216) ≡ true
unfolding word_at
main_there byte = refl

comps_are : (byte : ℕ) → byte < 256 → (c : ℕ) (comp : CompPart) → slice_get (secret byte).comps c ≡ Some comp →
    IsComp (secret byte) c comp
comps_are byte small zero comp got =
    subst (IsComp (secret byte) 0) (same_Some main_part comp got) (main_is byte)
comps_are byte small (suc zero) comp got =
    subst (IsComp (secret byte) 1) (same_Some (other_part byte) comp got) (other_is byte small)
comps_are byte small (suc (suc c)) comp got = absurd (none-some comp got)

names_differ : (i j : ℕ) (d : List ℕ) → i < j → j < 2 →
    slice_index_or (codes "M" ∷ codes "N" ∷ []) i d ≢ slice_index_or (codes "M" ∷ codes "N" ∷ []) j d
names_differ zero zero d before within = λ same. omega (arith, before)
names_differ zero (suc zero) d before within =
    λ same. (let first = ap (λ name. slice_index name 0) same in omega (arith, first))
names_differ zero (suc (suc j)) d before within = λ same. omega (arith, within)
names_differ (suc i) zero d before within = λ same. omega (arith, before)
names_differ (suc i) (suc zero) d before within = λ same. omega (arith, before)
names_differ (suc i) (suc (suc j)) d before within = λ same. omega (arith, within)

formed : (byte : ℕ) → byte < 256 → IsWellFormed (secret byte)
formed byte small = record {
  few_comps = omega arith;
  main = omega arith;
  entry = main_there byte;
  comps = comps_are byte small;
  names = names_differ;
}

-- Two such images agree outside of `N`.

same_comps : (c : ℕ) → nat_eq 1 c ≡ false → slice_get (secret 0).comps c ≡ slice_get (secret 1).comps c
same_comps zero out = refl
same_comps (suc zero) out = let never : false ≡ true = sym out in absurd (false≢true never)
same_comps (suc (suc c)) out = refl

same_exports : (c : ℕ) → exported_by (secret 0) c ≡ exported_by (secret 1) c
same_exports zero = refl
same_exports (suc zero) = refl
same_exports (suc (suc c)) = refl

agree : AgreeBut (nat_eq 1) (secret 0) (secret 1)
agree = same_agree (nat_eq 1) (secret 0) (secret 1) (record {
  count = refl;
  main = refl;
  entry = λ out. refl;
  comps = same_comps;
  exports = same_exports;
})

-- the first byte of the globals of `N`
abbrev first_global : ImageParts → ℕ
first_global image = slice_index (initial_globals image 1) 0

-- A machine that outputs 0 in a first step and makes x0 1, and that outputs the byte where x0 isn't 0. In a steady
-- state, where x0 is 0, it tells nothing. So laws that speak of steady states let it pass, unless one says that its
-- steps lead to steady states.

abbrev tells : Stepping
tells image inputs state =
    if nat_eq (reg state 0) 0
    then Goes (record (with_event state (Out state.active 0)) { regs = slice_set state.regs 0 1 })
    else Goes (with_event state (Out state.active (first_global image)))

pub leaves_steady : KeepsSteadyBy tells → ⊥
leaves_steady keeps =
    let small : 0 < 256 = omega arith in
    let h = keeps (secret 0) [] (start (secret 0)) (formed 0 small) (All-from_recursion IsWord [] tt)
    (steady_start (secret 0) (formed 0 small)) in
    let zero_is : ◌≡◌ {A = ℕ} 1 0 = h.zero in
    omega (arith, zero_is)

-- It meets all other laws of steps.

-- the state after a step from a steady one
abbrev told_once : MachineState → MachineState
told_once state = record (with_event state (Out state.active 0)) { regs = slice_set state.regs 0 1 }

tells_is : (image : ImageParts) (inputs : List ℕ) (state : MachineState) → IsSteadyState image state →
    tells image inputs state ≡ Goes (told_once state)
tells_is image inputs state h = ap (λ b. if b then Goes (told_once state) else
    Goes (with_event state (Out state.active (first_global image)))) (eq-eqb (reg state 0) 0 h.zero)

seen : (image : ImageParts) (inputs : List ℕ) (state : MachineState) → IsSteadyState image state →
    observation_of state (tells image inputs state) ≡ Adds (Out state.active 0 ∷ [])
seen image inputs state h =
    ap (observation_of state) (tells_is image inputs state h) ∙ ap Adds (drop-append_seam state.trace _)

tells_one : AddsOneBy tells
tells_one image inputs state next formed h goes =
    let same : Goes (told_once state) ≡ Goes next = sym (tells_is image inputs state h) ∙ goes in
    let is_next : told_once state ≡ next = cc same in
    subst (λ n. IsQuiet state n ⊎ IsLoud state n) is_next
    (inr (record { event = Out state.active 0; trace = refl; by = refl; active = refl }))

tells_leaves : LeavesOthersBy tells
tells_leaves image inputs state d formed h differ none =
    let other : state.active ≢ d = λ same. differ (sym same) in
    let idle = idle_both state.active state.active d (record { regs = slice_set state.regs 0 1; pc = state.pc })
    (record { regs = state.regs; pc = state.pc }) other other in
    let kept : own image (told_once state) d ≡ own image state d =
    λ i. record {
      bytes = data_of image d state.memory;
      zone = zone_of state d;
      saved = saved_sp state d;
      calls = flat_map (kept_by d) state.cross;
      running = idle i;
    } in
    ap (λ outcome. own image (after_outcome state outcome) d) (tells_is image inputs state h) ∙ kept

leaves_by : (image : ImageParts) (state : MachineState) (d : ℕ) (steady_zero : Bool) →
    data_of image d (after_outcome state (if steady_zero then Goes (told_once state) else
    Goes (with_event state (Out state.active (first_global image))))).memory ≡ data_of image d state.memory
leaves_by image state d true = refl
leaves_by image state d false = refl

tells_leaves_data : LeavesDataBy tells
tells_leaves_data image inputs state d formed differ = leaves_by image state d (nat_eq (reg state 0) 0)

tells_enters : EntersByEventBy tells
tells_enters d = (
  λ exports before event. before,
  λ image inputs state event formed h differ emits activating.
      let that : Adds (Out state.active 0 ∷ []) ≡ Adds (event ∷ []) = sym (seen image inputs state h) ∙ emits in
      let same : Out state.active 0 ≡ event = cc that in
      let never : false ≡ true = ap (activates d) same ∙ activating in
      absurd (false≢true never),
)

-- x0 of who runs, made 1
abbrev with_one : Running → Running
with_one running = record { regs = slice_set running.regs 0 1; pc = running.pc }

running_by : (active : Bool) (running : Running) → (if active then Some (with_one running) else None) ≡
    option_map with_one (if active then Some running else None)
running_by true running = refl
running_by false running = refl

not_silent : (point : Point) → IsSteadyState point.image point.state → IsSilentBy tells point.image point.inputs
    point.state → ⊥
not_silent point h silent =
    let never : Adds (Out point.state.active 0 ∷ []) ≡ Adds [] =
    sym (seen point.image point.inputs point.state h) ∙ silent in
    cc never

parts_later : (c : ℕ) (point : Point) → IsSteadyState point.image point.state →
    own_at (later_by tells 1 point) c ≡ own point.image (told_once point.state) c
parts_later c point h = ap (λ outcome. own point.image (after_outcome point.state outcome) c)
    (tells_is point.image point.inputs point.state h)

abbrev running_at : Point → Running
running_at point = record { regs = point.state.regs; pc = point.state.pc }

tells_follows : FollowsFromOwnBy tells
tells_follows c one other zero h =
    let parts = h.own_parts in
    let running = running_by (nat_eq one.state.active c) (running_at one) ∙
    ap (λ own_parts. option_map with_one own_parts.running) parts ∙
    sym (running_by (nat_eq other.state.active c) (running_at other)) in
    let later : own one.image (told_once one.state) c ≡ own other.image (told_once other.state) c =
    λ i. record {
      bytes = (parts i).bytes;
      zone = (parts i).zone;
      saved = (parts i).saved;
      calls = (parts i).calls;
      running = running i;
    } in (
      ((λ p. tt), (λ p. tt)),
      λ p. record {
        own_parts = parts;
        next = seen one.image one.inputs one.state h.one_runs.steady ∙
            ap (λ active. Adds (Out active 0 ∷ [])) (h.one_runs.active ∙ sym h.other_runs.active) ∙
            sym (seen other.image other.inputs other.state h.other_runs.steady);
        later_parts = parts_later c one h.one_runs.steady ∙ later ∙ sym (parts_later c other h.other_runs.steady);
      },
    )
tells_follows c one other (suc steps) h = (
  (
    (λ p. absurd (not_silent one h.one_runs.steady p.0)),
    (λ p. absurd (not_silent other h.other_runs.steady p.0)),
  ),
  λ p. absurd (not_silent one h.one_runs.steady p.0),
)

-- the laws of steps but for the one that steps keep steady states
pub record IsolatesWhileSteady (stepping : Stepping) : Type 0 where
  pub one_event : AddsOneBy stepping
  pub others : LeavesOthersBy stepping
  pub bytes : LeavesDataBy stepping
  pub follows : FollowsFromOwnBy stepping
  pub enters : EntersByEventBy stepping

pub tells_while_steady : IsolatesWhileSteady tells
tells_while_steady = record {
  one_event = tells_one;
  others = tells_leaves;
  bytes = tells_leaves_data;
  follows = tells_follows;
  enters = tells_enters;
}

-- Its runs tell the byte.

abbrev told : Execution
told image inputs steps events = run_with tells image inputs events steps (start image)

told_trace : (byte : ℕ) → (told (secret byte) [] 2 10).state.trace ≡ Out 0 0 ∷ Out 0 byte ∷ []
unfolding stopped
told_trace byte = refl

-- an event of a trace in which 0 performs every event
performed : (trace common later : List Event) (event : Event) → AllByRecursion (λ e. performer e ≡ 0) trace →
    trace ≡ common ++ event ∷ later → performer event ≡ 0
performed [] [] later event all is = let never = is in cc never
performed [] (x ∷ xs) later event all is = let never = is in cc never
performed (e ∷ es) [] later event all is =
    let same : e ≡ event = cc is in subst (λ x. performer x ≡ 0) same all.0
performed (e ∷ es) (x ∷ xs) later event all is = performed es xs later event all.1 (cc is)

abbrev first_trace : List Event
first_trace = Out 0 0 ∷ Out 0 0 ∷ []

abbrev second_trace : List Event
second_trace = Out 0 0 ∷ Out 0 1 ∷ []

disagree : AgreeUpTo (nat_eq 1) first_trace second_trace → ⊥
disagree (inl prefix) = let same : ◌≡◌ {A = ℕ} 1 0 = cc prefix.is in omega (arith, same)
disagree (inr (inl prefix)) = let same : ◌≡◌ {A = ℕ} 0 1 = cc prefix.is in omega (arith, same)
disagree (inr (inr differ)) =
    let by : performer differ.event ≡ 0 =
    performed first_trace differ.common differ.later differ.event (refl, (refl, tt)) differ.is in
    let member : 1 ≡ performer differ.event = eqb-true 1 _ differ.member in
    omega (arith, by, member)

pub tells_of_others : TracesApartBy told → ⊥
tells_of_others apart =
    let traces = apart (nat_eq 1) (secret 0) (secret 1) [] 2 2 10 (formed 0 (omega arith)) (formed 1 (omega arith))
    (All-from_recursion IsWord [] tt) agree in
    disagree (subst (λ t. AgreeUpTo (nat_eq 1) t second_trace) (told_trace 0)
    (subst (AgreeUpTo (nat_eq 1) (told (secret 0) [] 2 10).state.trace) (told_trace 1) traces))

-- The machine itself, from a start that has the byte in x5 of the main compartment. The start is a steady state, and
-- the steps are those of the machine, so that all laws of steps hold.

abbrev more_start : ImageParts → MachineState
more_start image = with_reg (start image) 5 (first_global image)

pub starts_steady : (byte : ℕ) → byte < 256 → IsSteadyState (secret byte) (more_start (secret byte))
starts_steady byte small =
    let h = steady_start (secret byte) (formed byte small) in
    record {
      regs = length-written (start (secret byte)).regs 5 byte ∙ h.regs;
      words = written_words (start (secret byte)).regs 5 byte h.words (omega (arith, small));
      zero = written_zero (start (secret byte)).regs 5 byte h.zero;
      pc = h.pc;
      active = h.active;
      saved = h.saved;
      saved_words = h.saved_words;
      zones = h.zones;
      bytes = h.bytes;
      chain = h.chain;
      kept = h.kept;
      calls = h.calls;
      input = h.input;
    }

abbrev from_more : Execution
from_more image inputs steps events = run image inputs events steps (more_start image)

first_state : (byte : ℕ) → (from_more (secret byte) [] 0 1).state ≡ more_start (secret byte)
unfolding run_by stopped
first_state byte = refl

abbrev fifth : Own → ℕ
fifth parts = option_map_or (λ running. slice_index running.regs 5) parts.running 0

fifth_is : (byte : ℕ) → fifth (own (secret byte) (from_more (secret byte) [] 0 1).state 0) ≡ byte
fifth_is byte = ap (λ state. fifth (own (secret byte) state 0)) (first_state byte)

pub starts_with_more : RunsApartBy from_more → ⊥
starts_with_more apart =
    let h = apart (nat_eq 1) (secret 0) (secret 1) [] 0 0 1 (formed 0 (omega arith)) (formed 1 (omega arith))
    (All-from_recursion IsWord [] tt) agree in
    let none : h.taken ≡ 0 = omega (arith, h.within) in
    let its_none : h.its_taken ≡ 0 = omega (arith, h.its_within) in
    let first = ap (λ k. fifth (own (secret 0) (from_more (secret 0) [] k 1).state 0)) none in
    let second = ap (λ k. fifth (own (secret 1) (from_more (secret 1) [] k 1).state 0)) its_none in
    let same : 0 ≡ 1 = sym (fifth_is 0) ∙ sym first ∙ ap fifth (h.alike.others 0 refl) ∙ second ∙ fifth_is 1 in
    omega (arith, same)

-- A machine whose calls and returns add an output first, and clear no register. Laws of who is entered by one event
-- don't speak of such a step.

abbrev adding : Stepping
adding = spoilt (λ image before after. if nat_eq after.active before.active then after else record after {
  regs = before.regs;
  trace = (before.trace ++ Out before.active 0 ∷ []) ++ drop (length before.trace) after.trace;
})

added : adding two [] (calling 0 empty) ≡ Goes (record (on_call (calling 0 empty) 1 0 0 17825792) {
  regs = (calling 0 empty).regs;
  trace = Out 0 0 ∷ (on_call (calling 0 empty) 1 0 0 17825792).trace;
})
added = ap (gone_on (λ next. if nat_eq next.active 0 then next else record next {
  regs = (calling 0 empty).regs;
  trace = Out 0 0 ∷ next.trace;
})) (calls 0 empty)

two_events : (next : MachineState) (first second : Event) → next.trace ≡ first ∷ second ∷ [] →
    IsQuiet (calling 0 empty) next ⊎ IsLoud (calling 0 empty) next → ⊥
two_events next first second is (inl quiet) = let never = sym is ∙ quiet.trace in cc never
two_events next first second is (inr loud) = let never = sym is ∙ loud.trace in cc never

pub adds_two : AddsOneBy adding → ⊥
adds_two one =
    two_events _ _ _ refl (one two [] (calling 0 empty) _ bad.formed
    (steady 16777220 17825792 0 [] (omega arith) (omega arith) (omega arith) refl refl) added)

-- None of them isolates.

pub record NoneIsApart : Type 0 where
  pub tells_more : IsIsolating tells → ⊥
  pub told_more : TracesApartBy told → ⊥
  pub starts_more : RunsApartBy from_more → ⊥
  pub adds_more : IsIsolating adding → ⊥

pub none_is_apart : NoneIsApart
none_is_apart = record {
  tells_more = λ isolates. leaves_steady isolates.steady;
  told_more = tells_of_others;
  starts_more = starts_with_more;
  adds_more = λ isolates. adds_two isolates.one_event;
}
