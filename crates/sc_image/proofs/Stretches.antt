-- Runs along stretches, the states that runs reach, and stretches that emit events.
use Rattle.sc_image.proofs.Common.{Bool, Crossing, Emits, EmittingComposes, Ended, Event, EventsOut, Goes, ImageParts}
use Rattle.sc_image.proofs.Common.{IsCall, IsPrefix, IsReached, IsWellFormed, List, MachineState, None, Option, Outcome}
use Rattle.sc_image.proofs.Common.{Some, StepsEmit, StepsOut, Stop, StretchesCompose, Traps, Walks, [], ap, append-nil}
use Rattle.sc_image.proofs.Common.{append_assoc, arith, code_start, comp_of_code, eq-eqb, export_params, false, gate}
use Rattle.sc_image.proofs.Common.{if◌then◌else◌, is_end, is_ended, is_some, jump, jump_outside, leaves, length}
use Rattle.sc_image.proofs.Common.{length-append, list_any, list_any-append, lt-leb, nat_tests, on_call, on_end}
use Rattle.sc_image.proofs.Common.{on_return, or_from, or_parts, ra, refl, run, run_by, start, step, stopped, stops_or}
use Rattle.sc_image.proofs.Common.{subst}
use Rattle.sc_image.proofs.Common.{suc, suc-add, sym, true, walk, word_at, zero, zero-add, ℕ, ◌%◌, ◌++◌, ◌+◌, ◌<◌, ◌∙◌}
use Rattle.sc_image.proofs.Common.{◌∷◌, ◌≡◌, ◌≢◌, ◌≤◌}
use Rattle.sc_image.proofs.Cases.{AtNext, step_of}
use Rattle.sc_image.proofs.Traces.{ended_by}
use Rattle.sc_image.proofs.Running.{run_stopped, run_out, run_goes, run_traps, run_keeps, first_step, walk_one}
use Rattle.sc_image.proofs.Running.{walk_together, steps_by_instruction}
use Rattle.sc_image.proofs.Words.{IsInCode, entry_code, in_code, some_is}
use Rattle.sc_image.proofs.Reached.{called_other}

-- A step adds events at the end of the trace.

pub prefix_self : (xs : List Event) → IsPrefix xs xs
prefix_self xs = record { more = []; is = sym (append-nil xs) }

pub prefix_on : (xs ys zs : List Event) → IsPrefix xs ys → IsPrefix ys zs → IsPrefix xs zs
prefix_on xs ys zs p q = record {
  more = p.more ++ q.more;
  is = q.is ∙ ap (λ t. t ++ q.more) p.is ∙ append_assoc xs p.more q.more;
}

prefix_short : (xs ys : List Event) → IsPrefix xs ys → length xs ≤ length ys
prefix_short xs ys p = omega (arith, length-append xs p.more, ap length p.is)

-- one event at most
abbrev AddsOne : List Event → MachineState → Type 0
AddsOne trace next = (rest : List Event) × (trace ++ rest ≡ next.trace) × (length rest ≤ 1)

one_more : (trace : List Event) (event : Event) →
    (rest : List Event) × (trace ++ rest ≡ trace ++ event ∷ []) × (length rest ≤ 1)
one_more trace event = (event ∷ [], refl, omega arith)

return_adds : (image : ImageParts) (state : MachineState) (cross : List Crossing) →
    AddsOne state.trace (on_return image state cross)
return_adds image state [] = one_more _ _
return_adds image state (x ∷ xs) = one_more _ _

step_adds : (image : ImageParts) (inputs : List ℕ) (state : MachineState) → IsWellFormed image →
    AtNext (AddsOne state.trace) (step image inputs state)
step_adds image inputs state formed = step_of image inputs formed state (AtNext (AddsOne state.trace)) (record {
  same = λ a owned. refl;
  zone = refl;
  traps = λ reason. tt;
  quiet = λ regs pc moves. ([], append-nil _, omega arith);
  rezones = λ regs pc spans moves. ([], append-nil _, omega arith);
  stores = λ op a word allowed. ([], append-nil _, omega arith);
  calls = λ to index target at may. one_more state.trace _;
  returns = return_adds image state state.cross;
  outputs = λ may. one_more state.trace _;
  reads = λ may. one_more state.trace _;
})

step_to : (image : ImageParts) (inputs : List ℕ) → IsWellFormed image → (state next : MachineState) →
    step image inputs state ≡ Goes next → AddsOne state.trace next
step_to image inputs formed state next goes = subst (AtNext _) goes (step_adds image inputs state formed)

pub goes_one : (image : ImageParts) (inputs : List ℕ) → IsWellFormed image → (state next : MachineState) →
    step image inputs state ≡ Goes next → length next.trace ≤ suc (length state.trace)
goes_one image inputs formed state next goes =
    let more = step_to image inputs formed state next goes in
    omega (arith, length-append state.trace more.0, ap length more.1, more.2)

-- what stops no run yet

not_ended : (trace : List Event) (on_end full : Bool) → is_ended trace ≡ on_end →
    (if on_end then Some Ended else if full then Some EventsOut else None) ≡ None → (on_end ≡ false) × (full ≡ false)
not_ended trace false false at is = (refl, refl)
not_ended trace false true at is = let never = is in cc never
not_ended trace true full at is = let never = is in cc never

pub goes_on : (events : ℕ) (trace : List Event) → stopped events trace ≡ None → is_ended trace ≡ false
unfolding stopped
goes_on events trace is = (not_ended trace _ _ refl is).0

pub has_room : (events : ℕ) (trace : List Event) → stopped events trace ≡ None → length trace < events
unfolding stopped
has_room events trace is = let room = (not_ended trace _ _ refl is).1 in grind (arith, nat_tests)

-- No end among some events, and so none among the first and the last of them.

pub none_in_both : (first second : List Event) → list_any is_end first ≡ false → list_any is_end second ≡ false →
    list_any is_end (first ++ second) ≡ false
none_in_both first second none later = list_any-append is_end first second ∙ or_from _ _ none later

none_in_each : (first second : List Event) → list_any is_end (first ++ second) ≡ false →
    (list_any is_end first ≡ false) × (list_any is_end second ≡ false)
none_in_each first second none = or_parts _ _ (sym (list_any-append is_end first second) ∙ none)

-- so a trace that hadn't ended hasn't with them
pub still_open : (trace emitted : List Event) → is_ended trace ≡ false → list_any is_end emitted ≡ false →
    is_ended (trace ++ emitted) ≡ false
still_open trace [] going none = subst (λ t. is_ended t ≡ false) (sym (append-nil trace)) going
still_open trace (event ∷ emitted) going none =
    let parts = or_parts (is_end event) _ none in
    subst (λ t. is_ended t ≡ false) (append_assoc trace (event ∷ []) emitted)
    (still_open (trace ++ event ∷ []) emitted (ended_by trace event ∙ parts.0) parts.1)

-- two ends of one list, the first no longer
past_prefix : (trace first emitted rest : List Event) → (trace ++ first) ++ rest ≡ trace ++ emitted →
    first ++ rest ≡ emitted
past_prefix [] first emitted rest same = same
past_prefix (event ∷ trace) first emitted rest same = past_prefix trace first emitted rest (cc same)

-- Along a stretch.

module _ (image : ImageParts) (inputs : List ℕ) (formed : IsWellFormed image) where
  pub not_stopped : (events : ℕ) (trace : List Event) → is_ended trace ≡ false → length trace < events →
      stopped events trace ≡ None
  unfolding stopped
  not_stopped events trace going below = rw (going, lt-leb events _ below) refl

  pub goes_adds : (state next : MachineState) → step image inputs state ≡ Goes next → IsPrefix state.trace next.trace
  goes_adds state next goes =
      let more = step_to image inputs formed state next goes in record { more = more.0; is = sym more.1 }

  pub walk_adds : (n : ℕ) (state to : MachineState) → walk image inputs n state ≡ Goes to → IsPrefix state.trace
      to.trace
  walk_adds zero state to goes = let same : state ≡ to = cc goes in
      subst (λ t. IsPrefix state.trace t.trace) same (prefix_self _)
  walk_adds (suc n) state to goes =
      let first = first_step (walk image inputs n) to _ goes in
      prefix_on _ first.0.trace _ (goes_adds state first.0 first.1) (walk_adds n first.0 to first.2)

  module _ (events more : ℕ) where
    pub run_along : (n : ℕ) (emitted : List Event) (from to : MachineState) → walk image inputs n from ≡ Goes to →
        to.trace ≡ from.trace ++ emitted → list_any is_end emitted ≡ false → is_ended from.trace ≡ false →
        length to.trace < events → run image inputs events (n + more) from ≡ run image inputs events more to
    run_along zero emitted from to goes trace none going below =
        let same : from ≡ to = cc goes in
        ap (λ k. run image inputs events k from) (zero-add more) ∙ ap (run image inputs events more) same
    run_along (suc n) emitted from to goes trace none going below =
        let one = first_step (walk image inputs n) to _ goes in
        let first : IsPrefix from.trace one.0.trace = goes_adds from one.0 one.1 in
        let last = walk_adds n one.0 to one.2 in
        let parts : first.more ++ last.more ≡ emitted =
        past_prefix _ first.more emitted last.more (ap (λ t. t ++ last.more) (sym first.is) ∙ sym last.is ∙ trace) in
        let each = none_in_each first.more last.more (subst (λ t. list_any is_end t ≡ false) (sym parts) none) in
        let short : length from.trace < events =
        omega (arith, below, ap length trace, length-append from.trace emitted) in
        let still = subst (λ t. is_ended t ≡ false) (sym first.is) (still_open from.trace first.more going each.0) in
        ap (λ k. run image inputs events k from) (suc-add n more) ∙
        run_goes image inputs events (n + more) from one.0 (not_stopped events _ going short) one.1 ∙
        run_along n last.more one.0 to one.2 last.is each.1 still below

  -- The states that runs reach.

  -- n steps lead from one state to another, with no end before the last
  abbrev OpenWalk : ℕ → MachineState → MachineState → Type 0
  OpenWalk zero from to = from ≡ to
  OpenWalk (suc n) from to = (is_ended from.trace ≡ false) ×
      ((next : MachineState) × ((step image inputs from ≡ Goes next) × OpenWalk n next to))

  -- one step more
  walk_more : (n : ℕ) (from middle to : MachineState) → OpenWalk n from middle → is_ended middle.trace ≡ false →
      step image inputs middle ≡ Goes to → OpenWalk (suc n) from to
  walk_more zero from middle to same going goes = subst (λ m. (is_ended m.trace ≡ false) ×
      ((next : MachineState) × ((step image inputs m ≡ Goes next) × (next ≡ to)))) (sym same) (
        going,
        (
          to,
          (
            goes,
            refl,
          ),
        ),
      )
  walk_more (suc n) from middle to h going goes = (
    h.0,
    (h.1.0, (h.1.1.0, walk_more n h.1.0 middle to h.1.1.1 going goes)),
  )

  open_adds : (n : ℕ) (from to : MachineState) → OpenWalk n from to → length from.trace ≤ length to.trace
  open_adds zero from to same = subst (λ t. length from.trace ≤ length t.trace) same (omega arith)
  open_adds (suc n) from to h =
      let first = prefix_short _ _ (goes_adds from h.1.0 h.1.1.0) in
      let later = open_adds n h.1.0 to h.1.1.1 in omega (arith, first, later)

  abbrev Comes : MachineState → MachineState → Type 0
  Comes from to = (n : ℕ) × OpenWalk n from to

  comes_next : (from state : MachineState) → Comes from state → is_ended state.trace ≡ false → (outcome : Outcome) →
      step image inputs state ≡ outcome → AtNext (Comes from) outcome
  comes_next from state way going (Goes next) is = (suc way.0, walk_more way.0 from state next way.1 going is)
  comes_next from state way going (Traps reason) is = tt

  comes : (events steps : ℕ) (from : MachineState) → Comes from (run image inputs events steps from).state
  comes events steps from = run_keeps image inputs events (Comes from)
      (λ state way early. comes_next from state way (goes_on events _ early) _ refl) steps from (0, refl)

  none_by : (from : MachineState) (early : Option Stop) →
      (stops_or early from (record { state = from; stop = StepsOut })).state ≡ from
  none_by from None = refl
  none_by from (Some stop) = refl

  none_runs : (events : ℕ) (from : MachineState) → (run image inputs events 0 from).state ≡ from
  unfolding run_by
  none_runs events from = none_by from _

  open_run : (events n : ℕ) (from to : MachineState) → OpenWalk n from to → length to.trace < events →
      (run image inputs events n from).state ≡ to
  open_run events zero from to same below = none_runs events from ∙ same
  open_run events (suc n) from to h below =
      let fewer = open_adds (suc n) from to h in
      ap (λ r. r.state) (run_goes image inputs events n from h.1.0
      (not_stopped events _ h.0 (omega (arith, fewer, below))) h.1.1.0) ∙ open_run events n h.1.0 to h.1.1.1 below

  reached_open : (from : MachineState) → IsReached image inputs from → Comes (start image) from
  reached_open from h = subst (Comes _) h.1.1 (comes h.1.0 h.0 _)

  reached_next : (from to : MachineState) → IsReached image inputs from → is_ended from.trace ≡ false →
      step image inputs from ≡ Goes to → IsReached image inputs to
  reached_next from to h going goes =
      let way = reached_open from h in (
        suc way.0,
        (
          suc (length to.trace),
          open_run _ (suc way.0) (start image) to
              (walk_more way.0 (start image) from to way.1 going goes) (omega arith),
        ),
      )

pub stretches_compose : StretchesCompose
stretches_compose = record {
  one_step = walk_one;
  together = walk_together;
  run_along = λ image inputs events steps more from to formed walks silent early.
      run_along image inputs formed events more steps [] from to walks.by (sym silent ∙ sym (append-nil _)) refl
      (goes_on events _ early) (subst (λ t. length t < events) silent (has_room events _ early));
  run_step = λ image inputs events more from to goes early. run_goes image inputs events more from to early goes;
  run_trap = λ image inputs events more state reason traps early.
      run_traps image inputs events more state reason early traps;
  run_stop = run_stopped;
  run_none = run_out;
  reached_next = λ image inputs from to formed. reached_next image inputs formed from to;
}

-- Stretches that emit events, and the steps that emit one.

-- Stretches.

silent : (image : ImageParts) (inputs : List ℕ) (steps : ℕ) (from to : MachineState) →
    Walks image inputs steps from to → from.trace ≡ to.trace → Emits image inputs steps [] from to
silent image inputs steps from to walks same =
    record { walks = walks; trace = sym same ∙ sym (append-nil _); no_end = refl }

one_event : (image : ImageParts) (inputs : List ℕ) (event : Event) (from to : MachineState) →
    step image inputs from ≡ Goes to → to.trace ≡ from.trace ++ event ∷ [] → is_end event ≡ false →
    Emits image inputs 1 (event ∷ []) from to
one_event image inputs event from to goes emitted none =
    record { walks = walk_one image inputs from to goes; trace = emitted; no_end = rw none refl }

together : (image : ImageParts) (inputs : List ℕ) (m n : ℕ) (first second : List Event) (from middle to : MachineState)
    →
    Emits image inputs m first from middle → Emits image inputs n second middle to →
    Emits image inputs (m + n) (first ++ second) from to
together image inputs m n first second from middle to one two = record {
  walks = walk_together image inputs m n from middle to one.walks two.walks;
  trace = two.trace ∙ ap (λ t. t ++ second) one.trace ∙ append_assoc _ first second;
  no_end = none_in_both first second one.no_end two.no_end;
}

along_emitted : (image : ImageParts) (inputs : List ℕ) (events steps more : ℕ) (emitted : List Event)
    (from to : MachineState) →
    IsWellFormed image → Emits image inputs steps emitted from to → stopped events from.trace ≡ None →
    length to.trace < events → run image inputs events (steps + more) from ≡ run image inputs events more to
along_emitted image inputs events steps more emitted from to formed emits_trace early below =
    run_along image inputs formed events
    more steps emitted from to emits_trace.walks.by emits_trace.trace emits_trace.no_end (goes_on events _ early) below

to_stop : (image : ImageParts) (inputs : List ℕ) (events steps more : ℕ) (emitted : List Event) (from last to :
    MachineState)
    (stop : Stop) → IsWellFormed image → Emits image inputs steps emitted from last → stopped events from.trace ≡ None →
    length last.trace < events → step image inputs last ≡ Goes to → stopped events to.trace ≡ Some stop →
    run image inputs events (steps + suc more) from ≡ record { state = to; stop = stop }
to_stop image inputs events steps more emitted from last to stop formed emits_trace early below goes stops =
    let going = subst (λ t. is_ended t ≡ false) (sym emits_trace.trace)
    (still_open from.trace emitted (goes_on events _ early) emits_trace.no_end) in
    along_emitted image inputs events steps _ emitted from last formed emits_trace early below ∙
    run_goes image inputs events more last to (not_stopped image inputs formed events _ going below) goes ∙
    run_stopped image inputs events more to stop stops

pub emitting_composes : EmittingComposes
emitting_composes = record {
  silent = silent;
  one_event = one_event;
  together = together;
  run_along = along_emitted;
  run_to_stop = to_stop;
}

-- The compartment in whose code an address lies.

-- no other compartment has code there
not_others : (image : ImageParts) → IsWellFormed image → (c d address : ℕ) → c ≢ d → comp_of_code address ≡ d →
    (word : Option ℕ) → word_at image c address ≡ word → is_some (word_at image c address) ≡ false
not_others image formed c d address other of None at = ap is_some at
not_others image formed c d address other of (Some word) at =
    absurd (other (sym (in_code image formed c _ word at).comp ∙ of))

-- Jumps out of the own code.

pub jump_out : (image : ImageParts) (state : MachineState) (rd target : ℕ) (elsewhere : Outcome) → target % 4 ≡ 0 →
    is_some (word_at image state.active target) ≡ false → jump image state rd target elsewhere ≡ elsewhere
jump_out image state rd target elsewhere aligned none = rw (eq-eqb _ 0 aligned, none) refl

module _ (image : ImageParts) (state : MachineState) (to index target : ℕ) (formed : IsWellFormed image)
    (call : IsCall image state to index target) where
  there : (word : ℕ) × IsInCode to target word
  there =
      let word = some_is _ (entry_code image formed to target index call.entry) in
      (word.0, in_code image formed to target word.0 word.1)

  outside : is_some (word_at image state.active target) ≡ false
  outside = not_others image formed _ to target (called_other image _ to index formed call.may) there.1.comp _ refl

  calls_there : jump_outside image state ra target ≡ Goes (on_call state to index (export_params image to index) target)
  calls_there = rw (there.1.comp, call.entry, call.may) refl

  jal_there : jump image state ra target (jump_outside image state ra target) ≡
      Goes (on_call state to index (export_params image to index) target)
  jal_there = jump_out image state ra target _ there.1.aligned outside ∙ calls_there

  jalr_there : jump image state ra target (leaves image state ra target) ≡
      Goes (on_call state to index (export_params image to index) target)
  jalr_there = jump_out image state ra target _ there.1.aligned outside ∙ calls_there

-- nobody's code is at the gate
no_code : (image : ImageParts) (c : ℕ) → is_some (word_at image c gate) ≡ false
unfolding word_at
no_code image c =
    let below = lt-leb (code_start c) gate (omega arith) in
    rw below refl

leaves_there : (image : ImageParts) (inputs : List ℕ) (state : MachineState) →
    jump image state 0 gate (leaves image state 0 gate) ≡ Goes (on_return image state state.cross)
leaves_there image inputs state = jump_out image state 0 gate _ refl (no_code image _)

ended_stops : (events : ℕ) (state : MachineState) → stopped events (on_end state).trace ≡ Some Ended
unfolding stopped
ended_stops events state = rw (ended_by _ _) refl

pub steps_emit : StepsEmit
steps_emit = record {
  jal_calls = λ image inputs state imm to index target formed at same call. one_event image inputs _ state _
      (steps_by_instruction.jal image inputs state ra imm target at same ∙
      jal_there image state to index target formed call) refl refl;
  jalr_calls = λ image inputs state rs1 imm to index target formed at same call. one_event image inputs _ state _
      (steps_by_instruction.jalr image inputs state ra rs1 imm target at same ∙
      jalr_there image state to index target formed call) refl refl;
  returns = λ image inputs state rs1 imm _ waiting at same cross. one_event image inputs _ state _
      (steps_by_instruction.jalr image inputs state 0 rs1 imm gate at same ∙ leaves_there image inputs state ∙
      ap (λ c. Goes (on_return image state c)) cross) refl refl;
  outputs = λ image inputs state at is may.
      one_event image inputs _ state _ (steps_by_instruction.ecall image inputs state at ∙ rw (is, may) refl) refl refl;
  inputs = λ image inputs state at is may.
      one_event image inputs _ state _ (steps_by_instruction.ecall image inputs state at ∙ rw (is, may) refl) refl refl;
  ends = λ image inputs state rs1 imm at same cross.
      steps_by_instruction.jalr image inputs state 0 rs1 imm gate at same ∙ leaves_there image inputs state ∙
      ap (λ c. Goes (on_return image state c)) cross;
  ended_stops = ended_stops;
}
