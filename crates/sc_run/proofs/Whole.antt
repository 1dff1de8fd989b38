-- A run from its start to its end, which only adds events, so that it may be stopped at a number of them.
use Rattle.sc_run.proofs.Common.{Again, Begun, Body as Body', Callee, Caller, Cell, End, Ended, EndsAs, EntryAt, Event}
use Rattle.sc_run.proofs.Common.{EventsOut, First, Frame, Go, Goes, Gone, IsStop, Leave, Left, List, Main, Memory, None}
use Rattle.sc_run.proofs.Common.{Now, Nowhere, Option, Piece, ProgramTree, Reached, Rest, Run as Run', RunEnd, Seen}
use Rattle.sc_run.proofs.Common.{Some, SourceRun, Standing, Stands, State, Step, Steps, Stop, Stopped, TypedGlobal}
use Rattle.sc_run.proofs.Common.{TypedSection, Value, Work, [], and_then, ap, arith, back_goes, back_own, back_to}
use Rattle.sc_run.proofs.Common.{begun, bodies, body_acts, c_arith, call_own, denotations, does_now, done, done_goes}
use Rattle.sc_run.proofs.Common.{earlier, entry_in, exit_word, first_blocks, first_state, follow_goes, found, function}
use Rattle.sc_run.proofs.Common.{function_in, function_of, global_block, globals_of, here_of, if◌then◌else◌, in_loop}
use Rattle.sc_run.proofs.Common.{in_order, le-leb, length, length-append, lt-ltb, map, meaning, next_acts, prefix_more}
use Rattle.sc_run.proofs.Common.{refl, resume, returned, reverse, run_in, run_of, run_step, run_to, seen_of, slice_get}
use Rattle.sc_run.proofs.Common.{stays, stopped_at, subst, suc, sym, take, take-append-le, then_goes, within, ℕ, ◌<◌}
use Rattle.sc_run.proofs.Common.{◌∙◌, ◌∷◌, ◌≡◌, ◌≤◌}
use Rattle.sc_base.specs.Prelude.{IsPrefix}
use Rattle.sc_run.proofs.Going.{block_goes, next_goes, loop_goes, closes_goes, result_goes_on}
use Rattle.sc_run.proofs.Blank.{blank}
use Rattle.sc_run.proofs.Calling.{frame_at, enter_is, begun_seen, frame_is}

-- a trace and one that begins with it have the same prefixes, up to the length of the shorter
take_prefix : (n : ℕ) (t u : List Event) → n ≤ length t → IsPrefix t u → take n u ≡ take n t
take_prefix n t u few g = ap (take n) g.is ∙ take-append-le n t g.more few

-- the run has at least these events, and one more where it ends by itself
pub record Onward (t : List Event) (run : SourceRun) : Type 0 where
  pub grown : IsPrefix t run.trace
  pub ended : run.end ≡ Ended → suc (length t) ≤ length run.trace

back_to_goes : (program : ProgramTree) (caller f : Frame) (crossing : Option ℕ) (v : Option Value) →
    Goes (back_to program caller f crossing v)
back_to_goes program caller f None v = stays v
back_to_goes program caller f (Some index) v =
    back_goes program.interfaces caller.scope.comp.now f.scope.comp.now index v

module _ (program : ProgramTree) (s : State) where
  returned_goes : (f : Frame) (back : Option Value → State → Piece (Option Value)) →
      ((v : Option Value) → Goes (back v)) → (p : Piece (Left (Unit {0}))) → Gone s p →
      Gone s (returned program f back p)
  returned_goes f back b p h = then_goes s (and_then p _) _ (then_goes s p _ h (closes_goes program 0 f)) (λ v t.
      let end = done f.scope.comp.now (function_in program f) (here_of f.scope).first t in
      earlier t end _ (done_goes _ (function_in program f) _ t) (b v end))

  run_goes : (p : Piece (Option Value)) → Gone s p → Onward s.trace (run_to program.interfaces.main p).behaviour
  run_goes (Reached v t) h =
      record {
        grown = prefix_more s.trace t.trace _ h.grown.events (record { more = end ∷ []; is = refl });
        ended = λ _. omega (
          arith,
          length-append t.trace (end ∷ []),
          ap (length) h.grown.events.is,
          length-append s.trace h.grown.events.more,
        );
      } where
        end : Event
        end = End program.interfaces.main (exit_word v)
  run_goes (Stopped end t) h = record { grown = h.grown.events; ended = λ is. absurd (subst IsStop is h.stop) }

  resume_goes : (n : ℕ) (work : List Work) (f : Frame) (p : Piece (Left (Unit {0}))) → Gone s p →
      Onward s.trace (resume program n work f p).behaviour
  resume_goes n [] f p h = run_goes (returned program f back_own p) (returned_goes f back_own (λ v. stays v) p h)
  resume_goes n (Rest stmts ∷ work) f p h =
      resume_goes n work f _ (follow_goes in_order s p _ h (λ a. block_goes program n f stmts.now))
  resume_goes n (First l ∷ work) f p h =
      resume_goes n work f _ (follow_goes in_order s p _ h (λ a. loop_goes program n f l))
  resume_goes n (Again l ∷ work) f p h =
      resume_goes n work f _ (follow_goes in_loop s p _ h (λ a. loop_goes program n f l))
  resume_goes n (Body' l ∷ work) f p h = resume_goes n work f _ (follow_goes in_loop s p _ h (λ a t. follow_goes in_loop
      t (next_acts program n f l a t) _ (next_goes program n f l t) (λ a. loop_goes program n f l)))
  resume_goes n (Caller caller to crossing ∷ work) f p h =
      resume_goes (suc n) work caller _ (then_goes s (returned program f (back_to program caller f crossing) p) _
      (returned_goes f (back_to program caller f crossing) (back_to_goes program caller f crossing) p h)
      (result_goes_on program 0 caller to))

now_goes : (program : ProgramTree) (n : ℕ) (f : Frame) (now : Now) → Goes (does_now program f now n)
now_goes program n f (Run' stmts) = block_goes program n f _
now_goes program n f (Leave exit) = stays _

module _ (program : ProgramTree) (whole : SourceRun) (seen : Seen) (work : List Work) (f : Frame) (now : Now) where
  onward : Standing program whole seen work f (does_now program f now) → Onward seen.trace whole
  onward h = subst (λ t. Onward t whole) (ap (λ x. x.trace) h.is_seen) (subst (Onward _) h.rest
      (resume_goes program h.state h.open_calls (reverse work) f (does_now program f now _ h.state)
      (now_goes program _ f now h.state)))

  reached : (events : ℕ) (trace : List Event) (end : RunEnd) → events ≤ length seen.trace →
      Onward seen.trace (record { trace = trace; end = end }) →
      stopped_at events (record { trace = trace; end = end }) ≡ record { trace = take events trace; end = EventsOut }
  reached events trace Ended le h = ap (λ b. if b then (record { trace = take events trace; end = EventsOut }) else
      (record { trace = trace; end = Ended })) (lt-ltb events (length trace)
      (over (length _) (length trace) le (h.ended refl))) where
        over : (a b : ℕ) → events ≤ a → suc a ≤ b → events < b
        over a b x y = omega (arith, x, y)
  reached events trace end le h = ap (λ b. if b then (record { trace = take events trace; end = EventsOut }) else
      (record { trace = trace; end = end })) (le-leb events (length trace) (omega (
        arith,
        le,
        ap (length {A = Event}) h.grown.is,
        length-append seen.trace h.grown.more,
      )))

  -- a run that has come to `events` events is stopped
  pub stopped_here : (events : ℕ) → events ≤ length seen.trace →
      Standing program whole seen work f (does_now program f now) →
      stopped_at events whole ≡ record { trace = take events seen.trace; end = EventsOut }
  stopped_here events le h = reached events _ _ le (onward h) ∙
      (λ i. record { trace = take_prefix events _ _ le (onward h).grown i; end = EventsOut })

globals_live : (zeros : List (List Cell)) (gs : List TypedGlobal) →
    blank (map (global_block zeros) gs) ≡ map (global_block zeros) gs
globals_live zeros [] = refl
globals_live zeros (g ∷ gs) = ap (λ bs. global_block zeros g ∷ bs) (globals_live zeros gs)

first_live : (section : Option TypedSection) → blank (first_blocks section) ≡ first_blocks section
first_live None = refl
first_live (Some section) = globals_live _ _

module _ (program : ProgramTree) (inputs : List ℕ) (turns : ℕ) where
  abbrev at_start : State
  at_start = first_state (globals_of program.sections) inputs turns

  abbrev seen_first : Seen
  seen_first = record { memory = globals_of program.sections; trace = []; turns = turns; inputs = inputs }

  first_seen_is : seen_of at_start ≡ seen_first
  first_seen_is = λ i.
      record {
        memory = λ comp. first_live (slice_get program.sections comp) i;
        trace = [];
        turns = turns;
        inputs = inputs;
      }

  -- what `main` does from the start
  abbrev main_does : State → Piece (Option Value)
  main_does s = and_then (found (entry_in program program.interfaces.main Main) s) (λ number s. call_own
      (denotations program) (within (run_step (denotations program)) (suc turns)) program.interfaces.main number [] s)

  module _ (callee : Callee) (number : ℕ) (after : Seen) (f : Frame) where
    pub begins : entry_in program program.interfaces.main Main ≡ Some number →
        callee.comp.now ≡ program.interfaces.main → callee.number ≡ number →
        function (denotations program) callee.comp.now
        callee.number ≡ Some (function_of c_arith program.interfaces.main callee.structs.now callee.function.now) →
        Begun callee [] seen_first after f →
        Standing program (run_of c_arith program inputs turns).behaviour after [] f (λ n s. body_acts program n f tt s)
    begins at here place there b =
        subst (λ g. Standing program (run_of c_arith program inputs turns).behaviour after [] g
        (λ n s. body_acts program n g tt s)) (sym same) (record {
          open_calls = turns;
          state = begun callee.comp.now (function_of c_arith program.interfaces.main callee.structs.now
              callee.function.now) [] at_start;
          is_seen = begun_seen program f callee [] Nowhere at_start first_seen_is ∙ sym b.seen;
          enough = omega arith;
          rest = ap (λ p. (run_to program.interfaces.main p).behaviour)
              (sym (enter_is program f callee [] Nowhere there back_own turns at_start)) ∙
              ap (λ p. (run_to program.interfaces.main p).behaviour) called_is;
        }) where
          same : f ≡ frame_at program f callee [] Nowhere (length (at_start.memory callee.comp.now))
          same = frame_is program f callee [] Nowhere at_start first_seen_is b

          called_is : run_in (denotations program) (bodies program (suc turns)) callee.comp.now callee.number []
              back_own
              at_start ≡ main_does at_start
          called_is =
              (λ i. run_in (denotations program) (bodies program (suc turns)) (here i) (place i) [] back_own at_start) ∙
              ap
              (λ o. and_then (found o at_start) (λ number s. call_own (denotations program)
              (within (run_step (denotations program)) (suc turns)) program.interfaces.main number [] s)) (sym at)

-- whatever the whole run is, it stands here after it stood there
abbrev pub Since : ProgramTree → Now → Seen → Frame → Now → Seen → List Work → Frame → Type 0
Since program first begun f now seen work g = (whole : SourceRun) → Standing program whole begun [] f
    (does_now program f first) → Standing program whole seen work g (does_now program g now)

module _ (program : ProgramTree) (first : Now) (begun : Seen) (f : Frame) (now : Now) (seen : Seen) (work : List Work)
    (g : Frame) (stands_so : Since program first begun f now seen work g) where
  module _ {cost : ℕ} (step : Step) (later : Seen) (last : List Work) (h : Frame)
      (steps : Steps program cost seen work g (does_now program g now) step later last h) where
    -- one more step
    pub since_step : {next : Now} → step ≡ Go next → Since program first begun f next later last h
    since_step is whole start = subst (λ x. Stands program whole x later last h) is
        (steps.stands whole (stands_so whole start))

    -- the run is over
    pub since_stop : (events : ℕ) {end : RunEnd} → step ≡ Stop end → EndsAs program first begun f events later.trace end
    since_stop events is whole start = ap (stopped_at events)
        (subst (λ x. Stands program whole x later last h) is (steps.stands whole (stands_so whole start)))

  -- there are as many events as were allowed
  pub since_events : (events : ℕ) → events ≤ length seen.trace →
      EndsAs program first begun f events seen.trace EventsOut
  since_events events enough whole start =
      stopped_here program whole seen work g now events enough (stands_so whole start) ∙ sym
      (ap (λ b. if b then (record { trace = take events seen.trace; end = EventsOut }) else
      (record { trace = seen.trace; end = EventsOut })) (le-leb events _ enough))

module _ (program : ProgramTree) (inputs : List ℕ) (turns events : ℕ) where
  abbrev whole_run : SourceRun
  whole_run = (run_of c_arith program inputs turns).behaviour

  -- what is seen at the start
  pub seen_at_first : {memory : Memory} {trace : List Event} → memory ≡ globals_of program.sections → trace ≡ [] → ◌≡◌
      {A = Seen} (record { memory = memory; trace = trace; turns = turns; inputs = inputs }) (seen_first program inputs
      turns)
  seen_at_first {memory} {trace} is none = λ i. record { memory = is i; trace = none i; turns = turns; inputs = inputs }

  module _ {callee : Callee} {before after : Seen} {f : Frame} (at_first : before ≡ seen_first program inputs turns)
      (at : EntryAt program program.interfaces.main Main (Some callee)) (begun : Begun callee [] before after f) where
    stands_first : Standing program whole_run after [] f (λ n s. body_acts program n f tt s)
    stands_first = begins program inputs turns callee _ after f at.0 at.1.0 refl at.1.2
        (subst (λ x. Begun callee [] x after f) at_first begun)

    module _ {cost : ℕ} {run : SourceRun} {started : Seen} {step : Step}
        (steps : Steps program cost after [] f (λ n s. body_acts program n f tt s) step started [] f) where
      -- a run that ends before the first statement
      pub over_at_once : {end : RunEnd} → step ≡ Stop end →
          run ≡ stopped_at events (record { trace = started.trace; end = end }) →
          run ≡ meaning program inputs turns events
      over_at_once stops is = is ∙ sym (ap (stopped_at events)
          (subst (λ x. Stands program whole_run x started [] f) stops (steps.stands _ stands_first)))

      -- a run that was gone through to its end
      pub gone_through : {now : Now} (trace : List Event) (end : RunEnd) → step ≡ Go now →
          EndsAs program now started f events trace end →
          run ≡ stopped_at events (record { trace = trace; end = end }) → run ≡ meaning program inputs turns events
      gone_through trace end goes ends is =
          is ∙ sym (ends _ (subst (λ x. Stands program whole_run x started [] f) goes (steps.stands _ stands_first)))
