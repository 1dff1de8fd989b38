-- Calls that begin, and calls that end.
use Rattle.sc_run.proofs.Common.{Begun, Bor, Call, Callee, Caller, CameTo, Comes, Doing, Err, Exit, Frame, Function}
use Rattle.sc_run.proofs.Common.{Left, List, None, Ok, Option, Piece, Place, ProgramTree, Reached, Result, Ret, RunEnd}
use Rattle.sc_run.proofs.Common.{Seen, Some, SourceRun, Standing, State, Step, Steps, Stop, Stopped, To, TypedExpr}
use Rattle.sc_run.proofs.Common.{Value, Work, [], and_then, ap, arith, back_from, back_to, back_value, begun}
use Rattle.sc_run.proofs.Common.{blocks_for, bodies, body_acts, c_arith, calls_in, cleared, closes, denotations, done}
use Rattle.sc_run.proofs.Common.{emit_event, emitted_call, emitted_return, ended, ended_as, entry_from, found, function}
use Rattle.sc_run.proofs.Common.{function_in, function_of, here_of, leave, left_by, length, map, pos, refl, result_goes}
use Rattle.sc_run.proofs.Common.{resume, returned, reverse, run_in, seen_of, store_at, subst, suc, sym, then_then, turn}
use Rattle.sc_run.proofs.Common.{variable_count, variables, way_in, with_blocks, with_variables, word_crossing, word_in}
use Rattle.sc_run.proofs.Common.{zero, ℕ, ◌++◌, ◌∙◌, ◌∷◌, ◌≡◌, ◌≤◌, Go, Leave, length-append, ◌+◌}
use Rattle.sc_run.proofs.Blank.{left_same, blank_more, blank_new, length_same}
use Rattle.sc_run.proofs.Coming.{with_memory, seen_with, blocks_seen, blocks_changed, usual}
use Rattle.sc_run.proofs.Looping.{resume_stopped, newest_first, step_stops, step_ends, steps_as}
use Rattle.sc_run.proofs.Ahead.{step_done}
use Rattle.sc_run.proofs.Lengths.{length_blocks_for, length_cleared}
use Rattle.sc_run.proofs.Weighing.{Heavier, all_weights, eased, is_over, light_earlier, light_later, taken_up}
use Rattle.sc_run.proofs.Weighing.{turns_taken}
use Rattle.sc_core.specs.Prelude.{most_nodes}
use Rattle.sc_run.specs.Numbers.{HasFewVariables}
use Rattle.sc_run.specs.Weights.{body_weight, leaf_weight}
use Rattle.sc_run.specs.declared.work.Leaving.TheVariants as exits

-- a result that can't be stored
pub unstored : {program : ProgramTree} {cost : ℕ} {before after : Seen} {work : List Work} {f : Frame} {to : To}
    {result : Option Value} (place : Bor TypedExpr) (line : ℕ) {v : Value} {end : RunEnd} → to ≡ Place place line →
    result ≡ Some v → Comes before after (Err end) (store_at (here_of f.scope) (way_in f place.now) v line tt) →
    Steps program cost before work f (λ n s. result_goes program f to result s) (Stop end) after work f
unstored {program} {cost} {before} {after} {work} {f} {result} place line {end} is has c =
    subst (λ x. Steps program cost before work f (λ n s. result_goes program f x result s) (Stop end) after work f)
    (sym is) (subst (λ x. Steps program cost before work f (λ n s. result_goes program f (Place place line) x s)
    (Stop end) after work f) (sym has) (step_ends c))

-- a result that is stored
pub is_stored : {program : ProgramTree} {before after : Seen} {work : List Work} {f : Frame} {to : To}
    {result : Option Value} (place : Bor TypedExpr) (line : ℕ) {v : Value} → to ≡ Place place line →
    result ≡ Some v → Comes before after usual (store_at (here_of f.scope) (way_in f place.now) v line tt) →
    Steps program leaf_weight before work f (λ n s. result_goes program f to result s) (Go (Leave exits.Next))
    after work f
is_stored {program} {before} {after} {work} {f} {result} place line is has c =
    subst (λ x. Steps program leaf_weight before work f (λ n s. result_goes program f x result s)
    (Go (Leave exits.Next)) after work f) (sym is)
    (subst (λ x. Steps program leaf_weight before work f (λ n s. result_goes program f (Place place line) x s)
    (Go (Leave exits.Next)) after work f) (sym has) (step_done (omega arith) c))

-- the variables of a call are few blocks
pub begun_blocks : {callee : Callee} {args : List Value} {before after : Seen} {f : Frame} →
    Begun callee args before after f → HasFewVariables callee.structs.now callee.function.now → (comp : ℕ) →
    length (after.memory comp) ≤ length (before.memory comp) + most_nodes
begun_blocks {callee} {args} {before} {after} b few comp =
    let sizes = variables callee.structs.now callee.function.now in
    subst (λ m. length (m comp) ≤ length (before.memory comp) + most_nodes) (sym (ap (λ x. x.memory) b.seen))
    (blocks_changed callee.comp.now (before.memory callee.comp.now ++ blocks_for sizes args) before.memory most_nodes
    (omega (
      arith,
      few.few,
      length-append (before.memory callee.comp.now) (blocks_for sizes args),
      length_blocks_for sizes args,
    )) comp)

module _ (program : ProgramTree) (caller : Frame) (callee : Callee) (args : List Value) (to : To) where
  abbrev pub called_function : Function
  called_function = function_of c_arith program.interfaces.main callee.structs.now callee.function.now

  -- the frame of the call, where the compartment had `first` blocks
  abbrev pub frame_at : ℕ → Frame
  frame_at first =
      record {
        scope = record {
          structs = callee.structs;
          comp = callee.comp;
          first = pos first;
          params = length callee.function.now.params;
        };
        function = callee.function;
      }

  abbrev pub Found : Type 0
  Found = function (denotations program) callee.comp.now callee.number ≡ Some called_function

  -- the function runs, from where its call was emitted
  abbrev pub entering : (Option Value → State → Piece (Option Value)) → ℕ → State → Piece (Option Value)
  entering back n s = run_in (denotations program) (bodies program n) callee.comp.now callee.number args back s

  pub enter_is : Found → (back : Option Value → State → Piece (Option Value)) (m : ℕ) (t : State) → entering back (suc
      m) t ≡ returned program (frame_at (length (t.memory callee.comp.now))) back (body_acts program m (frame_at (length
      (t.memory callee.comp.now))) tt (begun callee.comp.now called_function args t))
  enter_is there back m t = ap (λ o. and_then (found o t) (λ f s. and_then (bodies program (suc m) callee.number
      (record { comp = callee.comp.now; first = length (s.memory callee.comp.now) })
      (begun callee.comp.now f args s)) (λ v u. back v
      (done callee.comp.now f (length (s.memory callee.comp.now)) u)))) there ∙ ap
      (λ o. and_then (and_then (found o (begun callee.comp.now called_function args t))
      (λ f s. f.does (calls_in program m) (record {
        comp = callee.comp.now;
        first = length (t.memory callee.comp.now);
      }) s)) (λ v u. back v (done callee.comp.now called_function (length (t.memory callee.comp.now)) u))) there

  pub begun_seen : (t : State) {mid : Seen} → seen_of t ≡ mid →
      seen_of (begun callee.comp.now called_function args t) ≡ with_memory mid (with_variables callee args mid.memory)
  begun_seen t {mid} is_seen =
      seen_with t _ _ is_seen ∙ ap (λ bs. with_memory mid (with_blocks callee.comp.now bs mid.memory))
      (blank_more (t.memory _) (blocks_for (variables callee.structs.now callee.function.now) args) ∙
      (λ i. blocks_seen t callee.comp.now is_seen i ++ blank_new (variables callee.structs.now callee.function.now) args
      i))

  first_seen : (t : State) {mid : Seen} → seen_of t ≡ mid →
      length (mid.memory callee.comp.now) ≡ length (t.memory callee.comp.now)
  first_seen t is_seen = ap length (sym (blocks_seen t _ is_seen)) ∙ length_same _

  pub frame_is : (t : State) {mid after : Seen} {g : Frame} → seen_of t ≡ mid → Begun callee args mid after g →
      g ≡ frame_at (length (t.memory callee.comp.now))
  frame_is t is_seen b = λ i.
      record {
        scope = record {
          structs = b.structs i;
          comp = b.comp i;
          first = (b.first ∙ ap pos (first_seen t is_seen)) i;
          params = b.params i;
        };
        function = b.function i;
      }

  entry_seen : (crossing : Option ℕ) (s : State) {seen : Seen} → seen_of s ≡ seen →
      seen_of (entry_from caller callee args crossing s) ≡ emitted_call caller callee args crossing seen
  entry_seen None s is_seen = is_seen
  entry_seen (Some index) s is_seen = ap {A = Seen} (λ x. record x {
    trace = x.trace ++ Call caller.scope.comp.now callee.comp.now index (map word_in args) ∷ [];
  }) is_seen

  entry_turns : (crossing : Option ℕ) (s : State) → (entry_from caller callee args crossing s).turns ≡ s.turns
  entry_turns None s = refl
  entry_turns (Some index) s = refl

  -- a function runs once its call was emitted
  abbrev from_call : Option ℕ → ℕ → State → Piece (Option Value)
  from_call crossing n s = entering (back_from program caller callee crossing) n
      (entry_from caller callee args crossing s)

  abbrev tries : Option ℕ → Doing
  tries crossing n s = and_then (and_then (turn s) (λ _ s. from_call crossing n s)) (result_goes program caller to)

  module _ (whole : SourceRun) (work later : List Work) (crossing : Option ℕ) (mid begun_to : Seen) (g : Frame)
      (there : Found) (b : Begun callee args (emitted_call caller callee args crossing mid) begun_to g) where
    abbrev Entered : Type 0
    Entered = Standing program whole begun_to later g (λ n s. body_acts program n g tt s)

    enter_at : (m : ℕ) (t : State) → later ≡ work ++ Caller caller to crossing ∷ [] →
        seen_of t ≡ emitted_call caller callee args crossing mid →
        ((n : ℕ) (p : Piece (Left (Unit {0}))) (f : Frame) → f ≡
        frame_at (length (t.memory callee.comp.now)) → resume program n (Caller caller to crossing ∷ reverse work) f p ≡
        resume program (suc n) (reverse work) caller (and_then (returned program f (back_from program caller callee
        crossing) p) (result_goes program caller to))) → t.turns ≤ m → (resume program (suc m) (reverse work) caller
        (and_then (entering (back_from program caller callee crossing) (suc m) t) (result_goes program caller
        to))).behaviour ≡ whole → Entered
    enter_at m t pushed is_seen waits enough rest =
        let same : g ≡ frame_at (length (t.memory callee.comp.now)) =
        frame_is t is_seen b in
        subst (λ f. Standing program whole begun_to later f (λ n s. body_acts program n f tt s)) (sym same) (record {
          open_calls = m;
          state = begun callee.comp.now called_function args t;
          is_seen = begun_seen t is_seen ∙ sym b.seen;
          enough = enough;
          rest = ap (λ ws. (resume program m ws (frame_at (length (t.memory callee.comp.now))) entered_piece).behaviour)
              (ap reverse pushed ∙ newest_first work (Caller caller to _)) ∙ ap (λ x. x.behaviour)
              (waits m entered_piece (frame_at _) refl) ∙ ap (λ q.
              (resume program (suc m) (reverse work) caller (and_then q (result_goes program caller to))).behaviour)
              (sym (enter_is there (back_from program caller callee _) m t)) ∙ rest;
        }) where
          entered_piece : Piece (Left (Unit {0}))
          entered_piece = body_acts program m (frame_at (length (t.memory callee.comp.now))) tt
              (begun callee.comp.now called_function args t)

    waits_at : (cross : Option ℕ) (first n : ℕ) (p : Piece (Left (Unit {0}))) {f : Frame} → f ≡ frame_at first → resume
        program n (Caller caller to cross ∷ reverse work) f p ≡ resume program (suc n) (reverse work) caller (and_then
        (returned program f (back_from program caller callee cross) p) (result_goes program caller to))
    waits_at None first n p is = refl
    waits_at (Some index) first n p {f} is =
        subst (λ f. resume program n (Caller caller to (Some index) ∷ reverse work) f p ≡ resume program (suc n)
        (reverse work) caller (and_then (returned program f (back_from program caller callee (Some index)) p)
        (result_goes program caller to))) (sym is) refl

    entered_from : {before : Seen} → later ≡ work ++ Caller caller to crossing ∷ [] → before.turns ≡ suc mid.turns →
        Comes before mid (Ok tt) turn → Standing program whole before work caller (tries crossing) → Entered
    entered_from {before} pushed taken c h = by_turn h.open_calls (turn h.state) (c.comes h.state h.is_seen)
        (more (ap (λ x. x.turns) h.is_seen) taken h.enough) h.rest where
          more : h.state.turns ≡ before.turns → before.turns ≡ suc mid.turns → h.state.turns ≤ h.open_calls →
              suc mid.turns ≤ h.open_calls
          more x y z = omega (arith, x, y, z)

          by_turn : (n : ℕ) (x : Piece (Unit {0})) → CameTo (Ok tt) mid x → suc mid.turns ≤ n → (resume program n
              (reverse work) caller (and_then (and_then x (λ _ s. from_call crossing n s)) (result_goes program caller
              to))).behaviour ≡ whole → Entered
          by_turn zero x e le rest = absurd (none mid.turns le) where
            none : (k : ℕ) → suc k ≤ 0 → ⊥
            none k z = omega (arith, z)
          by_turn (suc m) (Reached u t) e le rest = enter_at m (entry_from caller callee args crossing t) pushed
              (entry_seen crossing t e.1) (λ n p f is. waits_at crossing
              (length ((entry_from caller callee args _ t).memory callee.comp.now)) n p is)
              (less (entry_turns crossing t) (ap (λ x. x.turns) e.1) le) rest where
                less : (entry_from caller callee args crossing t).turns ≡ t.turns → t.turns ≡ mid.turns →
                    suc mid.turns ≤ suc m → (entry_from caller callee args crossing t).turns ≤ m
                less x y z = omega (arith, x, y, z)
          by_turn (suc m) (Stopped end t) e le rest = elim e [ ]

  pub emitted_turns : (crossing : Option ℕ) (mid : Seen) →
      (emitted_call caller callee args crossing mid).turns ≡ mid.turns
  emitted_turns None mid = refl
  emitted_turns (Some index) mid = refl

  emitted_memory : (crossing : Option ℕ) (mid : Seen) →
      (emitted_call caller callee args crossing mid).memory ≡ mid.memory
  emitted_memory None mid = refl
  emitted_memory (Some index) mid = refl

  -- a turn pays for a call
  call_paid : (crossing : Option ℕ) {work later : List Work} {before mid emitted begun_to : Seen} {g : Frame} →
      HasFewVariables callee.structs.now callee.function.now → Comes before mid (Ok tt) turn →
      before.turns ≡ suc mid.turns → emitted ≡ emitted_call caller callee args crossing mid →
      Begun callee args emitted begun_to g → later ≡ work ++ Caller caller to crossing ∷ [] →
      Heavier leaf_weight before work (body_weight g.function.now) begun_to later
  call_paid crossing {work} {later} {before} {mid} {emitted} {begun_to} {g} few c taken emits_trace b pushed =
      let waits = all_weights work (Caller caller to crossing) pushed in
      let short = ap (λ x. body_weight x.now) b.function in
      let turns = ap (λ x. x.turns) b.seen ∙ ap (λ x. x.turns) emits_trace ∙ emitted_turns crossing mid in
      let same = ap (λ x. x.memory) emits_trace ∙ emitted_memory crossing mid in
      record {
        less = omega (arith, waits, short, turns, taken, few.short);
        lengths = λ comp. omega (
          arith,
          waits,
          short,
          turns,
          taken,
          few.short,
          c.lengths comp,
          ap (λ m. length (m comp)) same,
          begun_blocks b few comp,
        );
      }

  pub enter_steps : (crossing : Option ℕ) {work later last_work : List Work} {before mid emitted begun_to last : Seen}
      {g last_frame : Frame} {step : Step} → HasFewVariables callee.structs.now callee.function.now → Found →
      Comes before mid (Ok tt) turn → before.turns ≡ suc mid.turns →
      emitted ≡ emitted_call caller callee args crossing mid → Begun callee args emitted begun_to g →
      later ≡ work ++ Caller caller to crossing ∷ [] →
      Steps program (body_weight g.function.now) begun_to later g (λ n s. body_acts program n g tt s) step last
      last_work last_frame →
      Steps program leaf_weight before work caller (tries crossing) step last last_work last_frame
  enter_steps crossing {work} {later} {before} {mid} {emitted} {begun_to} {g} {step} few there c taken emits_trace b
      pushed h =
      record {
        falls = λ light waiting. eased (call_paid crossing few c taken emits_trace b pushed)
            (h.falls (omega (arith, few.short, ap (λ x. body_weight x.now) b.function))
            (light_later work (Caller caller to crossing) pushed waiting (omega arith)));
        stands = λ whole standing. h.stands whole (entered_from whole work later _ mid _ g there
            (subst (λ x. Begun callee args x begun_to g) emits_trace b) pushed taken c standing);
      }

  -- a call that has no turn left
  pub enter_stops : {cost : ℕ} (crossing : Option ℕ) {work : List Work} {before after : Seen} {end : RunEnd} →
      Comes before after (Err end) turn →
      Steps program cost before work caller (tries crossing) (Stop end) after work caller
  enter_stops crossing c = steps_as (λ n s. then_then (turn s) (λ _ s. from_call _ n s) (result_goes program caller to))
      (step_stops (λ n u s. and_then (from_call _ n s) (result_goes program caller to)) c)

-- how a call ends, once control left the body in this way
abbrev pub ClosedBy : ProgramTree → Frame → Exit → Result (Option Value) RunEnd → Type 0
ClosedBy program f exit r = (s : State) → closes program f (record { exit = exit; carried = tt }) s ≡ ended_as r s

module _ (program : ProgramTree) (f : Frame) (exit : Exit) where
  abbrev leaving : State → Piece (Left (Unit {0}))
  leaving s = leave exit tt s

  abbrev over : State → State
  over s = done f.scope.comp.now (function_in program f) (here_of f.scope).first s

  returned_ok : (v : Option Value) (back : Option Value → State → Piece (Option Value)) (s : State) →
      ClosedBy program f exit (Ok v) → returned program f back (leaving s) ≡ back v (over s)
  returned_ok v back s is = ap (λ p. and_then p (λ v t. back v (over t))) (is s)

  returned_err : {end : RunEnd} (back : Option Value → State → Piece (Option Value)) {s : State} →
      ClosedBy program f exit (Err end) → returned program f back (leaving s) ≡ Stopped end s
  returned_err back {s} is = ap (λ p. and_then p (λ v t. back v (over t))) (is s)

  over_seen : (s : State) {before : Seen} → seen_of s ≡ before → seen_of (over s) ≡ left_by f before
  over_seen s {before} is_seen =
      let first = (here_of f.scope).first in
      seen_with s _ (ended first (variable_count f) (s.memory _)) is_seen ∙ ap
      (λ bs. with_memory before (with_blocks f.scope.comp.now bs before.memory)) (sym
      (left_same first (variable_count f) (s.memory _)) ∙ ap (λ bs. cleared first (variable_count f) bs)
      (blocks_seen s f.scope.comp.now is_seen))

  module _ (whole : SourceRun) (before : Seen) (work : List Work) (caller : Frame) (to : To) (crossing : Option ℕ) where
    abbrev waiting : List Work
    waiting = work ++ Caller caller to crossing ∷ []

    resumed : (n : ℕ) (s : State) → resume program n (reverse waiting) f (leaving s) ≡ resume program (suc n) (reverse
        work) caller (and_then (returned program f (back_to program caller f crossing) (leaving s)) (result_goes program
        caller to))
    resumed n s = ap (λ ws. resume program n ws f (leaving s)) (newest_first work _)

    pub call_ends : (end : RunEnd) → ClosedBy program f exit (Err end) →
        Standing program whole before waiting f (λ n s. leaving s) → whole ≡ record { trace = before.trace; end = end }
    call_ends end is h = sym h.rest ∙ ap (λ r. r.behaviour) (resumed h.open_calls h.state ∙ ap
        (λ p. resume program (suc h.open_calls) (reverse work) caller (and_then p (result_goes program caller to)))
        (returned_err (back_to program caller f crossing) is)) ∙ resume_stopped program (suc h.open_calls)
        (reverse work) caller end h.state ∙ (λ i. record { trace = (h.is_seen i).trace; end = end })

    back_at : (cross : Option ℕ) (v : Option Value) (n : ℕ) (s : State) (rest : (resume program n (reverse work) caller
        (and_then (back_to program caller f cross v (over s)) (result_goes program caller to))).behaviour ≡ whole) →
        seen_of s ≡ before → s.turns ≤ n → Standing program whole (emitted_return program caller f cross v (left_by f
        before)) work caller (λ n s. result_goes program caller to (back_value program f cross v) s)
    back_at None v n s rest is_seen enough =
        record { open_calls = n; state = over s; is_seen = over_seen s is_seen; enough = enough; rest = rest }
    back_at (Some index) v n s rest is_seen enough =
        record {
          open_calls = n;
          state = emit_event _ (over s);
          is_seen = ap {A = Seen} (λ x. record x {
            trace = x.trace ++ Ret f.scope.comp.now caller.scope.comp.now (word_crossing program f index v) ∷ [];
          }) (over_seen s is_seen);
          enough = enough;
          rest = rest;
        }

    pub call_returns : (v : Option Value) → ClosedBy program f exit (Ok v) →
        Standing program whole before waiting f (λ n s. leaving s) →
        Standing program whole (emitted_return program caller f
        crossing v (left_by f before)) work caller (λ n s. result_goes program caller to (back_value program f crossing
        v) s)
    call_returns v is h = back_at _ v (suc h.open_calls) h.state (ap (λ r. r.behaviour) (sym (resumed _ h.state ∙ ap
        (λ p. resume program (suc h.open_calls) (reverse work) caller (and_then p (result_goes program caller to)))
        (returned_ok v (back_to program caller f _) h.state is))) ∙ h.rest) h.is_seen (more _ _ h.enough) where
          more : (a b : ℕ) → a ≤ b → a ≤ suc b
          more a b z = omega (arith, z)

  module _ (before : Seen) where
    pub returned_turns : (caller : Frame) (crossing : Option ℕ) (v : Option Value) (ended : Seen) →
        (emitted_return program caller f crossing v ended).turns ≡ ended.turns
    returned_turns caller None v ended = refl
    returned_turns caller (Some index) v ended = refl

    returned_memory : (caller : Frame) (crossing : Option ℕ) (v : Option Value) (ended : Seen) →
        (emitted_return program caller f crossing v ended).memory ≡ ended.memory
    returned_memory caller None v ended = refl
    returned_memory caller (Some index) v ended = refl

    call_over : {cost : ℕ} (work : List Work) (caller : Frame) (crossing : Option ℕ) (v : Option Value)
        {ended emitted : Seen} → ended ≡ left_by f before →
        emitted ≡ emitted_return program caller f crossing v ended → Heavier cost before work cost emitted work
    call_over work caller crossing v {ended} {emitted} ends emits_trace =
        let first = (here_of f.scope).first in
        let turns = ap (λ x. x.turns) emits_trace ∙ returned_turns caller crossing v ended ∙ ap (λ x. x.turns) ends in
        let same = ap (λ x. x.memory) emits_trace ∙ returned_memory caller crossing v ended ∙
        ap (λ x. x.memory) ends in
        turns_taken work (omega (arith, turns)) (λ comp. omega (
          arith,
          ap (λ m. length (m comp)) same,
          blocks_changed f.scope.comp.now (cleared first (variable_count f) (before.memory f.scope.comp.now))
              before.memory 0 (omega (
                arith,
                length_cleared first (variable_count f) (before.memory f.scope.comp.now),
              )) comp,
        ))

    pub return_stops : {cost : ℕ} {work : List Work} (caller : Frame) (to : To) (crossing : Option ℕ) {end : RunEnd} →
        ClosedBy program f exit (Err end) →
        Steps program cost before (work ++ Caller caller to crossing ∷ []) f (λ n s. leaving s) (Stop end) before work f
    return_stops {work} caller to crossing {end} is =
        record
        { stands = λ whole h. call_ends whole before work caller to _ end is h; falls = λ light waiting. is_over }

    pub return_steps : {work later : List Work} {caller g : Frame} (to : To) (crossing : Option ℕ) (v : Option Value)
        {back : Option Value} {ended emitted after : Seen} {step : Step} → ClosedBy program f exit (Ok v) →
        ended ≡ left_by f before → back ≡ back_value program f crossing v →
        emitted ≡ emitted_return program caller f crossing v ended →
        Steps program leaf_weight emitted work caller (λ n s. result_goes program caller to back s) step
        after later g →
        Steps program 1 before (work ++ Caller caller to crossing ∷ []) f (λ n s. leaving s) step after later g
    return_steps {work} {caller = caller} to crossing v {back} {ended} {emitted} {step} is ends gives emits_trace h =
        record {
          falls = λ light waiting. eased (taken_up work (Caller caller to crossing) refl before (omega arith))
              (eased (call_over work caller crossing v ends emits_trace)
              (h.falls (omega arith) (light_earlier work (Caller caller to crossing) refl waiting)));
          stands = λ whole standing. h.stands whole
              (subst (λ x. Standing program whole x work caller (λ n s. result_goes program caller to back s))
              (sym (emits_trace ∙ ap (emitted_return program caller f crossing v) ends))
              (subst (λ x. Standing program whole (emitted_return program caller f crossing v (left_by f before)) work
              caller
              (λ n s. result_goes program caller to x s)) (sym gives)
              (call_returns whole before work caller to crossing v is standing)));
        }
