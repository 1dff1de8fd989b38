-- Frames: each change is of a moment within the trace, and a call that returns leaves the stack depths as they were.
use Rattle.sc_core_laws.proofs.Common.{AllBefore, Body, ChangesAreWithin, Closed, DeepestIsReached, Denotations}
use Rattle.sc_core_laws.proofs.Common.{EmitsNoEnd, End, Event, FrameChange, Function, In, KeepsDepths, Kept}
use Rattle.sc_core_laws.proofs.Common.{LeavesDepths, List, Main, Memory, Obedient, Opened, Option, Piece, Property}
use Rattle.sc_core_laws.proofs.Common.{Reached, Roles, State, Step, Stopped, Value, [], and_then, ap, arith, begun}
use Rattle.sc_core_laws.proofs.Common.{call_own, deepest, depth_after, done, emit_event, exit_word, false, first_state}
use Rattle.sc_core_laws.proofs.Common.{found, has_no_end, if◌then◌else◌, is_end, last, length, length-append, lt-ltb}
use Rattle.sc_core_laws.proofs.Common.{refl, run_by, run_step, run_to, scripted_step, stack_depth, subst, suc, true}
use Rattle.sc_core_laws.proofs.Common.{within, ℕ, ◌++◌, ◌+◌, ◌-◌, ◌==◌, ◌∙◌, ◌∷◌, ◌≡◌, ◌≤◌}
use Rattle.std.proofs.Common.{leb-false, leb-true, ltb-false, ltb-true, max, nat_le, nat_lt, sym, Bool, ◌&&◌}
use Rattle.std.proofs.lemmas.Bool.{le-ltb}
use Rattle.sc_core_laws.specs.Laws.{DepthsAreAttained, IsAttained}
use Rattle.sc_core_laws.proofs.Matching.{idle}
use Rattle.sc_core_laws.proofs.Keeping.{Walk, place, BodyWalks, own_walks, main_walks, scripted_walks}

-- LISTS OF CHANGES

depth_append : (comp depth : ℕ) (xs ys : List FrameChange) →
    depth_after comp depth (xs ++ ys) ≡ depth_after comp (depth_after comp depth xs) ys
depth_append comp depth [] ys = refl
depth_append comp depth (Opened emitted c more ∷ xs) ys =
    grind (arith, depth_append comp (depth + more) xs ys, depth_append comp depth xs ys)
depth_append comp depth (Closed emitted c less ∷ xs) ys =
    grind (arith, depth_append comp (depth - less) xs ys, depth_append comp depth xs ys)

before_append : (n : ℕ) (xs ys : List FrameChange) → AllBefore n xs → AllBefore n ys → AllBefore n (xs ++ ys)
before_append n [] ys h k = k
before_append n (Opened emitted c more ∷ xs) ys h k = (h.0, before_append n xs ys h.1 k)
before_append n (Closed emitted c less ∷ xs) ys h k = (h.0, before_append n xs ys h.1 k)

-- changes made before a moment were made before any later one
pub before_more : (n m : ℕ) → n ≤ m → (xs : List FrameChange) → AllBefore n xs → AllBefore m xs
before_more n m le [] h = tt
before_more n m le (Opened emitted c more ∷ xs) h =
    let first = h.0 in (omega (arith, le, first), before_more n m le xs h.1)
before_more n m le (Closed emitted c less ∷ xs) h =
    let first = h.0 in (omega (arith, le, first), before_more n m le xs h.1)

-- the greatest stack depth is at least the first
deepest_first : (events comp depth : ℕ) (ys : List FrameChange) → depth ≤ deepest events comp depth ys
deepest_first events comp depth [] = omega arith
deepest_first events comp depth (Opened emitted c more ∷ ys) = grind (arith, deepest_first events comp depth ys)
deepest_first events comp depth (Closed emitted c less ∷ ys) = grind (arith, deepest_first events comp depth ys)

deepest_from : (events comp depth : ℕ) (xs ys : List FrameChange) → AllBefore events xs →
    depth_after comp depth xs ≤ deepest events comp depth (xs ++ ys)
deepest_from events comp depth [] ys h = deepest_first events comp depth ys
deepest_from events comp depth (Opened emitted c more ∷ xs) ys h = grind (
  arith,
  lt-ltb emitted events h.0,
  deepest_from events comp (depth + more) xs ys h.1,
  deepest_from events comp depth xs ys h.1,
)
deepest_from events comp depth (Closed emitted c less ∷ xs) ys h = grind (
  arith,
  lt-ltb emitted events h.0,
  deepest_from events comp (depth - less) xs ys h.1,
  deepest_from events comp depth xs ys h.1,
)

-- more changes get no less deep
pub deepest_more : (events comp depth : ℕ) (xs ys : List FrameChange) →
    deepest events comp depth xs ≤ deepest events comp depth (xs ++ ys)
deepest_more events comp depth [] ys = deepest_first events comp depth ys
deepest_more events comp depth (Opened emitted c more ∷ xs) ys =
    grind (arith, deepest_more events comp (depth + more) xs ys, deepest_more events comp depth xs ys)
deepest_more events comp depth (Closed emitted c less ∷ xs) ys =
    grind (arith, deepest_more events comp (depth - less) xs ys, deepest_more events comp depth xs ys)

pub deepest_is_reached : DeepestIsReached
deepest_is_reached events comp before after h = deepest_from events comp 0 before after h

-- CHANGES IN THE ORDER OF THEIR MOMENTS
abbrev InOrder : ℕ → List FrameChange → Type 0
InOrder from [] = Unit {0}
InOrder from (Opened emitted c more ∷ changes) = (from ≤ emitted) × InOrder emitted changes
InOrder from (Closed emitted c less ∷ changes) = (from ≤ emitted) × InOrder emitted changes

-- one more change, which is of the last moment
opened_last : (from n c more : ℕ) (xs : List FrameChange) → from ≤ n → AllBefore (suc n) xs → InOrder from xs →
    InOrder from (xs ++ Opened n c more ∷ [])
opened_last from n c more [] le early h = (le, tt)
opened_last from n c more (Opened emitted d size ∷ xs) le early h =
    let first = early.0 in (h.0, opened_last emitted n c more xs (omega (arith, first)) early.1 h.1)
opened_last from n c more (Closed emitted d size ∷ xs) le early h =
    let first = early.0 in (h.0, opened_last emitted n c more xs (omega (arith, first)) early.1 h.1)

closed_last : (from n c less : ℕ) (xs : List FrameChange) → from ≤ n → AllBefore (suc n) xs → InOrder from xs →
    InOrder from (xs ++ Closed n c less ∷ [])
closed_last from n c less [] le early h = (le, tt)
closed_last from n c less (Opened emitted d size ∷ xs) le early h =
    let first = early.0 in (h.0, closed_last emitted n c less xs (omega (arith, first)) early.1 h.1)
closed_last from n c less (Closed emitted d size ∷ xs) le early h =
    let first = early.0 in (h.0, closed_last emitted n c less xs (omega (arith, first)) early.1 h.1)

-- a greatest depth that is the depth after changes before the cut
record Attains (events comp depth : ℕ) (changes : List FrameChange) (most : ℕ) : Type 0 where
  pub before : List FrameChange
  pub after : List FrameChange
  pub parts : changes ≡ before ++ after
  pub early : AllBefore events before
  pub attains : depth_after comp depth before ≡ most

at_once : (events comp depth : ℕ) (changes : List FrameChange) {most : ℕ} → depth ≡ most →
    Attains events comp depth changes most
at_once events comp depth changes is =
    record { before = []; after = changes; parts = refl; early = tt; attains = is }

uncounted : (own : Bool) (emitted events x y : ℕ) → events ≤ emitted →
    (if own && nat_lt emitted events then x else y) ≡ y
uncounted true emitted events x y le = ap (λ b. if b then x else y) (le-ltb emitted events le)
uncounted false emitted events x y le = refl

-- once the cut has come no change counts
late_deepest : (events comp depth from : ℕ) (xs : List FrameChange) → events ≤ from → InOrder from xs →
    depth ≡ deepest events comp depth xs
late_deepest events comp depth from [] le h = refl
late_deepest events comp depth from (Opened emitted c more ∷ xs) le h =
    let first = h.0 in
    let late : events ≤ emitted = omega (arith, first, le) in
    late_deepest events comp depth emitted xs late h.1 ∙ sym
    (uncounted (c == comp) emitted events (max depth (deepest events comp (depth + more) xs)) _ late)
late_deepest events comp depth from (Closed emitted c less ∷ xs) le h =
    let first = h.0 in
    let late : events ≤ emitted = omega (arith, first, le) in
    late_deepest events comp depth emitted xs late h.1 ∙ sym
    (uncounted (c == comp) emitted events (max depth (deepest events comp (depth - less) xs)) _ late)

-- the greater of two depths, of which the second is attained after a change
greater : (events comp depth next : ℕ) (change : FrameChange) (xs : List FrameChange) (most : ℕ) →
    ((ys : List FrameChange) → AllBefore events ys → AllBefore events (change ∷ ys)) →
    ((ys : List FrameChange) → depth_after comp depth (change ∷ ys) ≡ depth_after comp next ys) →
    Attains events comp next xs most → Attains events comp depth (change ∷ xs) (max depth most)
greater events comp depth next change xs most more steps rest = by (nat_le most depth) refl where
  by : (b : Bool) → nat_le most depth ≡ b → Attains events comp depth (change ∷ xs) (max depth most)
  by true is = let le = leb-true most depth is in at_once events comp depth (change ∷ xs) (omega (arith, le))
  by false is =
      let less = leb-false most depth is in
      let same : most ≡ max depth most = omega (arith, less) in
      record {
        before = change ∷ rest.before;
        after = rest.after;
        parts = ap (λ ys. change ∷ ys) rest.parts;
        early = more rest.before rest.early;
        attains = steps rest.before ∙ rest.attains ∙ same;
      }

attained_from : (events comp depth from : ℕ) (xs : List FrameChange) → InOrder from xs →
    Attains events comp depth xs (deepest events comp depth xs)
attained_from events comp depth from [] h = at_once events comp depth [] refl
attained_from events comp depth from (Opened emitted c more ∷ xs) h =
    by (attained_from events comp (depth + more) emitted xs h.1) (attained_from events comp depth emitted xs h.1)
    (c == comp) refl (nat_lt emitted events) refl where
      by : Attains events comp (depth + more) xs (deepest events comp (depth + more) xs) →
          Attains events comp depth xs (deepest events comp depth xs) →
          (own : Bool) → (c == comp) ≡ own → (early : Bool) → nat_lt emitted events ≡ early →
          Attains events comp depth (Opened emitted c more ∷ xs)
          (if own && early then max depth (deepest events comp (depth + more) xs) else deepest events comp depth xs)
      by next rest true own true early =
          greater events comp depth (depth + more) (Opened emitted c more) xs _
          (λ ys h. (ltb-true emitted events early, h))
          (λ ys. ap (λ b. if b then depth_after comp (depth + more) ys else depth_after comp depth ys) own)
          next
      by next rest false own true early =
          record {
            before = Opened emitted c more ∷ rest.before;
            after = rest.after;
            parts = ap (λ ys. Opened emitted c more ∷ ys) rest.parts;
            early = (ltb-true emitted events early, rest.early);
            attains = ap (λ b. if b then depth_after comp (depth + more) rest.before else depth_after comp depth
                rest.before) own ∙ rest.attains;
          }
      by next rest true own false late =
          at_once events comp depth _ (late_deepest events comp depth emitted xs (ltb-false emitted events late) h.1)
      by next rest false own false late =
          at_once events comp depth _ (late_deepest events comp depth emitted xs (ltb-false emitted events late) h.1)
attained_from events comp depth from (Closed emitted c less ∷ xs) h =
    by (attained_from events comp (depth - less) emitted xs h.1) (attained_from events comp depth emitted xs h.1)
    (c == comp) refl (nat_lt emitted events) refl where
      by : Attains events comp (depth - less) xs (deepest events comp (depth - less) xs) →
          Attains events comp depth xs (deepest events comp depth xs) →
          (own : Bool) → (c == comp) ≡ own → (early : Bool) → nat_lt emitted events ≡ early →
          Attains events comp depth (Closed emitted c less ∷ xs)
          (if own && early then max depth (deepest events comp (depth - less) xs) else deepest events comp depth xs)
      by next rest true own true early =
          greater events comp depth (depth - less) (Closed emitted c less) xs _
          (λ ys h. (ltb-true emitted events early, h))
          (λ ys. ap (λ b. if b then depth_after comp (depth - less) ys else depth_after comp depth ys) own)
          next
      by next rest false own true early =
          record {
            before = Closed emitted c less ∷ rest.before;
            after = rest.after;
            parts = ap (λ ys. Closed emitted c less ∷ ys) rest.parts;
            early = (ltb-true emitted events early, rest.early);
            attains = ap (λ b. if b then depth_after comp (depth - less) rest.before else depth_after comp depth
                rest.before) own ∙ rest.attains;
          }
      by next rest true own false late =
          at_once events comp depth _ (late_deepest events comp depth emitted xs (ltb-false emitted events late) h.1)
      by next rest false own false late =
          at_once events comp depth _ (late_deepest events comp depth emitted xs (ltb-false emitted events late) h.1)

depths_attained : (xs : List FrameChange) → InOrder 0 xs → (events comp : ℕ) → IsAttained events comp xs
depths_attained xs order events comp =
    let a = attained_from events comp 0 0 xs order in
    record { before = a.before; after = a.after; parts = a.parts; early = a.early; attains = a.attains }

-- STATES

abbrev Depths : Type 0
Depths = ℕ → ℕ

-- the changes so far are of moments within the trace and no end was emitted, where that was so at the beginning
record Emitted (base : State) (trace : List Event) (frames : List FrameChange) : Type 0 where
  pub moments : AllBefore (suc (length base.trace)) base.frames → AllBefore (suc (length trace)) frames
  pub endless : has_no_end base.trace ≡ true → has_no_end trace ≡ true
  pub ordered : AllBefore (suc (length base.trace)) base.frames → InOrder 0 base.frames → InOrder 0 frames

-- and these are the stack depths
record Noted (base : State) (depths : Depths) (trace : List Event) (frames : List FrameChange) : Type 0 where
  pub emitted : Emitted base trace frames
  pub open_ : (c : ℕ) → depth_after c 0 frames ≡ depths c

-- an event that isn't the end
endless_more : (xs : List Event) (e : Event) → is_end e ≡ false → has_no_end xs ≡ true →
    has_no_end (xs ++ e ∷ []) ≡ true
endless_more [] e plain h = rw plain refl
endless_more (x ∷ xs) e plain h = grind (arith, endless_more xs e plain, h)

module _ (base : State) where
  abbrev At : ℕ → Depths → State → Type 0
  At n depths s = Noted base depths s.trace s.frames

  emitted_noted : (n : ℕ) (depths : Depths) (e : Event) (s : State) → is_end e ≡ false → At n depths s →
      At n depths (emit_event e s)
  emitted_noted n depths e s plain h =
      record {
        emitted = record {
          moments = λ first. before_more (suc _) _
              (omega (arith, length-append s.trace (e ∷ []))) _ (h.emitted.moments first);
          endless = λ first. endless_more s.trace e plain (h.emitted.endless first);
          ordered = h.emitted.ordered;
        };
        open_ = h.open_;
      }

  -- the stack depths where a frame of a compartment is open besides
  abbrev wider : ℕ → ℕ → Depths → Depths
  wider comp depth depths c = if comp == c then depths c + depth else depths c

  begun_noted : (n : ℕ) (depths : Depths) (comp : ℕ) (f : Function) (args : List Value) (s : State) → At n depths s →
      At n (wider comp f.frame_size depths) (begun comp f args s)
  begun_noted n depths comp f args s h = record {
    emitted = record {
      moments = λ first. before_append (suc _) s.frames (Opened _ comp f.frame_size ∷ [])
          (h.emitted.moments first) (omega arith, tt);
      endless = h.emitted.endless;
      ordered = λ first order. opened_last 0 _ comp f.frame_size s.frames (omega arith) (h.emitted.moments first)
          (h.emitted.ordered first order);
    };
    open_ = λ c. depth_append c 0 s.frames (Opened _ comp f.frame_size ∷ [])
        ∙ ap (λ depth. if comp == c then depth + f.frame_size else depth) (h.open_ c);
  }

  done_noted : (n : ℕ) (depths : Depths) (comp : ℕ) (f : Function) (first : ℕ) (s : State) →
      At n (wider comp f.frame_size depths) s → At n depths (done comp f first s)
  done_noted n depths comp f first s h = record {
    emitted = record {
      moments = λ first. before_append (suc _) s.frames (Closed _ comp f.frame_size ∷ [])
          (h.emitted.moments first) (omega arith, tt);
      endless = h.emitted.endless;
      ordered = λ first order. closed_last 0 _ comp f.frame_size s.frames (omega arith) (h.emitted.moments first)
          (h.emitted.ordered first order);
    };
    open_ = λ c. grind (arith, depth_append c 0 s.frames (Closed (length s.trace) comp f.frame_size ∷ []), h.open_ c);
  }

  -- RUNS
  module _ (denotations : Denotations) where
    abbrev walk : Walk denotations
    walk = record {
      Place = Depths;
      At = At;
      Ends = λ end s. Emitted base s.trace s.frames;
      In = λ depths comp. Unit {0};
      Runs = λ depths comp number. Unit {0};
      inner = λ depths comp f. wider comp f.frame_size depths;
      across = λ depths to index. depths;
      cross_runs = λ depths to index number f same. tt;
      halts = λ depths s h. h.emitted;
      spent = λ n depths s none h. h.emitted;
      less = λ n m depths s is h. h;
      raised = λ n depths s h. h;
      stored = λ n depths s memory h. h;
      begins = begun_noted;
      ends = done_noted;
      enters = λ n depths from to index args s here may h. emitted_noted n depths _ s refl h;
      leaves = λ n depths from to index args v s here may h. emitted_noted n depths _ s refl h;
      reads = λ n depths from args s here may h. emitted_noted n depths (In from _) s refl h;
      writes = λ n depths from args s here may h. emitted_noted n depths _ s refl h;
    }

    module _ (obedient : Obedient denotations) (roles : Roles) where
      abbrev body : ℕ → Body
      body n = within (scripted_step denotations roles (run_step denotations)) n

      body_notes : (n : ℕ) → BodyWalks denotations walk n (body n)
      body_notes = scripted_walks denotations walk (λ n depths s h. h)
          (λ depths comp number runs. tt) (λ depths comp number f here. tt) obedient roles
          (λ comp number plain is n depths here cause line s h. h.emitted)

      -- a call from the base, and that of `main`
      abbrev at_base : Emitted base base.trace base.frames
      at_base = record { moments = λ h. h; endless = λ h. h; ordered = λ h order. order }

      abbrev kept : Depths → Property
      kept = place denotations walk 0

      own_kept : (n comp number : ℕ) (args : List Value) →
          Kept (kept (λ c. stack_depth c base)) (call_own denotations (body n) comp number args base)
      own_kept n comp number args = own_walks denotations walk n (body n) (body_notes n) _ comp
          number args (λ f. tt) base (λ none. at_base) (record { emitted = at_base; open_ = λ c. refl })

      main_kept : (n : ℕ) → Kept (kept (λ c. stack_depth c base)) (and_then
          (found (denotations.entered denotations.interfaces.main Main) base)
          (λ number s. call_own denotations (body n) denotations.interfaces.main number [] s))
      main_kept n = main_walks denotations walk n (body n) (body_notes n) _ base
          (λ none. at_base) (λ number is none. at_base) (λ number f is. tt)
          (record { emitted = at_base; open_ = λ c. refl })

module _ (denotations : Denotations) (obedient : Obedient denotations) (roles : Roles) where
  abbrev step : Step
  step = scripted_step denotations roles (run_step denotations)

  last_emitted : (base : State) (depths : Depths) (piece : Piece (Option Value)) →
      Kept (kept base denotations obedient roles
      depths) piece → Emitted base (last piece).trace (last piece).frames
  last_emitted base depths piece h = grind (arith, h)

  run_to_notes : (base : State) (depths : Depths) (main : ℕ) (piece : Piece (Option Value)) →
      AllBefore (suc (length base.trace)) base.frames → Kept (kept base denotations obedient roles depths) piece →
      ChangesAreWithin (run_to main piece)
  run_to_notes base depths main (Reached v s) first h = before_more (suc (length s.trace)) (suc (length _))
      (omega (arith, length-append s.trace (End main (exit_word v) ∷ []))) _ (h.after.emitted.moments first)
  run_to_notes base depths main (Stopped end s) first h = h.after.moments first

  run_by_notes : (globals : Memory) (inputs : List ℕ) (turns : ℕ) →
      ChangesAreWithin (run_by denotations step globals inputs turns)
  run_by_notes globals inputs turns =
      let base = first_state globals inputs turns in
      run_to_notes base (λ c. 0) denotations.interfaces.main _ tt
      (main_kept base denotations obedient roles (suc turns))

  run_to_ordered : (base : State) (depths : Depths) (main : ℕ) (piece : Piece (Option Value)) →
      AllBefore (suc (length base.trace)) base.frames → InOrder 0 base.frames →
      Kept (kept base denotations obedient roles depths) piece → InOrder 0 (run_to main piece).frames
  run_to_ordered base depths main (Reached v s) first order h = h.after.emitted.ordered first order
  run_to_ordered base depths main (Stopped end s) first order h = h.after.ordered first order

  run_by_attains : (globals : Memory) (inputs : List ℕ) (turns : ℕ) →
      DepthsAreAttained (run_by denotations step globals inputs turns)
  run_by_attains globals inputs turns =
      let base = first_state globals inputs turns in
      depths_attained _ (run_to_ordered base (λ c. 0) denotations.interfaces.main _ tt tt
      (main_kept base denotations obedient roles (suc turns)))

  leaves_depths : LeavesDepths denotations step
  leaves_depths n comp number args v s t emitted is =
      (subst (λ p. Kept (kept s denotations obedient roles (λ c. stack_depth c s)) p) is
      (own_kept s denotations obedient roles n comp number args)).after.open_

  emits_no_end : EmitsNoEnd denotations step
  emits_no_end n comp number args s h = (last_emitted s (λ c. stack_depth c s)
      (call_own denotations (within step n) comp number args s)
      (own_kept s denotations obedient roles n comp number args)
      ).endless h

pub keeps_depths : (denotations : Denotations) → Obedient denotations → KeepsDepths denotations
keeps_depths denotations obedient = record {
  emitted = run_by_notes denotations obedient idle;
  scripted_emitted = λ globals inputs turns roles. run_by_notes denotations obedient roles globals inputs turns;
  attained = run_by_attains denotations obedient idle;
  scripted_attained = λ globals inputs turns roles. run_by_attains denotations obedient roles globals inputs turns;
  returns = leaves_depths denotations obedient idle;
  scripted_returns = leaves_depths denotations obedient;
  no_end = emits_no_end denotations obedient idle;
  scripted_no_end = emits_no_end denotations obedient;
}
