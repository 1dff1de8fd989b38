-- Where a run stands, as pieces come to something and things are left to wait; loops.
use Rattle.sc_run.proofs.Common.{Acts, Body as Body', Bool, Break, Caller, CameTo, Comes, Doing, Err, Exit, Frame, Go}
use Rattle.sc_run.proofs.Common.{Left, List, Loop, Next, Now, Ok, Piece, ProgramTree, Reached, Run as Run', RunEnd}
use Rattle.sc_run.proofs.Common.{Seen, SourceRun, Standing, State, Step, Steps, Stop, Stopped, Value, Work, []}
use Rattle.sc_run.proofs.Common.{and_then, ap, arith, block_acts, choose, does_now, evaluated, false, follow, here_of}
use Rattle.sc_run.proofs.Common.{if◌then◌else◌, in_body, in_loop, is_true, leave, length, loop_acts, next_acts, refl}
use Rattle.sc_run.proofs.Common.{resume, reverse, reverse-append, subst, suc, sym, then_then, true, turn, way_in, ℕ}
use Rattle.sc_run.proofs.Common.{◌++◌, ◌∙◌, ◌∷◌, ◌≡◌, ◌≤◌, Leave, ◌+◌, ◌<◌}
use Rattle.sc_core.specs.Prelude.{take}
use Rattle.sc_run.proofs.Coming.{then_stops}
use Rattle.sc_run.proofs.Weighing.{eased, goes_now, is_over, light_earlier, light_later, light_waited, lighter}
use Rattle.sc_run.proofs.Weighing.{put_aside, round_falls, taken_up, turns_taken, weighs_more}
use Rattle.sc_run.specs.Prelude.{ComesMaking}
use Rattle.sc_run.specs.Weights.{loop_weight, now_weight, weight}
use Rattle.sc_run.proofs.Going.{loop_is}
use Rattle.sc_run.specs.declared.work.Leaving.TheVariants as leaving
use Rattle.sc_core.specs.declared.value.Want.TheVariants as want

-- what follows a value
abbrev pub Follows : Type 0 → Type 0
Follows V = ℕ → V → State → Piece (Left (Unit {0}))

module _ (program : ProgramTree) where
  -- nothing that waits is done after the end of the run
  pub resume_stopped : (n : ℕ) (work : List Work) (f : Frame) (end : RunEnd) (s : State) →
      (resume program n work f (Stopped end s)).behaviour ≡ record { trace = s.trace; end = end }
  resume_stopped n [] f end s = refl
  resume_stopped n (Caller caller to crossing ∷ work) f end s = resume_stopped _ work caller end s
  resume_stopped n (_ ∷ work) f end s = resume_stopped n work f end s

  module _ (whole : SourceRun) (work : List Work) (f : Frame) where
    -- the same, as the piece is stated otherwise
    pub standing_as : {seen : Seen} {p q : Doing} → ((n : ℕ) (s : State) → p n s ≡ q n s) →
        Standing program whole seen work f p → Standing program whole seen work f q
    standing_as same h =
        record {
          open_calls = h.open_calls;
          state = h.state;
          is_seen = h.is_seen;
          enough = h.enough;
          rest = ap (λ x. (resume program h.open_calls (reverse work) f x).behaviour) (sym (same _ h.state)) ∙ h.rest;
        }

    goes_at : {V : Type 0} {after : Seen} (v : V) (n : ℕ) (x : Piece V) (go : Follows V) → CameTo (Ok v) after x →
        after.turns ≤ n → (resume program n (reverse work) f (and_then x (go n))).behaviour ≡ whole →
        Standing program whole after work f (λ n s. go n v s)
    goes_at {after} v n (Reached w t) go c enough rest =
        record {
          open_calls = n;
          state = t;
          is_seen = c.1;
          enough = le (ap (λ x. x.turns) c.1) enough;
          rest = ap (λ y. (resume program n (reverse work) f (go n y t)).behaviour) (sym c.0) ∙ rest;
        } where
          le : t.turns ≡ after.turns → after.turns ≤ n → t.turns ≤ n
          le a b = omega (arith, a, b)
    goes_at v n (Stopped end t) go c enough rest = elim c [ ]

    -- a piece that came to a value: what follows it is done
    pub goes_on : {V : Type 0} {before after : Seen} {v : V} {p : State → Piece V} (go : Follows V) →
        Comes before after (Ok v) p → Standing program whole before work f (λ n s. and_then (p s) (go n)) →
        Standing program whole after work f (λ n s. go n v s)
    goes_on {before} {after} {v} go c h = goes_at v _ _ go (c.comes h.state h.is_seen)
        (fewer (ap (λ x. x.turns) h.is_seen) c.fewer h.enough) h.rest where
          fewer : h.state.turns ≡ before.turns → after.turns ≤ before.turns → h.state.turns ≤ h.open_calls →
              after.turns ≤ h.open_calls
          fewer a b d = omega (arith, a, b, d)

  -- the same with something that waits
  pub moved : {whole : SourceRun} {seen : Seen} {work later : List Work} {f : Frame} {p q : Doing} →
      ((n : ℕ) (s : State) → resume program n (reverse work) f (p n s) ≡ resume program n (reverse later) f (q n s)) →
      Standing program whole seen work f p → Standing program whole seen later f q
  moved same h =
      record {
        open_calls = h.open_calls;
        state = h.state;
        is_seen = h.is_seen;
        enough = h.enough;
        rest = ap (λ x. x.behaviour) (sym (same _ h.state)) ∙ h.rest;
      }

-- the newest thing that waits stands first
pub newest_first : (work : List Work) (w : Work) → reverse (work ++ w ∷ []) ≡ w ∷ reverse work
newest_first work w = reverse-append work _

module _ (program : ProgramTree) (after : Seen) (work : List Work) (f : Frame) where
  ended_at : {whole : SourceRun} {end : RunEnd} (n : ℕ) (x : Piece (Left (Unit {0}))) → CameTo (Err end) after x →
      (resume program n (reverse work) f x).behaviour ≡ whole → whole ≡ record { trace = after.trace; end = end }
  ended_at n (Reached w t) c rest = elim c [ ]
  ended_at n (Stopped e t) c rest =
      sym rest ∙ resume_stopped program n (reverse work) f e t ∙ (λ i. record { trace = (c.1 i).trace; end = c.0 i })

module _ {program : ProgramTree} {cost : ℕ} {before after : Seen} {work : List Work} {f : Frame} where
  -- a step that ends the run
  pub step_stops : {V : Type 0} {end : RunEnd} {p : State → Piece V} (go : Follows V) → Comes before after (Err end) p →
      Steps program cost before work f (λ n s. and_then (p s) (go n)) (Stop end) after work f
  step_stops go c =
      record {
        stands = λ whole h. ended_at program after work f _ _ ((then_stops _ c).comes h.state h.is_seen) h.rest;
        falls = λ light waiting. is_over;
      }

  pub step_ends : {made : ℕ} {end : RunEnd} {p : State → Piece (Left (Unit {0}))} →
      ComesMaking made before after (Err end) p → Steps program cost before work f (λ n s. p s) (Stop end) after work f
  step_ends c =
      record {
        stands = λ whole h. ended_at program after work f _ _ (c.comes h.state h.is_seen) h.rest;
        falls = λ light waiting. is_over;
      }

module _ (program : ProgramTree) (f : Frame) where
  module _ (l : Loop) where
    -- a loop once its condition was looked at
    abbrev pub tested : ℕ → Bool → State → Piece (Left (Unit {0}))
    tested n true s = and_then (turn s) (λ _ s. follow in_loop (block_acts program n f l.body.now tt s)
        (λ a s. follow in_loop (next_acts program n f l a s) (loop_acts program n f l)))
    tested n false s = leave Next tt s

    by_truth : (n : ℕ) (b : Bool) (s : State) → follow in_loop (if b then leave Next tt s else leave Break tt s) (λ a s.
        and_then (turn s) (λ _ s. follow in_loop (block_acts program n f l.body.now a s) (λ a s. follow in_loop
        (next_acts program n f l a s) (loop_acts program n f l)))) ≡ tested n b s
    by_truth n true s = refl
    by_truth n false s = refl

    abbrev pub cond_evaluated : State → Piece Value
    cond_evaluated s = evaluated (here_of f.scope) want.Value (way_in f l.cond.now) l.line s

    abbrev pub rest_of_round : ℕ → Acts
    rest_of_round n a s = and_then (turn s) (λ _ s. follow in_loop (block_acts program n f l.body.now a s)
        (λ a s. follow in_loop (next_acts program n f l a s) (loop_acts program n f l)))

    -- a loop: its condition, a turn, its body, and the loop again
    pub round_is : (n : ℕ) (s : State) →
        loop_acts program n f l tt s ≡ and_then (cond_evaluated s) (λ v s. tested n (is_true v) s)
    round_is n s = loop_is program n f l s ∙ then_then (cond_evaluated s) (λ v s. choose v _ _)
        (λ left s. take (in_loop _) (rest_of_round n) _ s) ∙
        (λ i. and_then (cond_evaluated s) (λ v s. by_truth n (is_true v) s i))

module _ {program : ProgramTree} {before : Seen} {work : List Work} {f : Frame} where
  pub steps_as : {cost : ℕ} {p q : Doing} {step : Step} {after : Seen} {later : List Work} {g : Frame} →
      ((n : ℕ) (s : State) → p n s ≡ q n s) → Steps program cost before work f q step after later g →
      Steps program cost before work f p step after later g
  steps_as same h =
      record {
        stands = λ whole standing. h.stands whole (standing_as program whole work f same standing);
        falls = h.falls;
      }

  -- the same of what weighs more
  pub steps_weaken : {cost rest : ℕ} {p : Doing} {step : Step} {after : Seen} {later : List Work} {g : Frame} →
      rest ≤ cost → Steps program rest before work f p step after later g →
      Steps program cost before work f p step after later g
  steps_weaken {step} le h =
      record {
        stands = h.stands;
        falls = λ light waiting. eased (weighs_more before work le) (h.falls (omega (arith, le, light)) waiting);
      }

  -- a piece that came to a value, before the rest of a step
  pub steps_on : {cost : ℕ} {V : Type 0} {middle after : Seen} {v : V} {p : State → Piece V} (go : Follows V)
      {step : Step} {later : List Work} {g : Frame} → Comes before middle (Ok v) p →
      Steps program cost middle work f (λ n s. go n v s) step after later g →
      Steps program cost before work f (λ n s. and_then (p s) (go n)) step after later g
  steps_on go c h =
      record {
        stands = λ whole standing. h.stands whole (goes_on program whole work f go c standing);
        falls = λ light waiting. eased
            (turns_taken work c.fewer (λ comp. omega (arith, c.lengths comp))) (h.falls light waiting);
      }

  -- something more that waits
  pub steps_wait : {cost rest : ℕ} (w : Work) {later last : List Work} {p q : Doing} {step : Step} {after : Seen}
      {g : Frame} → later ≡ work ++ w ∷ [] → rest + weight w ≤ cost →
      ((n : ℕ) (s : State) →
      resume program n (reverse work) f (p n s) ≡ resume program n (w ∷ reverse work) f (q n s)) →
      Steps program rest before later f q step after last g →
      Steps program cost before work f p step after last g
  steps_wait w {q} {step} is fits same h =
      record {
        falls = λ light waiting. eased (put_aside work w is before fits) (h.falls (omega (arith, fits, light))
            (light_later work w is waiting (omega (arith, fits, light))));
        stands = λ whole standing. h.stands whole (moved program
            (λ n s. same n s ∙ ap (λ ws. resume program n ws f (q n s)) (sym (ap reverse is ∙ newest_first work w)))
            standing);
      }

  -- something that waited is taken up
  pub steps_resume : {cost : ℕ} (w : Work) {earlier last : List Work} {p q : Doing} {step : Step} {after : Seen}
      {g : Frame} → work ≡ earlier ++ w ∷ [] → cost ≤ suc (weight w) →
      ((n : ℕ) (s : State) →
      resume program n (w ∷ reverse earlier) f (p n s) ≡ resume program n (reverse earlier) f (q n s)) →
      Steps program cost before earlier f q step after last g →
      Steps program 1 before work f p step after last g
  steps_resume w {earlier} {p} {step} is fits same h =
      record {
        falls = λ light waiting. eased (taken_up earlier w is before (omega (arith, fits)))
            (h.falls (omega (arith, fits, lighter w (light_waited earlier w is waiting))) (light_earlier earlier w is
            waiting));
        stands = λ whole standing. h.stands whole (moved program
            (λ n s. ap (λ ws. resume program n ws f (p n s)) (ap reverse is ∙ newest_first earlier w) ∙ same n s)
            standing);
      }

  -- what is left to do is done by a later step
  pub steps_later : {cost : ℕ} {now : Now} {p : Doing} → now_weight now < cost →
      ((n : ℕ) (s : State) → p n s ≡ does_now program f now n s) →
      Steps program cost before work f p (Go now) before work f
  steps_later less same =
      record {
        stands = λ whole standing. standing_as program whole work f same standing;
        falls = λ light waiting. goes_now (record {
          less = omega (arith, less);
          lengths = λ comp. omega (arith, less);
          light = omega (arith, less, light);
          waiting = waiting;
        });
      }

  module _ {cost : ℕ} (l : Loop) where
    pub round_err : {end : RunEnd} → Comes before before (Err end) (cond_evaluated program f l) →
        Steps program cost before work f (λ n. loop_acts program n f l tt) (Stop end) before work f
    round_err c = steps_as (round_is program f l) (step_stops (λ n v s. tested program f l n _ s) c)

    pub round_goes : {v : Value} {after : Seen} {step : Step} {later : List Work} →
        Comes before before (Ok v) (cond_evaluated program f l) → is_true v ≡ true →
        Steps program cost before work f (λ n s. tested program f l n true s) step after later f →
        Steps program cost before work f (λ n. loop_acts program n f l tt) step after later f
    round_goes {v} c true_is h = steps_as (round_is program f l) (steps_on (λ n v s. tested program f l n _ s) c
        (steps_as (λ n s. ap (λ b. tested program f l n b s) true_is) h))

    pub round_out : {v : Value} {after : Seen} {end : RunEnd} →
        Comes before before (Ok v) (cond_evaluated program f l) → is_true v ≡ true → Comes before after (Err end) turn →
        Steps program cost before work f (λ n. loop_acts program n f l tt) (Stop end) after work f
    round_out c true_is t = round_goes c true_is (step_stops (λ n u s. in_body program f l l.body.now n s) t)

module _ {program : ProgramTree} {before after : Seen} {work later : List Work} {f : Frame} (l : Loop) where
  pub round_in : {v : Value} → Comes before before (Ok v) (cond_evaluated program f l) → is_true v ≡ true →
      Comes before after (Ok tt) turn → before.turns ≡ suc after.turns → later ≡ work ++ Body' l ∷ [] →
      Steps program (loop_weight l) before work f (λ n. loop_acts program n f l tt) (Go (Run' l.body)) after later f
  round_in c true_is t taken is = record {
    stands = begins.stands;
    falls = λ light waiting. goes_now (round_falls l taken (λ comp. omega (arith, t.lengths comp)) is light waiting);
  } where
    begins : Steps program (suc (loop_weight l) + weight (Body' l)) before work f (λ n. loop_acts program n f l tt)
        (Go (Run' l.body)) after later f
    begins = round_goes l c true_is (steps_on _ t (steps_wait _ is (omega arith) (λ n s. refl)
        (steps_later {cost = suc (loop_weight l)} (omega arith) (λ n s. refl))))

-- the test of a loop doesn't hold
pub round_ends : {program : ProgramTree} {before : Seen} {work : List Work} {f : Frame} (l : Loop) {v : Value} →
    Comes before before (Ok v) (cond_evaluated program f l) → is_true v ≡ false →
    Steps program (loop_weight l) before work f (λ n. loop_acts program n f l tt) (Go (Leave leaving.Next))
    before work f
round_ends {program} {f} l c false_is = steps_as (round_is program f l) (steps_on (λ n v s. tested program f l n _ s) c
    (steps_as (λ n s. ap (λ b. tested program f l n b s) false_is) (steps_later (omega arith) (λ n s. refl))))

not_none : {n : ℕ} → suc n ≡ 0 → ⊥
not_none e = omega (arith, e)

-- nothing waits
pub nothing_waits : {program : ProgramTree} {cost : ℕ} {before after : Seen} (work later : List Work) {f g : Frame}
    {p : Doing} {step : Step} → length work ≡ 0 → length later ≡ 0 → Steps program cost before [] f p step after [] g →
    Steps program cost before work f p step after later g
nothing_waits [] [] a b h = h
nothing_waits [] (w ∷ later) a b h = absurd (not_none b)
nothing_waits (w ∷ work) later a b h = absurd (not_none a)

module _ {program : ProgramTree} {before after : Seen} {work later : List Work} {f g : Frame} {w x : Work} {p : Doing}
    {step : Step} where
  pub taken : {cost : ℕ} {earlier : List Work} (exit : Exit) → work ≡ earlier ++ w ∷ [] → w ≡ x →
      cost ≤ suc (weight x) → Steps program cost before earlier f p step after later g →
      ((n : ℕ) (s : State) →
      resume program n (x ∷ reverse earlier) f (leave exit tt s) ≡ resume program n (reverse earlier) f (p n s)) →
      Steps program 1 before work f (λ n s. leave exit tt s) step after later g
  taken {earlier} exit popped is fits h same = steps_resume x (popped ∙ ap (λ y. earlier ++ y ∷ []) is) fits same h

-- the same, as what waits is stated otherwise
pub work_as : {program : ProgramTree} {cost : ℕ} {before after : Seen} {work other later : List Work} {f g : Frame}
    {p : Doing} {step : Step} → work ≡ other → Steps program cost before work f p step after later g →
    Steps program cost before other f p step after later g
work_as {program} {cost} {before} {after} {later} {f} {g} {p} {step} is h =
    subst (λ ws. Steps program cost before ws f p step after later g) is h
