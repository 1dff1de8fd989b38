-- What is done at once, and leaves nothing that waits.
use Rattle.sc_run.proofs.Common.{Acts, Bool, Bor, CameTo, Comes, Doing, Exit, Frame, Go, Left, List, Loop, Memory, Next}
use Rattle.sc_run.proofs.Common.{None, Ok, Option, Passes, PassesIf, Piece, ProgramTree, Reached, Return, Route}
use Rattle.sc_run.proofs.Common.{Run as Run', RunEnd, Seen, Some, SourceRun, Standing, State, Step, Steps, Stop}
use Rattle.sc_run.proofs.Common.{Stopped, TypedExpr, TypedStmt, Value, Work, [], and_then, ap, arith, assign}
use Rattle.sc_run.proofs.Common.{block_acts, choose, drop, drop-step, drop_all, ended_so, false, follow, get_or}
use Rattle.sc_run.proofs.Common.{here_of, if◌then◌else◌, in_body, in_loop, in_order, in_round, is_true, leave, left_at}
use Rattle.sc_run.proofs.Common.{length, length-drop, loop_acts, next_acts, refl, resume, reverse, roll-TypedStmtKind}
use Rattle.sc_run.proofs.Common.{seen_of, stmt_acts, store_at, stored, subst, suc, sym, take, take_all, true, way_in, ℕ}
use Rattle.sc_run.proofs.Common.{◌+◌, ◌-◌, ◌<◌, ◌==◌, ◌∙◌, ◌∷◌, ◌≡◌, ◌≤◌, Body as Body', First, Leave, Rest, ◌++◌}
use Rattle.sc_run.specs.declared.work.Position.{Position}
use Rattle.sc_run_value.specs.Assigning.{AssignedIf, Holding}
use Rattle.sc_run.proofs.Coming.{computed_comes, stored_ok, then_goes, turn_comes, usual, with_memory}
use Rattle.sc_run.proofs.Looping.{round_is, steps_as, steps_later, steps_on, steps_wait, steps_weaken, tested, Follows}
use Rattle.sc_run.proofs.Stating.{followed_by_nothing, first_and_rest, stmt_is}
use Rattle.sc_run.proofs.Blank.{way_same}
use Rattle.sc_run.proofs.Weighing.{block_split, eased, goes_now, is_over, light_later, lighter, place_light}
use Rattle.sc_run.proofs.Weighing.{rounds_paid, turns_taken}
use Rattle.sc_run.specs.Prelude.{ComesMaking}
use Rattle.sc_run.specs.Weights.{IsLess, block_nodes, block_weight, leaf_weight, loop_weight, place_weight, weight}
use Rattle.std.proofs.Common.{◌*◌}
use Rattle.sc_core.specs.declared.stmt.TypedStmtKind.TheOpen as layer
use Rattle.sc_core.specs.declared.value.Want.TheVariants as want
use Rattle.sc_run.specs.declared.work.Leaving.TheVariants as leaving

at_most : (a b c : ℕ) → b ≤ a → c ≤ b → c ≤ a
at_most a b c x y = omega (arith, x, y)

enough_left : {a b c d : ℕ} (n : ℕ) → a ≡ b → c ≡ d → d ≤ b → a ≤ n → c ≤ n
enough_left n p q x y = omega (arith, p, q, x, y)

pub turns_fall : {a b : ℕ} (c d : ℕ) → a ≡ suc b → c ≤ b → d ≤ c → d < a
turns_fall c d p x y = omega (arith, p, x, y)

-- nothing is done
pub stays_so : {seen : Seen} {p : Doing} → Passes seen seen p p
stays_so =
    record { passes = λ n s is_seen. (s, is_seen, refl); fewer = omega arith; lengths = λ comp. omega arith }

pub unchanged : {before after : Seen} {p : Doing} → after ≡ before → Passes before after p p
unchanged {before} {p} is = subst (λ x. Passes before x p p) (sym is) stays_so

-- one after the other
pub then_passes : {before middle after : Seen} {p q r : Doing} → Passes before middle p q → Passes middle after q r →
    Passes before after p r
then_passes h k =
    record {
      passes = λ n s is_seen.
          let a = h.passes n s is_seen in
          let b = k.passes n a.0 a.1 in
          (b.0, b.1, a.2 ∙ b.2);
      fewer = at_most _ _ _ h.fewer k.fewer;
      lengths = λ comp. at_most _ _ _ (h.lengths comp) (k.lengths comp);
    }

-- the same, stated otherwise
pub passes_as : {before after : Seen} {p q r : Doing} → ((n : ℕ) (s : State) → p n s ≡ q n s) →
    Passes before after q r → Passes before after p r
passes_as same h =
    record {
      passes = λ n s is_seen. let a = h.passes n s is_seen in (a.0, a.1, same n s ∙ a.2);
      fewer = h.fewer;
      lengths = h.lengths;
    }

pub passes_if_as : (b : Bool) (before after : Seen) (p q r : Doing) → ((n : ℕ) (s : State) → p n s ≡ q n s) →
    PassesIf b before after q r → PassesIf b before after p r
passes_if_as true before after p q r same h = passes_as same h
passes_if_as false before after p q r same h = h

reached_at : {V : Type 0} (after : Seen) (v : V) (y : Piece V) (go : V → State → Piece (Left (Unit {0}))) →
    CameTo (Ok v) after y → (t : State) × (seen_of t ≡ after) × (and_then y go ≡ go v t)
reached_at after v (Reached w t) go c = (t, c.1, ap (λ z. go z t) c.0)
reached_at after v (Stopped end t) go c = elim c [ ]

-- a piece that comes to a value, and what follows it
pub passes_by : {V : Type 0} {before after : Seen} {v : V} {x : State → Piece V} (go : Follows V) →
    Comes before after (Ok v) x → Passes before after (λ n s. and_then (x s) (go n)) (λ n s. go n v s)
passes_by {after} {v} {x} go h =
    record {
      passes = λ n s is_seen. reached_at after v (x s) (go n) (h.comes s is_seen);
      fewer = h.fewer;
      lengths = λ comp. omega (arith, h.lengths comp);
    }

ended_at : (after : Seen) (y : Piece (Left (Unit {0}))) → CameTo usual after y →
    (t : State) × (seen_of t ≡ after) × (y ≡ leave Next tt t)
ended_at after (Reached w t) c = (t, c.1, ap (λ z. Reached z t) c.0)
ended_at after (Stopped end t) c = elim c [ ]

-- a piece that comes to its end
pub passes_to_end : {before after : Seen} {x : State → Piece (Left (Unit {0}))} → Comes before after usual x →
    Passes before after (λ n s. x s) ended_so
passes_to_end {after} {x} h =
    record {
      passes = λ n s is_seen. ended_at after (x s) (h.comes s is_seen);
      fewer = h.fewer;
      lengths = λ comp. omega (arith, h.lengths comp);
    }

-- with something that follows
pub passes_follow : {before after : Seen} {p q : Doing} (route : Exit → Route) (go : ℕ → Acts) →
    Passes before after p q →
    Passes before after (λ n s. follow route (p n s) (go n)) (λ n s. follow route (q n s) (go n))
passes_follow route go h =
    record {
      passes = λ n s is_seen.
          let a = h.passes n s is_seen in
          (a.0, a.1, ap (λ y. follow route y (go n)) a.2);
      fewer = h.fewer;
      lengths = h.lengths;
    }

module _ {program : ProgramTree} {before middle : Seen} {work : List Work} {f : Frame} {p q : Doing} where
  passed : {whole : SourceRun} → Passes before middle p q →
      Standing program whole before work f p → Standing program whole middle work f q
  passed h st =
      let a = h.passes st.open_calls st.state st.is_seen in
      record {
        open_calls = st.open_calls;
        state = a.0;
        is_seen = a.1;
        enough = enough_left _ (ap (λ x. x.turns) st.is_seen) (ap (λ x. x.turns) a.1) h.fewer st.enough;
        rest = ap (λ x. (resume program st.open_calls (reverse work) f x).behaviour) (sym a.2) ∙ st.rest;
      }

  -- a step from where the run got to
  pub steps_after : {cost : ℕ} {step : Step} {after : Seen} {later : List Work} {g : Frame} → Passes before middle p q →
      Steps program cost middle work f q step after later g → Steps program cost before work f p step after later g
  steps_after {step} h k =
      record {
        stands = λ whole st. k.stands whole (passed h st);
        falls = λ light waiting. eased (turns_taken work h.fewer h.lengths) (k.falls light waiting);
      }

module _ {program : ProgramTree} {before after : Seen} {work : List Work} {f : Frame} where
  -- a piece that came to its end, and made a block at most
  pub step_done : {made : ℕ} {x : State → Piece (Left (Unit {0}))} → made ≤ 1 →
      ComesMaking made before after usual x →
      Steps program leaf_weight before work f (λ n s. x s) (Go (Leave leaving.Next)) after work f
  step_done {made} {x} le c =
      record {
        stands = λ whole st.
            let a = ended_at after (x st.state) (c.comes st.state st.is_seen) in
            record {
              open_calls = st.open_calls;
              state = a.0;
              is_seen = a.1;
              enough = enough_left _ (ap (λ x. x.turns) st.is_seen) (ap (λ x. x.turns) a.1) c.fewer st.enough;
              rest = ap (λ x. (resume program st.open_calls (reverse work) f x).behaviour) (sym a.2) ∙ st.rest;
            };
        falls = λ light waiting. goes_now (record {
          less = omega (arith, c.fewer);
          lengths = λ comp. omega (arith, le, c.fewer, c.lengths comp);
          light = omega arith;
          waiting = waiting;
        });
      }

-- an assignment
module _ (f : Frame) (place value : TypedExpr) (line : ℕ) (seen : Seen) (memory : Memory) where
  abbrev assigning : Doing
  assigning n s = assign (here_of f.scope) (way_in f place) (way_in f value) line tt s

  pub assigned_passes : (b : Bool) →
      AssignedIf b f.scope.comp.now (way_in f place) (way_in f value) seen.memory memory →
      PassesIf b seen (with_memory seen memory) assigning ended_so
  assigned_passes false h = ap (λ m. with_memory seen m) h
  assigned_passes true h = passes_to_end (then_goes (λ v s. store_at (here_of f.scope) (way_in f place) v line tt s)
      (computed_comes (here_of f.scope) line (λ bs. way_in f value _ bs) (way_same _ (here_of f.scope) _ value _) seen
      (sym h.is)) (then_goes (λ q s. stored (here_of f.scope) q h.given line tt s)
      (computed_comes (here_of f.scope) line (λ bs. way_in f place _ bs) (way_same _ (here_of f.scope) _ place _) seen
      (sym h.put.found)) (stored_ok (here_of f.scope) _ h.given line h.put.stored.is h.put.stored.others)))

pub rest_at : {A : Type 0} (n : ℕ) (xs : List A) → take (length xs - n) (drop n xs) ≡ drop n xs
rest_at n xs = take_all _ _ (omega (arith, length-drop n xs))

pub none_in : (xs : List TypedStmt) {b : Bool} → b ≡ (length xs == 0) → b ≡ true → xs ≡ []
none_in [] is empty = refl
none_in (x ∷ xs) is empty = grind arith

module _ (program : ProgramTree) (f : Frame) where
  abbrev assigned_by : TypedExpr → TypedExpr → ℕ → Doing
  assigned_by place e line n s = assign (here_of f.scope) (way_in f place) (way_in f e) line tt s

  abbrev stmt_by : TypedStmt → Doing
  stmt_by stmt n s = stmt_acts program n f stmt tt s

  abbrev block_by : List TypedStmt → Doing
  block_by stmts n s = block_acts program n f stmts tt s

  -- the first `at` of the statements are done
  abbrev DoneTo : List TypedStmt → ℕ → Seen → Seen → Type 0
  DoneTo stmts at before after = Passes before after (block_by stmts) (block_by (drop at stmts))

  abbrev left_by : Exit → Doing
  left_by exit n s = leave exit tt s

  pub empty_done : (stmt : TypedStmt) {seen : Seen} → stmt.kind ≡ roll-TypedStmtKind layer.Empty →
      Passes seen seen (stmt_by stmt) ended_so
  empty_done stmt is = passes_as (stmt_is program f stmt _ is) stays_so

  pub assign_done : (stmt : TypedStmt) (place e : TypedExpr) (b : Bool) (before after : Seen) →
      stmt.kind ≡ roll-TypedStmtKind (layer.Assign place e) →
      PassesIf b before after (assigned_by place e stmt.line) ended_so → PassesIf b before after (stmt_by stmt) ended_so
  assign_done stmt place e b before after is h = passes_if_as b before after _ _ _ (stmt_is program f stmt _ is) h

  -- one more statement
  pub one_more : (stmts : List TypedStmt) (at : ℕ) {stmt : TypedStmt} (before : Seen) {middle after : Seen} →
      at < length stmts → stmt ≡ get_or stmts at stmt → DoneTo stmts at before middle →
      Passes middle after (stmt_by stmt) ended_so → DoneTo stmts (at + 1) before after
  one_more stmts at {stmt} before there item h k = then_passes h (passes_as
      (λ n s. ap (λ xs. block_by xs n s) (drop-step stmts at stmt there item)) (passes_follow in_order _ k))

  pub all_done : (stmts : List TypedStmt) (at : ℕ) (before after : Seen) → length stmts ≤ at →
      DoneTo stmts at before after → DoneTo stmts (length stmts) before after
  all_done stmts at before after le h = subst (λ xs. Passes before after (block_by stmts) (block_by xs))
      (drop_all at stmts le ∙ sym (drop_all _ stmts (omega arith))) h

  -- the statements that a condition chooses
  pub chosen_part : (stmt : TypedStmt) (cond : TypedExpr) (x y : List TypedStmt) {v : Value} {seen : Seen} {b : Bool} →
      stmt.kind ≡ roll-TypedStmtKind (layer.If cond x y) →
      Ok v ≡ way_in f cond want.Value (seen.memory f.scope.comp.now) → is_true v ≡ b →
      Passes seen seen (stmt_by stmt) (λ n s. if b then block_by x n s else block_by y n s)
  chosen_part stmt cond x y {seen} is gives holds = passes_as (stmt_is program f stmt _ is) (then_passes (passes_by
      (λ n v s. choose v (block_by x n s) (block_by y n s)) (computed_comes (here_of f.scope) stmt.line
      (λ bs. way_in f cond _ bs) (way_same _ (here_of f.scope) _ cond _) seen gives))
      (passes_as (λ n s. ap (λ b. if b then block_by x n s else block_by y n s) holds) stays_so))

  -- what is left of the part that was chosen
  pub part_left : {before middle after : Seen} (stmt : TypedStmt) (part : List TypedStmt) (count : ℕ) →
      middle ≡ before → Passes middle middle (stmt_by stmt) (block_by part) → DoneTo part count middle after →
      Passes before after (stmt_by stmt) (block_by (take (length part - count) (drop count part)))
  part_left {middle} {after} stmt part count same h k =
      subst (λ x. Passes x after (stmt_by stmt) (block_by (take (length part - count) (drop count part)))) same
      (then_passes h (subst (λ xs. Passes middle after (block_by part) (block_by xs)) (sym (rest_at count part)) k))

  -- part of one more statement
  pub within_one : (stmts part : List TypedStmt) (at : ℕ) {stmt : TypedStmt} {before middle after : Seen} →
      at < length stmts → stmt ≡ get_or stmts at stmt → DoneTo stmts at before middle →
      Passes middle after (stmt_by stmt) (block_by part) → Passes before after (block_by stmts) (λ n s. follow in_order
      (block_acts program n f part tt s) (block_acts program n f (drop (at + 1) stmts)))
  within_one stmts part at {stmt} there item h k =
      then_passes h (passes_as (λ n s. ap (λ xs. block_by xs n s) (drop-step stmts at stmt there item))
      (passes_follow in_order (λ n. block_acts program n f _) k))

  pub none_after : (stmts : List TypedStmt) (at : ℕ) {before after : Seen} → length stmts ≤ at →
      DoneTo stmts at before after → Passes before after (block_by stmts) ended_so
  none_after stmts at le h =
      then_passes h (passes_as (λ n s. ap (λ xs. block_by xs n s) (drop_all at stmts le)) stays_so)

  -- control leaves a function
  pub value_leaves : (stmt : TypedStmt) (e : TypedExpr) {v : Value} {seen : Seen} →
      stmt.kind ≡ roll-TypedStmtKind (layer.ReturnValue e) →
      Ok v ≡ way_in f e want.Value (seen.memory f.scope.comp.now) → (rest : List TypedStmt) →
      Passes seen seen (block_by (stmt ∷ rest)) (left_by (Return (Some v)))
  value_leaves stmt e {seen} is gives rest =
      passes_as (λ n s. ap (λ p. follow in_order p (block_acts program n f rest)) (stmt_is program f stmt _ is n s))
      (passes_follow in_order (λ n. block_acts program n f rest) (passes_by (λ n v s. leave (Return _) tt s)
      (computed_comes (here_of f.scope) stmt.line (λ bs. way_in f e _ bs) (way_same _ (here_of f.scope) _ e _) seen
      gives)))

  pub first_leaves : (stmts : List TypedStmt) {stmt : TypedStmt} (exit : Exit) {seen : Seen} → 1 ≤ length stmts →
      stmt ≡ get_or stmts 0 stmt →
      ((rest : List TypedStmt) → Passes seen seen (block_by (stmt ∷ rest)) (left_by exit)) →
      Passes seen seen (block_by stmts) (left_by exit)
  first_leaves stmts exit le item h =
      passes_as (λ n s. ap (λ xs. block_by xs n s) (first_and_rest stmts le item)) (h (drop 1 stmts))

  module _ (l : Loop) where
    abbrev next_by : Doing
    next_by n s = next_acts program n f l tt s

    abbrev loop_by : Doing
    loop_by n s = loop_acts program n f l tt s

    -- a round begins: its test holds, and there is a turn
    pub round_begins : {seen : Seen} {k : ℕ} → Holding (way_in f l.cond.now) (seen.memory f.scope.comp.now) →
        seen.turns ≡ suc k → Passes seen (record seen { turns = k }) loop_by (in_body program f l l.body.now)
    round_begins {seen} h turns = passes_as (round_is program f l) (then_passes (passes_by
        (λ n v s. tested program f l n _ s) (computed_comes (here_of f.scope) l.line (λ bs. way_in f _ _ bs)
        (way_same _ (here_of f.scope) _ _ _) seen (sym h.is))) (passes_as
        (λ n s. ap (λ b. tested program f l n b s) h.holds)
        (passes_by (λ n u s. in_body program f l _ n s) (turn_comes turns))))

    -- statements of the body are done
    pub body_done : {before middle after : Seen} (at : Option Position) →
        Passes before middle loop_by (in_body program f l l.body.now) →
        Passes middle after (block_by l.body.now) (left_at program f l.body.now at) → Passes before after loop_by (λ n
        s. follow in_loop (left_at program f l.body.now at n s) (λ a s. follow in_loop (next_acts program n f l a s)
        (loop_acts program n f l)))
    body_done at h k = then_passes h (passes_follow in_loop _ k)

    -- the rest of a round, while the loop waits
    pub round_left : {before middle after : Seen} {work later last : List Work} (at : Position) {step : Step}
        {g : Frame} → IsLess l.body.now at → middle.turns < before.turns →
        Passes before middle loop_by (in_round program f l (Some at)) → later ≡ work ++ Body' l ∷ [] →
        Steps program (place_weight l.body.now at) middle later f (left_at program f l.body.now (Some at)) step after
        last g → Steps program (loop_weight l) before work f loop_by step after last g
    round_left {before} {middle} {work} at {step} less fewer h is k =
        record {
          stands = (steps_after h (steps_wait {cost = place_weight l.body.now at + weight (Body' l)} (Body' l) is
              (omega arith) (λ n s. refl) k)).stands;
          falls = λ light waiting. eased (rounds_paid l at less fewer h.lengths is light)
              (k.falls (omega (arith, light, place_light l.body.now at less))
              (light_later work (Body' l) is waiting (lighter (First l) light)));
        }

    -- the loop stands after its body
    pub after_body : {before middle after : Seen} (none : Bor (List TypedStmt)) →
        Passes before middle loop_by (in_body program f l l.body.now) →
        Passes middle after (block_by l.body.now) (left_at program f l.body.now None) → none.now ≡ [] →
        Passes before after loop_by (in_round program f l (Some (record { part = none; count = length l.body.now })))
    after_body none h k empty = then_passes (body_done None h k) (passes_as
        (λ n s. λ i. follow in_loop (follow in_order (block_by (sym empty i) n s)
        (block_acts program n f (sym (drop_all (length l.body.now) l.body.now (omega arith)) i)))
        (λ a s. follow in_loop (next_acts program n f l a s) (loop_acts program n f l))) stays_so)

    -- the loop stands before a round again
    pub round_done : {before middle done after : Seen} → Passes before middle loop_by (in_body program f l l.body.now) →
        Passes middle done (block_by l.body.now) (left_at program f l.body.now None) →
        Passes done after next_by ended_so → Passes before after loop_by loop_by
    round_done h k m = then_passes (body_done None h k) (passes_follow in_loop _ m)

  pub no_part : (stmts : List TypedStmt) (at : Position) → at.part.now ≡ [] → (n : ℕ) (s : State) →
      left_at program f stmts (Some at) n s ≡ block_by (drop at.count stmts) n s
  no_part stmts at empty n s =
      ap (λ xs. follow in_order (block_by xs n s) (block_acts program n f (drop at.count stmts))) empty

  -- nothing follows the part
  pub part_last : {before : Seen} {work : List Work} (stmts : List TypedStmt) {rest : List TypedStmt} (at : Position)
      {b : Bool} → rest ≡ take (length stmts - at.count) (drop at.count stmts) → b ≡ (length rest == 0) → b ≡ true →
      Steps program (place_weight stmts at) before work f (left_at program f stmts (Some at)) (Go (Run' at.part))
      before work f
  part_last stmts {rest} at same none empty = steps_later (omega arith) (λ n s. ap
      (λ xs. follow in_order (block_by at.part.now n s) (block_acts program n f xs))
      (sym (same ∙ rest_at _ stmts) ∙ none_in rest none empty) ∙ followed_by_nothing _)

  -- there is no part
  pub rest_only : {before : Seen} {work : List Work} (stmts : List TypedStmt) (rest : Bor (List TypedStmt))
      (at : Position) → rest.now ≡ take (length stmts - at.count) (drop at.count stmts) → at.part.now ≡ [] →
      Steps program (place_weight stmts at) before work f (left_at program f stmts (Some at)) (Go (Run' rest))
      before work f
  rest_only stmts rest at same empty =
      steps_later (omega (arith, ap (λ xs. block_nodes xs) (same ∙ rest_at at.count stmts)))
      (λ n s. no_part stmts at empty n s ∙ ap (λ xs. block_by xs n s) (sym (same ∙ rest_at at.count stmts)))

  -- what follows the part waits for it
  pub rest_waits : {before : Seen} {work later : List Work} (stmts : List TypedStmt) (rest : Bor (List TypedStmt))
      (at : Position) → rest.now ≡ take (length stmts - at.count) (drop at.count stmts) →
      later ≡ work ++ Rest rest ∷ [] →
      Steps program (place_weight stmts at) before work f (left_at program f stmts (Some at)) (Go (Run' at.part))
      before later f
  rest_waits {work} stmts rest at same pushed =
      let is = same ∙ rest_at at.count stmts in
      steps_wait (Rest rest) pushed
      (nodes_fit (block_nodes at.part.now) (ap (λ xs. block_nodes xs) is))
      (λ n s. ap (λ xs. resume program n (reverse work) f
      (follow in_order (block_by at.part.now n s) (block_acts program n f xs))) (sym is))
      (steps_later {cost = 3 + block_weight at.part.now} (omega arith) (λ n s. refl)) where
        nodes_fit : (p : ℕ) {r d : ℕ} → r ≡ d → (3 + (2 + 8 * p)) + (2 + 8 * r) ≤ 7 + 8 * (p + d)
        nodes_fit p is = omega (arith, is)

  -- the statements, stated otherwise
  pub block_as : {cost : ℕ} {before after : Seen} {work later : List Work} {step : Step} {g : Frame}
      (stmts body : List TypedStmt) → stmts ≡ body →
      Steps program cost before work f (block_by stmts) step after later g →
      Steps program cost before work f (block_by body) step after later g
  block_as stmts body same h = steps_as (λ n s. ap (λ xs. block_by xs n s) (sym same)) h

  pub rest_after : {before middle after : Seen} {work later : List Work} (stmts : List TypedStmt) (at : Position)
      {step : Step} {g : Frame} → at.part.now ≡ [] →
      Passes before middle (block_by stmts) (left_at program f stmts (Some at)) →
      Steps program (block_weight (take (length stmts - at.count) (drop at.count stmts))) middle work f
      (block_by (take (length stmts - at.count) (drop at.count stmts))) step after later g →
      Steps program (block_weight stmts) before work f (block_by stmts) step after later g
  rest_after stmts at empty h k = steps_after h (steps_as
      (λ n s. no_part stmts at empty n s ∙ ap (λ xs. block_by xs n s) (sym (rest_at _ stmts))) (steps_weaken
      (omega (arith, ap (λ xs. block_nodes xs) (rest_at at.count stmts), block_split at.count stmts)) k))

  -- control leaves the function after the statements that were done
  pub left_after : {before middle after : Seen} {work later : List Work} (stmts : List TypedStmt) (at : Position)
      (exit : Exit) {step : Step} {g : Frame} → at.part.now ≡ [] →
      Passes before middle (block_by stmts) (left_at program f stmts (Some at)) →
      Passes middle middle (block_by (take (length stmts - at.count) (drop at.count stmts))) (left_by exit) →
      Steps program 1 middle work f (left_by exit) step after later g →
      Steps program (block_weight stmts) before work f (block_by stmts) step after later g
  left_after stmts at exit empty h left k =
      rest_after stmts at empty h (steps_after left (steps_weaken (omega arith) k))

-- the statements that a condition chose
pub choose_goes : (program : ProgramTree) (f : Frame) (first second : Bor (List TypedStmt)) {before : Seen}
    {work : List Work} {p : State → Piece Value} {v : Value} {b : Bool} → Comes before before (Ok v) p → is_true v ≡ b →
    Steps program (3 + 8 * (block_nodes first.now + block_nodes second.now)) before work f
    (λ n s. and_then (p s) (λ v s. choose v (block_acts program n f first.now tt s)
    (block_acts program n f second.now tt s)))
    (Go (if b then Run' first else Run' second)) before work f
choose_goes program f first second {before} {work} {v} {b} c is = steps_on
    (λ n v s. choose v (block_acts program n f first.now tt s) (block_acts program n f second.now tt s)) c
    (chosen_so b is) where
      chosen_so : (b : Bool) → is_true v ≡ b → Steps program
          (3 + 8 * (block_nodes first.now + block_nodes second.now)) before work f
          (λ n s. choose v (block_acts program n f first.now tt s) (block_acts program n f second.now tt s))
          (Go (if b then Run' first else Run' second)) before work f
      chosen_so true is = steps_later (omega arith) (λ n s. ap (λ b. if b then block_acts program n f first.now tt s
          else block_acts program n f second.now tt s) is)
      chosen_so false is = steps_later (omega arith) (λ n s. ap (λ b. if b then block_acts program n f first.now tt s
          else block_acts program n f second.now tt s) is)

-- the end of a run, whatever waits
pub stops_anywhere : {program : ProgramTree} {cost : ℕ} {before after : Seen} {work later last : List Work}
    {f g h : Frame} {p : Doing} {end : RunEnd} → Steps program cost before work f p (Stop end) after later g →
    Steps program cost before work f p (Stop end) after last h
stops_anywhere steps = record { stands = steps.stands; falls = λ light waiting. is_over }
