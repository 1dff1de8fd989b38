-- What weighs how much, and what is left to do after a step.
use Rattle.sc_run.proofs.Common.{Go, List, Loop, Now, RunEnd, Seen, Step, Stop, TypedStmt, TypedStmtKind}
use Rattle.sc_run.proofs.Common.{TypedStmtKind-F, Work, [], ap, arith, drop, layer_of, length, roll-TypedStmtKind}
use Rattle.sc_run.proofs.Common.{stmt_at, subst, suc, sym, take, ℕ, ◌++◌, ◌+◌, ◌<◌, ◌∙◌, ◌∷◌, ◌≡◌, ◌≤◌, Bool, false}
use Rattle.sc_run.proofs.Common.{get_or, take_more, true≢false, ◌-◌, ◌==◌}
use Rattle.std.proofs.Common.{◌*◌}
use Rattle.std.proofs.lemmas.List.{take-append-drop}
use Rattle.sc_core.proofs.Induction.{stmt_induction}
use Rattle.sc_core.specs.Prelude.{kind_nodes, stmt_nodes}
use Rattle.sc_run.specs.declared.work.Position.{Position}
use Rattle.sc_run.specs.declared.work.Work.TheVariants.{Rest, First, Body as Body', Again, Caller}
use Rattle.sc_run.specs.Weights.{AreLight, Falls, IsLess, StepFalls, block_nodes, block_weight, left, loop_weight}
use Rattle.sc_run.specs.Weights.{most_weight, now_weight, place_weight, weight, weights}
use Rattle.sc_core.specs.declared.stmt.TypedStmtKind.TheOpen as layer

-- NODES

block_more : (xs ys : List TypedStmt) → block_nodes (xs ++ ys) ≡ block_nodes xs + block_nodes ys
block_more [] ys = omega arith
block_more (x ∷ xs) ys = omega (arith, block_more xs ys)

pub block_split : (n : ℕ) (stmts : List TypedStmt) →
    block_nodes stmts ≡ block_nodes (take n stmts) + block_nodes (drop n stmts)
block_split n stmts =
    ap (λ xs. block_nodes xs) (sym (take-append-drop n stmts)) ∙ block_more (take n stmts) (drop n stmts)

abbrev pub nodes_in : TypedStmtKind-F TypedStmtKind TypedStmt → ℕ
nodes_in k = layer_of ℕ ℕ kind_nodes (λ s. s.kind) k

pub nodes_are : (stmt : TypedStmt) (k : TypedStmtKind-F TypedStmtKind TypedStmt) →
    stmt.kind ≡ roll-TypedStmtKind k → stmt_nodes stmt ≡ nodes_in k
nodes_are stmt k is = ap (λ x. stmt_nodes (record { line = stmt.line; kind = x })) is ∙
    stmt_at ℕ ℕ kind_nodes (λ s. s.kind) stmt.line k

some_in : (k : TypedStmtKind-F TypedStmtKind TypedStmt) → 1 ≤ nodes_in k
some_in layer.Empty = omega arith
some_in (layer.Assign place value) = omega arith
some_in (layer.AssignCall place call) = omega arith
some_in (layer.Call call) = omega arith
some_in (layer.Malloc place count cells) = omega arith
some_in (layer.Free pointer) = omega arith
some_in (layer.If cond first second) = omega arith
some_in (layer.While cond body) = omega arith
some_in (layer.For first cond next body) = omega arith
some_in layer.Break = omega arith
some_in layer.Continue = omega arith
some_in layer.Return = omega arith
some_in (layer.ReturnValue value) = omega arith
some_in (layer.ReturnCall call) = omega arith

-- a statement is a node at least
pub some_nodes : (stmt : TypedStmt) → 1 ≤ stmt_nodes stmt
some_nodes = stmt_induction (λ stmt. 1 ≤ stmt_nodes stmt)
    (λ line k h. subst (λ n. 1 ≤ n) (sym (stmt_at ℕ ℕ kind_nodes (λ s. s.kind) line k)) (some_in k))

pub some_in_block : (stmts : List TypedStmt) → 1 ≤ length stmts → 1 ≤ block_nodes stmts
some_in_block [] h = absurd (omega (arith, h))
some_in_block (x ∷ xs) h = omega (arith, some_nodes x)

pub not_empty : (xs : List TypedStmt) {b : Bool} → b ≡ (length xs == 0) → b ≡ false → 1 ≤ length xs
not_empty [] is empty = absurd (true≢false (sym is ∙ empty))
not_empty (x ∷ xs) is empty = omega arith

-- a part of one more statement
pub part_less : (stmts : List TypedStmt) (at : ℕ) {stmt : TypedStmt} (part : List TypedStmt) → at < length stmts →
    stmt ≡ get_or stmts at stmt → block_nodes part < stmt_nodes stmt →
    block_nodes part ≤ block_nodes (take (at + 1) stmts) - 1
part_less stmts at {stmt} part there item less = omega (
  arith,
  less,
  ap (λ xs. block_nodes xs) (take_more stmts at stmt there),
  block_more (take at stmts) (get_or stmts at stmt ∷ []),
  ap stmt_nodes item,
)

-- what is left at a place in statements
module _ (stmts : List TypedStmt) (at : Position) (less : IsLess stmts at) where
  pub place_less : 1 ≤ block_nodes at.part.now → place_weight stmts at ≤ block_weight stmts
  place_less some = omega (arith, less, some, block_split at.count stmts)

  pub place_light : place_weight stmts at ≤ 7 + 8 * block_nodes stmts
  place_light = omega (arith, less, block_split at.count stmts)

-- WHAT WAITS

pub weights_more : (work : List Work) (w : Work) → weights (work ++ w ∷ []) ≡ weights work + weight w
weights_more [] w = omega arith
weights_more (x ∷ work) w = omega (arith, weights_more work w)

pub light_more : (work : List Work) (w : Work) → AreLight work → weight w ≤ most_weight → AreLight (work ++ w ∷ [])
light_more [] w h le = (le, tt)
light_more (x ∷ work) w h le = (h.0, light_more work w h.1 le)

pub light_fewer : (work : List Work) (w : Work) → AreLight (work ++ w ∷ []) → AreLight work
light_fewer [] w h = tt
light_fewer (x ∷ work) w h = (h.0, light_fewer work w h.1)

pub light_last : (work : List Work) (w : Work) → AreLight (work ++ w ∷ []) → weight w ≤ most_weight
light_last [] w h = h.0
light_last (x ∷ work) w h = light_last work w h.1

-- what waits weighs less than a bound that is none of its weights
pub lighter : (w : Work) → weight w ≤ most_weight → suc (weight w) ≤ most_weight
lighter (Rest stmts) h = omega (arith, h)
lighter (First l) h = omega (arith, h)
lighter (Body' l) h = omega (arith, h)
lighter (Again l) h = omega (arith, h)
lighter (Caller caller to crossing) h = omega arith

-- WHAT IS LEFT TO DO

less_then : {a b c : ℕ} → a < b → b ≤ c → a < c
less_then x y = omega (arith, x, y)

at_most_then : {a b c : ℕ} → a ≤ b → b ≤ c → a ≤ c
at_most_then x y = omega (arith, x, y)

-- no more is left, and what was made is less
pub record Heavier (cost : ℕ) (before : Seen) (work : List Work) (rest : ℕ) (after : Seen) (later : List Work)
    : Type 0 where
  pub less : left rest after later ≤ left cost before work
  pub lengths : (comp : ℕ) →
      length (after.memory comp) + left rest after later ≤ length (before.memory comp) + left cost before work

-- a step that goes on, or ends the run
pub goes_now : {cost : ℕ} {before after : Seen} {work later : List Work} {now : Now} →
    Falls cost before work (now_weight now) after later → StepFalls cost before work (Go now) after later
goes_now {cost} {before} {after} {work} {later} {now} h =
    record {
      falls_to = λ next is. let same : now ≡ next = cc is in
          subst (λ x. Falls cost before work (now_weight x) after later) same h;
    }

pub is_over : {cost : ℕ} {before after : Seen} {work later : List Work} {end : RunEnd} →
    StepFalls cost before work (Stop end) after later
is_over = record { falls_to = λ now is. absurd (cc is) }

eased_to : {cost rest next : ℕ} {before middle after : Seen} {work waits later : List Work} →
    Heavier cost before work rest middle waits → Falls rest middle waits next after later →
    Falls cost before work next after later
eased_to h k =
    record {
      less = less_then k.less h.less;
      lengths = λ comp. at_most_then (k.lengths comp) (h.lengths comp);
      light = k.light;
      waiting = k.waiting;
    }

-- a step after that
pub eased : {cost rest : ℕ} {before middle after : Seen} {work waits later : List Work} {step : Step} →
    Heavier cost before work rest middle waits → StepFalls rest middle waits step after later →
    StepFalls cost before work step after later
eased h k = record { falls_to = λ now is. eased_to h (k.falls_to now is) }

pub weighs_more : {cost rest : ℕ} (seen : Seen) (work : List Work) → rest ≤ cost → Heavier cost seen work rest seen work
weighs_more seen work le = record { less = omega (arith, le); lengths = λ comp. omega (arith, le) }

pub turns_taken : {cost : ℕ} {before after : Seen} (work : List Work) → after.turns ≤ before.turns →
    ((comp : ℕ) → length (after.memory comp) ≤ length (before.memory comp)) → Heavier cost before work cost after work
turns_taken work fewer blocks =
    record { less = omega (arith, fewer); lengths = λ comp. omega (arith, fewer, blocks comp) }

module _ (work : List Work) {later : List Work} (w : Work) (is : later ≡ work ++ w ∷ []) where
  pub all_weights : weights later ≡ weights work + weight w
  all_weights = ap (λ ws. weights ws) is ∙ weights_more work w

  pub put_aside : {cost rest : ℕ} (seen : Seen) → rest + weight w ≤ cost → Heavier cost seen work rest seen later
  put_aside seen fits =
      record { less = omega (arith, fits, all_weights); lengths = λ comp. omega (arith, fits, all_weights) }

  pub taken_up : {cost rest : ℕ} (seen : Seen) → rest ≤ cost + weight w → Heavier cost seen later rest seen work
  taken_up seen fits =
      record { less = omega (arith, fits, all_weights); lengths = λ comp. omega (arith, fits, all_weights) }

  pub light_later : AreLight work → weight w ≤ most_weight → AreLight later
  light_later light le = subst AreLight (sym is) (light_more work w light le)

  pub light_earlier : AreLight later → AreLight work
  light_earlier light = light_fewer work w (subst AreLight is light)

  pub light_waited : AreLight later → weight w ≤ most_weight
  light_waited light = light_last work w (subst AreLight is light)

-- a turn pays for a round of a loop
pub round_falls : (l : Loop) {before after : Seen} {work later : List Work} → before.turns ≡ suc after.turns →
    ((comp : ℕ) → length (after.memory comp) ≤ length (before.memory comp)) → later ≡ work ++ Body' l ∷ [] →
    loop_weight l ≤ most_weight → AreLight work → Falls (loop_weight l) before work (block_weight l.body.now) after
    later
round_falls l {before} {after} {work} {later} taken blocks is light waiting =
    record {
      less = omega (arith, taken, all_weights work (Body' l) is, light);
      lengths = λ comp. omega (arith, taken, all_weights work (Body' l) is, light, blocks comp);
      light = light;
      waiting = light_later work (Body' l) is waiting (lighter (First l) light);
    }

-- turns that were taken pay for what is left of rounds
pub rounds_paid : (l : Loop) (at : Position) {before middle : Seen} {work later : List Work} → IsLess l.body.now at →
    middle.turns < before.turns → ((comp : ℕ) → length (middle.memory comp) ≤ length (before.memory comp)) →
    later ≡ work ++ Body' l ∷ [] → loop_weight l ≤ most_weight →
    Heavier (loop_weight l) before work (place_weight l.body.now at) middle later
rounds_paid l at {before} {middle} {work} {later} less fewer blocks is light =
    record {
      less = omega (arith, fewer, light, place_light l.body.now at less, all_weights work (Body' l) is);
      lengths = λ comp.
          omega (arith, fewer, light, place_light l.body.now at less, all_weights work (Body' l) is, blocks comp);
    }
