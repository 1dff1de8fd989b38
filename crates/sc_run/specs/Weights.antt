-- Helping: how much a run has left to do. It falls at every step, and by no less than the blocks that are made.
use Rattle.sc_run.specs.Common.{Loop, TypedStmt}
use Rattle.sc_core.specs.Prelude.{most_nodes, stmt_nodes, total}
use Rattle.std.specs.Prelude.{◌≡◌, ℕ, suc, ◌+◌, ◌-◌, ◌*◌, ◌^◌, ◌<◌, ◌≤◌, List, [], ◌∷◌, drop, length, map, take}
use Rattle.sc_core.specs.declared.section.TypedFunction.{TypedFunction}
use Rattle.sc_run.specs.declared.work.Now.{Now}
use Rattle.sc_run.specs.declared.work.Now.TheVariants.{Run as Run', Leave}
use Rattle.sc_run.specs.declared.work.Position.{Position}
use Rattle.sc_run.specs.declared.work.Step.{Step}
use Rattle.sc_run.specs.declared.work.Step.TheVariants.{Go}
use Rattle.sc_run.specs.declared.work.Work.{Work}
use Rattle.sc_run.specs.declared.work.Work.TheVariants.{Rest, First, Body as Body', Again, Caller}
use Rattle.sc_run.specs.Seen.{Seen}

abbrev pub block_nodes : List TypedStmt → ℕ
block_nodes stmts = total (map stmt_nodes stmts)

-- more than the steps and the allocations that statements take, but for rounds of loops and calls, which take turns
abbrev pub block_weight : List TypedStmt → ℕ
block_weight stmts = 2 + 8 * block_nodes stmts

-- the same of a statement of few nodes, but not of what follows it
abbrev pub stmt_weight : TypedStmt → ℕ
stmt_weight stmt = 8 * stmt_nodes stmt

-- of a statement that has no others in it
abbrev pub leaf_weight : ℕ
leaf_weight = 2

abbrev pub loop_weight : Loop → ℕ
loop_weight l = block_weight l.body.now

abbrev pub body_weight : TypedFunction → ℕ
body_weight f = 5 + block_weight f.body

-- of statements from a place in them
abbrev pub place_weight : List TypedStmt → Position → ℕ
place_weight stmts at = 7 + 8 * (block_nodes at.part.now + block_nodes (drop at.count stmts))

-- what of statements is left at a place in them is less than all, where a part of one was chosen
abbrev pub IsLess : List TypedStmt → Position → Type 0
IsLess stmts at = block_nodes at.part.now ≤ block_nodes (take at.count stmts) - 1

-- of what waits
abbrev pub weight : Work → ℕ
weight (Rest stmts) = block_weight stmts.now
weight (First l) = loop_weight l
weight (Body' l) = suc (loop_weight l)
weight (Again l) = loop_weight l
weight (Caller caller to crossing) = 1

abbrev pub weights : List Work → ℕ
weights work = total (map weight work)

-- of what is done at the moment
abbrev pub now_weight : Now → ℕ
now_weight (Run' stmts) = block_weight stmts.now
now_weight (Leave exit) = 1

-- no statements weigh more
abbrev pub most_weight : ℕ
most_weight = 8 + 8 * most_nodes

abbrev pub AreLight : List Work → Type 0
AreLight [] = Unit {0}
AreLight (w ∷ work) = (weight w ≤ most_weight) × AreLight work

-- more than the weights that begin, and the variables, with a turn
abbrev pub most_a_turn : ℕ
most_a_turn = 2 ^ 29

-- what is left to do before the end of the run, or of its turns
abbrev pub left : ℕ → Seen → List Work → ℕ
left cost seen work = cost + weights work + most_a_turn * seen.turns

-- numbers suffice for a block more
abbrev pub AnotherSuffices : Seen → Type 0
AnotherSuffices seen = (comp : ℕ) → length (seen.memory comp) + most_nodes * seen.turns < 2 ^ 63

-- less is left to do, by no less than the blocks that were made
pub record Falls (cost : ℕ) (before : Seen) (work : List Work) (rest : ℕ) (after : Seen) (later : List Work)
    : Type 0 where
  pub less : left rest after later < left cost before work
  pub lengths : (comp : ℕ) →
      length (after.memory comp) + left rest after later ≤ length (before.memory comp) + left cost before work
  pub light : rest ≤ most_weight
  pub waiting : AreLight later

-- numbers suffice for the blocks that are made in what is left to do
pub record NumbersLast (cost : ℕ) (seen : Seen) (work : List Work) : Type 0 where
  pub numbers : (comp : ℕ) → length (seen.memory comp) + left cost seen work ≤ 2 ^ 63
  pub light : cost ≤ most_weight
  pub waiting : AreLight work

-- less is left after a step, if the run isn't over
pub record StepFalls (cost : ℕ) (before : Seen) (work : List Work) (step : Step) (after : Seen) (later : List Work)
    : Type 0 where
  pub falls_to : (now : Now) → step ≡ Go now → Falls cost before work (now_weight now) after later
