-- Helping: what a run that has got somewhere does from there.
use Rattle.sc_run.specs.Common.{Acts, Body, Break, Calls, Continue, Denotations, Event, Exit, Frame, Function, Left}
use Rattle.sc_run.specs.Common.{Loop, Next, Piece, ProgramTree, Return, Run, RunEnd, State, TypedStmt, Value, Ways}
use Rattle.sc_run.specs.Common.{and_then, back_cross, back_own, block_does, c_arith, calls, closed, denotations_of}
use Rattle.sc_run.specs.Common.{done, follow, function_of, here_of, in_loop, in_order, leave, loop, main_name}
use Rattle.sc_run.specs.Common.{part_does, run_step, run_to, stmt_does, stopped_at, store_result, test, ways, within}
use Rattle.std.specs.Prelude.{◌≡◌, ℕ, suc, ◌≤◌, ◌&&◌, ◌==◌, bytes_eq, List, [], ◌∷◌, reverse, Option, None, Some}
use Rattle.std.specs.Prelude.{Bool, true, false, is_some, map}
use Rattle.std.specs.Option.{option_copied}
use Rattle.sc_core.specs.Prelude.{call, count_ways}
use Rattle.sc_core.specs.declared.expr.TypedCall.{TypedCall}
use Rattle.sc_core.specs.declared.expr.TypedExpr.{TypedExpr}
use Rattle.sc_core.specs.declared.stmt.TypedSimple.{TypedSimple}
use Rattle.sc_core.specs.declared.run.SourceRun.{SourceRun}
use Rattle.sc_run.specs.declared.work.To.{To}
use Rattle.sc_run.specs.declared.work.To.TheVariants.{Nowhere, Place, Back}
use Rattle.sc_run.specs.declared.work.Work.{Work}
use Rattle.sc_run.specs.declared.work.Work.TheVariants.{Rest, First, Body as Body', Again, Caller}
use Rattle.sc_run.specs.declared.work.Leaving.{Leaving}
use Rattle.sc_run.specs.declared.work.Leaving.TheVariants as leaving
use Rattle.sc_run.specs.declared.work.Now.{Now}
use Rattle.sc_run.specs.declared.work.Now.TheVariants.{Run as Run', Leave}
use Rattle.sc_run.specs.declared.work.Run.{Run as Run''}
use Rattle.sc_run.specs.declared.work.Step.{Step}
use Rattle.sc_run.specs.declared.work.Step.TheVariants.{Go, Stop}
use Rattle.sc_run.specs.declared.work.StepKind.{StepKind}
use Rattle.sc_run.specs.declared.work.StepKind.TheVariants as kind
use Rattle.sc_run.specs.declared.work.Taken.{Taken}
use Rattle.sc_run.specs.Seen.{Seen, seen_of, kept_by}
use Rattle.sc_run.specs.Weights.{AreLight, StepFalls, leaf_weight, most_weight}

-- a step, by its parts
abbrev pub step_by : StepKind → Taken → Step
step_by kind.Statements taken = Go (Run' taken.stmts)
step_by kind.Exit taken = Go (Leave taken.exit)
step_by kind.End taken = Stop taken.end

abbrev pub step_of : Taken → Step
step_of taken = step_by taken.kind taken

-- nothing where all is done, or else the step that was taken
abbrev pub unless_done : Bool → Taken → Option Step
unless_done true taken = None
unless_done false taken = Some (step_of taken)

abbrev pub exit_of : Leaving → Exit
exit_of leaving.Next = Next
exit_of leaving.Break = Break
exit_of leaving.Continue = Continue
exit_of (leaving.Return v) = Return v

-- an expression of the function that runs
abbrev pub way_in : Frame → TypedExpr → Ways
way_in f e = ways c_arith f.scope.structs.now (here_of f.scope) f.scope.params e

-- how many elements are allocated
abbrev pub count_way_in : Frame → Option TypedExpr → Ways
count_way_in f count = count_ways c_arith f.scope.structs.now (here_of f.scope) f.scope.params count

module _ (program : ProgramTree) where
  abbrev pub denotations : Denotations
  denotations = denotations_of c_arith program

  -- functions in which at most `n` calls are open, and calls of them
  abbrev pub bodies : ℕ → Body
  bodies n = within (run_step denotations) n

  abbrev pub calls_in : ℕ → Calls
  calls_in n = calls denotations (bodies n)

  module _ (n : ℕ) (f : Frame) where
    -- statements of the function that runs
    abbrev pub stmt_acts : TypedStmt → Acts
    stmt_acts stmt = stmt_does c_arith f.scope.structs.now (here_of f.scope) f.scope.params (calls_in n) stmt

    abbrev pub block_acts : List TypedStmt → Acts
    block_acts stmts = block_does c_arith f.scope.structs.now (here_of f.scope) f.scope.params (calls_in n) stmts

    abbrev pub part_acts : Option TypedSimple → Acts
    part_acts part = part_does c_arith f.scope.structs.now (here_of f.scope) f.scope.params (calls_in n) part

    abbrev pub next_acts : Loop → Acts
    next_acts l = part_acts (option_copied l.next)

    abbrev pub loop_acts : Loop → Acts
    loop_acts l = loop (test (here_of f.scope) (way_in f l.cond.now) l.line) (block_acts l.body.now) (next_acts l)

  -- the function that runs, as a call sees it
  abbrev pub function_in : Frame → Function
  function_in f = function_of c_arith program.interfaces.main f.scope.structs.now f.function.now

  -- the call ends once control left the body
  abbrev pub closes : Frame → Left (Unit {0}) → State → Piece (Option Value)
  closes f left s =
      closed left.exit (is_some f.function.now.result)
      (f.scope.comp.now == program.interfaces.main &&
      bytes_eq f.function.now.name main_name) f.function.now.close_line (here_of f.scope) s

  abbrev pub returned : Frame → (Option Value → State → Piece (Option Value)) → Piece (Left (Unit {0})) →
      Piece (Option Value)
  returned f back p = and_then (and_then p (closes f))
      (λ v t. back v (done f.scope.comp.now (function_in f) (here_of f.scope).first t))

  -- a return inside the compartment, or one from an export
  abbrev pub back_to : Frame → Frame → Option ℕ → Option Value → State → Piece (Option Value)
  back_to caller f None v s = back_own v s
  back_to caller f (Some index) v s = back_cross program.interfaces caller.scope.comp.now f.scope.comp.now index v s

  -- what is done with the result of a call
  abbrev pub result_goes : Frame → To → Option Value → State → Piece (Left (Unit {0}))
  result_goes f Nowhere v s = leave Next tt s
  result_goes f (Place place line) v s = store_result (here_of f.scope) (way_in f place.now) v line tt s
  result_goes f Back v s = leave (Return v) tt s

  -- what is left of a run where this waits, the newest first, and the statements that run in this function come to a
  -- piece
  abbrev pub resume : ℕ → List Work → Frame → Piece (Left (Unit {0})) → Run
  resume n [] f p = run_to program.interfaces.main (returned f back_own p)
  resume n (Rest stmts ∷ work) f p = resume n work f (follow in_order p (block_acts n f stmts.now))
  resume n (First l ∷ work) f p = resume n work f (follow in_order p (loop_acts n f l))
  resume n (Body' l ∷ work) f p =
      resume n work f (follow in_loop p (λ a s. follow in_loop (next_acts n f l a s) (loop_acts n f l)))
  resume n (Again l ∷ work) f p = resume n work f (follow in_loop p (loop_acts n f l))
  resume n (Caller caller to crossing ∷ work) f p =
      resume (suc n) work caller (and_then (returned f (back_to caller f crossing) p) (result_goes caller to))

  -- what is done at the moment
  abbrev pub does_now : Frame → Now → ℕ → State → Piece (Left (Unit {0}))
  does_now f (Run' stmts) n s = block_acts n f stmts.now tt s
  does_now f (Leave exit) n s = leave (exit_of exit) tt s

  -- a run stands here: of some state this is seen, and what is left from there on is the whole
  pub record Standing (whole : SourceRun) (seen : Seen) (work : List Work) (f : Frame)
      (piece : ℕ → State → Piece (Left (Unit {0}))) : Type 0 where
    pub open_calls : ℕ
    pub state : State
    pub is_seen : seen_of state ≡ seen
    pub enough : state.turns ≤ open_calls
    pub rest : (resume open_calls (reverse work) f (piece open_calls state)).behaviour ≡ whole

  -- stopped at a number of events, a run that stands here is this one
  abbrev pub EndsAs : Now → Seen → Frame → ℕ → List Event → RunEnd → Type 0
  EndsAs first seen f events trace end =
      (whole : SourceRun) → Standing whole seen [] f (does_now f first) →
      stopped_at events whole ≡ stopped_at events (record { trace = trace; end = end })

  -- after a step a run stands somewhere, or is over
  abbrev pub Stands : SourceRun → Step → Seen → List Work → Frame → Type 0
  Stands whole (Go now) seen work f = Standing whole seen work f (does_now f now)
  Stands whole (Stop end) seen work f = whole ≡ record { trace = seen.trace; end = end }

  -- a step of what weighs `cost`, whatever the whole run is: less is left after it
  pub record Steps (cost : ℕ) (before : Seen) (work : List Work) (f : Frame)
      (piece : ℕ → State → Piece (Left (Unit {0}))) (step : Step) (after : Seen) (later : List Work) (g : Frame)
      : Type 0 where
    pub stands : (whole : SourceRun) → Standing whole before work f piece → Stands whole step after later g
    pub falls : cost ≤ most_weight → AreLight work → StepFalls cost before work step after later

  -- the same of a run that was here before the step, and is there after it
  abbrev pub Advances : ℕ → Run'' → (ℕ → State → Piece (Left (Unit {0}))) → Step → Run'' → Type 0
  Advances cost run piece step later =
      Steps cost (kept_by run.machine) run.work.items run.frame piece step
      (kept_by later.machine) later.work.items later.frame

  -- a step from where a run stands there is a step from where it stands here
  pub record Leads (cost : ℕ) (before : Seen) (work : List Work) (f : Frame)
      (piece : ℕ → State → Piece (Left (Unit {0}))) (rest : ℕ) (after : Seen) (later : List Work) (g : Frame)
      (left : ℕ → State → Piece (Left (Unit {0}))) : Type 0 where
    pub leads : (step : Step) (last : Seen) (waits : List Work) (h : Frame) →
        Steps rest after later g left step last waits h → Steps cost before work f piece step last waits h

  -- a run got to what is left, where this waits and this runs
  pub record Reaches (cost : ℕ) (before : Seen) (work : List Work) (f : Frame)
      (piece : ℕ → State → Piece (Left (Unit {0}))) (waits : List Work) (g : Frame) (later : Run'') (rest : ℕ)
      (left : ℕ → State → Piece (Left (Unit {0}))) : Type 0 where
    pub waiting : later.work.items ≡ waits
    pub frame : later.frame ≡ g
    pub fewer : later.machine.turns ≤ before.turns
    pub leads : Leads cost before work f piece rest (kept_by later.machine) waits g left

  -- that, or this step was taken
  abbrev pub ReachesOr : Option Step → ℕ → Seen → List Work → Frame → (ℕ → State → Piece (Left (Unit {0}))) →
      List Work → Frame → Run'' → ℕ → (ℕ → State → Piece (Left (Unit {0}))) → Type 0
  ReachesOr None cost before work f piece waits g later rest left =
      Reaches cost before work f piece waits g later rest left
  ReachesOr (Some step) cost before work f piece waits g later rest left =
      Steps cost before work f piece step (kept_by later.machine) later.work.items later.frame

  -- it is done to its end, or this step was taken
  abbrev pub DoneOr : Option Step → ℕ → Seen → List Work → Frame → (ℕ → State → Piece (Left (Unit {0}))) → List Work →
      Frame → Run'' → Type 0
  DoneOr step cost before work f piece waits g later =
      ReachesOr step cost before work f piece waits g later leaf_weight (λ n s. leave Next tt s)

  -- the same of what runs
  abbrev pub Completes : Option Step → ℕ → Run'' → (ℕ → State → Piece (Left (Unit {0}))) → Run'' → Type 0
  Completes step cost run piece later =
      DoneOr step cost (kept_by run.machine) run.work.items run.frame piece run.work.items run.frame later

  -- a call in a statement on this line, and what is done with its result
  abbrev pub call_acts : Frame → TypedCall → To → ℕ → ℕ → State → Piece (Left (Unit {0}))
  call_acts f made to line n s =
      and_then (call (here_of f.scope) (calls_in n) made.target (map (way_in f) made.args) line s) (result_goes f to)

  -- a statement is such a call
  pub record IsCall (stmt : TypedStmt) (made : TypedCall) (to : To) : Type 0 where
    pub acts : (f : Frame) (n : ℕ) (s : State) → stmt_acts n f stmt tt s ≡ call_acts f made to stmt.line n s
