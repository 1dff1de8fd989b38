-- Denotations of two programs that do the same, whatever their functions carry, up to the lines of blames.
use Rattle.sc_core_laws.specs.Common.{Arith, Blamed, Body, CallTarget, Calls, Denotations, Ended, Entry, EventsOut}
use Rattle.sc_core_laws.specs.Common.{Function, Here, Memory, Piece, ProgramTree, Reached, Roles, Run, RunEnd}
use Rattle.sc_core_laws.specs.Common.{SourceRun, State, Stopped, TurnsOut, Value, denotations_of, function, run_by}
use Rattle.sc_core_laws.specs.Common.{run_of, run_step, scripted_step, stopped_at}
use Rattle.std.specs.Prelude.{◌≡◌, ℕ, List, Option, None, Some}
use Rattle.sc_core_laws.specs.Lines.{program_lined}

-- two things, where they are there: either both are, and are so related, or neither is
abbrev pub Meets : {A : Type 0} → (A → A → Type 0) → Option A → Option A → Type 0
Meets Q None None = Unit {0}
Meets Q None (Some y) = ⊥
Meets Q (Some x) None = ⊥
Meets Q (Some x) (Some y) = Q x y

-- an end, whatever the line of its blame
abbrev pub without_line : RunEnd → RunEnd
without_line Ended = Ended
without_line (Blamed comp cause line) = Blamed comp cause 0
without_line TurnsOut = TurnsOut
without_line EventsOut = EventsOut

abbrev pub piece_without_line : {V : Type 0} → Piece V → Piece V
piece_without_line (Reached v s) = Reached v s
piece_without_line (Stopped end s) = Stopped (without_line end) s

-- two pieces that are the same but for the line of a blame
pub record PiecesAgree {V : Type 0} (o p : Piece V) : Type 0 where
  pub same : piece_without_line o ≡ piece_without_line p

abbrev pub CallsAgree : Calls → Calls → Type 0
CallsAgree C D = (from : ℕ) (target : CallTarget) (args : List Value) (s : State) →
    PiecesAgree (C from target args s) (D from target args s)

abbrev pub BodiesAgree : Body → Body → Type 0
BodiesAgree body other = (number : ℕ) (here : Here) (s : State) →
    PiecesAgree (body number here s) (other number here s)

-- functions that callers can't distinguish, and that do the same where their calls do
pub record FunctionsAgree (f g : Function) : Type 0 where
  pub cells : f.cells ≡ g.cells
  pub frame_size : f.frame_size ≡ g.frame_size
  pub does : (C D : Calls) → CallsAgree C D → (here : Here) (s : State) →
      PiecesAgree (f.does C here s) (g.does D here s)

pub record DenotationsAgree (L M : Denotations) : Type 0 where
  pub interfaces : L.interfaces ≡ M.interfaces
  pub functions : (comp number : ℕ) → Meets FunctionsAgree (function L comp number) (function M comp number)
  pub entered : (comp : ℕ) (entry : Entry) → L.entered comp entry ≡ M.entered comp entry

-- runs with the same trace, and the same end but for the line of a blame
pub record BehavioursAgree (run other : SourceRun) : Type 0 where
  pub trace : run.trace ≡ other.trace
  pub end : without_line run.end ≡ without_line other.end

-- runs that agree, wherever they are stopped, and whose frames are the same, so that all depths are
pub record RunsAgree (run other : Run) : Type 0 where
  pub behaviour : (events : ℕ) → BehavioursAgree (stopped_at events run.behaviour) (stopped_at events other.behaviour)
  pub whole : BehavioursAgree run.behaviour other.behaviour
  pub frames : run.frames ≡ other.frames

-- denotations that agree function by function have runs of the same trace and the same stack depths: in their meaning,
-- and whoever performs whatever script
pub record AgreeingRunAlike : Type 0 where
  pub meaning : (L M : Denotations) → DenotationsAgree L M → (globals : Memory) (inputs : List ℕ) (turns : ℕ) →
      RunsAgree (run_by L (run_step L) globals inputs turns) (run_by M (run_step M) globals inputs turns)
  pub scripted : (L M : Denotations) → DenotationsAgree L M →
      (roles : Roles) (globals : Memory) (inputs : List ℕ) (turns : ℕ) →
      RunsAgree (run_by L (scripted_step L roles (run_step L)) globals inputs turns)
      (run_by M (scripted_step M roles (run_step M)) globals inputs turns)

-- a program whose trees stand on other lines has denotations that agree, and so its runs are the same but for the lines
-- of blames
pub record OtherLinesAgree : Type 0 where
  pub any_denotations : (arith : Arith) (line_of : ℕ → ℕ) (program : ProgramTree) →
      DenotationsAgree (denotations_of arith program) (denotations_of arith (program_lined line_of program))
  pub runs : (arith : Arith) (line_of : ℕ → ℕ) (program : ProgramTree) (inputs : List ℕ) (turns : ℕ) →
      RunsAgree (run_of arith program inputs turns) (run_of arith (program_lined line_of program) inputs turns)
