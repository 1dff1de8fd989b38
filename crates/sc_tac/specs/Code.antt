-- The meaning of three-address code, by the combinators of programs' meaning.
use Rattle.sc_tac.specs.Common.{Arith, Blocks, Break, Calls, Continue, Denotations, Does, Entry, Event, Function, Here}
use Rattle.sc_tac.specs.Common.{Main, Memory, Next, Piece, Reached, Return, Run, State, Step, all_do, and_then}
use Rattle.sc_tac.specs.Common.{applied_one, between, c_arith, choose, closed, computed, depth_in, elements_allocated}
use Rattle.sc_tac.specs.Common.{frame_bound, global_block, leave, load, loop, moved, moved_back, moved_on, on_words}
use Rattle.sc_tac.specs.Common.{released, roles_in, run_by, run_step, scripted_step, stopped_at, stored, struct_zeros}
use Rattle.sc_tac.specs.Common.{wrapping}
use Rattle.std.specs.Prelude.{ℕ, pos, ◌+◌, Bool, true, false, ◌&&◌, ◌==◌, if◌then◌else◌, List, [], ◌∷◌, map, Option}
use Rattle.std.specs.Prelude.{None, Some, Result, Ok, Err, slice_get}
use Rattle.std.specs.List.{position}
use Rattle.sc_base.specs.declared.op.BinaryOp.{BinaryOp}
use Rattle.sc_base.specs.declared.op.BinaryOp.TheVariants as op
use Rattle.sc_base.specs.declared.op.UnaryOp.TheVariants as unary
use Rattle.sc_event.specs.declared.interface.Scalar.{Scalar}
use Rattle.sc_event.specs.declared.interface.Scalar.TheVariants.{Int, Unsigned}
use Rattle.sc_core.specs.declared.cause.Cause.{Cause}
use Rattle.sc_core.specs.declared.cause.Cause.TheVariants.{BadType, Indeterminate}
use Rattle.sc_core.specs.declared.expr.CallTarget.{CallTarget}
use Rattle.sc_core.specs.declared.expr.CallTarget.TheVariants.{Own, Cross, Input, Output}
use Rattle.sc_core.specs.declared.run.SourceRun.{SourceRun}
use Rattle.sc_core.specs.declared.value.Value.{Value}
use Rattle.sc_core.specs.declared.value.Value.TheVariants.{Word, Null, Ptr}
use Rattle.sc_tac.specs.declared.function.TacFnTree.{TacFnTree}
use Rattle.sc_tac.specs.declared.program.TacSection.{TacSection}
use Rattle.sc_tac.specs.declared.program.TacTree.{TacTree}
use Rattle.sc_tac.specs.declared.stmt.Constant.{Constant}
use Rattle.sc_tac.specs.declared.stmt.Constant.TheVariants as constant
use Rattle.sc_tac.specs.declared.stmt.TacOp.{TacOp}
use Rattle.sc_tac.specs.declared.stmt.TacOp.TheVariants as tacop
use Rattle.sc_tac.specs.declared.stmt.TacStmt.{TacStmt, TacStmt-F, fold-TacStmt}
use Rattle.sc_tac.specs.declared.stmt.TacStmt.TheOpen as tac
use Rattle.sc_tac.specs.Programs.{same_entry}

-- what each temporary was given, if it was
abbrev pub Temps : Type 0
Temps = ℕ → Option Value

-- code carries its temporaries along
abbrev pub Codes : Type 0
Codes = Does Temps

abbrev pub no_temps : Temps
no_temps t = None

abbrev pub with_temp : ℕ → Value → Temps → Temps
with_temp dest v temps t = if t == dest then Some v else temps t

abbrev pub is_unsigned : Scalar → Bool
is_unsigned Int = false
is_unsigned Unsigned = true

abbrev pub constant_value : Constant → Value
constant_value (constant.Word w) = Word w
constant_value constant.Null = Null

-- a pointer or null
abbrev pub is_pointer : Value → Bool
is_pointer (Word w) = false
is_pointer Null = true
is_pointer (Ptr p) = true

abbrev pub is_comparison : BinaryOp → Bool
is_comparison op.Equal = true
is_comparison op.NotEqual = true
is_comparison op.Less = true
is_comparison op.Greater = true
is_comparison op.LessEqual = true
is_comparison op.GreaterEqual = true
is_comparison _ = false

-- a comparison of two pointers
abbrev pub compared : Blocks → BinaryOp → Value → Value → Result Value Cause
compared blocks o v w =
    if is_comparison o && (is_pointer v && is_pointer w) then between blocks o 1 v w else Err BadType

-- an operator, which takes its second value where it has use for one
abbrev pub operated : Arith → Blocks → TacOp → Value → Value → Result Value Cause
operated arith blocks (tacop.Unary o scalar) v w = applied_one arith (is_unsigned scalar) o v
operated arith blocks (tacop.Binary o scalar) v w = on_words arith (is_unsigned scalar) o v w
operated arith blocks tacop.PointerNot v w = applied_one arith false unary.Not v
operated arith blocks (tacop.PointerMove true cells index) v w = moved_back blocks cells (is_unsigned index) v w
operated arith blocks (tacop.PointerMove false cells index) v w = moved_on blocks cells (is_unsigned index) v w
operated arith blocks (tacop.PointerMember offset) v w = moved blocks (pos offset) v
operated arith blocks (tacop.PointerDifference cells) v w = between blocks op.Sub cells v w
operated arith blocks (tacop.PointerCompare o) v w = compared blocks o v w

-- the first cell of a block
abbrev pub start_of : ℕ → Value
start_of block = Ptr (record { block = block; index = 0 })

-- what a call gave goes where it is wanted
abbrev pub received : Option ℕ → Option Value → Temps → Temps
received (Some dest) (Some v) temps = with_temp dest v temps
received (Some dest) None temps = temps
received None v temps = temps

-- what a temporary was given; one that wasn't is blamed, which the rules of functions exclude
abbrev pub known : Option Value → Result Value Cause
known None = Err Indeterminate
known (Some v) = Ok v

module _ (here : Here) where
  abbrev pub read : ℕ → Temps → State → Piece Value
  read t temps s = computed here 0 (known (temps t)) s

  -- the second value of an operator; one that takes only one value has no use for it
  abbrev pub second : Option ℕ → Value → Temps → State → Piece Value
  second None v temps s = Reached v s
  second (Some t) v temps s = read t temps s

  -- several, in order
  abbrev pub read_all : List ℕ → Temps → State → Piece (List Value)
  read_all [] temps s = Reached [] s
  read_all (t ∷ ts) temps s =
      and_then (read t temps s) (λ v s. and_then (read_all ts temps s) (λ vs s. Reached (v ∷ vs) s))

  -- a temporary gets what is computed
  abbrev pub gets : ℕ → Result Value Cause → Codes
  gets dest result temps s = and_then (computed here 0 result s) (λ v s. leave Next (with_temp dest v temps) s)

  abbrev pub op_does : Arith → ℕ → TacOp → ℕ → Option ℕ → Codes
  op_does arith dest o left right temps s =
      and_then (read left temps s) (λ v s.
      and_then (second right v temps s) (λ w s.
      gets dest (operated arith (s.memory here.comp) o v w) temps s))

  abbrev pub store_does : ℕ → ℕ → Codes
  store_does place value temps s =
      and_then (read place temps s) (λ q s. and_then (read value temps s) (λ v s. stored here q v 0 temps s))

  abbrev pub call_does : Calls → Option ℕ → CallTarget → List ℕ → Codes
  call_does calls dest target args temps s =
      and_then (read_all args temps s) (λ vs s.
      and_then (calls here.comp target vs s) (λ result s.
      leave Next (received dest result temps) s))

  abbrev pub alloc_does : (dest count words : ℕ) → Codes
  alloc_does dest count words temps s =
      and_then (read count temps s) (λ v s.
      and_then (elements_allocated here v words 0 s) (λ q s. leave Next (with_temp dest q temps) s))

  abbrev pub free_does : ℕ → Codes
  free_does pointer temps s = and_then (read pointer temps s) (λ v s. released here v 0 temps s)

  abbrev pub return_does : Option ℕ → Codes
  return_does None temps s = leave (Return None) temps s
  return_does (Some t) temps s = and_then (read t temps s) (λ v s. leave (Return (Some v)) temps s)

module _ (arith : Arith) (here : Here) (calls : Calls) where
  -- what a statement does, from what the statements inside do
  abbrev pub code_step : TacStmt-F Codes → Codes
  code_step (tac.Const dest value) temps s = leave Next (with_temp dest (constant_value value) temps) s
  code_step (tac.Copy dest from) temps s = and_then (read here from temps s)
      (λ v s. leave Next (with_temp dest v temps) s)
  code_step (tac.Op dest o left right) temps s = op_does here arith dest o left right temps s
  code_step (tac.ObjectPlace dest object) temps s = leave Next (with_temp dest (start_of (here.first + object)) temps) s
  code_step (tac.GlobalPlace dest global) temps s = leave Next (with_temp dest (start_of global) temps) s
  code_step (tac.Load dest place pointer) temps s =
      and_then (read here place temps s) (λ q s. gets here dest (load (s.memory here.comp) pointer q) temps s)
  code_step (tac.Store place value) temps s = store_does here place value temps s
  code_step (tac.If cond a b) temps s =
      and_then (read here cond temps s) (λ v s. choose v (all_do a temps s) (all_do b temps s))
  code_step (tac.Loop head body next) temps s = loop (all_do head) (all_do body) (all_do next) temps s
  code_step tac.Break temps s = leave Break temps s
  code_step tac.Continue temps s = leave Continue temps s
  code_step (tac.CallOwn dest function args) temps s = call_does here calls dest (Own function) args temps s
  code_step (tac.CallCross dest comp index args) temps s = call_does here calls dest (Cross comp index) args temps s
  code_step (tac.Input dest) temps s = call_does here calls dest Input [] temps s
  code_step (tac.Output value) temps s = call_does here calls None Output (value ∷ []) temps s
  code_step (tac.Alloc dest count words) temps s = alloc_does here dest count words temps s
  code_step (tac.Free pointer) temps s = free_does here pointer temps s
  code_step (tac.Return value) temps s = return_does here value temps s

  abbrev pub stmt_does : TacStmt → Codes
  stmt_does = fold-TacStmt Codes code_step

  abbrev pub code_does : List TacStmt → Codes
  code_does stmts = all_do (map stmt_does stmts)

-- a function as a call sees it: its closing brace is reached at the end of its code
abbrev pub code_function : Arith → TacFnTree → Function
code_function arith f =
    record {
      cells = f.objects;
      frame_size = frame_bound f.objects f.nodes;
      does = λ by here s.
          and_then (code_does arith here by f.body no_temps s) (λ left s.
          closed left.exit f.result (same_entry Main f.entry) 0 here s);
    }

abbrev pub code_functions : Arith → TacSection → List Function
code_functions arith section = map (code_function arith) section.functions

-- the function of a section that an entry leads to
abbrev pub function_entered : Entry → Option TacSection → Option ℕ
function_entered entry None = None
function_entered entry (Some section) = position {X = TacFnTree} (λ f. same_entry entry f.entry) section.functions

abbrev pub code_denotations : Arith → TacTree → Denotations
code_denotations arith program =
    record {
      interfaces = program.interfaces;
      functions = map (code_functions arith) program.sections;
      entered = λ comp entry. function_entered entry (slice_get program.sections comp);
    }

-- the globals of each compartment, as its source begins with them
abbrev pub first_blocks : Option TacSection → Blocks
first_blocks None = []
first_blocks (Some section) = map (global_block (struct_zeros [] section.structs)) section.globals

abbrev pub code_globals : List TacSection → Memory
code_globals sections comp = first_blocks (slice_get sections comp)

-- each function runs its code
abbrev pub code_runs : Arith → TacTree → Step
code_runs arith program = run_step (code_denotations arith program)

-- those of the compartments of a set perform their parts of a trace
abbrev pub code_performs : Arith → TacTree → (ℕ → Bool) → List Event → Step
code_performs arith program set trace =
    scripted_step (code_denotations arith program) (roles_in program.interfaces.main set trace)
    (code_runs arith program)

module _ (arith : Arith) (program : TacTree) (inputs : List ℕ) (turns : ℕ) where
  abbrev pub code_run_by : Step → Run
  code_run_by step = run_by (code_denotations arith program) step (code_globals program.sections) inputs turns

  abbrev pub code_run : Run
  code_run = code_run_by (code_runs arith program)

  abbrev pub scripted_code_run : (ℕ → Bool) → List Event → Run
  scripted_code_run set trace = code_run_by (code_performs arith program set trace)

-- the behaviour of code under an arithmetic, stopped at `events` events
abbrev pub code_meaning_by : Arith → TacTree → List ℕ → ℕ → ℕ → SourceRun
code_meaning_by arith program inputs turns events = stopped_at events (code_run arith program inputs turns).behaviour

abbrev pub scripted_code_by : Arith → TacTree → (ℕ → Bool) → List Event → List ℕ → ℕ → ℕ → SourceRun
scripted_code_by arith program set trace inputs turns events =
    stopped_at events (scripted_code_run arith program inputs turns set trace).behaviour

abbrev pub code_meaning : TacTree → List ℕ → ℕ → ℕ → SourceRun
code_meaning program inputs turns events = code_meaning_by c_arith program inputs turns events

-- the same where every operator gives a word
abbrev pub code_wrapped : TacTree → List ℕ → ℕ → ℕ → SourceRun
code_wrapped program inputs turns events = code_meaning_by wrapping program inputs turns events

abbrev pub scripted_code_meaning : TacTree → (ℕ → Bool) → List Event → List ℕ → ℕ → ℕ → SourceRun
scripted_code_meaning program set trace inputs turns events =
    scripted_code_by c_arith program set trace inputs turns events

-- the greatest stack depth of a compartment
abbrev pub code_depth_by : Arith → TacTree → List ℕ → ℕ → ℕ → ℕ → ℕ
code_depth_by arith program inputs turns events comp = depth_in (code_run arith program inputs turns) events comp

abbrev pub scripted_code_depth_by : Arith → TacTree → (ℕ → Bool) → List Event → List ℕ → ℕ → ℕ → ℕ → ℕ
scripted_code_depth_by arith program set trace inputs turns events comp =
    depth_in (scripted_code_run arith program inputs turns set trace) events comp
