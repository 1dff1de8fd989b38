-- What a program means.
pub use Rattle.sc_base.specs.Identifier.{main_name}
use Rattle.sc_core.specs.Common.{End, Entry, Event, Export, Main, Proto, export_at}
use Rattle.std.specs.Prelude.{ℕ, zero, suc, ◌+◌, ◌-◌, ◌++◌, max, Bool, true, ◌&&◌, if◌then◌else◌, ◌==◌, nat_lt, List}
use Rattle.std.specs.Prelude.{[], ◌∷◌, bytes_eq, length, map, Option, None, Some, is_some, Ok, slice_get}
use Rattle.std.specs.Prelude.{slice_index_or}
use Rattle.std.specs.List.{position}
use Rattle.sc_core.specs.declared.cause.Cause.TheVariants.{NoReturn}
use Rattle.sc_core.specs.declared.ty.Ty.{Ty}
use Rattle.sc_core.specs.declared.ty.Ty.TheVariants as ty
use Rattle.sc_core.specs.declared.ty.BaseTy.{BaseTy}
use Rattle.sc_core.specs.declared.ty.BaseTy.TheVariants as base
use Rattle.sc_core.specs.declared.expr.TypedExpr.{TypedExpr}
use Rattle.sc_core.specs.declared.expr.VarRef.TheVariants.{Local}
use Rattle.sc_core.specs.declared.section.TypedStruct.{TypedStruct}
use Rattle.sc_core.specs.declared.section.TypedMember.{TypedMember}
use Rattle.sc_core.specs.declared.section.TypedGlobal.{TypedGlobal}
use Rattle.sc_core.specs.declared.section.TypedLocal.{TypedLocal}
use Rattle.sc_core.specs.declared.section.TypedFunction.{TypedFunction}
use Rattle.sc_core.specs.declared.section.TypedSection.{TypedSection}
use Rattle.sc_core.specs.declared.program.ProgramTree.{ProgramTree}
use Rattle.sc_core.specs.declared.run.RunEnd.TheVariants.{Ended, Blamed}
use Rattle.sc_core.specs.declared.run.SourceRun.{SourceRun}
use Rattle.sc_core.specs.declared.value.Cell.{Cell}
use Rattle.sc_core.specs.declared.value.Cell.TheVariants as cell
use Rattle.sc_core.specs.declared.value.Value.{Value}
use Rattle.sc_core.specs.declared.value.Value.TheVariants.{Word}
use Rattle.sc_core.specs.Memory.{Block, Blocks, Memory, variable}
use Rattle.sc_core.specs.Value.{Arith, c_arith, wrapping}
use Rattle.sc_core.specs.Types.{variables}
use Rattle.sc_core.specs.Sizes.{nodes, frame_bound}
use Rattle.sc_core.specs.Run.{stopped_at}
use Rattle.sc_core.specs.Combinators.{FrameChange, Opened, Closed, State, Here, Piece, Reached, Stopped, and_then, Exit}
use Rattle.sc_core.specs.Combinators.{Next, Break, Continue, Return, leave, follow, in_order, all_do, Calls}
use Rattle.sc_core.specs.Tree.{Acts, at_place, variable_at, ways, assign, block_does}
use Rattle.sc_core.specs.Calls.{Function, Denotations, Step, found, word_in, call_own, run_step, within}
use Rattle.sc_core.specs.Scripts.{roles_in, scripted_step}

-- the closing brace: a function with a result must not reach it, except `main`, which gives 0 (C11 5.1.2.2.3, 6.9.1p12)
abbrev pub at_brace : Bool → Bool → ℕ → Here → State → Piece (Option Value)
at_brace has_result is_main line here s =
    if has_result then (if is_main then Reached (Some (Word 0)) s else Stopped (Blamed here.comp NoReturn line) s) else
    Reached None s

-- how a call ends once control left the body of its function
abbrev pub closed : Exit → Bool → Bool → ℕ → Here → State → Piece (Option Value)
closed (Return v) has_result is_main line here s = Reached v s
closed Next has_result is_main line here s = at_brace has_result is_main line here s
closed Break has_result is_main line here s = at_brace has_result is_main line here s
closed Continue has_result is_main line here s = at_brace has_result is_main line here s

-- a local's initialiser is an assignment (C11 6.7.9p11)
module _ (arith : Arith) (structs : List TypedStruct) (here : Here) (params : ℕ) where
  abbrev pub init_does : ℕ → TypedLocal → Option TypedExpr → Acts
  init_does k local None = leave Next
  init_does k local (Some e) =
      assign here (at_place local.ty (λ blocks. Ok (variable_at here params (Local k))))
      (ways arith structs here params e) local.line

  abbrev pub inits_do : ℕ → List TypedLocal → List Acts
  inits_do k [] = []
  inits_do k (local ∷ locals) = init_does k local local.init ∷ inits_do (suc k) locals

  -- the initialisers in order, then the statements
  abbrev pub body_does : Calls → TypedFunction → Acts
  body_does by f a s =
      follow in_order (all_do (inits_do 0 f.locals) a s) (block_does arith structs here params by f.body)

-- a function of a section as a call sees it, where this is the main compartment
abbrev pub function_of : Arith → ℕ → List TypedStruct → TypedFunction → Function
function_of arith main structs f =
    record {
      cells = variables structs f;
      frame_size = frame_bound (variables structs f) (nodes f);
      does = λ by here s. and_then (body_does arith structs here (length f.params) by f tt s)
          (λ left s. closed left.exit (is_some f.result)
          (here.comp == main && bytes_eq f.name main_name) f.close_line here s);
    }

abbrev pub functions_in : Arith → ℕ → TypedSection → List Function
functions_in arith main section = map (function_of arith main section.structs) section.functions

-- the first function of a section that is called so
abbrev pub place_named : List ℕ → Option TypedSection → Option ℕ
place_named name None = None
place_named name (Some section) = position {X = TypedFunction} (λ f. bytes_eq f.name name) section.functions

abbrev pub place_of_export : Option Proto → Option TypedSection → Option ℕ
place_of_export None section = None
place_of_export (Some proto) section = place_named proto.name section

-- an export leads to the function of its name, and `main` to the one that is called so
abbrev pub entry_in : ProgramTree → ℕ → Entry → Option ℕ
entry_in program comp Main = place_named main_name (slice_get program.sections comp)
entry_in program comp (Export index) = place_of_export (export_at program.interfaces comp index)
    (slice_get program.sections comp)

abbrev pub denotations_of : Arith → ProgramTree → Denotations
denotations_of arith program =
    record {
      interfaces = program.interfaces;
      functions = map (functions_in arith program.interfaces.main) program.sections;
      entered = entry_in program;
    }

-- the cells of a variable without an initialiser: the word 0, or null in a pointer's place (C11 6.7.9p10)
module _ (zeros : List (List Cell)) where
  abbrev pub base_zeros : BaseTy → List Cell
  base_zeros base.Int = cell.Word 0 ∷ []
  base_zeros base.Unsigned = cell.Word 0 ∷ []
  base_zeros (base.Struct n) = slice_index_or zeros n []

  abbrev pub starred_zeros : ℕ → BaseTy → List Cell
  starred_zeros zero base = base_zeros base
  starred_zeros (suc stars) base = cell.Null ∷ []

  abbrev pub repeated : ℕ → List Cell → List Cell
  repeated zero cells = []
  repeated (suc n) cells = cells ++ repeated n cells

  abbrev pub zeros_of : Ty → List Cell
  zeros_of ty.Int = cell.Word 0 ∷ []
  zeros_of ty.Unsigned = cell.Word 0 ∷ []
  zeros_of (ty.Struct n) = slice_index_or zeros n []
  zeros_of (ty.Pointer stars base) = cell.Null ∷ []
  zeros_of (ty.Array stars base length) = repeated length (starred_zeros stars base)

  abbrev pub member_zeros : List TypedMember → List Cell
  member_zeros [] = []
  member_zeros (m ∷ ms) = zeros_of m.ty ++ member_zeros ms

-- of each struct, where those of the first ones are known: a struct holds only structs that stand before it (C11
-- 6.7.2.1p3)
abbrev pub struct_zeros : List (List Cell) → List TypedStruct → List (List Cell)
struct_zeros known [] = known
struct_zeros known (s ∷ structs) = struct_zeros (known ++ member_zeros known s.members ∷ []) structs

-- cells whose first ones are given these words; a pointer is given null
abbrev pub with_words : List ℕ → List Cell → List Cell
with_words [] cells = cells
with_words (w ∷ ws) [] = []
with_words (w ∷ ws) (cell.Null ∷ cells) = cell.Null ∷ with_words ws cells
with_words (w ∷ ws) (c ∷ cells) = cell.Word w ∷ with_words ws cells

abbrev pub global_block : List (List Cell) → TypedGlobal → Block
global_block zeros g = variable (with_words g.init (zeros_of zeros g.ty))

-- the blocks with which a compartment begins: its globals (C11 6.2.4p3)
abbrev pub first_blocks : Option TypedSection → Blocks
first_blocks None = []
first_blocks (Some section) = map (global_block (struct_zeros [] section.structs)) section.globals

abbrev pub globals_of : List TypedSection → Memory
globals_of sections comp = first_blocks (slice_get sections comp)

-- a whole run, not stopped at a number of events yet
pub record Run : Type 0 where
  pub behaviour : SourceRun
  pub frames : List FrameChange

-- the word that `main` returns
abbrev pub exit_word : Option Value → ℕ
exit_word None = 0
exit_word (Some v) = word_in v

-- the run that ends so; where the first call of `main` returned it ends with an event
abbrev pub run_to : ℕ → Piece (Option Value) → Run
run_to main (Reached v s) =
    record { behaviour = record { trace = s.trace ++ End main (exit_word v) ∷ []; end = Ended }; frames = s.frames }
run_to main (Stopped end s) = record { behaviour = record { trace = s.trace; end = end }; frames = s.frames }

-- the state in which a run begins
abbrev pub first_state : Memory → List ℕ → ℕ → State
first_state globals inputs turns =
    record { memory = globals; trace = []; frames = []; turns = turns; inputs = inputs }

-- the run in which functions do this step. The start of `main` takes no turn, so there are never more open calls than
-- turns and one
abbrev pub run_by : Denotations → Step → Memory → List ℕ → ℕ → Run
run_by denotations step globals inputs turns =
    run_to denotations.interfaces.main (and_then (found (denotations.entered denotations.interfaces.main Main)
    (first_state globals inputs turns)) (λ number s.
    call_own denotations (within step (suc turns)) denotations.interfaces.main number [] s))

-- the greatest stack depth of a compartment, by the changes made while the trace has fewer than `events` events, where
-- its depth before them is `depth`
abbrev pub deepest : ℕ → ℕ → ℕ → List FrameChange → ℕ
deepest events comp depth [] = depth
deepest events comp depth (Opened emitted c more ∷ changes) =
    if c == comp && nat_lt emitted events then max depth (deepest events comp (depth + more) changes) else
    deepest events comp depth changes
deepest events comp depth (Closed emitted c less ∷ changes) =
    if c == comp && nat_lt emitted events then max depth (deepest events comp (depth - less) changes) else
    deepest events comp depth changes

-- how deep a compartment gets in a run that is stopped at a number of events
abbrev pub depth_in : Run → ℕ → ℕ → ℕ
depth_in run events comp = deepest events comp 0 run.frames

module _ (arith : Arith) (program : ProgramTree) (inputs : List ℕ) (turns : ℕ) where
  abbrev pub run_of : Run
  run_of =
      run_by (denotations_of arith program) (run_step (denotations_of arith program)) (globals_of program.sections)
      inputs turns

  -- the run in which the compartments of a set perform their parts of a trace
  abbrev pub scripted_run_of : (ℕ → Bool) → List Event → Run
  scripted_run_of set trace =
      run_by (denotations_of arith program) (scripted_step (denotations_of arith program)
      (roles_in program.interfaces.main set trace) (run_step (denotations_of arith program)))
      (globals_of program.sections) inputs turns

-- the run of a program under an arithmetic, stopped at a number of events
abbrev pub meaning_by : Arith → ProgramTree → List ℕ → ℕ → ℕ → SourceRun
meaning_by arith program inputs turns events = stopped_at events (run_of arith program inputs turns).behaviour

abbrev pub scripted_by : Arith → ProgramTree → (ℕ → Bool) → List Event → List ℕ → ℕ → ℕ → SourceRun
scripted_by arith program set trace inputs turns events =
    stopped_at events (scripted_run_of arith program inputs turns set trace).behaviour

abbrev pub meaning : ProgramTree → List ℕ → ℕ → ℕ → SourceRun
meaning program inputs turns events = meaning_by c_arith program inputs turns events

-- the same where every operator gives a word
abbrev pub wrapped : ProgramTree → List ℕ → ℕ → ℕ → SourceRun
wrapped program inputs turns events = meaning_by wrapping program inputs turns events

abbrev pub scripted_meaning : ProgramTree → (ℕ → Bool) → List Event → List ℕ → ℕ → ℕ → SourceRun
scripted_meaning program set trace inputs turns events = scripted_by c_arith program set trace inputs turns events

abbrev pub scripted_wrapped : ProgramTree → (ℕ → Bool) → List Event → List ℕ → ℕ → ℕ → SourceRun
scripted_wrapped program set trace inputs turns events = scripted_by wrapping program set trace inputs turns events

-- the greatest stack depth of a compartment, in a run of each of the four forms
abbrev pub depth_by : Arith → ProgramTree → List ℕ → ℕ → ℕ → ℕ → ℕ
depth_by arith program inputs turns events comp = depth_in (run_of arith program inputs turns) events comp

abbrev pub scripted_depth_by : Arith → ProgramTree → (ℕ → Bool) → List Event → List ℕ → ℕ → ℕ → ℕ → ℕ
scripted_depth_by arith program set trace inputs turns events comp =
    depth_in (scripted_run_of arith program inputs turns set trace) events comp

abbrev pub depth : ProgramTree → List ℕ → ℕ → ℕ → ℕ → ℕ
depth program inputs turns events comp = depth_by c_arith program inputs turns events comp

abbrev pub wrapped_depth : ProgramTree → List ℕ → ℕ → ℕ → ℕ → ℕ
wrapped_depth program inputs turns events comp = depth_by wrapping program inputs turns events comp
