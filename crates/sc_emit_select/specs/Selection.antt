-- Instruction selection: the instructions of each statement of three-address code, where each temporary has its place.
use Rattle.sc_emit_select.specs.Common.{Addi, Branch, CodeTree, Ecall, Entry as EntryOf, FrameTree, Function, Global}
use Rattle.sc_emit_select.specs.Common.{Instr, Jal, Jalr, Load, Lui, Lw, OpImm, Place, Store, Sw, TacOp, TacStmt}
use Rattle.sc_emit_select.specs.Common.{TacStmt-F, Upper, fold-TacStmt, uses_heap}
use Rattle.std.specs.Prelude.{Bool, List, None, Option, Some, [], drop, false, if◌then◌else◌, length, map, nat_lt}
use Rattle.std.specs.Prelude.{neg_ℤ, pos, slice_get, suc, take as take_prefix, true, zero, ℕ, ◌&&◌, ◌*◌, ◌++◌, ◌+◌, ◌-◌}
use Rattle.std.specs.Prelude.{◌==◌, ◌∷◌}
use Rattle.std.specs.List.{list_all}
use Rattle.std.specs.Option.{unwrap_or}
use Rattle.sc_event.specs.declared.row.Entry.{Entry}
use Rattle.sc_event.specs.declared.row.Entry.TheVariants.{Main}
use Rattle.rv_code.specs.declared.instr.BranchOp.TheVariants.{Bne}
use Rattle.sc_tac.specs.declared.function.TacFnTree.{TacFnTree}
use Rattle.sc_tac.specs.declared.place.Place.TheVariants.{Register, Slot}
use Rattle.sc_tac.specs.declared.stmt.TacStmt.TheOpen as tac
use Rattle.sc_emit_select.specs.declared.roles.Role.{Role}
use Rattle.sc_emit_select.specs.declared.roles.Role.TheVariants.{Applies, Loads, Operates, Other, Places, Returns, Sets}
use Rattle.sc_emit_select.specs.declared.roles.Role.TheVariants.{Stores}
use Rattle.sc_emit_select.specs.Needs.{has_mark, needed_in}
use Rattle.sc_emit_select.specs.Lines.{Line, plain, plainly, referring, code_of_lines}
use Rattle.sc_emit_select.specs.Pieces.{ra, sp, first_scratch, second_scratch, a0, a1, a7, register_of, move}
use Rattle.sc_emit_select.specs.Pieces.{loading, moved_by, load_word, store_word, frame_taken, epilogue}
use Rattle.sc_emit_select.specs.declared.operators.ShortForm.{ShortForm}
use Rattle.sc_emit_select.specs.Operators.{op_code, short_code, short_form}
use Rattle.sc_emit_select.specs.Roles.{joins, role_of_operation, role_of_return, role_of_store, role_to_next}
use Rattle.sc_emit_select.specs.Roles.{word_of_constant}

-- how the code of a function is chosen: which temporaries are read in their places, and whether a branch reaches all
-- over it
pub record Plan : Type 0 where
  pub needed : ℕ → Bool
  pub near : Bool

-- Helping: the same by a mark for each temporary
abbrev pub plan_by : List Bool → Bool → Plan
plan_by marks near = record { needed = has_mark marks; near = near }

-- what a statement is to the loop in whose head it stands: after it the next one is done, if the call goes on; or it is
-- a break; or it breaks where a value is false; or it may break or continue
pub data Kind : Type 0 where
  Plain : Kind
  Breaks : Kind
  Tests : (cond : ℕ) → Kind
  Strays : Kind

-- how many lines a piece of code has, and which, where `to_break` lines lie between its end and where a break leads,
-- and `to_continue` for a continue; whether one piece may stand for it and its neighbour; and what it is to a loop
pub record Piece : Type 0 where
  pub size : ℕ
  pub lines : (to_break to_continue : ℕ) → List Line
  pub role : Role
  pub kind : Kind

abbrev pub straight : List Line → Piece
straight lines =
    record { size = length lines; lines = λ to_break to_continue. lines; role = Other; kind = Plain }

abbrev pub nothing : Piece
nothing = straight []

abbrev pub followed : Piece → Piece → Piece
followed first second = record {
  size = first.size + second.size;
  lines = λ to_break to_continue.
      first.lines (second.size + to_break) (second.size + to_continue) ++ second.lines to_break to_continue;
  role = Other;
  kind = Strays;
}

-- one piece after the other
abbrev pub in_turn : List Piece → Piece
in_turn [] = nothing
in_turn (piece ∷ pieces) = followed piece (in_turn pieces)

abbrev pub role_first : List Piece → Role
role_first [] = Other
role_first (piece ∷ pieces) = piece.role

-- Helping: what the pieces before the one at a number are to it, the last two of them
abbrev pub role_before : List Piece → (at : ℕ) → Role
role_before pieces zero = Other
role_before pieces (suc zero) = role_first pieces
role_before pieces (suc (suc at)) = role_to_next (role_first (drop at pieces)) (role_first (drop (suc at) pieces))

abbrev pub is_plain : Kind → Bool
is_plain Plain = true
is_plain kind = false

abbrev pub all_plain : List Piece → Bool
all_plain pieces = list_all {X = Piece} (λ piece. is_plain piece.kind) pieces

-- Helping: the same by a test of each part
abbrev pub breaks : Kind → Bool
breaks Breaks = true
breaks kind = false

abbrev pub is_break : List Piece → Bool
is_break (piece ∷ []) = breaks piece.kind
is_break pieces = false

-- an `If` that does nothing where a value is true, and else breaks
abbrev pub kind_by : (cond : ℕ) → Kind → Kind
kind_by cond Breaks = Tests cond
kind_by cond kind = Strays

abbrev pub test_by : (cond : ℕ) → (first second : List Piece) → Kind
test_by cond [] (piece ∷ []) = kind_by cond piece.kind
test_by cond first second = Strays

abbrev pub kind_of_fork : (cond : ℕ) → (first second : List Piece) → Kind
kind_of_fork cond first second =
    if all_plain first && all_plain second then Plain else test_by cond first second

abbrev pub test_of : Kind → Option ℕ
test_of (Tests cond) = Some cond
test_of kind = None

-- the test that statements end with, which are plain before it
abbrev pub ending_test : List Piece → Option ℕ
ending_test [] = None
ending_test (piece ∷ []) = test_of piece.kind
ending_test (piece ∷ next ∷ rest) = if is_plain piece.kind then ending_test (next ∷ rest) else None

-- those before it
abbrev pub before_test : List Piece → List Piece
before_test pieces = take_prefix (length pieces - 1) pieces

-- fewer lines than a branch can lead back over: 2 ^ 12 bytes
abbrev pub branch_reach : ℕ
branch_reach = 1024

-- a jump over `lines` lines
abbrev pub jump_over : ℕ → Line
jump_over lines = plain (Jal 0 (pos (4 * suc lines)))

-- a jump past `lines` lines, where there are any
abbrev pub past : ℕ → List Line
past zero = []
past (suc lines) = jump_over (suc lines) ∷ []

abbrev pub breaking : Piece
breaking = record { size = 1; lines = λ to_break to_continue. jump_over to_break ∷ []; role = Other; kind = Breaks }

abbrev pub continuing : Piece
continuing =
    record { size = 1; lines = λ to_break to_continue. jump_over to_continue ∷ []; role = Other; kind = Strays }

-- a jump back to where the `lines` lines before it begin
abbrev pub jump_back : ℕ → Line
jump_back lines = plain (Jal 0 (neg_ℤ (pos (4 * lines))))

-- what a loop begins with, so that its first round isn't without an instruction. A jump back begins each further one
abbrev pub loop_begins : Line
loop_begins = plain (OpImm Addi 0 0 (pos 0))

-- the register in which the value at a place is at hand: its own, or a scratch register
abbrev pub at_hand : (scratch : ℕ) → Option Place → ℕ
at_hand scratch (Some (Register r)) = register_of r
at_hand scratch _ = scratch

-- the environment's calls by their numbers in a7
abbrev pub environment_call : ℕ → List Instr
environment_call number = OpImm Addi a7 0 (pos number) ∷ Ecall ∷ []

module _ (frame : FrameTree) where
  abbrev pub slot_offset : ℕ → ℕ
  slot_offset slot = unwrap_or (slice_get frame.slots slot) 0

  abbrev pub object_offset : ℕ → ℕ
  object_offset object = unwrap_or (slice_get frame.objects object) 0

  -- the instructions after which the value at a place is at hand
  abbrev pub taken : (scratch : ℕ) → Option Place → List Instr
  taken scratch (Some (Slot slot)) = load_word scratch (slot_offset slot)
  taken scratch _ = []

  -- those that bring a result at hand to its place
  abbrev pub kept : Option Place → List Instr
  kept (Some (Slot slot)) = store_word first_scratch (slot_offset slot)
  kept _ = []

  -- the value at a place into a register
  abbrev pub brought : (rd : ℕ) → Option Place → List Instr
  brought rd (Some (Register r)) = move rd (register_of r) ∷ []
  brought rd (Some (Slot slot)) = load_word rd (slot_offset slot)
  brought rd None = []

  -- a register into a place
  abbrev pub put : (rs : ℕ) → Option Place → List Instr
  put rs (Some (Register r)) = move (register_of r) rs ∷ []
  put rs (Some (Slot slot)) = store_word rs (slot_offset slot)
  put rs None = []

  -- the value at one place into another
  abbrev pub copied : (dest from : Option Place) → List Instr
  copied (Some (Register r)) from = brought (register_of r) from
  copied (Some (Slot slot)) from =
      taken first_scratch from ++ store_word (at_hand first_scratch from) (slot_offset slot)
  copied None from = []

module _ (frame : FrameTree) (places : List Place) where
  abbrev pub place_of : ℕ → Option Place
  place_of t = slice_get places t

  -- an operand and its register
  abbrev pub take : (scratch t : ℕ) → List Instr
  take scratch t = taken frame scratch (place_of t)

  abbrev pub operand : (scratch t : ℕ) → ℕ
  operand scratch t = at_hand scratch (place_of t)

  -- the register of a result, which then is kept
  abbrev pub result_register : ℕ → ℕ
  result_register dest = operand first_scratch dest

  abbrev pub keep : ℕ → List Instr
  keep dest = kept frame (place_of dest)

  abbrev pub take_second : Option ℕ → List Instr
  take_second None = []
  take_second (Some t) = take second_scratch t

  abbrev pub second_operand : Option ℕ → ℕ
  second_operand None = 0
  second_operand (Some t) = operand second_scratch t

  abbrev pub operation : (dest : ℕ) → TacOp → (left : ℕ) → (right : Option ℕ) → List Instr
  operation dest o left right =
      take first_scratch left ++ take_second right ++
      op_code (result_register dest) (operand first_scratch left) (second_operand right) o ++ keep dest

  abbrev pub load_from : (dest place : ℕ) → List Instr
  load_from dest place =
      take first_scratch place ++ Load Lw (result_register dest) (operand first_scratch place) (pos 0) ∷ keep dest

  abbrev pub store_to : (place value : ℕ) → List Instr
  store_to place value =
      take first_scratch place ++ take second_scratch value ++
      Store Sw (operand first_scratch place) (operand second_scratch value) (pos 0) ∷ []

  abbrev pub place_of_global : (dest global : ℕ) → List Line
  place_of_global dest global =
      referring (Global global) (Upper Lui (result_register dest) 0) ∷
      plainly (OpImm Addi (result_register dest) (result_register dest) (pos 0) ∷ keep dest)

  -- arguments into the registers from this one on
  abbrev pub pass : (rd : ℕ) → List ℕ → List Instr
  pass rd [] = []
  pass rd (t ∷ ts) = brought frame rd (place_of t) ++ pass (suc rd) ts

  -- what a call gave to where it is wanted
  abbrev pub receive : Option ℕ → List Instr
  receive None = []
  receive (Some dest) = put frame a0 (place_of dest)

  abbrev pub call_own : (dest : Option ℕ) → (function : ℕ) → (args : List ℕ) → List Line
  call_own dest function args =
      plainly (pass a0 args) ++ referring (Function function) (Jal ra (pos 0)) ∷ plainly (receive dest)

  abbrev pub call_cross : (dest : Option ℕ) → (comp index : ℕ) → (args : List ℕ) → List Line
  call_cross dest comp index args =
      plainly (pass a0 args) ++ referring (EntryOf comp index) (Upper Lui first_scratch 0) ∷
      plainly (Jalr ra first_scratch (pos 0) ∷ receive dest)

  abbrev pub return : Option ℕ → List Instr
  return None = epilogue frame.bytes
  return (Some t) = brought frame a0 (place_of t) ++ epilogue frame.bytes

  abbrev pub straightly : List Instr → Piece
  straightly instrs = straight (plainly instrs)

  -- a branch over the instruction after it, where a value is true
  abbrev pub choice : ℕ → List Instr
  choice cond = take first_scratch cond ++ Branch Bne (operand first_scratch cond) 0 (pos 8) ∷ []

  -- the first part, which a jump past the second ends
  abbrev pub ending_past : (first second : Piece) → Piece
  ending_past first second = followed first (straight (past second.size))

  -- the branch leads over a jump to the second part
  abbrev pub choosing : ℕ → (first second : Piece) → Piece
  choosing cond first second =
      followed (straightly (choice cond)) (followed (straight (jump_over (ending_past first second).size ∷ []))
      (followed (ending_past first second) second))

  -- the branch leads over one line
  abbrev pub skipping : ℕ → Piece → Piece
  skipping cond line = followed (straightly (choice cond)) line

  -- a break leads past the jump back, a continue to the next part. The jump back leads to the head
  abbrev pub cycle : Piece → Piece → Piece → Piece
  cycle head body next = record {
    size = 2 + (head.size + (body.size + next.size));
    lines = λ to_break to_continue.
        loop_begins ∷ (head.lines (body.size + suc next.size) 0 ++ (body.lines (suc next.size) 0 ++
        (next.lines 1 0 ++ (jump_back (head.size + (body.size + next.size)) ∷ []))));
    role = Other;
    kind = Plain;
  }

  -- a branch back to where the `lines` lines before it begin, where a value is true. Where it doesn't reach, a jump
  -- stands for it, in code that isn't taken
  abbrev pub branch_back : (cond lines : ℕ) → Line
  branch_back cond lines =
      if nat_lt lines branch_reach
      then plain (Branch Bne (operand first_scratch cond) 0 (neg_ℤ (pos (4 * lines)))) else jump_back lines

  -- the test at the end of a loop, with `lines` lines before it, all of which a further round repeats
  abbrev pub testing : (cond lines : ℕ) → List Line
  testing cond lines =
      plainly (take first_scratch cond) ++ branch_back cond (lines + length (take first_scratch cond)) ∷ []

  -- a loop that ends with its head, and that with its test, from which a branch leads back to the body. It begins with
  -- a jump to the head
  abbrev pub rotated : (cond : ℕ) → (head body next : Piece) → Piece
  rotated cond head body next =
      let test : ℕ = suc (length (take first_scratch cond)) in
      record {
        size = 1 + (body.size + (next.size + (head.size + test)));
        lines = λ to_break to_continue.
            jump_over (body.size + next.size) ∷ (body.lines (next.size + (head.size + test)) 0 ++
            (next.lines (head.size + test) 0 ++ (head.lines test 0 ++
            testing cond (body.size + (next.size + head.size)))));
        role = Other;
        kind = Plain;
      }

  -- a variable's word into a temporary
  abbrev pub object_read : (dest object : ℕ) → List Instr
  object_read dest object = load_word (result_register dest) (object_offset frame object) ++ keep dest

  -- a temporary into a variable's word
  abbrev pub object_store : (value object : ℕ) → List Instr
  object_store value object =
      take second_scratch value ++ store_word (operand second_scratch value) (object_offset frame object)

  -- what an operator gives of a temporary and a constant
  abbrev pub short_operation : (dest left : ℕ) → Option ShortForm → List Instr
  short_operation dest left form =
      take first_scratch left ++ short_code (result_register dest) (operand first_scratch left) form ++ keep dest

  -- it returns what an operator gives of a temporary and a constant
  abbrev pub short_return : (left : ℕ) → Option ShortForm → List Instr
  short_return left form =
      take first_scratch left ++ short_code a0 (operand first_scratch left) form ++ epilogue frame.bytes

  -- the code of two neighbours that are one piece
  abbrev pub as_one : (first second : Role) → Piece
  as_one (Places temp object) (Loads other) = straightly (object_read temp object)
  as_one (Places temp object) (Stores other value) = straightly (object_store value object)
  as_one (Sets temp word) (Operates dest left o right) =
      straightly (short_operation dest left (short_form o word))
  as_one (Applies temp left o word) (Returns other) = straightly (short_return left (short_form o word))
  as_one _ _ = nothing

  -- a piece between two others: the last of those that are one has the code of all
  abbrev pub between : (before : Role) → Piece → (following : Role) → Piece
  between before piece following =
      if joins (role_to_next before piece.role) following then nothing
      else if joins before piece.role then as_one before piece.role
      else piece

  abbrev pub joined : (before : Role) → List Piece → List Piece
  joined before [] = []
  joined before (piece ∷ pieces) =
      between before piece (role_first pieces) ∷ joined (role_to_next before piece.role) pieces

  abbrev pub in_order : List Piece → Piece
  in_order pieces = in_turn (joined Other pieces)

  -- the first part where the value is true, else the second. One line as the second, without a first, needs no jump
  abbrev pub fork : ℕ → (first second : List Piece) → Piece
  fork cond first second =
      record (if length first == 0 && (in_order second).size == 1 then skipping cond (in_order second)
      else choosing cond (in_order first) (in_order second)) { kind = kind_of_fork cond first second }

  -- a loop, which ends with its test where its head does
  abbrev pub turning : Option ℕ → (head : List Piece) → (body next : Piece) → Piece
  turning None head body next = cycle (in_order head) body next
  turning (Some cond) head body next = rotated cond (in_order (before_test head)) body next

  -- what a load of what stands at a place does to the temporary of the place
  abbrev pub role_of_load : (dest place : ℕ) → Role
  role_of_load dest place = if dest == place then Loads dest else Other

  -- the arguments from this one on into their variables
  abbrev pub store_arguments : (params from : ℕ) → List Instr
  store_arguments zero from = []
  store_arguments (suc params) from =
      store_word (a0 + from) (object_offset frame from) ++ store_arguments params (suc from)

  -- the prologue of a function: its frame is taken, and its arguments go into their variables
  abbrev pub prologue : ℕ → List Instr
  prologue params = frame_taken frame.bytes ++ store_arguments params 0

  -- its closing brace: `main` gives 0
  abbrev pub closing : Option Entry → List Instr
  closing (Some Main) = OpImm Addi a0 0 (pos 0) ∷ epilogue frame.bytes
  closing _ = epilogue frame.bytes

  -- statements by a plan
  module _ (plan : Plan) where
    abbrev pub select_step : TacStmt-F Piece → Piece
    select_step (tac.Const dest value) =
        record (straightly (loading (result_register dest) (word_of_constant value) ++ keep dest)) {
          role = Sets dest (word_of_constant value);
        }
    select_step (tac.Copy dest from) = straightly (copied frame (place_of dest) (place_of from))
    select_step (tac.Op dest o left right) =
        record (straightly (operation dest o left right)) {
          role = role_of_operation plan.needed dest o left right;
        }
    select_step (tac.ObjectPlace dest object) =
        record (straightly (moved_by (result_register dest) sp (object_offset frame object) ++ keep dest)) {
          role = Places dest object;
        }
    select_step (tac.GlobalPlace dest global) = straight (place_of_global dest global)
    select_step (tac.Load dest place pointer) =
        record (straightly (load_from dest place)) { role = role_of_load dest place }
    select_step (tac.Store place value) =
        record (straightly (store_to place value)) { role = role_of_store plan.needed place value }
    select_step (tac.If cond first second) = fork cond first second
    select_step (tac.Loop head body next) =
        turning (if plan.near then ending_test head else None) head (in_order body) (in_order next)
    select_step tac.Break = breaking
    select_step tac.Continue = continuing
    select_step (tac.CallOwn dest function args) = straight (call_own dest function args)
    select_step (tac.CallCross dest comp index args) = straight (call_cross dest comp index args)
    select_step (tac.Input dest) = straightly (environment_call 1 ++ receive dest)
    select_step (tac.Output value) = straightly (brought frame a0 (place_of value) ++ environment_call 2)
    select_step (tac.Alloc dest count words) =
        straightly (brought frame a0 (place_of count) ++ loading a1 words ++ environment_call 3 ++
        put frame a0 (place_of dest))
    select_step (tac.Free pointer) = straightly (brought frame a0 (place_of pointer) ++ environment_call 4)
    select_step (tac.Return value) = record (straightly (return value)) { role = role_of_return value }

    abbrev pub select : TacStmt → Piece
    select = fold-TacStmt Piece select_step

    abbrev pub select_all : List TacStmt → Piece
    select_all stmts = in_order (map select stmts)

    abbrev pub function_lines : TacFnTree → List Line
    function_lines f =
        plainly (prologue f.params) ++ (select_all f.body).lines 0 0 ++ plainly (closing f.entry)

abbrev pub plan_of : TacFnTree → (near : Bool) → Plan
plan_of f near = record { needed = needed_in f.body; near = near }

-- whether a branch reaches all over a function whose loops end with their tests
abbrev pub is_near : TacFnTree → List Place → FrameTree → Bool
is_near f places frame = nat_lt (length (function_lines frame places (plan_of f true) f)) branch_reach

-- the code of a function
abbrev pub code_of : TacFnTree → List Place → FrameTree → CodeTree
code_of f places frame =
    code_of_lines (uses_heap f.body) (function_lines frame places (plan_of f (is_near f places frame)) f)
