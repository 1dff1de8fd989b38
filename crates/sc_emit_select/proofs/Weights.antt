-- Code has no more instructions than its function weighs.
use Rattle.sc_emit_select.proofs.Common.{Add, Bne, Bool, Branch, Div, Each, Entry as EntryOf, Fits, FrameTree, Function}
use Rattle.sc_emit_select.proofs.Common.{Inside, Instr, IsFunction, Jal, Jalr, Line, List, Load, Lui, Lw, Mul, None, Op}
use Rattle.sc_emit_select.proofs.Common.{Option, Other, Piece, Place, Plan, Register, Role, Shift, ShortForm, Slot}
use Rattle.sc_emit_select.proofs.Common.{Some, Store, Sw, TacFnTree, TacOp, TacStmt, TacStmt-F, Upper, [], all_true}
use Rattle.sc_emit_select.proofs.Common.{and_first, and_from, and_rest, ap, ap₂, arith, as_one, at_hand, between}
use Rattle.sc_emit_select.proofs.Common.{binary_code, brought, bytes_ahead, bytes_of, call_cross, call_own, choice}
use Rattle.sc_emit_select.proofs.Common.{choosing, closing, code_of, copied, entry_weight, environment_call, epilogue}
use Rattle.sc_emit_select.proofs.Common.{everywhere, false, fold-TacStmt, fold-roll-TacStmt, fork, frame_taken}
use Rattle.sc_emit_select.proofs.Common.{function_lines, has_operands, if◌then◌else◌, in_order, in_turn, is_near}
use Rattle.sc_emit_select.proofs.Common.{is_short, is_some, is_unsigned, joined, joins, keep, kept, length}
use Rattle.sc_emit_select.proofs.Common.{length-append, length-map, load_from, load_word, loading, map, map-TacStmt}
use Rattle.sc_emit_select.proofs.Common.{moved_by, nothing, object_offset, object_read, object_store, op_code}
use Rattle.sc_emit_select.proofs.Common.{op_weight, operand, operation, pass, place_of_global, plain, plainly, plan_of}
use Rattle.sc_emit_select.proofs.Common.{pointer_difference, pointer_move, pos, prologue, put, receive, referring, refl}
use Rattle.sc_emit_select.proofs.Common.{register_of, result_register, return, role_first, role_to_next, roll-TacStmt}
use Rattle.sc_emit_select.proofs.Common.{second_operand, select, select_all, select_step, short_code, short_form}
use Rattle.sc_emit_select.proofs.Common.{short_operation, short_return, skipping, slice_get, slot_offset, stepped}
use Rattle.sc_emit_select.proofs.Common.{stmt_induction, stmt_weight, store_arguments, store_to, store_word, straightly}
use Rattle.sc_emit_select.proofs.Common.{sub_word, subst, suc, sym, take, take_second, taken, takes_two, true}
use Rattle.sc_emit_select.proofs.Common.{unary_code, weight, weight_step, with_parts, word_of_constant, zero, ℕ, ⊎_elim}
use Rattle.sc_emit_select.proofs.Common.{◌&&◌, ◌*◌, ◌++◌, ◌+◌, ◌<◌, ◌==◌, ◌^◌, ◌∙◌, ◌∷◌, ◌≡◌, ◌≤◌}
use Rattle.sc_core.specs.Prelude.{total}
use Rattle.sc_core.proofs.Induction.{everywhere as each_holds}
use Rattle.rv_code.specs.declared.instr.ShiftOp.TheVariants.{Slli}
use Rattle.sc_emit_select.proofs.Joining.{IsRead, IsReturned, IsShort, IsStored, loads_it, operates_it, past_few}
use Rattle.sc_emit_select.proofs.Joining.{returns_it, stores_it, which_pair}
use Rattle.sc_emit_select.proofs.Turning.{each_before, test_stmt, turning_by}
use Rattle.std.specs.Bool.{beq}
use Rattle.sc_base.specs.declared.op.BinaryOp.{BinaryOp}
use Rattle.sc_base.specs.declared.op.BinaryOp.TheVariants as op
use Rattle.sc_base.specs.declared.op.UnaryOp.{UnaryOp}
use Rattle.sc_base.specs.declared.op.UnaryOp.TheVariants as unary
use Rattle.sc_event.specs.declared.row.Entry.{Entry}
use Rattle.sc_event.specs.declared.row.Entry.TheVariants as entry
use Rattle.sc_tac.specs.declared.stmt.TacOp.TheVariants as tacop
use Rattle.sc_tac.specs.declared.stmt.TacStmt.TheOpen as tac
use Rattle.sc_emit_select.proofs.Sizes.{row_is_sized}

either : (b : Bool) (xs ys : List Instr) (n : ℕ) → length xs ≤ n → length ys ≤ n → length (if b then xs else ys) ≤ n
either true xs ys n h k = h
either false xs ys n h k = k

load_constant : (rd word : ℕ) → length (loading rd word) ≤ 2
load_constant rd word = either (is_short word) _ _ 2 (omega arith) (omega arith)

move_by : (rd rs bytes : ℕ) → length (moved_by rd rs bytes) ≤ 3
move_by rd rs bytes =
    either (is_short bytes) _ _ 3 (omega arith)
    (omega (arith, length-append (loading 7 bytes) (Op Add rd rs 7 ∷ []), load_constant 7 bytes))

load_one : (rd offset : ℕ) → length (load_word rd offset) ≤ 3
load_one rd offset = either (is_short offset) _ _ 3 (omega arith) (omega arith)

store_one : (rs offset : ℕ) → length (store_word rs offset) ≤ 3
store_one rs offset = either (is_short offset) _ _ 3 (omega arith) (omega arith)

take_frame : (bytes : ℕ) → length (frame_taken bytes) ≤ 4
take_frame bytes =
    omega (
      arith,
      length-append (moved_by 2 2 (sub_word 0 bytes)) (Store Sw 2 1 (pos 0) ∷ []),
      move_by 2 2 (sub_word 0 bytes),
    )

leave_frame : (bytes : ℕ) → length (epilogue bytes) ≤ 5
leave_frame bytes = omega (arith, length-append (moved_by 2 2 bytes) (Jalr 0 1 (pos 0) ∷ []), move_by 2 2 bytes)

unary_one : (rd rs : ℕ) (o : UnaryOp) → length (unary_code rd rs o) ≡ 1
unary_one rd rs unary.Minus = refl
unary_one rd rs unary.Plus = refl
unary_one rd rs unary.Not = refl
unary_one rd rs unary.BitNot = refl

binary_few : (rd left right : ℕ) (unsigned : Bool) (o : BinaryOp) → length (binary_code rd left right unsigned o) ≤ 3
binary_few rd left right unsigned op.OrElse = omega arith
binary_few rd left right unsigned op.AndAlso = omega arith
binary_few rd left right unsigned op.BitOr = omega arith
binary_few rd left right unsigned op.BitXor = omega arith
binary_few rd left right unsigned op.BitAnd = omega arith
binary_few rd left right unsigned op.Equal = omega arith
binary_few rd left right unsigned op.NotEqual = omega arith
binary_few rd left right unsigned op.Less = omega arith
binary_few rd left right unsigned op.Greater = omega arith
binary_few rd left right unsigned op.LessEqual = omega arith
binary_few rd left right unsigned op.GreaterEqual = omega arith
binary_few rd left right unsigned op.ShiftLeft = omega arith
binary_few rd left right unsigned op.ShiftRight = omega arith
binary_few rd left right unsigned op.Add = omega arith
binary_few rd left right unsigned op.Sub = omega arith
binary_few rd left right unsigned op.Mul = omega arith
binary_few rd left right unsigned op.Div = omega arith
binary_few rd left right unsigned op.Rem = omega arith

move_pointer : (rd left right : ℕ) (minus : Bool) (cells : ℕ) → length (pointer_move rd left right minus cells) ≤ 4
move_pointer rd left right minus cells =
    omega (
      arith,
      length-append (bytes_ahead right cells) (Op (stepped minus) rd left 6 ∷ []),
      either (cells == 1) (Shift Slli 6 right 2 ∷ []) (loading 7 (bytes_of cells) ++ Op Mul 6 right 7 ∷ []) 3
          (omega arith)
          (omega (
            arith,
            length-append (loading 7 (bytes_of cells)) (Op Mul 6 right 7 ∷ []),
            load_constant 7 (bytes_of cells),
          )),
    )

differ : (rd left right cells : ℕ) → length (pointer_difference rd left right cells) ≤ 4
differ rd left right cells =
    omega (
      arith,
      length-append (loading 7 (bytes_of cells)) (Op Div rd 5 7 ∷ []),
      load_constant 7 (bytes_of cells),
    )

-- what operators with one operand and with two weigh, apart from the operand read and the result written
abbrev Light : Bool → TacOp → ℕ → Type 0
Light true o n = n + 9 ≤ op_weight o
Light false o n = n + 6 ≤ op_weight o

operator_light : (rd left right : ℕ) (o : TacOp) → Light (takes_two o) o (length (op_code rd left right o))
operator_light rd left right (tacop.Unary o scalar) = omega (arith, unary_one rd left o)
operator_light rd left right (tacop.Binary o scalar) = omega (arith, binary_few rd left right (is_unsigned scalar) o)
operator_light rd left right tacop.PointerNot = omega arith
operator_light rd left right (tacop.PointerMove minus cells index) =
    omega (arith, move_pointer rd left right minus cells)
operator_light rd left right (tacop.PointerMember offset) = omega (arith, move_by rd left (bytes_of offset))
operator_light rd left right (tacop.PointerDifference cells) = omega (arith, differ rd left right cells)
operator_light rd left right (tacop.PointerCompare o) = omega (arith, binary_few rd left right true o)

module _ (frame : FrameTree) where
  taken_few : (scratch : ℕ) (place : Option Place) → length (taken frame scratch place) ≤ 3
  taken_few scratch (Some (Slot slot)) = load_one scratch (slot_offset frame slot)
  taken_few scratch (Some (Register r)) = omega arith
  taken_few scratch None = omega arith

  kept_few : (place : Option Place) → length (kept frame place) ≤ 3
  kept_few (Some (Slot slot)) = store_one 5 (slot_offset frame slot)
  kept_few (Some (Register r)) = omega arith
  kept_few None = omega arith

  brought_few : (rd : ℕ) (place : Option Place) → length (brought frame rd place) ≤ 3
  brought_few rd (Some (Slot slot)) = load_one rd (slot_offset frame slot)
  brought_few rd (Some (Register r)) = omega arith
  brought_few rd None = omega arith

  put_few : (rs : ℕ) (place : Option Place) → length (put frame rs place) ≤ 3
  put_few rs (Some (Slot slot)) = store_one rs (slot_offset frame slot)
  put_few rs (Some (Register r)) = omega arith
  put_few rs None = omega arith

  copied_few : (dest from : Option Place) → length (copied frame dest from) ≤ 6
  copied_few (Some (Register r)) from = omega (arith, brought_few (register_of r) from)
  copied_few (Some (Slot slot)) from =
      let stored : List Instr = store_word (at_hand 5 from) (slot_offset frame slot) in
      omega (
        arith,
        length-append (taken frame 5 from) stored,
        taken_few 5 from,
        store_one (at_hand 5 from) (slot_offset frame slot),
      )
  copied_few None from = omega arith

module _ (frame : FrameTree) (places : List Place) (plan : Plan) where
  second_few : (right : Option ℕ) (two : Bool) → beq (is_some right) two ≡ true →
      length (take_second frame places right) ≤ (if two then 3 else 0)
  second_few None true h = omega arith
  second_few None false h = omega arith
  second_few (Some t) true h = taken_few frame 6 (slice_get places t)
  second_few (Some t) false h = absurd (cc)

  with_operands : (two : Bool) (o : TacOp) (a b n c whole : ℕ) → whole ≡ a + (b + (n + c)) → a ≤ 3 →
      b ≤ (if two then 3 else 0) → Light two o n → c ≤ 3 → whole ≤ op_weight o
  with_operands true o a b n c whole is ha hb hn hc = omega arith
  with_operands false o a b n c whole is ha hb hn hc = omega arith

  operation_few : (dest : ℕ) (o : TacOp) (left : ℕ) (right : Option ℕ) → beq (is_some right) (takes_two o) ≡ true →
      length (operation frame places dest o left right) ≤ op_weight o
  operation_few dest o left right h =
      let first : List Instr = take frame places 5 left in
      let second : List Instr = take_second frame places right in
      let rd : ℕ = result_register frame places dest in
      let code : List Instr = op_code rd (operand frame places 5 left) (second_operand frame places right) o in
      let last : List Instr = keep frame places dest in
      let parts : length (operation frame places dest o left right) ≡ length (first ++ second ++ code ++ last) = refl in
      let whole : length (operation frame places dest o left right) ≡
      length first + (length second + (length code + length last)) =
      omega (
        arith,
        parts,
        length-append (first ++ second ++ code) last,
        length-append (first ++ second) code,
        length-append first second,
      ) in
      with_operands (takes_two o) o (length first) (length second) (length code) (length last) _ whole
      (taken_few frame 5 (slice_get places left)) (second_few right (takes_two o) h)
      (operator_light rd (operand frame places 5 left) (second_operand frame places right) o)
      (kept_few frame (slice_get places dest))

  constant_few : (rd word dest : ℕ) → length (loading rd word ++ keep frame places dest) ≤ 5
  constant_few rd word dest =
      omega (
        arith,
        length-append (loading rd word) (keep frame places dest),
        load_constant rd word,
        kept_few frame (slice_get places dest),
      )

  object_few : (rd bytes dest : ℕ) → length (moved_by rd 2 bytes ++ keep frame places dest) ≤ 6
  object_few rd bytes dest =
      omega (
        arith,
        length-append (moved_by rd 2 bytes) (keep frame places dest),
        move_by rd 2 bytes,
        kept_few frame (slice_get places dest),
      )

  one_at_most : (rd rs : ℕ) (form : Option ShortForm) → length (short_code rd rs form) ≤ 1
  one_at_most rd rs None = omega arith
  one_at_most rd rs (Some form) = omega arith

  short_few : (dest left : ℕ) (form : Option ShortForm) → length (short_operation frame places dest left form) ≤ 7
  short_few dest left form =
      let rd : ℕ = result_register frame places dest in
      let rs : ℕ = operand frame places 5 left in
      let whole : length (short_operation frame places dest left form) ≡
      length ((take frame places 5 left ++ short_code rd rs form) ++ keep frame places dest) = refl in
      omega (
        arith,
        whole,
        length-append (take frame places 5 left ++ short_code rd rs form) (keep frame places dest),
        length-append (take frame places 5 left) (short_code rd rs form),
        taken_few frame 5 (slice_get places left),
        one_at_most rd rs form,
        kept_few frame (slice_get places dest),
      )

  short_return_few : (left : ℕ) (form : Option ShortForm) → length (short_return frame places left form) ≤ 9
  short_return_few left form =
      let code : List Instr = short_code 10 (operand frame places 5 left) form in
      let whole : length (short_return frame places left form) ≡
      length ((take frame places 5 left ++ code) ++ epilogue frame.bytes) = refl in
      omega (
        arith,
        whole,
        length-append (take frame places 5 left ++ code) (epilogue frame.bytes),
        length-append (take frame places 5 left) code,
        taken_few frame 5 (slice_get places left),
        leave_frame frame.bytes,
        one_at_most 10 (operand frame places 5 left) form,
      )

  object_read_few : (dest object : ℕ) → length (object_read frame places dest object) ≤ 6
  object_read_few dest object =
      let rd : ℕ = result_register frame places dest in
      omega (
        arith,
        length-append (load_word rd (object_offset frame object)) (keep frame places dest),
        load_one rd (object_offset frame object),
        kept_few frame (slice_get places dest),
      )

  object_store_few : (value object : ℕ) → length (object_store frame places value object) ≤ 6
  object_store_few value object =
      let rs : ℕ = operand frame places 6 value in
      omega (
        arith,
        length-append (take frame places 6 value) (store_word rs (object_offset frame object)),
        taken_few frame 6 (slice_get places value),
        store_one rs (object_offset frame object),
      )

  global_few : (dest global : ℕ) → length (place_of_global frame places dest global) ≤ 6
  global_few dest global =
      omega (
        arith,
        length-map (keep frame places dest) plain,
        kept_few frame (slice_get places dest),
      )

  load_few : (dest place : ℕ) → length (load_from frame places dest place) ≤ 7
  load_few dest place =
      let rest : List Instr = Load Lw (result_register frame places dest) (operand frame places 5 place) (pos 0) ∷
      keep frame places dest in
      omega (
        arith,
        length-append (take frame places 5 place) rest,
        taken_few frame 5 (slice_get places place),
        kept_few frame (slice_get places dest),
      )

  store_few : (place value : ℕ) → length (store_to frame places place value) ≤ 7
  store_few place value =
      let last : List Instr =
      Store Sw (operand frame places 5 place) (operand frame places 6 value) (pos 0) ∷ [] in
      let parts : length (store_to frame places place value) ≡
      length (take frame places 5 place ++ take frame places 6 value ++ last) = refl in
      omega (
        arith,
        parts,
        length-append (take frame places 5 place ++ take frame places 6 value) last,
        length-append (take frame places 5 place) (take frame places 6 value),
        taken_few frame 5 (slice_get places place),
        taken_few frame 6 (slice_get places value),
      )

  choice_few : (cond : ℕ) → length (choice frame places cond) ≤ 4
  choice_few cond =
      omega (
        arith,
        length-append (take frame places 5 cond) (Branch Bne (operand frame places 5 cond) 0 (pos 8) ∷ []),
        taken_few frame 5 (slice_get places cond),
      )

  fork_few : (cond : ℕ) (first second : List Piece) → (fork frame places cond first second).size ≤
      6 + (in_order frame places first).size + (in_order frame places second).size
  fork_few cond first second = by (length first == 0 && (in_order frame places second).size == 1)
    where
      e : Piece
      e = in_order frame places first

      f : Piece
      f = in_order frame places second

      by : (b : Bool) → (if b then skipping frame places cond f else choosing frame places cond e f).size ≤
          6 + e.size + f.size
      by true = omega (arith, length-map (choice frame places cond) plain, choice_few cond)
      by false = omega (arith, length-map (choice frame places cond) plain, choice_few cond, past_few f.size)

  pass_few : (rd : ℕ) (args : List ℕ) → length (pass frame places rd args) ≤ 3 * length args
  pass_few rd [] = omega arith
  pass_few rd (t ∷ ts) =
      omega (
        arith,
        length-append (brought frame rd (slice_get places t)) (pass frame places (suc rd) ts),
        brought_few frame rd (slice_get places t),
        pass_few (suc rd) ts,
      )

  receive_few : (dest : Option ℕ) → length (receive frame places dest) ≤ 3
  receive_few None = omega arith
  receive_few (Some dest) = put_few frame 10 (slice_get places dest)

  own_few : (dest : Option ℕ) (function : ℕ) (args : List ℕ) →
      length (call_own frame places dest function args) ≤ 3 * length args + 5
  own_few dest function args =
      let rest : List Line = referring (Function function) (Jal 1 (pos 0)) ∷ plainly (receive frame places dest) in
      omega (
        arith,
        length-append (plainly (pass frame places 10 args)) rest,
        length-map (pass frame places 10 args) plain,
        length-map (receive frame places dest) plain,
        pass_few 10 args,
        receive_few dest,
      )

  cross_few : (dest : Option ℕ) (comp index : ℕ) (args : List ℕ) →
      length (call_cross frame places dest comp index args) ≤ 3 * length args + 5
  cross_few dest comp index args =
      let rest : List Line = referring (EntryOf comp index) (Upper Lui 5 0) ∷
      plainly (Jalr 1 5 (pos 0) ∷ receive frame places dest) in
      omega (
        arith,
        length-append (plainly (pass frame places 10 args)) rest,
        length-map (pass frame places 10 args) plain,
        length-map (receive frame places dest) plain,
        pass_few 10 args,
        receive_few dest,
      )

  input_few : (dest : Option ℕ) → length (environment_call 1 ++ receive frame places dest) ≤ 5
  input_few dest = omega (arith, receive_few dest)

  alloc_few : (dest count words : ℕ) →
      length (brought frame 10 (slice_get places count) ++ loading 11 words ++ environment_call 3 ++
      put frame 10 (slice_get places dest)) ≤ 10
  alloc_few dest count words =
      let given : List Instr = brought frame 10 (slice_get places count) in
      omega (
        arith,
        length-append (given ++ loading 11 words ++ environment_call 3) (put frame 10 (slice_get places dest)),
        length-append (given ++ loading 11 words) (environment_call 3),
        length-append given (loading 11 words),
        brought_few frame 10 (slice_get places count),
        load_constant 11 words,
        put_few frame 10 (slice_get places dest),
      )

  free_few : (pointer : ℕ) → length (brought frame 10 (slice_get places pointer) ++ environment_call 4) ≤ 5
  free_few pointer =
      omega (
        arith,
        length-append (brought frame 10 (slice_get places pointer)) (environment_call 4),
        brought_few frame 10 (slice_get places pointer),
      )

  output_few : (value : ℕ) → length (brought frame 10 (slice_get places value) ++ environment_call 2) ≤ 8
  output_few value =
      omega (
        arith,
        length-append (brought frame 10 (slice_get places value)) (environment_call 2),
        brought_few frame 10 (slice_get places value),
      )

  return_few : (value : Option ℕ) → length (return frame places value) ≤ 8
  return_few None = omega (arith, leave_frame frame.bytes)
  return_few (Some t) =
      omega (
        arith,
        length-append (brought frame 10 (slice_get places t)) (epilogue frame.bytes),
        brought_few frame 10 (slice_get places t),
        leave_frame frame.bytes,
      )

  straightly_few : (instrs : List Instr) (n : ℕ) → length instrs ≤ n → length (plainly instrs) ≤ n
  straightly_few instrs n h = omega (arith, h, length-map instrs plain)

  -- STATEMENTS
  abbrev has : TacStmt → Bool
  has = fold-TacStmt Bool (with_parts has_operands)

  abbrev Small : TacStmt → Type 0
  Small stmt = has stmt ≡ true → (select frame places plan stmt).size ≤ stmt_weight stmt

  -- an operator that has a short form weighs more than that
  short_weighs : (o : TacOp) (word : ℕ) (form : ShortForm) → short_form o word ≡ Some form → 7 ≤ op_weight o
  short_weighs (tacop.Binary o scalar) word form h = omega (arith, operator_light 0 0 0 (tacop.Binary o scalar))
  short_weighs (tacop.PointerMove minus cells index) word form h =
      omega (arith, operator_light 0 0 0 (tacop.PointerMove minus cells index))
  short_weighs (tacop.Unary o scalar) word form h = cc h
  short_weighs tacop.PointerNot word form h = cc h
  short_weighs (tacop.PointerMember offset) word form h = cc h
  short_weighs (tacop.PointerDifference cells) word form h = cc h
  short_weighs (tacop.PointerCompare o) word form h = cc h

  -- any statement weighs something
  op_weighs : (o : TacOp) → 1 ≤ op_weight o
  op_weighs (tacop.Unary o scalar) = omega arith
  op_weighs (tacop.Binary o scalar) = omega arith
  op_weighs tacop.PointerNot = omega arith
  op_weighs (tacop.PointerMove minus cells index) = omega arith
  op_weighs (tacop.PointerMember offset) = omega arith
  op_weighs (tacop.PointerDifference cells) = omega arith
  op_weighs (tacop.PointerCompare o) = omega arith

  layer_weighs : (layer : TacStmt-F TacStmt) → 1 ≤ weight_step (map-TacStmt _ _ stmt_weight layer)
  layer_weighs (tac.Op dest o left right) = op_weighs o
  layer_weighs _ = omega arith

  stmt_weighs : (stmt : TacStmt) → 1 ≤ stmt_weight stmt
  stmt_weighs = stmt_induction (λ stmt. 1 ≤ stmt_weight stmt) (λ layer h.
      subst (λ n. 1 ≤ n) (sym (fold-roll-TacStmt ℕ weight_step layer)) (layer_weighs layer))

  -- what a statement that is one with the one before it may take of its weight
  abbrev taken_before : Bool → ℕ
  taken_before joined_before = if joined_before then 1 else 0

  -- the code of statements that are one piece is no larger than the last weighs, and what it takes of the one before it
  both_few : (before : Role) (stmt : TacStmt) → joins before (select frame places plan stmt).role ≡ true →
      (as_one frame places before (select frame places plan stmt).role).size ≤ stmt_weight stmt + 1
  both_few before stmt h =
      ⊎_elim read (⊎_elim stored (⊎_elim short back)) (which_pair before (select frame places plan stmt).role h)
    where
      read : IsRead before (select frame places plan stmt).role →
          (as_one frame places before (select frame places plan stmt).role).size ≤ stmt_weight stmt + 1
      read pair =
          let load = loads_it frame places plan stmt pair.temp pair.loads in
          let heavy : stmt_weight stmt ≡ 7 =
          ap stmt_weight load.is ∙
          fold-roll-TacStmt ℕ weight_step (tac.Load pair.temp pair.temp load.pointer) in
          let code : (as_one frame places before (select frame places plan stmt).role).size ≡
          (straightly frame places (object_read frame places pair.temp pair.object)).size =
          ap₂ (λ r s. (as_one frame places r s).size) pair.gives pair.loads in
          let few : (straightly frame places (object_read frame places pair.temp pair.object)).size ≤ 6 =
          straightly_few _ 6 (object_read_few pair.temp pair.object) in
          omega (arith, heavy, code, few)

      stored : IsStored before (select frame places plan stmt).role →
          (as_one frame places before (select frame places plan stmt).role).size ≤ stmt_weight stmt + 1
      stored pair =
          let store = stores_it frame places plan stmt pair.temp pair.value pair.stores in
          let heavy : stmt_weight stmt ≡ 7 =
          ap stmt_weight store.is ∙ fold-roll-TacStmt ℕ weight_step (tac.Store pair.temp pair.value) in
          let code : (as_one frame places before (select frame places plan stmt).role).size ≡
          (straightly frame places (object_store frame places pair.value pair.object)).size =
          ap₂ (λ r s. (as_one frame places r s).size) pair.gives pair.stores in
          let few : (straightly frame places (object_store frame places pair.value pair.object)).size ≤ 6 =
          straightly_few _ 6 (object_store_few pair.value pair.object) in
          omega (arith, heavy, code, few)

      short : IsShort before (select frame places plan stmt).role →
          (as_one frame places before (select frame places plan stmt).role).size ≤ stmt_weight stmt + 1
      short pair =
          let form : Option ShortForm = short_form pair.op pair.word in
          let operation = operates_it frame places plan stmt pair.dest pair.left pair.op pair.temp pair.operates in
          let heavy : stmt_weight stmt ≡ op_weight pair.op =
          ap stmt_weight operation.is ∙
          fold-roll-TacStmt ℕ weight_step (tac.Op pair.dest pair.op pair.left (Some pair.temp)) in
          let code : (as_one frame places before (select frame places plan stmt).role).size ≡
          (straightly frame places (short_operation frame places pair.dest pair.left form)).size =
          ap₂ (λ r s. (as_one frame places r s).size) pair.sets pair.operates in
          let few : (straightly frame places (short_operation frame places pair.dest pair.left form)).size ≤ 7 =
          straightly_few _ 7 (short_few pair.dest pair.left form) in
          omega (arith, heavy, code, few, short_weighs pair.op pair.word pair.form pair.form_is)

      back : IsReturned before (select frame places plan stmt).role →
          (as_one frame places before (select frame places plan stmt).role).size ≤ stmt_weight stmt + 1
      back pair =
          let heavy : stmt_weight stmt ≡ 8 =
          ap stmt_weight (returns_it frame places plan stmt pair.temp pair.returns) ∙
          fold-roll-TacStmt ℕ weight_step (tac.Return (Some pair.temp)) in
          let form : Option ShortForm = short_form pair.op pair.word in
          let code : (as_one frame places before (select frame places plan stmt).role).size ≡
          (straightly frame places (short_return frame places pair.left form)).size =
          ap₂ (λ r s. (as_one frame places r s).size) pair.applies pair.returns in
          let few : (straightly frame places (short_return frame places pair.left form)).size ≤ 9 =
          straightly_few _ 9 (short_return_few pair.left form) in
          omega (arith, heavy, code, few)

  -- a statement that is one with the one after it has no code, so that what that one takes of its weight is left
  between_few : (before : Role) (stmt : TacStmt) (following : Role) →
      (select frame places plan stmt).size ≤ stmt_weight stmt →
      (between frame places before (select frame places plan stmt) following).size +
      taken_before (joins (role_to_next before (select frame places plan stmt).role) following) ≤
      stmt_weight stmt + taken_before (joins before (select frame places plan stmt).role)
  between_few before stmt following h =
      by (joins (role_to_next before (select frame places plan stmt).role) following)
      (joins before (select frame places plan stmt).role) refl
    where
      by : (one two : Bool) → joins before (select frame places plan stmt).role ≡ two →
          (if one then nothing else if two then as_one frame places before (select frame places plan stmt).role
          else select frame places plan stmt).size + taken_before one ≤ stmt_weight stmt + taken_before two
      by true true e = omega (arith, stmt_weighs stmt)
      by true false e = omega (arith, stmt_weighs stmt)
      by false true e = omega (arith, both_few before stmt e)
      by false false e = omega (arith, h)

  turn_small : (before : Role) (stmts : List TacStmt) → Each Small stmts → all_true (map has stmts) ≡ true →
      (in_turn (joined frame places before (map (select frame places plan) stmts))).size ≤
      total (map stmt_weight stmts) +
      taken_before (joins before (role_first (map (select frame places plan) stmts)))
  turn_small before [] h is = omega arith
  turn_small before (stmt ∷ rest) h is =
      omega (
        arith,
        between_few before stmt (role_first (map (select frame places plan) rest))
            (h.0 (and_first (has stmt) (all_true (map has rest)) is)),
        turn_small (role_to_next before (select frame places plan stmt).role) rest h.1
            (and_rest (has stmt) (all_true (map has rest)) is),
      )

  row_small : (stmts : List TacStmt) → Each Small stmts → all_true (map has stmts) ≡ true →
      (in_order frame places (map (select frame places plan) stmts)).size ≤ total (map stmt_weight stmts)
  row_small stmts h is = omega (arith, turn_small Other stmts h is)

  -- those before a test weigh less than they with it
  weigh_before : (init : List TacStmt) (cond : ℕ) →
      total (map stmt_weight init) + 6 ≤ total (map stmt_weight (init ++ (test_stmt cond ∷ [])))
  weigh_before [] cond =
      let test : stmt_weight (test_stmt cond) ≡ weight_step (map-TacStmt _ _ stmt_weight (tac.If cond [] (roll-TacStmt
      tac.Break ∷ []))) = fold-roll-TacStmt ℕ weight_step (tac.If cond [] (roll-TacStmt tac.Break ∷ [])) in
      omega (arith, test)
  weigh_before (stmt ∷ rest) cond = omega (arith, weigh_before rest cond)

  has_before : (init rest : List TacStmt) → all_true (map has (init ++ rest)) ≡ true →
      all_true (map has init) ≡ true
  has_before [] rest is = refl
  has_before (stmt ∷ init) rest is =
      and_from _ _ (and_first (has stmt) (all_true (map has (init ++ rest))) is)
      (has_before init rest (and_rest (has stmt) (all_true (map has (init ++ rest))) is))

  loop_small : (head body next : List TacStmt) → Each Small head → Each Small body → Each Small next →
      all_true (map has head) ≡ true → all_true (map has body) ≡ true → all_true (map has next) ≡ true →
      (select_step frame places plan (map-TacStmt _ _ (select frame places plan) (tac.Loop head body next))).size ≤
      2 + total (map stmt_weight head) + total (map stmt_weight body) + total (map stmt_weight next)
  loop_small head body next hh hb hn h b n =
      turning_by frame places plan (λ piece. piece.size ≤
      2 + total (map stmt_weight head) + total (map stmt_weight body) + total (map stmt_weight next)) head
      (select_all frame places plan body) (select_all frame places plan next)
      (omega (arith, row_small head hh h, row_small body hb b, row_small next hn n))
      (λ cond near t.
      let its : all_true (map has (t.init ++ (test_stmt cond ∷ []))) ≡ true =
      subst (λ stmts. all_true (map has stmts) ≡ true) t.is h in
      let heavy : total (map stmt_weight head) ≡ total (map stmt_weight (t.init ++ (test_stmt cond ∷ []))) =
      ap (λ stmts. total (map stmt_weight stmts)) t.is in
      omega (
        arith,
        heavy,
        weigh_before t.init cond,
        taken_few frame 5 (slice_get places cond),
        row_small t.init (each_before frame places plan Small head t.init cond t.is hh)
            (has_before t.init (test_stmt cond ∷ []) its),
        row_small body hb b,
        row_small next hn n,
      ))

  layer_small : (layer : TacStmt-F TacStmt) → Inside Small layer →
      with_parts has_operands (map-TacStmt _ _ has layer) ≡ true →
      (select_step frame places plan (map-TacStmt _ _ (select frame places plan) layer)).size ≤
      weight_step (map-TacStmt _ _ stmt_weight layer)
  layer_small (tac.Const dest value) h is =
      straightly_few _ 5 (constant_few (result_register frame places dest) (word_of_constant value) dest)
  layer_small (tac.Copy dest from) h is = straightly_few _ 6 (copied_few frame _ _)
  layer_small (tac.Op dest o left right) h is =
      straightly_few _ (op_weight o) (operation_few dest o left right (and_first _ true is))
  layer_small (tac.ObjectPlace dest object) h is =
      straightly_few _ 6 (object_few (result_register frame places dest) (object_offset frame object) dest)
  layer_small (tac.GlobalPlace dest global) h is = global_few dest global
  layer_small (tac.Load dest place pointer) h is = straightly_few _ 7 (load_few dest place)
  layer_small (tac.Store place value) h is = straightly_few _ 7 (store_few place value)
  layer_small (tac.If cond first second) h is =
      omega (
        arith,
        fork_few cond (map (select frame places plan) first) (map (select frame places plan) second),
        row_small first h.0 (and_first (all_true (map has first)) (all_true (map has second) && true) is),
        row_small second h.1 (and_first (all_true (map has second)) true
            (and_rest (all_true (map has first)) (all_true (map has second) && true) is)),
      )
  layer_small (tac.Loop head body next) h is =
      let b : Bool = all_true (map has body) in
      let n : Bool = all_true (map has next) in
      let rest : (b && (n && true)) ≡ true = and_rest (all_true (map has head)) (b && (n && true)) is in
      loop_small head body next h.0 h.1 h.2 (and_first (all_true (map has head)) (b && (n && true)) is)
      (and_first b (n && true) rest) (and_first n true (and_rest b (n && true) rest))
  layer_small tac.Break h is = omega arith
  layer_small tac.Continue h is = omega arith
  layer_small (tac.CallOwn dest function args) h is = own_few dest function args
  layer_small (tac.CallCross dest comp index args) h is = cross_few dest comp index args
  layer_small (tac.Input dest) h is =
      straightly_few (environment_call 1 ++ receive frame places dest) 5 (input_few dest)
  layer_small (tac.Output value) h is = straightly_few _ 8 (output_few value)
  layer_small (tac.Alloc dest count words) h is = straightly_few _ 10 (alloc_few dest count words)
  layer_small (tac.Free pointer) h is = straightly_few _ 5 (free_few pointer)
  layer_small (tac.Return value) h is = straightly_few _ 8 (return_few value)

  stmt_small : (stmt : TacStmt) → Small stmt
  stmt_small = stmt_induction Small (λ layer h is.
      subst (λ p. p.size ≤ stmt_weight (roll-TacStmt layer))
      (sym (fold-roll-TacStmt Piece (select_step frame places plan) layer))
      (subst (λ n. (select_step frame places plan (map-TacStmt _ _ (select frame places plan) layer)).size ≤ n)
      (sym (fold-roll-TacStmt ℕ weight_step layer))
      (layer_small layer h (sym (fold-roll-TacStmt Bool (with_parts has_operands) layer) ∙ is))))

  pub row_is_small : (stmts : List TacStmt) → everywhere has_operands stmts ≡ true →
      (select_all frame places plan stmts).size ≤ weight stmts
  row_is_small stmts is = row_small stmts (each_holds Small stmt_small stmts) is

  -- FUNCTIONS
  store_few_arguments : (params from : ℕ) → length (store_arguments frame places params from) ≤ 3 * params
  store_few_arguments zero from = omega arith
  store_few_arguments (suc params) from =
      omega (
        arith,
        length-append (store_word (10 + from) (object_offset frame from))
            (store_arguments frame places params (suc from)),
        store_one (10 + from) (object_offset frame from),
        store_few_arguments params (suc from),
      )

  entrance_few : (params : ℕ) → length (prologue frame places params) ≤ 4 + 3 * params
  entrance_few params =
      omega (
        arith,
        length-append (frame_taken frame.bytes) (store_arguments frame places params 0),
        take_frame frame.bytes,
        store_few_arguments params 0,
      )

  closing_few : (e : Option Entry) → length (closing frame places e) ≤ 6
  closing_few None = omega (arith, leave_frame frame.bytes)
  closing_few (Some entry.Main) = omega (arith, leave_frame frame.bytes)
  closing_few (Some (entry.Export index)) = omega (arith, leave_frame frame.bytes)

  pub function_small : (f : TacFnTree) → IsFunction f →
      length (function_lines frame places plan f) ≤ entry_weight f.params + weight f.body
  function_small f h =
      let first : List Line = plainly (prologue frame places f.params) in
      let middle : List Line = (select_all frame places plan f.body).lines 0 0 in
      let last : List Line = plainly (closing frame places f.entry) in
      omega (
        arith,
        length-append (first ++ middle) last,
        length-append first middle,
        length-map (prologue frame places f.params) plain,
        length-map (closing frame places f.entry) plain,
        (row_is_sized frame places plan f.body).sized 0 0,
        entrance_few f.params,
        row_is_small f.body h.operands,
        closing_few f.entry,
      )

  -- the jumps of a function that is small enough reach
  pub function_fits : (f : TacFnTree) → IsFunction f → 96 * f.nodes ≤ 1048576 → Fits frame places plan f.body 0 0
  function_fits f h reached = record {
    few_arguments = h.few_arguments;
    breaks = omega (arith, row_is_small f.body h.operands, h.light, reached);
    continues = omega (arith, row_is_small f.body h.operands, h.light, reached);
  }

  pub function_short : (f : TacFnTree) → IsFunction f → 96 * f.nodes ≤ 1048576 →
      length (function_lines frame places plan f) < 2 ^ 32
  function_short f h reached = omega (arith, function_small f h, h.light, reached)

pub function_light : (frame : FrameTree) (places : List Place) (f : TacFnTree) → IsFunction f →
    length (code_of f places frame).instrs ≤ entry_weight f.params + weight f.body
function_light frame places f h =
    let plan : Plan = plan_of f (is_near f places frame) in
    let lines : List Line = function_lines frame places plan f in
    let instrs : length (code_of f places frame).instrs ≡ length lines =
    length-map lines (λ (line : Line). line.instr) in
    omega (arith, instrs, function_small frame places plan f h)
