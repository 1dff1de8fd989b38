-- The code of a function has at most one branch for each `If` and no EBREAK,
-- and each field of its instructions is in the range of its form.
use Rattle.sc_emit.proofs.Common.{Bne, Bool, Branch, Each, Ebreak, Entry, Export, FrameTree, Inside, Instr, Jal, Jalr}
use Rattle.sc_emit.proofs.Common.{Line, List, Load, Main, None, Op, Option, Other, Place, Places, Plan, Register, Role}
use Rattle.sc_emit.proofs.Common.{Sets, ShortForm, Slot, Some, Store, Sw, TacFnTree, TacOp, TacStmt, TacStmt-F, [], a0}
use Rattle.sc_emit.proofs.Common.{a1, address_scratch, and_first, and_from, and_rest, arith, at_hand, between}
use Rattle.sc_emit.proofs.Common.{between_keeps, binary_code, branch_back, branch_reach, branch_step, branches, brought}
use Rattle.sc_emit.proofs.Common.{bytes_ahead, bytes_of, call_cross, call_own, choice, choosing, closing, code_branches}
use Rattle.sc_emit.proofs.Common.{code_of, cond, copied, count_by, cycle, each_before, ending_past, environment_call}
use Rattle.sc_emit.proofs.Common.{epilogue, everywhere, false, first_scratch, fold-roll-TacStmt, followed, fork}
use Rattle.sc_emit.proofs.Common.{fork_keeps, frame_taken, function_lines, has_known_jumps, has_no_ebreak}
use Rattle.sc_emit.proofs.Common.{if◌then◌else◌, in_order, in_turn, is_branch, is_ebreak, is_known_jump, is_near}
use Rattle.sc_emit.proofs.Common.{is_short, is_some, joined, jump_back, jump_over, keep, kept, length, list_all}
use Rattle.sc_emit.proofs.Common.{list_all-append, list_all-map, list_all_along, load_from, load_word, loading}
use Rattle.sc_emit.proofs.Common.{loop_begins, map, map-TacStmt, moved_by, nat_lt, neg_ℤ, not, object_offset}
use Rattle.sc_emit.proofs.Common.{object_read, object_store, op_code, operand, operation, pass, past, place_of}
use Rattle.sc_emit.proofs.Common.{place_of_global, plain, plainly, plan_of, pos, prologue, put, ra, receive, refl}
use Rattle.sc_emit.proofs.Common.{register_of, result_register, return, role_first, role_of_load, role_of_operation}
use Rattle.sc_emit.proofs.Common.{role_of_return, role_of_store, role_to_next, rotated, second_operand, second_scratch}
use Rattle.sc_emit.proofs.Common.{select, select_all, select_step, short_code, short_form, short_operation}
use Rattle.sc_emit.proofs.Common.{short_return, skipping, slot_offset, sp, stmt_branches, stmt_induction}
use Rattle.sc_emit.proofs.Common.{store_arguments, store_to, store_word, straight, straightly, sub_word, subst, suc}
use Rattle.sc_emit.proofs.Common.{sum_by-append, sym, take, take_second, taken, test_stmt, testing, total, true}
use Rattle.sc_emit.proofs.Common.{turning_by, unary_code, word_of_constant, zero, ℕ, ◌&&◌, ◌*◌, ◌++◌, ◌+◌, ◌==◌, ◌||◌}
use Rattle.sc_emit.proofs.Common.{◌∙◌, ◌∷◌, ◌≡◌, ◌≤◌}
use Rattle.sc_emit_select.specs.Prelude.{Piece}
use Rattle.rv_code.specs.declared.instr.OpOp.TheVariants.{Mul}
use Rattle.sc_base.specs.declared.op.BinaryOp.{BinaryOp}
use Rattle.sc_base.specs.declared.op.BinaryOp.TheVariants as op
use Rattle.sc_base.specs.declared.op.UnaryOp.{UnaryOp}
use Rattle.sc_base.specs.declared.op.UnaryOp.TheVariants as unary
use Rattle.sc_tac.specs.declared.stmt.TacOp.TheVariants as tacop
unfoldable use Rattle.sc_tac.specs.declared.stmt.TacStmt.{roll-TacStmt}
use Rattle.sc_tac.specs.declared.stmt.TacStmt.TheOpen as tac

-- TESTS
pub all_append : {X : Type 0} (test : X → Bool) (xs ys : List X) → list_all test xs ≡ true → list_all test ys ≡ true →
    list_all test (xs ++ ys) ≡ true
all_append test xs ys hx hy = list_all-append test xs ys ∙ and_from (list_all test xs) (list_all test ys) hx hy

-- PIECES
-- neither EBREAK nor a jump of another kind than functions have
abbrev pub is_sound : Instr → Bool
is_sound instr = not (is_ebreak instr) && is_known_jump instr

-- of these, no branch and no jump within its function
abbrev pub is_straight : Instr → Bool
is_straight (Branch o rs1 rs2 imm) = false
is_straight Ebreak = false
is_straight (Jal rd imm) = not (rd == 0) && is_known_jump (Jal rd imm)
is_straight (Jalr rd rs1 imm) = is_known_jump (Jalr rd rs1 imm)
is_straight _ = true

straight_sound : (i : Instr) → is_straight i ≡ true → is_sound i ≡ true
straight_sound (Branch o rs1 rs2 imm) h = refl
straight_sound Ebreak h = absurd (cc)
straight_sound (Jal rd imm) h = and_rest (not (rd == 0)) (is_known_jump (Jal rd imm)) h
straight_sound (Jalr rd rs1 imm) h = h
straight_sound _ h = refl

abbrev pub Straight : List Instr → Type 0
Straight instrs = list_all {X = Instr} is_straight instrs ≡ true

both : (xs ys : List Instr) → Straight xs → Straight ys → Straight (xs ++ ys)
both xs ys hx hy = all_append is_straight xs ys hx hy

either : (b : Bool) (xs ys : List Instr) → Straight xs → Straight ys → Straight (if b then xs else ys)
either true xs ys hx hy = hx
either false xs ys hx hy = hy

loading_straight : (rd word : ℕ) → Straight (loading rd word)
loading_straight rd word = either (is_short word) _ _ refl refl

moved_straight : (rd rs bytes : ℕ) → Straight (moved_by rd rs bytes)
moved_straight rd rs bytes =
    either (is_short bytes) _ _ refl
    (both (loading address_scratch bytes) _ (loading_straight address_scratch bytes) refl)

load_straight : (rd offset : ℕ) → Straight (load_word rd offset)
load_straight rd offset = either (is_short offset) _ _ refl refl

store_straight : (rs offset : ℕ) → Straight (store_word rs offset)
store_straight rs offset = either (is_short offset) _ _ refl refl

taken_frame_straight : (bytes : ℕ) → Straight (frame_taken bytes)
taken_frame_straight bytes =
    let size = sub_word 0 bytes in
    both (moved_by sp sp size) (Store Sw sp ra (pos 0) ∷ []) (moved_straight sp sp size) refl

left_frame_straight : (bytes : ℕ) → Straight (epilogue bytes)
left_frame_straight bytes = both (moved_by sp sp bytes) _ (moved_straight sp sp bytes) refl

-- OPERATORS
unary_straight : (rd rs : ℕ) (o : UnaryOp) → Straight (unary_code rd rs o)
unary_straight rd rs unary.Minus = refl
unary_straight rd rs unary.Plus = refl
unary_straight rd rs unary.Not = refl
unary_straight rd rs unary.BitNot = refl

binary_straight : (rd left right : ℕ) (unsigned : Bool) (o : BinaryOp) →
    Straight (binary_code rd left right unsigned o)
binary_straight rd left right unsigned op.OrElse = refl
binary_straight rd left right unsigned op.AndAlso = refl
binary_straight rd left right unsigned op.BitOr = refl
binary_straight rd left right unsigned op.BitXor = refl
binary_straight rd left right unsigned op.BitAnd = refl
binary_straight rd left right unsigned op.Equal = refl
binary_straight rd left right unsigned op.NotEqual = refl
binary_straight rd left right unsigned op.Less = refl
binary_straight rd left right unsigned op.Greater = refl
binary_straight rd left right unsigned op.LessEqual = refl
binary_straight rd left right unsigned op.GreaterEqual = refl
binary_straight rd left right unsigned op.ShiftLeft = refl
binary_straight rd left right unsigned op.ShiftRight = refl
binary_straight rd left right unsigned op.Add = refl
binary_straight rd left right unsigned op.Sub = refl
binary_straight rd left right unsigned op.Mul = refl
binary_straight rd left right unsigned op.Div = refl
binary_straight rd left right unsigned op.Rem = refl

op_straight : (rd left right : ℕ) (o : TacOp) → Straight (op_code rd left right o)
op_straight rd left right (tacop.Unary o scalar) = unary_straight rd left o
op_straight rd left right (tacop.Binary o scalar) = binary_straight rd left right _ o
op_straight rd left right tacop.PointerNot = refl
op_straight rd left right (tacop.PointerMove minus cells index) =
    both (bytes_ahead right cells) _
    (either (cells == 1) _ _ refl
    (both (loading address_scratch (bytes_of cells)) _ (loading_straight address_scratch (bytes_of cells)) refl)) refl
op_straight rd left right (tacop.PointerMember offset) = moved_straight rd left (bytes_of offset)
op_straight rd left right (tacop.PointerDifference cells) =
    both (loading address_scratch (bytes_of cells)) _ (loading_straight address_scratch (bytes_of cells)) refl
op_straight rd left right (tacop.PointerCompare o) = binary_straight rd left right true o

short_code_straight : (rd rs : ℕ) (form : Option ShortForm) → Straight (short_code rd rs form)
short_code_straight rd rs None = refl
short_code_straight rd rs (Some form) = refl

-- PLACES
module _ (frame : FrameTree) where
  pub taken_straight : (scratch : ℕ) (place : Option Place) → Straight (taken frame scratch place)
  taken_straight scratch (Some (Slot slot)) = load_straight scratch (slot_offset frame slot)
  taken_straight scratch (Some (Register r)) = refl
  taken_straight scratch None = refl

  kept_straight : (place : Option Place) → Straight (kept frame place)
  kept_straight (Some (Slot slot)) = store_straight first_scratch (slot_offset frame slot)
  kept_straight (Some (Register r)) = refl
  kept_straight None = refl

  brought_straight : (rd : ℕ) (place : Option Place) → Straight (brought frame rd place)
  brought_straight rd (Some (Slot slot)) = load_straight rd (slot_offset frame slot)
  brought_straight rd (Some (Register r)) = refl
  brought_straight rd None = refl

  put_straight : (rs : ℕ) (place : Option Place) → Straight (put frame rs place)
  put_straight rs (Some (Slot slot)) = store_straight rs (slot_offset frame slot)
  put_straight rs (Some (Register r)) = refl
  put_straight rs None = refl

  pub copied_straight : (dest from : Option Place) → Straight (copied frame dest from)
  copied_straight (Some (Register r)) from = brought_straight (register_of r) from
  copied_straight (Some (Slot slot)) from =
      both (taken frame first_scratch from) _ (taken_straight first_scratch from)
      (store_straight (at_hand first_scratch from) (slot_offset frame slot))
  copied_straight None from = refl

-- LINES
abbrev pub is_straight_line : Line → Bool
is_straight_line line = is_straight line.instr

abbrev pub StraightLines : List Line → Type 0
StraightLines lines = list_all {X = Line} is_straight_line lines ≡ true

pub plainly_straight : (instrs : List Instr) → Straight instrs → StraightLines (plainly instrs)
plainly_straight instrs h = list_all-map is_straight_line plain instrs ∙ h

both_lines : (xs ys : List Line) → StraightLines xs → StraightLines ys → StraightLines (xs ++ ys)
both_lines xs ys hx hy = all_append is_straight_line xs ys hx hy

-- STATEMENTS
module _ (frame : FrameTree) (places : List Place) where
  pub take_straight : (scratch t : ℕ) → Straight (take frame places scratch t)
  take_straight scratch t = taken_straight frame scratch (place_of frame places t)

  keep_straight : (dest : ℕ) → Straight (keep frame places dest)
  keep_straight dest = kept_straight frame (place_of frame places dest)

  second_straight : (t : Option ℕ) → Straight (take_second frame places t)
  second_straight None = refl
  second_straight (Some t) = take_straight second_scratch t

  pub operation_straight : (dest : ℕ) (o : TacOp) (left : ℕ) (right : Option ℕ) →
      Straight (operation frame places dest o left right)
  operation_straight dest o left right =
      let rd = result_register frame places dest in
      let a = operand frame places first_scratch left in
      let b = second_operand frame places right in
      let prefix : List Instr = take frame places first_scratch left ++ take_second frame places right in
      both (prefix ++ op_code rd a b o) (keep frame places dest)
      (both prefix (op_code rd a b o)
      (both (take frame places first_scratch left) (take_second frame places right) (take_straight first_scratch left)
      (second_straight right)) (op_straight rd a b o)) (keep_straight dest)

  pub short_straight : (dest left : ℕ) (form : Option ShortForm) →
      Straight (short_operation frame places dest left form)
  short_straight dest left form =
      let code : List Instr =
      short_code (result_register frame places dest) (operand frame places first_scratch left) form in
      both (take frame places first_scratch left ++ code) (keep frame places dest)
      (both (take frame places first_scratch left) code (take_straight first_scratch left)
      (short_code_straight _ _ form)) (keep_straight dest)

  pub load_from_straight : (dest place : ℕ) → Straight (load_from frame places dest place)
  load_from_straight dest place =
      both (take frame places first_scratch place) _ (take_straight first_scratch place) (keep_straight dest)

  pub object_store_straight : (value object : ℕ) → Straight (object_store frame places value object)
  object_store_straight value object =
      both (take frame places second_scratch value) _ (take_straight second_scratch value)
      (store_straight (operand frame places second_scratch value) (object_offset frame object))

  pub store_to_straight : (place value : ℕ) → Straight (store_to frame places place value)
  store_to_straight place value =
      both (take frame places first_scratch place ++ take frame places second_scratch value) _
      (both (take frame places first_scratch place) (take frame places second_scratch value)
      (take_straight first_scratch place) (take_straight second_scratch value)) refl

  pass_straight : (rd : ℕ) (args : List ℕ) → Straight (pass frame places rd args)
  pass_straight rd [] = refl
  pass_straight rd (t ∷ ts) =
      both (brought frame rd (place_of frame places t)) _ (brought_straight frame rd (place_of frame places t))
      (pass_straight (suc rd) ts)

  pub receive_straight : (dest : Option ℕ) → Straight (receive frame places dest)
  receive_straight None = refl
  receive_straight (Some dest) = put_straight frame a0 (place_of frame places dest)

  pub own_straight : (dest : Option ℕ) (function : ℕ) (args : List ℕ) →
      StraightLines (call_own frame places dest function args)
  own_straight dest function args =
      both_lines (plainly (pass frame places a0 args)) _
      (plainly_straight (pass frame places a0 args) (pass_straight a0 args))
      (plainly_straight (receive frame places dest) (receive_straight dest))

  pub cross_straight : (dest : Option ℕ) (comp index : ℕ) (args : List ℕ) →
      StraightLines (call_cross frame places dest comp index args)
  cross_straight dest comp index args =
      both_lines (plainly (pass frame places a0 args)) _
      (plainly_straight (pass frame places a0 args) (pass_straight a0 args))
      (plainly_straight (receive frame places dest) (receive_straight dest))

  pub return_straight : (value : Option ℕ) → Straight (return frame places value)
  return_straight None = left_frame_straight frame.bytes
  return_straight (Some t) =
      both (brought frame a0 (place_of frame places t)) _ (brought_straight frame a0 (place_of frame places t))
      (left_frame_straight frame.bytes)

  pub short_return_straight : (left : ℕ) (form : Option ShortForm) → Straight (short_return frame places left form)
  short_return_straight left form =
      let code : List Instr = short_code a0 (operand frame places first_scratch left) form in
      both (take frame places first_scratch left ++ code) (epilogue frame.bytes)
      (both (take frame places first_scratch left) code (take_straight first_scratch left)
      (short_code_straight _ _ form)) (left_frame_straight frame.bytes)

  pub loaded_straight : (dest word : ℕ) →
      Straight (loading (result_register frame places dest) word ++ keep frame places dest)
  loaded_straight dest word =
      let rd = result_register frame places dest in
      both (loading rd word) (keep frame places dest) (loading_straight rd word) (keep_straight dest)

  pub object_straight : (dest object : ℕ) → Straight
      (moved_by (result_register frame places dest) sp (object_offset frame object) ++ keep frame places dest)
  object_straight dest object =
      let rd = result_register frame places dest in
      let offset = object_offset frame object in
      both (moved_by rd sp offset) (keep frame places dest) (moved_straight rd sp offset) (keep_straight dest)

  pub object_read_straight : (dest object : ℕ) → Straight (object_read frame places dest object)
  object_read_straight dest object =
      let rd = result_register frame places dest in
      let offset = object_offset frame object in
      both (load_word rd offset) (keep frame places dest) (load_straight rd offset) (keep_straight dest)

  pub global_straight : (dest global : ℕ) → StraightLines (place_of_global frame places dest global)
  global_straight dest global = plainly_straight (keep frame places dest) (keep_straight dest)

  pub output_straight : (value : ℕ) → Straight (brought frame a0 (place_of frame places value) ++ environment_call 2)
  output_straight value =
      both (brought frame a0 (place_of frame places value)) _
      (brought_straight frame a0 (place_of frame places value)) refl

  pub alloc_straight : (dest count words : ℕ) → Straight
      (brought frame a0 (place_of frame places count) ++ loading a1 words ++ environment_call 3 ++
      put frame a0 (place_of frame places dest))
  alloc_straight dest count words =
      let given : List Instr = brought frame a0 (place_of frame places count) in
      both (given ++ loading a1 words ++ environment_call 3) (put frame a0 (place_of frame places dest))
      (both (given ++ loading a1 words) (environment_call 3)
      (both given (loading a1 words) (brought_straight frame a0 (place_of frame places count))
      (loading_straight a1 words)) refl) (put_straight frame a0 (place_of frame places dest))

  pub free_straight : (pointer : ℕ) → Straight (brought frame a0 (place_of frame places pointer) ++ environment_call 4)
  free_straight pointer =
      both (brought frame a0 (place_of frame places pointer)) _
      (brought_straight frame a0 (place_of frame places pointer)) refl

  store_arguments_straight : (params from : ℕ) → Straight (store_arguments frame places params from)
  store_arguments_straight zero from = refl
  store_arguments_straight (suc params) from =
      both (store_word (a0 + from) (object_offset frame from)) _
      (store_straight (a0 + from) (object_offset frame from)) (store_arguments_straight params (suc from))

  pub entrance_straight : (params : ℕ) → Straight (prologue frame places params)
  entrance_straight params =
      both (frame_taken frame.bytes) _ (taken_frame_straight frame.bytes) (store_arguments_straight params 0)

  pub closing_straight : (entry : Option Entry) → Straight (closing frame places entry)
  closing_straight (Some Main) = left_frame_straight frame.bytes
  closing_straight (Some (Export index)) = left_frame_straight frame.bytes
  closing_straight None = left_frame_straight frame.bytes

-- COUNTS
-- 1 for a branch, else 0
abbrev one_if_branch : Instr → ℕ
one_if_branch instr = cond (is_branch instr) 1 0

abbrev count : List Line → ℕ
count [] = 0
count (line ∷ lines) = one_if_branch line.instr + count lines

count_append : (xs ys : List Line) → count (xs ++ ys) ≡ count xs + count ys
count_append [] ys = omega arith
count_append (x ∷ xs) ys = by (one_if_branch x.instr) (count xs) (count ys) _ (count_append xs ys) where
  by : (a b c d : ℕ) → d ≡ b + c → a + d ≡ a + b + c
  by a b c d h = omega (arith, h)

is_no_branch : (i : Instr) → is_straight i ≡ true → one_if_branch i ≡ 0
is_no_branch (Branch o rs1 rs2 imm) h = absurd (cc)
is_no_branch _ h = refl

straight_count : (lines : List Line) → StraightLines lines → count lines ≡ 0
straight_count [] h = refl
straight_count (x ∷ xs) h =
    by (one_if_branch x.instr) (count xs)
    (is_no_branch x.instr (and_first (is_straight x.instr) (list_all {X = Line} is_straight_line xs) h))
    (straight_count xs (and_rest (is_straight x.instr) (list_all {X = Line} is_straight_line xs) h))
  where
    by : (a b : ℕ) → a ≡ 0 → b ≡ 0 → a + b ≡ 0
    by a b h k = omega (arith, h, k)

one_branch : (instrs : List Instr) (rs : ℕ) → Straight instrs →
    count (plainly (instrs ++ Branch Bne rs 0 (pos 8) ∷ [])) ≤ 1
one_branch [] rs h = omega arith
one_branch (i ∷ is) rs h =
    by (one_if_branch i) _ (is_no_branch i (and_first (is_straight i) (list_all {X = Instr} is_straight is) h))
    (one_branch is rs (and_rest (is_straight i) (list_all {X = Instr} is_straight is) h))
  where
    by : (a b : ℕ) → a ≡ 0 → b ≤ 1 → a + b ≤ 1
    by a b h k = omega (arith, h, k)

at_most_one : (i : Instr) → one_if_branch i ≤ 1
at_most_one i = by (is_branch i)
  where
    by : (b : Bool) → cond b 1 0 ≤ 1
    by true = omega arith
    by false = omega arith

-- as many as the instructions have
count_is : (lines : List Line) → count_by {X = Instr} is_branch (map (λ line. line.instr) lines) ≡ count lines
count_is [] = refl
count_is (x ∷ xs) =
    let rest : List Instr = map (λ line. line.instr) xs in
    let first = one_if_branch x.instr in
    by first (count xs) (count_by {X = Instr} is_branch rest) _ (count_is xs)
    (sum_by-append one_if_branch (x.instr ∷ []) rest)
  where
    by : (a b c d : ℕ) → c ≡ b → d ≡ 0 + a + c → d ≡ a + b
    by a b c d h k = omega (arith, h, k)

-- PASSING
-- all lines of a piece pass a test
pub record PassesAll (test : Line → Bool) (piece : Piece) : Type 0 where
  pub passes : (to_break to_continue : ℕ) → list_all test (piece.lines to_break to_continue) ≡ true

pub followed_passes : (test : Line → Bool) (e f : Piece) → PassesAll test e → PassesAll test f →
    PassesAll test (followed e f)
followed_passes test e f he hf = record {
  passes = λ b c.
      all_append test (e.lines (f.size + b) (f.size + c)) (f.lines b c) (he.passes (f.size + b) (f.size + c))
      (hf.passes b c);
}

-- a test that each instruction of these passes that refers to nothing
pub record IsMild (test : Line → Bool) : Type 0 where
  pub mild : (instr : Instr) → is_sound instr ≡ true → test (plain instr) ≡ true

module _ (test : Line → Bool) (mild : IsMild test) (frame : FrameTree) (places : List Place) where
  straight_mild : (instr : Instr) → is_straight instr ≡ true → test (plain instr) ≡ true
  straight_mild instr h = mild.mild instr (straight_sound instr h)

  pub plainly_passes : (instrs : List Instr) → Straight instrs → list_all test (plainly instrs) ≡ true
  plainly_passes instrs h =
      list_all-map test plain instrs ∙ list_all_along is_straight (λ i. test (plain i)) straight_mild instrs h

  choice_passes : (cond : ℕ) → list_all test (plainly (choice frame places cond)) ≡ true
  choice_passes cond =
      let instrs : List Instr = take frame places first_scratch cond in
      let branch : Instr = Branch Bne (operand frame places first_scratch cond) 0 (pos 8) in
      list_all-map test plain (instrs ++ branch ∷ []) ∙
      all_append (λ i. test (plain i)) instrs (branch ∷ [])
      (list_all_along is_straight (λ i. test (plain i)) straight_mild instrs
      (take_straight frame places first_scratch cond))
      (and_from (test (plain branch)) true (mild.mild branch refl) refl)

  pub fork_passes : (cond : ℕ) (first second : List Piece) → PassesAll test (in_order frame places first) →
      PassesAll test (in_order frame places second) → PassesAll test (fork frame places cond first second)
  fork_passes cond first second he hf =
      fork_keeps frame places (PassesAll test) (record { passes = λ b c. refl })
      (λ lines. record { passes = λ b c. and_from (test (jump_over lines)) true (mild.mild _ refl) refl })
      (followed_passes test) (λ piece kind h. record { passes = h.passes }) cond first second
      (record { passes = λ b c. choice_passes cond }) he hf

  pub cycle_passes : (h b n : Piece) → PassesAll test h → PassesAll test b → PassesAll test n →
      PassesAll test (cycle frame places h b n)
  cycle_passes h b n hh hb hn = record {
    passes = λ to_break to_continue.
        let back : List Line = jump_back (h.size + (b.size + n.size)) ∷ [] in
        let last : List Line = n.lines 1 0 ++ back in
        let middle : List Line = b.lines (suc n.size) 0 ++ last in
        let head : List Line = h.lines (b.size + suc n.size) 0 in
        and_from (test loop_begins) (list_all test (head ++ middle)) (mild.mild _ refl)
        (all_append test head middle (hh.passes (b.size + suc n.size) 0)
        (all_append test (b.lines (suc n.size) 0) last (hb.passes (suc n.size) 0)
        (all_append test (n.lines 1 0) back (hn.passes 1 0)
        (and_from (test (jump_back (h.size + (b.size + n.size)))) true (mild.mild _ refl) refl))));
  }

  back_passes : (cond lines : ℕ) → test (branch_back frame places cond lines) ≡ true
  back_passes cond lines = by (nat_lt lines branch_reach)
    where
      by : (b : Bool) → test
          (if b then plain (Branch Bne (operand frame places first_scratch cond) 0 (neg_ℤ (pos (4 * lines))))
          else jump_back lines) ≡ true
      by true = mild.mild _ refl
      by false = mild.mild _ refl

  testing_passes : (cond lines : ℕ) → list_all test (testing frame places cond lines) ≡ true
  testing_passes cond lines =
      let taking : List Instr = take frame places first_scratch cond in
      let back : Line = branch_back frame places cond (lines + length taking) in
      all_append test (plainly taking) (back ∷ [])
      (plainly_passes taking (take_straight frame places first_scratch cond))
      (and_from (test back) true (back_passes cond (lines + length taking)) refl)

  pub rotated_passes : (cond : ℕ) (h b n : Piece) → PassesAll test h → PassesAll test b → PassesAll test n →
      PassesAll test (rotated frame places cond h b n)
  rotated_passes cond h b n hh hb hn = record {
    passes = λ to_break to_continue.
        let size : ℕ = suc (length (take frame places first_scratch cond)) in
        let back : List Line = testing frame places cond (b.size + (n.size + h.size)) in
        let last : List Line = h.lines size 0 ++ back in
        let middle : List Line = n.lines (h.size + size) 0 ++ last in
        let body : List Line = b.lines (n.size + (h.size + size)) 0 in
        and_from (test (jump_over (b.size + n.size))) (list_all test (body ++ middle)) (mild.mild _ refl)
        (all_append test body middle (hb.passes (n.size + (h.size + size)) 0)
        (all_append test (n.lines (h.size + size) 0) last (hn.passes (h.size + size) 0)
        (all_append test (h.lines size 0) back (hh.passes size 0)
        (testing_passes cond (b.size + (n.size + h.size))))));
  }

-- BRANCHES AND EBREAKS
-- what refers to something neither branches nor jumps within its function
abbrev pub refers_straight : Line → Bool
refers_straight line = not (is_some line.target) || is_straight line.instr

straight_refers : (line : Line) → is_straight line.instr ≡ true → refers_straight line ≡ true
straight_refers line h = by (is_some line.target) (is_straight line.instr) h where
  by : (b c : Bool) → c ≡ true → (not b || c) ≡ true
  by true c h = h
  by false c h = refl

abbrev is_sound_line : Line → Bool
is_sound_line line = is_sound line.instr && refers_straight line

-- at most `most` branches, and all sound
record IsShaped (most : ℕ) (piece : Piece) : Type 0 where
  few : (to_break to_continue : ℕ) → count (piece.lines to_break to_continue) ≤ most
  sound : PassesAll is_sound_line piece

sound_mild : IsMild is_sound_line
sound_mild = record { mild = λ instr h. and_from (is_sound instr) (refers_straight (plain instr)) h refl }

straight_shaped : (lines : List Line) → StraightLines lines → IsShaped 0 (straight lines)
straight_shaped lines h = record {
  few = λ b c. omega (arith, straight_count lines h);
  sound = record {
    passes = λ b c.
        list_all_along is_straight_line is_sound_line
        (λ line h. and_from (is_sound line.instr) (refers_straight line) (straight_sound line.instr h)
        (straight_refers line h)) lines h;
  };
}

-- at most `few` branches are at most `most`
weaker : (few most : ℕ) (piece : Piece) → few ≤ most → IsShaped few piece → IsShaped most piece
weaker few most piece l h = record { few = λ b c. omega (arith, l, h.few b c); sound = h.sound }

followed_shaped : (n m : ℕ) (e f : Piece) → IsShaped n e → IsShaped m f → IsShaped (n + m) (followed e f)
followed_shaped n m e f he hf = record {
  few = λ b c.
      omega (
        arith,
        count_append (e.lines (f.size + b) (f.size + c)) (f.lines b c),
        he.few (f.size + b) (f.size + c),
        hf.few b c,
      );
  sound = followed_passes is_sound_line e f he.sound hf.sound;
}

module _ (frame : FrameTree) (places : List Place) (plan : Plan) where
  past_counts : (lines : ℕ) → count (past lines) ≤ 0
  past_counts zero = omega arith
  past_counts (suc lines) = omega arith

  choice_counts : (cond : ℕ) → count (plainly (choice frame places cond)) ≤ 1
  choice_counts cond =
      one_branch (take frame places first_scratch cond) (operand frame places first_scratch cond)
      (take_straight frame places first_scratch cond)

  fork_shaped : (cond n m : ℕ) (first second : List Piece) → IsShaped n (in_order frame places first) →
      IsShaped m (in_order frame places second) → IsShaped (suc (n + m)) (fork frame places cond first second)
  fork_shaped cond n m first second he hf = record {
    few = λ b c. by b c (length first == 0 && (in_order frame places second).size == 1);
    sound = fork_passes is_sound_line sound_mild frame places cond first second he.sound hf.sound;
  }
    where
      e : Piece
      e = in_order frame places first

      f : Piece
      f = in_order frame places second

      test : List Line
      test = plainly (choice frame places cond)

      by : (b c : ℕ) (found : Bool) →
          count ((if found then skipping frame places cond f else choosing frame places cond e f).lines b c) ≤
          suc (n + m)
      by b c true = omega (arith, count_append test (f.lines b c), choice_counts cond, hf.few b c)
      by b c false =
          let over : List Line = past f.size in
          let one : List Line = e.lines (length over + (f.size + b)) (length over + (f.size + c)) in
          let jump : Line = jump_over (ending_past frame places e f).size in
          omega (
            arith,
            count_append test (jump ∷ ((one ++ over) ++ f.lines b c)),
            choice_counts cond,
            count_append (one ++ over) (f.lines b c),
            count_append one over,
            past_counts f.size,
            he.few (length over + (f.size + b)) (length over + (f.size + c)),
            hf.few b c,
          )

  cycle_shaped : (k n m : ℕ) (h b e : Piece) → IsShaped k h → IsShaped n b → IsShaped m e →
      IsShaped (k + (n + (m + 0))) (cycle frame places h b e)
  cycle_shaped k n m h b e hh hb he = record {
    few = λ to_break to_continue.
        let back : List Line = jump_back (h.size + (b.size + e.size)) ∷ [] in
        let last : List Line = e.lines 1 0 ++ back in
        let middle : List Line = b.lines (suc e.size) 0 ++ last in
        omega (
          arith,
          count_append (h.lines (b.size + suc e.size) 0) middle,
          count_append (b.lines (suc e.size) 0) last,
          count_append (e.lines 1 0) back,
          hh.few (b.size + suc e.size) 0,
          hb.few (suc e.size) 0,
          he.few 1 0,
        );
    sound = cycle_passes is_sound_line sound_mild frame places h b e hh.sound hb.sound he.sound;
  }

  testing_counts : (cond lines : ℕ) → count (testing frame places cond lines) ≤ 1
  testing_counts cond lines =
      let taking : List Instr = take frame places first_scratch cond in
      let back : Line = branch_back frame places cond (lines + length taking) in
      omega (
        arith,
        count_append (plainly taking) (back ∷ []),
        straight_count (plainly taking) (plainly_straight taking (take_straight frame places first_scratch cond)),
        at_most_one back.instr,
      )

  rotated_shaped : (cond k n m : ℕ) (h b e : Piece) → IsShaped k h → IsShaped n b → IsShaped m e →
      IsShaped (suc k + (n + (m + 0))) (rotated frame places cond h b e)
  rotated_shaped cond k n m h b e hh hb he = record {
    few = λ to_break to_continue.
        let size : ℕ = suc (length (take frame places first_scratch cond)) in
        let back : List Line = testing frame places cond (b.size + (e.size + h.size)) in
        let last : List Line = h.lines size 0 ++ back in
        let middle : List Line = e.lines (h.size + size) 0 ++ last in
        omega (
          arith,
          count_append (b.lines (e.size + (h.size + size)) 0) middle,
          count_append (e.lines (h.size + size) 0) last,
          count_append (h.lines size 0) back,
          testing_counts cond (b.size + (e.size + h.size)),
          hh.few size 0,
          hb.few (e.size + (h.size + size)) 0,
          he.few (h.size + size) 0,
        );
    sound = rotated_passes is_sound_line sound_mild frame places cond h b e hh.sound hb.sound he.sound;
  }

  -- a test has a branch
  test_branches : (cond : ℕ) → 1 ≤ stmt_branches (test_stmt cond)
  test_branches cond =
      let layer : TacStmt-F TacStmt = tac.If cond [] (roll-TacStmt tac.Break ∷ []) in
      subst (λ n. 1 ≤ n) (sym (fold-roll-TacStmt ℕ branch_step layer)) (omega arith)

  -- so statements that end with one have more than those before it
  more_branches : (cond : ℕ) (init : List TacStmt) →
      suc (total (map stmt_branches init)) ≤ total (map stmt_branches (init ++ (test_stmt cond ∷ [])))
  more_branches cond [] = omega (arith, test_branches cond)
  more_branches cond (stmt ∷ rest) = omega (arith, more_branches cond rest)

  tested_branches : (cond : ℕ) (head init : List TacStmt) → head ≡ init ++ (test_stmt cond ∷ []) →
      suc (total (map stmt_branches init)) ≤ total (map stmt_branches head)
  tested_branches cond head init is =
      subst (λ stmts. suc (total (map stmt_branches init)) ≤ total (map stmt_branches stmts)) (sym is)
      (more_branches cond init)

  abbrev Shaped : TacStmt → Type 0
  Shaped stmt = IsShaped (stmt_branches stmt) (select frame places plan stmt)

  -- those without statements inside
  plainly_shaped : (instrs : List Instr) → Straight instrs → IsShaped 0 (straight (plainly instrs))
  plainly_shaped instrs h = straight_shaped (plainly instrs) (plainly_straight instrs h)

  -- what a piece is to its neighbours changes nothing
  in_role : (most : ℕ) (role : Role) (piece : Piece) → IsShaped most piece →
      IsShaped most (record piece { role = role })
  in_role most role piece h = record { few = h.few; sound = record { passes = h.sound.passes } }

  any_more : (most : ℕ) (piece : Piece) → IsShaped 0 piece → IsShaped most piece
  any_more most piece h = weaker 0 most piece (omega arith) h

  turn_shaped : (before : Role) (stmts : List TacStmt) → Each Shaped stmts →
      IsShaped (total (map stmt_branches stmts))
      (in_turn (joined frame places before (map (select frame places plan) stmts)))
  turn_shaped before [] h = straight_shaped [] refl
  turn_shaped before (stmt ∷ rest) h =
      let following : Role = role_first (map (select frame places plan) rest) in
      followed_shaped (stmt_branches stmt) (total (map stmt_branches rest))
      (between frame places before (select frame places plan stmt) following)
      (in_turn (joined frame places (role_to_next before (select frame places plan stmt).role) (map (select frame places
      plan) rest)))
      (between_keeps frame places plan (IsShaped (stmt_branches stmt))
      (any_more (stmt_branches stmt) (straight []) (straight_shaped [] refl))
      (λ t o. any_more (stmt_branches stmt) (straightly frame places (object_read frame places t o))
      (plainly_shaped (object_read frame places t o) (object_read_straight frame places t o)))
      (λ t l o w. any_more (stmt_branches stmt)
      (straightly frame places (short_operation frame places t l (short_form o w)))
      (plainly_shaped (short_operation frame places t l (short_form o w))
      (short_straight frame places t l (short_form o w))))
      (λ v o. any_more (stmt_branches stmt) (straightly frame places (object_store frame places v o))
      (plainly_shaped (object_store frame places v o) (object_store_straight frame places v o)))
      (λ l o w. any_more (stmt_branches stmt) (straightly frame places (short_return frame places l (short_form o w)))
      (plainly_shaped (short_return frame places l (short_form o w))
      (short_return_straight frame places l (short_form o w)))) before following
      (select frame places plan stmt) h.0) (turn_shaped (role_to_next before (select frame places plan stmt).role) rest
      h.1)

  row_shaped : (stmts : List TacStmt) → Each Shaped stmts →
      IsShaped (total (map stmt_branches stmts)) (in_order frame places (map (select frame places plan) stmts))
  row_shaped stmts h = turn_shaped Other stmts h

  loop_shaped : (head body next : List TacStmt) → Each Shaped head → Each Shaped body → Each Shaped next →
      IsShaped (branch_step (map-TacStmt _ _ stmt_branches (tac.Loop head body next)))
      (select_step frame places plan (map-TacStmt _ _ (select frame places plan) (tac.Loop head body next)))
  loop_shaped head body next hh hb hn =
      let in_head : ℕ = total (map stmt_branches head) in
      let in_body : ℕ = total (map stmt_branches body) in
      let in_next : ℕ = total (map stmt_branches next) in
      let second : Piece = select_all frame places plan body in
      let third : Piece = select_all frame places plan next in
      turning_by frame places plan (IsShaped (in_head + (in_body + (in_next + 0)))) head second third
      (cycle_shaped in_head in_body in_next (select_all frame places plan head) second third (row_shaped head hh)
      (row_shaped body hb) (row_shaped next hn)) (λ cond near t.
      let in_init : ℕ = total (map stmt_branches t.init) in
      let first : Piece = select_all frame places plan t.init in
      weaker (suc in_init + (in_body + (in_next + 0))) (in_head + (in_body + (in_next + 0)))
      (rotated frame places cond first second third) (omega (arith, tested_branches cond head t.init t.is))
      (rotated_shaped cond in_init in_body in_next first second third
      (row_shaped t.init (each_before frame places plan Shaped head t.init cond t.is hh)) (row_shaped body hb)
      (row_shaped next hn)))

  layer_shaped : (layer : TacStmt-F TacStmt) → Inside Shaped layer →
      IsShaped (branch_step (map-TacStmt _ _ stmt_branches layer))
      (select_step frame places plan (map-TacStmt _ _ (select frame places plan) layer))
  layer_shaped (tac.Const dest value) h =
      in_role 0 (Sets dest (word_of_constant value)) _
      (plainly_shaped _ (loaded_straight frame places dest (word_of_constant value)))
  layer_shaped (tac.Copy dest from) h =
      plainly_shaped _ (copied_straight frame (place_of frame places dest) (place_of frame places from))
  layer_shaped (tac.Op dest o left right) h =
      in_role 0 (role_of_operation plan.needed dest o left right) _
      (plainly_shaped _ (operation_straight frame places dest o left right))
  layer_shaped (tac.ObjectPlace dest object) h =
      in_role 0 (Places dest object) _ (plainly_shaped _ (object_straight frame places dest object))
  layer_shaped (tac.GlobalPlace dest global) h =
      straight_shaped (place_of_global frame places dest global) (global_straight frame places dest global)
  layer_shaped (tac.Load dest place pointer) h =
      in_role 0 (role_of_load frame places dest place) _
      (plainly_shaped _ (load_from_straight frame places dest place))
  layer_shaped (tac.Store place value) h =
      in_role 0 (role_of_store plan.needed place value) _
      (plainly_shaped _ (store_to_straight frame places place value))
  layer_shaped (tac.If cond first second) h =
      fork_shaped cond _ _ _ _ (row_shaped first h.0) (row_shaped second h.1)
  layer_shaped (tac.Loop head body next) h = loop_shaped head body next h.0 h.1 h.2
  layer_shaped tac.Break h = record { few = λ b c. omega arith; sound = record { passes = λ b c. refl } }
  layer_shaped tac.Continue h = record { few = λ b c. omega arith; sound = record { passes = λ b c. refl } }
  layer_shaped (tac.CallOwn dest function args) h =
      straight_shaped (call_own frame places dest function args) (own_straight frame places dest function args)
  layer_shaped (tac.CallCross dest comp index args) h =
      straight_shaped (call_cross frame places dest comp index args) (cross_straight frame places dest comp index args)
  layer_shaped (tac.Input dest) h =
      plainly_shaped (environment_call 1 ++ receive frame places dest) (receive_straight frame places dest)
  layer_shaped (tac.Output value) h = plainly_shaped _ (output_straight frame places value)
  layer_shaped (tac.Alloc dest count words) h = plainly_shaped _ (alloc_straight frame places dest count words)
  layer_shaped (tac.Free pointer) h = plainly_shaped _ (free_straight frame places pointer)
  layer_shaped (tac.Return value) h =
      in_role 0 (role_of_return value) _ (plainly_shaped _ (return_straight frame places value))

  stmt_shaped : (stmt : TacStmt) → Shaped stmt
  stmt_shaped = stmt_induction Shaped (λ layer h.
      subst (λ n. IsShaped n (select frame places plan (roll-TacStmt layer)))
      (sym (fold-roll-TacStmt ℕ branch_step layer))
      (subst (IsShaped (branch_step (map-TacStmt _ _ stmt_branches layer)))
      (sym (fold-roll-TacStmt Piece (select_step frame places plan) layer)) (layer_shaped layer h)))

  body_shaped : (stmts : List TacStmt) → IsShaped (branches stmts) (select_all frame places plan stmts)
  body_shaped stmts = row_shaped stmts (everywhere Shaped stmt_shaped stmts)

  -- the lines of a function
  pub function_passes : (test : Line → Bool) → IsMild test → (f : TacFnTree) →
      PassesAll test (select_all frame places plan f.body) → list_all test (function_lines frame places plan f) ≡
      true
  function_passes test mild f h =
      let prefix : List Line = plainly (prologue frame places f.params) in
      let body : List Line = (select_all frame places plan f.body).lines 0 0 in
      all_append test (prefix ++ body) (plainly (closing frame places f.entry))
      (all_append test prefix body
      (plainly_passes test mild frame places (prologue frame places f.params) (entrance_straight frame places f.params))
      (h.passes 0 0))
      (plainly_passes test mild frame places (closing frame places f.entry) (closing_straight frame places f.entry))

  function_count : (f : TacFnTree) → count (function_lines frame places plan f) ≤ branches f.body
  function_count f =
      let entered : List Instr = prologue frame places f.params in
      let left : List Instr = closing frame places f.entry in
      let prefix : List Line = plainly entered in
      let body : List Line = (select_all frame places plan f.body).lines 0 0 in
      let back : List Line = plainly left in
      omega (
        arith,
        count_append (prefix ++ body) back,
        count_append prefix body,
        straight_count prefix (plainly_straight entered (entrance_straight frame places f.params)),
        straight_count back (plainly_straight left (closing_straight frame places f.entry)),
        (body_shaped f.body).few 0 0,
      )

pub few_branches : (f : TacFnTree) (places : List Place) (frame : FrameTree) →
    code_branches (code_of f places frame) ≤ branches f.body
few_branches f places frame =
    let plan : Plan = plan_of f (is_near f places frame) in
    omega (arith, count_is (function_lines frame places plan f), function_count frame places plan f)

all_sound : (f : TacFnTree) (places : List Place) (frame : FrameTree) →
    list_all {X = Instr} is_sound (code_of f places frame).instrs ≡ true
all_sound f places frame =
    let plan : Plan = plan_of f (is_near f places frame) in
    list_all-map is_sound (λ line. line.instr) (function_lines frame places plan f) ∙
    list_all_along is_sound_line (λ line. is_sound line.instr)
    (λ line h. and_first (is_sound line.instr) (refers_straight line) h) (function_lines frame places plan f)
    (function_passes frame places plan is_sound_line sound_mild f (body_shaped frame places plan f.body).sound)

pub all_refer : (f : TacFnTree) (places : List Place) (frame : FrameTree) →
    list_all refers_straight (function_lines frame places (plan_of f (is_near f places frame)) f) ≡ true
all_refer f places frame =
    let plan : Plan = plan_of f (is_near f places frame) in
    list_all_along is_sound_line refers_straight
    (λ line h. and_rest (is_sound line.instr) (refers_straight line) h) (function_lines frame places plan f)
    (function_passes frame places plan is_sound_line sound_mild f (body_shaped frame places plan f.body).sound)

pub no_ebreak : (f : TacFnTree) (places : List Place) (frame : FrameTree) →
    has_no_ebreak (code_of f places frame) ≡ true
no_ebreak f places frame =
    list_all_along is_sound (λ i. not (is_ebreak i)) (λ i h. and_first (not (is_ebreak i)) (is_known_jump i) h)
    (code_of f places frame).instrs (all_sound f places frame)

pub known_jumps : (f : TacFnTree) (places : List Place) (frame : FrameTree) →
    has_known_jumps (code_of f places frame) ≡ true
known_jumps f places frame =
    list_all_along is_sound is_known_jump (λ i h. and_rest (not (is_ebreak i)) (is_known_jump i) h)
    (code_of f places frame).instrs (all_sound f places frame)
