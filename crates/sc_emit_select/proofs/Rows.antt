-- Worked functions: the code of each.
use Rattle.sc_emit_select.proofs.Common.{Addi, Bne, Bool, Branch, CodeTree, Ecall, FrameTree, Function, Jal, Jalr, Line}
use Rattle.sc_emit_select.proofs.Common.{List, Load, Lw, Need, Op, OpImm, Other, Piece, Place, Plan as Way, Register}
use Rattle.sc_emit_select.proofs.Common.{Slot, Some, Store, Sub, Sw, [], all_true, ap, branch_reach, closing, code_of}
use Rattle.sc_emit_select.proofs.Common.{code_of_lines, false, frame_of, function_lines, in_order, is_near, is_one}
use Rattle.sc_emit_select.proofs.Common.{leaves_heap, length, nat_lt, need_step, needed_in, negsuc, not, plainly}
use Rattle.sc_emit_select.proofs.Common.{plan_of, pos, prologue, row_needs, select_step, true, with_parts, ℕ, ◌++◌, ◌∙◌}
use Rattle.sc_emit_select.proofs.Common.{◌∷◌, ◌≡◌}
use Rattle.sc_base.specs.declared.op.BinaryOp.TheVariants as op
use Rattle.sc_event.specs.declared.row.Entry.TheVariants as entry
use Rattle.sc_tac.specs.declared.stmt.TacStmt.TheOpen as tac
use Rattle.sc_tac.proofs.Plans.{Plan, function}
use Rattle.sc_tac.proofs.Runs.{fetched, give, int_op, put_into, word}
use Rattle.sc_tac.proofs.Shapes.{Cycle, Done, Fork, Line as Then, rows, rows_are}

-- the lines of a function by its outline, on which they compute
abbrev pub outlined : FrameTree → List Place → Plan → List Piece → List Line
outlined frame places plan pieces = plainly (prologue frame places plan.params) ++
    (in_order frame places pieces).lines 0 0 ++ plainly (closing frame places plan.entry)

abbrev pub framed : Plan → List Place → FrameTree
framed plan places = frame_of plan.objects places

-- which temporaries its code reads in their places
abbrev pub needed_by : Plan → ℕ → Bool
needed_by plan t = is_one t (row_needs Other (rows Need need_step plan.body))

needs_are : (plan : Plan) → needed_in (function plan).body ≡ needed_by plan
needs_are plan = λ i t. is_one t (row_needs Other (rows_are Need need_step plan.body i))

abbrev way : Plan → Bool → Way
way plan near = record { needed = needed_by plan; near = near }

abbrev pub lines_by : Plan → List Place → Bool → List Line
lines_by plan places near = outlined (framed plan places) places plan
    (rows Piece (select_step (framed plan places) places (way plan near)) plan.body)

lines_are : (plan : Plan) (places : List Place) (near : Bool) →
    function_lines (framed plan places) places (plan_of (function plan) near) (function plan) ≡
    lines_by plan places near
lines_are plan places near =
    ap (λ needed. function_lines (framed plan places) places (record { needed = needed; near = near }) (function plan))
    (needs_are plan) ∙
    ap (outlined (framed plan places) places plan)
    (rows_are Piece (select_step (framed plan places) places (way plan near)) plan.body)

abbrev pub asks_heap : Plan → Bool
asks_heap plan = not (all_true (rows Bool (with_parts leaves_heap) plan.body))

pub code_is : (plan : Plan) (places : List Place) → code_of (function plan) places (framed plan places) ≡
    code_of_lines (asks_heap plan) (lines_by plan places (nat_lt (length (lines_by plan places true)) branch_reach))
code_is plan places =
    ap (λ tests. code_of_lines (not (all_true tests)) (function_lines (framed plan places) places
    (plan_of (function plan) (is_near (function plan) places (framed plan places))) (function plan)))
    (rows_are Bool (with_parts leaves_heap) plan.body) ∙
    ap (λ lines. code_of_lines (asks_heap plan) (function_lines (framed plan places) places (plan_of (function plan)
    (nat_lt (length lines) branch_reach)) (function plan))) (lines_are plan places true) ∙
    ap (code_of_lines (asks_heap plan))
    (lines_are plan places (nat_lt (length (lines_by plan places true)) branch_reach))

-- `int down(int n) { while (n) n = n - 1; return n; }`
abbrev pub down : Plan
down = record {
  comp = 1;
  entry = Some (entry.Export 0);
  params = 1;
  result = true;
  temps = 6;
  objects = 1 ∷ [];
  nodes = 12;
  body = Cycle (fetched 0 0 (Fork 0 Done (Then tac.Break Done) Done))
      (fetched 1 0 (word 2 1 (int_op op.Sub 3 1 2 (put_into 0 4 3 Done)))) Done (fetched 5 0 (give 5));
}

abbrev pub down_places : List Place
down_places =
    Register 0 ∷ Register 0 ∷ Register 1 ∷ Register 0 ∷ Register 1 ∷ Register 0 ∷ []

pub down_code : code_of (function down) down_places (framed down down_places) ≡ record {
  instrs =
      OpImm Addi 2 2 (negsuc 7) ∷ Store Sw 2 1 (pos 0) ∷ Store Sw 2 10 (pos 4) ∷ Jal 0 (pos 16) ∷
      Load Lw 3 2 (pos 4) ∷ OpImm Addi 3 3 (negsuc 0) ∷ Store Sw 2 3 (pos 4) ∷
      Load Lw 3 2 (pos 4) ∷ Branch Bne 3 0 (negsuc 15) ∷
      Load Lw 3 2 (pos 4) ∷ OpImm Addi 10 3 (pos 0) ∷ Load Lw 1 2 (pos 0) ∷
      OpImm Addi 2 2 (pos 8) ∷ Jalr 0 1 (pos 0) ∷ Load Lw 1 2 (pos 0) ∷ OpImm Addi 2 2 (pos 8) ∷ Jalr 0 1 (pos 0) ∷ [];
  relocations = [];
  heap = false;
}
down_code = code_is down down_places

-- `int main(void) { return down(7); }`, in the same section, where the result goes by way of a slot
abbrev pub calls : Plan
calls = record {
  comp = 0;
  entry = Some entry.Main;
  params = 0;
  result = true;
  temps = 2;
  objects = [];
  nodes = 4;
  body = word 0 7 (Then (tac.CallOwn (Some 1) 1 (0 ∷ [])) (give 1));
}

abbrev pub calls_places : List Place
calls_places = Register 0 ∷ Slot 0 ∷ []

pub calls_code : code_of (function calls) calls_places (framed calls calls_places) ≡ record {
  instrs =
      OpImm Addi 2 2 (negsuc 7) ∷ Store Sw 2 1 (pos 0) ∷ OpImm Addi 3 0 (pos 7) ∷ OpImm Addi 10 3 (pos 0) ∷
      Jal 1 (pos 0) ∷ Store Sw 2 10 (pos 4) ∷ Load Lw 10 2 (pos 4) ∷ Load Lw 1 2 (pos 0) ∷ OpImm Addi 2 2 (pos 8) ∷
      Jalr 0 1 (pos 0) ∷ OpImm Addi 10 0 (pos 0) ∷ Load Lw 1 2 (pos 0) ∷ OpImm Addi 2 2 (pos 8) ∷ Jalr 0 1 (pos 0) ∷ [];
  relocations = record { at = 4; target = Function 1 } ∷ [];
  heap = false;
}
calls_code = code_is calls calls_places

-- three words for each of two elements, which are given back
abbrev pub keeps : Plan
keeps = record {
  comp = 0;
  entry = Some entry.Main;
  params = 0;
  result = true;
  temps = 3;
  objects = [];
  nodes = 5;
  body = word 0 2 (Then (tac.Alloc 1 0 3) (Then (tac.Free 1) (word 2 0 (give 2))));
}

abbrev pub keeps_places : List Place
keeps_places = Register 0 ∷ Slot 0 ∷ Register 0 ∷ []

pub keeps_code : code_of (function keeps) keeps_places (framed keeps keeps_places) ≡ record {
  instrs =
      OpImm Addi 2 2 (negsuc 7) ∷ Store Sw 2 1 (pos 0) ∷ OpImm Addi 3 0 (pos 2) ∷ OpImm Addi 10 3 (pos 0) ∷
      OpImm Addi 11 0 (pos 3) ∷ OpImm Addi 17 0 (pos 3) ∷ Ecall ∷ Store Sw 2 10 (pos 4) ∷
      Load Lw 10 2 (pos 4) ∷ OpImm Addi 17 0 (pos 4) ∷ Ecall ∷ OpImm Addi 3 0 (pos 0) ∷
      OpImm Addi 10 3 (pos 0) ∷ Load Lw 1 2 (pos 0) ∷ OpImm Addi 2 2 (pos 8) ∷ Jalr 0 1 (pos 0) ∷
      OpImm Addi 10 0 (pos 0) ∷ Load Lw 1 2 (pos 0) ∷ OpImm Addi 2 2 (pos 8) ∷ Jalr 0 1 (pos 0) ∷ [];
  relocations = [];
  heap = true;
}
keeps_code = code_is keeps keeps_places
