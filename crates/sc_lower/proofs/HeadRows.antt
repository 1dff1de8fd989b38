-- Worked programs: a `for` whose head lacks its first part, its last, or each part.
use Rattle.sc_lower.proofs.Common.{Acts, Arith, AssignLine, BreakLine, Calls, Codes, Cycle, Denotations, Done, End}
use Rattle.sc_lower.proofs.Common.{Ended, Fork, Function, Here, IfLine, Line, Lines, List, Main, Next, NoLine, None}
use Rattle.sc_lower.proofs.Common.{Option, Out, Parts, ProgramTree, ReturnValueLine, Shape, Some, SourceRun, Two}
use Rattle.sc_lower.proofs.Common.{TypedFunction, TypedSimple, TypedStmt, [], all_do, and_then, ap, assign, both}
use Rattle.sc_lower.proofs.Common.{bytes_eq, c_arith, closed, code_denotations, code_function, code_globals}
use Rattle.sc_lower.proofs.Common.{code_meaning, code_step, codes, cycle, denotations_of, entry_of, expr, false, follow}
use Rattle.sc_lower.proofs.Common.{frame_bound, function_of, give, global, global_of, globals_of, in_order, in_turn}
use Rattle.sc_lower.proofs.Common.{int_op, just, kind_step, leave, lines_are as lines_act, lines_do, lit, loop}
use Rattle.sc_lower.proofs.Common.{lowered_function, lowered_program, main_name, map, meaning, no_temps, nodes, on_line}
use Rattle.sc_lower.proofs.Common.{output, part, part_code, part_does, plus, refl, roll-TacStmt, rows, rows_are, run_by}
use Rattle.sc_lower.proofs.Common.{run_step, same_entry, stmt_at, stmt_code, stmt_does, stmt_step, stmts, stopped_at}
use Rattle.sc_lower.proofs.Common.{suc, test, true, way, way_is, word, ℕ, ◌&&◌, ◌==◌, ◌∙◌, ◌∷◌, ◌≡◌}
use Rattle.sc_core.specs.Prelude.{assign as assigns, kind_step as kind_acts, stmt_does as stmt_acts, test as tests}
use Rattle.sc_base.specs.declared.op.BinaryOp.TheVariants as op
use Rattle.sc_core.specs.declared.stmt.TypedStmtKind.TheOpen as layer
use Rattle.sc_core.specs.declared.ty.Ty.TheVariants as ty
use Rattle.sc_tac.specs.declared.stmt.TacStmt.TheOpen as tac
use Rattle.sc_tac.proofs.Runs.{only_main}
use Rattle.sc_tac.proofs.Shapes.{stmts as tac_stmts, Shape as TacShape}
use Rattle.sc_lower.proofs.Shapes.{form, form_is, lines_code, lines_are}
use Rattle.sc_lower.proofs.Rows.{out, store}

-- a part of a head, if it is there: where it stores, and what
abbrev pub HeadPart : Type 0
HeadPart = Option (Shape × Shape)

abbrev pub part_in : HeadPart → Option TypedSimple
part_in None = None
part_in (Some x) = part 1 x.0 x.1

-- `for (first; cond; next) { body }`, and what follows it
pub record Looped : Type 0 where
  pub first : HeadPart
  pub cond : Shape
  pub next : HeadPart
  pub body : Lines
  pub following : Lines

abbrev pub looped : Looped → List TypedStmt
looped l =
    on_line 1 (layer.For (part_in l.first) (expr l.cond) (part_in l.next) (stmts l.body)) ∷ stmts l.following

-- `int g;`, and `int main(void)` with these statements
abbrev pub main_of : Looped → TypedFunction
main_of l =
    record {
      name = codes "main";
      params = [];
      locals = [];
      result = Some ty.Int;
      body = looped l;
      close_line = 1;
    }

abbrev pub program_of : Looped → ProgramTree
program_of l = record {
  interfaces = only_main;
  sections = record { structs = []; globals = global_of ty.Int ∷ []; functions = main_of l ∷ [] } ∷ [];
}

-- what its statements do, as it computes
module _ (arith : Arith) (here : Here) (calls : Calls) where
  abbrev pub part_acts : HeadPart → Acts
  part_acts None = leave Next
  part_acts (Some x) = assigns here (way arith [] here 0 x.0) (way arith [] here 0 x.1) 1

  part_act : (x : HeadPart) → part_does arith [] here 0 calls (part_in x) ≡ part_acts x
  part_act None = refl
  part_act (Some x) = λ i. assigns here (way_is arith [] here 0 x.0 i) (way_is arith [] here 0 x.1 i) 1

  abbrev pub looped_do : Looped → List Acts
  looped_do l =
      (λ a s. follow in_order (part_acts l.first a s)
      (loop (tests here (way arith [] here 0 l.cond) 1) (all_do (lines_do arith [] here 0 calls l.body))
      (part_acts l.next))) ∷ lines_do arith [] here 0 calls l.following

  looped_act : (l : Looped) → map (stmt_acts arith [] here 0 calls) (looped l) ≡ looped_do l
  looped_act l = λ i.
      (stmt_at _ _ (kind_acts arith [] here 0 calls) stmt_step 1
      (layer.For (part_in l.first) (expr l.cond) (part_in l.next) (stmts l.body))
      ∙ (λ j a s. follow in_order (part_act l.first j a s)
      (loop (tests here (way_is arith [] here 0 l.cond j) 1) (all_do (lines_act arith [] here 0 calls l.body j))
      (part_act l.next j)))) i ∷ lines_act arith [] here 0 calls l.following i

module _ (l : Looped) where
  abbrev pub quick : Function
  quick = record {
    cells = [];
    frame_size = frame_bound [] (nodes (main_of l));
    does = λ by here s. and_then (all_do (looped_do c_arith here by l) tt s)
        (λ left s. closed left.exit true (here.comp == 0 && bytes_eq (codes "main") main_name) 1 here s);
  }

  quick_is : function_of c_arith 0 [] (main_of l) ≡ quick
  quick_is = λ i. record {
    cells = [];
    frame_size = frame_bound [] (nodes (main_of l));
    does = λ by here s. and_then (all_do (looped_act c_arith here by l i) tt s)
        (λ left s. closed left.exit true (here.comp == 0 && bytes_eq (codes "main") main_name) 1 here s);
  }

  abbrev pub denotations : Function → Denotations
  denotations f = record {
    interfaces = only_main;
    functions = (f ∷ []) ∷ [];
    entered = (denotations_of c_arith (program_of l)).entered;
  }

  abbrev pub means : Function → ℕ → SourceRun
  means f turns =
      stopped_at 10 (run_by (denotations f) (run_step (denotations f)) (globals_of (program_of l).sections) []
      turns).behaviour

  pub meaning_is : (turns : ℕ) → meaning (program_of l) [] turns 10 ≡ means quick turns
  meaning_is turns = ap (λ f. means f turns) quick_is

-- its code, as it computes
abbrev pub part_form : HeadPart → Parts
part_form None = just []
part_form (Some x) = assign (form [] 0 x.0) (form [] 0 x.1)

part_form_is : (x : HeadPart) → part_code [] 0 (part_in x) ≡ part_form x
part_form_is None = refl
part_form_is (Some x) = λ i. assign (form_is [] 0 x.0 i) (form_is [] 0 x.1 i)

abbrev pub looped_code : Looped → List Parts
looped_code l =
    both (part_form l.first) (cycle (test (form [] 0 l.cond)) (in_turn (lines_code [] 0 l.body)) (part_form l.next)) ∷
    lines_code [] 0 l.following

looped_code_is : (l : Looped) → map (stmt_code [] 0) (looped l) ≡ looped_code l
looped_code_is l = λ i.
    (stmt_at _ _ (kind_step [] 0) (λ s. s.kind) 1
    (layer.For (part_in l.first) (expr l.cond) (part_in l.next) (stmts l.body))
    ∙ (λ j. both (part_form_is l.first j) (cycle (test (form_is [] 0 l.cond j)) (in_turn (lines_are [] 0 l.body j))
    (part_form_is l.next j)))) i ∷ lines_are [] 0 l.following i

module _ (l : Looped) (x : TacShape) where
  -- these are the statements of its code
  abbrev pub Emits : Type 0
  Emits = (both (just []) (in_turn (looped_code l)) 0).code ≡ tac_stmts x

  abbrev pub quick_code : Function
  quick_code = record {
    cells = [];
    frame_size = frame_bound [] (nodes (main_of l));
    does = λ by here s. and_then (all_do (rows Codes (code_step c_arith here by) x) no_temps s)
        (λ left s. closed left.exit true (same_entry Main (entry_of only_main 0 (codes "main"))) 0 here s);
  }

  quick_code_is : Emits → code_function c_arith (lowered_function only_main 0 [] (main_of l)) ≡ quick_code
  quick_code_is h = λ i. record {
    cells = [];
    frame_size = frame_bound [] (nodes (main_of l));
    does = λ by here s. and_then (all_do ((ap (λ parts. map (stmt_does c_arith here by)
        (both (just []) (in_turn parts) 0).code) (looped_code_is l)
        ∙ ap (map (stmt_does c_arith here by)) h ∙ rows_are Codes (code_step c_arith here by) x) i) no_temps s)
        (λ left s. closed left.exit true (same_entry Main (entry_of only_main 0 (codes "main"))) 0 here s);
  }

  abbrev pub code_in : Function → Denotations
  code_in f = record {
    interfaces = only_main;
    functions = (f ∷ []) ∷ [];
    entered = (code_denotations c_arith (lowered_program (program_of l))).entered;
  }

  abbrev pub code_means : Function → ℕ → SourceRun
  code_means f turns =
      stopped_at 10 (run_by (code_in f) (run_step (code_in f)) (code_globals (lowered_program (program_of l)).sections)
      [] turns).behaviour

  pub code_meaning_is : Emits → (turns : ℕ) →
      code_meaning (lowered_program (program_of l)) [] turns 10 ≡ code_means quick_code turns
  code_meaning_is h turns = ap (λ f. code_means f turns) (quick_code_is h)

-- the code and the program come to this
abbrev pub LoopMeans : Looped → ℕ → SourceRun → Type 0
LoopMeans l turns run =
    (code_meaning (lowered_program (program_of l)) [] turns 10 ≡ run) × (meaning (program_of l) [] turns 10 ≡ run)

abbrev pub global_fetched : ℕ → TacShape → TacShape
global_fetched dest rest = Line (tac.GlobalPlace dest 0) (Line (tac.Load dest dest false) rest)

abbrev pub global_stored : ℕ → ℕ → TacShape → TacShape
global_stored at value rest = Line (tac.GlobalPlace at 0) (store at value rest)

-- control leaves the loop where this is 0
abbrev pub tested : ℕ → TacShape
tested t = Fork t Done (Line tac.Break Done) Done

-- `g = g + 1`, on the right
abbrev pub one_more : Shape
one_more = plus (global 0) (lit 1)

abbrev pub with_one_more : ℕ → TacShape
with_one_more t =
    global_fetched t (word (suc t) 1 (int_op op.Add (suc (suc t)) t (suc t) (
    global_stored (suc (suc (suc t))) (suc (suc t)) Done)))

abbrev pub given_back : Lines
given_back = ReturnValueLine 1 (global 0) NoLine

-- `for (; g < 2; g = g + 1) output(g); return g;`
abbrev pub without_first : Looped
without_first = record {
  first = None;
  cond = Two ty.Int op.Less (global 0) (lit 2);
  next = Some (global 0, one_more);
  body = out (global 0) NoLine;
  following = given_back;
}

abbrev pub without_first_code : TacShape
without_first_code =
    Cycle (global_fetched 0 (word 1 2 (int_op op.Less 2 0 1 (tested 2))))
    (global_fetched 3 (output 3 Done))
    (with_one_more 4)
    (global_fetched 8 (give 8))

pub without_first_emits : Emits without_first without_first_code
unfolding roll-TacStmt denote.Hole.Carrier.roll
without_first_emits = refl

pub without_first_mean : LoopMeans without_first 2 (record { trace = Out 0 0 ∷ Out 0 1 ∷ End 0 2 ∷ []; end = Ended })
without_first_mean =
    (code_meaning_is without_first without_first_code without_first_emits 2, meaning_is without_first 2)

-- `for (g = 1; g < 3;) { output(g); g = g + 1; } return g;`
abbrev pub without_next : Looped
without_next = record {
  first = Some (global 0, lit 1);
  cond = Two ty.Int op.Less (global 0) (lit 3);
  next = None;
  body = out (global 0) (AssignLine 1 (global 0) one_more NoLine);
  following = given_back;
}

abbrev pub without_next_code : TacShape
without_next_code =
    word 0 1 (global_stored 1 0 (
    Cycle (global_fetched 2 (word 3 3 (int_op op.Less 4 2 3 (tested 4))))
    (global_fetched 5 (output 5 (with_one_more 6)))
    Done
    (global_fetched 10 (give 10))))

pub without_next_emits : Emits without_next without_next_code
unfolding roll-TacStmt denote.Hole.Carrier.roll
without_next_emits = refl

pub without_next_mean : LoopMeans without_next 2 (record { trace = Out 0 1 ∷ Out 0 2 ∷ End 0 3 ∷ []; end = Ended })
without_next_mean = (code_meaning_is without_next without_next_code without_next_emits 2, meaning_is without_next 2)

-- `for (;;) { if (g == 2) break; output(g); g = g + 1; } return g;`, where the condition is the literal 1
abbrev pub without_parts : Looped
without_parts = record {
  first = None;
  cond = lit 1;
  next = None;
  body = IfLine 1 (Two ty.Int op.Equal (global 0) (lit 2)) (BreakLine 1 NoLine) NoLine
      (out (global 0) (AssignLine 1 (global 0) one_more NoLine));
  following = given_back;
}

abbrev pub without_parts_code : TacShape
without_parts_code =
    Cycle (word 0 1 (tested 0))
    (global_fetched 1 (word 2 2 (int_op op.Equal 3 1 2 (
    Fork 3 (Line tac.Break Done) Done (global_fetched 4 (output 4 (with_one_more 5)))))))
    Done
    (global_fetched 9 (give 9))

pub without_parts_emits : Emits without_parts without_parts_code
unfolding roll-TacStmt denote.Hole.Carrier.roll
without_parts_emits = refl

pub without_parts_mean : LoopMeans without_parts 3 (record { trace = Out 0 0 ∷ Out 0 1 ∷ End 0 2 ∷ []; end = Ended })
without_parts_mean =
    (code_meaning_is without_parts without_parts_code without_parts_emits 3, meaning_is without_parts 3)
