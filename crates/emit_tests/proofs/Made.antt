-- The function that the tests of operators make is one.
use Rattle.sc_tac.specs.Prelude.{IsFunction, entry_weight, has_elements, has_operands, has_words, names_own_object}
use Rattle.sc_tac.specs.Prelude.{names_own_temps, passes_few, returns_result, stray_break, stray_continue}
use Rattle.std.proofs.Common.{◌+◌, ◌*◌, ◌<◌, true, Some, refl, sym, subst, arith}
use Rattle.sc_base.specs.declared.op.BinaryOp.{BinaryOp}
use Rattle.sc_event.specs.declared.interface.Scalar.{Scalar}
use Rattle.sc_tac.specs.declared.stmt.TacOp.TheVariants as tacop
use Rattle.sc_tac.specs.declared.stmt.TacStmt.TheOpen as tac
use Rattle.sc_tac.specs.declared.stmt.TacStmt.{roll-TacStmt}
use Rattle.sc_tac.proofs.Shapes.{Shape, Done, Line, Cycle}
use Rattle.sc_tac.proofs.Plans.{weight_is, everywhere_is, has_none_is, all_assigned_is}
use Rattle.emit_tests.specs.Made.{operating}

abbrev shape : BinaryOp → Scalar → Shape
shape o scalar = Cycle Done (Line (tac.Input (Some 0)) (Line (tac.Input (Some 1))
    (Line (tac.Op 2 (tacop.Binary o scalar) 0 (Some 1)) (Line (tac.Copy 3 2) (Line (tac.Output 3) Done))))) Done Done

pub is_function : (o : BinaryOp) (scalar : Scalar) → IsFunction (operating o scalar)
unfolding roll-TacStmt denote.Hole.Carrier.roll
is_function o scalar = record {
  few_params = omega arith;
  few_nodes = omega arith;
  few_temps = omega arith;
  light = subst (λ w. entry_weight 0 + w < 24 * 4) (sym (weight_is (shape o scalar))) (omega arith);
  params_stored = omega arith;
  words_enter = refl;
  own_temps = everywhere_is (names_own_temps 4) (shape o scalar);
  own_objects = everywhere_is (names_own_object 0) (shape o scalar);
  words = everywhere_is has_words (shape o scalar);
  elements = everywhere_is has_elements (shape o scalar);
  operands = everywhere_is has_operands (shape o scalar);
  few_arguments = everywhere_is passes_few (shape o scalar);
  results_returned = everywhere_is (returns_result true) (shape o scalar);
  breaks_in_loops = has_none_is stray_break (shape o scalar);
  continues_in_bodies = has_none_is stray_continue (shape o scalar);
  assigned_first = all_assigned_is 4 (shape o scalar);
}
