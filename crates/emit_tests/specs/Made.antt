-- The function that the tests of operators make.
use Rattle.std.specs.Prelude.{true, List, [], ◌∷◌, Some, codes}
use Rattle.sc_base.specs.declared.op.BinaryOp.{BinaryOp}
use Rattle.sc_event.specs.declared.interface.Scalar.{Scalar}
use Rattle.sc_event.specs.declared.row.Entry.TheVariants.{Main}
use Rattle.sc_tac.specs.declared.function.TacFnTree.{TacFnTree}
use Rattle.sc_tac.specs.declared.stmt.TacOp.TheVariants as tacop
use Rattle.sc_tac.specs.declared.stmt.TacStmt.{TacStmt}
use Rattle.sc_tac.specs.declared.stmt.TacStmt

-- two inputs, what an operator gives on them, and that copied and output
abbrev pub operation : BinaryOp → Scalar → List TacStmt
operation o scalar =
    TacStmt.Input (Some 0) ∷ TacStmt.Input (Some 1) ∷ TacStmt.Op 2 (tacop.Binary o scalar) 0 (Some 1) ∷
    TacStmt.Copy 3 2 ∷ TacStmt.Output 3 ∷ []

-- the same again and again
abbrev pub operations : BinaryOp → Scalar → List TacStmt
operations o scalar = TacStmt.Loop [] (operation o scalar) [] ∷ []

abbrev pub operating : BinaryOp → Scalar → TacFnTree
operating o scalar = record {
  comp = 0;
  name = codes "main";
  entry = Some Main;
  params = 0;
  result = true;
  temps = 4;
  objects = [];
  nodes = 4;
  body = operations o scalar;
}
