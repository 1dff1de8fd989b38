-- Folds of trees by shapes: nodes compute.
use Rattle.sc_core.proofs.Common.{List, [], expr_nodes, map, refl, stmt_nodes, suc, term_nodes, total, ℕ, ◌+◌, ◌∷◌, ◌≡◌}
use Rattle.sc_core.proofs.Layers.{next_line}
use Rattle.sc_core.proofs.Shapes.{Shape, expr, Lines, NoLine, EmptyLine, AssignLine, AssignCallLine, CallLine, IfLine}
use Rattle.sc_core.proofs.Shapes.{WhileLine, ForLine, BreakLine, ContinueLine, ReturnLine, ReturnValueLine}
use Rattle.sc_core.proofs.Shapes.{ReturnCallLine, stmts, shape_fold, shape_fold_is, shapes_are}

abbrev pub shape_nodes : Shape → ℕ
shape_nodes = shape_fold ℕ ℕ term_nodes (λ e. e.kind)

pub nodes_is : (a : Shape) → expr_nodes (expr a) ≡ shape_nodes a
nodes_is = shape_fold_is ℕ ℕ _ _

nodes_are : (args : List Shape) → map expr_nodes (map expr args) ≡ map shape_nodes args
nodes_are = shapes_are ℕ ℕ _ _

abbrev pub lines_nodes : Lines → List ℕ
lines_nodes NoLine = []
lines_nodes (EmptyLine line rest) = 1 ∷ lines_nodes rest
lines_nodes (AssignLine line p e rest) = suc ((shape_nodes p) + (shape_nodes e)) ∷ lines_nodes rest
lines_nodes (AssignCallLine line p target args rest) =
    suc ((shape_nodes p) + total (map shape_nodes args)) ∷ lines_nodes rest
lines_nodes (CallLine line target args rest) = suc (total (map shape_nodes args)) ∷ lines_nodes rest
lines_nodes (IfLine line c x y rest) = suc ((shape_nodes c) + total (lines_nodes x) + total (lines_nodes y)) ∷
    lines_nodes rest
lines_nodes (WhileLine line c x rest) = suc ((shape_nodes c) + total (lines_nodes x)) ∷ lines_nodes rest
lines_nodes (ForLine line p e c q f x rest) = suc (suc ((shape_nodes p) + (shape_nodes e)) + (shape_nodes c) + suc
    ((shape_nodes q) + (shape_nodes f)) + total (lines_nodes x)) ∷ lines_nodes rest
lines_nodes (BreakLine line rest) = 1 ∷ lines_nodes rest
lines_nodes (ContinueLine line rest) = 1 ∷ lines_nodes rest
lines_nodes (ReturnLine line rest) = 1 ∷ lines_nodes rest
lines_nodes (ReturnValueLine line e rest) = suc (shape_nodes e) ∷ lines_nodes rest
lines_nodes (ReturnCallLine line target args rest) = suc (total (map shape_nodes args)) ∷ lines_nodes rest

pub lines_nodes_are : (x : Lines) → map stmt_nodes (stmts x) ≡ lines_nodes x
lines_nodes_are NoLine = refl
lines_nodes_are (EmptyLine line rest) = next_line _ _ _ _ refl (lines_nodes_are rest)
lines_nodes_are (AssignLine line p e rest) =
    next_line _ _ _ _ (λ j. suc ((nodes_is p j) + (nodes_is e j))) (lines_nodes_are rest)
lines_nodes_are (AssignCallLine line p target args rest) =
    next_line _ _ _ _ (λ j. suc ((nodes_is p j) + total (nodes_are args j))) (lines_nodes_are rest)
lines_nodes_are (CallLine line target args rest) =
    next_line _ _ _ _ (λ j. suc (total (nodes_are args j))) (lines_nodes_are rest)
lines_nodes_are (IfLine line c x y rest) = next_line _ _ _ _
    (λ j. suc ((nodes_is c j) + total (lines_nodes_are x j) + total (lines_nodes_are y j))) (lines_nodes_are rest)
lines_nodes_are (WhileLine line c x rest) =
    next_line _ _ _ _ (λ j. suc ((nodes_is c j) + total (lines_nodes_are x j))) (lines_nodes_are rest)
lines_nodes_are (ForLine line p e c q f x rest) = next_line _ _ _ _ (λ j. suc (suc ((nodes_is p j) + (nodes_is e j)) +
    (nodes_is c j) + suc ((nodes_is q j) + (nodes_is f j)) + total (lines_nodes_are x j))) (lines_nodes_are rest)
lines_nodes_are (BreakLine line rest) = next_line _ _ _ _ refl (lines_nodes_are rest)
lines_nodes_are (ContinueLine line rest) = next_line _ _ _ _ refl (lines_nodes_are rest)
lines_nodes_are (ReturnLine line rest) = next_line _ _ _ _ refl (lines_nodes_are rest)
lines_nodes_are (ReturnValueLine line e rest) = next_line _ _ _ _ (λ j. suc (nodes_is e j)) (lines_nodes_are rest)
lines_nodes_are (ReturnCallLine line target args rest) =
    next_line _ _ _ _ (λ j. suc (total (nodes_are args j))) (lines_nodes_are rest)
