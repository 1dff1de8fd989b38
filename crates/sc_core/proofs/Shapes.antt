-- Trees by shapes, on which folds compute: what an expression gives and what statements do, as recursions that the
-- meaning equals.
use Rattle.sc_core.proofs.Common.{Acts, Arith, BinaryOp, Break, CallTarget, Calls, Continue, Here, List, Meant, Next}
use Rattle.sc_core.proofs.Common.{None, Option, Return, Some, Ty, TypedExpr, TypedExpr-F, TypedKind-F, TypedStmt}
use Rattle.sc_core.proofs.Common.{TypedStruct, UnaryOp, Ways, [], all_do, and_then, ap, assign, assign_call, call}
use Rattle.sc_core.proofs.Common.{call_statement, choose, evaluated, fold-TypedExpr, follow, in_order, leave, loop, map}
use Rattle.sc_core.proofs.Common.{meant, meant_step, refl, stmt_does, term_step, test, ways, ℕ, ◌∙◌, ◌∷◌, ◌≡◌}
use Rattle.sc_core.specs.declared.expr.TypedKind.TheOpen as term
use Rattle.sc_core.specs.declared.expr.VarRef.{VarRef}
use Rattle.sc_core.specs.declared.expr.TypedCall.{TypedCall}
use Rattle.sc_core.specs.declared.stmt.TypedStmtKind.TheOpen as layer
use Rattle.sc_core.specs.declared.stmt.TypedSimple.{TypedSimple}
use Rattle.sc_core.specs.declared.stmt.TypedSimpleKind.TheVariants as simple
use Rattle.sc_core.specs.declared.value.Want.TheVariants as want
use Rattle.sc_core.proofs.Layers.{typed, expr_at, on_line, next_line}

-- an expression
pub data Shape : Type 0 where
  Lit : Ty → ℕ → Shape
  Var : Ty → VarRef → Shape
  One : Ty → UnaryOp → Shape → Shape
  Two : Ty → BinaryOp → Shape → Shape → Shape
  At : Ty → Shape → Shape → Shape
  Dot : Ty → Shape → ℕ → Shape
  Arrow : Ty → Shape → ℕ → Shape
  Star : Ty → Shape → Shape
  Amp : Ty → Shape → Shape

abbrev pub expr : Shape → TypedExpr
expr (Lit ty word) = typed ty (term.Literal word)
expr (Var ty v) = typed ty (term.Variable v)
expr (One ty o a) = typed ty (term.Unary o (expr a))
expr (Two ty o a b) = typed ty (term.Binary o (expr a) (expr b))
expr (At ty a b) = typed ty (term.Index (expr a) (expr b))
expr (Dot ty a offset) = typed ty (term.Member (expr a) offset)
expr (Arrow ty a offset) = typed ty (term.Arrow (expr a) offset)
expr (Star ty a) = typed ty (term.Deref (expr a))
expr (Amp ty a) = typed ty (term.Address (expr a))

-- statements in order: each holds those that follow
pub data Lines : Type 0 where
  NoLine : Lines
  EmptyLine : ℕ → Lines → Lines
  AssignLine : ℕ → Shape → Shape → Lines → Lines
  AssignCallLine : ℕ → Shape → CallTarget → List Shape → Lines → Lines
  CallLine : ℕ → CallTarget → List Shape → Lines → Lines
  IfLine : ℕ → Shape → Lines → Lines → Lines → Lines
  WhileLine : ℕ → Shape → Lines → Lines → Lines
  ForLine : ℕ → Shape → Shape → Shape → Shape → Shape → Lines → Lines → Lines
  BreakLine : ℕ → Lines → Lines
  ContinueLine : ℕ → Lines → Lines
  ReturnLine : ℕ → Lines → Lines
  ReturnValueLine : ℕ → Shape → Lines → Lines
  ReturnCallLine : ℕ → CallTarget → List Shape → Lines → Lines

abbrev pub call_of : CallTarget → List Shape → TypedCall
call_of target args = record { target = target; args = map expr args }

abbrev pub part : ℕ → Shape → Shape → Option TypedSimple
part line place e = Some (record { line = line; kind = simple.Assign (expr place) (expr e) })

abbrev pub stmts : Lines → List TypedStmt
stmts NoLine = []
stmts (EmptyLine line rest) = on_line line layer.Empty ∷ stmts rest
stmts (AssignLine line place e rest) = on_line line (layer.Assign (expr place) (expr e)) ∷ stmts rest
stmts (AssignCallLine line place target args rest) = on_line line
    (layer.AssignCall (expr place) (call_of target args)) ∷ stmts rest
stmts (CallLine line target args rest) = on_line line (layer.Call (call_of target args)) ∷ stmts rest
stmts (IfLine line cond x y rest) = on_line line (layer.If (expr cond) (stmts x) (stmts y)) ∷ stmts rest
stmts (WhileLine line cond x rest) = on_line line (layer.While (expr cond) (stmts x)) ∷ stmts rest
stmts (ForLine line p e cond q f x rest) = on_line line
    (layer.For (part line p e) (expr cond) (part line q f) (stmts x)) ∷ stmts rest
stmts (BreakLine line rest) = on_line line layer.Break ∷ stmts rest
stmts (ContinueLine line rest) = on_line line layer.Continue ∷ stmts rest
stmts (ReturnLine line rest) = on_line line layer.Return ∷ stmts rest
stmts (ReturnValueLine line e rest) = on_line line (layer.ReturnValue (expr e)) ∷ stmts rest
stmts (ReturnCallLine line target args rest) = on_line line (layer.ReturnCall (call_of target args)) ∷ stmts rest

-- folds of expressions
module _ (A B : Type 0) (kind : TypedKind-F A B → A) (of : TypedExpr-F A B → B) where
  abbrev built : Ty → TypedKind-F A B → B
  built ty k = of (record { ty = ty; kind = kind k })

  abbrev pub shape_fold : Shape → B
  shape_fold (Lit ty word) = built ty (term.Literal word)
  shape_fold (Var ty v) = built ty (term.Variable v)
  shape_fold (One ty o a) = built ty (term.Unary o (shape_fold a))
  shape_fold (Two ty o a b) = built ty (term.Binary o (shape_fold a) (shape_fold b))
  shape_fold (At ty a b) = built ty (term.Index (shape_fold a) (shape_fold b))
  shape_fold (Dot ty a offset) = built ty (term.Member (shape_fold a) offset)
  shape_fold (Arrow ty a offset) = built ty (term.Arrow (shape_fold a) offset)
  shape_fold (Star ty a) = built ty (term.Deref (shape_fold a))
  shape_fold (Amp ty a) = built ty (term.Address (shape_fold a))

  pub shape_fold_is : (a : Shape) → fold-TypedExpr A B kind of (expr a) ≡ shape_fold a
  shape_fold_is (Lit ty word) = expr_at A B kind of ty _
  shape_fold_is (Var ty v) = expr_at A B kind of ty _
  shape_fold_is (One ty o a) = expr_at A B kind of ty _ ∙ (λ j. built ty (term.Unary o (shape_fold_is a j)))
  shape_fold_is (Two ty o a b) =
      expr_at A B kind of ty _ ∙ (λ j. built ty (term.Binary o (shape_fold_is a j) (shape_fold_is b j)))
  shape_fold_is (At ty a b) =
      expr_at A B kind of ty _ ∙ (λ j. built ty (term.Index (shape_fold_is a j) (shape_fold_is b j)))
  shape_fold_is (Dot ty a offset) = expr_at A B kind of ty _ ∙ (λ j. built ty (term.Member (shape_fold_is a j) offset))
  shape_fold_is (Arrow ty a offset) = expr_at A B kind of ty _ ∙ (λ j. built ty (term.Arrow (shape_fold_is a j) offset))
  shape_fold_is (Star ty a) = expr_at A B kind of ty _ ∙ (λ j. built ty (term.Deref (shape_fold_is a j)))
  shape_fold_is (Amp ty a) = expr_at A B kind of ty _ ∙ (λ j. built ty (term.Address (shape_fold_is a j)))

  pub shapes_are : (args : List Shape) → map (fold-TypedExpr A B kind of) (map expr args) ≡ map shape_fold args
  shapes_are [] = refl
  shapes_are (a ∷ args) = λ i. shape_fold_is a i ∷ shapes_are args i

module _ (arith : Arith) (structs : List TypedStruct) (here : Here) (params : ℕ) where
  abbrev pub sense : Shape → Meant
  sense = shape_fold (Ty → Ways) Meant (term_step arith structs here params) meant_step

  abbrev pub way : Shape → Ways
  way a = (sense a).way

  pub sense_is : (a : Shape) → meant arith structs here params (expr a) ≡ sense a
  sense_is = shape_fold_is (Ty → Ways) Meant (term_step arith structs here params) meant_step

  pub way_is : (a : Shape) → ways arith structs here params (expr a) ≡ way a
  way_is a = ap (λ m. m.way) (sense_is a)

  pub ways_are : (args : List Shape) → map (ways arith structs here params) (map expr args) ≡ map way args
  ways_are [] = refl
  ways_are (a ∷ args) = λ i. way_is a i ∷ ways_are args i

  module _ (calls : Calls) where
    abbrev pub lines_do : Lines → List Acts
    lines_do NoLine = []
    lines_do (EmptyLine line rest) = leave Next ∷ lines_do rest
    lines_do (AssignLine line place e rest) = assign here (way place) (way e) line ∷ lines_do rest
    lines_do (AssignCallLine line place target args rest) =
        assign_call here calls (way place) target (map way args) line ∷ lines_do rest
    lines_do (CallLine line target args rest) = call_statement here calls target (map way args) line ∷ lines_do rest
    lines_do (IfLine line cond x y rest) = (λ a s. and_then (evaluated here want.Value (way cond) line s)
        (λ v s. choose v (all_do (lines_do x) a s) (all_do (lines_do y) a s))) ∷ lines_do rest
    lines_do (WhileLine line cond x rest) = loop (test here (way cond) line) (all_do (lines_do x)) (leave Next) ∷
        lines_do rest
    lines_do (ForLine line p e cond q f x rest) = (λ a s. follow in_order (assign here (way p) (way e) line a s)
        (loop (test here (way cond) line) (all_do (lines_do x)) (assign here (way q) (way f) line))) ∷ lines_do rest
    lines_do (BreakLine line rest) = leave Break ∷ lines_do rest
    lines_do (ContinueLine line rest) = leave Continue ∷ lines_do rest
    lines_do (ReturnLine line rest) = leave (Return None) ∷ lines_do rest
    lines_do (ReturnValueLine line e rest) =
        (λ a s. and_then (evaluated here want.Value (way e) line s) (λ v s. leave (Return (Some v)) a s)) ∷
        lines_do rest
    lines_do (ReturnCallLine line target args rest) =
        (λ a s. and_then (call here calls target (map way args) line s) (λ result s. leave (Return result) a s)) ∷
        lines_do rest

    pub lines_are : (x : Lines) → map (stmt_does arith structs here params calls) (stmts x) ≡ lines_do x
    lines_are NoLine = refl
    lines_are (EmptyLine line rest) = next_line _ _ _ _ refl (lines_are rest)
    lines_are (AssignLine line place e rest) =
        next_line _ _ _ _ (λ j. assign here (way_is place j) (way_is e j) line) (lines_are rest)
    lines_are (AssignCallLine line place target args rest) =
        next_line _ _ _ _ (λ j. assign_call here calls (way_is place j) target (ways_are args j) line) (lines_are rest)
    lines_are (CallLine line target args rest) =
        next_line _ _ _ _ (λ j. call_statement here calls target (ways_are args j) line) (lines_are rest)
    lines_are (IfLine line cond x y rest) =
        next_line _ _ _ _ (λ j a s. and_then (evaluated here want.Value (way_is cond j) line s)
        (λ v s. choose v (all_do (lines_are x j) a s) (all_do (lines_are y j) a s))) (lines_are rest)
    lines_are (WhileLine line cond x rest) = next_line _ _ _ _
        (λ j. loop (test here (way_is cond j) line) (all_do (lines_are x j)) (leave Next)) (lines_are rest)
    lines_are (ForLine line p e cond q f x rest) =
        next_line _ _ _ _ (λ j a s. follow in_order (assign here (way_is p j) (way_is e j) line a s)
        (loop (test here (way_is cond j) line) (all_do (lines_are x j)) (assign here (way_is q j) (way_is f j) line)))
        (lines_are rest)
    lines_are (BreakLine line rest) = next_line _ _ _ _ refl (lines_are rest)
    lines_are (ContinueLine line rest) = next_line _ _ _ _ refl (lines_are rest)
    lines_are (ReturnLine line rest) = next_line _ _ _ _ refl (lines_are rest)
    lines_are (ReturnValueLine line e rest) = next_line _ _ _ _
        (λ j a s. and_then (evaluated here want.Value (way_is e j) line s) (λ v s. leave (Return (Some v)) a s))
        (lines_are rest)
    lines_are (ReturnCallLine line target args rest) = next_line _ _ _ _
        (λ j a s. and_then (call here calls target (ways_are args j) line s) (λ result s. leave (Return result) a s))
        (lines_are rest)
