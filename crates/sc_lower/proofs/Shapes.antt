-- The code of trees by shapes, on which it computes.
use Rattle.sc_lower.proofs.Common.{Amp, Arrow, AssignCallLine, AssignLine, At, BreakLine, CallLine, ContinueLine, Dot}
use Rattle.sc_lower.proofs.Common.{EmptyLine, ForLine, Forms, IfLine, Lines, List, Lit, Lowered, NoLine, None, One}
use Rattle.sc_lower.proofs.Common.{Parts, ReturnCallLine, ReturnLine, ReturnValueLine, Shape, Star, Two, TypedStruct}
use Rattle.sc_lower.proofs.Common.{Var, WhileLine, [], after, ap, assign, both, call_for, call_of, call_statement}
use Rattle.sc_lower.proofs.Common.{cycle, expr, expr_at, fork, forms, in_turn, just, kind_step, lowered, lowered_step}
use Rattle.sc_lower.proofs.Common.{map, part, refl, return_value, stmt_at, stmt_code, stmts, store_at, term_step, test}
use Rattle.sc_lower.proofs.Common.{ℕ, ◌∙◌, ◌∷◌, ◌≡◌}
use Rattle.sc_core.specs.declared.expr.TypedKind.TheOpen as term
use Rattle.sc_core.specs.declared.stmt.TypedStmtKind.TheOpen as layer
use Rattle.sc_core.specs.declared.value.Want.TheVariants as want
use Rattle.sc_tac.specs.declared.stmt.TacStmt.TheVariants as emit

module _ (structs : List TypedStruct) (params : ℕ) where
  abbrev pub low : Shape → Lowered
  low (Lit ty word) = record { ty = ty; form = term_step structs params (term.Literal word) ty }
  low (Var ty v) = record { ty = ty; form = term_step structs params (term.Variable v) ty }
  low (One ty o a) = record { ty = ty; form = term_step structs params (term.Unary o (low a)) ty }
  low (Two ty o a b) = record { ty = ty; form = term_step structs params (term.Binary o (low a) (low b)) ty }
  low (At ty a b) = record { ty = ty; form = term_step structs params (term.Index (low a) (low b)) ty }
  low (Dot ty a offset) = record { ty = ty; form = term_step structs params (term.Member (low a) offset) ty }
  low (Arrow ty a offset) = record { ty = ty; form = term_step structs params (term.Arrow (low a) offset) ty }
  low (Star ty a) = record { ty = ty; form = term_step structs params (term.Deref (low a)) ty }
  low (Amp ty a) = record { ty = ty; form = term_step structs params (term.Address (low a)) ty }

  abbrev pub form : Shape → Forms
  form a = (low a).form

  pub low_is : (a : Shape) → lowered structs params (expr a) ≡ low a
  low_is (Lit ty word) = expr_at _ _ (term_step structs params) lowered_step ty (term.Literal word)
  low_is (Var ty v) = expr_at _ _ (term_step structs params) lowered_step ty (term.Variable v)
  low_is (One ty o a) =
      expr_at _ _ (term_step structs params) lowered_step ty (term.Unary o (expr a))
      ∙ ap (λ m. record { ty = ty; form = term_step structs params (term.Unary o m) ty }) (low_is a)
  low_is (Two ty o a b) =
      expr_at _ _ (term_step structs params) lowered_step ty (term.Binary o (expr a) (expr b))
      ∙ (λ i. record { ty = ty; form = term_step structs params (term.Binary o (low_is a i) (low_is b i)) ty })
  low_is (At ty a b) =
      expr_at _ _ (term_step structs params) lowered_step ty (term.Index (expr a) (expr b))
      ∙ (λ i. record { ty = ty; form = term_step structs params (term.Index (low_is a i) (low_is b i)) ty })
  low_is (Dot ty a offset) =
      expr_at _ _ (term_step structs params) lowered_step ty (term.Member (expr a) offset)
      ∙ ap (λ m. record { ty = ty; form = term_step structs params (term.Member m offset) ty }) (low_is a)
  low_is (Arrow ty a offset) =
      expr_at _ _ (term_step structs params) lowered_step ty (term.Arrow (expr a) offset)
      ∙ ap (λ m. record { ty = ty; form = term_step structs params (term.Arrow m offset) ty }) (low_is a)
  low_is (Star ty a) =
      expr_at _ _ (term_step structs params) lowered_step ty (term.Deref (expr a))
      ∙ ap (λ m. record { ty = ty; form = term_step structs params (term.Deref m) ty }) (low_is a)
  low_is (Amp ty a) =
      expr_at _ _ (term_step structs params) lowered_step ty (term.Address (expr a))
      ∙ ap (λ m. record { ty = ty; form = term_step structs params (term.Address m) ty }) (low_is a)

  pub form_is : (a : Shape) → forms structs params (expr a) ≡ form a
  form_is a = ap (λ m. m.form) (low_is a)

  pub forms_are : (args : List Shape) → map (forms structs params) (map expr args) ≡ map form args
  forms_are [] = refl
  forms_are (a ∷ args) = λ i. form_is a i ∷ forms_are args i

  abbrev pub lines_code : Lines → List Parts
  lines_code NoLine = []
  lines_code (EmptyLine line rest) = just [] ∷ lines_code rest
  lines_code (AssignLine line place e rest) = assign (form place) (form e) ∷ lines_code rest
  lines_code (AssignCallLine line place target args rest) =
      call_for target (map form args) (store_at (form place)) ∷ lines_code rest
  lines_code (CallLine line target args rest) = call_statement target (map form args) ∷ lines_code rest
  lines_code (IfLine line cond x y rest) =
      after (form cond want.Value) (fork (in_turn (lines_code x)) (in_turn (lines_code y))) ∷ lines_code rest
  lines_code (WhileLine line cond x rest) =
      cycle (test (form cond)) (in_turn (lines_code x)) (just []) ∷ lines_code rest
  lines_code (ForLine line p e cond q f x rest) =
      both (assign (form p) (form e)) (cycle (test (form cond)) (in_turn (lines_code x)) (assign (form q) (form f))) ∷
      lines_code rest
  lines_code (BreakLine line rest) = just (emit.Break ∷ []) ∷ lines_code rest
  lines_code (ContinueLine line rest) = just (emit.Continue ∷ []) ∷ lines_code rest
  lines_code (ReturnLine line rest) = just (emit.Return None ∷ []) ∷ lines_code rest
  lines_code (ReturnValueLine line e rest) = after (form e want.Value) return_value ∷ lines_code rest
  lines_code (ReturnCallLine line target args rest) = call_for target (map form args) return_value ∷ lines_code rest

  pub lines_are : (x : Lines) → map (stmt_code structs params) (stmts x) ≡ lines_code x
  lines_are NoLine = refl
  lines_are (EmptyLine line rest) =
      λ i. stmt_at _ _ (kind_step structs params) (λ s. s.kind) line layer.Empty i ∷ lines_are rest i
  lines_are (AssignLine line place e rest) = λ i.
      (stmt_at _ _ (kind_step structs params) (λ s. s.kind) line (layer.Assign (expr place) (expr e))
      ∙ (λ j. assign (form_is place j) (form_is e j))) i ∷
      lines_are rest i
  lines_are (AssignCallLine line place target args rest) = λ i.
      (stmt_at _ _ (kind_step structs params) (λ s. s.kind) line (layer.AssignCall (expr place) (call_of target args))
      ∙ (λ j. call_for target (forms_are args j) (store_at (form_is place j)))) i ∷
      lines_are rest i
  lines_are (CallLine line target args rest) = λ i.
      (stmt_at _ _ (kind_step structs params) (λ s. s.kind) line (layer.Call (call_of target args))
      ∙ (λ j. call_statement target (forms_are args j))) i ∷ lines_are rest i
  lines_are (IfLine line cond x y rest) = λ i.
      (stmt_at _ _ (kind_step structs params) (λ s. s.kind) line (layer.If (expr cond) (stmts x) (stmts y))
      ∙ (λ j. after (form_is cond j want.Value) (fork (in_turn (lines_are x j)) (in_turn (lines_are y j))))) i ∷
      lines_are rest i
  lines_are (WhileLine line cond x rest) = λ i.
      (stmt_at _ _ (kind_step structs params) (λ s. s.kind) line (layer.While (expr cond) (stmts x))
      ∙ (λ j. cycle (test (form_is cond j)) (in_turn (lines_are x j)) (just []))) i ∷
      lines_are rest i
  lines_are (ForLine line p e cond q f x rest) = λ i.
      (stmt_at _ _ (kind_step structs params) (λ s. s.kind) line (layer.For (part line p e) (expr cond) (part line q f)
      (stmts x))
      ∙ (λ j. both (assign (form_is p j) (form_is e j)) (cycle (test (form_is cond j)) (in_turn (lines_are x j))
      (assign (form_is q j) (form_is f j))))) i ∷
      lines_are rest i
  lines_are (BreakLine line rest) =
      λ i. stmt_at _ _ (kind_step structs params) (λ s. s.kind) line layer.Break i ∷ lines_are rest i
  lines_are (ContinueLine line rest) =
      λ i. stmt_at _ _ (kind_step structs params) (λ s. s.kind) line layer.Continue i ∷ lines_are rest i
  lines_are (ReturnLine line rest) =
      λ i. stmt_at _ _ (kind_step structs params) (λ s. s.kind) line layer.Return i ∷ lines_are rest i
  lines_are (ReturnValueLine line e rest) = λ i.
      (stmt_at _ _ (kind_step structs params) (λ s. s.kind) line (layer.ReturnValue (expr e))
      ∙ (λ j. after (form_is e j want.Value) return_value)) i ∷
      lines_are rest i
  lines_are (ReturnCallLine line target args rest) = λ i.
      (stmt_at _ _ (kind_step structs params) (λ s. s.kind) line (layer.ReturnCall (call_of target args))
      ∙ (λ j. call_for target (forms_are args j) return_value)) i ∷
      lines_are rest i
