-- Code in the making, and the code of an operator and of a body by that of their parts.
use Rattle.sc_lower.proofs.Common.{IfOk, List, Many, None, Result, Some, TacStmt, TypedExpr, TypedFunction}
use Rattle.sc_lower.proofs.Common.{TypedLocal, TypedStruct, Want, [], ap, append_assoc, at_place, block_code, body_code}
use Rattle.sc_lower.proofs.Common.{both, expr_at, forms, fragment_of, from_two, in_turn, inits_code, length, loaded}
use Rattle.sc_lower.proofs.Common.{lowered, lowered_step, member, move_op, subst, suc, sym, term_step, ℕ, ◌++◌, ◌∙◌}
use Rattle.sc_lower.proofs.Common.{◌∷◌, ◌≡◌}
use Rattle.sc_base.specs.declared.op.BinaryOp.TheVariants as op
use Rattle.sc_core.specs.declared.expr.TypedExpr.{fold-roll-TypedExpr}
use Rattle.sc_core.specs.declared.expr.TypedKind.TheOpen as term
use Rattle.sc_core.specs.declared.expr.TypedKind.TheVariants as kind
use Rattle.sc_core.specs.declared.value.Want.TheVariants as want
use Rattle.sc_tac.specs.declared.stmt.TacOp.TheVariants as tacop
use Rattle.sc_tac.specs.declared.stmt.TacStmt.TheVariants.{Op}
use Rattle.sc_lower.specs.Expressions.{Lows}
use Rattle.sc_lower.specs.Prelude.{code_after}
use Rattle.sc_lower.specs.declared.calls.Values.{Values}
use Rattle.sc_lower.specs.declared.code.Code.{Code}
use Rattle.sc_lower.specs.declared.code.Fragment.{Fragment}

-- code that is there already, and the code of values after it
abbrev pub values_after : List TacStmt → List ℕ → Many → Values
values_after stmts at rest = record { stmts = stmts ++ rest.code; at = at ++ rest.at; next = rest.next }

-- one fragment after another
abbrev joined : Fragment → Fragment → Fragment
joined first rest = record { stmts = first.stmts ++ rest.stmts; next = rest.next }

-- the code of initialisers, and of statements after them, is that of the body
pub body_lowered : {E : Type 0} (structs : List TypedStruct) (f : TypedFunction) (params : ℕ)
    (locals : List TypedLocal) (inits body : Fragment) (result : Result Fragment E) → params ≡ length f.params →
    locals ≡ f.locals → inits ≡ fragment_of (in_turn (inits_code structs params 0 locals) 0) →
    body ≡ fragment_of (block_code structs params f.body inits.next) → IfOk result (λ made. made ≡ joined inits body) →
    IfOk result (λ made. made ≡ fragment_of (body_code structs f 0))
body_lowered structs f params locals inits body result counted same before following h =
    subst (λ whole. IfOk result (λ made. made ≡ whole))
    (ap (λ rest. joined inits rest) following
    ∙ ap (λ first. joined first (fragment_of (block_code structs params f.body first.next))) before
    ∙ (λ i. fragment_of (both (in_turn (inits_code structs (counted i) 0 (same i))) (block_code structs (counted i)
    f.body) 0))) h

module _ (structs : List TypedStruct) (params : ℕ) where
  pub lowered_ty : (e : TypedExpr) → (lowered structs params e).ty ≡ e.ty
  lowered_ty e =
      ap (λ x. x.ty)
      (fold-roll-TypedExpr _ _ (term_step structs params) lowered_step (record { ty = e.ty; kind = e.kind }))

  -- places, by the layers of their expressions
  index_at : (e l r : TypedExpr) (w : Want) (n : ℕ) → e.kind ≡ kind.Index l r →
      forms structs params e w n ≡ at_place e.ty (from_two (forms structs params l want.Value)
      (forms structs params r want.Value) (λ dest x y. Op dest (move_op structs op.Add l.ty r.ty) x (Some y))) w n
  index_at e l r w n h =
      ap (λ k. forms structs params (record { ty = e.ty; kind = k }) w n) (h ∙ sym (kind.rolls-Index l r))
      ∙ ap (λ x. x.form w n) (expr_at _ _ (term_step structs params) lowered_step e.ty (term.Index l r))
      ∙ λ i. at_place e.ty (from_two (forms structs params l want.Value) (forms structs params r want.Value)
      (λ dest x y. Op dest (move_op structs op.Add (lowered_ty l i) (lowered_ty r i)) x (Some y))) w n

  member_at : (e l : TypedExpr) (offset : ℕ) (w : Want) (n : ℕ) → e.kind ≡ kind.Member l offset →
      forms structs params e w n ≡ at_place e.ty (member structs offset (forms structs params l want.Place)) w n
  member_at e l offset w n h =
      ap (λ k. forms structs params (record { ty = e.ty; kind = k }) w n) (h ∙ sym (kind.rolls-Member l offset))
      ∙ ap (λ x. x.form w n) (expr_at _ _ (term_step structs params) lowered_step e.ty (term.Member l offset))

  arrow_at : (e l : TypedExpr) (offset : ℕ) (w : Want) (n : ℕ) → e.kind ≡ kind.Arrow l offset →
      forms structs params e w n ≡ at_place e.ty (member structs offset (forms structs params l want.Value)) w n
  arrow_at e l offset w n h =
      ap (λ k. forms structs params (record { ty = e.ty; kind = k }) w n) (h ∙ sym (kind.rolls-Arrow l offset))
      ∙ ap (λ x. x.form w n) (expr_at _ _ (term_step structs params) lowered_step e.ty (term.Arrow l offset))

  deref_at : (e l : TypedExpr) (w : Want) (n : ℕ) → e.kind ≡ kind.Deref l →
      forms structs params e w n ≡ at_place e.ty (forms structs params l want.Value) w n
  deref_at e l w n h =
      ap (λ k. forms structs params (record { ty = e.ty; kind = k }) w n) (h ∙ sym (kind.rolls-Deref l))
      ∙ ap (λ x. x.form w n) (expr_at _ _ (term_step structs params) lowered_step e.ty (term.Deref l))

  module _ (before : List TacStmt) (e : TypedExpr) (w : Want) (n : ℕ) where
    -- what is read at a place
    read_there : {E : Type 0} (place : Lows) (x : Code) (result : Result Code E) → x ≡ code_after before (place n) →
        forms structs params e w n ≡ at_place e.ty place w n → IfOk result (λ code. code ≡ record {
          stmts = x.stmts ++ loaded e.ty w x.at;
          at = x.at;
          next = x.next;
        }) → IfOk result (λ code. code ≡ code_after before (forms structs params e w n))
    read_there place x result there formed f =
        subst (λ made. IfOk result (λ code. code ≡ made))
        ((λ i. record {
          stmts = (there i).stmts ++ loaded e.ty w (there i).at;
          at = (there i).at;
          next = (there i).next;
        })
        ∙ ap (λ stmts. record { stmts = stmts; at = (place n).at; next = (place n).next })
        (append_assoc before (place n).code (loaded e.ty w (place n).at))
        ∙ ap (code_after before) (sym formed)) f

    -- two values and a statement that computes from them
    two_after : (fa fb : Lows) (make : ℕ → ℕ → ℕ → TacStmt) (x y : Code) → x ≡ code_after before (fa n) →
        y ≡ code_after x.stmts (fb x.next) → ◌≡◌ {A = Code} (record {
          stmts = y.stmts ++ make y.next x.at y.at ∷ [];
          at = y.next;
          next = suc y.next;
        }) (code_after before (from_two fa fb make n))
    two_after fa fb make x y first second =
        let both : y ≡ code_after (before ++ (fa n).code) (fb (fa n).next) =
        second ∙ (λ i. code_after (first i).stmts (fb (first i).next)) in
        (λ i. record {
          stmts = (both i).stmts ++ make (both i).next (first i).at (both i).at ∷ [];
          at = (both i).next;
          next = suc (both i).next;
        })
        ∙ ap (λ stmts. record { stmts = stmts; at = (fb (fa n).next).next; next = suc (fb (fa n).next).next })
        (append_assoc (before ++ (fa n).code) (fb (fa n).next).code
        (make (fb (fa n).next).next (fa n).at (fb (fa n).next).at ∷ [])
        ∙ append_assoc before (fa n).code ((fb (fa n).next).code
        ++ make (fb (fa n).next).next (fa n).at (fb (fa n).next).at ∷ []))

    -- the place of a member
    member_place : (a : Lows) (offset : ℕ) (x y : Code) → x ≡ code_after before (a n) → y ≡ record {
      stmts = x.stmts ++ Op x.next (tacop.PointerMember offset) x.at None ∷ [];
      at = x.next;
      next = suc x.next;
    } → y ≡ code_after before (member structs offset a n)
    member_place a offset x y there made =
        made
        ∙ (λ i. record {
          stmts = (there i).stmts ++ Op (there i).next (tacop.PointerMember offset) (there i).at None ∷ [];
          at = (there i).next;
          next = suc (there i).next;
        })
        ∙ ap (λ stmts. record { stmts = stmts; at = (a n).next; next = suc (a n).next })
        (append_assoc before (a n).code (Op (a n).next (tacop.PointerMember offset) (a n).at None ∷ []))

    pub deref_lowered : {E : Type 0} (l l' : TypedExpr) (x : Code) (result : Result Code E) → e.kind ≡ kind.Deref l →
        l' ≡ l → x ≡ code_after before (forms structs params l' want.Value n) → IfOk result (λ code. code ≡ record {
          stmts = x.stmts ++ loaded e.ty w x.at;
          at = x.at;
          next = x.next;
        }) → IfOk result (λ code. code ≡ code_after before (forms structs params e w n))
    deref_lowered l l' x result h same there =
        read_there (forms structs params l' want.Value) x result there
        (deref_at e l' w n (h ∙ ap kind.Deref (sym same)))

    pub member_lowered : {E : Type 0} (l l' : TypedExpr) (offset : ℕ) (x y : Code) (result : Result Code E) →
        e.kind ≡ kind.Member l offset → l' ≡ l → x ≡ code_after before (forms structs params l' want.Place n) →
        y ≡ record {
          stmts = x.stmts ++ Op x.next (tacop.PointerMember offset) x.at None ∷ [];
          at = x.next;
          next = suc x.next;
        } → IfOk result (λ code. code ≡ record {
          stmts = y.stmts ++ loaded e.ty w y.at;
          at = y.at;
          next = y.next;
        }) → IfOk result (λ code. code ≡ code_after before (forms structs params e w n))
    member_lowered l l' offset x y result h same there made =
        read_there (member structs offset (forms structs params l' want.Place)) y result
        (member_place (forms structs params l' want.Place) offset x y there made)
        (member_at e l' offset w n (h ∙ ap (λ z. kind.Member z offset) (sym same)))

    pub arrow_lowered : {E : Type 0} (l l' : TypedExpr) (offset : ℕ) (x y : Code) (result : Result Code E) →
        e.kind ≡ kind.Arrow l offset → l' ≡ l → x ≡ code_after before (forms structs params l' want.Value n) →
        y ≡ record {
          stmts = x.stmts ++ Op x.next (tacop.PointerMember offset) x.at None ∷ [];
          at = x.next;
          next = suc x.next;
        } → IfOk result (λ code. code ≡ record {
          stmts = y.stmts ++ loaded e.ty w y.at;
          at = y.at;
          next = y.next;
        }) → IfOk result (λ code. code ≡ code_after before (forms structs params e w n))
    arrow_lowered l l' offset x y result h same there made =
        read_there (member structs offset (forms structs params l' want.Value)) y result
        (member_place (forms structs params l' want.Value) offset x y there made)
        (arrow_at e l' offset w n (h ∙ ap (λ z. kind.Arrow z offset) (sym same)))

    pub index_lowered : {E : Type 0} (l l' r r' : TypedExpr) (x y z : Code) (result : Result Code E) →
        e.kind ≡ kind.Index l r → l' ≡ l → r' ≡ r → x ≡ code_after before (forms structs params l' want.Value n) →
        y ≡ code_after x.stmts (forms structs params r' want.Value x.next) → z ≡ record {
          stmts = y.stmts ++ Op y.next (move_op structs op.Add l'.ty r'.ty) x.at (Some y.at) ∷ [];
          at = y.next;
          next = suc y.next;
        } → IfOk result (λ code. code ≡ record {
          stmts = z.stmts ++ loaded e.ty w z.at;
          at = z.at;
          next = z.next;
        }) → IfOk result (λ code. code ≡ code_after before (forms structs params e w n))
    index_lowered l l' r r' x y z result h left right first second made =
        read_there (from_two (forms structs params l' want.Value) (forms structs params r' want.Value)
        (λ dest at index. Op dest (move_op structs op.Add l'.ty r'.ty) at (Some index))) z result
        (made ∙ two_after (forms structs params l' want.Value) (forms structs params r' want.Value)
        (λ dest at index. Op dest (move_op structs op.Add l'.ty r'.ty) at (Some index)) x y first second)
        (index_at e l' r' w n (h ∙ λ i. kind.Index (sym left i) (sym right i)))
