-- What plans of expressions give.
use Rattle.sc_run_value.proofs.Common.{Blocks, Bool, Cause, Err, Here, List, Ok, Ptr, Result, TypedExpr, Value, Ways}
use Rattle.sc_run_value.proofs.Common.{Word, ap, at_pointer, bind, c_arith, refl, sym, wanted, ways, ℕ, ◌∙◌, ◌≡◌}
use Rattle.sc_core.specs.Prelude.{is_unsigned, moved_on, target_cells}
use Rattle.sc_core.specs.declared.value.Value.TheVariants.{Null}
use Rattle.sc_core.specs.declared.value.Want.TheVariants as want
use Rattle.sc_core.specs.declared.section.TypedStruct.{TypedStruct}
use Rattle.sc_core.specs.declared.expr.TypedKind.TheVariants.{Index}
use Rattle.sc_base.specs.declared.op.BinaryOp.TheVariants as op
use Rattle.sc_run_value.specs.Plans.{IsPlanOf, IsTargetOf, plan_value}
use Rattle.sc_run_value.specs.declared.plans.Plan.{Plan}
use Rattle.sc_run_value.specs.declared.plans.Target.TheVariants as target
use Rattle.sc_run_value.proofs.Operands.{index_gives}

module _ (structs : List TypedStruct) (here : Here) (params : ℕ) where
  abbrev way : TypedExpr → Ways
  way e = ways c_arith structs here params e

  -- the array is named, and there is a plan of the index
  pub by_element : (e a b : TypedExpr) (block cells : ℕ) (unsigned : Bool) (p : Plan) → e.kind ≡ Index a b →
      ((blocks : Blocks) → way a want.Value blocks ≡ Ok (Ptr (record { block = block; index = 0 }))) →
      IsPlanOf p (way b) → cells ≡ target_cells structs a.ty → unsigned ≡ is_unsigned b.ty →
      IsTargetOf (target.Element block cells unsigned p) (way e)
  by_element e a b block cells unsigned p is array index same_cells same_sign = record {
    found = λ blocks at h. index_gives structs here params e a b want.Place blocks is ∙
        ap (λ r. bind (bind r (λ v. bind (way b want.Value blocks) (at_pointer structs blocks op.Add a.ty b.ty v)))
        (λ q. wanted e.ty q want.Place blocks)) (array blocks) ∙ by_word blocks at (plan_value p blocks) refl h;
  } where
    by_word : (blocks : Blocks) (at : Value) (r : Result Value Cause) → plan_value p blocks ≡ r →
        bind r (moved_on blocks cells unsigned (Ptr (record { block = block; index = 0 }))) ≡ Ok at →
        bind (bind (way b want.Value blocks) (at_pointer structs blocks op.Add a.ty b.ty
        (Ptr (record { block = block; index = 0 })))) (λ q. Ok q) ≡ Ok at
    by_word blocks at (Err cause) same h = absurd (cc h)
    by_word blocks at (Ok Null) same h = absurd (cc h)
    by_word blocks at (Ok (Ptr q)) same h = absurd (cc h)
    by_word blocks at (Ok (Word w)) same h =
        ap (λ r. bind (bind r (at_pointer structs blocks op.Add a.ty b.ty
        (Ptr (record { block = block; index = 0 })))) (λ q. Ok q)) (index.gives blocks w same) ∙
        ap (λ n. bind (moved_on blocks n (is_unsigned b.ty) (Ptr (record { block = block; index = 0 })) (Word w))
        (λ q. Ok q)) (sym same_cells) ∙
        ap (λ s. bind (moved_on blocks cells s (Ptr (record { block = block; index = 0 })) (Word w)) (λ q. Ok q))
        (sym same_sign) ∙ ap (λ r. bind r (λ q. Ok q)) h
