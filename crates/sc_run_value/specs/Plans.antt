-- Helping: what a plan of an expression gives.
use Rattle.sc_run_value.specs.Common.{Blocks, Cause, Ptr, Value, Ways, Word, bind, c_arith}
use Rattle.sc_core.specs.Prelude.{load, moved_on, on_words}
use Rattle.std.specs.Prelude.{◌≡◌, ℕ, Bool, true, false, Result, Ok, Err}
use Rattle.sc_base.specs.declared.op.BinaryOp.{BinaryOp}
use Rattle.sc_base.specs.declared.op.BinaryOp.TheVariants as op
use Rattle.sc_core.specs.declared.cause.Cause.TheVariants.{BadType}
use Rattle.sc_core.specs.declared.value.Want.TheVariants as want
use Rattle.sc_run_value.specs.declared.plans.Operand.{Operand}
use Rattle.sc_run_value.specs.declared.plans.Operand.TheVariants as operand
use Rattle.sc_run_value.specs.declared.plans.Plan.{Plan}
use Rattle.sc_run_value.specs.declared.plans.Plan.TheVariants as plan
use Rattle.sc_run_value.specs.declared.plans.Target.{Target}
use Rattle.sc_run_value.specs.declared.plans.Target.TheVariants as target

-- the operators that may need no second operand
abbrev pub is_choice : BinaryOp → Bool
is_choice op.AndAlso = true
is_choice op.OrElse = true
is_choice o = false

abbrev pub operand_value : Operand → Blocks → Result Value Cause
operand_value (operand.Word w) blocks = Ok (Word w)
operand_value (operand.Variable block) blocks = load blocks false (Ptr (record { block = block; index = 0 }))

-- the value of the expression is that of the operand
abbrev pub IsOperandOf : Operand → Ways → Type 0
IsOperandOf operand way = (blocks : Blocks) → way want.Value blocks ≡ operand_value operand blocks

-- what is found without the tree
abbrev pub plan_value : Plan → Blocks → Result Value Cause
plan_value plan.Tree blocks = Err BadType
plan_value (plan.Leaf operand) blocks = operand_value operand blocks
plan_value (plan.Two o unsigned left right) blocks =
    bind (operand_value left blocks) (λ v. bind (operand_value right blocks) (on_words c_arith unsigned o v))

-- where the plan gives a word, the expression does
pub record IsPlanOf (plan : Plan) (way : Ways) : Type 0 where
  pub gives : (blocks : Blocks) (w : ℕ) → plan_value plan blocks ≡ Ok (Word w) → way want.Value blocks ≡ Ok (Word w)

-- the place that is found without the tree
abbrev pub target_place : Target → Blocks → Result Value Cause
target_place target.Tree blocks = Err BadType
target_place (target.Variable block) blocks = Ok (Ptr (record { block = block; index = 0 }))
target_place (target.Element block cells unsigned index) blocks =
    bind (plan_value index blocks) (moved_on blocks cells unsigned (Ptr (record { block = block; index = 0 })))

-- where a place is found so, it is that of the expression
pub record IsTargetOf (target : Target) (way : Ways) : Type 0 where
  pub found : (blocks : Blocks) (at : Value) → target_place target blocks ≡ Ok at → way want.Place blocks ≡ Ok at
