-- Helping: the operators `&&` and `||`, which may need no second operand, beside the others (C11 6.5.13, 6.5.14).
use Rattle.sc_run_value.specs.Common.{Blocks, Cause, Value, Word, applied, c_arith, is_true, of_bool}
use Rattle.std.specs.Prelude.{List, if◌then◌else◌, Option, None, Some, Result, Ok}
use Rattle.sc_base.specs.declared.op.BinaryOp.{BinaryOp}
use Rattle.sc_base.specs.declared.op.BinaryOp.TheVariants as op
use Rattle.sc_core.specs.declared.section.TypedStruct.{TypedStruct}
use Rattle.sc_core.specs.declared.ty.Ty.{Ty}

-- what the first operand decides by itself
abbrev pub decided : BinaryOp → Value → Option Value
decided op.AndAlso v = if is_true v then None else Some (Word 0)
decided op.OrElse v = if is_true v then Some (Word 1) else None
decided o v = None

-- what both operands give where the first decides nothing
abbrev pub joined : List TypedStruct → Blocks → BinaryOp → Ty → Ty → Value → Value → Result Value Cause
joined structs blocks op.AndAlso left right v w = Ok (of_bool (is_true w))
joined structs blocks op.OrElse left right v w = Ok (of_bool (is_true w))
joined structs blocks o left right v w = applied c_arith structs blocks o left right v w

-- the value that is decided, or what else is found
abbrev pub or_else : Option Value → Result Value Cause → Result Value Cause
or_else None result = result
or_else (Some v) result = Ok v
