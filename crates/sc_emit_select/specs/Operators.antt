-- The instructions of operators, by the registers of the result and of the operands. The result is written last, since
-- it may lie where an operand lies.
use Rattle.sc_emit_select.specs.Common.{Add, Addi, And, Andi, Div, Divu, Instr, Mul, Op, OpImm, Or, Ori, Rem, Remu}
use Rattle.sc_emit_select.specs.Common.{Shift, Sll, Slt, Slti, Sltiu, Sltu, Sra, Srl, Sub, TacOp, Xor, Xori}
use Rattle.sc_emit_select.specs.Common.{is_unsigned, mul_word, signed_of, sub_word}
use Rattle.rv_code.specs.declared.instr.ShiftOp.TheVariants.{Slli}
use Rattle.std.specs.Prelude.{◌==◌, ℕ, pos, negsuc, ◌*◌, ◌%◌, ◌^◌, Bool, true, false, List, [], ◌∷◌, ◌++◌, Option, None}
use Rattle.std.specs.Prelude.{Some, if◌then◌else◌}
use Rattle.rv_code.specs.declared.instr.OpImmOp.{OpImmOp}
use Rattle.rv_code.specs.declared.instr.OpOp.{OpOp}
use Rattle.sc_base.specs.declared.op.BinaryOp.{BinaryOp}
use Rattle.sc_base.specs.declared.op.BinaryOp.TheVariants as op
use Rattle.sc_base.specs.declared.op.UnaryOp.{UnaryOp}
use Rattle.sc_base.specs.declared.op.UnaryOp.TheVariants as unary
use Rattle.sc_tac.specs.declared.stmt.TacOp.TheVariants as tacop
use Rattle.sc_emit_select.specs.declared.operators.ShortForm.{ShortForm}
use Rattle.sc_emit_select.specs.Pieces.{first_scratch, second_scratch, address_scratch, is_short, move, loading}
use Rattle.sc_emit_select.specs.Pieces.{moved_by}

-- of the two, the one for unsigned words
abbrev pub by_sign : Bool → (of_signed of_unsigned : OpOp) → OpOp
by_sign true of_signed of_unsigned = of_unsigned
by_sign false of_signed of_unsigned = of_signed

-- the bytes of `cells` cells, as a word
abbrev pub bytes_of : ℕ → ℕ
bytes_of cells = 4 * cells % 2 ^ 32

-- 1 where a register is 0, else 0
abbrev pub is_zero : (rd rs : ℕ) → Instr
is_zero rd rs = OpImm Sltiu rd rs (pos 1)

-- 1 where a register isn't 0, else 0
abbrev pub is_not_zero : (rd rs : ℕ) → Instr
is_not_zero rd rs = Op Sltu rd 0 rs

-- 1 for 0 and 0 for 1
abbrev pub inverted : (rd rs : ℕ) → Instr
inverted rd rs = OpImm Xori rd rs (pos 1)

abbrev pub unary_code : (rd rs : ℕ) → UnaryOp → List Instr
unary_code rd rs unary.Minus = Op Sub rd 0 rs ∷ []
unary_code rd rs unary.Plus = move rd rs ∷ []
unary_code rd rs unary.Not = is_zero rd rs ∷ []
unary_code rd rs unary.BitNot = OpImm Xori rd rs (negsuc 0) ∷ []

abbrev pub binary_code : (rd left right : ℕ) → (unsigned : Bool) → BinaryOp → List Instr
binary_code rd left right unsigned op.OrElse =
    Op Or first_scratch left right ∷ is_not_zero rd first_scratch ∷ []
binary_code rd left right unsigned op.AndAlso =
    is_not_zero first_scratch left ∷ is_not_zero second_scratch right ∷ Op And rd first_scratch second_scratch ∷ []
binary_code rd left right unsigned op.BitOr = Op Or rd left right ∷ []
binary_code rd left right unsigned op.BitXor = Op Xor rd left right ∷ []
binary_code rd left right unsigned op.BitAnd = Op And rd left right ∷ []
binary_code rd left right unsigned op.Equal = Op Xor first_scratch left right ∷ is_zero rd first_scratch ∷ []
binary_code rd left right unsigned op.NotEqual = Op Xor first_scratch left right ∷ is_not_zero rd first_scratch ∷ []
binary_code rd left right unsigned op.Less = Op (by_sign unsigned Slt Sltu) rd left right ∷ []
binary_code rd left right unsigned op.Greater = Op (by_sign unsigned Slt Sltu) rd right left ∷ []
binary_code rd left right unsigned op.LessEqual =
    Op (by_sign unsigned Slt Sltu) first_scratch right left ∷ inverted rd first_scratch ∷ []
binary_code rd left right unsigned op.GreaterEqual =
    Op (by_sign unsigned Slt Sltu) first_scratch left right ∷ inverted rd first_scratch ∷ []
binary_code rd left right unsigned op.ShiftLeft = Op Sll rd left right ∷ []
binary_code rd left right unsigned op.ShiftRight = Op (by_sign unsigned Sra Srl) rd left right ∷ []
binary_code rd left right unsigned op.Add = Op Add rd left right ∷ []
binary_code rd left right unsigned op.Sub = Op Sub rd left right ∷ []
binary_code rd left right unsigned op.Mul = Op Mul rd left right ∷ []
binary_code rd left right unsigned op.Div = Op (by_sign unsigned Div Divu) rd left right ∷ []
binary_code rd left right unsigned op.Rem = Op (by_sign unsigned Rem Remu) rd left right ∷ []

-- by elements back or forth
abbrev pub stepped : Bool → OpOp
stepped true = Sub
stepped false = Add

-- the bytes of as many elements as a register says: four for each, where an element is one cell
abbrev pub bytes_ahead : (right cells : ℕ) → List Instr
bytes_ahead right cells =
    if cells == 1 then Shift Slli second_scratch right 2 ∷ []
    else loading address_scratch (bytes_of cells) ++ Op Mul second_scratch right address_scratch ∷ []

abbrev pub pointer_move : (rd left right : ℕ) → (minus : Bool) → (cells : ℕ) → List Instr
pointer_move rd left right minus cells = bytes_ahead right cells ++ Op (stepped minus) rd left second_scratch ∷ []

-- the bytes between two addresses, by those of an element
abbrev pub pointer_difference : (rd left right : ℕ) → (cells : ℕ) → List Instr
pointer_difference rd left right cells =
    Op Sub first_scratch left right ∷
    loading address_scratch (bytes_of cells) ++ Op Div rd first_scratch address_scratch ∷ []

abbrev pub op_code : (rd left right : ℕ) → TacOp → List Instr
op_code rd left right (tacop.Unary o scalar) = unary_code rd left o
op_code rd left right (tacop.Binary o scalar) = binary_code rd left right (is_unsigned scalar) o
op_code rd left right tacop.PointerNot = is_zero rd left ∷ []
op_code rd left right (tacop.PointerMove minus cells index) = pointer_move rd left right minus cells
op_code rd left right (tacop.PointerMember offset) = moved_by rd left (bytes_of offset)
op_code rd left right (tacop.PointerDifference cells) = pointer_difference rd left right cells
op_code rd left right (tacop.PointerCompare o) = binary_code rd left right true o

-- AN OPERATOR AND A CONSTANT
-- an instruction on a register and an immediate, where the word can be one
abbrev pub short : OpImmOp → ℕ → Option ShortForm
short o word = if is_short word then Some (record { op = o; imm = signed_of word }) else None

abbrev pub less_than : (unsigned : Bool) → OpImmOp
less_than true = Sltiu
less_than false = Slti

-- to subtract a word is to add its negation
abbrev pub added_by : (minus : Bool) → ℕ → ℕ
added_by true word = sub_word 0 word
added_by false word = word

abbrev pub binary_short : (unsigned : Bool) → BinaryOp → ℕ → Option ShortForm
binary_short unsigned op.BitOr word = short Ori word
binary_short unsigned op.BitXor word = short Xori word
binary_short unsigned op.BitAnd word = short Andi word
binary_short unsigned op.Less word = short (less_than unsigned) word
binary_short unsigned op.Add word = short Addi word
binary_short unsigned op.Sub word = short Addi (added_by true word)
binary_short unsigned _ word = None

-- the instruction of an operator whose second operand is this word, if there is one
abbrev pub short_form : TacOp → ℕ → Option ShortForm
short_form (tacop.Binary o scalar) word = binary_short (is_unsigned scalar) o word
short_form (tacop.PointerMove minus cells index) word =
    short Addi (added_by minus (mul_word word (bytes_of cells)))
short_form _ word = None

abbrev pub short_code : (rd left : ℕ) → Option ShortForm → List Instr
short_code rd left (Some form) = OpImm form.op rd left form.imm ∷ []
short_code rd left None = []
