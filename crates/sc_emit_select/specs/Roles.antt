-- What statements are to their neighbours, and which two are one piece of code.
use Rattle.sc_emit_select.specs.Common.{TacOp}
use Rattle.std.specs.Prelude.{ℕ, Bool, false, ◌==◌, ◌&&◌, if◌then◌else◌, Option, None, Some, is_some}
use Rattle.sc_tac.specs.declared.stmt.Constant.{Constant}
use Rattle.sc_tac.specs.declared.stmt.Constant.TheVariants as constant
use Rattle.sc_emit_select.specs.declared.roles.Role.{Role}
use Rattle.sc_emit_select.specs.declared.roles.Role.TheVariants.{Applies, Loads, Operates, Other, Places, Returns, Sets}
use Rattle.sc_emit_select.specs.declared.roles.Role.TheVariants.{Stores}
use Rattle.sc_emit_select.specs.Operators.{short_form}

abbrev pub word_of_constant : Constant → ℕ
word_of_constant (constant.Word w) = w
word_of_constant constant.Null = 0

-- two neighbours that are one piece: the second loads what stands at the place that the first gives, in place of that,
-- or stores there; or its operator reads the constant that the first sets; or it returns what the first computes
abbrev pub joins : (first second : Role) → Bool
joins (Places temp object) (Loads other) = temp == other
joins (Places temp object) (Stores other value) = temp == other
joins (Sets temp word) (Operates dest left o right) = temp == right && is_some (short_form o word)
joins (Applies temp left o word) (Returns other) = temp == other
joins _ _ = false

-- what a statement is to the next one, with the one before it
abbrev pub role_to_next : (before own : Role) → Role
role_to_next (Sets temp word) (Operates dest left o right) =
    if temp == right && is_some (short_form o word) then Applies dest left o word else Operates dest left o right
role_to_next before own = own

-- the temporary that holds what a statement takes of the one before it
abbrev pub held_in : Role → Option ℕ
held_in (Stores place value) = Some place
held_in (Operates dest left o right) = Some right
held_in _ = None

-- an operator, which may have one operand
abbrev pub operates : (dest : ℕ) → TacOp → (left : ℕ) → (right : Option ℕ) → Role
operates dest o left None = Other
operates dest o left (Some right) = Operates dest left o right

-- an operator whose second operand is in a temporary that only such operators and stores read
abbrev pub role_of_operation : (needed : ℕ → Bool) → (dest : ℕ) → TacOp → (left : ℕ) → (right : Option ℕ) → Role
role_of_operation needed dest o left None = Other
role_of_operation needed dest o left (Some right) = if needed right then Other else Operates dest left o right

-- a store at a place in such a temporary
abbrev pub role_of_store : (needed : ℕ → Bool) → (place value : ℕ) → Role
role_of_store needed place value = if needed place then Other else Stores place value

-- what a value that is returned is to the statement before it
abbrev pub role_of_return : Option ℕ → Role
role_of_return None = Other
role_of_return (Some temp) = Returns temp
