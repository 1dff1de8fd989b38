-- Numbers as a program writes them.
use Rattle.std.specs.Prelude.{ℕ, Bool, ◌||◌, ◌&&◌, nat_le, Option, Some, None, if◌then◌else◌}

-- an integer of 32 bits, and whether its type is `unsigned int` (C11 6.4.4.1)
pub record Number : Type 0 where
  pub value : ℕ
  pub unsigned : Bool

-- an `int` is at most 2147483647, an `unsigned int` at most 4294967295
abbrev pub fits : Number → Bool
fits number = (number.unsigned || nat_le number.value 2147483647) && nat_le number.value 4294967295

-- the number, where its type holds it
abbrev pub number_typed : ℕ → Bool → Option Number
number_typed value unsigned =
    if unsigned || nat_le value 2147483647 then Some (record { value = value; unsigned = unsigned }) else None

-- the length of an array, which is at least 1
abbrev pub array_length : ℕ → Option ℕ
array_length elements = if nat_le 1 elements then Some elements else None
