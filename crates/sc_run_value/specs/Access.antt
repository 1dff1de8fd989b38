-- Helping: which cells give a value.
use Rattle.sc_run_value.specs.Common.{Blocks, Cause, Null, Ptr, Value, Word, bind, cells_at}
use Rattle.std.specs.Prelude.{ℕ, Bool, if◌then◌else◌, length, Result, Ok, Err}
use Rattle.sc_core.specs.declared.cause.Cause.TheVariants.{Indeterminate, BadType}
use Rattle.sc_core.specs.declared.value.Cell.{Cell}
use Rattle.sc_core.specs.declared.value.Cell.TheVariants as cell

-- the value of a cell where a pointer, or else an integer, is wanted (C11 6.5p7)
abbrev pub typed : Bool → Cell → Result Value Cause
typed pointer cell.Undef = Err Indeterminate
typed pointer (cell.Word w) = if pointer then Err BadType else Ok (Word w)
typed pointer cell.Null = if pointer then Ok Null else Err BadType
typed pointer (cell.Ptr p) = if pointer then Ok (Ptr p) else Err BadType

-- how many cells a variable that lives has
abbrev pub count_at : Blocks → ℕ → Result ℕ Cause
count_at blocks block = bind (cells_at blocks block) (λ cells. Ok (length cells))
