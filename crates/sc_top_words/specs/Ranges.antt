-- Ranges of bytes, as texts.
use Rattle.std.specs.Prelude.{ℕ, ◌+◌, nat_le, if◌then◌else◌, List, [], ◌∷◌, Option, Some, None, option_and_then}
use Rattle.sc_number.specs.Numbers.{number_within}
use Rattle.sc_top_words.specs.declared.command.DataRange.{DataRange}

-- no byte of a range has an address that isn't of 32 bits
abbrev pub range_within : (start bytes comp : ℕ) → Option DataRange
range_within start bytes comp =
    if nat_le (start + bytes) 4294967296 then Some (record { start = start; bytes = bytes; comp = comp }) else None

-- the range of three decimals: where it starts, how many bytes it has, and a compartment
abbrev pub range_of : List (List ℕ) → Option DataRange
range_of (start ∷ bytes ∷ comp ∷ []) =
    option_and_then (λ start. option_and_then (λ bytes. option_and_then (λ comp. range_within start bytes comp)
    (number_within 0 31 comp)) (number_within 0 4294967295 bytes)) (number_within 0 4294967295 start)
range_of texts = None
