use Rattle.std.proofs.Common.{drop, ◌≡◌, ◌≤◌}
use Rattle.sc_number.specs.Numbers.{number_within}
use Rattle.sc_number.proofs.Digits.{read_on}
use Rattle.sc_number.proofs.numbers.number_of.Given as goal

abbrev pub invariant-loop-byte : goal.invariant-loop-byte
invariant-loop-byte l =
    (number_within 0 4294967295 l.text ≡ read_on 4294967295 l.value (drop l.byte-index l.text)) × (l.value ≤ 4294967295)
