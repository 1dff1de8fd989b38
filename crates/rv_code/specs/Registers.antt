-- Registers by their numbers (RISC-V calling convention): the return address, the stack pointer, the first argument and
-- result, the second argument, and the number of an environment call.
use Rattle.std.specs.Prelude.{ℕ}

abbrev pub ra : ℕ
ra = 1

abbrev pub sp : ℕ
sp = 2

abbrev pub a0 : ℕ
a0 = 10

abbrev pub a1 : ℕ
a1 = 11

abbrev pub a7 : ℕ
a7 = 17
