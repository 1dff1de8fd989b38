use Rattle.std.proofs.Common.{◌≡◌, ℕ, Bool, List, length}
use Rattle.sc_gate.specs.Clearing.{KeepsNone, cleared_first}
use Rattle.sc_gate.proofs.clear.clear.Given as goal

abbrev pub invariant-loop-number : goal.invariant-loop-number
invariant-loop-number l = (keeps : ℕ → Bool) (all : List ℕ) → length all ≡ 32 → KeepsNone keeps l.from l.to →
    l.fn.regs ≡ cleared_first keeps l.from all → l.regs ≡ cleared_first keeps l.number all
