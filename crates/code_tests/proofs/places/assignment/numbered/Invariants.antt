use Rattle.sc_tac.specs.Prelude.{AreIntervals}
use Rattle.std.proofs.Common.{◌≡◌, length}
use Rattle.code_tests.proofs.places.assignment.numbered.Given as goal

abbrev pub invariant-loop-span : goal.invariant-loop-span
invariant-loop-span l = record {
  rules : AreIntervals l.list;
  next : l.temp ≡ length l.list;
}
