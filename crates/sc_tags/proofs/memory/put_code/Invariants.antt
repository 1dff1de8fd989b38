use Rattle.sc_tags.proofs.CodeBytes.{code_so_far}
use Rattle.std.proofs.Common.{◌≡◌}
use Rattle.sc_tags.proofs.memory.put_code.Given as goal

abbrev pub invariant-loop-number : goal.invariant-loop-number
invariant-loop-number g l = g.S.Store.bytes l.code ≡ code_so_far l.image l.number
