use Rattle.sc_emit_select.proofs.Common.{Marked}
use Rattle.std.proofs.Common.{take}
use Rattle.sc_emit_select.proofs.needs.Needs.all.Given as goal

abbrev pub invariant-loop-temp : goal.invariant-loop-temp
invariant-loop-temp l = Marked (take l.temp-index l.temps) l.initial.self l.self
