use Rattle.std.proofs.Common.{map, take, ◌≡◌}
use Rattle.sc_opt.specs.Prelude.{source_at}
use Rattle.sc_opt.proofs.pass.Tables.source_all.Given as goal

abbrev pub invariant-loop-temp : goal.invariant-loop-temp
invariant-loop-temp l = l.sources ≡ map (source_at l.self.origins.sources) (take l.temp-index l.temps)
