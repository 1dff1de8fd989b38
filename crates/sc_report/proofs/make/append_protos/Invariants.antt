use Rattle.sc_report.proofs.Common.{flat_map, numbers_from, made_proto, ◌++◌, ◌≡◌}
use Rattle.sc_report.proofs.make.append_protos.Given as goal

abbrev pub invariant-loop-j : goal.invariant-loop-j
invariant-loop-j l = l.text ≡ l.initial.text ++ flat_map made_proto (numbers_from 0 l.j)
