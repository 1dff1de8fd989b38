use Rattle.sc_report.proofs.Common.{flat_map, made_import, numbers_from, ◌++◌, ◌≡◌}
use Rattle.sc_report.proofs.make.append_imports.Given as goal

abbrev pub invariant-loop-j : goal.invariant-loop-j
invariant-loop-j l = l.text ≡ l.initial.text ++ flat_map (made_import l.size) (numbers_from 0 l.j)
