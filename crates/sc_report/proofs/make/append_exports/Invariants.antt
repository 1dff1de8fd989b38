use Rattle.sc_report.proofs.Common.{made_export, filter, flat_map, nat_eq, numbers_from, workers, ◌%◌, ◌++◌, ◌≡◌}
use Rattle.sc_report.proofs.make.append_exports.Given as goal

abbrev pub invariant-loop-j : goal.invariant-loop-j
invariant-loop-j l =
    l.text ≡
    l.initial.text ++
    flat_map made_export (filter (λ j. nat_eq (j % workers l.size) l.worker) (numbers_from 0 l.j))
