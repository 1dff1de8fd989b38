use Rattle.sc_report.proofs.Common.{filter, flat_map, made_function, nat_eq, numbers_from, state_at, workers, ◌%◌, ◌++◌}
use Rattle.sc_report.proofs.Common.{◌≡◌}
use Rattle.sc_report.proofs.make.append_functions.Given as goal

abbrev pub invariant-loop-j : goal.invariant-loop-j
invariant-loop-j l = record {
  drawn : l.draws.state ≡ state_at l.seed l.j;
  printed : l.text ≡ l.initial.text ++
      flat_map (made_function l.seed) (filter (λ j. nat_eq (j % workers l.size) l.worker) (numbers_from 0 l.j));
}
