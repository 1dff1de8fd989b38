use Rattle.sc_report.proofs.Common.{flat_map, numbers_from, worker_text, ◌++◌, ◌≡◌}
use Rattle.sc_report.proofs.make.append_workers.Given as goal

abbrev pub invariant-loop-worker : goal.invariant-loop-worker
invariant-loop-worker l = l.text ≡ l.initial.text ++ flat_map (worker_text l.size l.seed) (numbers_from 0 l.worker)
