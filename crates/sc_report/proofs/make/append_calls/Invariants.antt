use Rattle.sc_report.proofs.Common.{made_call, flat_map, numbers_from, state_at, ◌++◌, ◌≡◌}
use Rattle.sc_report.proofs.make.append_calls.Given as goal

abbrev pub invariant-loop-j : goal.invariant-loop-j
invariant-loop-j l = record {
  drawn : l.draws.state ≡ state_at l.seed l.j;
  printed : l.text ≡ l.initial.text ++ flat_map (made_call l.seed) (numbers_from 0 l.j);
}
