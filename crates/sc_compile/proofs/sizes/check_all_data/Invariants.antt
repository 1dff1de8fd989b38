use Rattle.sc_compile.proofs.Common.{large_data, drop, faults_from, ◌≡◌}
use Rattle.sc_compile.proofs.sizes.check_all_data.Given as goal

-- those so far fit
abbrev pub invariant-loop-number : goal.invariant-loop-number
invariant-loop-number l =
    faults_from large_data 0 l.sections ≡ faults_from large_data l.number (drop l.number l.sections)
