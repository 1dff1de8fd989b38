use Rattle.sc_compile.proofs.Common.{large_frames, drop, faults_from, ◌≡◌}
use Rattle.sc_compile.proofs.sizes.check_all_frames.Given as goal

-- those so far fit
abbrev pub invariant-loop-number : goal.invariant-loop-number
invariant-loop-number l =
    faults_from large_frames 0 l.sections ≡ faults_from large_frames l.number (drop l.number l.sections)
