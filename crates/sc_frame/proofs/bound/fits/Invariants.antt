use Rattle.sc_frame.proofs.Common.{drop, total, ◌+◌, ◌≡◌, ◌≤◌}
use Rattle.sc_frame.proofs.bound.fits.Given as goal

-- what is summed and what is left to sum is all
abbrev pub invariant-loop-cells : goal.invariant-loop-cells
invariant-loop-cells l = l.sum + total (drop l.cells-index l.cells-items) ≡ l.f.nodes + total l.f.objects
