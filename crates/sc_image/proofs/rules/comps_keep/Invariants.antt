use Rattle.sc_image.proofs.Common.{comps_keep, drop, ◌≡◌}
use Rattle.sc_image.proofs.rules.comps_keep.Given as goal

abbrev pub invariant-loop-c : goal.invariant-loop-c
invariant-loop-c l = comps_keep l.parts 0 l.comps ≡ comps_keep l.parts l.c (drop l.c l.comps)
