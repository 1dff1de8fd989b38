use Rattle.sc_compile.proofs.Common.{large_frame, large_frames, drop, flat_map, ◌≡◌}
use Rattle.sc_compile.proofs.sizes.check_frames.Given as goal

-- those so far fit
abbrev pub invariant-loop-function : goal.invariant-loop-function
invariant-loop-function l =
    large_frames l.comp l.section ≡ flat_map (large_frame l.comp l.section) (drop l.function-index l.function-items)
