use Rattle.sc_linker.proofs.Common.{flat_map, initial_words, little_bytes, take, ◌≡◌}
use Rattle.sc_linker.proofs.bytes.global_bytes.Given as goal

abbrev pub invariant-loop-global : goal.invariant-loop-global
invariant-loop-global l =
    l.bytes ≡ flat_map (little_bytes 4) (flat_map (initial_words l.section.structs)
    (take l.global-index l.section.globals))
