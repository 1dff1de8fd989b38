use Rattle.sc_image.proofs.Common.{comp_bytes, flat_map, take, ◌++◌, ◌≡◌}
use Rattle.sc_image.proofs.writing.append_comps.Given as goal

abbrev pub invariant-loop-comp : goal.invariant-loop-comp
invariant-loop-comp l = l.text ≡ l.initial.text ++ flat_map comp_bytes (take l.comp-index l.comps)
