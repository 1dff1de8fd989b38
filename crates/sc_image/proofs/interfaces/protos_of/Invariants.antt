use Rattle.sc_image.proofs.Common.{map, image_proto, take, ◌≡◌}
use Rattle.sc_image.proofs.interfaces.protos_of.Given as goal

abbrev pub invariant-loop-export : goal.invariant-loop-export
invariant-loop-export l = l.protos ≡ map image_proto (take l.export-index l.exports)
