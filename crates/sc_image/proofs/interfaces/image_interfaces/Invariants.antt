use Rattle.sc_image.proofs.Common.{image_interface, map, take, ◌≡◌}
use Rattle.sc_image.proofs.interfaces.image_interfaces.Given as goal

abbrev pub invariant-loop-comp : goal.invariant-loop-comp
invariant-loop-comp l = l.comps ≡ map image_interface (take l.comp-index l.fn.image.comps)
