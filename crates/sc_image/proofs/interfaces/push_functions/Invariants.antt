use Rattle.sc_image.proofs.Common.{image_import, map, take, ◌++◌, ◌≡◌}
use Rattle.sc_image.proofs.interfaces.push_functions.Given as goal

abbrev pub invariant-loop-other : goal.invariant-loop-other
invariant-loop-other l = l.imports ≡ l.initial.imports ++ map image_import (take l.other-index l.others)
