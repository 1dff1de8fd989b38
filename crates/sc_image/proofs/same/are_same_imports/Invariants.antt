use Rattle.sc_image.proofs.Common.{drop, is_same_import, pointwise, ◌≡◌}
use Rattle.sc_image.proofs.same.are_same_imports.Given as goal

abbrev pub invariant-loop-i : goal.invariant-loop-i
invariant-loop-i l =
    pointwise is_same_import (drop l.i l.imports) (drop l.i l.others) ≡ pointwise is_same_import l.imports l.others
