-- Helping: the types of parameters, one after another.
use Rattle.sc_types_elab_stmt.specs.Common.{Ty}
use Rattle.std.specs.Prelude.{List, [], ◌∷◌, Option, Some, None}

abbrev pub first_of : List Ty → Option Ty
first_of [] = None
first_of (first ∷ rest) = Some first

abbrev pub rest_of : List Ty → List Ty
rest_of [] = []
rest_of (first ∷ rest) = rest
