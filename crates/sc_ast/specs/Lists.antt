-- Lists that have an item.
use Rattle.std.specs.Prelude.{List, [], ◌∷◌, Option, Some, None}

-- the list itself, where it has an item
abbrev pub non_empty : {A : Type 0} → List A → Option (List A)
non_empty [] = None
non_empty (item ∷ rest) = Some (item ∷ rest)
