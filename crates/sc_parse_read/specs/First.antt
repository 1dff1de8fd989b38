-- The first bad item of a list.
use Rattle.std.specs.Prelude.{List, ◌∷◌}

-- An item is bad, and each one before it is good.
pub data First {A : Type 0} (Good Bad : A → Type 0) : List A → Type 0 where
  here : {x : A} {xs : List A} → Bad x → First Good Bad (x ∷ xs)
  later : {x : A} {xs : List A} → Good x → First Good Bad xs → First Good Bad (x ∷ xs)
