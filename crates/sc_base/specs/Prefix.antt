-- Prefixes of lists.
use Rattle.std.specs.Prelude.{◌≡◌, ◌++◌, List}

-- one list is a prefix of another, which goes on with `more`
pub record IsPrefix {A : Type 0} (xs ys : List A) : Type 0 where
  pub more : List A
  pub is : ys ≡ xs ++ more
