-- The zones of a machine, as contracts see them.
use Rattle.std.specs.Prelude.{Bool, List}
use Rattle.sc_zone.specs.declared.span.Span.{Span}

pub record Zoned : Type 0 where
  -- of each compartment, the live blocks of its zone: none where it has no zone
  pub blocks : List (List Span)
  -- whether it has one
  pub there : List Bool
