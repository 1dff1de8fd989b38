-- Helping: a mark for each temporary.
use Rattle.sc_emit_select.specs.Common.{is_one}
use Rattle.std.specs.Prelude.{ℕ, Bool, ◌||◌, List, slice_get, ◌≡◌}
use Rattle.std.specs.Option.{option_map}

-- the marks after these temporaries too are marked, those that have one
pub record Marked (temps : List ℕ) (old new : List Bool) : Type 0 where
  pub at : (t : ℕ) → slice_get new t ≡ option_map (λ mark. mark || is_one t temps) (slice_get old t)
