-- Images of which some compartments are given: their code may come from anywhere.
use Rattle.sc_emit_run_laws.specs.Common.{Addresses, ImageParts, TacTree}
use Rattle.sc_image.specs.Prelude.{IsButFor}
use Rattle.std.specs.Prelude.{◌≡◌, ℕ, Bool, true}
use Rattle.sc_emit_run_laws.specs.Linked.{IsLinked}

-- Where a program's code stands in an image outside of one set, it stands in an image that is that one but for given
-- compartments, outside of any set that includes both.
abbrev pub StandsButFor : Type 0
StandsButFor = (program : TacTree) (own image : ImageParts) (turn_pays : ℕ) (addresses : ℕ → Addresses)
    (first given set : ℕ → Bool) → ((c : ℕ) → first c ≡ true → set c ≡ true) →
    ((c : ℕ) → given c ≡ true → set c ≡ true) → IsLinked first program own turn_pays addresses →
    IsButFor given own image → IsLinked set program image turn_pays addresses
