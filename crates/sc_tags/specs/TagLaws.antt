-- What holds of each run of the machine with tags.
use Rattle.sc_tags.specs.Common.{ImageParts, IsWellFormed, TagRange, machine}
use Rattle.sc_tags.specs.TagStep.{tag_machine}
use Rattle.sc_base.specs.Word.{IsWord}
use Rattle.sc_event.specs.Prelude.{IsKnown}
use Rattle.sc_image.specs.Prelude.{image_interfaces}
use Rattle.std.specs.Prelude.{All, List, [], is_some, nat_lt, ℕ, ◌≡◌}

-- one capability is live at each level below the call level, and none at another
abbrev pub CapabilitiesAreLinear : Type 0
CapabilitiesAreLinear =
    (image : ImageParts) (ranges : List TagRange) (inputs : List ℕ) (steps events level : ℕ) →
    let state = (tag_machine image ranges inputs steps events).state in
    is_some (state.capabilities level) ≡ nat_lt level state.level

-- each event names compartments and exports of the image, whatever the ranges
abbrev pub TagTracesAreKnown : Type 0
TagTracesAreKnown =
    (image : ImageParts) (ranges : List TagRange) (inputs : List ℕ) (steps events : ℕ) → IsWellFormed image →
    All (IsKnown (image_interfaces image)) (tag_machine image ranges inputs steps events).state.core.trace

-- without ranges the trace and the stop are those of the machine with regions
pub record TagsAgree : Type 0 where
  pub trace : (image : ImageParts) (inputs : List ℕ) (steps events : ℕ) → IsWellFormed image → All IsWord inputs →
      (tag_machine image [] inputs steps events).state.core.trace ≡ (machine image inputs steps events).state.trace
  pub stop : (image : ImageParts) (inputs : List ℕ) (steps events : ℕ) → IsWellFormed image → All IsWord inputs →
      (tag_machine image [] inputs steps events).stop ≡ (machine image inputs steps events).stop
