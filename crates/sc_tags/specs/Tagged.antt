-- The state of the machine with tags, and what calls and returns across compartments do to levels and capabilities.
use Rattle.sc_tags.specs.Common.{Crossing, ImageParts, MachineState, crossing_to, has_result, on_end, on_entry}
use Rattle.sc_tags.specs.Common.{on_return_to, start}
use Rattle.sc_tags.specs.Tags.{first_bytes}
use Rattle.std.specs.Prelude.{None, Option, Some, [], nat_eq, suc, zero, ℕ, if◌then◌else◌}

pub record Tagged : Type 0 where
  -- the state of the machine with regions, where memory has all owned bytes, those of code too, and where the cross
  -- stack stays empty
  pub core : MachineState
  -- the call level of the pc, which has the tag (active compartment, level)
  pub level : ℕ
  -- the live return capability of each level, if there is one
  pub capabilities : ℕ → Option Crossing

-- capabilities with another, or none, at a level
abbrev pub at_level : (level : ℕ) → Option Crossing → (ℕ → Option Crossing) → ℕ → Option Crossing
at_level level capability capabilities l = if nat_eq l level then capability else capabilities l

-- the run starts at level 0 with no capability
abbrev pub tag_start : ImageParts → Tagged
tag_start image = record {
  core = record (start image) { memory = first_bytes image };
  level = 0;
  capabilities = λ level. None;
}

-- a call makes a capability of the level that it is made at, and goes on at the next
abbrev pub on_tag_call : Tagged → (to index params entry : ℕ) → Tagged
on_tag_call tagged to index params entry = record {
  core = on_entry tagged.core to index params entry;
  level = suc tagged.level;
  capabilities = at_level tagged.level (Some (crossing_to tagged.core to index)) tagged.capabilities;
}

abbrev pub on_tag_end : Tagged → Tagged
on_tag_end tagged = record tagged { core = on_end tagged.core }

-- a return to a level consumes the capability of that level: there is one at each level below the call level, so that
-- the case without one is never met
abbrev pub returned_by : ImageParts → Tagged → (level : ℕ) → Option Crossing → Tagged
returned_by image tagged level None = on_tag_end tagged
returned_by image tagged level (Some crossing) = record {
  core = on_return_to (has_result image crossing.callee crossing.entry) tagged.core crossing [];
  level = level;
  capabilities = at_level level None tagged.capabilities;
}

-- a return through the gate at a level: at level 0 the run ends
abbrev pub on_tag_return : ImageParts → Tagged → (level : ℕ) → Tagged
on_tag_return image tagged zero = on_tag_end tagged
on_tag_return image tagged (suc level) = returned_by image tagged level (tagged.capabilities level)
