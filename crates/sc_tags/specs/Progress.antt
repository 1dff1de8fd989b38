-- A loaded machine with tags, as contracts see it.
use Rattle.sc_tags.specs.Common.{ByteMemory, ImageParts, RunOf, TagRange}
use Rattle.sc_tags.specs.Levels.{with_levels}
use Rattle.sc_tags.specs.TagHart.{Stores, bytes_of}
use Rattle.sc_tags.specs.TagStep.{tag_run}
use Rattle.sc_tags.specs.Tagged.{Tagged, tag_start}
use Rattle.sc_image.specs.Prelude.{continued}
use Rattle.sc_machine.specs.Progress.{Progress, state_of}
use Rattle.sc_base.specs.declared.stop.Stop.TheVariants.{StepsOut}
use Rattle.std.specs.Prelude.{List, fold, ℕ, ◌≡◌}

-- what a machine was loaded with, and how far its run is
pub record TagProgress (S : Type 0) : Type 0 where
  -- all but the ranges, as of the machine with regions
  pub machine : Progress (Stores S)
  pub ranges : List TagRange

-- its state, by the bytes of a store
abbrev pub tagged_of : {S : Type 0} → (S → ByteMemory) → TagProgress S → Tagged
tagged_of bytes progress = with_levels (state_of (bytes_of bytes) progress.machine)

-- its run so far
abbrev pub tag_run_of : {S : Type 0} → (S → ByteMemory) → TagProgress S → RunOf Tagged
tag_run_of bytes progress = record { state = tagged_of bytes progress; stop = progress.machine.stop }

-- the run of a machine that was only loaded
abbrev pub tag_loaded : ImageParts → RunOf Tagged
tag_loaded image = record { state = tag_start image; stop = StepsOut }

-- since it was loaded, the machine was called with at most these numbers of further steps
abbrev pub IsTagCalled : {S : Type 0} → (S → ByteMemory) → TagProgress S → (steps : List ℕ) → Type 0
IsTagCalled bytes progress steps =
    let machine = progress.machine in
    tag_run_of bytes progress ≡ fold
    (λ earlier more. continued (tag_run machine.image progress.ranges machine.inputs machine.events more) earlier)
    (tag_loaded machine.image) steps
