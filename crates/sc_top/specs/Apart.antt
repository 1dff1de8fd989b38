-- What `run` and `exec` give away of a set of compartments: laws of two reports.
use Rattle.sc_top.specs.Common.{Accepts, IsImage, IsSource, MachineRun, ProgramTree, SourceParts, image_interfaces}
use Rattle.sc_top.specs.Common.{image_of, machine}
use Rattle.sc_word.specs.Prelude.{word_of}
use Rattle.sc_image.specs.Prelude.{AgreeBut, AgreeUpTo, AreApart, HaveParted, HaveStopped}
use Rattle.sc_image.specs.Apart.{OnlySetTakesMore}
use Rattle.sc_image.specs.Common.{StepsOut}
use Rattle.sc_image.specs.declared.parts.ImageParts.{ImageParts}
use Rattle.sc_compile.specs.Prelude.{SameSectionsBut}
use Rattle.sc_top_words.specs.declared.command.Command.TheVariants.{Exec, Run}
use Rattle.sc_top_words.specs.declared.command.RunOptions.{RunOptions}
use Rattle.std.specs.Prelude.{◌≡◌, ◌≢◌, ◌⊎◌, ℕ, Bool, false, List, map, slice_get, Ok}
use Rattle.sc_top.specs.Output.{IsOutput, machine_run, machine_text}

-- A set of compartments is a test of their numbers.

-- Two accepted texts whose programs have the same interfaces, and the same sections outside a set but for the lines of
-- their parts.
pub record FitBut (set : ℕ → Bool) (text other : List ℕ) : Type 0 where
  pub program : ProgramTree
  pub its_program : ProgramTree
  pub accepted : Accepts text program
  pub its_accepted : Accepts other its_program
  pub same : SameSectionsBut set program its_program

-- Two accepted texts with the same interfaces, and the same sections outside a set byte for byte.
pub record SameTextsBut (set : ℕ → Bool) (text other : List ℕ) : Type 0 where
  pub source : SourceParts
  pub its_source : SourceParts
  pub parts : IsSource source
  pub its_parts : IsSource its_source
  pub whole : source.bytes ≡ text
  pub its_whole : its_source.bytes ≡ other
  pub interfaces : source.program.interfaces ≡ its_source.program.interfaces
  pub sections : (comp : ℕ) → set comp ≡ false → slice_get source.sections comp ≡ slice_get its_source.sections comp

-- Such texts have the same sections outside the set.
abbrev pub SameTextsFit : Type 0
SameTextsFit = (set : ℕ → Bool) (text other : List ℕ) → SameTextsBut set text other → FitBut set text other

-- options with the same inputs and the same limit of events
pub record AskAlike (options its_options : RunOptions) : Type 0 where
  pub inputs : options.inputs ≡ its_options.inputs
  pub events : options.events ≡ its_options.events

-- the machine's run on an image with these options, for each number of steps
abbrev pub runs_of : RunOptions → ImageParts → (steps : ℕ) → MachineRun
runs_of options image steps = machine image (map word_of options.inputs) steps options.events

-- The runs of two images with these options give away of a set of compartments only its own events, its traps and the
-- time that it takes.
pub record RunApart (set : ℕ → Bool) (options its_options : RunOptions) (one other : ImageParts) : Type 0 where
  -- The runs are apart.
  pub apart : AreApart set one other (runs_of options one) (runs_of its_options other) options.steps its_options.steps
  -- So one trace is a prefix of the other, or they go on with different events of one compartment of the set.
  pub traces : AgreeUpTo set (machine_run options one).state.trace (machine_run its_options other).state.trace
  -- Where neither run is out of steps, both stop for the same cause with the same trace, or they part in the set.
  pub stops : (machine_run options one).stop ≢ StepsOut → (machine_run its_options other).stop ≢ StepsOut →
      HaveStopped (machine_run options one) (machine_run its_options other) ⊎
      HaveParted set (machine_run options one) (machine_run its_options other)
  -- Only compartments of the set delay the others.
  pub delays : OnlySetTakesMore set (runs_of options one) (runs_of its_options other) options.steps its_options.steps

-- Two texts are the reports of runs that are apart, on the images of two programs.
pub record ReportApart (set : ℕ → Bool) (program its_program : ProgramTree) (options its_options : RunOptions)
    (out its : List ℕ) : Type 0
  where
    pub image : ImageParts
    pub its_image : ImageParts
    pub compiled : image_of program ≡ Ok image
    pub its_compiled : image_of its_program ≡ Ok its_image
    pub written : out ≡ machine_text program.interfaces options image
    pub its_written : its ≡ machine_text program.interfaces its_options its_image
    pub apart : RunApart set options its_options image its_image

-- What `run` writes for two texts that have the same sections outside a set: the runs are apart.
abbrev pub SectionsAreApart : Type 0
SectionsAreApart =
    (set : ℕ → Bool) (options its_options : RunOptions) (text other out its : List ℕ) → AskAlike options its_options →
    (fit : FitBut set text other) → IsOutput (Run options) text out → IsOutput (Run its_options) other its →
    ReportApart set fit.program fit.its_program options its_options out its

-- Two texts are the reports of runs that are apart, on two images, each by its image's own names.
pub record ExecutedApart (set : ℕ → Bool) (one other : ImageParts) (options its_options : RunOptions)
    (out its : List ℕ) : Type 0
  where
    pub written : out ≡ machine_text (image_interfaces one) options one
    pub its_written : its ≡ machine_text (image_interfaces other) its_options other
    pub apart : RunApart set options its_options one other

-- What `exec` writes for two images that agree outside a set, as images do that are the same there: the runs are apart.
abbrev pub ExecutionsAreApart : Type 0
ExecutionsAreApart =
    (set : ℕ → Bool) (options its_options : RunOptions) (bytes its_bytes out its : List ℕ) →
    AskAlike options its_options → (one : IsImage bytes) (other : IsImage its_bytes) →
    AgreeBut set one.image other.image → IsOutput (Exec options) bytes out → IsOutput (Exec its_options) its_bytes its →
    ExecutedApart set one.image other.image options its_options out its
