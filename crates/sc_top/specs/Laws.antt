-- What holds of all outputs.
use Rattle.sc_top.specs.Common.{Accepts, ProgramTree}
use Rattle.std.specs.Prelude.{◌↔◌, ◌≡◌, List, None, map, ℕ}
use Rattle.std.specs.List.{AllZip, concat}
use Rattle.std.specs.List.Sorted.{IsPermutation}
use Rattle.sc_event.specs.declared.interface.Interface.{Interface}
use Rattle.sc_top_words.specs.declared.command.Command.TheVariants.{Compile, Exec, Link, Object, Run, Tags}
use Rattle.sc_top_words.specs.declared.command.RunOptions.{RunOptions}
use Rattle.sc_top.specs.Answer.{IsGood, IsWithin}
use Rattle.sc_top.specs.Output.{HasExplanation, HasImage, IsOutput}
use Rattle.sc_top.specs.Tagged.{tag_run}
use Rattle.sc_core.specs.declared.explanation.Explanation.{Explanation}
use Rattle.sc_image.specs.declared.parts.ImageParts.{ImageParts}

-- these bytes are good input of `exec`, which writes for them what `run` writes for the text
pub record RunsAs (options : RunOptions) (text bytes : List ℕ) : Type 0 where
  pub within : IsWithin (Exec options) bytes
  pub good : IsGood (Exec options) bytes
  pub same : (out : List ℕ) → IsOutput (Exec options) bytes out ↔ IsOutput (Run options) text out

-- what `compile` writes runs as its text does, for all options
abbrev pub CompiledImagesRun : Type 0
CompiledImagesRun =
    (options : RunOptions) (text bytes : List ℕ) → IsOutput Compile text bytes → RunsAs options text bytes

-- what `object` writes for the sections of a text, one object of each
pub record AreAllObjects (text : List ℕ) (objects : List (List ℕ)) : Type 0 where
  pub program : ProgramTree
  pub accepted : Accepts text program
  -- the names of its sections, in any order
  pub names : List (List ℕ)
  pub all : IsPermutation (map {A = Interface} (λ comp. comp.name) program.interfaces.comps) names
  -- and the objects in the same
  pub each : AllZip (λ name object. IsOutput (Object (record { section = name })) text object) names objects

-- these bytes are good input of `link`, which writes this image for them, and nothing else
pub record LinksTo (image bytes : List ℕ) : Type 0 where
  pub good : IsGood Link bytes
  pub same : (out : List ℕ) → IsOutput Link bytes out ↔ out ≡ image

-- What `object` writes for all sections of a text is linked to what `compile` writes for it, in any order.
-- `link` reads them only within its limit.
abbrev pub LinkingIsCompiling : Type 0
LinkingIsCompiling =
    (text image : List ℕ) (objects : List (List ℕ)) → IsOutput Compile text image → AreAllObjects text objects →
    LinksTo image (concat objects)

-- without a range `tags` writes what `exec` writes, whatever the bytes
abbrev pub TagsRunAsExec : Type 0
TagsRunAsExec =
    (options : RunOptions) (bytes out : List ℕ) →
    IsOutput (Tags options None) bytes out ↔ IsOutput (Exec options) bytes out

-- without a range the machine with tags has this trace on an image, and stops so
pub record IsTaggedRun (options : RunOptions) (explanation : Explanation) (image : ImageParts) : Type 0 where
  pub trace : (tag_run options None image).state.core.trace ≡ explanation.trace
  pub stop : (tag_run options None image).stop ≡ explanation.stop

-- the trace and the stop that `explain` accounts for are also those of the machine with tags on the program's image
abbrev pub ExplainedAreTagged : Type 0
ExplainedAreTagged =
    (options : RunOptions) (text : List ℕ) (has : HasExplanation options text) (image : ImageParts) →
    HasImage has.source.program image → IsTaggedRun options has.explanation image
