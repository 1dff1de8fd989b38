-- What the machine with tags does on an image, as a command asks for it.
use Rattle.sc_top.specs.Common.{Interfaces, IsImage, image_interfaces}
use Rattle.sc_word.specs.Prelude.{word_of}
use Rattle.sc_image.specs.Prelude.{RunOf}
use Rattle.sc_image.specs.declared.parts.ImageParts.{ImageParts}
use Rattle.sc_report.specs.Report.{run_text}
use Rattle.sc_tags.specs.Prelude.{Tagged, tag_machine}
use Rattle.sc_tags.specs.declared.tag.ByteTag.TheVariants.{Data}
use Rattle.sc_tags.specs.declared.tag.TagRange.{TagRange}
use Rattle.sc_top_words.specs.declared.command.DataRange.{DataRange}
use Rattle.sc_top_words.specs.declared.command.RunOptions.{RunOptions}
use Rattle.std.specs.Prelude.{◌≡◌, ℕ, List, [], ◌∷◌, map, Option, None, Some}

-- the bytes that are tagged as data of a compartment, if that is asked for
abbrev pub ranges_of : Option DataRange → List TagRange
ranges_of None = []
ranges_of (Some range) = record { start = range.start; bytes = range.bytes; tag = Data range.comp } ∷ []

-- the run of the machine with tags on an image
abbrev pub tag_run : RunOptions → Option DataRange → ImageParts → RunOf Tagged
tag_run options range image =
    tag_machine image (ranges_of range) (map word_of options.inputs) options.steps options.events

-- the same in words, by these names
abbrev pub tag_text : Interfaces → RunOptions → Option DataRange → ImageParts → List ℕ
tag_text names options range image =
    run_text names (tag_run options range image).state.core.trace (tag_run options range image).stop

-- the bytes are those of an image, and the text reports that run, by the image's own names
pub record IsTagged (options : RunOptions) (range : Option DataRange) (bytes text : List ℕ) : Type 0 where
  pub read : IsImage bytes
  pub written : text ≡ tag_text (image_interfaces read.image) options range read.image
