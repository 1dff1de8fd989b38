-- What holds of all accounts.
use Rattle.sc_chain.specs.Common.{SourceParts, image_of}
use Rattle.sc_chain.specs.Chain.{IsExplained, IsImageExplained}
use Rattle.sc_core.specs.declared.explanation.Explanation.{Explanation}
use Rattle.sc_image.specs.declared.parts.ImageParts.{ImageParts}
use Rattle.sc_types.specs.Prelude.{IsSource}
use Rattle.std.specs.Prelude.{◌≡◌, ◌↔◌, ℕ, List, Ok}

-- An account of the program's own image, as of an image in which compartments may be given, is an account of the
-- program: nobody is given.
abbrev pub OwnImagesAreExplained : Type 0
OwnImagesAreExplained =
    (source : SourceParts) (image : ImageParts) (inputs : List ℕ) (steps events : ℕ) (explanation : Explanation) →
    IsSource source → image_of source.program ≡ Ok image →
    IsImageExplained source image inputs steps events explanation ↔
    IsExplained source inputs steps events explanation
