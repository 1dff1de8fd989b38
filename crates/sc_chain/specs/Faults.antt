-- Why a program has no explanation.
use Rattle.sc_chain.specs.Common.{ProgramTree, image_of}
use Rattle.sc_image.specs.Prelude.{IsButFor}
use Rattle.sc_image.specs.declared.parts.ImageParts.{ImageParts}
use Rattle.std.specs.Prelude.{◌≡◌, ℕ, Bool, Err, Ok}
use Rattle.sc_chain.specs.declared.fault.ExplainFault.{ExplainFault}
use Rattle.sc_chain.specs.declared.fault.ExplainFault.TheVariants.{CompileFault, OutOfMemory}
use Rattle.sc_chain.specs.declared.fault.ImageFault.{ImageFault}
use Rattle.sc_chain.specs.declared.fault.ImageFault.TheVariants as image_fault

-- the program has no image, for what of it is too large, or memory ran out
abbrev pub IsFault : ProgramTree → ExplainFault → Type 0
IsFault program (CompileFault fault) = image_of program ≡ Err fault
IsFault program OutOfMemory = Unit {0}

-- the image isn't the program's own but for any set of given compartments
pub record IsAnotherProgram (program : ProgramTree) (image : ImageParts) : Type 0 where
  pub own : ImageParts
  pub compiled : image_of program ≡ Ok own
  pub differs : (given : ℕ → Bool) → IsButFor given own image → ⊥

-- the program has no image, for what of it is too large; or the image is of another program; or memory ran out
abbrev pub IsImageFault : ProgramTree → ImageParts → ImageFault → Type 0
IsImageFault program image (image_fault.CompileFault fault) = image_of program ≡ Err fault
IsImageFault program image image_fault.Differs = IsAnotherProgram program image
IsImageFault program image image_fault.OutOfMemory = Unit {0}
