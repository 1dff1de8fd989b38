-- Bytes and images: each image has its bytes, and bytes are those of one image at most.
use Rattle.std.specs.Prelude.{◌≡◌, ◌≤◌, ◌↔◌, ℕ, false, List, All, None, Ok, Some, length, take}
use Rattle.sc_image.specs.declared.fault.BadImage.{BadImage}
use Rattle.sc_image.specs.declared.parts.ImageParts.{ImageParts}
use Rattle.sc_image.specs.WellFormed.{IsByte, IsWellFormed}
use Rattle.sc_image.specs.Bytes.{bytes_in_version, image_bytes, latest_version}
use Rattle.sc_image.specs.Reading.{bad, bad_part}
unfoldable use Rattle.sc_image.specs.Reading.{image_in}

-- the bytes are those of the image in a version of the format
pub record AreBytesOf (image : ImageParts) (bytes : List ℕ) : Type 0 where
  pub version : ℕ
  pub some : 1 ≤ version
  pub known : version ≤ latest_version
  pub without_heap : version ≡ 1 → All (λ comp. comp.heap ≡ false) image.comps
  pub are : bytes ≡ bytes_in_version version image

-- the bytes are those of an image
pub record IsImage (bytes : List ℕ) : Type 0 where
  pub image : ImageParts
  pub well_formed : IsWellFormed image
  pub bytes_are : AreBytesOf image bytes

-- the first `place` bytes are those of the image
pub record BeginWith (image : ImageParts) (place : ℕ) (bytes : List ℕ) : Type 0 where
  pub within : place ≤ length bytes
  pub are : AreBytesOf image (take place bytes)

-- the bytes begin with those of an image
pub record BeginWithImage (bytes : List ℕ) : Type 0 where
  pub image : ImageParts
  pub place : ℕ
  pub well_formed : IsWellFormed image
  pub begin : BeginWith image place bytes

-- Bytes are those of one image at most.
abbrev pub BytesNameOneImage : Type 0
BytesNameOneImage =
    (bytes : List ℕ) (one other : ImageParts) → IsWellFormed one → IsWellFormed other → AreBytesOf one bytes →
    AreBytesOf other bytes → one ≡ other

-- What is written of an image is read as that image.
abbrev pub WrittenIsRead : Type 0
WrittenIsRead = (image : ImageParts) → IsWellFormed image → image_in (image_bytes image) ≡ Ok image

-- Bytes that have no cause for being none are those of an image, and those of an image have none.
abbrev pub BadOrImage : Type 0
BadOrImage = (bytes : List ℕ) → All IsByte bytes → (bad bytes ≡ None) ↔ IsImage bytes

-- Bytes begin with one image at most.
abbrev pub BytesBeginWithOne : Type 0
BytesBeginWithOne =
    (bytes : List ℕ) (one other : ImageParts) (place end : ℕ) → IsWellFormed one → IsWellFormed other →
    BeginWith one place bytes → BeginWith other end bytes → (one ≡ other) × (place ≡ end)

-- Bytes that have no cause for beginning with none begin with an image, and those that begin with one have none.
abbrev pub BadOrBegins : Type 0
BadOrBegins = (bytes : List ℕ) → All IsByte bytes → (bad_part bytes ≡ None) ↔ BeginWithImage bytes

-- The image with which bytes begin is the one that is read of all of them, where it ends with them.
abbrev pub PartIsWhole : Type 0
PartIsWhole =
    (bytes : List ℕ) (image : ImageParts) (place : ℕ) → IsWellFormed image → BeginWith image place bytes →
    place ≡ length bytes → image_in bytes ≡ Ok image

-- A cause why bytes begin with no image is the cause why they are none.
abbrev pub BadPartIsBad : Type 0
BadPartIsBad = (bytes : List ℕ) (cause : BadImage) → bad_part bytes ≡ Some cause → bad bytes ≡ Some cause
