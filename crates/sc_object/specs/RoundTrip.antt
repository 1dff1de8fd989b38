-- Bytes and objects: each object has its bytes, and bytes are those of one list of objects at most, or have a first bad
-- object.
use Rattle.std.specs.Prelude.{◌≡◌, ◌<◌, ◌^◌, ◌⊎◌, ℕ, List, [], ◌∷◌, ◌++◌, length, flat_map, All, Ok, Err}
use Rattle.sc_image.specs.Prelude.{IsByte}
use Rattle.sc_object.specs.declared.fault.BadObject.{BadObject}
use Rattle.sc_object.specs.declared.parts.ObjectParts.{ObjectParts}
use Rattle.sc_object.specs.Bytes.{object_bytes}
unfoldable use Rattle.sc_object.specs.Reading.{object_at}
use Rattle.sc_object.specs.WellFormed.{AreObjects, IsObject}

-- the bytes are those of the objects, one after the other
pub record AreBytesOf (objects : List ObjectParts) (bytes : List ℕ) : Type 0 where
  pub good : AreObjects objects
  pub are : bytes ≡ flat_map object_bytes objects

-- The object of this index is the first that is bad, for this cause: before it stand as many objects. Where bytes are
-- left after good objects, one more begins; and where there are none at all, the first is missing.
pub record IsFirstBad (bytes : List ℕ) (index : ℕ) (cause : BadObject) : Type 0 where
  pub before : List ObjectParts
  pub rest : List ℕ
  pub number : index ≡ length before
  pub each : All IsObject before
  pub are : bytes ≡ flat_map object_bytes before ++ rest
  pub begins : (before ≡ []) ⊎ (0 < length rest)
  pub bad : object_at rest ≡ Err cause

-- one object more is read from what is left of the bytes, and this is left after it
pub record IsReadSo (before : List ObjectParts) (left : List ℕ) (after : List ObjectParts) (rest : List ℕ) :
    Type 0 where
  pub object : ObjectParts
  pub read : object_at left ≡ Ok (object, rest)
  pub added : after ≡ before ++ object ∷ []

-- What is written of an object is read as that object, whatever follows.
abbrev pub ObjectIsReadAgain : Type 0
ObjectIsReadAgain =
    (object : ObjectParts) (rest : List ℕ) → IsObject object →
    object_at (object_bytes object ++ rest) ≡ Ok (object, rest)

-- Bytes are those of one list of objects at most.
abbrev pub BytesNameOneList : Type 0
BytesNameOneList =
    (bytes : List ℕ) (one other : List ObjectParts) → AreBytesOf one bytes → AreBytesOf other bytes → one ≡ other

-- At most one object is the first bad one, and none where the bytes are those of objects.
pub record OneFirstBad : Type 0 where
  pub index : (bytes : List ℕ) (i j : ℕ) (cause its : BadObject) → IsFirstBad bytes i cause → IsFirstBad bytes j its →
      i ≡ j
  pub cause : (bytes : List ℕ) (i j : ℕ) (cause its : BadObject) → IsFirstBad bytes i cause → IsFirstBad bytes j its →
      cause ≡ its
  pub never : (bytes : List ℕ) (objects : List ObjectParts) (i : ℕ) (cause : BadObject) → AreBytesOf objects bytes →
      IsFirstBad bytes i cause → ⊥

-- Fewer than 2 ^ 32 bytes are those of objects, or have a first bad object.
abbrev pub ObjectsOrBad : Type 0
ObjectsOrBad = (bytes : List ℕ) → All IsByte bytes → length bytes < 2 ^ 32 →
    ((objects : List ObjectParts) × AreBytesOf objects bytes) ⊎
    ((index : ℕ) × (cause : BadObject) × IsFirstBad bytes index cause)
