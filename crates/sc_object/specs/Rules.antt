-- The rules on an object that can't be checked field by field, as tests.
use Rattle.sc_image.specs.Prelude.{are_distinct_by, is_same_import, is_same_name}
use Rattle.std.specs.Prelude.{ℕ, suc, ◌/◌, ◌%◌, Bool, true, false, ◌&&◌, ◌==◌, not, nat_le, nat_lt, List, [], ◌∷◌}
use Rattle.std.specs.Prelude.{length, map, slice_get, if◌then◌else◌}
use Rattle.std.specs.List.{list_all}
use Rattle.std.specs.Option.{option_map_or}
use Rattle.sc_fields.specs.declared.import.ImportPart.{ImportPart}
use Rattle.sc_object.specs.declared.parts.Face.{Face}
use Rattle.sc_object.specs.declared.parts.ObjectParts.{ObjectParts}

-- an offset of `main`: in the object of the main compartment that of a word of its code, which has `words` words
abbrev pub is_start : (is_main : Bool) → (words at : ℕ) → Bool
is_start is_main words at = if is_main then at % 4 == 0 && nat_lt (at / 4) words else at == 0

-- compartment c may import it: an export of another compartment
abbrev pub is_offered : List Face → (c : ℕ) → ImportPart → Bool
is_offered faces c import =
    not (import.comp == c) && option_map_or (λ face. nat_lt import.index (length face.exports))
    (slice_get faces import.comp) false

abbrev pub face_keeps : List Face → (c : ℕ) → Face → Bool
face_keeps faces c face =
    are_distinct_by is_same_name (map (λ export. export.name) face.exports) &&
    (list_all (is_offered faces c) face.imports && are_distinct_by is_same_import face.imports)

-- the rules of the compartments from number c on
abbrev pub faces_keep : List Face → (c : ℕ) → List Face → Bool
faces_keep all c [] = true
faces_keep all c (face ∷ faces) = face_keeps all c face && faces_keep all (suc c) faces

-- how many functions the own compartment offers
abbrev pub own_exports : ObjectParts → ℕ
own_exports object = option_map_or (λ face. length face.exports) (slice_get object.faces object.own) 0

abbrev pub keeps_rules : ObjectParts → Bool
keeps_rules object =
    are_distinct_by is_same_name (map (λ face. face.name) object.faces) &&
    (faces_keep object.faces 0 object.faces && nat_le (own_exports object) (length object.code))
