-- The rules on a whole image, as tests: what can't be checked field by field.
use Rattle.std.specs.Prelude.{ℕ, suc, Bool, true, false, ◌&&◌, ◌==◌, not, nat_lt, List, [], ◌∷◌, length, map, slice_get}
use Rattle.std.specs.Prelude.{is_some}
use Rattle.std.specs.Option.{option_map_or}
use Rattle.std.specs.List.{list_all}
use Rattle.std.specs.Set.{distinct_count}
pub use Rattle.sc_fields.specs.Prelude.{is_same_name}
use Rattle.sc_image.specs.declared.parts.ImageParts.{ImageParts}
use Rattle.sc_image.specs.declared.parts.CompPart.{CompPart}
use Rattle.sc_image.specs.declared.parts.ExportPart.{ExportPart}
use Rattle.sc_fields.specs.declared.import.ImportPart.{ImportPart}
use Rattle.sc_image.specs.Layout.{word_at}

-- no two are the same: they count as many where the same ones count once
abbrev pub are_distinct_by : {A : Type 0} → (A → A → Bool) → List A → Bool
are_distinct_by same xs = distinct_count same xs == length xs

abbrev pub is_same_import : ImportPart → ImportPart → Bool
is_same_import a b = a.comp == b.comp && a.index == b.index

-- the address of a whole word of the code of compartment c
abbrev pub is_entry : ImageParts → (c entry : ℕ) → Bool
is_entry image c entry = is_some (word_at image c entry)

-- compartment c may import it: an export of another compartment
abbrev pub is_importable : ImageParts → (c : ℕ) → ImportPart → Bool
is_importable image c import =
    not (import.comp == c) && option_map_or (λ comp. nat_lt import.index (length comp.exports))
    (slice_get image.comps import.comp) false

abbrev pub exports_keep : ImageParts → (c : ℕ) → List ExportPart → Bool
exports_keep image c exports =
    list_all (λ export. is_entry image c export.entry) exports &&
    (are_distinct_by is_same_name (map (λ export. export.name) exports) &&
    are_distinct_by ◌==◌ (map (λ export. export.entry) exports))

abbrev pub imports_keep : ImageParts → (c : ℕ) → List ImportPart → Bool
imports_keep image c imports = list_all (is_importable image c) imports && are_distinct_by is_same_import imports

-- the rules of the compartments from number c on
abbrev pub comps_keep : ImageParts → (c : ℕ) → List CompPart → Bool
comps_keep image c [] = true
comps_keep image c (comp ∷ comps) =
    (exports_keep image c comp.exports && imports_keep image c comp.imports) && comps_keep image (suc c) comps

abbrev pub keeps_rules : ImageParts → Bool
keeps_rules image =
    are_distinct_by is_same_name (map (λ comp. comp.name) image.comps) &&
    (is_entry image image.main image.entry && comps_keep image 0 image.comps)
