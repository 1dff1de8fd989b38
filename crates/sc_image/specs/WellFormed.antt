-- Which parts make an image.
use Rattle.sc_base.specs.Prelude.{most_compartments, most_exports, most_params}
use Rattle.sc_base.specs.Word.{IsWord}
use Rattle.sc_image.specs.Common.{is_name}
use Rattle.std.specs.Prelude.{List, ◌≡◌, ◌≢◌, ℕ, ◌*◌, ◌^◌, ◌<◌, ◌≤◌, IsTrue, length, map, All, AllPairs, codes}
use Rattle.std.specs.Prelude.{slice_get, Some, IsSome}
use Rattle.std.specs.Option.{IsSomeAnd}
use Rattle.sc_image.specs.declared.parts.ImageParts.{ImageParts}
use Rattle.sc_image.specs.declared.parts.CompPart.{CompPart}
use Rattle.sc_image.specs.declared.parts.ExportPart.{ExportPart}
use Rattle.sc_fields.specs.declared.import.ImportPart.{ImportPart}
use Rattle.sc_image.specs.Layout.{stretch, most_globals, word_at}

-- no two of these are the same
abbrev pub IsDistinct : {A : Type 0} → List A → Type 0
IsDistinct xs = AllPairs (λ a b. a ≢ b) xs

-- an entry of compartment c: the address of a whole word of its code
abbrev pub IsEntry : ImageParts → ℕ → ℕ → Type 0
IsEntry image c entry = IsSome (word_at image c entry)

-- an export of compartment c
pub record IsExport (image : ImageParts) (c : ℕ) (export : ExportPart) : Type 0 where
  pub name : IsTrue (is_name export.name)
  pub params : export.params ≤ most_params
  pub entry : IsEntry image c export.entry

-- an import of compartment c: an export of another compartment
pub record IsImport (image : ImageParts) (c : ℕ) (import : ImportPart) : Type 0 where
  pub other : import.comp ≢ c
  pub offered : IsSomeAnd (slice_get image.comps import.comp) (λ comp. import.index < length comp.exports)

abbrev pub IsByte : ℕ → Type 0
IsByte byte = byte < 2 ^ 8

-- the compartment of number c
pub record IsComp (image : ImageParts) (c : ℕ) (comp : CompPart) : Type 0 where
  pub name : IsTrue (is_name comp.name)
  -- `Env` is the name of the environment, which offers `input` and `output`
  pub no_environment : comp.name ≢ codes "Env"
  pub few_exports : length comp.exports ≤ most_exports
  pub exports : All (IsExport image c) comp.exports
  pub export_names : IsDistinct (map (λ export. export.name) comp.exports)
  pub export_entries : IsDistinct (map (λ export. export.entry) comp.exports)
  pub few_imports : length comp.imports ≤ most_exports
  pub imports : All (IsImport image c) comp.imports
  pub distinct_imports : IsDistinct comp.imports
  pub short_code : 4 * length comp.code ≤ stretch
  pub words : All IsWord comp.code
  pub short_globals : length comp.globals ≤ most_globals
  pub bytes : All IsByte comp.globals

pub record IsWellFormed (image : ImageParts) : Type 0 where
  pub few_comps : length image.comps ≤ most_compartments
  -- so there is at least one compartment
  pub main : image.main < length image.comps
  pub entry : IsEntry image image.main image.entry
  pub comps : (c : ℕ) (comp : CompPart) → slice_get image.comps c ≡ Some comp → IsComp image c comp
  pub names : IsDistinct (map (λ comp. comp.name) image.comps)
