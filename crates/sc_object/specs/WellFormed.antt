-- Which parts make an object: those whose bytes have no cause.
use Rattle.sc_base.specs.Prelude.{is_name, most_compartments, most_exports, most_params}
use Rattle.sc_image.specs.Prelude.{IsByte, IsWord, most_globals, stretch}
use Rattle.std.specs.Prelude.{◌≢◌, ◌*◌, ◌^◌, ◌<◌, ◌≤◌, ℕ, ◌==◌, List, length, codes, All, IsTrue}
use Rattle.sc_fields.specs.declared.import.ImportPart.{ImportPart}
use Rattle.sc_object.specs.declared.parts.Face.{Face}
use Rattle.sc_object.specs.declared.parts.FaceExport.{FaceExport}
use Rattle.sc_object.specs.declared.parts.ObjectParts.{ObjectParts}
use Rattle.sc_object.specs.Rules.{is_start, keeps_rules}

pub record IsFaceExport (export : FaceExport) : Type 0 where
  pub name : IsTrue (is_name export.name)
  pub params : export.params ≤ most_params

-- a face, where there are `comps` compartments
pub record IsFace (comps : ℕ) (face : Face) : Type 0 where
  pub name : IsTrue (is_name face.name)
  -- `Env` is the name of the environment, which offers `input` and `output`
  pub no_environment : face.name ≢ codes "Env"
  pub few_exports : length face.exports ≤ most_exports
  pub exports : All IsFaceExport face.exports
  pub few_imports : length face.imports ≤ most_exports
  pub imports : All {X = ImportPart} (λ import. import.comp < comps) face.imports
  pub indexes : All {X = ImportPart} (λ import. import.index < 2 ^ 16) face.imports

pub record IsObject (object : ObjectParts) : Type 0 where
  pub few_comps : length object.faces ≤ most_compartments
  -- so there is at least one compartment
  pub main : object.main < length object.faces
  pub own : object.own < length object.faces
  pub faces : All (IsFace (length object.faces)) object.faces
  pub short_code : 4 * length object.code ≤ stretch
  pub words : All IsWord object.code
  pub start : IsTrue (is_start (object.main == object.own) (length object.code) object.main_at)
  pub short_globals : length object.globals ≤ most_globals
  pub bytes : All IsByte object.globals
  -- names and imports are distinct, imports are offered, and there is a word of code for each own export
  pub rules : IsTrue (keeps_rules object)

pub record AreObjects (objects : List ObjectParts) : Type 0 where
  pub some : 0 < length objects
  pub few : length objects < 2 ^ 32
  pub each : All IsObject objects
