-- The bytes of fields. Numbers are little-endian.
use Rattle.byteorder.specs.Endian.{little_bytes}
use Rattle.std.specs.Prelude.{ℕ, ◌*◌, Bool, List, ◌∷◌, ◌++◌, length, flat_map, if◌then◌else◌}
use Rattle.sc_fields.specs.declared.import.ImportPart.{ImportPart}

abbrev pub bit : Bool → ℕ
bit b = if b then 1 else 0

-- a name, after its length in one byte
abbrev pub name_bytes : List ℕ → List ℕ
name_bytes name = length name ∷ name

abbrev pub import_bytes : ImportPart → List ℕ
import_bytes import = import.comp ∷ little_bytes 2 import.index

abbrev pub imports_bytes : List ImportPart → List ℕ
imports_bytes imports = little_bytes 2 (length imports) ++ flat_map import_bytes imports

-- the length in bytes, and then the words
abbrev pub code_bytes : List ℕ → List ℕ
code_bytes code = little_bytes 4 (4 * length code) ++ flat_map (little_bytes 4) code

abbrev pub globals_bytes : List ℕ → List ℕ
globals_bytes globals = little_bytes 4 (length globals) ++ globals
