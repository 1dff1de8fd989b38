-- What is read from the bytes of small images, and why other bytes are none.
use Rattle.sc_image.proofs.Common.{Compartment, Contents, Count, Err, Exports, ImageParts, ImportPart, Imports, List}
use Rattle.sc_image.proofs.Common.{Mark, None, Ok, Some, Start, Version, Whole, [], bad, bad_part, code_at, codes}
use Rattle.sc_image.proofs.Common.{comp_name_at, false, fields_at, globals_at, image_at, image_bytes, image_in}
use Rattle.sc_image.proofs.Common.{import_at, imports_at}
use Rattle.sc_image.proofs.Common.{most_globals, is_name, keeps_rules, map, nat_le, number_that, parts_at}
use Rattle.sc_image.proofs.Common.{range_with_len, stretch, read_comp, read_exports, read_name, refl, replicate, take}
use Rattle.sc_image.proofs.Common.{true, word_at, ℕ, ◌++◌, ◌∷◌, ◌≡◌}
use Rattle.sc_image.specs.Reading.{read_export}
use Rattle.sc_image.proofs.FileFields.{comp_with, export_with}

-- from the name of a compartment `M` on, which has these flags, outputs 7 and returns 0
abbrev from_name : (flags : ℕ) → List ℕ
from_name flags = 1 ∷ 0x4d ∷ flags ∷ 0 ∷ 0 ∷ 0 ∷ 0 ∷ 0x14 ∷ 0 ∷ 0 ∷ 0 ∷
    0x13 ∷ 0x05 ∷ 0x70 ∷ 0 ∷ 0x93 ∷ 0x08 ∷ 0x20 ∷ 0 ∷ 0x73 ∷ 0 ∷ 0 ∷ 0 ∷ 0x13 ∷ 0x05 ∷ 0 ∷ 0 ∷ 0x67 ∷ 0x80 ∷ 0 ∷ 0 ∷ 0 ∷
    0 ∷ 0 ∷ 0 ∷ []

-- the image of that compartment
abbrev flagged : (version flags : ℕ) → List ℕ
flagged version flags = 0x53 ∷ 0x43 ∷ 0x49 ∷ 0x4d ∷ version ∷ 0 ∷ 1 ∷ 0 ∷ 0 ∷ 0 ∷ 0 ∷ 1 ∷ from_name flags

abbrev seven : List ℕ
seven = flagged 1 2

-- each proper prefix of it, and it with one byte more
prefixes : (map (λ k. bad (take k seven)) (range_with_len 0 47) ≡
    replicate 4 (Some Mark) ++ (replicate 2 (Some Version) ++
    (replicate 1 (Some Count) ++ (replicate 5 (Some Start) ++ (replicate 3 (Some Compartment) ++
    (replicate 2 (Some Exports) ++ (replicate 2 (Some Imports) ++ replicate 28 (Some Contents)))))))) ×
    (bad seven ≡ None) ×
    (bad (seven ++ 0 ∷ []) ≡ Some Whole) ×
    (bad_part (seven ++ 0 ∷ []) ≡ None) ×
    (bad_part (take 46 seven) ≡ Some Contents)
unfolding image_in image_at parts_at read_comp comp_name_at read_name read_exports imports_at code_at globals_at
    fields_at is_name word_at
prefixes = (refl, refl, refl, refl, refl)

-- fields that are there and bad
abbrev starting : (version count main entry : ℕ) → List ℕ
starting version count main entry = 0x53 ∷ 0x43 ∷ 0x49 ∷ 0x4d ∷ version ∷ 0 ∷ count ∷ main ∷ entry ∷ 0 ∷ 0 ∷ 1 ∷
    from_name 2

starts : (bad (0x53 ∷ 0x43 ∷ 0x49 ∷ 0x4e ∷ []) ≡ Some Mark) ×
    (bad (starting 0 1 0 0) ≡ Some Version) ×
    (bad (starting 3 1 0 0) ≡ Some Version) ×
    (bad (starting 1 0 0 0) ≡ Some Count) ×
    (bad (starting 1 33 0 0) ≡ Some Count) ×
    (bad (starting 1 32 31 0) ≡ Some Compartment) ×
    (bad (starting 1 32 32 0) ≡ Some Start) ×
    (bad (starting 1 1 1 0) ≡ Some Start) ×
    (bad (starting 1 1 0 20) ≡ Some Whole) ×
    (bad (starting 1 1 0 2) ≡ Some Whole) ×
    (bad (starting 1 1 0 16) ≡ None)
unfolding image_in image_at parts_at read_comp comp_name_at read_name read_exports imports_at code_at globals_at
    fields_at is_name word_at
starts = (refl, refl, refl, refl, refl, refl, refl, refl, refl, refl, refl)

-- a heap is known from version 2 on, and a fourth flag in no version
flags : (bad (flagged 1 3) ≡ None) ×
    (bad (flagged 1 4) ≡ Some Compartment) ×
    (bad (flagged 1 6) ≡ Some Compartment) ×
    (bad (flagged 2 7) ≡ None) ×
    (bad (flagged 2 8) ≡ Some Compartment)
unfolding image_in image_at parts_at read_comp comp_name_at read_name read_exports imports_at code_at globals_at
    fields_at is_name word_at
flags = (refl, refl, refl, refl, refl)

-- that image, read
abbrev outputs_seven : (flags : ℕ) → ImageParts
outputs_seven flags = record {
  main = 0;
  entry = 0x01000000;
  comps = comp_with (codes "M") flags [] [] (0x00700513 ∷ 0x00200893 ∷ 0x00000073 ∷ 0x00000513 ∷ 0x00008067 ∷ []) [] ∷
      [];
}

reads_flags : (image_in (flagged 2 6) ≡ Ok (outputs_seven 6)) ×
    (image_in (flagged 2 2) ≡ Ok (outputs_seven 2)) ×
    -- what was read of version 1 is written in version 2
    (image_in (flagged 1 2) ≡ Ok (outputs_seven 2)) ×
    (image_bytes (outputs_seven 2) ≡ flagged 2 2)
unfolding image_in image_at parts_at read_comp comp_name_at read_name read_exports imports_at code_at globals_at
    fields_at is_name word_at
reads_flags = (refl, refl, refl, refl)

-- names of 1 to 63 bytes
names : (read_name Exports (0 ∷ 65 ∷ []) ≡ Err Exports) ×
    (read_name Exports (1 ∷ 65 ∷ []) ≡ Ok (65 ∷ [], [])) ×
    (read_name Exports (1 ∷ 48 ∷ []) ≡ Err Exports) ×
    (read_name Exports (63 ∷ replicate 63 65 ++ 7 ∷ []) ≡ Ok (replicate 63 65, 7 ∷ [])) ×
    (read_name Exports (64 ∷ replicate 64 65) ≡ Err Exports) ×
    (comp_name_at Compartment (3 ∷ codes "Env") ≡ Err Compartment) ×
    (read_name Exports (3 ∷ codes "Env") ≡ Ok (codes "Env", []))
unfolding read_name comp_name_at is_name
names = (refl, refl, refl, refl, refl, refl, refl)

-- the tables of a compartment, in an image of 2
tables : (number_that (λ n. nat_le n 4096) Exports 2 (0 ∷ 16 ∷ []) ≡ Ok (4096, [])) ×
    (read_exports (1 ∷ 16 ∷ replicate 100 1) ≡ Err Exports) ×
    (read_export (1 ∷ 65 ∷ 8 ∷ 1 ∷ 4 ∷ 3 ∷ 2 ∷ 1 ∷ []) ≡
    Ok (record { name = 65 ∷ []; params = 8; result = true; entry = 0x01020304 }, [])) ×
    (read_export (1 ∷ 65 ∷ 9 ∷ 1 ∷ 4 ∷ 3 ∷ 2 ∷ 1 ∷ []) ≡ Err Exports) ×
    (read_export (1 ∷ 65 ∷ 8 ∷ 2 ∷ 4 ∷ 3 ∷ 2 ∷ 1 ∷ []) ≡ Err Exports) ×
    (imports_at Imports 2 (1 ∷ 16 ∷ replicate 100 1) ≡ Err Imports) ×
    (import_at Imports 2 (1 ∷ 3 ∷ 2 ∷ []) ≡ Ok (record { comp = 1; index = 0x0203 }, [])) ×
    (import_at Imports 2 (2 ∷ 3 ∷ 2 ∷ []) ≡ Err Imports) ×
    (code_at Contents stretch (3 ∷ 0 ∷ 0 ∷ 0 ∷ 1 ∷ 2 ∷ 3 ∷ []) ≡ Err Contents) ×
    (code_at Contents stretch (4 ∷ 0 ∷ 16 ∷ 0 ∷ []) ≡ Err Contents) ×
    (globals_at Contents most_globals (1 ∷ 0 ∷ 7 ∷ 0 ∷ []) ≡ Err Contents) ×
    (globals_at Contents most_globals (3 ∷ 0 ∷ 0 ∷ 0 ∷ 7 ∷ 8 ∷ 9 ∷ []) ≡ Ok (7 ∷ 8 ∷ 9 ∷ [], []))
unfolding read_exports read_export imports_at import_at code_at globals_at fields_at read_name is_name
tables = (refl, refl, refl, refl, refl, refl, refl, refl, refl, refl, refl, refl)

-- A with these imports, and B with two functions at these places of its code of two words
abbrev pair : (imports : List ImportPart) → (name : List ℕ) → (first second : ℕ) → ImageParts
pair imports name first second = record {
  main = 0;
  entry = 0x01000000;
  comps = comp_with (codes "A") 0 [] imports (0 ∷ []) [] ∷ comp_with name 1
      (export_with (codes "f") 0 1 first ∷ export_with (codes "g") 1 0 second ∷ []) [] (0 ∷ 0 ∷ []) [] ∷ [];
}

abbrev import : (comp index : ℕ) → ImportPart
import comp index = record { comp = comp; index = index }

rules : (keeps_rules (pair (import 1 0 ∷ import 1 1 ∷ []) (codes "B") 0x01100000 0x01100004) ≡ true) ×
    -- a compartment's name twice
    (keeps_rules (pair [] (codes "A") 0x01100000 0x01100004) ≡ false) ×
    -- the same entry twice, one that is no multiple of 4, one past the code, and one in the code of another
    (keeps_rules (pair [] (codes "B") 0x01100000 0x01100000) ≡ false) ×
    (keeps_rules (pair [] (codes "B") 0x01100000 0x01100002) ≡ false) ×
    (keeps_rules (pair [] (codes "B") 0x01100000 0x01100008) ≡ false) ×
    (keeps_rules (pair [] (codes "B") 0x01100000 0x01000000) ≡ false) ×
    -- an import of the compartment's own, one past the exports, and one twice
    (keeps_rules (pair (import 0 0 ∷ []) (codes "B") 0x01100000 0x01100004) ≡ false) ×
    (keeps_rules (pair (import 1 2 ∷ []) (codes "B") 0x01100000 0x01100004) ≡ false) ×
    (keeps_rules (pair (import 1 1 ∷ import 1 1 ∷ []) (codes "B") 0x01100000 0x01100004) ≡ false)
unfolding word_at
rules = (refl, refl, refl, refl, refl, refl, refl, refl, refl)

-- an image with every table is read from its bytes
reads_all : image_in (image_bytes (pair (import 1 0 ∷ import 1 1 ∷ []) (codes "B") 0x01100000 0x01100004)) ≡
    Ok (pair (import 1 0 ∷ import 1 1 ∷ []) (codes "B") 0x01100000 0x01100004)
unfolding image_in image_at parts_at read_comp comp_name_at read_name read_exports read_export imports_at
    import_at
    code_at globals_at fields_at is_name word_at
reads_all = refl
