-- Reading files of bytes field by field, each field with the cause that it has where it is missing, incomplete or bad.
use Rattle.sc_base.specs.Prelude.{is_name, most_exports}
use Rattle.byteorder.specs.Endian.{little_number}
use Rattle.std.specs.Prelude.{◌≡◌, ℕ, zero, suc, ◌/◌, ◌%◌, Bool, ◌&&◌, ◌==◌, not, nat_lt, nat_le, List, [], ◌∷◌, length}
use Rattle.std.specs.Prelude.{take, drop, codes, Result, Ok, Err, if◌then◌else◌}
use Rattle.std.specs.Cmp.Lexicographic.{pointwise}
use Rattle.sc_fields.specs.declared.fault.FieldFault.{FieldFault}
use Rattle.sc_fields.specs.declared.fault.FieldFault.TheVariants as faults
use Rattle.sc_fields.specs.declared.import.ImportPart.{ImportPart}

infixl 10 ◌>>=◌
-- what is read next, unless what came before is bad
abbrev pub ◌>>=◌ : {A B C : Type 0} → Result A C → (A → Result B C) → Result B C
(Ok x) >>= next = next x
(Err cause) >>= next = Err cause

-- What a field says and the bytes after it, or its cause where it is missing, incomplete or bad.
abbrev pub Read : (C A : Type 0) → Type 0
Read C A = Result (A × List ℕ) C

-- it says this only where that is good
abbrev pub if_good : {A C : Type 0} → C → Bool → A → Result A C
if_good cause good x = if good then Ok x else Err cause

-- `size` bytes
abbrev pub bytes_at : {C : Type 0} → C → (size : ℕ) → List ℕ → Read C (List ℕ)
bytes_at cause size bytes = if_good cause (nat_le size (length bytes)) (take size bytes, drop size bytes)

-- a number of `size` bytes
abbrev pub number_at : {C : Type 0} → C → (size : ℕ) → List ℕ → Read C ℕ
number_at cause size bytes = if_good cause (nat_le size (length bytes)) (little_number size bytes, drop size bytes)

-- a number that passes a test
abbrev pub number_that : {C : Type 0} → (ℕ → Bool) → C → (size : ℕ) → List ℕ → Read C ℕ
number_that passes cause size bytes = do
  number ← number_at cause size bytes
  if_good cause (passes number.0) number

-- `count` fields of one kind
unfoldable pub fields_at : {A C : Type 0} → (List ℕ → Read C A) → (count : ℕ) → List ℕ → Read C (List A)
fields_at field zero bytes = Ok ([], bytes)
fields_at field (suc count) bytes = do
  first ← field bytes
  others ← fields_at field count first.1
  Ok (first.0 ∷ others.0, others.1)

abbrev pub is_same_name : List ℕ → List ℕ → Bool
is_same_name a b = pointwise ◌==◌ a b

-- the bytes that files of a kind begin with
abbrev pub mark_at : {C : Type 0} → C → (mark : List ℕ) → List ℕ → Read C (List ℕ)
mark_at cause mark bytes = do
  found ← bytes_at cause (length mark) bytes
  if_good cause (is_same_name found.0 mark) found

-- an identifier, after its length
unfoldable pub read_name : {C : Type 0} → C → List ℕ → Read C (List ℕ)
read_name cause bytes = do
  size ← number_at cause 1 bytes
  name ← bytes_at cause size.0 size.1
  if_good cause (is_name name.0) name

-- the name of a compartment: `Env` is the environment
unfoldable pub comp_name_at : {C : Type 0} → C → List ℕ → Read C (List ℕ)
comp_name_at cause bytes = do
  name ← read_name cause bytes
  if_good cause (not (is_same_name name.0 (codes "Env"))) name

-- a function that may be called, where there are `comps` compartments: the one that offers it, and its index there
unfoldable pub import_at : {C : Type 0} → C → (comps : ℕ) → List ℕ → Read C ImportPart
import_at cause comps bytes = do
  comp ← number_that (λ c. nat_lt c comps) cause 1 bytes
  index ← number_at cause 2 comp.1
  Ok (record { comp = comp.0; index = index.0 }, index.1)

-- how many there are, and then each
unfoldable pub imports_at : {C : Type 0} → C → (comps : ℕ) → List ℕ → Read C (List ImportPart)
imports_at cause comps bytes = do
  count ← number_that (λ n. nat_le n most_exports) cause 2 bytes
  fields_at (import_at cause comps) count.0 count.1

-- whole words, after their length in bytes, which is at most `most`
unfoldable pub code_at : {C : Type 0} → C → (most : ℕ) → List ℕ → Read C (List ℕ)
code_at cause most bytes = do
  size ← number_that (λ n. n % 4 == 0 && nat_le n most) cause 4 bytes
  fields_at (number_at cause 4) (size.0 / 4) size.1

-- bytes, after their number, which is at most `most`
unfoldable pub globals_at : {C : Type 0} → C → (most : ℕ) → List ℕ → Read C (List ℕ)
globals_at cause most bytes = do
  size ← number_that (λ n. nat_le n most) cause 4 bytes
  bytes_at cause size.0 size.1

-- What a call returned, seen by view, is what is read, unless memory ran out.

abbrev pub Fails : {Y C : Type 0} → FieldFault C → Result Y C → Type 0
Fails faults.OutOfMemory read = Unit {0}
Fails (faults.Bad cause) read = read ≡ Err cause

abbrev pub Gives : {X Y C : Type 0} → (X → Y) → Result X (FieldFault C) → Result Y C → Type 0
Gives view (Ok x) read = read ≡ Ok (view x)
Gives view (Err fault) read = Fails fault read
