-- The fields of a compartment: what is read is what is written, and what is written is read again.
use Rattle.sc_fields.proofs.Common.{AllByRecursion, Bool, ImportPart, bit, List, [], and_from, and_parts, ap, arith}
use Rattle.sc_fields.proofs.Common.{bytes_decides, code_at, code_bytes, codes, comp_name_at, eq-eqb, eqb-true, false}
use Rattle.sc_fields.proofs.Common.{globals_at, globals_bytes, import_at, import_bytes, imports_at, imports_bytes}
use Rattle.sc_fields.proofs.Common.{is_name, is_name_byte, is_nondigit, is_same_name, le-leb, leb-true, length}
use Rattle.sc_fields.proofs.Common.{list_all, little_bytes, lt-ltb, ltb-true, mark_at, name_bytes, nat_le, nat_lt}
use Rattle.sc_fields.proofs.Common.{nat_tests, not-true, not_from_false, number_at, read_name, refl, same_text, subst}
use Rattle.sc_fields.proofs.Common.{suc, sym, true, zero, ℕ, ◌%◌, ◌&&◌, ◌*◌, ◌/◌, ◌<◌, ◌==◌, ◌^◌, ◌∷◌, ◌≡◌, ◌≤◌}
use Rattle.sc_base.proofs.Filled.{name_is_short}
use Rattle.sc_fields.proofs.Fields.{IsBytes, IsField, restated, made, tested, followed, bytes_field, number_field}
use Rattle.sc_fields.proofs.Fields.{byte_field, many_field, two_wide, four_wide}

-- names

name_bytes_are_bytes : (xs : List ℕ) → list_all is_name_byte xs ≡ true → IsBytes xs
name_bytes_are_bytes [] all i = omega arith
name_bytes_are_bytes (x ∷ xs) all zero = let first = (and_parts (is_name_byte x) _ all).0 in grind (arith, nat_tests)
name_bytes_are_bytes (x ∷ xs) all (suc i) = name_bytes_are_bytes xs (and_parts _ _ all).1 i

pub name_is_bytes : (name : List ℕ) → is_name name ≡ true → IsBytes name
unfolding is_name
name_is_bytes [] named i = absurd cc
name_is_bytes (first ∷ rest) named zero =
    let nondigit = (and_parts (is_nondigit first) _ named).0 in grind (arith, nat_tests)
name_is_bytes (first ∷ rest) named (suc i) =
    name_bytes_are_bytes rest (and_parts _ (nat_lt (length rest) 63) (and_parts _ _ named).1).0 i

-- a yes or no in one byte

pub bit_again : (b : Bool) → (bit b == 1) ≡ b
bit_again true = refl
bit_again false = refl

pub bit_of : (n : ℕ) → n ≤ 1 → bit (n == 1) ≡ n
bit_of n h = grind (arith, nat_tests)

pub bit_fits : (b : Bool) → (bit b < 256) × (nat_le (bit b) 1 ≡ true)
bit_fits true = (omega arith, refl)
bit_fits false = (omega arith, refl)

-- what fits its field

pub record FitsImport (comps : ℕ) (import : ImportPart) : Type 0 where
  pub comp : import.comp < comps
  pub index : import.index < 2 ^ 16

pub record FitsImports (comps : ℕ) (imports : List ImportPart) : Type 0 where
  pub few : length imports ≤ 4096
  pub each : AllByRecursion (FitsImport comps) imports

-- code of at most `most` bytes
pub record FitsCode (most : ℕ) (code : List ℕ) : Type 0 where
  pub short : 4 * length code ≤ most
  pub each : AllByRecursion (λ word. word < 2 ^ 32) code

pub record FitsGlobals (most : ℕ) (globals : List ℕ) : Type 0 where
  pub short : length globals ≤ most
  pub bytes : IsBytes globals

code_size : (most size k : ℕ) → (size % 4 == 0 && nat_le size most) ≡ true → k ≡ size / 4 → 4 * k ≡ size
code_size most size k passes is =
    let whole = eqb-true _ _ (and_parts _ (nat_le size most) passes).0 in omega (arith, whole, is)

code_passes : (most k : ℕ) → 4 * k ≤ most → (4 * k % 4 == 0 && nat_le (4 * k) most) ≡ true
code_passes most k short = and_from (4 * k % 4 == 0) _ (eq-eqb _ 0 (omega arith)) (le-leb _ _ short)

code_short : (most k : ℕ) → (4 * k % 4 == 0 && nat_le (4 * k) most) ≡ true → 4 * k ≤ most
code_short most k passes = leb-true _ _ (and_parts _ _ passes).1

module _ {C : Type 0} (cause : C) where
  pub mark_field : (mark : List ℕ) → IsBytes mark → IsField (mark_at cause mark) (λ x. x) (λ found. found ≡ mark)
  mark_field mark bytes = restated (tested (bytes_field cause (length mark)) cause (λ found. is_same_name found mark))
      (λ found h. refl) (λ found h. same_text found mark (sym h.1))
      (λ found same. subst (λ m. ((length m ≡ length mark) × IsBytes m) × (is_same_name m mark ≡ true)) (sym same)
      ((refl, bytes), (bytes_decides mark mark).1 refl))

  pub name_field : IsField (read_name cause) name_bytes (λ name. is_name name ≡ true)
  unfolding read_name
  name_field = restated (followed (byte_field cause) _ (λ size ok. tested (bytes_field cause size) cause is_name)
      (λ size name a b. b.0.0)) (λ name h. refl) (λ name h. h.1.1)
      (λ name h. (omega (arith, name_is_short name h), ((refl, name_is_bytes name h), h)))

  pub comp_name_field : IsField (comp_name_at cause) name_bytes (λ name. (is_name name ≡ true) ×
      (is_same_name name (codes "Env") ≡ false))
  unfolding comp_name_at
  comp_name_field = restated (tested name_field cause _) (λ name h. refl)
      (λ name h. (h.0, not-true _ h.1)) (λ name h. (h.0, not_from_false _ h.1))

  pub code_field : (most : ℕ) → most < 2 ^ 32 → IsField (code_at cause most) code_bytes (FitsCode most)
  unfolding code_at
  code_field most limited = restated
      (followed (tested (number_field cause 4 four_wide) cause (λ n. n % 4 == 0 && nat_le n most))
      (λ (code : List ℕ). 4 * length code)
      (λ size ok. many_field (number_at cause 4) (little_bytes 4) (λ word. word < 2 ^ 32)
      (number_field cause 4 four_wide) (size / 4)) (λ size code a b. code_size most size (length code) a.1 b.0))
      (λ code h. refl) (λ code h. record { short = code_short most (length code) h.0.1; each = h.1.1 })
      (λ code h. (
        (omega (arith, h.short, limited), code_passes most (length code) h.short),
        (omega arith, h.each),
      ))

  pub globals_field : (most : ℕ) → most < 2 ^ 32 → IsField (globals_at cause most) globals_bytes (FitsGlobals most)
  unfolding globals_at
  globals_field most limited = restated (followed (tested (number_field cause 4 four_wide) cause _) _
      (λ size ok. bytes_field cause size) (λ size globals a b. b.0))
      (λ globals h. refl) (λ globals h. record { short = leb-true _ _ h.0.1; bytes = h.1.1 })
      (λ globals h. ((omega (arith, h.short, limited), le-leb _ _ h.short), (refl, h.bytes)))

  -- where there are `comps` compartments
  module _ (comps : ℕ) (few : comps ≤ 32) where
    import_field : IsField (import_at cause comps) import_bytes (FitsImport comps)
    unfolding import_at
    import_field = restated
        (followed (tested (byte_field cause) cause (λ c. nat_lt c comps)) (λ (import : ImportPart). import.comp)
        (λ comp ok. made (number_field cause 2 two_wide) _
        (λ import. import.index) (λ index ok. refl)) (λ comp y a b. ap (λ (i : ImportPart). i.comp) b.1))
        (λ import h. refl) (λ import h. record { comp = ltb-true _ _ h.0.1; index = h.1.0 })
        (λ import h. ((omega (arith, h.comp, few), lt-ltb _ _ h.comp), (h.index, refl)))

    pub imports_field : IsField (imports_at cause comps) imports_bytes (FitsImports comps)
    unfolding imports_at
    imports_field = restated (followed (tested (number_field cause 2 two_wide) cause _) _
        (λ count ok. many_field _ import_bytes _ import_field count) (λ count imports a b. b.0))
        (λ imports h. refl) (λ imports h. record { few = leb-true _ _ h.0.1; each = h.1.1 })
        (λ imports h. ((omega (arith, h.few), le-leb _ _ h.few), (refl, h.each)))
