-- What a state holds are words, and a step computes words from words.
use Rattle.sc_image.proofs.Common.{Bool, CompPart, ExportPart, HoldsBytes, ImageParts, IsSome, IsWellFormed, IsWord}
use Rattle.sc_image.proofs.Common.{List, LoadOp, ByteMemory, None, OpOp, Option, Some, [], add_word-lt, and_le_l}
use Rattle.sc_image.proofs.Common.{and_parts}
use Rattle.sc_image.proofs.Common.{arith, code_start, comp_of_code, op_result, div_word-lt, divu_word-lt, eqb-true}
use Rattle.sc_image.proofs.Common.{entered_export, extended, false, get_or_from_slice_get, if◌then◌else◌, kept_from}
use Rattle.sc_image.proofs.Common.{leb-true, load_of, load_size, mul_word-lt, mulh_word-lt, mulhsu_word-lt}
use Rattle.sc_image.proofs.Common.{mulhu_word-lt, nat_eq, option_map_or, or_lt, position, position-Some, refl}
use Rattle.sc_image.proofs.Common.{rem_word-lt, remu_word-lt, slice_get, slice_get_within, slice_index, slice_set}
use Rattle.sc_image.proofs.Common.{sll_word-lt, slt_word-lt, sltu_word-lt, sra_word-lt, srl_word-lt, sub_word-lt, subst}
use Rattle.sc_image.proofs.Common.{suc, true, unwrap_or, word_at, word_of-lt, written, xor_lt, zero, ℕ, ◌%◌, ◌+◌, ◌-◌}
use Rattle.sc_image.proofs.Common.{◌/◌, ◌<◌, ◌==◌, ◌^◌, ◌∷◌, ◌≡◌, ◌≤◌}
use Rattle.rv_code.specs.declared.instr.OpOp.TheVariants.{Add, Sub, Sll, Slt, Sltu, Xor, Srl, Sra, Or, And, Mul, Mulh}
use Rattle.rv_code.specs.declared.instr.OpOp.TheVariants.{Mulhsu, Mulhu, Div, Divu, Rem, Remu}
use Rattle.rv_code.specs.declared.instr.LoadOp.TheVariants.{Lb, Lh, Lw, Lbu, Lhu}

-- What is found by a test, what there is, and what a compartment has of which no compartment has any.

pub if_some : {A : Type 0} (b : Bool) (x : Option A) (y : A) → (if b then x else None) ≡ Some y →
    (b ≡ true) × (x ≡ Some y)
if_some true x y is = (refl, is)
if_some false x y is = let none = is in cc none

pub some_is : {A : Type 0} (found : Option A) → IsSome found → (a : A) × (found ≡ Some a)
some_is None some = let never = some in cc never
some_is (Some a) some = (a, refl)

pub comp_found : {B : Type 0} (part : CompPart → B) (default : B) (P : B → Type 0) → (P default → ⊥) →
    (found : Option CompPart) → P (option_map_or part found default) →
    (comp : CompPart) × (found ≡ Some comp) × P (part comp)
comp_found part default P never None has = absurd (never has)
comp_found part default P never (Some comp) has = (comp, refl, has)

-- each place of a list holds a word
abbrev pub AreWords : List ℕ → Type 0
AreWords words = (i : ℕ) → IsWord (slice_index words i)

pub set_words : (words : List ℕ) (i word : ℕ) → AreWords words → IsWord word → AreWords (slice_set words i word)
set_words [] i word h k j = h j
set_words (x ∷ xs) zero word h k zero = k
set_words (x ∷ xs) zero word h k (suc j) = h (suc j)
set_words (x ∷ xs) (suc i) word h k zero = h 0
set_words (x ∷ xs) (suc i) word h k (suc j) = set_words xs i word (λ l. h (suc l)) k j

pub written_words : (regs : List ℕ) (r word : ℕ) → AreWords regs → IsWord word → AreWords (written regs r word)
written_words regs r word h k = by_zero _
  where
    by_zero : (zero_is : Bool) → AreWords (if zero_is then regs else slice_set regs r word)
    by_zero true = h
    by_zero false = set_words regs r word h k

if_word : (b : Bool) (x y : ℕ) → IsWord x → IsWord y → IsWord (if b then x else y)
if_word true x y h k = h
if_word false x y h k = k

pub kept_words : (keeps : ℕ → Bool) (r : ℕ) (regs : List ℕ) → AreWords regs → AreWords (kept_from keeps r regs)
kept_words keeps r [] h i = h i
kept_words keeps r (word ∷ words) h zero = if_word _ word 0 (h 0) (omega arith)
kept_words keeps r (word ∷ words) h (suc i) = kept_words keeps _ words (λ l. h (suc l)) i

-- x0 stays 0

set_zero : (words : List ℕ) (r word : ℕ) → slice_index words 0 ≡ 0 → slice_index (slice_set words (suc r) word) 0 ≡ 0
set_zero [] r word h = h
set_zero (x ∷ xs) r word h = h

pub written_zero : (regs : List ℕ) (r word : ℕ) → slice_index regs 0 ≡ 0 → slice_index (written regs r word) 0 ≡ 0
written_zero regs zero word h = h
written_zero regs (suc r) word h = by_zero _
  where
    by_zero : (zero_is : Bool) → slice_index (if zero_is then regs else slice_set regs (suc r) word) 0 ≡ 0
    by_zero true = h
    by_zero false = set_zero regs r word h

-- zero, either way
pub if_zero : (b : Bool) → ◌≡◌ {A = ℕ} (if b then 0 else 0) 0
if_zero true = refl
if_zero false = refl

pub kept_zero : (keeps : ℕ → Bool) (r : ℕ) (regs : List ℕ) → slice_index regs 0 ≡ 0 →
    slice_index (kept_from keeps r regs) 0 ≡ 0
kept_zero keeps r [] h = h
kept_zero keeps r (word ∷ words) h = let first = h in rw first (if_zero _)

-- what an operation computes

and_word : (a b : ℕ) → IsWord a → IsWord (op_result And a b)
and_word a b h = omega (arith, h, and_le_l a b)

pub computed_word : (op : OpOp) (a b : ℕ) → IsWord a → IsWord b → IsWord (op_result op a b)
computed_word Add a b h k = add_word-lt a b
computed_word Sub a b h k = sub_word-lt a b
computed_word Sll a b h k = sll_word-lt a b
computed_word Slt a b h k = slt_word-lt a b
computed_word Sltu a b h k = sltu_word-lt a b
computed_word Xor a b h k = xor_lt 32 a b h k
computed_word Srl a b h k = srl_word-lt a b h
computed_word Sra a b h k = sra_word-lt a b
computed_word Or a b h k = or_lt 32 a b h k
computed_word And a b h k = and_word a b h
computed_word Mul a b h k = mul_word-lt a b
computed_word Mulh a b h k = mulh_word-lt a b
computed_word Mulhsu a b h k = mulhsu_word-lt a b
computed_word Mulhu a b h k = mulhu_word-lt a b h k
computed_word Div a b h k = div_word-lt a b
computed_word Divu a b h k = divu_word-lt a b h
computed_word Rem a b h k = rem_word-lt a b h
computed_word Remu a b h k = remu_word-lt a b h

-- what is loaded

byte_by : (memory : ByteMemory) (a : ℕ) → HoldsBytes memory → (byte : Option ℕ) → memory a ≡ byte → unwrap_or byte 0 <
    256
byte_by memory a h None at = omega arith
byte_by memory a h (Some b) at = (h a b at).1

byte_below : (memory : ByteMemory) (a : ℕ) → HoldsBytes memory → unwrap_or (memory a) 0 < 256
byte_below memory a h = byte_by memory a h _ refl

one_byte : (memory : ByteMemory) (a : ℕ) → HoldsBytes memory → load_of memory a 1 < 2 ^ 8
one_byte memory a h = omega (arith, byte_below memory (a + 0) h)

two_bytes : (memory : ByteMemory) (a : ℕ) → HoldsBytes memory → load_of memory a 2 < 2 ^ 16
two_bytes memory a h = omega (arith, byte_below memory (a + 0) h, byte_below memory (a + 1) h)

four_bytes : (memory : ByteMemory) (a : ℕ) → HoldsBytes memory → load_of memory a 4 < 2 ^ 32
four_bytes memory a h =
    omega (
      arith,
      byte_below memory (a + 0) h,
      byte_below memory (a + 1) h,
      byte_below memory (a + 2) h,
      byte_below memory (a + 3) h,
    )

pub loaded_word : (memory : ByteMemory) (op : LoadOp) (a : ℕ) → HoldsBytes memory →
    IsWord (extended op (load_of memory a (load_size op)))
loaded_word memory Lb a h = word_of-lt _
loaded_word memory Lh a h = word_of-lt _
loaded_word memory Lw a h = four_bytes memory a h
loaded_word memory Lbu a h = omega (arith, one_byte memory a h)
loaded_word memory Lhu a h = omega (arith, two_bytes memory a h)

-- a place in the code

pub record IsInCode (c address word : ℕ) : Type 0 where
  pub aligned : address % 4 ≡ 0
  pub comp : comp_of_code address ≡ c
  pub next : address + 4 < 2 ^ 32
  pub bits : IsWord word

pub in_code : (image : ImageParts) → IsWellFormed image → (c address word : ℕ) →
    word_at image c address ≡ Some word → IsInCode c address word
unfolding word_at
in_code image formed c address word at =
    let inside = if_some _ _ word at in
    let tests = and_parts (nat_eq (address % 4) 0) _ inside.0 in
    let from : code_start c ≤ address = leb-true _ address tests.1 in
    let found = comp_found (λ comp. comp.code) []
    (λ code. slice_get code ((address - code_start c) / 4) ≡ Some word) (λ none. cc none) _ inside.1 in
    let well = formed.comps c found.0 found.1 in
    let within = slice_get_within found.0.code ((address - code_start c) / 4) word found.2 in
    record {
      aligned = eqb-true _ _ tests.0;
      comp = omega (arith, within, well.short_code, from);
      next =
          omega (arith, within, well.short_code, from, slice_get_within _ c found.0 found.1, formed.few_comps);
      bits = subst IsWord (get_or_from_slice_get found.0.code _ word word found.2) (well.words _ word within);
    }

-- an address where there is a word of code, and where an export begins

pub code_address : (image : ImageParts) → IsWellFormed image → (c address : ℕ) → IsSome (word_at image c address) →
    IsWord address
code_address image formed c address some =
    let word = some_is _ some in omega (arith, (in_code image formed c _ word.0 word.1).next)

abbrev pub no_export : ExportPart
no_export = record { name = []; params = 0; result = false; entry = 0 }

pub entry_code : (image : ImageParts) → IsWellFormed image → (c target index : ℕ) →
    entered_export image c target ≡ Some index → IsSome (word_at image c target)
entry_code image formed c target index at =
    let found = comp_found (λ comp. comp.exports) []
    (λ exports. position (λ export. export.entry == target) exports ≡ Some index) (λ none. cc none) _ at in
    let first = position-Some _ found.0.exports index no_export found.2 in
    let entry = ((formed.comps c found.0 found.1).exports index no_export first.0).entry in
    subst (λ address. IsSome (word_at image c address)) (eqb-true _ _ first.1) entry

pub entry_address : (image : ImageParts) → IsWellFormed image → (c target index : ℕ) →
    entered_export image c target ≡ Some index → IsWord target
entry_address image formed c target index at = code_address image formed c target
    (entry_code image formed c target index at)
