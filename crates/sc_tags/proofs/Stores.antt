-- Loads and stores of a memory in two stores: the bytes of code in whole words, and those of data.
use Rattle.sc_tags.proofs.Common.{Bool, ByteMemory, ImageParts, LoadOp, None, Option}
use Rattle.sc_tags.proofs.Common.{Some, StoreOp, and_parts, ap, arith}
use Rattle.sc_tags.proofs.Common.{code_byte, code_word, comp_of_code, false, if◌then◌else◌, is_some, leb-true, load_of}
use Rattle.sc_tags.proofs.Common.{load_of-same, load_size, ltb-true, nat_le, nat_lt, refl, store_size, sym, true}
use Rattle.sc_tags.proofs.Common.{IsWellFormed}
use Rattle.sc_tags.proofs.Common.{true≢false, with_bytes, word_at, ℕ, ◌%◌, ◌&&◌, ◌*◌, ◌+◌, ◌-◌, ◌/◌, ◌<◌, ◌∙◌, ◌≡◌}
use Rattle.rv_code.specs.declared.instr.LoadOp.TheVariants.{Lb, Lbu, Lh, Lhu, Lw}
use Rattle.rv_code.specs.declared.instr.StoreOp.TheVariants.{Sb, Sh, Sw}
use Rattle.sc_store.proofs.Words.{address_kept}
use Rattle.sc_store.specs.Prelude.{HasBytes, byte_of}
use Rattle.sc_tags.proofs.Owners.{code_below}
use Rattle.sc_tags.specs.TagHart.{AreWholeWords, IsBelowData}
use Rattle.std.specs.Option.{option_map, option_or}
use Rattle.std.specs.Prelude.{IsSome, IsTrue, ◌^◌, ◌≤◌}

below_by : (image : ImageParts) → IsWellFormed image → (a : ℕ) → 0x10000000 ≤ a → (word : Option ℕ) →
    code_word image a ≡ word → is_some (code_byte image a) ≡ false
below_by image formed a high None at = rw at refl
below_by image formed a high (Some word) at =
    let low = code_below image formed _ _ word at in absurd (omega (arith, low, high))

-- no code lies among data
pub code_below_data : (image : ImageParts) → IsWellFormed image → IsBelowData (code_byte image)
code_below_data image formed a high = below_by image formed a high _ refl
