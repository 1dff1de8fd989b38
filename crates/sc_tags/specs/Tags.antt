-- The tags of bytes. They follow from the image and the ranges, since no step changes the tag of a byte.
use Rattle.sc_tags.specs.Common.{ByteMemory, ByteTag, Code, Data, ImageParts, TagRange, Unowned, are_data, byte_of}
use Rattle.sc_tags.specs.Common.{comp_of_code, comp_of_data, start_memory, word_at}
use Rattle.std.specs.Prelude.{Bool, List, Option, fold, false, if◌then◌else◌, is_some, length, nat_eq, nat_le, nat_lt}
use Rattle.std.specs.Prelude.{suc}
use Rattle.std.specs.Prelude.{true, zero, ℕ, ◌%◌, ◌&&◌, ◌*◌, ◌+◌, ◌/◌, ◌^◌, ◌≤◌}
use Rattle.std.specs.Option.{option_map, option_or}

-- the word of code that the byte at an address is one of, whoever's
abbrev pub code_word : ImageParts → (address : ℕ) → Option ℕ
code_word image address = let word = address / 4 * 4 in word_at image (comp_of_code word) word

-- the byte at an address is one of a compartment's data
abbrev pub is_data_byte : ImageParts → (address : ℕ) → Bool
is_data_byte image address =
    let c = comp_of_data address in nat_lt c (length image.comps) && are_data image c address 1

-- the tag by who owns a byte: a byte of a compartment's code, or of its data, or nobody's
abbrev pub owner_of : ImageParts → (address : ℕ) → ByteTag
owner_of image address =
    if is_some (code_word image address) then Code (comp_of_code (address / 4 * 4))
    else if is_data_byte image address then Data (comp_of_data address)
    else Unowned

abbrev pub is_in_range : TagRange → (address : ℕ) → Bool
is_in_range range address = nat_le range.start address && nat_lt address (range.start + range.bytes)

-- no range reaches beyond the last address
abbrev pub IsWithinAddresses : TagRange → Type 0
IsWithinAddresses range = range.start + range.bytes ≤ 2 ^ 32

-- the tag of an owned byte after one more range
abbrev pub retagged : (address : ℕ) → ByteTag → TagRange → ByteTag
retagged address tag range = if is_in_range range address then range.tag else tag

-- what becomes of an owner's tag by ranges: nobody's bytes stay so
abbrev pub tag_by : (owner given : ByteTag) → ByteTag
tag_by Unowned given = Unowned
tag_by _ given = given

-- the tag of the byte at an address: its owner's, unless ranges give it another; the last of them decides
abbrev pub tag_at : ImageParts → List TagRange → (address : ℕ) → ByteTag
tag_at image ranges address =
    let owner = owner_of image address in tag_by owner (fold (retagged address) owner ranges)

-- whether a tag is the one that is wanted
abbrev pub is_tag : (wanted : ByteTag) → ByteTag → Bool
is_tag (Code c) (Code comp) = nat_eq comp c
is_tag (Data c) (Data comp) = nat_eq comp c
is_tag Unowned Unowned = true
is_tag _ _ = false

-- the `size` bytes from an address on all have this tag
unfoldable pub all_tagged : (tags : ℕ → ByteTag) → (wanted : ByteTag) → (address size : ℕ) → Bool
all_tagged tags wanted address zero = true
all_tagged tags wanted address (suc size) =
    all_tagged tags wanted address size && is_tag wanted (tags (address + size))

-- the byte of code at an address, the lowest byte of a word first
abbrev pub code_byte : ImageParts → (address : ℕ) → Option ℕ
code_byte image address = option_map (λ word. byte_of word (address % 4)) (code_word image address)

-- a memory of data, with the code too
abbrev pub with_code : ImageParts → ByteMemory → ByteMemory
with_code image memory address = option_or (code_byte image address) (memory address)

-- the bytes at the start
abbrev pub first_bytes : ImageParts → ByteMemory
first_bytes image = with_code image (start_memory image)
