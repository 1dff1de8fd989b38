-- What instructions of the machine with tags change, as the state that it stands for.
use Rattle.sc_tags.specs.Common.{ByteMemory, Goes, ImageParts, OutcomeOf, TagRange, Traps}
use Rattle.sc_tags.specs.Tags.{all_tagged, first_bytes, is_in_range, tag_at}
use Rattle.sc_tags.specs.Common.{Code, Data}
use Rattle.sc_machine.specs.Place.{Site}
use Rattle.sc_tags.specs.Tagged.{Tagged}
use Rattle.sc_tags.specs.Levels.{with_levels}
use Rattle.sc_base.specs.declared.stop.TrapReason.{TrapReason}
use Rattle.sc_machine.specs.Prelude.{HasRoom, IsSound, running, state_in}
use Rattle.sc_registers.specs.declared.registers.Core.{Core}
use Rattle.sc_machine.specs.declared.hart.Hart.{Hart}
use Rattle.std.specs.Option.{option_or}
use Rattle.sc_image.specs.Prelude.{data_start, stack_size, zone_size, zone_start}
use Rattle.sc_image.specs.declared.parts.CompPart.{CompPart}
use Rattle.std.specs.Prelude.{length, nat_le, nat_lt, ◌||◌, ◌≤◌}
use Rattle.std.specs.Prelude.{Bool, Err, List, Ok, Result, false, is_some, nat_eq, ℕ}
use Rattle.std.specs.Prelude.{◌%◌, ◌+◌, ◌-◌, ◌<◌, ◌&&◌, ◌*◌, ◌/◌, ◌≡◌}

-- the state with levels that a hart stands for, with this memory: the calls of its cross stack are the capabilities
abbrev pub tagged_in : ByteMemory → Hart → Tagged
tagged_in memory hart = with_levels (state_in memory hart)

-- a state with these registers and this pc, where compartment c's code runs, with this memory
abbrev pub running_in : ℕ → ByteMemory → Core → Tagged → Tagged
running_in c memory core tagged = record tagged { core = running c memory core tagged.core }

-- what an instruction's answer says that it did, where this is the state after it
abbrev pub tag_outcome : {A : Type 0} → Result A TrapReason → Tagged → OutcomeOf Tagged
tag_outcome (Ok _) tagged = Goes tagged
tag_outcome (Err reason) tagged = Traps reason

-- a store of the bytes of code, and one of those of data
pub record Stores (S : Type 0) : Type 0 where
  pub code_bytes : S
  pub data_bytes : S

-- all bytes, by the bytes of a store
abbrev pub bytes_of : {S : Type 0} → (S → ByteMemory) → Stores S → ByteMemory
bytes_of bytes stores address = option_or (bytes stores.code_bytes address) (bytes stores.data_bytes address)

-- there is a byte where there was one at the start, and nowhere else
abbrev pub IsOwned : ImageParts → ByteMemory → Type 0
IsOwned image memory = (address : ℕ) → is_some (memory address) ≡ is_some (first_bytes image address)

-- the range has none of the `size` bytes from an address on
abbrev pub IsApart : TagRange → (address size : ℕ) → Type 0
IsApart range address size = (k : ℕ) → k < size → is_in_range range (address + k) ≡ false

-- the addresses with a byte make whole words
abbrev pub AreWholeWords : ByteMemory → Type 0
AreWholeWords memory = (address : ℕ) → is_some (memory address) ≡ is_some (memory (address / 4 * 4))

-- none of the addresses with a byte is one of data
abbrev pub IsBelowData : ByteMemory → Type 0
IsBelowData memory = (address : ℕ) → data_start 0 ≤ address → is_some (memory address) ≡ false

-- a hart and a memory that a run of the image can go on from, with room for `events` events in the whole trace
pub record CanRunTagged (image : ImageParts) (events : ℕ) (hart : Hart) (memory : ByteMemory) : Type 0 where
  pub room : HasRoom events hart
  pub sound : IsSound image hart
  pub owned : IsOwned image memory

-- a compartment of an image, and the ranges
pub record TagSite : Type 0 where
  pub image : ImageParts
  pub comp : ℕ
  pub ranges : List TagRange

-- the site without the ranges
abbrev pub place_of : TagSite → Site
place_of site = record { image = site.image; comp = site.comp }

-- the `size` bytes from an address on are all tagged as the site's data
abbrev pub are_own_data : TagSite → (address size : ℕ) → Bool
are_own_data site address size = all_tagged (tag_at site.image site.ranges) (Data site.comp) address size

-- and four of them as its code, at a multiple of 4
abbrev pub is_own_code : TagSite → (address : ℕ) → Bool
is_own_code site address =
    nat_eq (address % 4) 0 && all_tagged (tag_at site.image site.ranges) (Code site.comp) address 4

-- where a compartment's zone begins, counted from where its data do
abbrev pub zone_offset : ℕ
zone_offset = zone_start 0 - data_start 0

-- a compartment has data at an offset from where its data begin
abbrev pub has_data_at : CompPart → (offset : ℕ) → Bool
has_data_at comp offset = nat_lt offset (stack_size + length comp.globals) ||
    (comp.heap && (nat_le zone_offset offset && nat_lt offset (zone_offset + zone_size)))
