-- How the bytes of the machine stand for the blocks of a meaning, for every compartment outside a set of those that
-- perform.
use Rattle.sc_emit_relation.specs.Common.{Block, Blocks, Cell, ImageParts, Memory, Owned, Value, cells_at, data_end}
use Rattle.sc_emit_relation.specs.Common.{data_start, spans_of, word, zone_address, zone_start}
unfoldable use Rattle.sc_emit_relation.specs.Common.{are_data}
use Rattle.sc_store.specs.Prelude.{ByteMemory as Bytes}
use Rattle.sc_zone.specs.Prelude.{AreLaid}
use Rattle.sc_zone.specs.declared.span.Span.{Span}
use Rattle.std.specs.Prelude.{Bool, List, None, Ok, Option, Some, ℕ, false, length, slice_get, true, ◌%◌, ◌*◌, ◌+◌, ◌<◌}
use Rattle.std.specs.Prelude.{◌^◌, ◌≡◌, ◌≢◌, ◌≤◌, ◌⊎◌}
use Rattle.sc_core.specs.declared.value.Cell.TheVariants as cell
use Rattle.sc_core.specs.declared.value.Value.TheVariants.{Null, Ptr, Word}

-- where each block of each compartment begins; a block that has ended keeps its address, so this only grows (a memory
-- injection: Leroy and Blazy, Formal verification of a C-like memory model)
abbrev pub Injection : Type 0
Injection = ℕ → ℕ → Option ℕ

-- a word that may be the address of a place: it isn't 0, and signed or unsigned it is one number
pub record IsAddress (w : ℕ) : Type 0 where
  pub above : 0 < w
  pub below : w < 2 ^ 31

-- the word that stands for a value of a compartment
abbrev pub Means : (ℕ → Option ℕ) → Value → ℕ → Type 0
Means place (Word n) w = w ≡ n
Means place Null w = w ≡ 0
Means place (Ptr p) w = (a : ℕ) × (place p.block ≡ Some a) × (w ≡ a + 4 * p.index) × IsAddress w

pub record StandsFor (place : ℕ → Option ℕ) (w : ℕ) (v : Value) : Type 0 where
  pub word : w < 2 ^ 32
  pub means : Means place v w

-- a cell that holds nothing may have any bytes
abbrev pub InCell : (ℕ → Option ℕ) → ℕ → Cell → Type 0
InCell place w cell.Undef = Unit {0}
InCell place w (cell.Word n) = StandsFor place w (Word n)
InCell place w cell.Null = StandsFor place w Null
InCell place w (cell.Ptr p) = StandsFor place w (Ptr p)

-- block b of compartment k lives, with these cells
abbrev pub LiveAt : Memory → (k b : ℕ) → List Cell → Type 0
LiveAt memory k b cells = cells_at (memory k) b ≡ Ok cells

-- `words` words from a on don't meet the word at p
abbrev pub Beside : (a words p : ℕ) → Type 0
Beside a words p = (p + 4 ≤ a) ⊎ (a + 4 * words ≤ p)

-- `words` words from a on lie in k's data, from its floor on
pub record Placed (image : ImageParts) (floor k a words : ℕ) : Type 0 where
  pub aligned : a % 4 ≡ 0
  pub above : floor ≤ a
  pub low : data_start k ≤ a
  pub high : a + 4 * words ≤ data_end k
  pub its : (i : ℕ) → i < words → are_data image k (a + 4 * i) 4 ≡ true

-- a variable lies below the zone, in the stack or among the globals; what was allocated lies at its place in the zone
abbrev pub LiesAt : (k a words : ℕ) → Option ℕ → Type 0
LiesAt k a words None = a + 4 * words ≤ zone_start k
LiesAt k a words (Some place) = a ≡ zone_address k (Some place)

-- the floor of a compartment is the frame of its latest open call, or its stack's top where it has none
pub record BlocksMatch (image : ImageParts) (performs : ℕ → Bool) (floor : ℕ → ℕ) (inj : Injection) (memory : Memory)
    (bytes : Bytes) : Type 0 where
  pub there : (k b : ℕ) (cells : List Cell) → performs k ≡ false → LiveAt memory k b cells →
      (a : ℕ) × (inj k b ≡ Some a)
  pub placed : (k b a : ℕ) (cells : List Cell) → performs k ≡ false → LiveAt memory k b cells → inj k b ≡ Some a →
      Placed image (floor k) k a (length cells)
  pub holds : (k b a i : ℕ) (cells : List Cell) (c : Cell) → performs k ≡ false → LiveAt memory k b cells →
      inj k b ≡ Some a → slice_get cells i ≡ Some c → InCell (inj k) (word bytes (a + 4 * i)) c
  pub apart : (k b c a d : ℕ) (xs ys : List Cell) → performs k ≡ false → LiveAt memory k b xs → LiveAt memory k c ys →
      inj k b ≡ Some a → inj k c ≡ Some d → b ≢ c → (a + 4 * length xs ≤ d) ⊎ (d + 4 * length ys ≤ a)
  pub lies : (k b a : ℕ) (x : Block) → performs k ≡ false → slice_get (memory k) b ≡ Some x → x.live ≡ true →
      inj k b ≡ Some a → LiesAt k a (length x.cells) x.place
  -- no block that will begin has an address yet
  pub known : (k b a : ℕ) → inj k b ≡ Some a → b < length (memory k)

-- the machine's zone of a compartment and its blocks: the spans are those of the allocated blocks that live, one after
-- the other
pub record ZoneMatches (spans : List Span) (blocks : Blocks) : Type 0 where
  pub same : spans ≡ spans_of blocks
  pub laid : AreLaid 0 (spans_of blocks)

-- a word of k's data below its zone that no live block meets, as a saved return address or a slot
pub record Guarded (image : ImageParts) (inj : Injection) (memory : Memory) (k p : ℕ) : Type 0 where
  pub owned : Owned image k p
  pub below : p + 4 ≤ zone_start k
  pub free : (b a : ℕ) (cells : List Cell) → LiveAt memory k b cells → inj k b ≡ Some a → Beside a (length cells) p
