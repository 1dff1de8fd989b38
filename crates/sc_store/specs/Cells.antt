-- How bytes stand on the pages of a pool.
use Rattle.std.specs.Prelude.{◌≡◌, ℕ, ◌+◌, ◌-◌, ◌/◌, ◌%◌, ◌&&◌, nat_le, nat_lt, if◌then◌else◌, List, length, Option}
use Rattle.std.specs.Prelude.{Some, None, IsSome, slice_index, slice_index_or}
use Rattle.sc_pool.specs.Pages.{Pages, page_of}

-- the page of each taken place of the table is out
abbrev pub AreOut : List (Option ℕ) → Pages → Type 0
AreOut table pool = (k n : ℕ) → slice_index_or table k None ≡ Some n → IsSome (page_of pool n)

-- no page stands at two places of the table
abbrev pub AreDistinct : List (Option ℕ) → Type 0
AreDistinct table =
    (j k n : ℕ) → slice_index_or table j None ≡ Some n → slice_index_or table k None ≡ Some n → j ≡ k

-- a byte of a page that may be out
abbrev pub byte_on : Option (List ℕ) → ℕ → ℕ
byte_on None k = 0
byte_on (Some bytes) k = slice_index bytes k

-- a byte of the page at a place of the table
abbrev pub byte_at : Pages → Option ℕ → ℕ → ℕ
byte_at pool None k = 0
byte_at pool (Some n) k = byte_on (page_of pool n) k

-- the byte at a place
abbrev pub cell : List (Option ℕ) → Pages → ℕ → ℕ
cell table pool at = byte_at pool (slice_index_or table (at / 4096) None) (at % 4096)

-- the bytes with others in place of those from `a` on
abbrev pub replaced : (ℕ → ℕ) → ℕ → List ℕ → ℕ → ℕ
replaced f a bs k = if nat_le a k && nat_lt k (a + length bs) then slice_index bs (k - a) else f k
