-- The frame of a function: the return address, the spill slots of temporaries, the objects of variables.
use Rattle.sc_tac.specs.Common.{frame_bound, total}
use Rattle.std.specs.Prelude.{◌≡◌, ◌≤◌, ◌⊎◌, ℕ, suc, ◌+◌, ◌*◌, ◌%◌, max, List, [], ◌∷◌, ◌++◌, map, zip, length, All}
use Rattle.std.specs.Prelude.{AllPairs}
use Rattle.std.specs.List.{range_with_len}
use Rattle.sc_tac.specs.declared.frame.FrameTree.{FrameTree}
use Rattle.sc_tac.specs.declared.place.Place.{Place}
use Rattle.sc_tac.specs.declared.place.Place.TheVariants.{Register, Slot}

-- what frames keep: only words stand in them
pub record IsFrame (frame : FrameTree) : Type 0 where
  pub bytes : frame.bytes % 4 ≡ 0
  pub objects : All (λ offset. offset % 4 ≡ 0) frame.objects
  pub slots : All (λ offset. offset % 4 ≡ 0) frame.slots

-- the slots that places name are the numbers below
abbrev pub slots_up_to : Place → ℕ
slots_up_to (Register r) = 0
slots_up_to (Slot k) = suc k

abbrev pub slots_of : List Place → ℕ
slots_of [] = 0
slots_of (place ∷ places) = max (slots_up_to place) (slots_of places)

-- offsets of objects in order, from this one on, a word for each cell
abbrev pub offsets_from : ℕ → List ℕ → List ℕ
offsets_from offset [] = []
offsets_from offset (cells ∷ rest) = offset ∷ offsets_from (offset + 4 * cells) rest

-- the return address at offset 0, then the slots, then the objects
abbrev pub frame_of : List ℕ → List Place → FrameTree
frame_of cells places =
    record {
      bytes = 4 + 4 * (slots_of places + total cells);
      objects = offsets_from (4 + 4 * slots_of places) cells;
      slots = map (λ slot. 4 + 4 * slot) (range_with_len 0 (slots_of places));
    }

-- some bytes of a frame
pub record Range : Type 0 where
  pub offset : ℕ
  pub bytes : ℕ

abbrev pub end_of : Range → ℕ
end_of range = range.offset + range.bytes

abbrev pub word_at : ℕ → Range
word_at offset = record { offset = offset; bytes = 4 }

abbrev pub object_range : ℕ × ℕ → Range
object_range object = record { offset = object.0; bytes = 4 * object.1 }

-- the return address, the slots, and the objects of variables of these sizes in cells
abbrev pub ranges_of : List ℕ → FrameTree → List Range
ranges_of cells frame = word_at 0 ∷ map word_at frame.slots ++ map object_range (zip frame.objects cells)

abbrev pub Apart : Range → Range → Type 0
Apart a b = (end_of a ≤ b.offset) ⊎ (end_of b ≤ a.offset)

-- all that a frame keeps fits and doesn't overlap, and the frame is no larger than its bound
pub record FrameFits (cells : List ℕ) (places : List Place) (nodes : ℕ) (frame : FrameTree) : Type 0 where
  pub objects : length frame.objects ≡ length cells
  pub slots : length frame.slots ≡ slots_of places
  pub inside : All (λ range. end_of range ≤ frame.bytes) (ranges_of cells frame)
  pub apart : AllPairs Apart (ranges_of cells frame)
  pub bounded : frame.bytes ≤ frame_bound cells nodes
