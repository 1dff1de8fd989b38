-- What a load and a store of the meaning say of blocks.
use Rattle.sc_emit_relation.proofs.Common.{BadType, Block, Blocks, Bool, Cause, Cell, Dangling, Err, List, None, Null}
use Rattle.sc_emit_relation.proofs.Common.{Ok, Option, OutOfBounds, Pointer, Ptr, Result, Some, Value, Word, [], ap}
use Rattle.sc_emit_relation.proofs.Common.{bind, cell_of, cells_at, false, if◌then◌else◌, is_live, length, live_cells}
use Rattle.sc_emit_relation.proofs.Common.{living, load, loaded, ltb-true, nat_lt, refl, slice_get, slice_get_within}
use Rattle.sc_emit_relation.proofs.Common.{slice_set, store, suc, sym, true, with_cell, zero, ℕ, ◌<◌, ◌∙◌, ◌∷◌, ◌≡◌}
use Rattle.sc_emit_relation.proofs.Common.{◌≢◌}
use Rattle.sc_core.specs.declared.value.Cell.TheVariants as cell

-- a list after a write
pub get_set_same : {A : Type 0} (xs : List A) (i : ℕ) (y x : A) → slice_get xs i ≡ Some x →
    slice_get (slice_set xs i y) i ≡ Some y
get_set_same [] i y x h = cc h
get_set_same (z ∷ xs) zero y x h = refl
get_set_same (z ∷ xs) (suc i) y x h = get_set_same xs i y x h

pub get_set_other : {A : Type 0} (xs : List A) (i j : ℕ) (y : A) → j ≢ i →
    slice_get (slice_set xs i y) j ≡ slice_get xs j
get_set_other [] i j y h = refl
get_set_other (z ∷ xs) zero zero y h = absurd (h refl)
get_set_other (z ∷ xs) zero (suc j) y h = refl
get_set_other (z ∷ xs) (suc i) zero y h = refl
get_set_other (z ∷ xs) (suc i) (suc j) y h = get_set_other xs i j y (λ e. h (ap suc e))

-- a block that is found alive
abbrev pub LivesIn : Blocks → ℕ → List Cell → Type 0
LivesIn blocks b cells = cells_at blocks b ≡ Ok cells

-- the block that is found
pub record LivingBlock (blocks : Blocks) (b : ℕ) (cells : List Cell) : Type 0 where
  pub block : Block
  pub at : slice_get blocks b ≡ Some block
  pub live : block.live ≡ true
  pub its : block.cells ≡ cells

living_by : (blocks : Blocks) (b : ℕ) (cells : List Cell) (block : Block) (live : Bool) →
    slice_get blocks b ≡ Some block → block.live ≡ live →
    ◌≡◌ {A = Result (List Cell) Cause} (if live then Ok block.cells else Err Dangling) (Ok cells) →
    LivingBlock blocks b cells
living_by blocks b cells block true at l h =
    let same : block.cells ≡ cells = cc h in record { block = block; at = at; live = l; its = same }
living_by blocks b cells block false at l h = cc h

living_at : (blocks : Blocks) (b : ℕ) (cells : List Cell) (found : Option Block) → slice_get blocks b ≡ found →
    live_cells found ≡ Ok cells → LivingBlock blocks b cells
living_at blocks b cells None at h = cc h
living_at blocks b cells (Some block) at h = living_by blocks b cells block block.live at refl h

pub living_block : (blocks : Blocks) (b : ℕ) (cells : List Cell) → LivesIn blocks b cells → LivingBlock blocks b cells
living_block blocks b cells h = living_at blocks b cells (slice_get blocks b) refl h

pub live_within : (blocks : Blocks) (b : ℕ) (cells : List Cell) → LivesIn blocks b cells → b < length blocks
live_within blocks b cells h =
    let found = living_block blocks b cells h in slice_get_within blocks b found.block found.at

-- what a load that gives a value has found
pub record Loads (blocks : Blocks) (p : Pointer) (v : Value) : Type 0 where
  pub cells : List Cell
  pub live : LivesIn blocks p.block cells
  pub there : slice_get cells p.index ≡ Some (cell_of v)

pub alive : (blocks : Blocks) (b : ℕ) (block : Block) → slice_get blocks b ≡ Some block → block.live ≡ true →
    LivesIn blocks b block.cells
alive blocks b block is e = ap live_cells is ∙ (λ i. if e i then Ok block.cells else Err Dangling)

pointer_by : (p : Pointer) (v : Value) (alive pointer : Bool) →
    (if alive then (if pointer then Ok (Ptr p) else Err BadType) else Err Dangling) ≡ Ok v →
    Some (cell.Ptr p) ≡ Some (cell_of v)
pointer_by p v true true h = let e : Ptr p ≡ v = cc h in ap (λ x. Some (cell_of x)) e
pointer_by p v true false h = cc h
pointer_by p v false pointer h = cc h

cell_by : (blocks : Blocks) (pointer : Bool) (c : Option Cell) (v : Value) → loaded blocks pointer c ≡ Ok v →
    c ≡ Some (cell_of v)
cell_by blocks pointer None v h = cc h
cell_by blocks pointer (Some cell.Undef) v h = cc h
cell_by blocks true (Some (cell.Word w)) v h = cc h
cell_by blocks false (Some (cell.Word w)) v h = let e : Word w ≡ v = cc h in ap (λ x. Some (cell_of x)) e
cell_by blocks true (Some cell.Null) v h = let e : Null ≡ v = cc h in ap (λ x. Some (cell_of x)) e
cell_by blocks false (Some cell.Null) v h = cc h
cell_by blocks pointer (Some (cell.Ptr p)) v h = pointer_by p v (is_live (slice_get blocks p.block)) pointer h

load_by : (blocks : Blocks) (pointer : Bool) (p : Pointer) (v : Value) (block : Block) →
    slice_get blocks p.block ≡ Some block → (alive : Bool) → block.live ≡ alive →
    bind (if alive then Ok block.cells else Err Dangling) (λ cells. loaded blocks pointer (slice_get cells p.index))
    ≡ Ok v → Loads blocks p v
load_by blocks pointer p v block is true e h = record {
  cells = block.cells;
  live = alive blocks p.block block is e;
  there = cell_by blocks pointer (slice_get block.cells p.index) v h;
}
load_by blocks pointer p v block is false e h = cc h

load_at : (blocks : Blocks) (pointer : Bool) (p : Pointer) (v : Value) (found : Option Block) →
    slice_get blocks p.block ≡ found →
    bind (live_cells found) (λ cells. loaded blocks pointer (slice_get cells p.index)) ≡ Ok v → Loads blocks p v
load_at blocks pointer p v None is h = cc h
load_at blocks pointer p v (Some block) is h = load_by blocks pointer p v block is block.live refl h

pub load_found : (blocks : Blocks) (pointer : Bool) (p : Pointer) (v : Value) → load blocks pointer (Ptr p) ≡ Ok v →
    Loads blocks p v
load_found blocks pointer p v h = load_at blocks pointer p v (slice_get blocks p.block) refl h

-- a block with a value in one of its cells, and the blocks with it
abbrev pub written_to : Block → ℕ → Value → Block
written_to block i v = record block { cells = slice_set block.cells i (cell_of v) }

abbrev pub with_value : Blocks → Pointer → Block → Value → Blocks
with_value blocks p block v = slice_set blocks p.block (written_to block p.index v)

-- what a store that is allowed has done
pub record Stores (blocks : Blocks) (p : Pointer) (v : Value) (after : Blocks) : Type 0 where
  pub block : Block
  pub at : slice_get blocks p.block ≡ Some block
  pub alive : block.live ≡ true
  pub live : LivesIn blocks p.block block.cells
  pub below : p.index < length block.cells
  pub is : after ≡ with_value blocks p block v

inside_by : (blocks : Blocks) (p : Pointer) (v : Value) (after : Blocks) (block : Block) →
    slice_get blocks p.block ≡ Some block → block.live ≡ true → (fits : Bool) →
    nat_lt p.index (length block.cells) ≡ fits →
    (if fits then Ok (with_value blocks p block v) else Err OutOfBounds) ≡ Ok after → Stores blocks p v after
inside_by blocks p v after block at live true k h = record {
  block = block;
  at = at;
  alive = live;
  live = alive blocks p.block block at live;
  below = ltb-true p.index (length block.cells) k;
  is = (let e : with_value blocks p block v ≡ after = cc h in sym e);
}
inside_by blocks p v after block at live false k h = cc h

store_by : (blocks : Blocks) (p : Pointer) (v : Value) (after : Blocks) (block : Block) →
    slice_get blocks p.block ≡ Some block → (alive : Bool) → block.live ≡ alive →
    bind (if alive then Ok block else Err Dangling) (with_cell blocks p v) ≡ Ok after → Stores blocks p v after
store_by blocks p v after block is true e h =
    inside_by blocks p v after block is e (nat_lt p.index (length block.cells)) refl h
store_by blocks p v after block is false e h = cc h

store_at : (blocks : Blocks) (p : Pointer) (v : Value) (after : Blocks) (found : Option Block) →
    slice_get blocks p.block ≡ found → bind (living found) (with_cell blocks p v) ≡ Ok after →
    Stores blocks p v after
store_at blocks p v after None is h = cc h
store_at blocks p v after (Some block) is h = store_by blocks p v after block is block.live refl h

pub store_found : (blocks : Blocks) (p : Pointer) (v : Value) (after : Blocks) → store blocks (Ptr p) v ≡ Ok after →
    Stores blocks p v after
store_found blocks p v after h = store_at blocks p v after (slice_get blocks p.block) refl h
