-- What operators on pointers have found, where they gave a value.
use Rattle.sc_emit_relation.proofs.Common.{BadPointer, Block, Blocks, Bool, Cause, Cell, Dangling, Err, List, None}
use Rattle.sc_emit_relation.proofs.Common.{Null, Ok, Option, OutOfBounds, Pointer, Ptr, Result, Some, Value, Word}
use Rattle.sc_emit_relation.proofs.Common.{apart, bind, cells_at, eqb-true, false, if◌then◌else◌, is_inside, leb-true}
use Rattle.sc_emit_relation.proofs.Common.{length, live_cells, ltb-true, moved, nat_le, nat_lt, negsuc, place_at, pos}
use Rattle.sc_emit_relation.proofs.Common.{refl, slice_get, subst, true, ℕ, ℤ, ◌&&◌, ◌+ℤ◌, ◌-ℤ◌, ◌<◌, ◌==◌, ◌≡◌, ◌≤◌}
use Rattle.sc_emit_relation.proofs.Access.{LivesIn, alive}

-- what is bound gave a result
pub record Binds {A B : Type 0} (x : Result A Cause) (go : A → Result B Cause) (r : B) : Type 0 where
  pub value : A
  pub first : x ≡ Ok value
  pub gave : go value ≡ Ok r

pub bound : {A B : Type 0} (x : Result A Cause) (go : A → Result B Cause) (r : B) → bind x go ≡ Ok r → Binds x go r
bound (Ok a) go r h = record { value = a; first = refl; gave = h }
bound (Err c) go r h = cc h

lives_by : (blocks : Blocks) (b : ℕ) (cells : List Cell) (block : Block) → slice_get blocks b ≡ Some block →
    (live : Bool) → block.live ≡ live → (if live then Ok block.cells else Err Dangling) ≡ Ok cells →
    LivesIn blocks b cells
lives_by blocks b cells block is true e h =
    let same : block.cells ≡ cells = cc h in
    subst (λ cells. LivesIn blocks b cells) same (alive blocks b block is e)
lives_by blocks b cells block is false e h = cc h

lives_at : (blocks : Blocks) (b : ℕ) (cells : List Cell) (found : Option Block) → slice_get blocks b ≡ found →
    live_cells found ≡ Ok cells → LivesIn blocks b cells
lives_at blocks b cells None is h = cc h
lives_at blocks b cells (Some block) is h = lives_by blocks b cells block is block.live refl h

pub cells_live : (blocks : Blocks) (b : ℕ) (cells : List Cell) → cells_at blocks b ≡ Ok cells → LivesIn blocks b cells
cells_live blocks b cells h = lives_at blocks b cells (slice_get blocks b) refl h

-- a place `by` cells further, in a block that lives
pub record Moves (blocks : Blocks) (by : ℤ) (v r : Value) : Type 0 where
  pub from : Pointer
  pub index : ℕ
  pub cells : List Cell
  pub its : v ≡ Ptr from
  pub live : LivesIn blocks from.block cells
  pub sum : pos from.index +ℤ by ≡ pos index
  pub inside : index ≤ length cells
  pub result : Ptr (record { block = from.block; index = index }) ≡ r

index_by : (blocks : Blocks) (by : ℤ) (p : Pointer) (r : Value) (cells : List Cell) → LivesIn blocks p.block cells →
    (i : ℕ) → pos p.index +ℤ by ≡ pos i → (inside : Bool) → nat_le i (length cells) ≡ inside →
    (if inside then Ok (Ptr (record { block = p.block; index = i })) else Err OutOfBounds) ≡ Ok r →
    Moves blocks by (Ptr p) r
index_by blocks by p r cells live i sum true is h = record {
  from = p;
  index = i;
  cells = cells;
  its = refl;
  live = live;
  sum = sum;
  inside = leb-true i (length cells) is;
  result = cc h;
}
index_by blocks by p r cells live i sum false is h = cc h

place_by : (blocks : Blocks) (by : ℤ) (p : Pointer) (r : Value) (cells : List Cell) → LivesIn blocks p.block cells →
    (z : ℤ) → pos p.index +ℤ by ≡ z → place_at p.block z (length cells) ≡ Ok r → Moves blocks by (Ptr p) r
place_by blocks by p r cells live (pos i) sum h =
    index_by blocks by p r cells live i sum (nat_le i (length cells)) refl h
place_by blocks by p r cells live (negsuc i) sum h = cc h

pub moved_found : (blocks : Blocks) (by : ℤ) (v r : Value) → moved blocks by v ≡ Ok r → Moves blocks by v r
moved_found blocks by (Word w) r h = cc h
moved_found blocks by Null r h = cc h
moved_found blocks by (Ptr p) r h =
    let found = bound (cells_at blocks p.block) (λ cells. place_at p.block (pos p.index +ℤ by) (length cells)) r h in
    place_by blocks by p r found.value (cells_live blocks p.block found.value found.first) (pos p.index +ℤ by) refl
    found.gave

-- two places of one block
pub record Between (v w : Value) (by : ℤ) : Type 0 where
  pub left : Pointer
  pub right : Pointer
  pub is_left : v ≡ Ptr left
  pub is_right : w ≡ Ptr right
  pub together : left.block ≡ right.block
  pub far : pos left.index -ℤ pos right.index ≡ by

between_by : (p q : Pointer) (by : ℤ) (same : Bool) → (p.block == q.block) ≡ same →
    (if same then Ok (pos p.index -ℤ pos q.index) else Err BadPointer) ≡ Ok by → Between (Ptr p) (Ptr q) by
between_by p q by true is h = record {
  left = p;
  right = q;
  is_left = refl;
  is_right = refl;
  together = eqb-true p.block q.block is;
  far = cc h;
}
between_by p q by false is h = cc h

pub between_found : (v w : Value) (by : ℤ) → apart v w ≡ Ok by → Between v w by
between_found (Word a) w by h = cc h
between_found Null w by h = cc h
between_found (Ptr p) (Word b) by h = cc h
between_found (Ptr p) Null by h = cc h
between_found (Ptr p) (Ptr q) by h = between_by p q by (p.block == q.block) refl h

-- a place strictly inside its block
pub record Inside (blocks : Blocks) (p : Pointer) : Type 0 where
  pub cells : List Cell
  pub live : LivesIn blocks p.block cells
  pub inside : p.index < length cells

inside_found : (blocks : Blocks) (p : Pointer) → is_inside blocks p ≡ Ok true → Inside blocks p
inside_found blocks p h =
    let found = bound (cells_at blocks p.block) (λ cells. Ok (nat_lt p.index (length cells))) true h in
    let inside : nat_lt p.index (length found.value) ≡ true = cc found.gave in
    record {
      cells = found.value;
      live = cells_live blocks p.block found.value found.first;
      inside = ltb-true p.index (length found.value) inside;
    }

-- two places of two blocks, which were found not to be one
pub record Apart (blocks : Blocks) (p q : Pointer) (same : Bool) : Type 0 where
  pub first : Inside blocks p
  pub second : Inside blocks q
  pub differ : same ≡ false

both_by : (blocks : Blocks) (p q : Pointer) (same x y : Bool) → is_inside blocks p ≡ Ok x → is_inside blocks q ≡ Ok y →
    (if x && y then Ok false else Err BadPointer) ≡ Ok same → Apart blocks p q same
both_by blocks p q same true true f g h =
    record { first = inside_found blocks p f; second = inside_found blocks q g; differ = cc h }
both_by blocks p q same true false f g h = cc h
both_by blocks p q same false y f g h = cc h

pub apart_found : (blocks : Blocks) (p q : Pointer) (same : Bool) →
    bind (is_inside blocks p) (λ a. bind (is_inside blocks q) (λ b. if a && b then Ok false else Err BadPointer)) ≡
    Ok same → Apart blocks p q same
apart_found blocks p q same h =
    let one = bound (is_inside blocks p)
    (λ a. bind (is_inside blocks q) (λ b. if a && b then Ok false else Err BadPointer)) same h in
    let two = bound (is_inside blocks q) (λ b. if one.value && b then Ok false else Err BadPointer) same one.gave in
    both_by blocks p q same one.value two.value one.first two.first two.gave
