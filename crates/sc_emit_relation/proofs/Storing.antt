-- Blocks and guarded words across stores: at a guarded word, and through a pointer to a live cell.
use Rattle.sc_emit_relation.proofs.Common.{Apart, Beside, Block, Blocks, BlocksMatch, Bool, ByteMemory as Bytes, Cell}
use Rattle.sc_emit_relation.proofs.Common.{Guarded, ImageParts, InCell, Injection, LiesAt, List, LiveAt, Null, Ok}
use Rattle.sc_emit_relation.proofs.Common.{Option, Owned, Placed, Pointer, Ptr, Some, StandsFor, Value, Word, ℕ, ap}
use Rattle.sc_emit_relation.proofs.Common.{apart_from, arith, cases_eq, cases_order, cell_of, cells_at, eq-eqb, false}
use Rattle.sc_emit_relation.proofs.Common.{inl, inr, length, length-set, live_cells, load, ne_eqb, put_word, refl}
use Rattle.sc_emit_relation.proofs.Common.{same_Some, slice_get, slice_get-get_or, slice_get_within, slice_set, store}
use Rattle.sc_emit_relation.proofs.Common.{subst, subst₂, sym, true, with_blocks, word, word_apart, word_same, ⊎_elim}
use Rattle.sc_emit_relation.proofs.Common.{◌*◌, ◌+◌, ◌<◌, ◌∙◌, ◌≡◌, ◌≢◌, ◌≤◌, ◌⊎◌}
use Rattle.sc_core.specs.Prelude.{Memory}
use Rattle.sc_emit_relation.proofs.Access.{Loads, Stores, alive, get_set_other, get_set_same, load_found, store_found}
use Rattle.sc_emit_relation.proofs.Access.{with_value, written_to}

-- the data of two compartments don't meet
pub other_data : (image : ImageParts) (k c p q : ℕ) → k ≢ c → Owned image k p → Owned image c q → Apart p q
other_data image k c p q n o u =
    ⊎_elim (λ e. absurd (n e))
    (λ w. ⊎_elim (λ below. inl (omega (arith, below, o.high, u.low)))
    (λ above. inr (omega (arith, above, o.low, u.high))) w) (cases_order k c)

-- a cell of a live block is an owned word
pub cell_owned : (image : ImageParts) (floor k a words i : ℕ) → Placed image floor k a words → i < words →
    Owned image k (a + 4 * i)
cell_owned image floor k a words i h l = record {
  aligned = omega (arith, h.aligned);
  low = omega (arith, h.low);
  high = omega (arith, h.high, l);
  its = h.its i l;
}

-- a cell with a value, and its word
pub in_cell : (place : ℕ → Option ℕ) (w : ℕ) (v : Value) → StandsFor place w v → InCell place w (cell_of v)
in_cell place w (Word n) h = h
in_cell place w Null h = h
in_cell place w (Ptr p) h = h

pub of_cell : (place : ℕ → Option ℕ) (w : ℕ) (v : Value) → InCell place w (cell_of v) → StandsFor place w v
of_cell place w (Word n) h = h
of_cell place w Null h = h
of_cell place w (Ptr p) h = h

-- the words of live cells are as they were
abbrev pub CellsKept : (performs : ℕ → Bool) → Injection → Memory → (bytes after : Bytes) → Type 0
CellsKept performs inj memory bytes after =
    (k b a i : ℕ) (cells : List Cell) → performs k ≡ false → LiveAt memory k b cells → inj k b ≡ Some a →
    i < length cells → word after (a + 4 * i) ≡ word bytes (a + 4 * i)

module _ {image : ImageParts} {performs : ℕ → Bool} {floor : ℕ → ℕ} {inj : Injection} {memory : Memory}
    {bytes : Bytes} (blocks : BlocksMatch image performs floor inj memory bytes) where
  pub block_owned : (k b a i : ℕ) (cells : List Cell) → performs k ≡ false → LiveAt memory k b cells →
      inj k b ≡ Some a → i < length cells → Owned image k (a + 4 * i)
  block_owned k b a i cells honest live e l =
      cell_owned image (floor k) k a (length cells) i (blocks.placed k b a cells honest live e) l

  pub blocks_kept : (after : Bytes) → CellsKept performs inj memory bytes after →
      BlocksMatch image performs floor inj memory after
  blocks_kept after h = record {
    there = blocks.there;
    placed = blocks.placed;
    holds = λ k b a i cells c honest live e f.
        subst (λ w. InCell (inj k) w c) (sym (h k b a i cells honest live e (slice_get_within cells i c f)))
        (blocks.holds k b a i cells c honest live e f);
    apart = blocks.apart;
    lies = blocks.lies;
    known = blocks.known;
  }

  -- a guarded word lies apart from live cells
  pub guarded_apart : (c q k b a i : ℕ) (cells : List Cell) → Guarded image inj memory c q → performs k ≡ false →
      LiveAt memory k b cells → inj k b ≡ Some a → i < length cells → Apart (a + 4 * i) q
  guarded_apart c q k b a i cells g honest live e l =
      ⊎_elim here
      (λ n. other_data image k c (a + 4 * i) q n (block_owned k b a i cells honest live e l) g.owned)
      (cases_eq k c)
    where
      here : k ≡ c → Apart (a + 4 * i) q
      here same =
          let beside : Beside a (length cells) q =
          g.free b a cells (subst (λ k. LiveAt memory k b cells) same live) (sym (ap (λ k. inj k b) same) ∙ e) in
          apart_from (a + 4 * i) q (λ x y. omega (arith, beside, l))

  -- a guarded word is written
  pub guarded_cells : (c q value : ℕ) → Guarded image inj memory c q →
      CellsKept performs inj memory bytes (put_word bytes q value)
  guarded_cells c q value g k b a i cells honest live e l =
      word_apart bytes q value (a + 4 * i) (guarded_apart c q k b a i cells g honest live e l)

  -- a load gives the word of the value that the meaning loads
  pub record LoadsWord (c a : ℕ) (p : Pointer) (v : Value) : Type 0 where
    pub owned : Owned image c (a + 4 * p.index)
    pub stands : StandsFor (inj c) (word bytes (a + 4 * p.index)) v

  pub loads_word : (c a : ℕ) (pointer : Bool) (p : Pointer) (v : Value) → performs c ≡ false →
      load (memory c) pointer (Ptr p) ≡ Ok v → inj c p.block ≡ Some a → LoadsWord c a p v
  loads_word c a pointer p v honest h e =
      let found : Loads (memory c) p v = load_found (memory c) pointer p v h in
      record {
        owned = block_owned c p.block a p.index found.cells honest found.live e
            (slice_get_within found.cells p.index (cell_of v) found.there);
        stands = of_cell (inj c) (word bytes (a + 4 * p.index)) v
            (blocks.holds c p.block a p.index found.cells (cell_of v) honest found.live e found.there);
      }

  -- A store through a pointer.
  module _ (c a w : ℕ) (p : Pointer) (v : Value) (after : Blocks) (honest : performs c ≡ false)
      (stores : store (memory c) (Ptr p) v ≡ Ok after) (is_at : inj c p.block ≡ Some a) where
    abbrev pub target : ℕ
    target = a + 4 * p.index

    abbrev pub after_memory : Memory
    after_memory = with_blocks c after memory

    did : Stores (memory c) p v after
    did = store_found (memory c) p v after stores

    pub target_owned : Owned image c target
    target_owned = block_owned c p.block a p.index did.block.cells honest did.live is_at did.below

    abbrev written : Block
    written = written_to did.block p.index v

    -- the cell that is written
    record IsTarget (k b i : ℕ) : Type 0 where
      comp : k ≡ c
      block : b ≡ p.block
      index : i ≡ p.index

    -- a cell afterwards is the one that was written, or was there and is another
    abbrev CellWas : (old : List Cell) → (k b i : ℕ) → Cell → Type 0
    CellWas old k b i x = (IsTarget k b i × (x ≡ cell_of v)) ⊎ ((slice_get old i ≡ Some x) × (IsTarget k b i → ⊥))

    -- a live block afterwards was one before
    pub record Was (k b : ℕ) (cells : List Cell) : Type 0 where
      pub old : List Cell
      pub live : LiveAt memory k b old
      pub long : length cells ≡ length old
      each : (i : ℕ) (x : Cell) → slice_get cells i ≡ Some x → CellWas old k b i x

    cell_was : (old : List Cell) (k b i : ℕ) (x : Cell) → k ≡ c → b ≡ p.block → p.index < length old →
        slice_get (slice_set old p.index (cell_of v)) i ≡ Some x → CellWas old k b i x
    cell_was old k b i x ek eb within h = ⊎_elim
        (λ e. inl (
          record { comp = ek; block = eb; index = e },
          sym (same_Some (cell_of v) x (sym (get_set_same old p.index (cell_of v) _
              (slice_get-get_or old p.index (cell_of v) within)) ∙
              ap (λ j. slice_get (slice_set old p.index (cell_of v)) j) (sym e) ∙ h)),
        ))
        (λ n. inr (sym (get_set_other old p.index i (cell_of v) n) ∙ h, λ (t : IsTarget k b i). n t.index))
        (cases_eq i p.index)

    memory_here : (k : ℕ) → k ≡ c → after_memory k ≡ with_value (memory c) p did.block v
    memory_here k ek = rw (eq-eqb k c ek) did.is

    memory_there : (k : ℕ) → k ≢ c → after_memory k ≡ memory k
    memory_there k n = rw (ne_eqb k c n) refl

    was_here : (k b : ℕ) (cells : List Cell) → k ≡ c → b ≡ p.block → LiveAt after_memory k b cells → Was k b cells
    was_here k b cells ek eb h =
        let now : cells_at (with_value (memory c) p did.block v) p.block ≡ Ok cells =
        sym (ap (λ bs. cells_at bs p.block) (memory_here k ek)) ∙
        ap (λ j. cells_at (after_memory k) j) (sym eb) ∙ h in
        let there : cells_at (with_value (memory c) p did.block v) p.block ≡ Ok written.cells =
        alive (with_value (memory c) p did.block v) p.block written
        (get_set_same (memory c) p.block written _ did.at) did.alive in
        let same : Ok written.cells ≡ Ok cells = sym there ∙ now in
        let those : cells ≡ slice_set did.block.cells p.index (cell_of v) = cc same in
        record {
          old = did.block.cells;
          live = ap (λ j. cells_at (memory k) j) eb ∙ ap (λ k. cells_at (memory k) p.block) ek ∙ did.live;
          long = ap length those ∙ length-set did.block.cells p.index (cell_of v);
          each = λ i x e. cell_was did.block.cells k b i x ek eb did.below (sym (ap (λ xs. slice_get xs i) those) ∙ e);
        }

    was_there : (k b : ℕ) (cells : List Cell) → k ≡ c → b ≢ p.block → LiveAt after_memory k b cells → Was k b cells
    was_there k b cells ek nb h = record {
      old = cells;
      live = ap (λ k. cells_at (memory k) b) ek ∙
          sym (ap live_cells (get_set_other (memory c) p.block b written nb)) ∙
          sym (ap (λ bs. cells_at bs b) (memory_here k ek)) ∙ h;
      long = refl;
      each = λ i x e. inr (e, λ (t : IsTarget k b i). nb t.block);
    }

    was_else : (k b : ℕ) (cells : List Cell) → k ≢ c → LiveAt after_memory k b cells → Was k b cells
    was_else k b cells n h = record {
      old = cells;
      live = sym (ap (λ bs. cells_at bs b) (memory_there k n)) ∙ h;
      long = refl;
      each = λ i x e. inr (e, λ (t : IsTarget k b i). n t.comp);
    }

    pub was : (k b : ℕ) (cells : List Cell) → LiveAt after_memory k b cells → Was k b cells
    was k b cells h =
        ⊎_elim (λ e. ⊎_elim (λ f. was_here k b cells e f h) (λ n. was_there k b cells e n h) (cases_eq b p.block))
        (λ n. was_else k b cells n h) (cases_eq k c)

    -- a block that lives afterwards lived before, with as many cells and at the same place
    record BlockWas (k b : ℕ) (x : Block) : Type 0 where
      old : Block
      at : slice_get (memory k) b ≡ Some old
      live : old.live ≡ true
      long : length x.cells ≡ length old.cells
      place_is : x.place ≡ old.place

    block_written : (k b : ℕ) (x : Block) → k ≡ c → b ≡ p.block → slice_get (after_memory k) b ≡ Some x → BlockWas k b x
    block_written k b x ek eb h =
        let same : written ≡ x =
        same_Some written x (sym (get_set_same (memory c) p.block written _ did.at) ∙
        sym (ap (λ bs. slice_get bs p.block) (memory_here k ek)) ∙
        ap (slice_get (after_memory k)) (sym eb) ∙ h) in
        record {
          old = did.block;
          at = ap (slice_get (memory k)) eb ∙ ap (λ k. slice_get (memory k) p.block) ek ∙ did.at;
          live = did.alive;
          long = ap (λ (y : Block). length y.cells) (sym same) ∙ length-set did.block.cells p.index (cell_of v);
          place_is = ap (λ (y : Block). y.place) (sym same);
        }

    block_same : (k b : ℕ) (x : Block) → slice_get (memory k) b ≡ Some x → x.live ≡ true → BlockWas k b x
    block_same k b x h live = record { old = x; at = h; live = live; long = refl; place_is = refl }

    block_was : (k b : ℕ) (x : Block) → slice_get (after_memory k) b ≡ Some x → x.live ≡ true → BlockWas k b x
    block_was k b x h live = ⊎_elim
        (λ e. ⊎_elim (λ f. block_written k b x e f h)
        (λ n. block_same k b x (ap (λ k. slice_get (memory k) b) e ∙
        sym (get_set_other (memory c) p.block b written n) ∙
        sym (ap (λ bs. slice_get bs b) (memory_here k e)) ∙ h) live)
        (cases_eq b p.block))
        (λ n. block_same k b x (sym (ap (λ bs. slice_get bs b) (memory_there k n)) ∙ h) live)
        (cases_eq k c)

    lies_after : (k b d : ℕ) (x : Block) → performs k ≡ false → BlockWas k b x → inj k b ≡ Some d →
        LiesAt k d (length x.cells) x.place
    lies_after k b d x s was e =
        subst₂ (LiesAt k d) (sym was.long) (sym was.place_is) (blocks.lies k b d was.old s was.at was.live e)

    pub guarded_after : (k q : ℕ) → Guarded image inj memory k q → Guarded image inj after_memory k q
    guarded_after k q g = record {
      owned = g.owned;
      below = g.below;
      free = λ b d cells live e. subst (λ n. Beside d n q) (sym (was k b cells live).long)
          (g.free b d (was k b cells live).old (was k b cells live).live e);
    }

    -- a guarded word is kept
    pub guarded_kept : (k q : ℕ) → Guarded image inj memory k q → word (put_word bytes target w) q ≡ word bytes q
    guarded_kept k q g =
        let apart : Apart target q =
        guarded_apart k q c p.block a p.index did.block.cells g honest did.live is_at did.below in
        word_apart bytes target w q (apart_from q target (λ x y. omega (arith, apart)))

    new_in_cell : (k b d i : ℕ) (x : Cell) → inj k b ≡ Some d → IsTarget k b i → x ≡ cell_of v →
        StandsFor (inj c) w v → InCell (inj k) (word (put_word bytes target w) (d + 4 * i)) x
    new_in_cell k b d i x e t ex stands =
        let place : d ≡ a =
        same_Some d a (sym e ∙ ap (inj k) t.block ∙ ap (λ k. inj k p.block) t.comp ∙ is_at) in
        let there : d + 4 * i ≡ target = omega (arith, place, t.index) in
        let now : word (put_word bytes target w) (d + 4 * i) ≡ w =
        ap (word (put_word bytes target w)) there ∙ word_same bytes target w stands.word in
        subst (λ z. InCell (inj k) z x) (sym now) (subst (InCell (inj k) w) (sym ex)
        (subst (λ k. InCell (inj k) w (cell_of v)) (sym t.comp) (in_cell (inj c) w v stands)))

    same_block : (k b d i : ℕ) → inj k b ≡ Some d → (IsTarget k b i → ⊥) → k ≡ c → b ≡ p.block →
        Apart (d + 4 * i) target
    same_block k b d i e n ek eb =
        let place : d ≡ a = same_Some d a (sym e ∙ ap (inj k) eb ∙ ap (λ k. inj k p.block) ek ∙ is_at) in
        apart_from (d + 4 * i) target (λ x y. n (record { comp = ek; block = eb; index = omega (arith, place) }))

    other_block : (k b d i : ℕ) (old : List Cell) → performs k ≡ false → LiveAt memory k b old → inj k b ≡ Some d →
        i < length old → k ≡ c → b ≢ p.block → Apart (d + 4 * i) target
    other_block k b d i old s live e l ek nb =
        let beside : (d + 4 * length old ≤ a) ⊎ (a + 4 * length did.block.cells ≤ d) =
        blocks.apart k b p.block d a old did.block.cells s live
        (subst (λ k. LiveAt memory k p.block did.block.cells) (sym ek) did.live) e
        (ap (λ k. inj k p.block) ek ∙ is_at) nb in
        apart_from (d + 4 * i) target (λ x y. omega (arith, beside, did.below))

    cells_apart : (k b d i : ℕ) (old : List Cell) → performs k ≡ false → LiveAt memory k b old → inj k b ≡ Some d →
        i < length old → (IsTarget k b i → ⊥) → Apart (d + 4 * i) target
    cells_apart k b d i old s live e l n = ⊎_elim
        (λ ek. ⊎_elim (same_block k b d i e n ek) (other_block k b d i old s live e l ek) (cases_eq b p.block))
        (λ nk. other_data image k c (d + 4 * i) target nk (block_owned k b d i old s live e l) target_owned)
        (cases_eq k c)

    same_length : (k : ℕ) → length (after_memory k) ≡ length (memory k)
    same_length k = ⊎_elim
        (λ e. ap length (memory_here k e) ∙ length-set (memory c) p.block written ∙
        ap (λ k. length (memory k)) (sym e))
        (λ n. ap length (memory_there k n))
        (cases_eq k c)

    cell_after : (k b d i : ℕ) (cells : List Cell) (x : Cell) → StandsFor (inj c) w v → performs k ≡ false →
        inj k b ≡ Some d → (was : Was k b cells) → slice_get cells i ≡ Some x →
        InCell (inj k) (word (put_word bytes target w) (d + 4 * i)) x
    cell_after k b d i cells x stands s e was f =
        ⊎_elim (λ now. new_in_cell k b d i x e now.0 now.1 stands)
        (λ old. subst (λ z. InCell (inj k) z x) (sym (word_apart bytes target w (d + 4 * i)
        (cells_apart k b d i was.old s was.live e (slice_get_within was.old i x old.0) old.1)))
        (blocks.holds k b d i was.old x s was.live e old.0)) (was.each i x f)

    pub blocks_after : StandsFor (inj c) w v →
        BlocksMatch image performs floor inj after_memory (put_word bytes target w)
    blocks_after stands = record {
      there = λ k b cells s live. blocks.there k b (was k b cells live).old s (was k b cells live).live;
      placed = λ k b d cells s live e. subst (Placed image (floor k) k d) (sym (was k b cells live).long)
          (blocks.placed k b d (was k b cells live).old s (was k b cells live).live e);
      holds = λ k b d i cells x s live e f. cell_after k b d i cells x stands s e (was k b cells live) f;
      apart = λ k b o d e xs ys s l m f g n.
          subst (λ x. (d + 4 * x ≤ e) ⊎ (e + 4 * length ys ≤ d)) (sym (was k b xs l).long)
          (subst (λ y. (d + 4 * length (was k b xs l).old ≤ e) ⊎ (e + 4 * y ≤ d)) (sym (was k o ys m).long)
          (blocks.apart k b o d e (was k b xs l).old (was k o ys m).old s (was k b xs l).live (was k o ys m).live f
          g n));
      lies = λ k b d x s h live e. lies_after k b d x s (block_was k b x h live) e;
      known = λ k b d e. subst (λ n. b < n) (sym (same_length k)) (blocks.known k b d e);
    }
