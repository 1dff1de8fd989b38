-- A call begins: its blocks, their places in its frame, and how the bytes stand for all blocks then.
use Rattle.sc_emit_relation.proofs.Common.{Block, BlocksMatch, Bool, ByteMemory as Bytes, Cell, FrameFits, FrameTree}
use Rattle.sc_emit_relation.proofs.Common.{Guarded, ImageParts, InCell, Injection, IsFrame, LiesAt, List, LiveAt, None}
use Rattle.sc_emit_relation.proofs.Common.{Ok, Option, Owned, Place, Placed, Some, StandsFor, Value, ℕ, [], all_at, ap}
use Rattle.sc_emit_relation.proofs.Common.{arith, blocks_for, cases_eq, cases_lt, cases_order, cell_of, data_start}
use Rattle.sc_emit_relation.proofs.Common.{eq-eqb, false, get_prefix, if◌then◌else◌, inl, inr, le-leb, length}
use Rattle.sc_emit_relation.proofs.Common.{length-append, lt-leb, nat_eq, nat_le, ne_eqb, own_words, put, refl}
use Rattle.sc_emit_relation.proofs.Common.{replicate, same_Some, slice_get, slice_get_within, stack_top, subst, subst₂}
use Rattle.sc_emit_relation.proofs.Common.{suc, sym, true, variable, with_blocks, word, zero, ⊎_elim, ◌%◌, ◌&&◌, ◌*◌}
use Rattle.sc_emit_relation.proofs.Common.{◌++◌, ◌+◌, ◌-◌, ◌<◌, ◌∙◌, ◌∷◌, ◌≡◌, ◌≢◌, ◌≤◌, ◌⊎◌}
use Rattle.sc_core.specs.Prelude.{Memory}
use Rattle.std.specs.Option.{option_map}
use Rattle.sc_core.specs.declared.value.Cell.TheVariants as cell
use Rattle.sc_emit_hart.proofs.Words.{stack_data, stack_owned}
use Rattle.sc_emit_relation.proofs.Access.{LivingBlock, alive, living_block}
use Rattle.sc_emit_relation.proofs.Frames.{get_back, object_inside, object_there, objects_apart, own_beside, own_inside}
use Rattle.sc_emit_relation.proofs.Held.{Grows, stands_more}
use Rattle.std.proofs.lemmas.List.{length-replicate}
use Rattle.sc_emit_relation.proofs.Storing.{block_owned, in_cell}

-- a word of other data lies outside a part of a stack
pub other_range : (image : ImageParts) (k c q low bytes : ℕ) → k ≢ c → Owned image k q → data_start c ≤ low →
    low + bytes ≤ stack_top c → (q + 4 ≤ low) ⊎ (low + bytes ≤ q)
other_range image k c q low bytes n o start high =
    ⊎_elim (λ e. absurd (n e))
    (λ w. ⊎_elim (λ below. inl (omega (arith, o.high, below, start)))
    (λ above. inr (omega (arith, o.low, above, high))) w) (cases_order k c)

-- a new block: with an argument in its one cell, or with nothing in `size` cells
pub record New (cells : List ℕ) (args : List Value) (o : ℕ) (block : Block) : Type 0 where
  pub size : ℕ
  pub its : slice_get cells o ≡ Some size
  pub place_is : block.place ≡ None
  pub holds : ((v : Value) × (slice_get args o ≡ Some v) × (block.cells ≡ cell_of v ∷ [])) ⊎
      (block.cells ≡ replicate size cell.Undef)

new_block : (cells : List ℕ) (args : List Value) (o : ℕ) (block : Block) →
    slice_get (blocks_for cells args) o ≡ Some block → New cells args o block
new_block [] args o block h = cc h
new_block (n ∷ cells) [] zero block h =
    let e : variable (replicate n cell.Undef) ≡ block = same_Some _ block h in
    record { size = n; its = refl; place_is = sym (ap (λ b. b.place) e); holds = inr (sym (ap (λ b. b.cells) e)) }
new_block (n ∷ cells) [] (suc o) block h =
    let r : New cells [] o block = new_block cells [] o block h in
    record {
      size = r.size;
      its = r.its;
      place_is = r.place_is;
      holds = ⊎_elim (λ p. (let none : ◌≡◌ {A = Option Value} None (Some p.0) = p.1 in cc none)) (λ q. inr q) r.holds;
    }
new_block (n ∷ cells) (v ∷ args) zero block h =
    let e : variable (cell_of v ∷ []) ≡ block = same_Some _ block h in
    record {
      size = n;
      its = refl;
      place_is = sym (ap (λ b. b.place) e);
      holds = inl (v, refl, sym (ap (λ b. b.cells) e));
    }
new_block (n ∷ cells) (v ∷ args) (suc o) block h =
    let r : New cells args o block = new_block cells args o block h in
    record { size = r.size; its = r.its; place_is = r.place_is; holds = r.holds }

pub length_blocks : (cells : List ℕ) (args : List Value) → length (blocks_for cells args) ≡ length cells
length_blocks [] args = refl
length_blocks (n ∷ cells) [] = ap suc (length_blocks cells [])
length_blocks (n ∷ cells) (v ∷ args) = ap suc (length_blocks cells args)

pub no_cell : (n i : ℕ) (c : Cell) → slice_get (replicate n cell.Undef) i ≡ Some c → cell.Undef ≡ c
no_cell zero i c h = cc h
no_cell (suc n) zero c h = same_Some cell.Undef c h
no_cell (suc n) (suc i) c h = no_cell n i c h

pub more_cell : (place more : ℕ → Option ℕ) → Grows place more → (w : ℕ) (c : Cell) → InCell place w c → InCell more w c
more_cell place more grows w cell.Undef h = tt
more_cell place more grows w (cell.Word n) h = stands_more place more grows w _ h
more_cell place more grows w cell.Null h = stands_more place more grows w _ h
more_cell place more grows w (cell.Ptr p) h = stands_more place more grows w _ h

-- the blocks of a compartment once a call of it has begun
abbrev pub memory_opened : (c : ℕ) → (cells : List ℕ) → List Value → Memory → Memory
memory_opened c cells args memory = with_blocks c (memory c ++ blocks_for cells args) memory

-- their places: those of new ones are in the frame
abbrev pub injection_opened : (c low : ℕ) → FrameTree → Memory → Injection → Injection
injection_opened c low frame memory inj k b =
    if nat_eq k c && nat_le (length (memory c)) b then
    option_map (λ offset. low + offset) (slice_get frame.objects (b - length (memory c))) else inj k b

pub length_opened : (c : ℕ) (cells : List ℕ) (args : List Value) (memory : Memory) (k : ℕ) → k ≡ c →
    length (memory_opened c cells args memory k) ≡ length (memory c) + length cells
length_opened c cells args memory k e =
    let here : memory_opened c cells args memory k ≡ memory c ++ blocks_for cells args = rw (eq-eqb k c e) refl in
    ap length here ∙ length-append (memory c) (blocks_for cells args) ∙
    ap (λ n. length (memory c) + n) (length_blocks cells args)

module _ (image : ImageParts) (performs : ℕ → Bool) (floor : ℕ → ℕ) (inj : Injection) (memory : Memory)
    (bytes later : Bytes) (c low : ℕ) (frame : FrameTree) (cells : List ℕ) (args : List Value) where
  abbrev first : ℕ
  first = length (memory c)

  abbrev more : Injection
  more = injection_opened c low frame memory inj

  abbrev opened : Memory
  opened = memory_opened c cells args memory

  -- what the code of an entry has done, for a frame that lies below the floor
  pub record Prepared : Type 0 where
    pub floor_is : floor c ≡ low + frame.bytes
    pub start : data_start c ≤ low
    pub high : floor c ≤ stack_top c
    pub aligned : low % 4 ≡ 0
    pub params : (o n : ℕ) → o < length args → slice_get cells o ≡ Some n → 1 ≤ n
    pub outside : (q : ℕ) → (q + 4 ≤ low) ⊎ (low + frame.bytes ≤ q) → word later q ≡ word bytes q
    pub stored : (o offset : ℕ) (v : Value) → slice_get args o ≡ Some v → slice_get frame.objects o ≡ Some offset →
        StandsFor (inj c) (word later (low + offset)) v

  -- a live block afterwards is an old one, or one of the new ones
  data Origin (k b : ℕ) (xs : List Cell) : Type 0 where
    Old : LiveAt memory k b xs → more k b ≡ inj k b → Origin k b xs
    Fresh : (o : ℕ) (block : Block) → k ≡ c → b ≡ first + o → New cells args o block → xs ≡ block.cells → Origin k b xs

  injection_old : (k b : ℕ) → (k ≡ c → b < first) → more k b ≡ inj k b
  injection_old k b h =
      ⊎_elim (λ e. rw (eq-eqb k c e, lt-leb first b (h e)) refl) (λ n. rw (ne_eqb k c n) refl) (cases_eq k c)

  injection_new : (k b o offset : ℕ) → k ≡ c → b ≡ first + o → slice_get frame.objects o ≡ Some offset →
      more k b ≡ Some (low + offset)
  injection_new k b o offset e eb h =
      let past : first ≤ b = omega (arith, eb) in
      let place : b - first ≡ o = omega (arith, eb) in
      rw (eq-eqb k c e, le-leb first b past, place, h) refl

  opened_here : (k : ℕ) → k ≡ c → opened k ≡ memory c ++ blocks_for cells args
  opened_here k e = rw (eq-eqb k c e) refl

  opened_there : (k : ℕ) → k ≢ c → opened k ≡ memory k
  opened_there k n = rw (ne_eqb k c n) refl

  -- a block afterwards was there, or is new
  data Whence (k b : ℕ) (block : Block) : Type 0 where
    Before : slice_get (memory k) b ≡ Some block → more k b ≡ inj k b → Whence k b block
    Now : (o : ℕ) → k ≡ c → b ≡ first + o → New cells args o block → Whence k b block

  whence_here : (k b : ℕ) (block : Block) → slice_get (opened k) b ≡ Some block → k ≡ c → Whence k b block
  whence_here k b block h e =
      let now : slice_get (memory c ++ blocks_for cells args) b ≡ Some block =
      sym (ap (λ bs. slice_get bs b) (opened_here k e)) ∙ h in
      ⊎_elim
      (λ l. Before (ap (λ k. slice_get (memory k) b) e ∙
      sym (get_prefix (memory c) (blocks_for cells args) b l) ∙ now) (injection_old k b (λ e. l)))
      (λ past. (let place : first + (b - first) ≡ b = omega (arith, past) in
      let got : slice_get (blocks_for cells args) (b - first) ≡ Some block =
      sym (get_back (memory c) (blocks_for cells args) (b - first)) ∙
      ap (slice_get (memory c ++ blocks_for cells args)) place ∙ now in
      Now (b - first) e (sym place) (new_block cells args (b - first) block got)))
      (cases_lt b first)

  whence : (k b : ℕ) (block : Block) → slice_get (opened k) b ≡ Some block → Whence k b block
  whence k b block h =
      ⊎_elim (whence_here k b block h)
      (λ n. Before (sym (ap (λ bs. slice_get bs b) (opened_there k n)) ∙ h) (injection_old k b (λ e. absurd (n e))))
      (cases_eq k c)

  origin_of : (k b : ℕ) (xs : List Cell) (found : LivingBlock (opened k) b xs) → Whence k b found.block → Origin k b xs
  origin_of k b xs found (Before at e) = Old (alive (memory k) b found.block at found.live ∙ ap Ok found.its) e
  origin_of k b xs found (Now o ek eb new) = Fresh o found.block ek eb new (sym found.its)

  origin : (k b : ℕ) (xs : List Cell) → LiveAt opened k b xs → Origin k b xs
  origin k b xs h =
      let found : LivingBlock (opened k) b xs = living_block (opened k) b xs h in
      origin_of k b xs found (whence k b found.block found.at)

  -- an old block that lives afterwards lived before
  pub lived_before : (k b : ℕ) (xs : List Cell) → LiveAt opened k b xs → (k ≡ c → b < first) → LiveAt memory k b xs
  lived_before k b xs h l = by (origin k b xs h)
    where
      by : Origin k b xs → LiveAt memory k b xs
      by (Old live e) = live
      by (Fresh o block ek eb new ex) = absurd (let below : b < first = l ek in omega (arith, eb, below))

  module _ (places : List Place) (nodes : ℕ) (whole : IsFrame frame)
      (frame_fits : FrameFits cells places nodes frame) (blocks : BlocksMatch image performs floor inj memory bytes)
      (ready : Prepared) where
    pub injection_grows : (k b a : ℕ) → inj k b ≡ Some a → more k b ≡ Some a
    injection_grows k b a h = injection_old k b (λ e. subst (λ k. b < length (memory k)) e (blocks.known k b a h)) ∙ h

    -- the places of new blocks are words
    object_aligned : (o offset : ℕ) → slice_get frame.objects o ≡ Some offset → offset % 4 ≡ 0
    object_aligned o offset e = all_at (λ offset. offset % 4 ≡ 0) frame.objects o offset whole.objects e

    -- a new block has its object, and fits in it
    record HasObject (o : ℕ) (xs : List Cell) : Type 0 where
      offset : ℕ
      object : slice_get frame.objects o ≡ Some offset
      size : ℕ
      its : slice_get cells o ≡ Some size
      fits : length xs ≤ size
      inside : offset + 4 * size ≤ frame.bytes

    fits_by : (o : ℕ) (block : Block) (xs : List Cell) → (new : New cells args o block) → xs ≡ block.cells →
        length xs ≤ new.size
    fits_by o block xs new ex = ⊎_elim
        (λ p. (let long : length xs ≡ 1 = ap length (ex ∙ p.2) in
        omega (arith, long, ready.params o new.size (slice_get_within args o p.0 p.1) new.its)))
        (λ q. (let long : length xs ≡ new.size = ap length (ex ∙ q) ∙ length-replicate new.size cell.Undef in
        omega (arith, long)))
        new.holds

    object_of : (o : ℕ) (block : Block) (xs : List Cell) → New cells args o block → xs ≡ block.cells → HasObject o xs
    object_of o block xs new ex =
        let found = object_there cells places nodes frame frame_fits o new.size new.its in
        record {
          offset = found.0;
          object = found.1;
          size = new.size;
          its = new.its;
          fits = fits_by o block xs new ex;
          inside = object_inside cells places nodes frame frame_fits o found.0 new.size found.1 new.its;
        }

    abbrev lowered : ℕ → ℕ
    lowered = put floor c low

    floor_here : (k : ℕ) → k ≡ c → lowered k ≡ low
    floor_here k e = rw (eq-eqb k c e) refl

    floor_there : (k : ℕ) → k ≢ c → lowered k ≡ floor k
    floor_there k n = rw (ne_eqb k c n) refl

    floor_low : (k : ℕ) → lowered k ≤ floor k
    floor_low k = ⊎_elim
        (λ e. (let same : floor k ≡ floor c = ap floor e in omega (arith, floor_here k e, same, ready.floor_is)))
        (λ n. omega (arith, floor_there k n)) (cases_eq k c)

    -- old cells lie outside the frame
    old_outside : (k b a i : ℕ) (xs : List Cell) → performs k ≡ false → LiveAt memory k b xs → inj k b ≡ Some a →
        i < length xs → word later (a + 4 * i) ≡ word bytes (a + 4 * i)
    old_outside k b a i xs s live e l = ready.outside (a + 4 * i) (⊎_elim
        (λ same. inr (let above : floor k ≤ a = (blocks.placed k b a xs s live e).above in
        let floors : floor k ≡ floor c = ap floor same in omega (arith, above, floors, ready.floor_is)))
        (λ n. other_range image k c (a + 4 * i) low frame.bytes n
        (block_owned blocks k b a i xs s live e l) ready.start
        (omega (arith, ready.floor_is, ready.high))) (cases_eq k c))

    old_above : (k b a : ℕ) (xs : List Cell) → performs k ≡ false → k ≡ c → LiveAt memory k b xs → inj k b ≡ Some a →
        low + frame.bytes ≤ a
    old_above k b a xs s e live is_at =
        let above : floor k ≤ a = (blocks.placed k b a xs s live is_at).above in
        let same : floor k ≡ floor c = ap floor e in omega (arith, above, same, ready.floor_is)

    fresh_at : (k b a o offset : ℕ) → k ≡ c → b ≡ first + o → slice_get frame.objects o ≡ Some offset →
        more k b ≡ Some a → low + offset ≡ a
    fresh_at k b a o offset ek eb h is_at =
        same_Some (low + offset) a (sym (injection_new k b o offset ek eb h) ∙ is_at)

    there_by : (k b : ℕ) (xs : List Cell) → performs k ≡ false → Origin k b xs → (a : ℕ) × (more k b ≡ Some a)
    there_by k b xs s (Old live e) = let was = blocks.there k b xs s live in (was.0, e ∙ was.1)
    there_by k b xs s (Fresh o block ek eb new ex) =
        let x : HasObject o xs = object_of o block xs new ex in
        (low + x.offset, injection_new k b o x.offset ek eb x.object)

    placed_by : (k b a : ℕ) (xs : List Cell) → performs k ≡ false → Origin k b xs → more k b ≡ Some a →
        Placed image (lowered k) k a (length xs)
    placed_by k b a xs s (Old live e) is_at =
        let p : Placed image (floor k) k a (length xs) = blocks.placed k b a xs s live (sym e ∙ is_at) in
        record {
          aligned = p.aligned;
          above = omega (arith, p.above, floor_low k);
          low = p.low;
          high = p.high;
          its = p.its;
        }
    placed_by k b a xs s (Fresh o block ek eb new ex) is_at =
        let x : HasObject o xs = object_of o block xs new ex in
        let place : low + x.offset ≡ a = fresh_at k b a o x.offset ek eb x.object is_at in
        subst (λ j. Placed image (lowered k) j a (length xs)) (sym ek) (record {
          aligned = omega (arith, place, object_aligned o x.offset x.object, ready.aligned);
          above = omega (arith, place, floor_here k ek);
          low = omega (arith, place, ready.start);
          high = omega (arith, place, x.fits, x.inside, ready.floor_is, ready.high);
          its = λ i l. stack_data image c (a + 4 * i) (omega (arith, place, ready.start))
              (omega (arith, place, x.fits, x.inside, ready.floor_is, ready.high, l));
        })

    one_holds : (v : Value) (a i : ℕ) (x : Cell) → StandsFor (more c) (word later a) v →
        slice_get (cell_of v ∷ []) i ≡ Some x → InCell (more c) (word later (a + 4 * i)) x
    one_holds v a zero x stands g =
        let there : a ≡ a + 4 * 0 = omega arith in
        subst (λ q. InCell (more c) (word later q) x) there
        (subst (InCell (more c) (word later a)) (same_Some (cell_of v) x g) (in_cell (more c) (word later a) v stands))
    one_holds v a (suc i) x stands g = cc g

    fresh_holds : (o : ℕ) (block : Block) (xs : List Cell) (i : ℕ) (x : Cell) (offset : ℕ) → New cells args o block →
        xs ≡ block.cells → slice_get frame.objects o ≡ Some offset → slice_get xs i ≡ Some x →
        InCell (more c) (word later (low + offset + 4 * i)) x
    fresh_holds o block xs i x offset new ex object get = ⊎_elim
        (λ p. one_holds p.0 (low + offset) i x
        (stands_more (inj c) (more c) (injection_grows c) (word later (low + offset)) p.0
        (ready.stored o offset p.0 p.1 object))
        (sym (ap (λ xs. slice_get xs i) (ex ∙ p.2)) ∙ get))
        (λ q. subst (InCell (more c) (word later (low + offset + 4 * i)))
        (no_cell new.size i x (sym (ap (λ xs. slice_get xs i) (ex ∙ q)) ∙ get)) tt) new.holds

    holds_by : (k b a i : ℕ) (xs : List Cell) (x : Cell) → performs k ≡ false → Origin k b xs → more k b ≡ Some a →
        slice_get xs i ≡ Some x → InCell (more k) (word later (a + 4 * i)) x
    holds_by k b a i xs x s (Old live e) is_at get =
        more_cell (inj k) (more k) (injection_grows k) (word later (a + 4 * i)) x
        (subst (λ w. InCell (inj k) w x)
        (sym (old_outside k b a i xs s live (sym e ∙ is_at) (slice_get_within xs i x get)))
        (blocks.holds k b a i xs x s live (sym e ∙ is_at) get))
    holds_by k b a i xs x s (Fresh o block ek eb new ex) is_at get =
        let y : HasObject o xs = object_of o block xs new ex in
        let place : low + y.offset ≡ a = fresh_at k b a o y.offset ek eb y.object is_at in
        subst (λ k. InCell (more k) (word later (a + 4 * i)) x) (sym ek)
        (subst (λ a. InCell (more c) (word later (a + 4 * i)) x) place
        (fresh_holds o block xs i x y.offset new ex y.object get))

    apart_by : (k b d a e : ℕ) (xs ys : List Cell) → performs k ≡ false → Origin k b xs → Origin k d ys →
        more k b ≡ Some a → more k d ≡ Some e → b ≢ d → (a + 4 * length xs ≤ e) ⊎ (e + 4 * length ys ≤ a)
    apart_by k b d a e xs ys s (Old l f) (Old m g) p q n =
        blocks.apart k b d a e xs ys s l m (sym f ∙ p) (sym g ∙ q) n
    apart_by k b d a e xs ys s (Old l f) (Fresh o block ek eb new ex) p q n =
        let y : HasObject o ys = object_of o block ys new ex in
        let place : low + y.offset ≡ e = fresh_at k d e o y.offset ek eb y.object q in
        inr (omega (arith, place, y.fits, y.inside, old_above k b a xs s ek l (sym f ∙ p)))
    apart_by k b d a e xs ys s (Fresh o block ek eb new ex) (Old m g) p q n =
        let x : HasObject o xs = object_of o block xs new ex in
        let place : low + x.offset ≡ a = fresh_at k b a o x.offset ek eb x.object p in
        inl (omega (arith, place, x.fits, x.inside, old_above k d e ys s ek m (sym g ∙ q)))
    apart_by k b d a e xs ys s (Fresh o block ek eb new ex) (Fresh u other fk fb fresh fx) p q n =
        let x : HasObject o xs = object_of o block xs new ex in
        let y : HasObject u ys = object_of u other ys fresh fx in
        let place : low + x.offset ≡ a = fresh_at k b a o x.offset ek eb x.object p in
        let other_place : low + y.offset ≡ e = fresh_at k d e u y.offset fk fb y.object q in
        ⊎_elim (λ l. inl (omega (arith, place, other_place, x.fits, l)))
        (λ l. inr (omega (arith, place, other_place, y.fits, l)))
        (objects_apart cells places nodes frame frame_fits o u x.offset y.offset x.size y.size
        (λ same. n (eb ∙ ap (λ o. first + o) same ∙ sym fb)) x.object x.its y.object y.its)

    object_below : (b a : ℕ) (found : Option ℕ) → slice_get frame.objects (b - first) ≡ found →
        option_map (λ offset. low + offset) found ≡ Some a → b - first < length frame.objects
    object_below b a None is h = cc h
    object_below b a (Some offset) is h = slice_get_within frame.objects (b - first) offset is

    known_here : (k b a : ℕ) → more k b ≡ Some a → k ≡ c → b < length (opened k)
    known_here k b a is_at e =
        let long : length (opened k) ≡ first + length cells = length_opened c cells args memory k e in
        ⊎_elim (λ below. omega (arith, long, below))
        (λ past. (let is : more k b ≡ option_map (λ offset. low + offset) (slice_get frame.objects (b - first)) =
        rw (eq-eqb k c e, le-leb first b past) refl in
        omega (
          arith,
          long,
          frame_fits.objects,
          object_below b a (slice_get frame.objects (b - first)) refl (sym is ∙ is_at),
        ))) (cases_lt b first)

    known_by : (k b a : ℕ) → more k b ≡ Some a → b < length (opened k)
    known_by k b a is_at = ⊎_elim (known_here k b a is_at)
        (λ n. subst (λ bs. b < length bs) (sym (opened_there k n))
        (blocks.known k b a (sym (injection_old k b (λ e. absurd (n e))) ∙ is_at))) (cases_eq k c)

    lies_by : (k b a : ℕ) (block : Block) → performs k ≡ false → block.live ≡ true → Whence k b block →
        more k b ≡ Some a → LiesAt k a (length block.cells) block.place
    lies_by k b a block s live (Before at e) is_at = blocks.lies k b a block s at live (sym e ∙ is_at)
    lies_by k b a block s live (Now o ek eb new) is_at =
        let x : HasObject o block.cells = object_of o block block.cells new refl in
        let place : low + x.offset ≡ a = fresh_at k b a o x.offset ek eb x.object is_at in
        subst₂ (λ j p. LiesAt j a (length block.cells) p) (sym ek) (sym new.place_is)
        (omega (arith, place, x.fits, x.inside, ready.floor_is, ready.high))

    -- the bytes stand for all blocks once the entry's code has run
    pub blocks_opened : BlocksMatch image performs lowered more opened later
    blocks_opened = record {
      there = λ k b xs s live. there_by k b xs s (origin k b xs live);
      placed = λ k b a xs s live e. placed_by k b a xs s (origin k b xs live) e;
      holds = λ k b a i xs x s live e get. holds_by k b a i xs x s (origin k b xs live) e get;
      apart = λ k b d a e xs ys s l m p q n. apart_by k b d a e xs ys s (origin k b xs l) (origin k d ys m) p q n;
      lies = λ k b a block s h live e. lies_by k b a block s live (whence k b block h) e;
      known = known_by;
    }

    -- the frame's own words meet no block
    own_free : (i u b a : ℕ) (xs : List Cell) → performs c ≡ false → slice_get (own_words frame) i ≡ Some u →
        Origin c b xs → more c b ≡ Some a → (low + u + 4 ≤ a) ⊎ (a + 4 * length xs ≤ low + u)
    own_free i u b a xs s e (Old live f) is_at =
        inl (omega (
          arith,
          old_above c b a xs s refl live (sym f ∙ is_at),
          own_inside cells places nodes frame frame_fits i u e,
        ))
    own_free i u b a xs s e (Fresh o block ek eb new ex) is_at =
        let x : HasObject o xs = object_of o block xs new ex in
        let place : low + x.offset ≡ a = fresh_at c b a o x.offset ek eb x.object is_at in
        ⊎_elim (λ l. inl (omega (arith, place, l))) (λ l. inr (omega (arith, place, x.fits, l)))
        (own_beside cells places nodes frame frame_fits i u o x.offset x.size e x.object x.its)

    own_aligned : (i u : ℕ) → slice_get (own_words frame) i ≡ Some u → u % 4 ≡ 0
    own_aligned zero u e = let is : 0 ≡ u = same_Some 0 u e in omega (arith, is)
    own_aligned (suc i) u e = all_at (λ offset. offset % 4 ≡ 0) frame.slots i u whole.slots e

    pub own_guarded : (i u : ℕ) → performs c ≡ false → slice_get (own_words frame) i ≡ Some u →
        Guarded image more opened c (low + u)
    own_guarded i u s e = record {
      owned = stack_owned image c (low + u) (omega (arith, ready.aligned, own_aligned i u e))
          (omega (arith, ready.start))
          (omega (arith, ready.floor_is, ready.high, own_inside cells places nodes frame frame_fits i u e));
      below = omega (arith, ready.floor_is, ready.high, own_inside cells places nodes frame frame_fits i u e);
      free = λ b a xs live is_at. own_free i u b a xs s e (origin c b xs live) is_at;
    }

    -- a word above the frame that was guarded still is
    above_free : (k q b a : ℕ) (xs : List Cell) → Guarded image inj memory k q → (k ≡ c → low + frame.bytes ≤ q) →
        Origin k b xs → more k b ≡ Some a → (q + 4 ≤ a) ⊎ (a + 4 * length xs ≤ q)
    above_free k q b a xs g above (Old live f) is_at = g.free b a xs live (sym f ∙ is_at)
    above_free k q b a xs g above (Fresh o block ek eb new ex) is_at =
        let x : HasObject o xs = object_of o block xs new ex in
        let place : low + x.offset ≡ a = fresh_at k b a o x.offset ek eb x.object is_at in
        inr (omega (arith, place, x.fits, x.inside, above ek))

    pub above_guarded : (k q : ℕ) → Guarded image inj memory k q → (k ≡ c → low + frame.bytes ≤ q) →
        Guarded image more opened k q
    above_guarded k q g above = record {
      owned = g.owned;
      below = g.below;
      free = λ b a xs live is_at. above_free k q b a xs g above (origin k b xs live) is_at;
    }

    pub objects_placed : (o offset : ℕ) → slice_get frame.objects o ≡ Some offset →
        more c (first + o) ≡ Some (low + offset)
    objects_placed o offset e = injection_new c (first + o) o offset refl refl e
