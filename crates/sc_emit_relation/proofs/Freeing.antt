-- A value is freed on both sides: null, or a pointer to the start of an allocated block, which the machine finds at its
-- address.
use Rattle.sc_emit_relation.proofs.Common.{All, Block, Blocks, BlocksMatch, Bool, ByteMemory as Bytes, Cause, Cell}
use Rattle.sc_emit_relation.proofs.Common.{ComesBack, Err, ImageParts, Injection, IsWellFormed, IsWord, Joint, LiesAt}
use Rattle.sc_emit_relation.proofs.Common.{List, LiveAt, None, Null, Ok, Option, Pointer, Ptr, Result, Setting}
use Rattle.sc_emit_relation.proofs.Common.{Settled, Some, Standpoint, StandsFor, Value, Walks, Word, ZoneMatches, ℕ, []}
use Rattle.sc_emit_relation.proofs.Common.{a0, a7, ap, arith, cases_eq, eq-eqb, eqb-true, false, if◌then◌else◌, inl}
use Rattle.sc_emit_relation.proofs.Common.{is_some, length, length-set, machine, ne_eqb, refl, same_Some, slice_get}
use Rattle.sc_emit_relation.proofs.Common.{slice_set, subst, subst₂, suc, sym, true, walks_steady, with_blocks}
use Rattle.sc_emit_relation.proofs.Common.{with_memory, world_at, zero, ⊎_elim, ◌&&◌, ◌+◌, ◌<◌, ◌==◌, ◌∙◌, ◌∷◌, ◌≡◌}
use Rattle.sc_emit_relation.proofs.Common.{◌≢◌}
use Rattle.std.specs.Prelude.{slice_index_or}
use Rattle.std.proofs.Common.{get_or-set_other, get_or-set_same}
use Rattle.sc_core.specs.Prelude.{Memory, freed, over, spans_of, without_block}
use Rattle.sc_core.specs.declared.cause.Cause.TheVariants.{BadFree}
use Rattle.sc_core.specs.declared.expr.CallTarget.TheVariants.{Output}
use Rattle.rv_code.specs.declared.instr.Instr.TheVariants.{Ecall}
use Rattle.sc_image.specs.Prelude.{has_heap, zone_address}
use Rattle.sc_emit_hart.specs.Prelude.{Fetches}
use Rattle.sc_zone.proofs.Giving.{laid_without}
use Rattle.sc_zone.specs.Prelude.{AreLaid, starts_at, without_span}
use Rattle.sc_zone.specs.declared.span.Span.{Span}
use Rattle.sc_emit_relation.proofs.Access.{LivingBlock, alive, living_block}
use Rattle.sc_emit_relation.proofs.Asking.{free_walks, null_walks}
use Rattle.sc_emit_relation.proofs.Coming.{came_by}
use Rattle.sc_core.proofs.Spans.{Lies, spans_freed, starts_lying}
use Rattle.sc_emit_relation.proofs.Spans.{spans_elsewhere, zone_on}

-- Blocks of which some have ended, and nothing else changed.

record AreFewer (blocks after : Blocks) : Type 0 where
  was : (b : ℕ) (x : Block) → slice_get after b ≡ Some x → x.live ≡ true → slice_get blocks b ≡ Some x
  long : length after ≡ length blocks

module _ {image : ImageParts} {performs : ℕ → Bool} {floor : ℕ → ℕ} {inj : Injection} {memory : Memory}
    {bytes : Bytes} (blocks : BlocksMatch image performs floor inj memory bytes) (c : ℕ) (after : Blocks)
    (fewer : AreFewer (memory c) after) where
  abbrev left : Memory
  left = with_blocks c after memory

  left_here : (k : ℕ) → k ≡ c → left k ≡ after
  left_here k e = rw (eq-eqb k c e) refl

  left_there : (k : ℕ) → k ≢ c → left k ≡ memory k
  left_there k n = rw (ne_eqb k c n) refl

  block_was : (k b : ℕ) (x : Block) → slice_get (left k) b ≡ Some x → x.live ≡ true → slice_get (memory k) b ≡ Some x
  block_was k b x h live = ⊎_elim
      (λ e. ap (λ k. slice_get (memory k) b) e ∙
      fewer.was b x (sym (ap (λ bs. slice_get bs b) (left_here k e)) ∙ h) live)
      (λ n. sym (ap (λ bs. slice_get bs b) (left_there k n)) ∙ h) (cases_eq k c)

  lived : (k b : ℕ) (cells : List Cell) → LiveAt left k b cells → LiveAt memory k b cells
  lived k b cells h =
      let found : LivingBlock (left k) b cells = living_block (left k) b cells h in
      alive (memory k) b found.block (block_was k b found.block found.at found.live) found.live ∙ ap Ok found.its

  long : (k : ℕ) → length (left k) ≡ length (memory k)
  long k = ⊎_elim
      (λ e. ap length (left_here k e) ∙ fewer.long ∙ ap (λ k. length (memory k)) (sym e))
      (λ n. ap length (left_there k n)) (cases_eq k c)

  blocks_left : BlocksMatch image performs floor inj left bytes
  blocks_left = record {
    there = λ k b cells s h. blocks.there k b cells s (lived k b cells h);
    placed = λ k b a cells s h e. blocks.placed k b a cells s (lived k b cells h) e;
    holds = λ k b a i cells x s h e get. blocks.holds k b a i cells x s (lived k b cells h) e get;
    apart = λ k b g a e xs ys s h l p q n. blocks.apart k b g a e xs ys s (lived k b xs h) (lived k g ys l) p q n;
    lies = λ k b a x s h live e. blocks.lies k b a x s (block_was k b x h live) live e;
    known = λ k b a e. subst (λ n. b < n) (sym (long k)) (blocks.known k b a e);
  }

-- a block has ended
over_left : (blocks : Blocks) (n b : ℕ) (x y : Block) → slice_get (slice_set blocks n (over x)) b ≡ Some y →
    y.live ≡ true → slice_get blocks b ≡ Some y
over_left [] n b x y h live = cc h
over_left (z ∷ blocks) zero zero x y h live =
    let ended : false ≡ true = ap (λ (w : Block). w.live) (same_Some (over x) y h) ∙ live in cc ended
over_left (z ∷ blocks) zero (suc b) x y h live = h
over_left (z ∷ blocks) (suc n) zero x y h live = h
over_left (z ∷ blocks) (suc n) (suc b) x y h live = over_left blocks n b x y h live

fewer_over : (blocks : Blocks) (n : ℕ) (x : Block) → AreFewer blocks (slice_set blocks n (over x))
fewer_over blocks n x =
    record { was = λ b y h live. over_left blocks n b x y h live; long = length-set blocks n (over x) }

-- What the meaning frees.

record Frees (blocks : Blocks) (p : Pointer) (after : Blocks) : Type 0 where
  place : ℕ
  block : Block
  start : p.index ≡ 0
  lies : Lies blocks p.block place block
  is : slice_set blocks p.block (over block) ≡ after

freed_by : (blocks after : Blocks) (p : Pointer) (x : Block) (live : Bool) (place : Option ℕ) →
    slice_get blocks p.block ≡ Some x → x.live ≡ live → x.place ≡ place → p.index ≡ 0 →
    ◌≡◌ {A = Result Blocks Cause} (if live && is_some place then Ok (slice_set blocks p.block (over x)) else
    Err BadFree) (Ok after) → Frees blocks p after
freed_by blocks after p x true (Some place) at l q start h =
    let is : slice_set blocks p.block (over x) ≡ after = cc h in
    record { place = place; block = x; start = start; lies = record { at = at; live = l; place_is = q }; is = is }
freed_by blocks after p x true None at l q start h = cc h
freed_by blocks after p x false place at l q start h = cc h

freed_at : (blocks after : Blocks) (p : Pointer) (found : Option Block) → slice_get blocks p.block ≡ found →
    p.index ≡ 0 → without_block blocks p.block found ≡ Ok after → Frees blocks p after
freed_at blocks after p None at start h = cc h
freed_at blocks after p (Some x) at start h = freed_by blocks after p x x.live x.place at refl refl start h

freed_found : (blocks after : Blocks) (p : Pointer) → freed blocks (Ptr p) ≡ Ok after → Frees blocks p after
freed_found blocks after p h = by (p.index == 0) refl h where
  by : (start : Bool) → (p.index == 0) ≡ start →
      ◌≡◌ {A = Result Blocks Cause} (if start then without_block blocks p.block (slice_get blocks p.block) else
      Err BadFree) (Ok after) → Frees blocks p after
  by true e h = freed_at blocks after p (slice_get blocks p.block) refl (eqb-true p.index 0 e) h
  by false e h = cc h

module _ (T : Setting) (formed : IsWellFormed T.image) (inputs : All IsWord T.inputs) (P : Standpoint) (x : Joint)
    (settled : Settled T P x) (honest : T.performs P.comp ≡ false) (heap : has_heap T.image P.comp ≡ true)
    (asks : Fetches T.image P.comp x.pc Ecall) (asked : x.regs a7 ≡ 4) where
  abbrev zone : List Span
  zone = slice_index_or x.zones P.comp []

  abbrev blocks : Blocks
  blocks = x.meant.memory P.comp

  -- both sides, with these blocks and these zones
  abbrev after : Blocks → List (List Span) → Joint
  after left zones = record x { meant = with_memory P.comp left x.meant; pc = x.pc + 4; zones = zones }

  module _ (left : Blocks) (zones : List (List Span)) (fewer : AreFewer blocks left)
      (matches : (k : ℕ) → T.performs k ≡ false →
      ZoneMatches (slice_index_or zones k []) (with_blocks P.comp left x.meant.memory k))
      (walks : Walks T.image T.inputs 1 (machine P x) (machine P (after left zones))) where
    comes_left : ComesBack T P x Output None (with_memory P.comp left x.meant)
    comes_left = record {
      y = after left zones;
      meant_is = refl;
      pc = refl;
      sp = refl;
      value = tt;
      registers = λ e q n. refl;
      leads = record {
        steps = 1;
        run = walks;
        costs = record { least = omega arith; most = λ all. omega arith };
        effect = record {
          grows = λ k b a e. e;
          lived = λ k b cells h live. inl (cells, lived settled.blocks P.comp left fewer k b cells live, refl);
          keeps = λ k q p. refl;
          depths = λ k. refl;
        };
      };
      settled = record {
        blocks = blocks_left settled.blocks P.comp left fewer;
        globals = settled.globals;
        saved = settled.saved;
        zones = matches;
        inputs = settled.inputs;
        steady = walks_steady T.image T.inputs formed inputs 1 _ _ walks settled.steady;
        came = came_by T 1 _ _ walks settled.came;
        depth = settled.depth;
        timed = settled.timed;
      };
    }

  null_comes : x.regs a0 ≡ 0 → ComesBack T P x Output None (with_memory P.comp blocks x.meant)
  null_comes is = comes_left blocks x.zones (record { was = λ b x h live. h; long = refl })
      (λ k h. zone_on (slice_index_or x.zones k []) (slice_index_or x.zones k []) (x.meant.memory k)
      (with_blocks P.comp blocks x.meant.memory k) (settled.zones k h) refl
      (spans_elsewhere P.comp blocks x.meant.memory k refl))
      (null_walks T.image T.inputs x.pc x.regs x.bytes (world_at P x) asks heap asked is)

  module _ (left : Blocks) (p : Pointer) (stands : StandsFor (x.inj P.comp) (x.regs a0) (Ptr p))
      (f : Frees blocks p left)
    where
      abbrev place : ℕ
      place = f.place

      matches_here : ZoneMatches zone blocks
      matches_here = settled.zones P.comp honest

      -- the pointer's word is the address of the block's place
      address : x.regs a0 ≡ zone_address P.comp (Some place)
      address =
          let lies : LiesAt P.comp stands.means.0 (length f.block.cells) (Some place) =
          subst (LiesAt P.comp stands.means.0 (length f.block.cells)) f.lies.place_is
          (settled.blocks.lies P.comp p.block stands.means.0 f.block honest f.lies.at f.lies.live stands.means.1) in
          omega (arith, stands.means.2, f.start, lies)

      there : starts_at zone place ≡ true
      there =
          ap (λ spans. starts_at spans place) matches_here.same ∙ starts_lying blocks p.block place f.block f.lies

      abbrev zones : List (List Span)
      zones = slice_set x.zones P.comp (without_span place zone)

      spans_left : without_span place (spans_of blocks) ≡ spans_of left
      spans_left = sym (spans_freed blocks p.block place f.block f.lies matches_here.laid) ∙ ap spans_of f.is

      matches_now : ZoneMatches (without_span place zone) left
      matches_now = record {
        same = ap (without_span place) matches_here.same ∙ spans_left;
        laid = subst (AreLaid 0) spans_left (laid_without (spans_of blocks) 0 place matches_here.laid);
      }

      fewer_now : AreFewer blocks left
      fewer_now = subst (AreFewer blocks) f.is (fewer_over blocks p.block f.block)

      matches_by : (k : ℕ) → T.performs k ≡ false →
          ZoneMatches (slice_index_or zones k []) (with_blocks P.comp left x.meant.memory k)
      matches_by k h = ⊎_elim
          (λ e. subst₂ ZoneMatches
          (sym (ap (λ k. slice_index_or zones k []) e ∙
          get_or-set_same x.zones P.comp (without_span place zone) []
          (omega (arith, settled.steady.zones, settled.steady.active))))
          (sym (left_here settled.blocks P.comp left fewer_now k e)) matches_now)
          (λ n. subst₂ ZoneMatches (sym (get_or-set_other x.zones P.comp k (without_span place zone) [] n))
          (sym (left_there settled.blocks P.comp left fewer_now k n)) (settled.zones k h)) (cases_eq k P.comp)

      pointer_comes : ComesBack T P x Output None (with_memory P.comp left x.meant)
      pointer_comes = comes_left left zones fewer_now matches_by
          (free_walks T.image T.inputs x.pc x.regs x.bytes (world_at P x) asks heap asked place address there)

  -- the environment call that frees the value in a0
  pub free_comes : (v : Value) (left : Blocks) → StandsFor (x.inj P.comp) (x.regs a0) v → freed blocks v ≡ Ok left →
      ComesBack T P x Output None (with_memory P.comp left x.meant)
  free_comes (Word w) left stands gives = cc gives
  free_comes Null left stands gives =
      let same : blocks ≡ left = cc gives in
      subst (λ left. ComesBack T P x Output None (with_memory P.comp left x.meant)) same (null_comes stands.means)
  free_comes (Ptr p) left stands gives = pointer_comes left p stands (freed_found blocks left p gives)
