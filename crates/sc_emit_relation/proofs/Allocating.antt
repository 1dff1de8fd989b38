-- Words are allocated on both sides: a block lies at the place that the machine finds, and meets no other.
use Rattle.sc_emit_relation.proofs.Common.{All, Block, BlocksMatch, Bool, ByteMemory as Bytes, Cell, ComesBack}
use Rattle.sc_emit_relation.proofs.Common.{ImageParts, InCell, Injection, IsWellFormed, IsWord, Joint, LiesAt, List}
use Rattle.sc_emit_relation.proofs.Common.{LiveAt, None, Null, Ok, Option, Placed, Ptr, Reached, Setting, Settled, Some}
use Rattle.sc_emit_relation.proofs.Common.{Standpoint, StandsFor, State as Meant, Value, Walks, ZoneMatches, ℕ, [], a0}
use Rattle.sc_emit_relation.proofs.Common.{a7, ap, arith, cases_eq, cases_lt, eq-eqb, false, get_prefix, if◌then◌else◌}
use Rattle.sc_emit_relation.proofs.Common.{inl, inr, length, length-append, machine, nat_eq, ne_eqb, put, refl}
use Rattle.sc_emit_relation.proofs.Common.{replicate, same_Some, slice_get, slice_set, sp, stack_top, subst, subst₂}
use Rattle.sc_emit_relation.proofs.Common.{suc, sym, true, walks_steady, with_blocks, with_memory, word, world_at, zero}
use Rattle.sc_emit_relation.proofs.Common.{zone_start, ⊎_elim, ◌&&◌, ◌*◌, ◌++◌, ◌+◌, ◌-◌, ◌<◌, ◌∙◌, ◌∷◌, ◌≡◌, ◌≢◌, ◌≤◌}
use Rattle.sc_emit_relation.proofs.Common.{◌⊎◌}
use Rattle.std.specs.Prelude.{slice_index_or}
use Rattle.std.proofs.Common.{get_or-set_other, get_or-set_same}
use Rattle.sc_core.specs.Prelude.{Here, Memory, allocated, allocated_at, placed, spans_of}
use Rattle.sc_core.specs.declared.expr.CallTarget.TheVariants.{Input}
use Rattle.std.proofs.lemmas.List.{length-replicate}
use Rattle.sc_core.specs.declared.value.Cell.TheVariants as cell
use Rattle.rv_code.specs.Registers.{a1}
use Rattle.rv_code.specs.declared.instr.Instr.TheVariants.{Ecall}
use Rattle.sc_image.proofs.Running.{image_in_memory}
use Rattle.sc_image.specs.Prelude.{are_data, has_heap, zone_address}
use Rattle.sc_emit_hart.proofs.Registers.{put_here, put_there}
use Rattle.sc_emit_hart.specs.Prelude.{Fetches}
use Rattle.sc_zone.specs.Prelude.{AreLaid, misses, taken, with_span, zone_words}
unfoldable use Rattle.sc_zone.specs.Prelude.{least_free}
use Rattle.sc_zone.specs.declared.span.Span.{Span}
use Rattle.sc_emit_relation.proofs.Access.{LivingBlock, alive, living_block}
use Rattle.sc_emit_relation.proofs.Asking.{alloc_walks}
use Rattle.sc_emit_relation.proofs.Coming.{came_by}
use Rattle.sc_emit_relation.proofs.Frames.{get_back}
use Rattle.sc_core.proofs.LaidSpans.{IsTaken, is_taken, missed, span_of}
use Rattle.sc_emit_relation.proofs.Opening.{more_cell, no_cell}
use Rattle.sc_emit_relation.proofs.Settling.{leads_rezoned, settled_rezoned}
use Rattle.sc_core.proofs.Spans.{misses_lying, spans_allocated}

-- a word of the zone of a compartment with a heap is its data
zone_data : (image : ImageParts) (c a : ℕ) → has_heap image c ≡ true → zone_start c ≤ a →
    a + 4 ≤ zone_start c + 4 * zone_words → are_data image c a 4 ≡ true
zone_data image c a heap low high = image_in_memory.owned image c 2 a 4 _ (rw heap refl) low high

-- the injection with the address of one block more
abbrev pub injection_with : (c b a : ℕ) → Injection → Injection
injection_with c b a inj k n = if nat_eq k c && nat_eq n b then Some a else inj k n

module _ {image : ImageParts} {performs : ℕ → Bool} {floor : ℕ → ℕ} {inj : Injection} {memory : Memory}
    {bytes : Bytes} (blocks : BlocksMatch image performs floor inj memory bytes) (c place words : ℕ)
    (honest : performs c ≡ false) (heap : has_heap image c ≡ true) (low : floor c ≤ stack_top c)
    (taking : IsTaken (spans_of (memory c)) words place) where
  abbrev a : ℕ
  a = zone_address c (Some place)

  abbrev first : ℕ
  first = length (memory c)

  abbrev block : Block
  block = allocated_at place words

  abbrev pub more : Injection
  more = injection_with c first a inj

  abbrev pub grown : Memory
  grown = with_blocks c (memory c ++ block ∷ []) memory

  more_new : (k b : ℕ) → k ≡ c → b ≡ first → more k b ≡ Some a
  more_new k b e f = rw (eq-eqb k c e, eq-eqb b first f) refl

  more_old : (k b : ℕ) → (k ≡ c → b ≢ first) → more k b ≡ inj k b
  more_old k b h =
      ⊎_elim (λ e. rw (eq-eqb k c e, ne_eqb b first (h e)) refl) (λ n. rw (ne_eqb k c n) refl) (cases_eq k c)

  pub more_grows : (k b d : ℕ) → inj k b ≡ Some d → more k b ≡ Some d
  more_grows k b d h =
      more_old k b (λ e f. absurd (let below : b < length (memory k) = blocks.known k b d h in
      let same : length (memory k) ≡ first = ap (λ k. length (memory k)) e in omega (arith, below, same, f))) ∙ h

  grown_here : (k : ℕ) → k ≡ c → grown k ≡ memory c ++ block ∷ []
  grown_here k e = rw (eq-eqb k c e) refl

  grown_there : (k : ℕ) → k ≢ c → grown k ≡ memory k
  grown_there k n = rw (ne_eqb k c n) refl

  -- a block afterwards was there, or is the new one
  data Whence (k b : ℕ) (x : Block) : Type 0 where
    Before : slice_get (memory k) b ≡ Some x → more k b ≡ inj k b → Whence k b x
    Now : k ≡ c → b ≡ first → block ≡ x → Whence k b x

  only : (i : ℕ) (x : Block) → slice_get (block ∷ []) i ≡ Some x → (i ≡ 0) × (block ≡ x)
  only zero x h = (refl, same_Some block x h)
  only (suc i) x h = cc h

  whence_here : (k b : ℕ) (x : Block) → slice_get (grown k) b ≡ Some x → k ≡ c → Whence k b x
  whence_here k b x h e =
      let now : slice_get (memory c ++ block ∷ []) b ≡ Some x = sym (ap (λ bs. slice_get bs b) (grown_here k e)) ∙ h in
      ⊎_elim
      (λ l. Before (ap (λ k. slice_get (memory k) b) e ∙ sym (get_prefix (memory c) (block ∷ []) b l) ∙ now)
      (more_old k b (λ e f. absurd (omega (arith, l, f)))))
      (λ past. (let place : first + (b - first) ≡ b = omega (arith, past) in
      let found = only (b - first) x (sym (get_back (memory c) (block ∷ []) (b - first)) ∙
      ap (slice_get (memory c ++ block ∷ [])) place ∙ now) in
      Now e (omega (arith, place, found.0)) found.1))
      (cases_lt b first)

  whence : (k b : ℕ) (x : Block) → slice_get (grown k) b ≡ Some x → Whence k b x
  whence k b x h =
      ⊎_elim (whence_here k b x h)
      (λ n. Before (sym (ap (λ bs. slice_get bs b) (grown_there k n)) ∙ h) (more_old k b (λ e. absurd (n e))))
      (cases_eq k c)

  -- a block that lives afterwards lived before, or is the new one
  data Origin (k b : ℕ) (cells : List Cell) : Type 0 where
    Old : LiveAt memory k b cells → more k b ≡ inj k b → Origin k b cells
    Fresh : k ≡ c → b ≡ first → replicate words cell.Undef ≡ cells → Origin k b cells

  origin_of : (k b : ℕ) (cells : List Cell) (found : LivingBlock (grown k) b cells) → Whence k b found.block →
      Origin k b cells
  origin_of k b cells found (Before at e) = Old (alive (memory k) b found.block at found.live ∙ ap Ok found.its) e
  origin_of k b cells found (Now e f same) = Fresh e f (ap (λ x. x.cells) same ∙ found.its)

  origin : (k b : ℕ) (cells : List Cell) → LiveAt grown k b cells → Origin k b cells
  origin k b cells h =
      let found : LivingBlock (grown k) b cells = living_block (grown k) b cells h in
      origin_of k b cells found (whence k b found.block found.at)

  long : (cells : List Cell) → replicate words cell.Undef ≡ cells → words ≡ length cells
  long cells e = sym (length-replicate words cell.Undef) ∙ ap length e

  at_new : (k b d : ℕ) → k ≡ c → b ≡ first → more k b ≡ Some d → a ≡ d
  at_new k b d e f is_at = same_Some a d (sym (more_new k b e f) ∙ is_at)

  new_placed : Placed image (floor c) c a words
  new_placed = record {
    aligned = omega arith;
    above = omega (arith, low);
    low = omega arith;
    high = omega (arith, taking.within);
    its = λ i l. zone_data image c (a + 4 * i) heap (omega arith) (omega (arith, taking.within, l));
  }

  placed_by : (k b d : ℕ) (cells : List Cell) → performs k ≡ false → Origin k b cells → more k b ≡ Some d →
      Placed image (floor k) k d (length cells)
  placed_by k b d cells s (Old live e) is_at = blocks.placed k b d cells s live (sym e ∙ is_at)
  placed_by k b d cells s (Fresh e f same) is_at =
      subst (λ j. Placed image (floor j) j d (length cells)) (sym e)
      (subst (λ d. Placed image (floor c) c d (length cells)) (at_new k b d e f is_at)
      (subst (Placed image (floor c) c a) (long cells same) new_placed))

  there_by : (k b : ℕ) (cells : List Cell) → performs k ≡ false → Origin k b cells → (d : ℕ) × (more k b ≡ Some d)
  there_by k b cells s (Old live e) = let was = blocks.there k b cells s live in (was.0, e ∙ was.1)
  there_by k b cells s (Fresh e f same) = (a, more_new k b e f)

  holds_by : (k b d i : ℕ) (cells : List Cell) (x : Cell) → performs k ≡ false → Origin k b cells →
      more k b ≡ Some d → slice_get cells i ≡ Some x → InCell (more k) (word bytes (d + 4 * i)) x
  holds_by k b d i cells x s (Old live e) is_at get =
      more_cell (inj k) (more k) (more_grows k) (word bytes (d + 4 * i)) x
      (blocks.holds k b d i cells x s live (sym e ∙ is_at) get)
  holds_by k b d i cells x s (Fresh e f same) is_at get =
      subst (InCell (more k) (word bytes (d + 4 * i)))
      (no_cell words i x (ap (λ cs. slice_get cs i) same ∙ get)) tt

  -- words of the zone that were free meet no block that lives
  clear_by : (d : ℕ) (x : Block) (at : Option ℕ) → LiesAt c d (length x.cells) at →
      ((q : ℕ) → at ≡ Some q → misses words place (span_of q (length x.cells)) ≡ true) →
      (d + 4 * length x.cells ≤ a) ⊎ (a + 4 * words ≤ d)
  clear_by d x None lies missing = inl (omega (arith, lies))
  clear_by d x (Some q) lies missing =
      ⊎_elim (λ l. inr (omega (arith, lies, l))) (λ l. inl (omega (arith, lies, l)))
      (missed words place (span_of q (length x.cells)) (missing q refl))

  clear : (b d : ℕ) (cells : List Cell) → LiveAt memory c b cells → inj c b ≡ Some d →
      (d + 4 * length cells ≤ a) ⊎ (a + 4 * words ≤ d)
  clear b d cells h is_at =
      let found : LivingBlock (memory c) b cells = living_block (memory c) b cells h in
      subst (λ cells. (d + 4 * length cells ≤ a) ⊎ (a + 4 * words ≤ d)) found.its
      (clear_by d found.block found.block.place
      (blocks.lies c b d found.block honest found.at found.live is_at)
      (λ q e. misses_lying (memory c) words place b q found.block
      (record { at = found.at; live = found.live; place_is = e }) taking.free))

  clear_at : (k b d : ℕ) (cells : List Cell) → k ≡ c → LiveAt memory k b cells → inj k b ≡ Some d →
      (d + 4 * length cells ≤ a) ⊎ (a + 4 * words ≤ d)
  clear_at k b d cells e h is_at =
      clear b d cells (subst (λ k. LiveAt memory k b cells) e h) (sym (ap (λ k. inj k b) e) ∙ is_at)

  apart_by : (k b g d e : ℕ) (xs ys : List Cell) → performs k ≡ false → Origin k b xs → Origin k g ys →
      more k b ≡ Some d → more k g ≡ Some e → b ≢ g → (d + 4 * length xs ≤ e) ⊎ (e + 4 * length ys ≤ d)
  apart_by k b g d e xs ys s (Old l f) (Old m h) p q n =
      blocks.apart k b g d e xs ys s l m (sym f ∙ p) (sym h ∙ q) n
  apart_by k b g d e xs ys s (Old l f) (Fresh ek eb same) p q n =
      let at_e : a ≡ e = at_new k g e ek eb q in
      ⊎_elim (λ h. inl (omega (arith, h, at_e))) (λ h. inr (omega (arith, h, at_e, long ys same)))
      (clear_at k b d xs ek l (sym f ∙ p))
  apart_by k b g d e xs ys s (Fresh ek eb same) (Old m h) p q n =
      let at_d : a ≡ d = at_new k b d ek eb p in
      ⊎_elim (λ h. inr (omega (arith, h, at_d))) (λ h. inl (omega (arith, h, at_d, long xs same)))
      (clear_at k g e ys ek m (sym h ∙ q))
  apart_by k b g d e xs ys s (Fresh ek eb same) (Fresh fk fb more_same) p q n = absurd (n (eb ∙ sym fb))

  lies_by : (k b d : ℕ) (x : Block) → performs k ≡ false → x.live ≡ true → Whence k b x → more k b ≡ Some d →
      LiesAt k d (length x.cells) x.place
  lies_by k b d x s live (Before at e) is_at = blocks.lies k b d x s at live (sym e ∙ is_at)
  lies_by k b d x s live (Now e f same) is_at =
      subst (λ (x : Block). LiesAt k d (length x.cells) x.place) same
      (sym (at_new k b d e f is_at) ∙ ap (λ k. zone_address k (Some place)) (sym e))

  known_here : (k b d : ℕ) → more k b ≡ Some d → k ≡ c → b < length (grown k)
  known_here k b d is_at e =
      let long_now : length (grown k) ≡ first + 1 =
      ap length (grown_here k e) ∙ length-append (memory c) (block ∷ []) in
      let same : length (memory k) ≡ first = ap (λ k. length (memory k)) e in
      ⊎_elim (λ f. omega (arith, f, long_now))
      (λ n. omega (arith, long_now, same, blocks.known k b d (sym (more_old k b (λ e. n)) ∙ is_at)))
      (cases_eq b first)

  known_by : (k b d : ℕ) → more k b ≡ Some d → b < length (grown k)
  known_by k b d is_at =
      ⊎_elim (known_here k b d is_at)
      (λ n. subst (λ bs. b < length bs) (sym (grown_there k n))
      (blocks.known k b d (sym (more_old k b (λ e. absurd (n e))) ∙ is_at))) (cases_eq k c)

  pub blocks_grown : BlocksMatch image performs floor more grown bytes
  blocks_grown = record {
    there = λ k b cells s live. there_by k b cells s (origin k b cells live);
    placed = λ k b d cells s live e. placed_by k b d cells s (origin k b cells live) e;
    holds = λ k b d i cells x s live e get. holds_by k b d i cells x s (origin k b cells live) e get;
    apart = λ k b g d e xs ys s l m p q n. apart_by k b g d e xs ys s (origin k b xs l) (origin k g ys m) p q n;
    lies = λ k b d x s h live e. lies_by k b d x s live (whence k b x h) e;
    known = known_by;
  }

  -- what lives afterwards lived before, or lies in the zone
  abbrev Lived : (k b : ℕ) → List Cell → Type 0
  Lived k b cells =
      ((old : List Cell) × LiveAt memory k b old × (length cells ≡ length old))
      ⊎ ((d : ℕ) × (more k b ≡ Some d) × (zone_start k ≤ d))

  lived_by : (k b : ℕ) (cells : List Cell) → Origin k b cells → Lived k b cells
  lived_by k b cells (Old live e) = inl (cells, live, refl)
  lived_by k b cells (Fresh e f same) =
      let place_in : zone_start k ≡ zone_start c = ap zone_start e in
      inr (a, more_new k b e f, omega (arith, place_in))

  pub lived_grown : (k b : ℕ) (cells : List Cell) → LiveAt grown k b cells → Lived k b cells
  lived_grown k b cells h = lived_by k b cells (origin k b cells h)

  -- the pointer to the new block stands for its address
  pub new_stands : c < 32 → StandsFor (more c) a (Ptr (record { block = first; index = 0 }))
  new_stands few = record {
    word = omega (arith, few, taking.within);
    means = (
      a,
      more_new c first refl refl,
      omega arith,
      record { above = omega arith; below = omega (arith, few, taking.within, taking.some) },
    );
  }

-- both sides once words were allocated: the meaning gives a value, which a0 stands for
pub record IsAllocated (T : Setting) (P : Standpoint) (x : Joint) (here : Here) (words : ℕ) : Type 0 where
  pub v : Value
  pub meant : Meant
  pub gives : allocated here words x.meant ≡ Reached v meant
  pub comes : ComesBack T P x Input (Some v) meant

module _ (T : Setting) (formed : IsWellFormed T.image) (inputs : All IsWord T.inputs) (P : Standpoint) (x : Joint)
    (settled : Settled T P x) (honest : T.performs P.comp ≡ false) (low : P.floor P.comp ≤ stack_top P.comp)
    (heap : has_heap T.image P.comp ≡ true) (asks : Fetches T.image P.comp x.pc Ecall) (count words : ℕ)
    (asked : x.regs a7 ≡ 3) (count_is : x.regs a0 ≡ count) (words_is : x.regs a1 ≡ words) (numbered : ℕ) where
  abbrev many : ℕ
  many = count * words

  abbrev here : Here
  here = record { comp = P.comp; first = numbered }

  abbrev zone : List Span
  zone = slice_index_or x.zones P.comp []

  abbrev memory : Memory
  memory = x.meant.memory

  -- the zones, where the compartment's has these spans
  abbrev zones_with : List Span → List (List Span)
  zones_with spans = slice_set x.zones P.comp spans

  zone_here : (spans : List Span) (k : ℕ) → k ≡ P.comp → slice_index_or (zones_with spans) k [] ≡ spans
  zone_here spans k e =
      ap (λ k. slice_index_or (zones_with spans) k []) e ∙
      get_or-set_same x.zones P.comp spans [] (omega (arith, settled.steady.zones, settled.steady.active))

  zone_there : (spans : List Span) (k : ℕ) → k ≢ P.comp →
      slice_index_or (zones_with spans) k [] ≡ slice_index_or x.zones k []
  zone_there spans k n = get_or-set_other x.zones P.comp k spans [] n

  matches : ZoneMatches zone (memory P.comp)
  matches = settled.zones P.comp honest

  -- the meaning finds what the machine finds
  found_both : (found : Option ℕ) → least_free zone many ≡ found → allocated here many x.meant ≡
      placed here many found x.meant
  found_both found e =
      ap (λ found. placed here many found x.meant) (ap (λ spans. least_free spans many) (sym matches.same) ∙ e)

  abbrev after : (found : Option ℕ) → Injection → Meant → Joint
  after found inj meant = record x {
    inj = inj;
    meant = meant;
    pc = x.pc + 4;
    regs = put x.regs a0 (zone_address P.comp found);
    zones = zones_with (taken many found zone);
  }

  walks : (found : Option ℕ) → least_free zone many ≡ found →
      Walks T.image T.inputs 1 (machine P x) (machine P (after found x.inj x.meant))
  walks found e =
      subst (λ found. Walks T.image T.inputs 1 (machine P x) (machine P (after found x.inj x.meant))) e
      (alloc_walks T.image T.inputs x.pc x.regs x.bytes (world_at P x) asks heap count words asked count_is words_is)

  -- there is no place
  none_zoned : (k : ℕ) → T.performs k ≡ false → slice_index_or (zones_with zone) k [] ≡ slice_index_or x.zones k []
  none_zoned k h =
      ⊎_elim (λ e. zone_here zone k e ∙ ap (λ k. slice_index_or x.zones k []) (sym e)) (zone_there zone k)
      (cases_eq k P.comp)

  none_comes : least_free zone many ≡ None → ComesBack T P x Input (Some Null) x.meant
  none_comes e = record {
    y = after None x.inj x.meant;
    meant_is = refl;
    pc = refl;
    sp = put_there x.regs a0 0 sp (λ e. omega (arith, e));
    value = record { word = omega (arith, put_here x.regs a0 0); means = put_here x.regs a0 0 };
    registers = λ e q n. put_there x.regs a0 0 q n;
    leads = leads_rezoned T formed inputs P x 1 0 (x.pc + 4) (put x.regs a0 0) x.bytes (zones_with zone)
        (λ k q p. refl) (walks None e);
    settled = settled_rezoned T formed inputs P x 1 (x.pc + 4) (put x.regs a0 0) x.bytes (zones_with zone) settled
        (λ k b a i cells h live at l. refl) none_zoned (walks None e);
  }

  -- there is one
  module _ (place : ℕ) (found : least_free zone many ≡ Some place) where
    taking : IsTaken (spans_of (memory P.comp)) many place
    taking = is_taken (spans_of (memory P.comp)) many place matches.laid
        (ap (λ spans. least_free spans many) (sym matches.same) ∙ found)

    abbrev y : Joint
    y = after (Some place) (injection_with P.comp (length (memory P.comp)) (zone_address P.comp (Some place)) x.inj)
        (with_memory P.comp (memory P.comp ++ allocated_at place many ∷ []) x.meant)

    zone_now : (spans : List Span) → spans ≡ with_span (span_of place many) zone → ZoneMatches spans
        (memory P.comp ++ allocated_at place many ∷ [])
    zone_now spans is =
        let same : with_span (span_of place many) zone ≡ spans_of (memory P.comp ++ allocated_at place many ∷ []) =
        ap (with_span (span_of place many)) matches.same ∙ sym (spans_allocated (memory P.comp) place many) in
        record {
          same = is ∙ same;
          laid = subst (AreLaid 0) (sym (spans_allocated (memory P.comp) place many)) taking.laid;
        }

    zones_now : (k : ℕ) → T.performs k ≡ false → ZoneMatches (slice_index_or y.zones k []) (y.meant.memory k)
    zones_now k h = ⊎_elim
        (λ e. subst (ZoneMatches (slice_index_or y.zones k []))
        (sym (grown_here settled.blocks P.comp place many honest heap low taking k e))
        (zone_now (slice_index_or y.zones k []) (zone_here (taken many (Some place) zone) k e)))
        (λ n. subst₂ ZoneMatches (sym (zone_there (taken many (Some place) zone) k n))
        (sym (grown_there settled.blocks P.comp place many honest heap low taking k n)) (settled.zones k h))
        (cases_eq k P.comp)

    grows : (k b a : ℕ) → x.inj k b ≡ Some a → y.inj k b ≡ Some a
    grows = more_grows settled.blocks P.comp place many honest heap low taking

    settled_now : Settled T P y
    settled_now = record {
      blocks = blocks_grown settled.blocks P.comp place many honest heap low taking;
      globals = λ k number h l. grows k number _ (settled.globals k number h l);
      saved = settled.saved;
      zones = zones_now;
      inputs = settled.inputs;
      steady = walks_steady T.image T.inputs formed inputs 1 _ _ (walks (Some place) found) settled.steady;
      came = came_by T 1 _ _ (walks (Some place) found) settled.came;
      depth = settled.depth;
      timed = settled.timed;
    }

    some_comes : ComesBack T P x Input (Some (Ptr (record { block = length (memory P.comp); index = 0 }))) y.meant
    some_comes = record {
      y = y;
      meant_is = refl;
      pc = refl;
      sp = put_there x.regs a0 (zone_address P.comp (Some place)) sp (λ e. omega (arith, e));
      value = subst (λ w. StandsFor (y.inj P.comp) w (Ptr (record { block = length (memory P.comp); index = 0 })))
          (sym (put_here x.regs a0 (zone_address P.comp (Some place))))
          (new_stands settled.blocks P.comp place many honest heap low taking
          (omega (arith, settled.steady.active, formed.few_comps)));
      registers = λ e q n. put_there x.regs a0 (zone_address P.comp (Some place)) q n;
      leads = record {
        steps = 1;
        run = walks (Some place) found;
        costs = record { least = omega arith; most = λ all. omega arith };
        effect = record {
          grows = grows;
          lived = λ k b cells h live.
              lived_grown settled.blocks P.comp place many honest heap low taking k b cells live;
          keeps = λ k q p. refl;
          depths = λ k. refl;
        };
      };
      settled = settled_now;
    }

  allocated_by : (found : Option ℕ) → least_free zone many ≡ found → IsAllocated T P x here many
  allocated_by None e = record { v = Null; meant = x.meant; gives = found_both None e; comes = none_comes e }
  allocated_by (Some place) e = record {
    v = Ptr (record { block = length (memory P.comp); index = 0 });
    meant = (y place e).meant;
    gives = found_both (Some place) e;
    comes = some_comes place e;
  }

  -- the environment call that allocates `count` times `words` words
  pub alloc_comes : IsAllocated T P x here many
  alloc_comes = allocated_by (least_free zone many) refl
