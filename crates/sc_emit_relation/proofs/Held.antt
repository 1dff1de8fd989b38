-- The frame of the running call and the values in its places, across what code does.
use Rattle.sc_emit_relation.proofs.Common.{Activation, Apart, AreInPlace, FrameFits, FrameMatches, Guarded, ImageParts}
use Rattle.sc_emit_relation.proofs.Common.{InPlace, InSlot, Injection, IsClear, IsInPlace, List, Means}
use Rattle.sc_emit_relation.proofs.Common.{ByteMemory as Bytes}
use Rattle.sc_emit_relation.proofs.Common.{Null, Option, Place, Point, Ptr, Register, Registers, TempSet, Slot, Some}
use Rattle.sc_emit_relation.proofs.Common.{StandsFor, Temps, Value, Word, ap, apart_from, arith, cases_eq, eq-eqb}
use Rattle.sc_emit_relation.proofs.Common.{ne_eqb, no_temps, own_words, put_word, refl, register_of, same_Some}
use Rattle.sc_emit_relation.proofs.Common.{slice_get, subst, suc, sym, true, with_temp, word, word_apart, ℕ, ⊎_elim}
use Rattle.sc_emit_relation.proofs.Common.{◌+◌, ◌∙◌, ◌≡◌, ◌≢◌}
use Rattle.sc_core.specs.Prelude.{Memory}
use Rattle.sc_emit_relation.proofs.Frames.{own_apart}
use Rattle.sc_emit_relation.proofs.Registers.{HasNoOtherUse, no_other_use, register_same}

-- The map of blocks grows.

abbrev pub Grows : (place more : ℕ → Option ℕ) → Type 0
Grows place more = (b a : ℕ) → place b ≡ Some a → more b ≡ Some a

means_more : (place more : ℕ → Option ℕ) → Grows place more → (v : Value) (w : ℕ) → Means place v w → Means more v w
means_more place more grows (Word n) w h = h
means_more place more grows Null w h = h
means_more place more grows (Ptr p) w h = (h.0, grows p.block h.0 h.1, h.2, h.3)

pub stands_more : (place more : ℕ → Option ℕ) → Grows place more → (w : ℕ) (v : Value) → StandsFor place w v →
    StandsFor more w v
stands_more place more grows w v h = record { word = h.word; means = means_more place more grows v w h.means }

module _ (A : Activation) where
  -- The frame: its return address is kept, and its words stay guarded.
  pub frame_kept : (image : ImageParts) (inj more : Injection) (memory other : Memory) (bytes later : Bytes) →
      Grows (inj A.here.comp) (more A.here.comp) →
      ((q : ℕ) → Guarded image inj memory A.here.comp q → Guarded image more other A.here.comp q) →
      word later A.sp ≡ word bytes A.sp → FrameMatches image A inj memory bytes → FrameMatches image A more other later
  frame_kept image inj more memory other bytes later grows guard same h = record {
    ra = same ∙ h.ra;
    guard = λ i offset e. guard (A.sp + offset) (h.guard i offset e);
    objects = λ object offset e. grows (A.here.first + object) (A.sp + offset) (h.objects object offset e);
  }

  -- what is in a place is as it was
  abbrev pub PlaceKept : (regs after : Registers) (bytes later : Bytes) → Place → Type 0
  PlaceKept regs after bytes later (Register r) = after (register_of r) ≡ regs (register_of r)
  PlaceKept regs after bytes later (Slot k) =
      (offset : ℕ) → slice_get A.frame.slots k ≡ Some offset → word later (A.sp + offset) ≡ word bytes (A.sp + offset)

  pub in_place : (inj more : Injection) (regs after : Registers) (bytes later : Bytes) (place : Place) (v : Value) →
      Grows (inj A.here.comp) (more A.here.comp) → PlaceKept regs after bytes later place →
      InPlace A inj regs bytes place v → InPlace A more after later place v
  in_place inj more regs after bytes later (Register r) v grows same h =
      subst (λ w. StandsFor (more A.here.comp) w v) (sym same)
      (stands_more (inj A.here.comp) (more A.here.comp) grows (regs (register_of r)) v h)
  in_place inj more regs after bytes later (Slot k) v grows same h = (
    h.0,
    h.1,
    subst (λ w. StandsFor (more A.here.comp) w v) (sym (same h.0 h.1))
        (stands_more (inj A.here.comp) (more A.here.comp) grows (word bytes (A.sp + h.0)) v h.2),
  )

  -- registers and slots of places, but for one, where registers with no other use change only there
  pub kept_but_register : (regs after : Registers) (bytes : Bytes) (r : ℕ) →
      ((q : ℕ) → HasNoOtherUse q → q ≢ register_of r → after q ≡ regs q) → (place : Place) → place ≢ Register r →
      PlaceKept regs after bytes bytes place
  kept_but_register regs after bytes r same (Register q) n =
      same (register_of q) (no_other_use q) (λ e. n (ap Register (register_same q r e)))
  kept_but_register regs after bytes r same (Slot k) n = λ offset e. refl

  pub kept_all : (regs after : Registers) (bytes later : Bytes) →
      ((q : ℕ) → HasNoOtherUse q → after q ≡ regs q) →
      ((k : ℕ) → PlaceKept regs after bytes later (Slot k)) → (place : Place) → PlaceKept regs after bytes later place
  kept_all regs after bytes later same slots (Register q) = same (register_of q) (no_other_use q)
  kept_all regs after bytes later same slots (Slot k) = slots k

  -- a slot is written
  module _ (cells : List ℕ) (places : List Place) (nodes : ℕ) (frame_fits : FrameFits cells places nodes A.frame)
      (k offset w : ℕ) (is_at : slice_get A.frame.slots k ≡ Some offset) where
    own_moved : (i u : ℕ) → slice_get (own_words A.frame) i ≡ Some u → i ≢ suc k → Apart (A.sp + u) (A.sp + offset)
    own_moved i u e n =
        let apart : Apart u offset = own_apart cells places nodes A.frame frame_fits i (suc k) u offset n e is_at in
        apart_from (A.sp + u) (A.sp + offset) (λ x y. omega (arith, apart))

    pub own_kept : (bytes : Bytes) (i u : ℕ) → slice_get (own_words A.frame) i ≡ Some u → i ≢ suc k →
        word (put_word bytes (A.sp + offset) w) (A.sp + u) ≡ word bytes (A.sp + u)
    own_kept bytes i u e n = word_apart bytes (A.sp + offset) w (A.sp + u) (own_moved i u e n)

    pub ra_kept : (bytes : Bytes) → word (put_word bytes (A.sp + offset) w) A.sp ≡ word bytes A.sp
    ra_kept bytes =
        let here : A.sp + 0 ≡ A.sp = omega arith in
        subst (λ q. word (put_word bytes (A.sp + offset) w) q ≡ word bytes q) here
        (own_kept bytes 0 0 refl (λ e. omega (arith, e)))

    pub kept_but_slot : (regs after : Registers) (bytes : Bytes) →
        ((q : ℕ) → HasNoOtherUse q → after q ≡ regs q) → (place : Place) → place ≢ Slot k →
        PlaceKept regs after bytes (put_word bytes (A.sp + offset) w) place
    kept_but_slot regs after bytes same (Register q) n = same (register_of q) (no_other_use q)
    kept_but_slot regs after bytes same (Slot i) n =
        λ u e. own_kept bytes (suc i) u e (λ f. n (ap Slot (let g : i ≡ k = omega (arith, f) in g)))

  module _ (places : List Place) (inj more : Injection) (regs after : Registers) (bytes later : Bytes)
      (grows : Grows (inj A.here.comp) (more A.here.comp)) where
    -- what is live afterwards was live, and its places are as they were
    pub held_kept : (live less : TempSet) (temps : Temps) → ((t : ℕ) → less t ≡ true → live t ≡ true) →
        ((t : ℕ) (place : Place) → less t ≡ true → slice_get places t ≡ Some place →
        PlaceKept regs after bytes later place) →
        AreInPlace A places inj regs bytes live temps → AreInPlace A places more after later less temps
    held_kept live less temps fewer kept h t v on e =
        let x : IsInPlace A places inj regs bytes t v = h t v (fewer t on) e in
        record {
          place = x.place;
          its = x.its;
          value = in_place inj more regs after bytes later x.place v grows (kept t x.place on x.its) x.value;
        }

    -- over a call what is live lies in slots
    pub held_over_call : (live : TempSet) (x : Point) (temps : Temps) → IsClear places x → x.calls ≡ true →
        ((t : ℕ) → x.live t ≡ true → live t ≡ true) →
        ((k : ℕ) → PlaceKept regs after bytes later (Slot k)) →
        AreInPlace A places inj regs bytes live temps → AreInPlace A places more after later x.live temps
    held_over_call live x temps clear calls fewer slots h =
        held_kept live x.live temps fewer
        (λ t place on e. (let slot : InSlot places t = clear.over_calls t calls on in
        let same : Slot slot.0 ≡ place = same_Some (Slot slot.0) place (sym slot.1 ∙ e) in
        subst (PlaceKept regs after bytes later) same (slots slot.0))) h

    -- a temporary is assigned at a clear point: its value is in its place, and each other place is as it was
    pub held_assigned : (live : TempSet) (x : Point) (d : ℕ) (place : Place) (v : Value) (temps : Temps) →
        IsClear places x → x.assigned ≡ Some d → slice_get places d ≡ Some place →
        ((t : ℕ) → x.live t ≡ true → t ≢ d → live t ≡ true) →
        ((other : Place) → other ≢ place → PlaceKept regs after bytes later other) →
        InPlace A more after later place v → AreInPlace A places inj regs bytes live temps →
        AreInPlace A places more after later x.live (with_temp d v temps)
    held_assigned live x d place v temps clear assigned its fewer kept value h t u on e =
        ⊎_elim here there (cases_eq t d)
      where
        here : t ≡ d → IsInPlace A places more after later t u
        here same =
            let now : Some v ≡ with_temp d v temps t = rw (eq-eqb t d same) refl in
            let is : v ≡ u = same_Some v u (now ∙ e) in
            record {
              place = place;
              its = ap (λ t. slice_get places t) same ∙ its;
              value = subst (InPlace A more after later place) is value;
            }

        there : t ≢ d → IsInPlace A places more after later t u
        there other =
            let old : temps t ≡ with_temp d v temps t = rw (ne_eqb t d other) refl in
            let y : IsInPlace A places inj regs bytes t u = h t u (fewer t on other) (old ∙ e) in
            record {
              place = y.place;
              its = y.its;
              value = in_place inj more regs after bytes later y.place u grows
                  (kept y.place (λ same. other (sym (clear.assigned d t assigned on
                  (place, its, y.its ∙ ap Some same))))) y.value;
            }

  -- where a function begins no temporary is assigned
  pub held_at_entry : (places : List Place) (inj : Injection) (regs : Registers) (bytes : Bytes) (live : TempSet) →
      AreInPlace A places inj regs bytes live no_temps
  held_at_entry places inj regs bytes live t v on e = cc e
