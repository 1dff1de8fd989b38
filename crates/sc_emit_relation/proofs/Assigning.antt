-- Straight code of the running call: it moves on, it assigns a temporary, it loads and stores through a pointer.
use Rattle.sc_emit_relation.proofs.Common.{Activation, All, Arrives, Blocks, Bool, ByteMemory as Bytes, Guarded}
use Rattle.sc_emit_relation.proofs.Common.{IsClear, Joint, Leads, List, Lives, None, Null, Ok, Owned, Place, Point}
use Rattle.sc_emit_relation.proofs.Common.{Pointer, Ptr, Ready, Registers, Running, Setting, Slot, Some, Standpoint}
use Rattle.sc_emit_relation.proofs.Common.{StandsFor, TempSet, Temps, Value, Walks, Word, all_at, and_first, and_from}
use Rattle.sc_emit_relation.proofs.Common.{and_rest, arith, false, load, machine, own_words, plain_points, put_word}
use Rattle.sc_emit_relation.proofs.Common.{refl, seen_from, slice_get, sp, store, subst, suc, sym, true, wanted}
use Rattle.sc_emit_relation.proofs.Common.{with_memory, with_temp, word, word_same, ℕ, ◌*◌, ◌+◌, ◌∙◌, ◌≡◌, ◌≢◌}
use Rattle.sc_emit_relation.proofs.Wanted.{clear_wanted, wanted_less}
use Rattle.sc_emit_relation.proofs.Held.{frame_kept, held_assigned, held_kept, kept_all, kept_but_slot, ra_kept}
use Rattle.sc_emit_relation.proofs.Registers.{HasNoOtherUse}
use Rattle.sc_emit_relation.proofs.Settling.{moved, moved_with, settled_moved, leads_moved, settled_stored}
use Rattle.sc_emit_relation.proofs.Settling.{leads_stored, own_cells, own_keeps}
use Rattle.sc_emit_relation.proofs.Storing.{LoadsWord, loads_word, target_owned, guarded_after, guarded_kept}
use Rattle.sc_emit_relation.proofs.Running.{IsRunning}
use Rattle.sc_emit_relation.proofs.Straight.{Assigns, after_live, after_unassigned, live_plain}

module _ {T : Setting} {R : Running} (valid : IsRunning T R) where
  abbrev A : Activation
  A = R.activation

  abbrev P : Standpoint
  P = seen_from R.activation

  -- the value goes into a slot, by way of registers with another use
  pub assigns_slot : (live : TempSet) (temps : Temps) (x : Joint) (k offset w : ℕ) (v : Value) (regs : Registers) →
      Ready T R live temps x → slice_get A.frame.slots k ≡ Some offset → regs sp ≡ x.regs sp →
      StandsFor (x.inj A.here.comp) w v → ((q : ℕ) → HasNoOtherUse q → regs q ≡ x.regs q) →
      Assigns T R x (Slot k) v regs (put_word x.bytes (A.sp + offset) w)
  assigns_slot live temps x k offset w v regs ready its same stands others = record {
    sp = same;
    value = (
      offset,
      its,
      subst (λ z. StandsFor (x.inj A.here.comp) z v)
          (sym (word_same x.bytes (A.sp + offset) w stands.word)) stands,
    );
    others = kept_but_slot A valid.cells R.places valid.nodes valid.is.frame_fits k offset w its x.regs regs x.bytes
        others;
    ra = ra_kept A valid.cells R.places valid.nodes valid.is.frame_fits k offset w its x.bytes;
    cells = own_cells T valid.cells R.places valid.nodes A valid.is x (suc k) offset w its ready.settled
        ready.frame;
    keeps = own_keeps T valid.cells R.places valid.nodes A valid.is x (suc k) offset w its ready.frame;
  }

  -- registers with another use change, and control moves on
  pub record MovesOn (live : TempSet) (temps : Temps) (x : Joint) (n left pc : ℕ) (regs : Registers) : Type 0 where
    pub leads : Leads T P x (moved x pc regs x.bytes) (n + left) left
    pub ready : Ready T R live temps (moved x pc regs x.bytes)

  pub moves_on : (live : TempSet) (temps : Temps) (x : Joint) (n left pc : ℕ) (regs : Registers) →
      Ready T R live temps x → regs sp ≡ x.regs sp → ((q : ℕ) → HasNoOtherUse q → regs q ≡ x.regs q) →
      Walks T.image T.inputs n (machine P x) (machine P (moved x pc regs x.bytes)) →
      MovesOn live temps x n left pc regs
  moves_on live temps x n left pc regs ready same others walks = record {
    leads = leads_moved T valid.formed valid.inputs P x n left pc regs x.bytes (λ k q p. refl) walks;
    ready = record {
      settled = settled_moved T valid.formed valid.inputs P x n pc regs x.bytes ready.settled
          (λ k b a i cells h on e l. refl) walks;
      frame = ready.frame;
      held = held_kept A R.places x.inj x.inj x.regs regs x.bytes x.bytes (λ b a e. e) (wanted R.plan.needed live)
          (wanted R.plan.needed live) temps (λ t on. on)
          (λ t place on e. kept_all A x.regs regs x.bytes x.bytes others (λ k o f. refl) place) ready.held;
      sp = same ∙ ready.sp;
    };
  }

  -- a temporary is assigned at a clear point
  pub assigned_at : (live : TempSet) (point : Point) (temps : Temps) (x : Joint) (n left d pc : ℕ) (place : Place)
      (v : Value) (regs : Registers) (later : Bytes) →
      Ready T R live temps x → IsClear R.places point → point.assigned ≡ Some d → slice_get R.places d ≡ Some place →
      ((t : ℕ) → point.live t ≡ true → t ≢ d → live t ≡ true) → Assigns T R x place v regs later →
      Walks T.image T.inputs n (machine P x) (machine P (moved x pc regs later)) →
      Arrives T R point.live x (n + left) left (with_temp d v temps) x.meant pc
  assigned_at live point temps x n left d pc place v regs later ready clear assigned its fewer h walks = record {
    y = moved x pc regs later;
    meant_is = refl;
    pc_is = refl;
    leads = leads_moved T valid.formed valid.inputs P x n left pc regs later h.keeps walks;
    ready = record {
      settled = settled_moved T valid.formed valid.inputs P x n pc regs later ready.settled h.cells walks;
      frame = frame_kept A T.image x.inj x.inj x.meant.memory x.meant.memory x.bytes later (λ b a e. e) (λ q g. g)
          h.ra ready.frame;
      held = held_assigned A R.places x.inj x.inj x.regs regs x.bytes later (λ b a e. e) (wanted R.plan.needed live)
          (record point { live = wanted R.plan.needed point.live }) d place v temps
          (clear_wanted R.places R.plan.needed point clear) assigned its
          (λ t on e. and_from (live t) (R.plan.needed t) (fewer t (and_first (point.live t) (R.plan.needed t) on) e)
          (and_rest (point.live t) (R.plan.needed t) on)) h.others h.value ready.held;
      sp = h.sp ∙ ready.sp;
    };
  }

  -- a statement without others inside assigns
  pub assigned : (reads : List ℕ) (lives : Lives) (temps : Temps) (x : Joint) (n left d pc : ℕ) (place : Place)
      (v : Value) (regs : Registers) (later : Bytes) →
      Ready T R (live_plain reads (Some d) lives) temps x →
      All (IsClear R.places) (plain_points reads false (Some d) lives) → slice_get R.places d ≡ Some place →
      Assigns T R x place v regs later →
      Walks T.image T.inputs n (machine P x) (machine P (moved x pc regs later)) →
      Arrives T R lives.following x (n + left) left (with_temp d v temps) x.meant pc
  assigned reads lives temps x n left d pc place v regs later ready clear its h walks =
      assigned_at (live_plain reads (Some d) lives)
      (record { assigned = Some d; calls = false; live = lives.following }) temps x n left d pc place v regs later ready
      (all_at (IsClear R.places) (plain_points reads false (Some d) lives) 1 _ clear refl) refl its
      (λ t on e. after_live reads lives t d on e) h walks

  -- a store through a pointer
  pub stored_through : (reads : List ℕ) (lives : Lives) (temps : Temps) (x : Joint) (n left pc a w : ℕ) (p : Pointer)
      (v : Value) (after : Blocks) (regs : Registers) →
      Ready T R (live_plain reads None lives) temps x → store (x.meant.memory A.here.comp) (Ptr p) v ≡ Ok after →
      x.inj A.here.comp p.block ≡ Some a → StandsFor (x.inj A.here.comp) w v → regs sp ≡ x.regs sp →
      ((q : ℕ) → HasNoOtherUse q → regs q ≡ x.regs q) →
      Walks T.image T.inputs n (machine P x)
      (machine P (moved_with x A.here.comp after pc regs (put_word x.bytes (a + 4 * p.index) w))) →
      Arrives T R lives.following x (n + left) left temps (with_memory A.here.comp after x.meant) pc
  stored_through reads lives temps x n left pc a w p v after regs ready stores is_at stands same others walks =
      let s = ready.settled in
      let later : Bytes = put_word x.bytes (a + 4 * p.index) w in
      let kept : (q : ℕ) → Guarded T.image x.inj x.meant.memory A.here.comp q → word later q ≡ word x.bytes q =
      guarded_kept s.blocks A.here.comp a w p v after valid.is.honest stores is_at A.here.comp in
      let own : (i o : ℕ) → slice_get (own_words A.frame) i ≡ Some o →
      word later (A.sp + o) ≡ word x.bytes (A.sp + o) = λ i o e. kept (A.sp + o) (ready.frame.guard i o e) in
      let here : A.sp + 0 ≡ A.sp = omega arith in
      record {
        y = moved_with x A.here.comp after pc regs later;
        meant_is = refl;
        pc_is = refl;
        leads = leads_stored T valid.formed valid.inputs P x n pc a w regs p v after s valid.is.honest stores is_at
            left walks;
        ready = record {
          settled = settled_stored T valid.formed valid.inputs P x n pc a w regs p v after s valid.is.honest stores
              is_at stands walks;
          frame = frame_kept A T.image x.inj x.inj x.meant.memory _ x.bytes later (λ b a e. e)
              (guarded_after s.blocks A.here.comp a w p v after valid.is.honest stores is_at A.here.comp)
              (subst (λ q. word later q ≡ word x.bytes q) here (own 0 0 refl)) ready.frame;
          held = held_kept A R.places x.inj x.inj x.regs regs x.bytes later (λ b a e. e)
              (wanted R.plan.needed (live_plain reads None lives)) (wanted R.plan.needed lives.following) temps
              (wanted_less R.plan.needed lives.following (live_plain reads None lives) (after_unassigned reads lives))
              (λ t place on e. kept_all A x.regs regs x.bytes later others (λ k o f. own (suc k) o f) place) ready.held;
          sp = same ∙ ready.sp;
        };
      }

  -- a load and a store through what stands for a pointer

  pub record IsLoaded (x : Joint) (w : ℕ) (v : Value) : Type 0 where
    pub owned : Owned T.image A.here.comp w
    pub stands : StandsFor (x.inj A.here.comp) (word x.bytes w) v

  pub loads : (live : TempSet) (temps : Temps) (x : Joint) (w : ℕ) (pointer : Bool) (q v : Value) →
      Ready T R live temps x → StandsFor (x.inj A.here.comp) w q →
      load (x.meant.memory A.here.comp) pointer q ≡ Ok v →
      IsLoaded x w v
  loads live temps x w pointer (Word n) v ready stands h = cc h
  loads live temps x w pointer Null v ready stands h = cc h
  loads live temps x w pointer (Ptr p) v ready stands h =
      let m = stands.means in
      let r : LoadsWord ready.settled.blocks
      A.here.comp m.0 p v =
      loads_word ready.settled.blocks A.here.comp m.0 pointer p v valid.is.honest h m.1 in
      subst (λ w. IsLoaded x w v) (sym m.2) (record { owned = r.owned; stands = r.stands })

  pub may_store : (live : TempSet) (temps : Temps) (x : Joint) (w : ℕ) (q v : Value) (after : Blocks) →
      Ready T R live temps x → StandsFor (x.inj A.here.comp) w q → store (x.meant.memory A.here.comp) q v ≡ Ok after →
      Owned T.image A.here.comp w
  may_store live temps x w (Word n) v after ready stands h = cc h
  may_store live temps x w Null v after ready stands h = cc h
  may_store live temps x w (Ptr p) v after ready stands h =
      let m = stands.means in
      subst (Owned T.image A.here.comp) (sym m.2) (target_owned ready.settled.blocks
      A.here.comp m.0 0 p v after valid.is.honest h m.1)

  pub stores : (reads : List ℕ) (lives : Lives) (temps : Temps) (x : Joint) (n left pc to w : ℕ) (q v : Value)
      (after : Blocks) (regs : Registers) →
      Ready T R (live_plain reads None lives) temps x → StandsFor (x.inj A.here.comp) to q →
      store (x.meant.memory A.here.comp) q v ≡ Ok after → StandsFor (x.inj A.here.comp) w v → regs sp ≡ x.regs sp →
      ((r : ℕ) → HasNoOtherUse r → regs r ≡ x.regs r) →
      Walks T.image T.inputs n (machine P x)
      (machine P (moved_with x A.here.comp after pc regs (put_word x.bytes to w))) →
      Arrives T R lives.following x (n + left) left temps (with_memory A.here.comp after x.meant) pc
  stores reads lives temps x n left pc to w (Word k) v after regs ready place h stands same others walks = cc h
  stores reads lives temps x n left pc to w Null v after regs ready place h stands same others walks = cc h
  stores reads lives temps x n left pc to w (Ptr p) v after regs ready place h stands same others walks =
      let m = place.means in
      stored_through reads lives temps x n left pc m.0 w p v after regs ready h m.1 stands same others
      (subst (λ to. Walks T.image T.inputs n (machine P x)
      (machine P (moved_with x A.here.comp after pc regs (put_word x.bytes to w)))) m.2 walks)
