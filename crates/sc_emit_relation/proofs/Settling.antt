-- Both sides stay settled while code of the running call changes registers and words of its frame, and across a store
-- through a pointer; and what such a stretch leaves unchanged.
use Rattle.sc_emit_relation.proofs.Common.{Activation, All, Apart, Blocks, ByteMemory as Bytes, FrameMatches}
use Rattle.sc_emit_relation.proofs.Common.{IsActivation, IsWellFormed, IsWord, Joint, Leads, List, Ok, Place, Pointer}
use Rattle.sc_emit_relation.proofs.Common.{Protected, Ptr, Registers, Setting, Settled, Some, Standpoint, StandsFor}
use Rattle.sc_emit_relation.proofs.Common.{Value, Walks, ℕ, arith, cases_eq, false, inl, inr, machine, own_words}
use Rattle.sc_emit_relation.proofs.Common.{put_word, refl, seen_from, slice_get, store, walks_steady, with_blocks}
use Rattle.sc_emit_relation.proofs.Common.{with_memory, word, word_apart, ⊎_elim, ◌*◌, ◌+◌, ◌≡◌, ◌≤◌}
use Rattle.std.specs.Prelude.{[], slice_index_or}
use Rattle.sc_zone.specs.declared.span.Span.{Span}
use Rattle.sc_emit_relation.proofs.Frames.{own_inside}
use Rattle.sc_emit_relation.proofs.Storing.{CellsKept, blocks_after, blocks_kept, guarded_cells, guarded_kept}
use Rattle.sc_emit_relation.proofs.Storing.{other_data, was}
use Rattle.sc_emit_relation.proofs.Coming.{came_by}
use Rattle.sc_emit_relation.proofs.Spans.{spans_elsewhere, spans_stored, zone_on}

-- both sides, where the code has come to a pc, with these registers and bytes
abbrev pub moved : Joint → (pc : ℕ) → Registers → Bytes → Joint
moved x pc regs bytes = record x { pc = pc; regs = regs; bytes = bytes }

-- and with these zones
abbrev pub rezoned : Joint → (pc : ℕ) → Registers → Bytes → List (List Span) → Joint
rezoned x pc regs bytes zones = record x { pc = pc; regs = regs; bytes = bytes; zones = zones }

-- and the compartment has these blocks
abbrev pub moved_with : Joint → (comp : ℕ) → Blocks → (pc : ℕ) → Registers → Bytes → Joint
moved_with x comp blocks pc regs bytes =
    record x { meant = with_memory comp blocks x.meant; pc = pc; regs = regs; bytes = bytes }

module _ (T : Setting) (formed : IsWellFormed T.image) (inputs : All IsWord T.inputs) (P : Standpoint) where
  pub settled_rezoned : (x : Joint) (n pc : ℕ) (regs : Registers) (later : Bytes) (zones : List (List Span)) →
      Settled T P x → CellsKept T.performs x.inj x.meant.memory x.bytes later →
      ((k : ℕ) → T.performs k ≡ false → slice_index_or zones k [] ≡ slice_index_or x.zones k []) →
      Walks T.image T.inputs n (machine P x) (machine P (rezoned x pc regs later zones)) →
      Settled T P (rezoned x pc regs later zones)
  settled_rezoned x n pc regs later zones s kept zoned walks = record {
    blocks = blocks_kept s.blocks later kept;
    globals = s.globals;
    saved = s.saved;
    zones = λ k honest. zone_on (slice_index_or x.zones k []) (slice_index_or zones k []) (x.meant.memory k)
        (x.meant.memory k) (s.zones k honest) (zoned k honest) refl;
    inputs = s.inputs;
    steady = walks_steady T.image T.inputs formed inputs n _ _ walks s.steady;
    came = came_by T n _ _ walks s.came;
    depth = s.depth;
    timed = s.timed;
  }

  pub settled_moved : (x : Joint) (n pc : ℕ) (regs : Registers) (later : Bytes) → Settled T P x →
      CellsKept T.performs x.inj x.meant.memory x.bytes later →
      Walks T.image T.inputs n (machine P x) (machine P (moved x pc regs later)) → Settled T P (moved x pc regs later)
  settled_moved x n pc regs later s kept walks =
      settled_rezoned x n pc regs later x.zones s kept (λ k honest. refl) walks

  -- a stretch that leaves protected words unchanged
  pub leads_rezoned : (x : Joint) (n left pc : ℕ) (regs : Registers) (later : Bytes) (zones : List (List Span)) →
      ((k q : ℕ) → Protected T P x.inj x.meant.memory k q → word later q ≡ word x.bytes q) →
      Walks T.image T.inputs n (machine P x) (machine P (rezoned x pc regs later zones)) →
      Leads T P x (rezoned x pc regs later zones) (n + left) left
  leads_rezoned x n left pc regs later zones kept walks = record {
    steps = n;
    run = walks;
    costs = record { least = omega arith; most = λ all. omega arith };
    effect = record {
      grows = λ k b a e. e;
      lived = λ k b cells s live. inl (cells, live, refl);
      keeps = kept;
      depths = λ k. refl;
    };
  }

  pub leads_moved : (x : Joint) (n left pc : ℕ) (regs : Registers) (later : Bytes) →
      ((k q : ℕ) → Protected T P x.inj x.meant.memory k q → word later q ≡ word x.bytes q) →
      Walks T.image T.inputs n (machine P x) (machine P (moved x pc regs later)) →
      Leads T P x (moved x pc regs later) (n + left) left
  leads_moved x n left pc regs later kept walks = leads_rezoned x n left pc regs later x.zones kept walks

  -- A store through a pointer.
  module _ (x : Joint) (n pc a w : ℕ) (regs : Registers) (p : Pointer) (v : Value) (after : Blocks) (s : Settled T P x)
      (honest : T.performs P.comp ≡ false) (stores : store (x.meant.memory P.comp) (Ptr p) v ≡ Ok after)
      (is_at : x.inj P.comp p.block ≡ Some a) where
    abbrev pub later : Bytes
    later = put_word x.bytes (a + 4 * p.index) w

    abbrev pub stored_at : Joint
    stored_at = moved_with x P.comp after pc regs later

    pub settled_stored : StandsFor (x.inj P.comp) w v →
        Walks T.image T.inputs n (machine P x) (machine P stored_at) → Settled T P stored_at
    settled_stored stands walks = record {
      blocks = blocks_after s.blocks P.comp a w p v after honest stores is_at stands;
      globals = s.globals;
      saved = s.saved;
      zones = λ k h. zone_on (slice_index_or x.zones k []) (slice_index_or x.zones k []) (x.meant.memory k)
          (with_blocks P.comp after x.meant.memory k) (s.zones k h) refl (spans_elsewhere P.comp after x.meant.memory k
          (spans_stored (x.meant.memory P.comp) after p v stores));
      inputs = s.inputs;
      steady = walks_steady T.image T.inputs formed inputs n _ _ walks s.steady;
      came = came_by T n _ _ walks s.came;
      depth = s.depth;
      timed = s.timed;
    }

    pub leads_stored : (left : ℕ) → Walks T.image T.inputs n (machine P x) (machine P stored_at) →
        Leads T P x stored_at (n + left) left
    leads_stored left walks = record {
      steps = n;
      run = walks;
      costs = record { least = omega arith; most = λ all. omega arith };
      effect = record {
        grows = λ k b a e. e;
        lived = λ k b cells h live.
            (let old = was s.blocks P.comp a w p v after honest stores is_at k b cells live in
            inl (old.old, old.live, old.long));
        keeps = λ k q g. guarded_kept s.blocks P.comp a w p v after honest stores is_at k q g.guard;
        depths = λ k. refl;
      };
    }

-- A word of the running call's frame is written.
module _ (T : Setting) (cells : List ℕ) (places : List Place) (nodes : ℕ)
    (A : Activation) (is : IsActivation T.performs cells places nodes A) (x : Joint) (i offset w : ℕ)
    (its : slice_get (own_words A.frame) i ≡ Some offset) where
  abbrev P : Standpoint
  P = seen_from A

  pub own_cells : Settled T P x → FrameMatches T.image A x.inj x.meant.memory x.bytes →
      CellsKept T.performs x.inj x.meant.memory x.bytes (put_word x.bytes (A.sp + offset) w)
  own_cells s frame = guarded_cells s.blocks A.here.comp (A.sp + offset) w (frame.guard i offset its)

  -- what belongs to what lies above the frame is none of its words
  pub own_keeps : FrameMatches T.image A x.inj x.meant.memory x.bytes → (k q : ℕ) →
      Protected T P x.inj x.meant.memory k q → word (put_word x.bytes (A.sp + offset) w) q ≡ word x.bytes q
  own_keeps frame k q p =
      let inside : offset + 4 ≤ A.frame.bytes = own_inside cells places nodes A.frame is.frame_fits i offset its in
      let apart : Apart q (A.sp + offset) =
      ⊎_elim (λ e. inr (omega (arith, p.own e, inside)))
      (λ n. other_data T.image k A.here.comp q (A.sp + offset) n p.guard.owned
      (frame.guard i offset its).owned) (cases_eq k A.here.comp) in
      word_apart x.bytes (A.sp + offset) w q apart
