-- Operands at hand, and results in their places.
use Rattle.sc_emit.proofs.Common.{Activation, All, Arrives, Besides, ByteMemory as Bytes, CodeAt, Computes, Does}
use Rattle.sc_emit.proofs.Common.{FrameMatches, HasNoOtherUse, InPlace, Instr, IsClear, IsFromSp, IsInPlace, IsPlace}
use Rattle.sc_emit.proofs.Common.{IsRunning, IsWritable, Joint, List, Lives, Place, Ready, Register, Registers, Running}
use Rattle.sc_emit.proofs.Common.{Setting, Slot, Some, Standpoint, StandsFor, Stores, Temps, Value, Walks, World, []}
use Rattle.sc_emit.proofs.Common.{address_scratch, ap, append-nil, arith, assigned, assigns_register, assigns_slot, at}
use Rattle.sc_emit.proofs.Common.{at_hand, false, first_scratch, in_row, inl, inr, keep, kept, length, live_plain}
use Rattle.sc_emit.proofs.Common.{load_word, loads_word, look, look_at, machine, moved, no_other_use, operand}
use Rattle.sc_emit.proofs.Common.{own_inside, plain_points, put_word, refl, register_of, register_there}
use Rattle.sc_emit.proofs.Common.{result_register, same_Some, second_scratch, seen_from, slice_get, slot_offset, sp}
use Rattle.sc_emit.proofs.Common.{store_word, stores_word, subst, suc, sym, take, taken, unwrap_or, with_temp, word}
use Rattle.sc_emit.proofs.Common.{world_at, zero, ℕ, ◌*◌, ◌++◌, ◌+◌, ◌<◌, ◌∙◌, ◌∷◌, ◌≡◌, ◌≢◌, ◌⊎◌}

-- an operand may be brought to this register without loss of the other one
pub record IsScratch (scratch : ℕ) : Type 0 where
  pub writable : IsWritable scratch
  pub not_sp : sp ≢ scratch
  pub not_address : scratch ≢ address_scratch

pub first_is : IsScratch first_scratch
first_is = record {
  writable = record { above = omega arith; below = omega arith };
  not_sp = λ e. omega (arith, e);
  not_address = λ e. omega (arith, e);
}

pub second_is : IsScratch second_scratch
second_is = record {
  writable = record { above = omega arith; below = omega arith };
  not_sp = λ e. omega (arith, e);
  not_address = λ e. omega (arith, e);
}

module _ (T : Setting) (R : Running) (x : Joint) where
  abbrev pub A : Activation
  A = R.activation

  abbrev pub P : Standpoint
  P = seen_from R.activation

  abbrev pub world : World
  world = world_at P x

  -- an operand at hand: its register holds the word that stands for its value
  pub record AtHand (regs : Registers) (scratch t : ℕ) (v : Value) : Type 0 where
    pub word : ℕ
    pub stands : StandsFor (x.inj A.here.comp) word v
    pub after : Registers
    pub does : Does T.image T.inputs world (take A.frame R.places scratch t) regs x.bytes after x.bytes
    pub result : look after (operand A.frame R.places scratch t) ≡ word
    pub others : (q : ℕ) → Besides (scratch ∷ address_scratch ∷ []) q → after q ≡ regs q
    pub below : operand A.frame R.places scratch t < 32
    -- its register is the scratch register, or one of temporaries
    pub its : (operand A.frame R.places scratch t ≡ scratch) ⊎ HasNoOtherUse (operand A.frame R.places scratch t)

  -- Results.

  -- code computes the word of a value into a register
  pub record Gives (code : List Instr) (rd : ℕ) (v : Value) : Type 0 where
    pub word : ℕ
    pub stands : StandsFor (x.inj A.here.comp) word v
    pub after : Registers
    pub does : Does T.image T.inputs world code x.regs x.bytes after x.bytes
    pub result : after rd ≡ word
    pub same : after sp ≡ x.regs sp
    pub others : (q : ℕ) → HasNoOtherUse q → q ≢ rd → after q ≡ x.regs q

  -- what walks to the end of code
  pub walks_to : (code : List Instr) (after : Registers) (later : Bytes) →
      Does T.image T.inputs world code x.regs x.bytes after later → CodeAt T.image A.here.comp x.pc code →
      Walks T.image T.inputs (length code) (machine P x) (machine P (moved x (x.pc + 4 * length code) after later))
  walks_to code after later does at = does.walks x.pc at

  module _ (valid : IsRunning T R) (frame : FrameMatches T.image R.activation x.inj x.meant.memory x.bytes)
      (sp_is : x.regs sp ≡ R.activation.sp) where
    -- a slot is near enough
    pub slot_from_sp : (regs : Registers) (k offset : ℕ) → slice_get A.frame.slots k ≡ Some offset →
        regs sp ≡ x.regs sp →
        IsFromSp T.image world regs offset (A.sp + offset)
    slot_from_sp regs k offset e same = record {
      sum = ap (λ s. s + offset) (same ∙ sp_is);
      below = omega (
        arith,
        own_inside valid.cells R.places valid.nodes A.frame valid.is.frame_fits (suc k) offset e,
        valid.is.high,
        valid.is.known,
      );
      owned = (frame.guard (suc k) offset e).owned;
    }

    offset_is : (k offset : ℕ) → slice_get A.frame.slots k ≡ Some offset → slot_offset A.frame k ≡ offset
    offset_is k offset e = ap (λ o. unwrap_or o 0) e

    at_hand_by : (regs : Registers) (scratch t : ℕ) (v : Value) (place : Place) → IsScratch scratch →
        slice_get R.places t ≡ Some place → IsPlace A place → InPlace A x.inj regs x.bytes place v →
        regs sp ≡ x.regs sp → AtHand regs scratch t v
    at_hand_by regs scratch t v (Register r) s its small value same =
        let none : take A.frame R.places scratch t ≡ [] = ap (taken A.frame scratch) its in
        let its_register : operand A.frame R.places scratch t ≡ register_of r = ap (at_hand scratch) its in
        let other : HasNoOtherUse (register_of r) = no_other_use r in
        record {
          word = regs (register_of r);
          stands = value;
          after = regs;
          does = record {
            walks = λ pc code. subst (λ is. Walks T.image T.inputs (length is) (at pc regs x.bytes world)
                (at (pc + 4 * length is) regs x.bytes world)) (sym none) (nothing pc);
          };
          result = ap (look regs) its_register ∙ look_at regs (register_of r) (above (register_of r) other.zero);
          others = λ q h. refl;
          below = subst (λ q. q < 32) (sym its_register) (register_there r small);
          its = inr (subst HasNoOtherUse (sym its_register) other);
        }
      where
        nothing : (pc : ℕ) → Walks T.image T.inputs 0 (at pc regs x.bytes world) (at (pc + 4 * 0) regs x.bytes world)
        nothing pc =
            let e : pc ≡ pc + 4 * 0 = omega arith in
            subst (λ p. Walks T.image T.inputs 0 (at pc regs x.bytes world) (at p regs x.bytes world)) e
            (record { by = refl })

        above : (q : ℕ) → q ≢ 0 → 0 < q
        above zero h = absurd (h refl)
        above (suc q) h = omega arith
    at_hand_by regs scratch t v (Slot k) s its there value same =
        let offset : ℕ = there.0 in
        let e : slice_get A.frame.slots k ≡ Some offset = there.1 in
        let code : take A.frame R.places scratch t ≡ load_word scratch offset =
        ap (taken A.frame scratch) its ∙ ap (load_word scratch) (offset_is k offset e) in
        let its_register : operand A.frame R.places scratch t ≡ scratch = ap (at_hand scratch) its in
        let loads : Computes T.image T.inputs world (load_word scratch offset) (7 ∷ []) regs x.bytes scratch
        (word x.bytes (A.sp + offset)) =
        loads_word T.image T.inputs world x.bytes regs scratch offset (A.sp + offset) s.writable
        (slot_from_sp regs k offset e same) in
        let same_offset : value.0 ≡ offset = same_Some value.0 offset (sym value.1 ∙ e) in
        record {
          word = word x.bytes (A.sp + offset);
          stands = subst (λ o. StandsFor (x.inj A.here.comp) (word x.bytes (A.sp + o)) v) same_offset value.2;
          after = loads.after;
          does = subst (λ is. Does T.image T.inputs world is regs x.bytes loads.after x.bytes) (sym code) loads.does;
          result = ap (look loads.after) its_register ∙ look_at loads.after scratch s.writable.above ∙ loads.result;
          others = λ q h. loads.others q h;
          below = subst (λ q. q < 32) (sym its_register) s.writable.below;
          its = inl its_register;
        }

    -- a temporary that has its value has it at hand, also where scratch registers changed
    pub brings : (regs : Registers) (scratch t : ℕ) (v : Value) → IsScratch scratch →
        IsInPlace A R.places x.inj x.regs x.bytes t v → regs sp ≡ x.regs sp →
        ((q : ℕ) → HasNoOtherUse q → regs q ≡ x.regs q) → AtHand regs scratch t v
    brings regs scratch t v s held same others =
        at_hand_by regs scratch t v held.place s held.its (valid.placed t held.place held.its) (value held.place
        held.value) same
      where
        value : (place : Place) → InPlace A x.inj x.regs x.bytes place v → InPlace A x.inj regs x.bytes place v
        value (Register r) h =
            subst (λ w. StandsFor (x.inj A.here.comp) w v) (sym (others (register_of r) (no_other_use r))) h
        value (Slot k) h = h

    module _ (lives : Lives) (temps : Temps)
        (reads : List ℕ) (dest left : ℕ) (ready : Ready T R (live_plain reads (Some dest) lives) temps x)
        (clear : All (IsClear R.places) (plain_points reads false (Some dest) lives)) (v : Value) where
      abbrev End : List Instr → Type 0
      End code =
          Arrives T R lives.following x (length code + left) left (with_temp dest v temps) x.meant
          (x.pc + 4 * length code)

      -- into the register of a temporary
      pub keeps_register : (code : List Instr) (r : ℕ) → slice_get R.places dest ≡ Some (Register r) →
          Gives code (register_of r) v → CodeAt T.image A.here.comp x.pc code → End code
      keeps_register code r its g at =
          assigned valid reads lives temps x (length code) left dest
          (x.pc + 4 * length code) (Register r) v g.after x.bytes ready clear its
          (assigns_register T R x r v g.after g.same
          (subst (λ w. StandsFor (x.inj A.here.comp) w v) (sym g.result) g.stands) g.others)
          (walks_to code g.after x.bytes g.does at)

      -- into its slot, from a register that keeps its value or is none of temporaries
      pub keeps_slot : (code : List Instr) (k offset source : ℕ) → slice_get R.places dest ≡ Some (Slot k) →
          slice_get A.frame.slots k ≡ Some offset → 0 < source → source < 32 → source ≢ 7 →
          (g : Gives code source v) → ((q : ℕ) → HasNoOtherUse q → g.after q ≡ x.regs q) →
          CodeAt T.image A.here.comp x.pc (code ++ store_word source offset) → End (code ++ store_word source offset)
      keeps_slot code k offset source its e above below other g all at =
          let result : look g.after source ≡ g.word = look_at g.after source above ∙ g.result in
          let stores : Stores T.image T.inputs world (store_word source offset) (7 ∷ []) g.after x.bytes
          (A.sp + offset) g.word =
          stores_word T.image T.inputs world x.bytes g.after source offset (A.sp + offset) g.word below other result
          (slot_from_sp g.after k offset e g.same) in
          let whole : List Instr = code ++ store_word source offset in
          let same : stores.after sp ≡ x.regs sp = stores.others sp ((λ e. omega (arith, e)), tt) ∙ g.same in
          assigned valid reads lives temps x (length whole) left dest
          (x.pc + 4 * length whole) (Slot k) v stores.after (put_word x.bytes (A.sp + offset) g.word) ready clear its
          (assigns_slot valid (live_plain reads (Some dest) lives) temps x k offset g.word v
          stores.after ready e same g.stands (λ q h. stores.others q (h.address, tt) ∙ all q h))
          (walks_to whole stores.after (put_word x.bytes (A.sp + offset) g.word)
          (in_row T.image T.inputs world g.does stores.does) at)

      keeps_by : (code : List Instr) (place : Place) → slice_get R.places dest ≡ Some place → IsPlace A place →
          Gives code (at_hand first_scratch (Some place)) v →
          CodeAt T.image A.here.comp x.pc (code ++ kept A.frame (Some place)) → End (code ++ kept A.frame (Some place))
      keeps_by code (Register r) its small g at =
          subst End (sym (append-nil code))
          (keeps_register code r its g (subst (CodeAt T.image A.here.comp x.pc) (append-nil code) at))
      keeps_by code (Slot k) its there g at =
          let whole : code ++ kept A.frame (Some (Slot k)) ≡ code ++ store_word first_scratch there.0 =
          ap (λ o. code ++ store_word first_scratch o) (offset_is k there.0 there.1) in
          subst End (sym whole)
          (keeps_slot code k there.0 first_scratch its there.1 (omega arith) (omega arith) (λ e. omega (arith, e)) g
          (λ q h. g.others q h h.first) (subst (CodeAt T.image A.here.comp x.pc) whole at))

      -- a value that was computed is kept in the place of its temporary
      pub keeps : (code : List Instr) (place : Place) → slice_get R.places dest ≡ Some place →
          Gives code (result_register A.frame R.places dest) v →
          CodeAt T.image A.here.comp x.pc (code ++ keep A.frame R.places dest) →
          End (code ++ keep A.frame R.places dest)
      keeps code place its g at =
          subst (λ o. End (code ++ kept A.frame o)) (sym its) (keeps_by code place its (valid.placed dest place its)
          (subst (λ o. Gives code (at_hand first_scratch o) v) its g)
          (subst (λ o. CodeAt T.image A.here.comp x.pc (code ++ kept A.frame o)) its at))
