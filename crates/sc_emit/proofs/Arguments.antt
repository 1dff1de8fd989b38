-- Values brought into registers that temporaries don't have: the arguments of a call, and what a function returns.
use Rattle.sc_emit.proofs.Common.{AreInPlace, Comes, Computes, Does, Ends, FrameMatches, FrameTree, Goes, HasNoOtherUse}
use Rattle.sc_emit.proofs.Common.{Here, InPlace, Instr, IsInPlace, IsPlace, IsRunning, IsWritable, Joint, Left, List}
use Rattle.sc_emit.proofs.Common.{Lives, Piece, Place, Reached, Register, Registers, Running, Setting, Slot, Some}
use Rattle.sc_emit.proofs.Common.{StandsFor, State as Meant, TempSet, Temps, Value, Walks, [], and_then, ap, arith, at}
use Rattle.sc_emit.proofs.Common.{brought, comes_read, computes, eq-eqb, in_row, is_one, length, load_word, loads_word}
use Rattle.sc_emit.proofs.Common.{look_at, moves, no_other_use, or_right, pass, place_of, read, read_all, refl}
use Rattle.sc_emit.proofs.Common.{register_of, register_there, same_Some, slice_get, slot_offset, sp, stays, subst, suc}
use Rattle.sc_emit.proofs.Common.{sym, then_goes, then_then, true, unwrap_or, word, zero, ℕ, ◌*◌, ◌+◌, ◌<◌, ◌==◌, ◌∙◌}
use Rattle.sc_emit.proofs.Common.{◌∷◌, ◌≡◌, ◌≢◌, ◌≤◌}
use Rattle.sc_emit.proofs.Operands.{slot_from_sp, world}
use Rattle.sc_emit.proofs.Straight.{read_goes}

-- Arguments are read.

-- these temporaries were given these values
abbrev pub AreRead : Temps → List ℕ → List Value → Type 0
AreRead temps [] [] = Unit {0}
AreRead temps [] (v ∷ vs) = ⊥
AreRead temps (t ∷ ts) [] = ⊥
AreRead temps (t ∷ ts) (v ∷ vs) = (temps t ≡ Some v) × AreRead temps ts vs

pub read_length : (temps : Temps) (ts : List ℕ) (vs : List Value) → AreRead temps ts vs → length vs ≡ length ts
read_length temps [] [] read = refl
read_length temps [] (v ∷ vs) read = absurd read
read_length temps (t ∷ ts) [] read = absurd read
read_length temps (t ∷ ts) (v ∷ vs) read = ap suc (read_length temps ts vs read.1)

-- those after a first value
abbrev rest_read : (here : Here) (ts : List ℕ) (temps : Temps) → Value → Meant → Piece (List Value)
rest_read here ts temps v s = and_then (read_all here ts temps s) (λ vs s. Reached (v ∷ vs) s)

pub read_all_goes : (here : Here) (ts : List ℕ) (temps : Temps) → Goes (read_all here ts temps)
read_all_goes here [] temps s = stays [] s
read_all_goes here (t ∷ ts) temps s =
    read_goes here t temps (λ v s. and_then (read_all here ts temps s) (λ vs s. Reached (v ∷ vs) s))
    (λ v s. then_goes s (read_all here ts temps s) (λ vs s. Reached (v ∷ vs) s) (read_all_goes here ts temps s)
    (λ vs. stays (v ∷ vs))) s

module _ (T : Setting) (R : Running) where
  -- where one wasn't given a value the meaning ends
  pub comes_read_all : (lives : Lives) (x : Joint) (budget : ℕ) (ends : Ends) (here : Here) (ts : List ℕ)
      (temps : Temps) (go : List Value → Meant → Piece (Left Temps)) →
      ((vs : List Value) → AreRead temps ts vs → Comes T R lives x budget ends (go vs x.meant)) →
      Comes T R lives x budget ends (and_then (read_all here ts temps x.meant) go)
  comes_read_all lives x budget ends here [] temps go h = h [] tt
  comes_read_all lives x budget ends here (t ∷ ts) temps go h =
      subst (Comes T R lives x budget ends)
      (sym (then_then (read here t temps x.meant) (rest_read here ts temps) go))
      (comes_read T R lives x budget ends here t temps (λ v s. and_then (rest_read here ts temps v s) go)
      (λ v is. subst (Comes T R lives x budget ends)
      (sym (then_then (read_all here ts temps x.meant) (λ vs s. Reached (v ∷ vs) s) go))
      (comes_read_all lives x budget ends here ts temps (λ vs s. go (v ∷ vs) s) (λ vs all. h (v ∷ vs) (is, all)))))

-- Values are brought into registers.

positive : (q : ℕ) → q ≢ 0 → 0 < q
positive q h = omega (arith, h)

only_one : (t : ℕ) (rest : List ℕ) → is_one t (t ∷ rest) ≡ true
only_one t rest = rw (eq-eqb t t refl) refl

module _ {T : Setting} {R : Running} (valid : IsRunning T R) (x : Joint)
    (frame : FrameMatches T.image R.activation x.inj x.meant.memory x.bytes) (sp_is : x.regs sp ≡ R.activation.sp) where
  abbrev its_frame : FrameTree
  its_frame = R.activation.frame

  -- code brings the word of a value into a register
  pub record Brings (regs : Registers) (code : List Instr) (rd : ℕ) (v : Value) : Type 0 where
    pub word : ℕ
    pub stands : StandsFor (x.inj R.activation.here.comp) word v
    pub piece : Computes T.image T.inputs (world T R x) code (7 ∷ []) regs x.bytes rd word

  brings_by : (regs : Registers) (rd : ℕ) (place : Place) (v : Value) → IsWritable rd → IsPlace R.activation place →
      InPlace R.activation x.inj regs x.bytes place v → regs sp ≡ x.regs sp →
      Brings regs (brought its_frame rd (Some place)) rd v
  brings_by regs rd (Register q) v w small value same = record {
    word = regs (register_of q);
    stands = value;
    piece =
        computes T.image T.inputs (world T R x) (7 ∷ []) (regs (register_of q))
        (moves T.image T.inputs (world T R x) x.bytes regs rd (register_of q) (regs (register_of q)) w
        (register_there q small) (look_at regs (register_of q) (positive (register_of q) (no_other_use q).zero))
        value.word) refl (λ q h. (h.0, tt));
  }
  brings_by regs rd (Slot k) v w there value same =
      let offset : ℕ = there.0 in
      let code : load_word rd (slot_offset its_frame k) ≡ load_word rd offset =
      ap (λ o. load_word rd (unwrap_or o 0)) there.1 in
      let same_offset : value.0 ≡ offset = same_Some value.0 offset (sym value.1 ∙ there.1) in
      subst (λ code. Brings regs code rd v) (sym code) (record {
        word = word x.bytes (R.activation.sp + offset);
        stands = subst (λ o. StandsFor (x.inj R.activation.here.comp) (word x.bytes (R.activation.sp + o)) v)
            same_offset value.2;
        piece =
            loads_word T.image T.inputs (world T R x) x.bytes regs rd offset (R.activation.sp + offset) w
            (slot_from_sp T R x valid frame sp_is regs k offset there.1 same);
      })

  -- a temporary that has its value, also where registers with another use changed
  pub brings : (regs : Registers) (rd t : ℕ) (v : Value) → IsWritable rd →
      IsInPlace R.activation R.places x.inj x.regs x.bytes t v → regs sp ≡ x.regs sp →
      ((q : ℕ) → HasNoOtherUse q → regs q ≡ x.regs q) →
      Brings regs (brought its_frame rd (place_of its_frame R.places t)) rd v
  brings regs rd t v w held same others =
      subst (λ o. Brings regs (brought its_frame rd o) rd v) (sym held.its)
      (brings_by regs rd held.place v w (valid.placed t held.place held.its) (value held.place held.value) same)
    where
      value : (place : Place) → InPlace R.activation x.inj x.regs x.bytes place v →
          InPlace R.activation x.inj regs x.bytes place v
      value (Register r) h =
          subst (λ w. StandsFor (x.inj R.activation.here.comp) w v) (sym (others (register_of r) (no_other_use r))) h
      value (Slot k) h = h

  -- Arguments are passed: no register of a temporary is overwritten.

  pub record Passes (regs : Registers) (rd : ℕ) (ts : List ℕ) (vs : List Value) : Type 0 where
    pub after : Registers
    pub does : Does T.image T.inputs (world T R x) (pass its_frame R.places rd ts) regs x.bytes after x.bytes
    pub passed : (i : ℕ) (v : Value) → slice_get vs i ≡ Some v →
        StandsFor (x.inj R.activation.here.comp) (after (rd + i)) v
    pub below : (q : ℕ) → q < rd → q ≢ 7 → after q ≡ regs q
    pub others : (q : ℕ) → HasNoOtherUse q → after q ≡ regs q

  no_steps : (regs : Registers) (pc : ℕ) →
      Walks T.image T.inputs 0 (at pc regs x.bytes (world T R x)) (at (pc + 4 * 0) regs x.bytes (world T R x))
  no_steps regs pc =
      let e : pc ≡ pc + 4 * 0 = omega arith in
      subst (λ p. Walks T.image T.inputs 0 (at pc regs x.bytes (world T R x)) (at p regs x.bytes (world T R x))) e
      (record { by = refl })

  -- after a value was brought to the register of an argument
  module _ (regs : Registers) (code : List Instr) (rd : ℕ) (v : Value) (low : 10 ≤ rd) (high : rd < 18)
      (b : Brings regs code rd v) where
    kept : (q : ℕ) → HasNoOtherUse q → b.piece.after q ≡ regs q
    kept q h = b.piece.others q ((λ e. omega (arith, h.argument, e, low, high)), (h.address, tt))

    kept_all : ((q : ℕ) → HasNoOtherUse q → regs q ≡ x.regs q) → (q : ℕ) → HasNoOtherUse q →
        b.piece.after q ≡ x.regs q
    kept_all others q h = kept q h ∙ others q h

    kept_sp : regs sp ≡ x.regs sp → b.piece.after sp ≡ x.regs sp
    kept_sp same = b.piece.others sp ((λ e. omega (arith, e, low)), ((λ e. omega (arith, e)), tt)) ∙ same

    -- those after it are passed, too
    module _ (ts : List ℕ) (vs : List Value) (rest : Passes b.piece.after (suc rd) ts vs) where
      passed_first : rest.after rd ≡ b.word
      passed_first = rest.below rd (omega arith) (λ e. omega (arith, e, low)) ∙ b.piece.result

      all_passed : (i : ℕ) (u : Value) → slice_get (v ∷ vs) i ≡ Some u →
          StandsFor (x.inj R.activation.here.comp) (rest.after (rd + i)) u
      all_passed zero u e =
          let here : rd ≡ rd + 0 = omega arith in
          subst (λ q. StandsFor (x.inj R.activation.here.comp) (rest.after q) u) here
          (subst (λ w. StandsFor (x.inj R.activation.here.comp) w u) (sym passed_first)
          (subst (StandsFor (x.inj R.activation.here.comp) b.word) (same_Some v u e) b.stands))
      all_passed (suc i) u e =
          let there : suc rd + i ≡ rd + suc i = omega arith in
          subst (λ q. StandsFor (x.inj R.activation.here.comp) (rest.after q) u) there (rest.passed i u e)

      kept_below : (q : ℕ) → q < rd → q ≢ 7 → rest.after q ≡ regs q
      kept_below q l n =
          rest.below q (omega (arith, l)) n ∙ b.piece.others q ((λ e. omega (arith, e, l)), (n, tt))

  joined : (regs : Registers) (rd t : ℕ) (ts : List ℕ) (v : Value) (vs : List Value) → 10 ≤ rd → rd < 18 →
      (b : Brings regs (brought its_frame rd (place_of its_frame R.places t)) rd v) →
      Passes b.piece.after (suc rd) ts vs → Passes regs rd (t ∷ ts) (v ∷ vs)
  joined regs rd t ts v vs low high b rest =
      let code : List Instr = brought its_frame rd (place_of its_frame R.places t) in
      record {
        after = rest.after;
        does = in_row T.image T.inputs (world T R x) b.piece.does rest.does;
        passed = all_passed regs code rd v low high b ts vs rest;
        below = kept_below regs code rd v low high b ts vs rest;
        others = λ q h. rest.others q h ∙ kept regs code rd v low high b q h;
      }

  module _ (live : TempSet) (temps : Temps) (held : AreInPlace R.activation R.places x.inj x.regs x.bytes live temps)
    where
      pub passes : (regs : Registers) (rd : ℕ) (ts : List ℕ) (vs : List Value) → 10 ≤ rd → rd + length ts ≤ 18 →
          ((t : ℕ) → is_one t ts ≡ true → live t ≡ true) → AreRead temps ts vs → regs sp ≡ x.regs sp →
          ((q : ℕ) → HasNoOtherUse q → regs q ≡ x.regs q) → Passes regs rd ts vs
      passes regs rd [] [] low high on all same others = record {
        after = regs;
        does = record { walks = λ pc code. no_steps regs pc };
        passed = λ i v e. cc e;
        below = λ q l n. refl;
        others = λ q h. refl;
      }
      passes regs rd [] (v ∷ vs) low high on all same others = absurd all
      passes regs rd (t ∷ ts) [] low high on all same others = absurd all
      passes regs rd (t ∷ ts) (v ∷ vs) low high on all same others =
          let code : List Instr = brought its_frame rd (place_of its_frame R.places t) in
          let frame_fits : rd < 18 = omega (arith, high) in
          let b : Brings regs code rd v =
          brings regs rd t v (record { above = omega (arith, low); below = omega (arith, frame_fits) })
          (held t v (on t (only_one t ts)) all.0) same others in
          joined regs rd t ts v vs low frame_fits b
          (passes b.piece.after (suc rd) ts vs (omega (arith, low)) (omega (arith, high))
          (λ u e. on u (or_right (t == u) _ e)) all.1 (kept_sp regs code rd v low frame_fits b same)
          (kept_all regs code rd v low frame_fits b others))
