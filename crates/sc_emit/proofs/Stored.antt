-- A variable that is assigned: one store, where only such stores read the temporary that gets its place.
use Rattle.sc_emit.proofs.Common.{Arrives, Blocks, Bool, Calls, CodeAt, Codes, Follows, FrameTree, Goes, Instr}
use Rattle.sc_emit.proofs.Common.{IsFromSp, IsRunning, Joint, List, Lives, None, Ok, Ready, Running, Setting, Some}
use Rattle.sc_emit.proofs.Common.{StandsFor, State as Meant, Stores, TempSet, Temps, Trail, Value, [], and_first}
use Rattle.sc_emit.proofs.Common.{and_from, and_rest, and_then, ap, arith, code_step, comes_read, eq-eqb, false}
use Rattle.sc_emit.proofs.Common.{if◌then◌else◌, in_row, is_one, length, live_at, live_plain, may_store, ne_eqb, not}
use Rattle.sc_emit.proofs.Common.{object_offset, object_store, operand, or_left, read, refl, row, same_Some}
use Rattle.sc_emit.proofs.Common.{second_scratch, slice_get, sp, start_of, store, store_word, stored, stores}
use Rattle.sc_emit.proofs.Common.{stores_word, straightly, subst, sym, take, trail_step, true, true≢false, unwrap_or}
use Rattle.sc_emit.proofs.Common.{wanted, with_memory, with_temp, wrapping, ℕ, ⊎_elim, ◌&&◌, ◌*◌, ◌++◌, ◌+◌, ◌==◌, ◌||◌}
use Rattle.sc_emit.proofs.Common.{◌∙◌, ◌∷◌, ◌≡◌, ◌≢◌, ◌≤◌}
use Rattle.sc_tac.specs.declared.stmt.TacStmt.TheOpen as tac
use Rattle.sc_emit.proofs.Operands.{AtHand, brings, second_is, world}
use Rattle.sc_emit.proofs.Operations.{comes_stored, stored_goes}
use Rattle.sc_emit.proofs.Pairs.{unmissed}
use Rattle.sc_emit.proofs.Plain.{start_stands}
use Rattle.sc_emit.proofs.Straight.{comes_past, read_goes, straight_follows}

module _ {T : Setting} {R : Running} (valid : IsRunning T R) (calls : Calls)
    (temp object value : ℕ) (lone : R.plan.needed temp ≡ false) (need : R.plan.needed value ≡ true) where
  abbrev frame : FrameTree
  frame = R.activation.frame

  abbrev comp : ℕ
  comp = R.activation.here.comp

  abbrev start : Value
  start = start_of (R.activation.here.first + object)

  -- the temporaries where the place is known
  abbrev set : Temps → Temps
  set temps = with_temp temp start temps

  -- what the store does after the place
  abbrev pub assigns : Codes
  assigns temps = code_step wrapping R.activation.here calls (tac.Store temp value) (set temps)

  abbrev pub both_parts : Trail
  both_parts = row (trail_step (tac.ObjectPlace temp object) ∷ trail_step (tac.Store temp value) ∷ [])

  -- what is read in its place is another temporary
  other : (t : ℕ) → R.plan.needed t ≡ true → t ≢ temp
  other t h e = true≢false (sym h ∙ ap R.plan.needed e ∙ lone)

  temps_are : (temps : Temps) (t : ℕ) → R.plan.needed t ≡ true → set temps t ≡ temps t
  temps_are temps t h = ap (λ b. if b then Some start else temps t) (ne_eqb t temp (other t h))

  live_before : (lives : Lives) (t : ℕ) → wanted R.plan.needed (live_plain (value ∷ []) None lives) t ≡ true →
      wanted R.plan.needed (live_at both_parts lives) t ≡ true
  live_before lives t h =
      let on = and_first (live_plain (value ∷ []) None lives t) (R.plan.needed t) h in
      let wants = and_rest (live_plain (value ∷ []) None lives t) (R.plan.needed t) h in
      and_from (live_at both_parts lives t) (R.plan.needed t)
      (by (temp == t) (value == t) (lives.following t) (ne_eqb temp t (λ e. other t wants (sym e))) on) wants
    where
      by : (a l b : Bool) → a ≡ false → ((l || false) || (true && b)) ≡ true →
          (false || (not (a || false) && ((a || (l || false)) || (true && b)))) ≡ true
      by true l b none h = cc none
      by false l b none h = h

  fewer_ready : (lives : Lives) (temps : Temps) (x : Joint) → Ready T R (live_at both_parts lives) temps x →
      Ready T R (live_plain (value ∷ []) None lives) temps x
  fewer_ready lives temps x ready = record {
    settled = ready.settled;
    frame = ready.frame;
    held = λ t v on known. ready.held t v (live_before lives t on) known;
    sp = ready.sp;
  }

  -- nobody misses the place in its temporary
  without_place : (live : TempSet) (x : Joint) (budget left : ℕ) (temps : Temps) (s : Meant) (pc : ℕ) →
      Arrives T R live x budget left temps s pc → Arrives T R live x budget left (set temps) s pc
  without_place live x budget left temps s pc =
      unmissed T R live x budget left temps (set temps) s pc (temps_are temps)

  assigns_goes : (temps : Temps) → Goes (assigns temps)
  assigns_goes temps =
      read_goes R.activation.here temp (set temps)
      (λ q s. and_then (read R.activation.here value (set temps) s)
      (λ v s. stored R.activation.here q v 0 (set temps) s))
      (λ q. read_goes R.activation.here value (set temps) (λ v s. stored R.activation.here q v 0 (set temps) s)
      (λ v. stored_goes valid calls q v (set temps)))

  place_is : (temps : Temps) (q : Value) → set temps temp ≡ Some q → start ≡ q
  place_is temps q h =
      let now : set temps temp ≡ Some start = rw (eq-eqb temp temp refl) refl in same_Some start q (sym now ∙ h)

  module _ (offset : ℕ) (there : slice_get frame.objects object ≡ Some offset) (inside : offset ≤ frame.bytes) where
    abbrev rs : ℕ
    rs = operand frame R.places second_scratch value

    abbrev code : List Instr
    code = object_store frame R.places value object

    abbrev address : ℕ
    address = R.activation.sp + offset

    is_offset : object_offset frame object ≡ offset
    is_offset = ap (λ o. unwrap_or o 0) there

    arrives : (lives : Lives) (temps : Temps) (x : Joint) (left : ℕ) (v : Value) (after : Blocks) →
        Ready T R (live_at both_parts lives) temps x → temps value ≡ Some v →
        store (x.meant.memory comp) start v ≡ Ok after → CodeAt T.image comp x.pc code →
        Arrives T R lives.following x (length code + left) left (set temps) (with_memory comp after x.meant)
        (x.pc + 4 * length code)
    arrives lives temps x left v after all_ready known found at =
        let ready : Ready T R (live_plain (value ∷ []) None lives) temps x = fewer_ready lives temps x all_ready in
        let live : TempSet = live_plain (value ∷ []) None lives in
        let only : is_one value (value ∷ []) ≡ true = rw (eq-eqb value value refl) refl in
        let on : live value ≡ true = or_left (is_one value (value ∷ [])) _ only in
        let h : AtHand T R x x.regs second_scratch value v =
        brings T R x valid ready.frame ready.sp x.regs second_scratch value v second_is
        (ready.held value v (and_from (live value) (R.plan.needed value) on need) known) refl (λ q k. refl) in
        let same : h.after sp ≡ x.regs sp = h.others sp ((λ e. omega (arith, e)), ((λ e. omega (arith, e)), tt)) in
        let stands : StandsFor (x.inj comp) address start =
        start_stands valid calls (R.activation.here.first + object) address x (ready.frame.objects object offset there)
        (record { above = omega (arith, valid.is.low); below = omega (arith, valid.is.high, valid.is.known, inside) })
        in
        let from_sp : IsFromSp T.image (world T R x) h.after offset address = record {
          sum = ap (λ s. s + offset) (same ∙ ready.sp);
          below = omega (arith, valid.is.high, valid.is.known, inside);
          owned = may_store valid live temps x address start v after ready stands found;
        } in
        let not_address : rs ≢ 7 = ⊎_elim (λ e. (λ f. omega (arith, e, f))) (λ k. k.address) h.its in
        let piece : Stores T.image T.inputs (world T R x) (store_word rs offset) (7 ∷ []) h.after x.bytes address h.word
        =
        stores_word T.image T.inputs (world T R x) x.bytes h.after rs offset address h.word h.below not_address h.result
        from_sp in
        let its : take frame R.places second_scratch value ++ store_word rs offset ≡ code =
        ap (λ o. take frame R.places second_scratch value ++ store_word rs o) (sym is_offset) in
        let does = in_row T.image T.inputs (world T R x) h.does piece.does in
        without_place lives.following x (length code + left) left temps (with_memory comp after x.meant)
        (x.pc + 4 * length code)
        (subst (λ code. Arrives T R lives.following x (length code + left) left temps (with_memory comp after x.meant)
        (x.pc + 4 * length code)) its (stores valid (value ∷ []) lives temps x
        (length (take frame R.places second_scratch value ++ store_word rs offset)) left
        (x.pc + 4 * length (take frame R.places second_scratch value ++ store_word rs offset)) address h.word start v
        after piece.after ready stands found h.stands (piece.others sp ((λ e. omega (arith, e)), tt) ∙ same)
        (λ r k. piece.others r (k.address, tt) ∙ h.others r (k.second, (k.address, tt)))
        (does.walks x.pc (subst (CodeAt T.image comp x.pc) (sym its) at))))

    pub assigns_follow : Follows T R assigns (straightly frame R.places (object_store frame R.places value object))
        both_parts
    assigns_follow =
        straight_follows T R assigns code both_parts assigns_goes
        (λ lives temps x left ready clear at ends e f.
        comes_read T R lives x (length code + left) ends R.activation.here temp (set temps)
        (λ q s. and_then (read R.activation.here value (set temps) s)
        (λ v s. stored R.activation.here q v 0 (set temps) s))
        (λ q known.
        comes_read T R lives x (length code + left) ends R.activation.here value (set temps)
        (λ v s. stored R.activation.here q v 0 (set temps) s)
        (λ v known'. comes_stored valid calls lives x (length code + left) ends q v (set temps) (λ after found.
        comes_past T R lives x code left (set temps) (with_memory comp after x.meant)
        (arrives lives temps x left v after ready (sym (temps_are temps value need) ∙ known')
        (ap (λ q. store (x.meant.memory comp) q v) (place_is temps q known) ∙ found) at) ends e f))))
