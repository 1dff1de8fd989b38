-- A variable that is read: one load, where its place is wanted only for that load.
use Rattle.sc_emit.proofs.Common.{All, All-cons, All-nil, Bool, Calls, Codes, Follows, FrameTree, Goes, Instr, IsClear}
use Rattle.sc_emit.proofs.Common.{IsFromSp, IsLoaded, IsRunning, Joint, List, Lives, Next, Ok, Place, Point, Ready}
use Rattle.sc_emit.proofs.Common.{Running, Setting, Some, StandsFor, Temps, Trail, Value, [], all_at, ap, arith}
use Rattle.sc_emit.proofs.Common.{code_step, comes_computed, comes_read, eq-eqb, false, gets, is_one, leave, length}
use Rattle.sc_emit.proofs.Common.{live_across, live_at, live_plain, load, load_word, loads, loads_word, not}
use Rattle.sc_emit.proofs.Common.{object_offset, object_read, plain_points, point, refl, result_register, row}
use Rattle.sc_emit.proofs.Common.{same_Some, slice_get, start_of, stays, straightly, subst, sym, trail_step, true}
use Rattle.sc_emit.proofs.Common.{unwrap_or, wanted_less, with_temp, word, wrapping, ℕ, ◌&&◌, ◌*◌, ◌+◌, ◌||◌, ◌∙◌, ◌∷◌}
use Rattle.sc_emit.proofs.Common.{◌≡◌, ◌≤◌}
use Rattle.sc_tac.specs.declared.stmt.TacStmt.TheOpen as tac
use Rattle.sc_emit.proofs.Operands.{Gives, keeps, world}
use Rattle.sc_emit.proofs.Pairs.{again, fewer_clear}
use Rattle.sc_emit.proofs.Plain.{IsResult, gives_by, result_is, start_stands}
use Rattle.sc_emit.proofs.Straight.{comes_past, computed_goes, read_goes, straight_follows}

module _ {T : Setting} {R : Running} (valid : IsRunning T R) (calls : Calls)
    (dest object : ℕ) (pointer : Bool) where
  abbrev frame : FrameTree
  frame = R.activation.frame

  abbrev start : Value
  start = start_of (R.activation.here.first + object)

  -- what the second of the two statements does after the first
  abbrev pub reads : Codes
  reads temps = code_step wrapping R.activation.here calls (tac.Load dest dest pointer) (with_temp dest start temps)

  abbrev pub both_trails : Trail
  both_trails = row (trail_step (tac.ObjectPlace dest object) ∷ trail_step (tac.Load dest dest pointer) ∷ [])

  -- what is live after both, but for the temporary that they assign, is live before them
  live_before_both : (lives : Lives) (t : ℕ) → live_plain [] (Some dest) lives t ≡ true →
      live_at both_trails lives t ≡ true
  live_before_both lives t h = by (is_one t (dest ∷ [])) (lives.following t) h
    where
      by : (a b : Bool) → (false || (not a && b)) ≡ true → (false || (not a && (a || (not a && b)))) ≡ true
      by true b h = cc h
      by false b h = h

  live_between : (lives : Lives) (t : ℕ) → (false || live_across [] false (Some dest) lives t) ≡ true →
      (is_one t (dest ∷ []) || live_across (dest ∷ []) false (Some dest) lives t) ≡ true
  live_between lives t h = by (is_one t (dest ∷ [])) (lives.following t) h
    where
      by : (a b : Bool) → (false || (not a && b)) ≡ true → (a || (not a && b)) ≡ true
      by true b h = refl
      by false b h = h

  clear_after : (lives : Lives) → All (IsClear R.places) (both_trails.points lives) →
      All (IsClear R.places) (plain_points [] false (Some dest) lives)
  clear_after lives clear =
      let first : Point = point false (λ t. is_one t [] || live_across [] false (Some dest) lives t) in
      let last : Point = record { assigned = Some dest; calls = false; live = lives.following } in
      All-cons (IsClear R.places) first (last ∷ [])
      (fewer_clear R.places (λ t. is_one t (dest ∷ []) || live_across (dest ∷ []) false (Some dest) lives t)
      (λ t. is_one t [] || live_across [] false (Some dest) lives t) (live_between lives)
      (all_at (IsClear R.places) (both_trails.points lives) 2 _ clear refl))
      (All-cons (IsClear R.places) last [] (all_at (IsClear R.places) (both_trails.points lives) 3 _ clear refl)
      (All-nil (IsClear R.places)))

  fewer_ready : (lives : Lives) (temps : Temps) (x : Joint) → Ready T R (live_at both_trails lives) temps x →
      Ready T R (live_plain [] (Some dest) lives) temps x
  fewer_ready lives temps x ready = record {
    settled = ready.settled;
    frame = ready.frame;
    held = λ t v on known.
        ready.held t v (wanted_less R.plan.needed (live_plain [] (Some dest) lives) (live_at both_trails lives)
        (live_before_both lives) t on) known;
    sp = ready.sp;
  }

  reads_goes : (temps : Temps) → Goes (reads temps)
  reads_goes temps =
      read_goes R.activation.here dest (with_temp dest start temps)
      (λ q s. gets R.activation.here dest (load (s.memory R.activation.here.comp) pointer q) (with_temp dest start
      temps) s)
      (λ q s. computed_goes R.activation.here (load (s.memory R.activation.here.comp) pointer q)
      (λ v s. leave Next (with_temp dest v (with_temp dest start temps)) s)
      (λ v. stays (record { exit = Next; carried = with_temp dest v (with_temp dest start temps) })) s)

  -- the code gives what stands in the variable
  module _ (offset : ℕ) (place : Place) (its : slice_get R.places dest ≡ Some place)
      (there : slice_get frame.objects object ≡ Some offset) (inside : offset ≤ frame.bytes) where
    abbrev rd : ℕ
    rd = result_register frame R.places dest

    abbrev address : ℕ
    address = R.activation.sp + offset

    gives : (lives : Lives) (temps : Temps) (x : Joint) (v : Value) → Ready T R (live_at both_trails lives) temps x →
        load (x.meant.memory R.activation.here.comp) pointer start ≡ Ok v →
        Gives T R x (load_word rd (object_offset frame object)) rd v
    gives lives temps x v ready found =
        let stands : StandsFor (x.inj R.activation.here.comp) address start =
        start_stands valid calls (R.activation.here.first + object) address x (ready.frame.objects object offset there)
        (record { above = omega (arith, valid.is.low); below = omega (arith, valid.is.high, valid.is.known, inside) })
        in
        let got : IsLoaded valid x address v =
        loads valid (live_at both_trails lives) temps x address pointer start v ready stands found in
        let w : IsResult rd = result_is R valid.placed dest place its in
        let from_sp : IsFromSp T.image (world T R x) x.regs offset address = record {
          sum = ap (λ s. s + offset) ready.sp;
          below = omega (arith, valid.is.high, valid.is.known, inside);
          owned = got.owned;
        } in
        let is_offset : object_offset frame object ≡ offset = ap (λ o. unwrap_or o 0) there in
        subst (λ o. Gives T R x (load_word rd o) rd v) (sym is_offset)
        (gives_by valid calls x (load_word rd offset) rd (word x.bytes address) v w.not_sp got.stands
        (loads_word T.image T.inputs (world T R x) x.bytes x.regs rd offset address w.writable from_sp))

    pub read_follows :
        Follows T R reads (straightly frame R.places (object_read frame R.places dest object)) both_trails
    read_follows =
        let code : List Instr = object_read frame R.places dest object in
        straight_follows T R reads code both_trails reads_goes
        (λ lives temps x left ready clear at ends e f.
        comes_read T R lives x (length code + left) ends R.activation.here dest (with_temp dest start temps)
        (λ q s. gets R.activation.here dest (load (s.memory R.activation.here.comp) pointer q) (with_temp dest start
        temps) s)
        (λ q known.
        comes_computed T R lives x (length code + left) ends R.activation.here 0
        (load (x.meant.memory R.activation.here.comp) pointer q)
        (λ v s. leave Next (with_temp dest v (with_temp dest start temps)) s)
        (λ v found.
        (let now : with_temp dest start temps dest ≡ Some start = rw (eq-eqb dest dest refl) refl in
        let start_is : start ≡ q = same_Some start q (sym now ∙ known) in
        let g : Gives T R x (load_word rd (object_offset frame object)) rd v =
        gives lives temps x v ready
        (subst (λ q. load (x.meant.memory R.activation.here.comp) pointer q ≡ Ok v) (sym start_is) found) in
        comes_past T R lives x code left (with_temp dest v (with_temp dest start temps)) x.meant
        (again T R dest start lives.following x (length code + left) left temps v x.meant (x.pc + 4 * length code)
        (keeps T R x valid ready.frame ready.sp lives temps [] dest left
        (fewer_ready lives temps x ready) (clear_after lives clear) v (load_word rd (object_offset frame object)) place
        its g at)) ends e f))))
