-- An operator whose second operand is a constant: one instruction, where only such operators read the temporary of the
-- constant.
use Rattle.sc_emit.proofs.Common.{All, All-cons, All-nil, Arrives, Bool, Calls, Cause, CodeAt, Codes, Computes}
use Rattle.sc_emit.proofs.Common.{Constant, Err, Follows, FrameTree, Goes, Gone, Instr, IsClear, IsRunning, IsSound}
use Rattle.sc_emit.proofs.Common.{Joint, List, Lives, Next, Ok, Place, Point, Ready, Result, Running, Setting}
use Rattle.sc_emit.proofs.Common.{ShortForm, Some, State as Meant, TacOp, TempSet, Temps, Trail, Value, [], all_at}
use Rattle.sc_emit.proofs.Common.{and_first, and_from, and_rest, and_then, ap, arith, code_step, comes_computed}
use Rattle.sc_emit.proofs.Common.{comes_read, constant_value, eq-eqb, false, first_scratch, gets, if◌then◌else◌, in_row}
use Rattle.sc_emit.proofs.Common.{is_one, keep, leave, length, live_across, live_at, live_plain, ne_eqb, not, op_word}
use Rattle.sc_emit.proofs.Common.{operand, operated, operator_stands, or_left, plain_points, point, read, refl}
use Rattle.sc_emit.proofs.Common.{result_register, row, same, same_Some, short_code, short_form, short_operation}
use Rattle.sc_emit.proofs.Common.{slice_get, sp, stays, straightly, subst, sym, take, trail_step, true, true≢false}
use Rattle.sc_emit.proofs.Common.{wanted, with_temp, word_of_constant, wrapping, ℕ, ◌&&◌, ◌*◌, ◌++◌, ◌+◌, ◌==◌, ◌||◌}
use Rattle.sc_emit.proofs.Common.{◌∙◌, ◌∷◌, ◌≡◌, ◌≢◌}
use Rattle.sc_tac.specs.declared.stmt.TacStmt.TheOpen as tac
use Rattle.sc_emit_hart.proofs.ShortForms.{gives_short}
use Rattle.sc_emit.proofs.Operands.{AtHand, Gives, brings, first_is, keeps, world}
use Rattle.sc_emit.proofs.Pairs.{fewer_clear, unmissed}
use Rattle.sc_emit.proofs.Plain.{IsResult, IsWordConstant, constant_stands, result_is}
use Rattle.sc_emit.proofs.Straight.{comes_past, read_goes, straight_follows}

module _ {T : Setting} {R : Running} (valid : IsRunning T R) (calls : Calls)
    (temp dest left : ℕ) (value : Constant) (o : TacOp) (lone : R.plan.needed temp ≡ false)
    (need : R.plan.needed left ≡ true) where
  abbrev frame : FrameTree
  frame = R.activation.frame

  abbrev comp : ℕ
  comp = R.activation.here.comp

  abbrev word : ℕ
  word = word_of_constant value

  abbrev start : Value
  start = constant_value value

  -- the temporaries where the constant is set
  abbrev pub set : Temps → Temps
  set temps = with_temp temp start temps

  -- what the operator does after the constant
  abbrev pub applies : Codes
  applies temps = code_step wrapping R.activation.here calls (tac.Op dest o left (Some temp)) (set temps)

  abbrev pub both_steps : Trail
  both_steps = row (trail_step (tac.Const temp value) ∷ trail_step (tac.Op dest o left (Some temp)) ∷ [])

  -- what is read in its place is another temporary
  other : (t : ℕ) → R.plan.needed t ≡ true → t ≢ temp
  other t h e = true≢false (sym h ∙ ap R.plan.needed e ∙ lone)

  temps_are : (temps : Temps) (t : ℕ) → R.plan.needed t ≡ true → set temps t ≡ temps t
  temps_are temps t h = ap (λ b. if b then Some start else temps t) (ne_eqb t temp (other t h))

  -- what the operator reads in its place, and what is live after it, is live before both
  live_before : (lives : Lives) (t : ℕ) →
      wanted R.plan.needed (live_plain (left ∷ []) (Some dest) lives) t ≡ true →
      wanted R.plan.needed (live_at both_steps lives) t ≡ true
  live_before lives t h =
      let on = and_first (live_plain (left ∷ []) (Some dest) lives t) (R.plan.needed t) h in
      let wants = and_rest (live_plain (left ∷ []) (Some dest) lives t) (R.plan.needed t) h in
      and_from (live_at both_steps lives t) (R.plan.needed t)
      (by (temp == t) (left == t) (is_one t (dest ∷ [])) (lives.following t)
      (ne_eqb temp t (λ e. other t wants (sym e))) on) wants
    where
      by : (a l d b : Bool) → a ≡ false → ((l || false) || (not d && b)) ≡ true →
          (false || (not (a || false) && ((l || (a || false)) || (not d && b)))) ≡ true
      by true l d b none h = cc none
      by false true d b none h = refl
      by false false d b none h = h

  pub left_live : (lives : Lives) → live_at both_steps lives left ≡ true
  left_live lives =
      let only : is_one left (left ∷ []) ≡ true = rw (eq-eqb left left refl) refl in
      let reads : live_plain (left ∷ []) (Some dest) lives left ≡ true = or_left (is_one left (left ∷ [])) _ only in
      and_first (live_at both_steps lives left) (R.plan.needed left)
      (live_before lives left
      (and_from (live_plain (left ∷ []) (Some dest) lives left) (R.plan.needed left) reads need))

  live_between : (lives : Lives) (t : ℕ) →
      (is_one t (left ∷ []) || live_across (left ∷ []) false (Some dest) lives t) ≡ true →
      (is_one t (left ∷ temp ∷ []) || live_across (left ∷ temp ∷ []) false (Some dest) lives t) ≡ true
  live_between lives t h = by (left == t) (temp == t) (is_one t (dest ∷ [])) (lives.following t) h
    where
      by : (l a d b : Bool) → ((l || false) || (not d && b)) ≡ true → ((l || (a || false)) || (not d && b)) ≡ true
      by true a d b h = refl
      by false true d b h = refl
      by false false d b h = h

  clear_after : (lives : Lives) → All (IsClear R.places) (both_steps.points lives) →
      All (IsClear R.places) (plain_points (left ∷ []) false (Some dest) lives)
  clear_after lives clear =
      let first : Point = point false (λ t. is_one t (left ∷ []) || live_across (left ∷ []) false (Some dest) lives t)
      in
      let last : Point = record { assigned = Some dest; calls = false; live = lives.following } in
      All-cons (IsClear R.places) first (last ∷ [])
      (fewer_clear R.places
      (λ t. is_one t (left ∷ temp ∷ []) || live_across (left ∷ temp ∷ []) false (Some dest) lives t)
      (λ t. is_one t (left ∷ []) || live_across (left ∷ []) false (Some dest) lives t) (live_between lives)
      (all_at (IsClear R.places) (both_steps.points lives) 2 _ clear refl))
      (All-cons (IsClear R.places) last [] (all_at (IsClear R.places) (both_steps.points lives) 3 _ clear refl)
      (All-nil (IsClear R.places)))

  fewer_ready : (lives : Lives) (temps : Temps) (x : Joint) → Ready T R (live_at both_steps lives) temps x →
      Ready T R (live_plain (left ∷ []) (Some dest) lives) temps x
  fewer_ready lives temps x ready = record {
    settled = ready.settled;
    frame = ready.frame;
    held = λ t v on known. ready.held t v (live_before lives t on) known;
    sp = ready.sp;
  }

  gets_goes : (result : Result Value Cause) (temps : Temps) (s : Meant) →
      Gone s (gets R.activation.here dest result temps s)
  gets_goes (Ok v) temps s = stays (record { exit = Next; carried = with_temp dest v temps }) s
  gets_goes (Err cause) temps s = record { grown = same s; stop = tt }

  pub applies_goes : (temps : Temps) → Goes (applies temps)
  applies_goes temps =
      read_goes R.activation.here left (set temps)
      (λ v s. and_then (read R.activation.here temp (set temps) s)
      (λ w s. gets R.activation.here dest (operated wrapping (s.memory comp) o v w) (set temps) s))
      (λ v. read_goes R.activation.here temp (set temps)
      (λ w s. gets R.activation.here dest (operated wrapping (s.memory comp) o v w) (set temps) s)
      (λ w s. gets_goes (operated wrapping (s.memory comp) o v w) (set temps) s))

  -- what the temporaries hold that the operator reads
  pub left_is : (temps : Temps) (v : Value) → set temps left ≡ Some v → temps left ≡ Some v
  left_is temps v h = sym (temps_are temps left need) ∙ h

  pub right_is : (temps : Temps) (w : Value) → set temps temp ≡ Some w → start ≡ w
  right_is temps w h =
      let now : set temps temp ≡ Some start = rw (eq-eqb temp temp refl) refl in
      same_Some start w (sym now ∙ h)

  -- the constant isn't missed where the result was assigned
  without_constant : (r : Value) (temps : Temps) (t : ℕ) → R.plan.needed t ≡ true →
      with_temp dest r (set temps) t ≡ with_temp dest r temps t
  without_constant r temps t h = ap (λ u. if t == dest then Some r else u) (temps_are temps t h)

  -- the operator's word, into a register
  abbrev pub short_into : ShortForm → (rd : ℕ) → List Instr
  short_into form rd =
      take frame R.places first_scratch left ++ short_code rd (operand frame R.places first_scratch left) (Some form)

  -- the code gives what the operator gives, where what it reads is live
  module _ (form : ShortForm) (form_is : short_form o word ≡ Some form) (for : IsSound o)
      (small : IsWordConstant valid calls value) where
    pub gives : (rd : ℕ) → IsResult rd → (live : TempSet) (temps : Temps) (x : Joint) (v r : Value) →
        Ready T R live temps x → live left ≡ true → temps left ≡ Some v →
        operated wrapping (x.meant.memory comp) o v start ≡ Ok r → Gives T R x (short_into form rd) rd r
    gives rd w live temps x v r ready on known gave =
        let rs : ℕ = operand frame R.places first_scratch left in
        let h : AtHand T R x x.regs first_scratch left v =
        brings T R x valid ready.frame ready.sp x.regs first_scratch left v first_is
        (ready.held left v (and_from (live left) (R.plan.needed left) on need) known) refl (λ q k. refl) in
        let piece : Computes T.image T.inputs (world T R x) (short_code rd rs (Some form)) [] h.after x.bytes rd
        (op_word o h.word word) =
        gives_short T.image T.inputs (world T R x) x.bytes h.after rd rs h.word word w.writable h.below h.result
        h.stands.word small o form form_is in
        record {
          word = op_word o h.word word;
          stands = operator_stands ready.settled.blocks valid.is.honest valid.is.known o v start r h.word
              word for gave small h.stands (λ two. constant_stands valid calls (x.inj comp) value small);
          after = piece.after;
          does = in_row T.image T.inputs (world T R x) h.does piece.does;
          result = piece.result;
          same = piece.others sp (w.not_sp, tt) ∙
              h.others sp ((λ e. omega (arith, e)), ((λ e. omega (arith, e)), tt));
          others = λ q k n. piece.others q (n, tt) ∙ h.others q (k.first, (k.address, tt));
        }

  -- it is kept in the place of the temporary
  module _ (form : ShortForm) (form_is : short_form o word ≡ Some form) (for : IsSound o)
      (small : IsWordConstant valid calls value) (place : Place) (its : slice_get R.places dest ≡ Some place) where
    abbrev rd : ℕ
    rd = result_register frame R.places dest

    abbrev code : List Instr
    code = short_into form rd

    abbrev whole : List Instr
    whole = short_operation frame R.places dest left (Some form)

    in_parts : code ++ keep frame R.places dest ≡ whole
    in_parts = refl

    pub short_follows :
        Follows T R applies (straightly frame R.places (short_operation frame R.places dest left (Some form)))
        both_steps
    short_follows =
        straight_follows T R applies whole both_steps applies_goes
        (λ lives temps x n ready clear at ends e f.
        comes_read T R lives x (length whole + n) ends R.activation.here left (set temps)
        (λ v s. and_then (read R.activation.here temp (set temps) s)
        (λ w s. gets R.activation.here dest (operated wrapping (s.memory comp) o v w) (set temps) s))
        (λ v known.
        comes_read T R lives x (length whole + n) ends R.activation.here temp (set temps)
        (λ w s. gets R.activation.here dest (operated wrapping (s.memory comp) o v w) (set temps) s)
        (λ w known'.
        comes_computed T R lives x (length whole + n) ends R.activation.here 0
        (operated wrapping (x.meant.memory comp) o v w) (λ r s. leave Next (with_temp dest r (set temps)) s)
        (λ r gave.
        (let g : Gives T R x code rd r =
        gives form form_is for small rd (result_is R valid.placed dest place its) (live_at both_steps lives) temps x v
        r ready (left_live lives) (left_is temps v known)
        (ap (operated wrapping (x.meant.memory comp) o v) (right_is temps w known') ∙ gave) in
        comes_past T R lives x whole n (with_temp dest r (set temps)) x.meant
        (unmissed T R lives.following x (length whole + n) n (with_temp dest r temps)
        (with_temp dest r (set temps)) x.meant (x.pc + 4 * length whole) (without_constant r temps)
        (subst (λ code. Arrives T R lives.following x (length code + n) n (with_temp dest r temps) x.meant
        (x.pc + 4 * length code)) in_parts (keeps T R x valid ready.frame ready.sp lives temps (left ∷ []) dest n
        (fewer_ready lives temps x ready) (clear_after lives clear) r code place its g
        (subst (CodeAt T.image comp x.pc) (sym in_parts) at)))) ends e f)))))
