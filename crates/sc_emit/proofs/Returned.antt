-- An operator whose second operand is a constant, and a return of its result: it is computed where it is returned.
use Rattle.sc_emit.proofs.Common.{Calls, Cause, CodeAt, Codes, Comes, Constant, Ends, Follows, FrameTree, Goes, Gone}
use Rattle.sc_emit.proofs.Common.{Here, Instr, IsRunning, IsSound, Joint, Left, List, Lives, Next, Ok, Piece, Ready}
use Rattle.sc_emit.proofs.Common.{Result, Return, Returns, Running, Setting, ShortForm, Some, StandsFor, State as Meant}
use Rattle.sc_emit.proofs.Common.{TacOp, Temps, Trail, Value, [], a0, and_then, ap, arith, code_step, comes_computed}
use Rattle.sc_emit.proofs.Common.{comes_read, computed, constant_value, ends_of, eq-eqb, false, follow as then_follow}
use Rattle.sc_emit.proofs.Common.{follow_goes, gets, inl, is_one, leave, length, live_at, operated, read, refl, row}
use Rattle.sc_emit.proofs.Common.{same_Some, short_form, short_return, straightly, subst, sym, then_then, trail_step}
use Rattle.sc_emit.proofs.Common.{true, with_temp, word_of_constant, wrapping, ℕ, ◌+◌, ◌∙◌, ◌∷◌, ◌≡◌}
use Rattle.sc_core.specs.Prelude.{in_order as one_by_one, take as taken_by}
use Rattle.sc_emit_select.specs.Prelude.{Piece as Code}
use Rattle.sc_core_laws.proofs.Order.{follow_assoc}
use Rattle.sc_tac.specs.declared.stmt.TacStmt.TheOpen as tac
use Rattle.sc_emit.proofs.Constants.{applies, applies_goes, gives, left_is, left_live, right_is, set, short_into}
use Rattle.sc_emit.proofs.Operands.{Gives}
use Rattle.sc_emit.proofs.Plain.{IsResult, IsWordConstant}
use Rattle.sc_emit.proofs.Returns.{Puts, leaves_with, return_goes}
use Rattle.sc_emit.proofs.Straight.{straight_follows}

-- the register of what is returned may hold a result
pub a0_is : IsResult a0
a0_is = record {
  writable = record { above = omega arith; below = omega arith };
  not_sp = λ e. omega (arith, e);
  not_address = λ e. omega (arith, e);
}

-- what does the same is followed by the same
pub follows_same : (T : Setting) (R : Running) (one other : Codes) →
    ((temps : Temps) (s : Meant) → one temps s ≡ other temps s) → (code : Code) (trail : Trail) →
    Follows T R one code trail → Follows T R other code trail
follows_same T R one other same code trail F = record {
  sized = F.sized;
  closed = F.closed;
  goes = λ temps s. subst (Gone s) (same temps s) (F.goes temps s);
  runs = λ lives temps x left to_break to_continue starts.
      subst (Comes T R lives x (code.size + left) (ends_of code x.pc left to_break to_continue)) (same temps x.meant)
      (F.runs lives temps x left to_break to_continue starts);
}

module _ {T : Setting} {R : Running} (valid : IsRunning T R) (calls : Calls)
    (temp dest left : ℕ) (value : Constant) (o : TacOp) (lone : R.plan.needed temp ≡ false)
    (need : R.plan.needed left ≡ true) where
  abbrev frame : FrameTree
  frame = R.activation.frame

  abbrev here : Here
  here = R.activation.here

  -- what the operator does after the constant
  abbrev operates : Codes
  operates = applies valid calls temp dest left value o lone need

  -- the temporaries where the constant is set
  abbrev set_temps : Temps → Temps
  set_temps = set valid calls temp dest left value o lone need

  -- what the return does
  abbrev returns : Codes
  returns = code_step wrapping here calls (tac.Return (Some dest))

  -- what the operator and the return do after the constant
  abbrev pub gives_back : Codes
  gives_back temps s = then_follow one_by_one (operates temps s) returns

  abbrev pub all_three : Trail
  all_three = row (trail_step (tac.Const temp value) ∷ trail_step (tac.Op dest o left (Some temp)) ∷
      trail_step (tac.Return (Some dest)) ∷ [])

  gives_back_goes : (temps : Temps) → Goes (gives_back temps)
  gives_back_goes temps s =
      follow_goes one_by_one s (operates temps s) returns
      (applies_goes valid calls temp dest left value o lone need temps s) (return_goes valid calls (Some dest))

  -- what the operator does with its operands
  abbrev result_known : Temps → Value → Value → Meant → Piece (Left Temps)
  result_known temps v w s = gets here dest (operated wrapping (s.memory here.comp) o v w) (set_temps temps) s

  abbrev right_read : Temps → Value → Meant → Piece (Left Temps)
  right_read temps v s = and_then (read here temp (set_temps temps) s) (result_known temps v)

  -- what is done after it
  abbrev goes_on : Codes → Left Temps → Meant → Piece (Left Temps)
  goes_on more left s = taken_by (one_by_one left.exit) more left.carried s

  -- where the operator gives a value, what follows it comes to the ends
  comes_applied : (lives : Lives) (temps : Temps) (x : Joint) (budget : ℕ) (ends : Ends) (more : Codes) →
      ((v r : Value) → temps left ≡ Some v →
      operated wrapping (x.meant.memory here.comp) o v (constant_value value) ≡ Ok r →
      Comes T R lives x budget ends (more (with_temp dest r (set_temps temps)) x.meant)) →
      Comes T R lives x budget ends (then_follow one_by_one (operates temps x.meant) more)
  comes_applied lives temps x budget ends more h =
      let first : Piece Value = read here left (set_temps temps) x.meant in
      subst (Comes T R lives x budget ends) (sym (then_then first (right_read temps) (goes_on more)))
      (comes_read T R lives x budget ends here left (set_temps temps)
      (λ v s. and_then (right_read temps v s) (goes_on more))
      (λ v known.
      let second : Piece Value = read here temp (set_temps temps) x.meant in
      subst (Comes T R lives x budget ends) (sym (then_then second (result_known temps v) (goes_on more)))
      (comes_read T R lives x budget ends here temp (set_temps temps)
      (λ w s. and_then (result_known temps v w s) (goes_on more))
      (λ w known'.
      let result : Result Value Cause = operated wrapping (x.meant.memory here.comp) o v w in
      subst (Comes T R lives x budget ends)
      (sym (then_then (computed here 0 result x.meant) (λ r s. leave Next (with_temp dest r (set_temps temps)) s)
      (goes_on more)))
      (comes_computed T R lives x budget ends here 0 result (λ r s. more (with_temp dest r (set_temps temps)) s)
      (λ r gave. h v r (left_is valid calls temp dest left value o lone need temps v known)
      (ap (operated wrapping (x.meant.memory here.comp) o v)
      (right_is valid calls temp dest left value o lone need temps w known') ∙ gave)))))))

  module _ (form : ShortForm) (form_is : short_form o (word_of_constant value) ≡ Some form) (for : IsSound o)
      (small : IsWordConstant valid calls value) where
    -- the result in a0
    abbrev code : List Instr
    code = short_into valid calls temp dest left value o lone need form a0

    abbrev whole : List Instr
    whole = short_return frame R.places left (Some form)

    puts : (lives : Lives) (temps : Temps) (x : Joint) (v r : Value)
        (ready : Ready T R (live_at all_three lives) temps x) → temps left ≡ Some v →
        operated wrapping (x.meant.memory here.comp) o v (constant_value value) ≡ Ok r →
        Puts valid (live_at all_three lives) temps x ready code (Some r)
    puts lives temps x v r ready known gave =
        let on : live_at all_three lives left ≡ true =
        left_live valid calls temp dest left value o lone need
        (record lives { following = λ t. is_one t (dest ∷ []) }) in
        let g : Gives T R x code a0 r =
        gives valid calls temp dest left value o lone need form form_is for small a0 a0_is
        (live_at all_three lives) temps x v r ready on known gave in
        record {
          after = g.after;
          does = g.does;
          same = g.same;
          value = subst (λ w. StandsFor (x.inj here.comp) w r) (sym g.result) g.stands;
        }

    -- what was assigned last is returned
    leaves : (lives : Lives) (temps : Temps) (x : Joint) (n : ℕ) (v r u : Value) →
        Ready T R (live_at all_three lives) temps x → CodeAt T.image here.comp x.pc whole → temps left ≡ Some v →
        operated wrapping (x.meant.memory here.comp) o v (constant_value value) ≡ Ok r →
        with_temp dest r (set_temps temps) dest ≡ Some u → Returns T R x (length whole + n) (Some u) x.meant
    leaves lives temps x n v r u ready at known gave given =
        let now : with_temp dest r (set_temps temps) dest ≡ Some r = rw (eq-eqb dest dest refl) refl in
        let same : r ≡ u = same_Some r u (sym now ∙ given) in
        subst (λ u. Returns T R x (length whole + n) (Some u) x.meant) same
        (leaves_with valid (live_at all_three lives) temps x ready code (Some r)
        (length whole + n) (puts lives temps x v r ready known gave) (omega arith) at)

    pub gives_back_follows : Follows T R gives_back
        (straightly frame R.places (short_return frame R.places left (Some form))) all_three
    gives_back_follows =
        straight_follows T R gives_back whole all_three gives_back_goes
        (λ lives temps x n ready clear at ends e f.
        comes_applied lives temps x (length whole + n) ends returns
        (λ v r known gave.
        comes_read T R lives x (length whole + n) ends here dest (with_temp dest r (set_temps temps))
        (λ u s. leave (Return (Some u)) (with_temp dest r (set_temps temps)) s)
        (λ u given. inl (leaves lives temps x n v r u ready at known gave given))))

  -- the three in a row, before more
  abbrev pub in_three : Codes → Codes
  in_three more temps s =
      then_follow one_by_one (code_step wrapping here calls (tac.Const temp value) temps s)
      (λ temps s. then_follow one_by_one (code_step wrapping here calls (tac.Op dest o left (Some temp)) temps s)
      (λ temps s. then_follow one_by_one (returns temps s) more))

  -- code that follows the three as one, before more, follows them in a row
  pub three_as_one : (more : Codes) (trails : List Trail) (code : Code) →
      Follows T R (λ temps s. then_follow one_by_one (gives_back temps s) more) code (row (all_three ∷ trails)) →
      Follows T R (in_three more) code
      (row (trail_step (tac.Const temp value) ∷ trail_step (tac.Op dest o left (Some temp)) ∷
      trail_step (tac.Return (Some dest)) ∷ trails))
  three_as_one more trails code F =
      follows_same T R (λ temps s. then_follow one_by_one (gives_back temps s) more) (in_three more)
      (λ temps s. follow_assoc (operates temps s) returns more) code
      (row (trail_step (tac.Const temp value) ∷ trail_step (tac.Op dest o left (Some temp)) ∷
      trail_step (tac.Return (Some dest)) ∷ trails)) F
