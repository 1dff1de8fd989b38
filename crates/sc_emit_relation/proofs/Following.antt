-- What comes of the parts of a statement: it reads what was assigned, it computes what the meaning computes, or both
-- sides end; and a call that came back.
use Rattle.sc_emit_relation.proofs.Common.{All, CallTarget, Cause, Comes, ComesBack, Ends, Err, Here, IsClear, Joint}
use Rattle.sc_emit_relation.proofs.Common.{Leads, Left, List, Lives, None, Ok, Option, Piece, Ready, Result}
use Rattle.sc_emit_relation.proofs.Common.{ReturnsValue, Running, Setting, Some, Standpoint, State as Meant, Temps}
use Rattle.sc_emit_relation.proofs.Common.{Value, a0, and_then, ap, arith, computed, false, inl, known, live_across}
use Rattle.sc_emit_relation.proofs.Common.{plain_points, read, refl, seen_from, subst, true, ℕ, ◌+◌, ◌≡◌}
use Rattle.sc_emit_relation.proofs.Straight.{live_plain, call_from, leads_from, called}
use Rattle.sc_emit_relation.proofs.Stretches.{emits_here}

-- what is known was assigned
pub known_is : (o : Option Value) (v : Value) → known o ≡ Ok v → o ≡ Some v
known_is None v h = cc h
known_is (Some u) v h = let e : u ≡ v = cc h in ap Some e

-- with as much more at both ends
pub leads_more : (T : Setting) (P : Standpoint) (x y : Joint) (budget left more : ℕ) → Leads T P x y budget left →
    Leads T P x y (budget + more) (left + more)
leads_more T P x y budget left more l = record {
  steps = l.steps;
  run = l.run;
  costs = record { least = l.costs.least; most = λ all. omega (arith, l.costs.most all) };
  effect = l.effect;
}

module _ (T : Setting) (R : Running) where
  abbrev P : Standpoint
  P = seen_from R.activation

  -- where the meaning ends there is nothing to follow
  pub comes_computed : {V : Type 0} (lives : Lives) (x : Joint) (budget : ℕ) (ends : Ends) (here : Here) (line : ℕ)
      (result : Result V Cause) (go : V → Meant → Piece (Left Temps)) →
      ((v : V) → result ≡ Ok v → Comes T R lives x budget ends (go v x.meant)) →
      Comes T R lives x budget ends (and_then (computed here line result x.meant) go)
  comes_computed lives x budget ends here line (Ok v) go h = h v refl
  comes_computed lives x budget ends here line (Err cause) go h = inl (emits_here T P x budget)

  pub comes_read : (lives : Lives) (x : Joint) (budget : ℕ) (ends : Ends) (here : Here) (t : ℕ) (temps : Temps)
      (go : Value → Meant → Piece (Left Temps)) →
      ((v : Value) → temps t ≡ Some v → Comes T R lives x budget ends (go v x.meant)) →
      Comes T R lives x budget ends (and_then (read here t temps x.meant) go)
  comes_read lives x budget ends here t temps go h =
      comes_computed lives x budget ends here 0 (known (temps t)) go (λ v e. h v (known_is (temps t) v e))

  -- a call has come back: with its value in a0, and all that is live across it in its place
  pub record IsBack (reads : List ℕ) (dest : Option ℕ) (lives : Lives) (temps : Temps) (x : Joint) (left : ℕ)
      (v : Option Value) (meant : Meant) : Type 0 where
    pub y : Joint
    pub meant_is : y.meant ≡ meant
    pub pc : y.pc ≡ x.pc + 4
    pub value : ReturnsValue T (y.inj R.activation.here.comp) (y.regs a0) v
    pub leads : Leads T P x y (1 + left) left
    pub ready : Ready T R (live_across reads true dest lives) temps y

  pub back_with : (reads : List ℕ) (dest : Option ℕ) (lives : Lives) (temps : Temps) (x : Joint) (target : CallTarget)
      (left : ℕ) (v : Option Value) (meant : Meant) (b : ComesBack T (call_from T R) x target v meant) →
      Ready T R (live_across reads true dest lives) temps b.y → IsBack reads dest lives temps x left v meant
  back_with reads dest lives temps x target left v meant b ready =
      let none : 0 + left ≡ left = omega arith in
      record {
        y = b.y;
        meant_is = b.meant_is;
        pc = b.pc;
        value = b.value;
        leads = subst (Leads T P x b.y (1 + left)) none
            (leads_more T P x b.y 1 0 left (leads_from T R x b.y 1 0 b.leads));
        ready = ready;
      }

  pub is_back : (reads : List ℕ) (dest : Option ℕ) (lives : Lives) (temps : Temps) (x : Joint) (target : CallTarget)
      (left : ℕ) (v : Option Value) (meant : Meant) → T.performs R.activation.here.comp ≡ false →
      Ready T R (live_plain reads dest lives) temps x →
      All (IsClear R.places) (plain_points reads true dest lives) → ComesBack T (call_from T R) x target v meant →
      IsBack reads dest lives temps x left v meant
  is_back reads dest lives temps x target left v meant honest ready clear b =
      back_with reads dest lives temps x target left v meant b
      (called T R honest x b.y b.leads.effect reads dest lives temps ready clear b.settled b.sp)
