-- Two statements that are one piece of code: what the first assigned is lost, or nobody reads it in its place.
use Rattle.sc_emit.proofs.Common.{Arrives, Bool, IsClear, Joint, List, Place, Running, Setting, Some, State as Meant}
use Rattle.sc_emit.proofs.Common.{TempSet, Temps, Value, and_rest, false, if◌then◌else◌, point, refl, sym, true}
use Rattle.sc_emit.proofs.Common.{with_temp, ℕ, ◌==◌, ◌∙◌, ◌≡◌}

-- where less is live and nothing is assigned, a point is as clear
pub fewer_clear : (places : List Place) (more fewer : TempSet) → ((t : ℕ) → fewer t ≡ true → more t ≡ true) →
    IsClear places (point false more) → IsClear places (point false fewer)
fewer_clear places more fewer h clear = record {
  assigned = λ d t e. cc e;
  live = λ t u on on' shared. clear.live t u (h t on) (h u on') shared;
  over_calls = λ t calls. cc calls;
}

-- what isn't read in its place isn't missed there
pub unmissed : (T : Setting) (R : Running) (live : TempSet) (x : Joint) (budget left : ℕ) (temps other : Temps)
    (s : Meant) (pc : ℕ) → ((t : ℕ) → R.plan.needed t ≡ true → other t ≡ temps t) →
    Arrives T R live x budget left temps s pc → Arrives T R live x budget left other s pc
unmissed T R live x budget left temps other s pc same g = record {
  y = g.y;
  meant_is = g.meant_is;
  pc_is = g.pc_is;
  leads = g.leads;
  ready = record {
    settled = g.ready.settled;
    frame = g.ready.frame;
    held = λ t w on known. g.ready.held t w on (sym (same t (and_rest (live t) (R.plan.needed t) on)) ∙ known);
    sp = g.ready.sp;
  };
}

-- what the first assigned is lost
module _ (T : Setting) (R : Running) (dest : ℕ) (first : Value) where
  -- the temporary holds what was assigned last
  same_temps : (temps : Temps) (v : Value) (t : ℕ) →
      with_temp dest v (with_temp dest first temps) t ≡ with_temp dest v temps t
  same_temps temps v t = by (t == dest)
    where
      by : (b : Bool) →
          (if b then Some v else (if b then Some first else temps t)) ≡ (if b then Some v else temps t)
      by true = refl
      by false = refl

  pub again : (live : TempSet) (x : Joint) (budget left : ℕ) (temps : Temps) (v : Value) (s : Meant) (pc : ℕ) →
      Arrives T R live x budget left (with_temp dest v temps) s pc →
      Arrives T R live x budget left (with_temp dest v (with_temp dest first temps)) s pc
  again live x budget left temps v s pc g = record {
    y = g.y;
    meant_is = g.meant_is;
    pc_is = g.pc_is;
    leads = g.leads;
    ready = record {
      settled = g.ready.settled;
      frame = g.ready.frame;
      held = λ t w on known. g.ready.held t w on (sym (same_temps temps v t) ∙ known);
      sp = g.ready.sp;
    };
  }
