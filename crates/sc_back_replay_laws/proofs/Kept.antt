-- Functions of the compartments that keep their sections do the same in both runs.
use Rattle.sc_back_replay_laws.proofs.Common.{Blamed, Cause, Denotations, Err, Goes, Gone, Grown, Here, Kept, KeptAt}
use Rattle.sc_back_replay_laws.proofs.Common.{Never, Obedient, Ok, Piece, RelatedDenotations, Result, Roles, State}
use Rattle.sc_back_replay_laws.proofs.Common.{TurnsOut, and_then, ap, arith, both_ways, computed, false, if◌then◌else◌}
use Rattle.sc_back_replay_laws.proofs.Common.{ne_eqb, refl, related_denotations, subst, suc, sym, turn, turn_of, zero}
use Rattle.sc_back_replay_laws.proofs.Common.{ℕ, ◌<◌, ◌==◌, ◌∙◌, ◌≡◌}
use Rattle.sc_core_laws.proofs.Expressions.{Keeps, alike, blamed}
use Rattle.sc_back_replay_laws.proofs.Near.{Both, Near, NearBy, Reaches, counts, near_turns, reached, stopped}

module _ (roles : Roles) (most : ℕ) where
  -- both reached the same, or stopped so
  abbrev pub Alike : (V : Type 0) → Piece V → Piece V → Type 0
  Alike V o p = Both (Reaches roles most) o p

  -- a turn is taken in both runs
  pub turn_both : (W : Type 0) (Q : W → W → State → State → Type 0) (counters : ℕ → ℕ)
      (k l : Unit {0} → State → Piece W) (s s' : State) → NearBy roles most counters s s' →
      ((n : ℕ) → n < s.turns → NearBy roles most counters (record s { turns = n }) (record s' { turns = n }) →
      Both Q (k tt (record s { turns = n })) (l tt (record s' { turns = n }))) →
      Both Q (and_then (turn s) k) (and_then (turn s') l)
  turn_both W Q counters k l s s' near go =
      subst (λ n. Both Q (and_then (turn s) k) (and_then (turn_of n s') l)) near.turns (by s.turns refl) where
        by : (n : ℕ) → n ≡ s.turns → Both Q (and_then (turn_of n s) k) (and_then (turn_of n s') l)
        by zero is = stopped TurnsOut near.trace
        by (suc n) is =
            go n (omega (arith, is)) (near_turns roles most counters n s s' (omega (arith, is, near.few)) near)

  after : (V W : Type 0) (s s' : State) (o p : Piece V) (k l : V → State → Piece W) → Near roles most s s' →
      Gone s o → Gone s' p → ((v : V) → Goes (k v)) → ((v : V) → Goes (l v)) → Alike V o p →
      ((v : V) (t t' : State) → Grown s t → Grown s' t' → Near roles most t t' → Alike W (k v t) (l v t')) →
      Alike W (and_then o k) (and_then p l)
  after V W s s' _ _ k l near g g' goes goes' (reached {v = v} {w = w} {s = t} {s' = t'} r) more =
      subst (λ x. Alike W (k v t) (l x t')) r.same (more v t t' g.grown g'.grown r.near)
  after V W s s' _ _ k l near g g' goes goes' (stopped end same) more = stopped end same

  alike_kept : Kept (Near roles most) Alike
  alike_kept = record {
    reached = λ V v s s' near. reached (record { same = refl; near = near });
    after = after;
    turned = λ W k l goes goes' s s' near h. turn_both W (Reaches roles most) (counts s.trace) k l s s' near
        (λ n less near2. h (record s { turns = n }) (record s' { turns = n }) less (omega (arith, less, near.turns))
        near2);
  }

  computed_alike : (V : Type 0) (here : Here) (line : ℕ) (r r' : Result V Cause) (s s' : State) →
      Keeps Never V r r' → Near roles most s s' → Alike V (computed here line r s) (computed here line r' s')
  computed_alike V here line r r' s s' (alike is) near =
      subst (λ x. Alike V (computed here line r s) (computed here line x s')) (sym is) (itself r) where
        itself : (r : Result V Cause) → Alike V (computed here line r s) (computed here line r s')
        itself (Ok v) = reached (record { same = refl; near = near })
        itself (Err cause) = stopped (Blamed here.comp cause line) near.trace
  computed_alike V here line r r' s s' (blamed cause soft is) near = absurd soft

  -- a call of a compartment that keeps its section
  abbrev pub IsKept : Here → Type 0
  IsKept here = roles.scripted here.comp ≡ false

  alike_at : (here : Here) → IsKept here → KeptAt (Near roles most) Alike Never here
  alike_at here clear = record {
    computing = λ V line e e' h s s' near.
        computed_alike V here line (e (s.memory here.comp)) (e' (s'.memory here.comp)) s s'
        (subst (λ blocks. Keeps Never V (e (s.memory here.comp)) (e' blocks)) (near.memory here.comp clear)
        (h (s.memory here.comp))) near;
    passed = λ V cause line soft s s' near p gone. absurd soft;
    stored = λ blocks s s' near. record {
      trace = near.trace;
      turns = near.turns;
      inputs = near.inputs;
      few = near.few;
      memory = λ d other. ap (λ x. if d == here.comp then blocks else x) (near.memory d other);
      counter = λ d performs. (
        (near.counter d performs).0,
        ap (λ x. if x then blocks else s.memory d)
            (ne_eqb d here.comp (λ q. both_ways (roles.scripted d) (ap roles.scripted q ∙ clear) performs)) ∙
            (near.counter d performs).1,
      );
    };
  }

  -- every function does the same in both runs where it is called in a compartment that keeps its section
  pub kept_related : (denotations : Denotations) → Obedient denotations →
      RelatedDenotations (Near roles most) Alike IsKept denotations denotations
  kept_related denotations obedient =
      related_denotations Never (Near roles most) Alike IsKept alike_kept alike_at denotations denotations obedient
