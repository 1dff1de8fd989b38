-- A call takes a turn, and that pays for what is called.
use Rattle.sc_emit_run_laws.proofs.Common.{AllBefore, AllHonest, Bool, CallGives, CallTarget, Costs, Emits, Event}
use Rattle.sc_emit_run_laws.proofs.Common.{FrameChange, Joint, List, Option, Overflows, Piece, RunEnd, Setting}
use Rattle.sc_emit_run_laws.proofs.Common.{Standpoint, State as Meant, Stopped, Value, Walks, [], and_then, ap, arith}
use Rattle.sc_emit_run_laws.proofs.Common.{before_more, emits_here, false, if◌then◌else◌, inl, length, length_push}
use Rattle.sc_emit_run_laws.proofs.Common.{machine, refl, subst, suc, then_go, true, turn_of, zero, ℕ, ◌*◌, ◌++◌, ◌+◌}
use Rattle.sc_emit_run_laws.proofs.Common.{◌<◌, ◌∷◌, ◌≡◌, ◌≤◌, ◌⊎◌}

pub before_timed : (trace : List Event) (event : Event) (changes : List FrameChange) →
    AllBefore (suc (length trace)) changes → AllBefore (suc (length (trace ++ event ∷ []))) changes
before_timed trace event changes h =
    before_more (suc (length trace)) (suc (length (trace ++ event ∷ []))) (omega (arith, length_push trace event))
    changes h

-- one turn less
abbrev pub turned : ℕ → Meant → Meant
turned turns s = record s { turns = turns }

module _ (T : Setting) (P Q : Standpoint) (x y : Joint) where
  -- a few steps lead into what is called, and a turn is taken
  pub record GoesIn (n : ℕ) : Type 0 where
    pub walks : Walks T.image T.inputs n (machine P x) (machine Q y)
    pub turn : x.meant.turns ≡ suc y.meant.turns
    pub some : 1 ≤ n
    pub few : n ≤ 2

  module _ (n : ℕ) (goes : GoesIn n) (budget : ℕ) (paid : AllHonest T → budget < T.turn_pays) where
    costs_in : (steps left : ℕ) (s : Meant) → left ≤ 1 → Costs T steps budget left y.meant s →
        Costs T (n + (steps + left)) 1 0 x.meant s
    costs_in steps left s h costs =
        let turn : T.turn_pays * x.meant.turns ≡ T.turn_pays * suc y.meant.turns =
        ap (λ m. T.turn_pays * m) goes.turn in
        record {
          least = omega (arith, goes.turn, goes.some, costs.least);
          most = λ all. omega (arith, turn, goes.few, paid all, costs.most all);
        }

    -- where it ends there, it ends
    pub emits_in : (s : Meant) → Emits T Q y budget s → Emits T P x 1 s
    emits_in s g =
        let whole : n + (g.steps + 0) ≡ n + g.steps = omega arith in
        record {
          steps = n + g.steps;
          reached = g.reached;
          run = then_go T.image T.inputs goes.walks g.run;
          trace = g.trace;
          costs = subst (λ k. Costs T k 1 0 x.meant s) whole (costs_in g.steps 0 s (omega arith) g.costs);
        }

    pub overflows_in : {V : Type 0} (piece : Piece V) → Overflows T Q y budget piece → Overflows T P x 1 piece
    overflows_in piece o =
        let whole : n + (o.steps + 0) ≡ n + o.steps = omega arith in
        record {
          steps = n + o.steps;
          reached = o.reached;
          run = then_go T.image T.inputs goes.walks o.run;
          traps = o.traps;
          lacks = o.lacks;
          taken = o.taken;
          honest = o.honest;
          begun = o.begun;
          trace = o.trace;
          deep = o.deep;
          timed = o.timed;
          grown = o.grown;
          costs = subst (λ k. Costs T k 1 0 x.meant o.begun) whole (costs_in o.steps 0 o.begun (omega arith) o.costs);
        }

    -- and one step more comes back
    pub costs_back : (steps : ℕ) (s : Meant) → Costs T steps budget 1 y.meant s →
        Costs T (n + (steps + 1)) 1 0 x.meant s
    costs_back steps s costs = costs_in steps 1 s (omega arith) costs

-- A call is made where it may be made, and where a turn is left.
module _ (T : Setting) (P : Standpoint) (x : Joint) (target : CallTarget) where
  abbrev pub CallComes : Piece (Option Value) → Type 0
  CallComes piece = CallGives T P x target piece ⊎ Overflows T P x 1 piece

  pub where_made : (may : Bool) (end : RunEnd) (piece : Piece (Option Value)) → (may ≡ true → CallComes piece) →
      CallComes (if may then piece else Stopped end x.meant)
  where_made true end piece h = h refl
  where_made false end piece h = inl (emits_here T P x 1)

  pub where_turns : (turns : ℕ) (go : Meant → Piece (Option Value)) →
      ((left : ℕ) → turns ≡ suc left → CallComes (go (turned left x.meant))) →
      CallComes (and_then (turn_of turns x.meant) (λ u s. go s))
  where_turns zero go h = inl (emits_here T P x 1)
  where_turns (suc left) go h = h left refl
