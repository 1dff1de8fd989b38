-- A call of a function of another compartment that is made: into it and back.
use Rattle.sc_emit_run_laws.proofs.Common.{All, AllHonest, Bool, Call, ComesBack, Costs, Cross, Crossing, Effect}
use Rattle.sc_emit_run_laws.proofs.Common.{Export, IsWellFormed, IsWord, Joint, Leads, List, None, Option, Protected}
use Rattle.sc_emit_run_laws.proofs.Common.{Proto, Ret, ReturnsValue, Setting, Settled, Some, Standpoint, Value, Walks}
use Rattle.sc_emit_run_laws.proofs.Common.{[], a0, ap, arith, called_other, came_by, cases_eq, emit_event, false}
use Rattle.sc_emit_run_laws.proofs.Common.{get_or-set_other, get_or-set_same, has_result, if◌then◌else◌, is_some}
use Rattle.sc_emit_run_laws.proofs.Common.{listed, machine, map, on_return_to, option_value, refl, slice_index}
use Rattle.sc_emit_run_laws.proofs.Common.{slice_set, sp, subst, sym, then_go, walks_steady, word_back, word_in, ℕ}
use Rattle.sc_emit_run_laws.proofs.Common.{⊎_elim, ◌++◌, ◌+◌, ◌<◌, ◌∙◌, ◌∷◌, ◌≡◌, ◌≢◌, ◌≤◌}
use Rattle.sc_image.specs.Prelude.{MachineState}
use Rattle.sc_emit_run_laws.proofs.Crossing.{given_back as given_value}
use Rattle.sc_emit_run_laws.proofs.Crossing.{given_is, returned_listed, returned_regs, returned_sp}
use Rattle.sc_emit_run_laws.proofs.Turning.{GoesIn, before_timed, costs_back}
use Rattle.sc_emit_run_laws.proofs.Across.{IsMade, across, opened, seen_across, walks_called}

module _ {T : Setting} {formed : IsWellFormed T.image} {inputs : All IsWord T.inputs} {P : Standpoint} {x : Joint}
    {to index : ℕ} {args : List Value} {turns entry : ℕ}
    (made : IsMade T formed inputs P x to index args turns entry) where
  abbrev open_call : Crossing
  open_call = opened T formed inputs P x to index args

  abbrev Q : Standpoint
  Q = seen_across T formed inputs P x to index args

  other : P.comp ≢ to
  other = called_other T.image P.comp to index formed made.may

  abbrev entering : Joint
  entering = across T formed inputs P x to index args turns entry

  pub walks_in : Walks T.image T.inputs 1 (machine P x) (machine Q entering)
  walks_in =
      walks_called T formed inputs P x to index args turns entry made.takes made.few_args made.all made.passed made.goes

  saved_in : (k : ℕ) → k ≢ to → T.performs k ≡ false →
      slice_index (slice_set x.saved P.comp (x.regs sp)) k ≡ P.floor k
  saved_in k n h =
      ⊎_elim (λ e. subst (λ c. slice_index (slice_set x.saved P.comp (x.regs sp)) c ≡ P.floor k) (sym e)
      (get_or-set_same x.saved P.comp (x.regs sp) 0
      (omega (arith, made.settled.steady.saved, made.settled.steady.active)) ∙ made.level k h e))
      (λ d. get_or-set_other x.saved P.comp k (x.regs sp) 0 d ∙ made.settled.saved k d h) (cases_eq k P.comp)

  pub settled_in : Settled T Q entering
  settled_in = record {
    blocks = made.settled.blocks;
    globals = made.settled.globals;
    saved = saved_in;
    zones = made.settled.zones;
    inputs = made.settled.inputs;
    steady = walks_steady T.image T.inputs formed inputs 1 _ _ walks_in made.settled.steady;
    came = came_by T 1 _ _ walks_in made.settled.came;
    depth = made.settled.depth;
    timed = before_timed x.meant.trace (Call P.comp to index (map word_in args)) x.meant.frames made.settled.timed;
  }

  -- a callee that runs its code gets its floor
  pub low_is : T.performs to ≡ false → slice_index x.saved to ≡ P.floor to
  low_is honest = made.settled.saved to (λ e. other (sym e)) honest

  protected_in : (k q : ℕ) → Protected T P x.inj x.meant.memory k q → Protected T Q x.inj x.meant.memory k q
  protected_in k q p = record {
    honest = p.honest;
    guard = p.guard;
    own = λ e. subst (λ c. P.floor c ≤ q) e (made.over k q p.honest p.own p.other);
    other = λ d. made.over k q p.honest p.own p.other;
  }

  -- a few steps lead into the code of the callee
  module _ (n address : ℕ) (some : 1 ≤ n) (few : n ≤ 2) (walks : Walks T.image T.inputs n (machine P x) (machine Q
      (across T formed inputs P x to index args turns address))) where
    abbrev y : Joint
    y = across T formed inputs P x to index args turns address

    pub goes_across : GoesIn T P Q x y n
    goes_across = record { walks = walks; turn = made.turn; some = some; few = few }

    -- the callee's code has come to its return
    pub record IsDone (budget : ℕ) (proto : Proto) (w : Joint) (v : Option Value) : Type 0 where
      pub result_is : has_result T.image to (Export index) ≡ is_some proto.result
      pub steps : ℕ
      pub run : Walks T.image T.inputs steps (machine Q y) (machine Q w)
      pub costs : Costs T steps budget 1 y.meant w.meant
      pub effect : Effect T Q y w
      pub settled : Settled T Q w
      pub given : ReturnsValue T (w.inj to) (w.regs a0) v
      pub same : option_value (word_back proto.result v) ≡ v
      pub leaves :
          Walks T.image T.inputs 1 (machine Q w) (on_return_to (has_result T.image to (Export index)) (machine Q w)
          open_call P.cross)

    module _ (budget : ℕ) (paid : AllHonest T → budget < T.turn_pays) (proto : Proto) (w : Joint) (v : Option Value)
        (g : IsDone budget proto w v) where
      abbrev result : Bool
      result = is_some proto.result

      abbrev timed : Option ℕ
      timed = word_back proto.result v

      abbrev z : Joint
      z = record w {
        meant = emit_event (Ret to P.comp timed) w.meant;
        pc = x.pc + 4;
        regs = returned_regs result (x.regs sp) w.regs;
        saved = slice_set w.saved to (slice_index x.saved to);
      }

      -- with these registers, and this in the event
      abbrev built_back : List ℕ → Option ℕ → MachineState
      built_back regs timed = record {
        regs = regs;
        pc = x.pc + 4;
        active = P.comp;
        saved = slice_set w.saved to (slice_index x.saved to);
        zones = w.zones;
        memory = w.bytes;
        cross = P.cross;
        input = w.input;
        trace = w.meant.trace ++ Ret to P.comp timed ∷ [];
      }

      walks_back : Walks T.image T.inputs 1 (machine Q w) (machine P z)
      walks_back =
          subst (λ timed. Walks T.image T.inputs 1 (machine Q w)
          (built_back (listed (returned_regs result (x.regs sp) w.regs)) timed))
          (given_is T (w.inj to) (w.regs a0) proto.result v g.same g.given)
          (subst (λ list. Walks T.image T.inputs 1 (machine Q w)
          (built_back list (if result then Some (w.regs a0) else None))) (returned_listed result (x.regs sp) w.regs)
          (subst (λ result. Walks T.image T.inputs 1 (machine Q w)
          (on_return_to result (machine Q w) open_call P.cross)) g.result_is g.leaves))

      saved_back : (k : ℕ) → k ≢ P.comp → T.performs k ≡ false →
          slice_index (slice_set w.saved to (slice_index x.saved to)) k ≡ P.floor k
      saved_back k n h =
          ⊎_elim (λ e. subst (λ c. slice_index (slice_set w.saved to (slice_index x.saved to)) c ≡ P.floor c) (sym e)
          (get_or-set_same w.saved to (slice_index x.saved to) 0
          (omega (arith, g.settled.steady.saved, g.settled.steady.active)) ∙ low_is (ap T.performs (sym e) ∙ h)))
          (λ d. get_or-set_other w.saved to k (slice_index x.saved to) 0 d ∙ g.settled.saved k d h) (cases_eq k to)

      settled_back : Settled T P z
      settled_back = record {
        blocks = g.settled.blocks;
        globals = g.settled.globals;
        saved = saved_back;
        zones = g.settled.zones;
        inputs = g.settled.inputs;
        steady = walks_steady T.image T.inputs formed inputs 1 _ _ walks_back g.settled.steady;
        came = came_by T 1 _ _ walks_back g.settled.came;
        depth = g.settled.depth;
        timed = before_timed w.meant.trace (Ret to P.comp timed) w.meant.frames g.settled.timed;
      }

      leads_back : Leads T P x z 1 0
      leads_back =
          let costs = costs_back T P Q x y n goes_across budget paid g.steps w.meant g.costs in
          record {
            steps = n + (g.steps + 1);
            run = then_go T.image T.inputs walks (then_go T.image T.inputs g.run walks_back);
            costs = record { least = costs.least; most = costs.most };
            effect = record {
              grows = g.effect.grows;
              lived = g.effect.lived;
              keeps = λ k q p. g.effect.keeps k q (protected_in k q p);
              depths = g.effect.depths;
            };
          }

      -- and the call comes back
      pub comes_back : ComesBack T P x (Cross to index) (option_value timed)
          (emit_event (Ret to P.comp timed) w.meant)
      comes_back = record {
        y = z;
        meant_is = refl;
        pc = refl;
        sp = returned_sp result (x.regs sp) w.regs;
        value = given_value T (w.inj to) (w.inj P.comp) (w.regs a0) (x.regs sp) w.regs proto.result v refl g.same
            g.given;
        registers = λ e. cc e;
        leads = leads_back;
        settled = settled_back;
      }
