-- Calls of functions of the own compartment.
use Rattle.sc_emit_run_laws.proofs.Common.{All, ArePassed, Begins, CallGives, ComesBack, Fetches, Function}
use Rattle.sc_emit_run_laws.proofs.Common.{FunctionGives, IsBase, IsInside, IsLeft, IsSome, IsWellFormed, IsWord, Jal}
use Rattle.sc_emit_run_laws.proofs.Common.{Joint, List, Option, Overflows, Own, Piece, Reached, Setting, Settled, Some}
use Rattle.sc_emit_run_laws.proofs.Common.{Standpoint, StandsFor, State as Meant, Stopped, Value, Walks, a0, add_word}
use Rattle.sc_emit_run_laws.proofs.Common.{ap, arith, came_by, code_inside, false, inl, inr, jal, jalr, jalr_target}
use Rattle.sc_emit_run_laws.proofs.Common.{machine, pos, put, put_here, put_there, ra, refl, sp, subst, suc, sym}
use Rattle.sc_emit_run_laws.proofs.Common.{then_go, walks_steady, word_at, word_of, world_at, ℕ, ℤ, ⊎_elim, ◌%◌, ◌*◌}
use Rattle.sc_emit_run_laws.proofs.Common.{◌+◌, ◌/◌, ◌<◌, ◌^◌, ◌∙◌, ◌≡◌, ◌⊎◌}
use Rattle.sc_emit_run_laws.proofs.Turning.{GoesIn, turned, emits_in, overflows_in, costs_back}
use Rattle.sc_base.proofs.Bools.{some_value}

pub back_to : (base a : ℕ) → base ≡ a → a < 2 ^ 32 → a % 2 ≡ 0 → jalr_target base (pos 0) ≡ a
back_to base a is below even =
    ap (λ b. add_word b (word_of (pos 0)) / 2 * 2) is ∙ omega (arith, below, even)

module _ (T : Setting) (formed : IsWellFormed T.image) (inputs : All IsWord T.inputs) (P : Standpoint) (x : Joint)
    (address turns : ℕ) where
  -- a turn is taken, and control is at the function, with the address after the jump in ra
  abbrev pub entered : Joint
  entered = record x {
    meant = turned turns x.meant;
    pc = address;
    regs = put x.regs ra (x.pc + 4);
  }

  module _ (few : x.meant.turns ≡ suc turns) (imm : ℤ) (jumps : Fetches T.image P.comp x.pc (Jal ra imm))
      (leads_to : add_word x.pc (word_of imm) ≡ address) (word : ℕ)
      (there : word_at T.image P.comp address ≡ Some word) where
    walks_in : Walks T.image T.inputs 1 (machine P x) (machine P entered)
    walks_in =
        jal T.image T.inputs x.pc x.regs x.bytes
        (world_at P x) ra imm address word (omega arith) jumps leads_to
        (code_inside T.image formed P.comp address word there).aligned there

    goes_in : GoesIn T P P x entered 1
    goes_in = record { walks = walks_in; turn = few; some = omega arith; few = omega arith }

    settled_in : Settled T P x → Settled T P entered
    settled_in s = record {
      blocks = s.blocks;
      globals = s.globals;
      saved = s.saved;
      zones = s.zones;
      inputs = s.inputs;
      steady = walks_steady T.image T.inputs formed inputs 1 _ _ walks_in s.steady;
      came = came_by T 1 _ _ walks_in s.came;
      depth = s.depth;
      timed = s.timed;
    }

    passed_in : (args : List Value) → ArePassed (x.inj P.comp) x.regs args →
        ArePassed (x.inj P.comp) entered.regs args
    passed_in args passed i v e =
        subst (λ w. StandsFor (x.inj P.comp) w v)
        (sym (put_there x.regs ra (x.pc + 4) (a0 + i) (λ k. omega (arith, k)))) (passed i v e)

    pub begins : (f : Function) (args : List Value) → T.performs P.comp ≡ false → Settled T P x → IsBase T P →
        x.regs sp ≡ P.bound → ArePassed (x.inj P.comp) x.regs args →
        Begins T P f args address (x.pc + 4) entered
    begins f args honest settled base at_base passed = record {
      honest = honest;
      settled = settled_in settled;
      base = base;
      pc = refl;
      sp = put_there x.regs ra (x.pc + 4) sp (λ e. omega (arith, e)) ∙ at_base;
      ra = put_here x.regs ra (x.pc + 4);
      passed = passed_in args passed;
    }

    -- What comes of the function, comes of the call.
    module _ (number : ℕ) (following : IsSome (word_at T.image P.comp (x.pc + 4))) (at_base : x.regs sp ≡ P.bound)
        (budget : ℕ) (paid : budget < T.turn_pays) where
      module _ (v : Option Value) (s : Meant) (g : IsLeft T P entered budget (x.pc + 4) v s) where
        abbrev z : Joint
        z = record g.y { pc = x.pc + 4 }

        word_after : (w : ℕ) × (word_at T.image P.comp (x.pc + 4) ≡ Some w)
        word_after = some_value (word_at T.image P.comp (x.pc + 4)) following

        place_after : IsInside (x.pc + 4)
        place_after = code_inside T.image formed P.comp (x.pc + 4) word_after.0 word_after.1

        walks_back : Walks T.image T.inputs 1 (machine P g.y) (machine P z)
        walks_back =
            jalr T.image T.inputs g.y.pc g.y.regs g.y.bytes (world_at P g.y) 0 ra (pos 0)
            (x.pc + 4) word_after.0 (omega arith) (omega arith) g.jump
            (back_to (g.y.regs ra) (x.pc + 4) g.ra (omega (arith, place_after.low))
            (omega (arith, place_after.aligned))) place_after.aligned word_after.1

        comes_back : ComesBack T P x (Own number) v s
        comes_back = record {
          y = z;
          meant_is = g.meant_is;
          pc = refl;
          sp = g.sp ∙ sym at_base;
          value = g.value;
          registers = λ e. cc e;
          leads = record {
            steps = 1 + (g.leads.steps + 1);
            run = then_go T.image T.inputs walks_in (then_go T.image T.inputs g.leads.run walks_back);
            costs = costs_back T P P x entered 1 goes_in budget (λ all. paid) g.leads.steps g.y.meant g.leads.costs;
            effect = record {
              grows = g.leads.effect.grows;
              lived = g.leads.effect.lived;
              keeps = λ k q p. g.leads.effect.keeps k q (record {
                honest = p.honest;
                guard = p.guard;
                own = p.own;
                other = p.other;
              });
              depths = g.leads.effect.depths;
            };
          };
          settled = record {
            blocks = g.settled.blocks;
            globals = g.settled.globals;
            saved = g.settled.saved;
            zones = g.settled.zones;
            inputs = g.settled.inputs;
            steady = walks_steady T.image T.inputs formed inputs 1 _ _ walks_back g.settled.steady;
            came = came_by T 1 _ _ walks_back g.settled.came;
            depth = g.settled.depth;
            timed = g.settled.timed;
          };
        }

      gives : (piece : Piece (Option Value)) → FunctionGives T P entered budget (x.pc + 4) piece →
          CallGives T P x (Own number) piece
      gives (Reached v s) g = comes_back v s g
      gives (Stopped end s) g = emits_in T P P x entered 1 goes_in budget (λ all. paid) s g

      pub own_comes : (piece : Piece (Option Value)) →
          FunctionGives T P entered budget (x.pc + 4) piece ⊎ Overflows T P entered budget piece →
          CallGives T P x (Own number) piece ⊎ Overflows T P x 1 piece
      own_comes piece g =
          ⊎_elim (λ h. inl (gives piece h))
          (λ o. inr (overflows_in T P P x entered 1 goes_in budget (λ all. paid) piece o)) g
