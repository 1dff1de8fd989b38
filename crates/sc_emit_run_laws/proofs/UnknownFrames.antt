-- The variables and the frame of a function that performs, only in the meaning: the machine knows nothing of them.
use Rattle.sc_emit_run_laws.proofs.Common.{AllBefore, Cell, Effect, FrameChange, Function, Joint, List, LiveAt, Memory}
use Rattle.sc_emit_run_laws.proofs.Common.{Protected, Setting, Settled, Standpoint, Value, ZoneMatches, ℕ, [], ap}
use Rattle.sc_emit_run_laws.proofs.Common.{arith, begun, cases_eq, depth_after, done, false, inl, inr, length, ne_eqb}
use Rattle.sc_emit_run_laws.proofs.Common.{refl, slice_get, slice_index_or, stack_depth, subst, suc, sym, true, ⊎_elim}
use Rattle.sc_emit_run_laws.proofs.Common.{◌∙◌, ◌≡◌, ◌≢◌, ◌≤◌}
use Rattle.sc_emit_relation.proofs.Ending.{depth_begun, depth_begun_else, depth_done, depth_done_else, length_closed}
use Rattle.sc_emit_relation.proofs.Ending.{memory_closed, timed_closed, timed_opened}
use Rattle.sc_emit_relation.proofs.Opening.{length_opened, memory_opened}
use Rattle.sc_core.specs.Prelude.{cells_at}

module _ (T : Setting) (Q : Standpoint) (comp : ℕ) (performs : T.performs comp ≡ true) where
  pub other_than : (k : ℕ) → T.performs k ≡ false → k ≢ comp
  other_than k honest same =
      let clash : true ≡ false = sym performs ∙ ap T.performs (sym same) ∙ honest in cc clash

  -- the meaning with other blocks of that compartment, and other frames
  abbrev changed : Joint → Memory → List FrameChange → Joint
  changed y memory frames = record y { meant = record y.meant { memory = memory; frames = frames } }

  record IsElsewhere (y : Joint) (memory : Memory) (frames : List FrameChange) : Type 0 where
    same : (k : ℕ) → k ≢ comp → memory k ≡ y.meant.memory k
    longer : (k : ℕ) → length (y.meant.memory k) ≤ length (memory k)
    depths : (k : ℕ) → k ≢ comp → depth_after k 0 frames ≡ stack_depth k y.meant
    timed : AllBefore (suc (length y.meant.trace)) frames

  was_live : (memory later : Memory) (k b : ℕ) (cells : List Cell) → later k ≡ memory k → LiveAt later k b cells →
      LiveAt memory k b cells
  was_live memory later k b cells same live = ap (λ blocks. cells_at blocks b) (sym same) ∙ live

  settled_elsewhere : (y : Joint) (memory : Memory) (frames : List FrameChange) → IsElsewhere y memory frames →
      Settled T Q y → Settled T Q (changed y memory frames)
  settled_elsewhere y memory frames else s =
      let live : (k b : ℕ) (cells : List Cell) → T.performs k ≡ false → LiveAt memory k b cells →
      LiveAt y.meant.memory k b cells =
      λ k b cells honest. was_live y.meant.memory memory k b cells (else.same k (other_than k honest)) in
      record {
        blocks = record {
          there = λ k b cells honest h. s.blocks.there k b cells honest (live k b cells honest h);
          placed = λ k b a cells honest h at. s.blocks.placed k b a cells honest (live k b cells honest h) at;
          holds = λ k b a i cells c honest h at get.
              s.blocks.holds k b a i cells c honest (live k b cells honest h) at get;
          apart = λ k b c a d xs ys honest h g at to differ.
              s.blocks.apart k b c a d xs ys honest (live k b xs honest h) (live k c ys honest g) at to differ;
          lies = λ k b a block honest h alive at. s.blocks.lies k b a block honest
              (ap (λ blocks. slice_get blocks b) (sym (else.same k (other_than k honest))) ∙ h) alive at;
          known = λ k b a at. omega (arith, s.blocks.known k b a at, else.longer k);
        };
        globals = s.globals;
        saved = s.saved;
        zones = λ k honest. subst (ZoneMatches (slice_index_or y.zones k [])) (sym (else.same k (other_than k honest)))
            (s.zones k honest);
        inputs = s.inputs;
        steady = s.steady;
        came = s.came;
        depth = λ k honest. omega (arith, s.depth k honest, else.depths k (other_than k honest));
        timed = else.timed;
      }

  module _ (f : Function) (args : List Value) (y : Joint) where
    abbrev pub first : ℕ
    first = length (y.meant.memory comp)

    abbrev pub started : Joint
    started = record y { meant = begun comp f args y.meant }

    opened_there : (k : ℕ) → k ≢ comp → memory_opened comp f.cells args y.meant.memory k ≡ y.meant.memory k
    opened_there k n = rw (ne_eqb k comp n) refl

    opened_longer : (k : ℕ) → length (y.meant.memory k) ≤ length (memory_opened comp f.cells args y.meant.memory k)
    opened_longer k = ⊎_elim
        (λ e. (let same : length (y.meant.memory k) ≡ length (y.meant.memory comp) =
        ap (λ c. length (y.meant.memory c)) e in
        omega (arith, same, length_opened comp f.cells args y.meant.memory k e)))
        (λ n. (let same : length (memory_opened comp f.cells args y.meant.memory k) ≡ length (y.meant.memory k) =
        ap length (opened_there k n) in omega (arith, same))) (cases_eq k comp)

    pub settled_started : Settled T Q y → Settled T Q started
    settled_started s =
        settled_elsewhere y started.meant.memory started.meant.frames (record {
          same = opened_there;
          longer = opened_longer;
          depths = λ k n. depth_begun_else k comp f y.meant args n;
          timed = timed_opened (length y.meant.trace) comp f.frame_size y.meant.frames s.timed;
        }) s

    module _ (z : Joint) where
      abbrev pub finished : Joint
      finished = record z { meant = done comp f first z.meant }

      closed_there : (k : ℕ) → k ≢ comp →
          memory_closed comp first (length f.cells) z.meant.memory k ≡ z.meant.memory k
      closed_there k n = rw (ne_eqb k comp n) refl

      pub settled_finished : Settled T Q z → Settled T Q finished
      settled_finished s =
          settled_elsewhere z finished.meant.memory finished.meant.frames (record {
            same = closed_there;
            longer = λ k. omega (arith, length_closed comp first (length f.cells) z.meant.memory k);
            depths = λ k n. depth_done_else k comp f z.meant first n;
            timed = timed_closed (length z.meant.trace) comp f.frame_size z.meant.frames s.timed;
          }) s

      depths_same : Effect T Q started z → (k : ℕ) → stack_depth k finished.meant ≡ stack_depth k y.meant
      depths_same effect k = ⊎_elim
          (λ e. omega (
            arith,
            depth_done k comp f z.meant first e,
            depth_begun k comp f y.meant args e,
            effect.depths k,
          ))
          (λ d. omega (
            arith,
            depth_done_else k comp f z.meant first d,
            depth_begun_else k comp f y.meant args d,
            effect.depths k,
          ))
          (cases_eq k comp)

      protected_started : (k q : ℕ) → Protected T Q y.inj y.meant.memory k q →
          Protected T Q started.inj started.meant.memory k q
      protected_started k q p = record {
        honest = p.honest;
        guard = record {
          owned = p.guard.owned;
          below = p.guard.below;
          free = λ b a cells live at.
              p.guard.free b a cells
              (was_live y.meant.memory started.meant.memory k b cells (opened_there k (other_than k p.honest)) live) at;
        };
        own = p.own;
        other = p.other;
      }

      -- of the whole call
      pub effect_whole : Effect T Q started z → Effect T Q y finished
      effect_whole effect = record {
        grows = effect.grows;
        lived = λ k b cells honest live. ⊎_elim
            (λ was. inl (
              was.0,
              was_live y.meant.memory started.meant.memory k b was.0 (opened_there k (other_than k honest)) was.1,
              was.2,
            )) (λ far. inr far) (effect.lived k b cells honest
            (was_live z.meant.memory finished.meant.memory k b cells (closed_there k (other_than k honest)) live));
        keeps = λ k q p. effect.keeps k q (protected_started k q p);
        depths = depths_same effect;
      }
