-- Calls of the environment.
use Rattle.sc_emit_run_laws.proofs.Common.{All, ComesBack, Ecall, Fetches, In, Input, IsAt, IsWellFormed, IsWord, Joint}
use Rattle.sc_emit_run_laws.proofs.Common.{List, None, Out, Output, Setting, Settled, Some, Standpoint, StandsFor}
use Rattle.sc_emit_run_laws.proofs.Common.{Walks, Word, [], a0, a7, ap, arith, came_by, drop, drop_next, emit_event}
use Rattle.sc_emit_run_laws.proofs.Common.{inl, input_at, listed, machine, may_input, may_output, next_input, put}
use Rattle.sc_emit_run_laws.proofs.Common.{put_here, put_there, read_input, read_listed, refl, sp, steps_emit, subst}
use Rattle.sc_emit_run_laws.proofs.Common.{suc, sym, true, walks_steady, write_listed, written, zero, ℕ, ◌++◌, ◌+◌, ◌∙◌}
use Rattle.sc_emit_run_laws.proofs.Common.{◌∷◌, ◌≡◌}
use Rattle.sc_image.specs.Prelude.{MachineState}
use Rattle.sc_emit_run_laws.proofs.Turning.{before_timed}

-- The next input.

pub next_at : (inputs : List ℕ) (k : ℕ) → next_input (drop k inputs) ≡ input_at inputs k
next_at [] zero = refl
next_at [] (suc k) = refl
next_at (w ∷ inputs) zero = refl
next_at (w ∷ inputs) (suc k) = next_at inputs k

module _ (T : Setting) (formed : IsWellFormed T.image) (inputs : All IsWord T.inputs) (P : Standpoint) (x : Joint)
    (settled : Settled T P x) (asks : Fetches T.image P.comp x.pc Ecall) where
  is_at : IsAt T.image (machine P x) Ecall
  is_at = record { word = asks.word; fetched = asks.fetched; decodes = asks.decodes }

  module _ (asked : x.regs a7 ≡ 1) (may : may_input T.image P.comp ≡ true) where
    abbrev w : ℕ
    w = next_input x.meant.inputs

    -- with these registers, and this word read
    abbrev read : List ℕ → ℕ → MachineState
    read regs word = record {
      regs = regs;
      pc = x.pc + 4;
      active = P.comp;
      saved = x.saved;
      zones = x.zones;
      memory = x.bytes;
      cross = P.cross;
      input = suc x.input;
      trace = x.meant.trace ++ In P.comp word ∷ [];
    }

    abbrev z : Joint
    z = record x {
      meant = read_input P.comp x.meant;
      pc = x.pc + 4;
      regs = put x.regs a0 w;
      input = suc x.input;
    }

    word_is : input_at T.inputs x.input ≡ w
    word_is = sym (ap next_input settled.inputs ∙ next_at T.inputs x.input)

    walks : Walks T.image T.inputs 1 (machine P x) (machine P z)
    walks =
        subst (λ regs. Walks T.image T.inputs 1 (machine P x) (read regs w)) (write_listed x.regs a0 w (omega arith))
        (subst (λ word. Walks T.image T.inputs 1 (machine P x) (read (written (listed x.regs) a0 word) word)) word_is
        (steps_emit.inputs T.image T.inputs (machine P x) is_at (read_listed x.regs a7 (omega arith) ∙ asked)
        may).walks)

    settled_read : Settled T P z
    settled_read = record {
      blocks = settled.blocks;
      globals = settled.globals;
      saved = settled.saved;
      zones = settled.zones;
      inputs = ap (drop 1) settled.inputs ∙ drop_next T.inputs x.input;
      steady = walks_steady T.image T.inputs formed inputs 1 _ _ walks settled.steady;
      came = came_by T 1 _ _ walks settled.came;
      depth = settled.depth;
      timed = before_timed x.meant.trace (In P.comp w) x.meant.frames settled.timed;
    }

    stands : StandsFor (x.inj P.comp) (put x.regs a0 w a0) (Word w)
    stands = record {
      word = subst IsWord (read_listed (put x.regs a0 w) a0 (omega arith)) (settled_read.steady.words a0);
      means = put_here x.regs a0 w;
    }

    pub input_comes : ComesBack T P x Input (Some (Word w)) (read_input P.comp x.meant)
    input_comes = record {
      y = z;
      meant_is = refl;
      pc = refl;
      sp = put_there x.regs a0 w sp (λ e. omega (arith, e));
      value = stands;
      registers = λ e q n. put_there x.regs a0 w q n;
      leads = record {
        steps = 1;
        run = walks;
        costs = record { least = omega arith; most = λ all. omega arith };
        effect = record {
          grows = λ k b a e. e;
          lived = λ k b cells h live. inl (cells, live, refl);
          keeps = λ k q p. refl;
          depths = λ k. refl;
        };
      };
      settled = settled_read;
    }

  module _ (asked : x.regs a7 ≡ 2) (may : may_output T.image P.comp ≡ true) (w : ℕ) (is : x.regs a0 ≡ w) where
    abbrev observed : ℕ → MachineState
    observed word = record {
      regs = listed x.regs;
      pc = x.pc + 4;
      active = P.comp;
      saved = x.saved;
      zones = x.zones;
      memory = x.bytes;
      cross = P.cross;
      input = x.input;
      trace = x.meant.trace ++ Out P.comp word ∷ [];
    }

    abbrev z' : Joint
    z' = record x { meant = emit_event (Out P.comp w) x.meant; pc = x.pc + 4 }

    walks' : Walks T.image T.inputs 1 (machine P x) (machine P z')
    walks' =
        subst (λ word. Walks T.image T.inputs 1 (machine P x) (observed word))
        (read_listed x.regs a0 (omega arith) ∙ is)
        (steps_emit.outputs T.image T.inputs (machine P x) is_at (read_listed x.regs a7 (omega arith) ∙ asked)
        may).walks

    pub output_comes : ComesBack T P x Output None (emit_event (Out P.comp w) x.meant)
    output_comes = record {
      y = z';
      meant_is = refl;
      pc = refl;
      sp = refl;
      value = tt;
      registers = λ e q n. refl;
      leads = record {
        steps = 1;
        run = walks';
        costs = record { least = omega arith; most = λ all. omega arith };
        effect = record {
          grows = λ k b a e. e;
          lived = λ k b cells h live. inl (cells, live, refl);
          keeps = λ k q p. refl;
          depths = λ k. refl;
        };
      };
      settled = record {
        blocks = settled.blocks;
        globals = settled.globals;
        saved = settled.saved;
        zones = settled.zones;
        inputs = settled.inputs;
        steady = walks_steady T.image T.inputs formed inputs 1 _ _ walks' settled.steady;
        came = came_by T 1 _ _ walks' settled.came;
        depth = settled.depth;
        timed = before_timed x.meant.trace (Out P.comp w) x.meant.frames settled.timed;
      };
    }
