-- Jumps inside the code of a function: over lines, and back.
use Rattle.sc_emit_relation.proofs.Common.{Arrives, Break, Continue, Fetches, Follows, IsInside, IsWellFormed, Jal}
use Rattle.sc_emit_relation.proofs.Common.{Joint, Leads, Ready, Running, Setting, Some, Standpoint, TempSet, Temps}
use Rattle.sc_emit_relation.proofs.Common.{add_word, ap, arith, breaking, code_inside, continuing, inl, is_some, jal}
use Rattle.sc_emit_relation.proofs.Common.{leave, machine, neg_ℤ, pos, refl, seen_from, stays, suc, trail_step}
use Rattle.sc_emit_relation.proofs.Common.{walks_steady, word_at, word_of, world_at, zero, ℕ, ℤ, ◌*◌, ◌+◌, ◌-◌, ◌<◌}
use Rattle.sc_emit_relation.proofs.Common.{◌^◌, ◌∙◌, ◌≡◌, ◌≤◌}
use Rattle.sc_emit_relation.proofs.Coming.{came_by}
use Rattle.sc_tac.specs.declared.stmt.TacStmt.TheOpen as tac
use Rattle.sc_emit_relation.proofs.Stretches.{effect_still, arrives_with}
use Rattle.sc_emit_relation.proofs.Running.{IsRunning}

-- minus `n` bytes, as a word
neg_word : (n : ℕ) → 0 < n → n < 2 ^ 32 → word_of (neg_ℤ (pos n)) ≡ 2 ^ 32 - n
neg_word zero h k = absurd (omega (arith, h))
neg_word (suc n) h k = omega (arith, k)

pub back_to : (pc n : ℕ) → 4 * n ≤ pc → pc < 2 ^ 31 → add_word pc (word_of (neg_ℤ (pos (4 * n)))) ≡ pc - 4 * n
back_to pc zero k l = omega (arith, l)
back_to pc (suc n) k l = ap (add_word pc) (neg_word (4 * suc n) (omega arith) (omega arith)) ∙ omega arith

pub over_to : (pc n : ℕ) → pc + 4 * suc n < 2 ^ 31 → add_word pc (word_of (pos (4 * suc n))) ≡ pc + 4 * suc n
over_to pc n h = omega (arith, h)

module _ (T : Setting) (formed : IsWellFormed T.image) (P : Standpoint) where
  -- a jump by one instruction, which changes nothing but pc
  pub jumps : (x : Joint) (imm : ℤ) (target word budget left : ℕ) → Fetches T.image P.comp x.pc (Jal 0 imm) →
      add_word x.pc (word_of imm) ≡ target → word_at T.image P.comp target ≡ Some word → suc left ≤ budget →
      Leads T P x (record x { pc = target }) budget left
  jumps x imm target word budget left f e there h = record {
    steps = 1;
    run = jal T.image T.inputs x.pc x.regs x.bytes (world_at P x) 0 imm target word (omega arith) f e
        (code_inside T.image formed P.comp target word there).aligned there;
    costs = record { least = omega arith; most = λ all. omega (arith, h) };
    effect = effect_still T P x target x.regs;
  }

  pub jumps_once : (x : Joint) (imm : ℤ) (target word budget left : ℕ) (f : Fetches T.image P.comp x.pc (Jal 0 imm))
      (e : add_word x.pc (word_of imm) ≡ target) (there : word_at T.image P.comp target ≡ Some word)
      (h : suc left ≤ budget) → (jumps x imm target word budget left f e there h).steps ≡ 1
  unfolding jumps
  jumps_once x imm target word budget left f e there h = refl

module _ {T : Setting} {R : Running} (valid : IsRunning T R) where
  abbrev P : Standpoint
  P = seen_from R.activation

  abbrev comp : ℕ
  comp = R.activation.here.comp

  -- where a state is that differs in its pc and in registers that nothing looks at
  pub ready_at : (live : TempSet) (temps : Temps) (x : Joint) (pc budget left : ℕ) →
      Leads T P x (record x { pc = pc }) budget left → Ready T R live temps x → Ready T R live temps (record x {
        pc
            = pc;
      })
  ready_at live temps x pc budget left leads ready = record {
    settled = record {
      blocks = ready.settled.blocks;
      globals = ready.settled.globals;
      saved = ready.settled.saved;
      zones = ready.settled.zones;
      inputs = ready.settled.inputs;
      steady =
          walks_steady T.image T.inputs valid.formed valid.inputs leads.steps (machine P x)
          (machine P (record x { pc = pc })) leads.run ready.settled.steady;
      came =
          came_by T leads.steps (machine P x) (machine P (record x { pc = pc })) leads.run ready.settled.came;
      depth = ready.settled.depth;
      timed = ready.settled.timed;
    };
    frame = ready.frame;
    held = ready.held;
    sp = ready.sp;
  }

  -- a jump over `lines` lines arrives after them
  pub over : (live : TempSet) (temps : Temps) (x : Joint) (lines left : ℕ) → Ready T R live temps x →
      Fetches T.image comp x.pc (Jal 0 (pos (4 * suc lines))) → x.pc + 4 * suc lines ≤ R.last →
      Arrives T R live x (suc left) left temps x.meant (x.pc + 4 * suc lines)
  over live temps x lines left ready code fits =
      let here : IsInside x.pc = code_inside T.image valid.formed comp x.pc code.word code.fetched in
      let there = valid.gapless x.pc (x.pc + 4 * suc lines) (ap is_some code.fetched) (omega arith) fits
      (omega (arith, here.aligned)) in
      let low : IsInside (x.pc + 4 * suc lines) = code_inside T.image valid.formed comp (x.pc + 4 * suc
      lines) there.0 there.1 in
      let leads : Leads T P x (record x { pc = x.pc + 4 * suc lines }) (suc left) left =
      jumps T valid.formed P x (pos (4 * suc lines)) (x.pc + 4 * suc lines) there.0 (suc left) left code
      (over_to x.pc lines (omega (arith, low.low))) there.1 (omega arith) in
      record {
        y = record x { pc = x.pc + 4 * suc lines };
        meant_is = refl;
        pc_is = refl;
        leads = leads;
        ready = ready_at live temps x (x.pc + 4 * suc lines) (suc left) left leads ready;
      }

  pub break_follows : Follows T R (leave Break) breaking (trail_step tac.Break)
  break_follows = record {
    sized = λ to_break to_continue. refl;
    closed = λ to_break to_continue. refl;
    goes = λ temps. stays (record { exit = Break; carried = temps });
    runs = λ lives temps x left to_break to_continue starts.
        inl (arrives_with T R lives.broken x (suc left) (1 + left) left left temps x.meant (x.pc + 4 * suc to_break)
        (x.pc + 4 * (1 + to_break)) (omega arith) (omega arith) (omega arith)
        (over lives.broken temps x to_break left starts.ready starts.stands.0 (omega (arith, starts.breaks))));
  }

  pub continue_follows : Follows T R (leave Continue) continuing (trail_step tac.Continue)
  continue_follows = record {
    sized = λ to_break to_continue. refl;
    closed = λ to_break to_continue. refl;
    goes = λ temps. stays (record { exit = Continue; carried = temps });
    runs = λ lives temps x left to_break to_continue starts.
        inl (arrives_with T R lives.continued x (suc left) (1 + left) left left temps x.meant
        (x.pc + 4 * suc to_continue) (x.pc + 4 * (1 + to_continue)) (omega arith) (omega arith) (omega arith)
        (over lives.continued temps x to_continue left starts.ready starts.stands.0 (omega (arith, starts.continues))));
  }
