-- What straight code of the running call leaves in places of temporaries, and from where a call that it makes is seen.
use Rattle.sc_emit_relation.proofs.Common.{Activation, All, ByteMemory as Bytes, Effect, Emits, FrameMatches, InPlace}
use Rattle.sc_emit_relation.proofs.Common.{IsClear, Joint, Leads, List, Lives, None, Option, Overflows, Piece, Place}
use Rattle.sc_emit_relation.proofs.Common.{Point, Protected, Ready, Register, Registers, Running, Setting, Settled}
use Rattle.sc_emit_relation.proofs.Common.{Some, Standpoint, StandsFor, State as Meant, TempSet, Temps, Value, ahead_at}
use Rattle.sc_emit_relation.proofs.Common.{all_at, and_from, arith, false, is_one, live_across, ne_eqb, not}
use Rattle.sc_emit_relation.proofs.Common.{one_or_none, or_right, own_words, plain_points, refl, register_of, seen_from}
use Rattle.sc_emit_relation.proofs.Common.{slice_get, sp, subst, suc, sym, true, wanted, word, ℕ, ◌+◌, ◌∙◌, ◌≡◌, ◌≢◌}
use Rattle.sc_tac.specs.Prelude.{plain}
use Rattle.sc_emit_relation.proofs.Wanted.{clear_wanted, wanted_less}
use Rattle.sc_emit_relation.proofs.Held.{PlaceKept, held_kept, held_over_call, kept_all, kept_but_register}
use Rattle.sc_emit_relation.proofs.Registers.{HasNoOtherUse}
use Rattle.sc_emit_relation.proofs.Storing.{CellsKept}
use Rattle.sc_emit_relation.proofs.Stretches.{protected_on}

-- What is live.

not_one : (t d : ℕ) → t ≢ d → not (is_one t (one_or_none (Some d))) ≡ true
not_one t d n = rw (ne_eqb d t (λ e. n (sym e))) refl

module _ (reads : List ℕ) (assigned : Option ℕ) (lives : Lives) where
  -- what is live before a statement without others inside
  abbrev pub live_plain : TempSet
  live_plain t = (plain t reads assigned).first (ahead_at lives t)

  -- what is live after it and isn't assigned
  pub across_live : (t : ℕ) → live_across reads false assigned lives t ≡ true → live_plain t ≡ true
  across_live t is = or_right (is_one t reads) _ is

pub after_live : (reads : List ℕ) (lives : Lives) (t d : ℕ) → lives.following t ≡ true → t ≢ d →
    live_plain reads (Some d) lives t ≡ true
after_live reads lives t d on n =
    or_right (is_one t reads) _ (and_from (not (is_one t (one_or_none (Some d)))) (lives.following t) (not_one t d n)
    on)

pub after_unassigned : (reads : List ℕ) (lives : Lives) (t : ℕ) → lives.following t ≡ true →
    live_plain reads None lives t ≡ true
after_unassigned reads lives t on = or_right (is_one t reads) _ on

module _ (T : Setting) (R : Running) where
  abbrev A : Activation
  A = R.activation

  abbrev P : Standpoint
  P = seen_from R.activation

  -- what a statement leaves that assigns: a value in its place, and each other place as it was
  pub record Assigns (x : Joint) (place : Place) (v : Value) (regs : Registers) (later : Bytes) : Type 0 where
    pub sp : regs sp ≡ x.regs sp
    pub value : InPlace A x.inj regs later place v
    pub others : (other : Place) → other ≢ place → PlaceKept A x.regs regs x.bytes later other
    pub ra : word later A.sp ≡ word x.bytes A.sp
    pub cells : CellsKept T.performs x.inj x.meant.memory x.bytes later
    pub keeps : (k q : ℕ) → Protected T P x.inj x.meant.memory k q → word later q ≡ word x.bytes q

  -- the value goes into a register, with memory as it was
  pub assigns_register : (x : Joint) (r : ℕ) (v : Value) (regs : Registers) → regs sp ≡ x.regs sp →
      StandsFor (x.inj A.here.comp) (regs (register_of r)) v →
      ((q : ℕ) → HasNoOtherUse q → q ≢ register_of r → regs q ≡ x.regs q) → Assigns x (Register r) v regs x.bytes
  assigns_register x r v regs same stands others = record {
    sp = same;
    value = stands;
    others = kept_but_register A x.regs regs x.bytes r others;
    ra = refl;
    cells = λ k b a i cells h live e l. refl;
    keeps = λ k q p. refl;
  }

  -- A call.

  -- from where a call that the running call makes is seen: its frame belongs to what lies above
  abbrev pub call_from : Standpoint
  call_from = record { comp = A.here.comp; cross = A.cross; bound = A.sp; floor = A.floor }

  pub settled_from : (x : Joint) → Settled T call_from x → Settled T P x
  settled_from x s = record {
    blocks = s.blocks;
    globals = s.globals;
    saved = s.saved;
    zones = s.zones;
    inputs = s.inputs;
    steady = s.steady;
    came = s.came;
    depth = s.depth;
    timed = s.timed;
  }

  pub settled_to : (x : Joint) → Settled T P x → Settled T call_from x
  settled_to x s = record {
    blocks = s.blocks;
    globals = s.globals;
    saved = s.saved;
    zones = s.zones;
    inputs = s.inputs;
    steady = s.steady;
    came = s.came;
    depth = s.depth;
    timed = s.timed;
  }

  -- what lies above the frame lies above what is called
  pub leads_from : (x y : Joint) (budget left : ℕ) → Leads T call_from x y budget left → Leads T P x y budget left
  leads_from x y budget left l = record {
    steps = l.steps;
    run = l.run;
    costs = l.costs;
    effect = record {
      grows = l.effect.grows;
      lived = l.effect.lived;
      keeps = λ k q p. l.effect.keeps k q (record {
        honest = p.honest;
        guard = p.guard;
        own = λ e. omega (arith, p.own e);
        other = p.other;
      });
      depths = l.effect.depths;
    };
  }

  pub emits_from : (x : Joint) (budget : ℕ) (meant : Meant) → Emits T call_from x budget meant → Emits T P x budget
      meant
  emits_from x budget meant g = record {
    steps = g.steps;
    reached = g.reached;
    run = g.run;
    trace = g.trace;
    costs = g.costs;
  }

  pub overflows_from : {V : Type 0} (x : Joint) (budget : ℕ) (piece : Piece V) → Overflows T call_from x budget piece →
      Overflows T P x budget piece
  overflows_from x budget piece o = record {
    steps = o.steps;
    reached = o.reached;
    run = o.run;
    traps = o.traps;
    lacks = o.lacks;
    taken = o.taken;
    honest = o.honest;
    begun = o.begun;
    trace = o.trace;
    deep = o.deep;
    timed = o.timed;
    grown = o.grown;
    costs = o.costs;
  }

  module _ (honest : T.performs R.activation.here.comp ≡ false) (x y : Joint) (effect : Effect T call_from x y) where
    -- the frame's words are protected from what is called
    own_protected : (i offset : ℕ) → FrameMatches T.image A x.inj x.meant.memory x.bytes →
        slice_get (own_words A.frame) i ≡ Some offset →
        Protected T call_from x.inj x.meant.memory A.here.comp (A.sp + offset)
    own_protected i offset frame e = record {
      honest = honest;
      guard = frame.guard i offset e;
      own = λ same. omega arith;
      other = λ n. absurd (n refl);
    }

    own_same : (i offset : ℕ) → FrameMatches T.image A x.inj x.meant.memory x.bytes →
        slice_get (own_words A.frame) i ≡ Some offset →
        word y.bytes (A.sp + offset) ≡ word x.bytes (A.sp + offset)
    own_same i offset frame e =
        effect.keeps A.here.comp (A.sp + offset) (own_protected i offset frame e)

    pub frame_over_call : Settled T call_from x → FrameMatches T.image A x.inj x.meant.memory x.bytes →
        FrameMatches T.image A y.inj y.meant.memory y.bytes
    frame_over_call s frame = record {
      ra =
          (let here : A.sp + 0 ≡ A.sp = omega arith in
          subst (λ q. word y.bytes q ≡ word x.bytes q) here (own_same 0 0 frame refl) ∙ frame.ra);
      guard = λ i offset e.
          (protected_on T call_from x y A.here.comp (A.sp + offset) s effect (own_protected i offset frame e)).guard;
      objects = λ object offset e. effect.grows A.here.comp (A.here.first + object) (A.sp + offset)
          (frame.objects object offset e);
    }

    pub over_call : (live : TempSet) (point : Point) (temps : Temps) → Ready T R live temps x → IsClear R.places point →
        point.calls ≡ true → ((t : ℕ) → point.live t ≡ true → live t ≡ true) → Settled T call_from y →
        y.regs sp ≡ x.regs sp → Ready T R point.live temps y
    over_call live point temps ready clear calls fewer settled same = record {
      settled = settled_from y settled;
      frame = frame_over_call (settled_to x ready.settled) ready.frame;
      held = held_over_call A R.places x.inj y.inj x.regs y.regs x.bytes y.bytes (effect.grows A.here.comp)
          (wanted R.plan.needed live) (record point { live = wanted R.plan.needed point.live }) temps
          (clear_wanted R.places R.plan.needed point clear) calls (wanted_less R.plan.needed point.live live fewer)
          (λ k offset e. own_same (suc k) offset ready.frame e) ready.held;
      sp = same ∙ ready.sp;
    }

    -- after the call of a statement that calls: what isn't assigned by it is as it was
    pub called : (reads : List ℕ) (dest : Option ℕ) (lives : Lives) (temps : Temps) →
        Ready T R (live_plain reads dest lives) temps x →
        All (IsClear R.places) (plain_points reads true dest lives) → Settled T call_from y →
        y.regs sp ≡ x.regs sp → Ready T R (live_across reads true dest lives) temps y
    called reads dest lives temps ready clear settled same =
        over_call (live_plain reads dest lives)
        (record { assigned = None; calls = true; live = live_across reads true dest lives })
        temps ready (all_at (IsClear R.places) (plain_points reads true dest lives) 1 _ clear refl) refl
        (across_live reads dest lives) settled same

    -- after an environment call that leaves registers with no other use as they were, all is as it was
    pub asked : (live : TempSet) (temps : Temps) → Ready T R live temps x → Settled T call_from y →
        y.regs sp ≡ x.regs sp → ((q : ℕ) → HasNoOtherUse q → y.regs q ≡ x.regs q) → Ready T R live temps y
    asked live temps ready settled same others = record {
      settled = settled_from y settled;
      frame = frame_over_call (settled_to x ready.settled) ready.frame;
      held = held_kept A R.places x.inj y.inj x.regs y.regs x.bytes y.bytes (effect.grows A.here.comp)
          (wanted R.plan.needed live) (wanted R.plan.needed live) temps (λ t on. on)
          (λ t place on e. kept_all A x.regs y.regs x.bytes y.bytes others
          (λ k offset f. own_same (suc k) offset ready.frame f) place) ready.held;
      sp = same ∙ ready.sp;
    }
