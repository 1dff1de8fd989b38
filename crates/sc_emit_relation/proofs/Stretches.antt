-- Stretches in a row.
use Rattle.sc_emit_relation.proofs.Common.{Arrives, Beside, Break, Comes, Continue, Costs, Effect, Emits, Ends, Exit}
use Rattle.sc_emit_relation.proofs.Common.{ExitGives, Gives, Goes, Grown, Joint, Leads, Left, Lives, Next, Option}
use Rattle.sc_emit_relation.proofs.Common.{Overflows, Piece, Protected, Reached, Registers, Return, Returns, Running}
use Rattle.sc_emit_relation.proofs.Common.{TempSet, Setting, Settled, Standpoint, State as Meant, Stopped, Temps, Value}
use Rattle.sc_emit_relation.proofs.Common.{and_then, arith, inl, inr, last, length, machine, more, refl, same_Some}
use Rattle.sc_emit_relation.proofs.Common.{seen_from, stay, subst, sym, then_from, then_go, ℕ, ⊎_elim, ◌+◌, ◌∙◌, ◌≡◌}
use Rattle.sc_emit_relation.proofs.Common.{◌≤◌}

module _ (T : Setting) (P : Standpoint) where
  -- what is protected stays so
  pub protected_on : (x y : Joint) (k q : ℕ) → Settled T P x → Effect T P x y →
      Protected T P x.inj x.meant.memory k q → Protected T P y.inj y.meant.memory k q
  protected_on x y k q settled effect p = record {
    honest = p.honest;
    guard = record {
      owned = p.guard.owned;
      below = p.guard.below;
      free = λ b a cells live at. ⊎_elim
          (λ old. (let was = settled.blocks.there k b old.0 p.honest old.1 in
          let same : was.0 ≡ a = same_Some was.0 a (sym (effect.grows k b was.0 was.1) ∙ at) in
          subst (λ n. Beside a n q) (sym old.2)
          (subst (λ a. Beside a (length old.0) q) same (p.guard.free b was.0 old.0 old.1 was.1))))
          (λ far. (let same : far.0 ≡ a = same_Some far.0 a (sym far.1 ∙ at) in
          inl (omega (arith, same, far.2, p.guard.below))))
          (effect.lived k b cells p.honest live);
    };
    own = p.own;
    other = p.other;
  }

  pub effect_still : (x : Joint) (pc : ℕ) (regs : Registers) → Effect T P x (record x { pc = pc; regs = regs })
  effect_still x pc regs = record {
    grows = λ k b a h. h;
    lived = λ k b cells s live. inl (cells, live, refl);
    keeps = λ k q p. refl;
    depths = λ k. refl;
  }

  pub effect_none : (x : Joint) → Effect T P x x
  effect_none x = effect_still x x.pc x.regs

  pub effect_then : (x y z : Joint) → Settled T P x → Effect T P x y → Effect T P y z → Effect T P x z
  effect_then x y z settled e f = record {
    grows = λ k b a h. f.grows k b a (e.grows k b a h);
    lived = λ k b cells s live. ⊎_elim
        (λ middle. ⊎_elim (λ old. inl (old.0, old.1, middle.2 ∙ old.2))
        (λ far. inr (far.0, f.grows k b far.0 far.1, far.2)) (e.lived k b middle.0 s middle.1))
        (λ far. inr far) (f.lived k b cells s live);
    keeps = λ k q p. f.keeps k q (protected_on x y k q settled e p) ∙ e.keeps k q p;
    depths = λ k. f.depths k ∙ e.depths k;
  }

  pub costs_none : (budget left : ℕ) (s : Meant) → left ≤ budget → Costs T 0 budget left s s
  costs_none budget left s h = record { least = omega arith; most = λ all. omega (arith, h) }

  pub costs_then : (m n a b c : ℕ) (s t u : Meant) → Costs T m a b s t → Costs T n b c t u → Costs T (m + n) a c s u
  costs_then m n a b c s t u d e = record {
    least = omega (arith, d.least, e.least);
    most = λ all. omega (arith, d.most all, e.most all);
  }

  -- where less is left, or more was there
  pub costs_less : (n a b c d : ℕ) (s t : Meant) → a ≤ c → d ≤ b → Costs T n a b s t → Costs T n c d s t
  costs_less n a b c d s t h k e = record { least = e.least; most = λ all. omega (arith, e.most all, h, k) }

  pub leads_none : (x : Joint) (budget left : ℕ) → left ≤ budget → Leads T P x x budget left
  leads_none x budget left h = record {
    steps = 0;
    run = stay T.image T.inputs;
    costs = costs_none budget left x.meant h;
    effect = effect_none x;
  }

  pub leads_then : (x y z : Joint) (a b c : ℕ) → Settled T P x → Leads T P x y a b → Leads T P y z b c →
      Leads T P x z a c
  leads_then x y z a b c settled l k = record {
    steps = l.steps + k.steps;
    run = then_go T.image T.inputs l.run k.run;
    costs = costs_then l.steps k.steps a b c x.meant y.meant z.meant l.costs k.costs;
    effect = effect_then x y z settled l.effect k.effect;
  }

  pub leads_then_steps : (x y z : Joint) (a b c : ℕ) (settled : Settled T P x) (l : Leads T P x y a b)
      (k : Leads T P y z b c) → (leads_then x y z a b c settled l k).steps ≡ l.steps + k.steps
  unfolding leads_then
  leads_then_steps x y z a b c settled l k = refl

  pub leads_less : (x y : Joint) (a b c d : ℕ) → a ≤ c → d ≤ b → Leads T P x y a b → Leads T P x y c d
  leads_less x y a b c d h k l = record {
    steps = l.steps;
    run = l.run;
    costs = costs_less l.steps a b c d x.meant y.meant h k l.costs;
    effect = l.effect;
  }

  pub emits_after : (x y : Joint) (a b : ℕ) (s : Meant) → Leads T P x y a b → Emits T P y b s → Emits T P x a s
  emits_after x y a b s l g = record {
    steps = l.steps + g.steps;
    reached = g.reached;
    run = then_go T.image T.inputs l.run g.run;
    trace = g.trace;
    costs = costs_then l.steps g.steps a b 0 x.meant y.meant s l.costs g.costs;
  }

  pub emits_less : (x : Joint) (a c : ℕ) (s : Meant) → a ≤ c → Emits T P x a s → Emits T P x c s
  emits_less x a c s h g = record {
    steps = g.steps;
    reached = g.reached;
    run = g.run;
    trace = g.trace;
    costs = costs_less g.steps a 0 c 0 x.meant s h (omega arith) g.costs;
  }

  -- nothing happens
  pub emits_here : (x : Joint) (budget : ℕ) → Emits T P x budget x.meant
  emits_here x budget = record {
    steps = 0;
    reached = machine P x;
    run = stay T.image T.inputs;
    trace = refl;
    costs = costs_none budget 0 x.meant (omega arith);
  }

  -- an overflow after a stretch, and one that something comes after
  pub overflows_after : {V : Type 0} (x y : Joint) (a b : ℕ) (piece : Piece V) → Leads T P x y a b →
      Overflows T P y b piece → Overflows T P x a piece
  overflows_after x y a b piece l o = record {
    steps = l.steps + o.steps;
    reached = o.reached;
    run = then_go T.image T.inputs l.run o.run;
    traps = o.traps;
    lacks = o.lacks;
    taken = o.taken;
    honest = o.honest;
    begun = o.begun;
    trace = o.trace;
    deep = o.deep;
    timed = o.timed;
    grown = o.grown;
    costs = costs_then l.steps o.steps a b 0 x.meant y.meant o.begun l.costs o.costs;
  }

  pub overflows_with : {V W : Type 0} (x : Joint) (a c : ℕ) (piece : Piece V) (whole : Piece W) → a ≤ c →
      Grown (last piece) (last whole) → Overflows T P x a piece → Overflows T P x c whole
  overflows_with x a c piece whole h goes o = record {
    steps = o.steps;
    reached = o.reached;
    run = o.run;
    traps = o.traps;
    lacks = o.lacks;
    taken = o.taken;
    honest = o.honest;
    begun = o.begun;
    trace = o.trace;
    deep = o.deep;
    timed = o.timed;
    grown = more o.begun (last piece) (last whole) o.grown goes;
    costs = costs_less o.steps a 0 c 0 x.meant o.begun h (omega arith) o.costs;
  }

  pub overflows_then : {V W : Type 0} (x : Joint) (a : ℕ) (piece : Piece V) (go : V → Meant → Piece W) →
      ((v : V) → Goes (go v)) → Overflows T P x a piece → Overflows T P x a (and_then piece go)
  overflows_then x a piece go goes o =
      overflows_with x a a piece (and_then piece go) (omega arith) (then_from piece go goes) o

module _ (T : Setting) (R : Running) where
  abbrev P : Standpoint
  P = seen_from R.activation

  arrives_after : (live : TempSet) (x y : Joint) (a b left : ℕ) (temps : Temps) (s : Meant) (pc : ℕ) → Settled T P x →
      Leads T P x y a b → Arrives T R live y b left temps s pc → Arrives T R live x a left temps s pc
  arrives_after live x y a b left temps s pc settled l g = record {
    y = g.y;
    meant_is = g.meant_is;
    pc_is = g.pc_is;
    leads = leads_then T P x y g.y a b left settled l g.leads;
    ready = g.ready;
  }

  returns_after : (x y : Joint) (a b : ℕ) (v : Option Value) (s : Meant) → Settled T P x → Leads T P x y a b →
      Returns T R y b v s → Returns T R x a v s
  returns_after x y a b v s settled l g = record {
    y = g.y;
    meant_is = g.meant_is;
    jump = g.jump;
    ra = g.ra;
    sp = g.sp;
    value = g.value;
    leads = leads_then T P x y g.y a b 1 settled l g.leads;
    settled = g.settled;
  }

  exit_after : (lives : Lives) (x y : Joint) (a b : ℕ) (ends : Ends) (exit : Exit) (temps : Temps) (s : Meant) →
      Settled T P x → Leads T P x y a b → ExitGives T R lives y b ends exit temps s →
      ExitGives T R lives x a ends exit temps s
  exit_after lives x y a b ends Next temps s settled l g =
      arrives_after lives.following x y a b ends.left temps s ends.following settled l g
  exit_after lives x y a b ends Break temps s settled l g =
      arrives_after lives.broken x y a b ends.left temps s ends.broken settled l g
  exit_after lives x y a b ends Continue temps s settled l g =
      arrives_after lives.continued x y a b ends.left temps s ends.continued settled l g
  exit_after lives x y a b ends (Return v) temps s settled l g = returns_after x y a b v s settled l g

  gives_after : (lives : Lives) (x y : Joint) (a b : ℕ) (ends : Ends) (piece : Piece (Left Temps)) → Settled T P x →
      Leads T P x y a b → Gives T R lives y b ends piece → Gives T R lives x a ends piece
  gives_after lives x y a b ends (Reached l s) settled leads g =
      exit_after lives x y a b ends l.exit l.carried s settled leads g
  gives_after lives x y a b ends (Stopped end s) settled leads g = emits_after T P x y a b s leads g

  -- a stretch, and what comes after it
  pub comes_after : (lives : Lives) (x y : Joint) (a b : ℕ) (ends : Ends) (piece : Piece (Left Temps)) →
      Settled T P x → Leads T P x y a b → Comes T R lives y b ends piece → Comes T R lives x a ends piece
  comes_after lives x y a b ends piece settled leads g =
      ⊎_elim (λ h. inl (gives_after lives x y a b ends piece settled leads h))
      (λ o. inr (overflows_after T P x y a b piece leads o)) g

  -- an arrival with other numbers
  pub arrives_with : (live : TempSet) (x : Joint) (a c left less : ℕ) (temps : Temps) (s : Meant) (pc to : ℕ) → a ≤ c →
      less ≤ left → pc ≡ to → Arrives T R live x a left temps s pc → Arrives T R live x c less temps s to
  arrives_with live x a c left less temps s pc to h k same g = record {
    y = g.y;
    meant_is = g.meant_is;
    pc_is = g.pc_is ∙ same;
    leads = leads_less T P x g.y a left c less h k g.leads;
    ready = g.ready;
  }

  pub returns_with : (x : Joint) (a c : ℕ) (v : Option Value) (s : Meant) → a ≤ c → Returns T R x a v s →
      Returns T R x c v s
  returns_with x a c v s h g = record {
    y = g.y;
    meant_is = g.meant_is;
    jump = g.jump;
    ra = g.ra;
    sp = g.sp;
    value = g.value;
    leads = leads_less T P x g.y a 1 c 1 h (omega arith) g.leads;
    settled = g.settled;
  }
