-- States of the run of the texts beside states of the run in which compartments perform, and pieces of both runs.
use Rattle.sc_back_replay_laws.proofs.Common.{Blocks, Bool, Event, FrameChange, Function, List, Option, Piece, Reached}
use Rattle.sc_back_replay_laws.proofs.Common.{Roles, State, Stopped, Value, [], and_then, ap, ap₂, arith, begun}
use Rattle.sc_back_replay_laws.proofs.Common.{blocks_for, both_ways, cases_eq, count_of, counts_its_own, done}
use Rattle.sc_back_replay_laws.proofs.Common.{emit_event, ended, eq-eqb, false, filter, if◌then◌else◌, length, ne_eqb}
use Rattle.sc_back_replay_laws.proofs.Common.{performer, refl, suc, sym, true, with_blocks, ℕ, ⊎_elim, ◌++◌, ◌==◌, ◌∙◌}
use Rattle.sc_back_replay_laws.proofs.Common.{◌∷◌, ◌≡◌, ◌≤◌}
use Rattle.sc_core.specs.declared.run.RunEnd.{RunEnd}
use Rattle.sc_back_replay_laws.proofs.Text.{counted, counting}

-- PIECES OF BOTH RUNS
-- both reached something, in such states, or both stopped so, with the same events
pub data Both {V : Type 0} (R : V → V → State → State → Type 0) : Piece V → Piece V → Type 0 where
  reached : {v w : V} {s s' : State} → R v w s s' → Both R (Reached v s) (Reached w s')
  stopped : (end : RunEnd) {s s' : State} → s.trace ≡ s'.trace → Both R (Stopped end s) (Stopped end s')

pub both_then : {V W : Type 0} (R : V → V → State → State → Type 0) (Q : W → W → State → State → Type 0)
    (o p : Piece V) (f g : V → State → Piece W) → Both R o p →
    ((v w : V) (s s' : State) → R v w s s' → Both Q (f v s) (g w s')) → Both Q (and_then o f) (and_then p g)
both_then R Q _ _ f g (reached {v = v} {w = w} {s = s} {s' = s'} r) go = go v w s s' r
both_then R Q _ _ f g (stopped end same) go = stopped end same

pub both_so : {V : Type 0} (R Q : V → V → State → State → Type 0) (o p : Piece V) → Both R o p →
    ((v w : V) (s s' : State) → R v w s s' → Q v w s s') → Both Q o p
both_so R Q _ _ (reached {v = v} {w = w} {s = s} {s' = s'} r) go = reached (go v w s s' r)
both_so R Q _ _ (stopped end same) go = stopped end same

-- COUNTERS
-- the events of each compartment in a trace
abbrev pub counts : List Event → ℕ → ℕ
counts trace c = count_of c trace

-- other numbers, but this one for one compartment
abbrev pub with_count : ℕ → ℕ → (ℕ → ℕ) → ℕ → ℕ
with_count c n counters d = if d == c then n else counters d

-- the counters where a compartment has set its own for an event that isn't emitted yet
abbrev pub ahead : ℕ → List Event → ℕ → ℕ
ahead c trace = with_count c (suc (count_of c trace)) (counts trace)

pub count_other : (c : ℕ) (u : List Event) (e : Event) → (performer e ≡ c → ⊥) →
    count_of c (u ++ e ∷ []) ≡ count_of c u
count_other c [] e ne = ap (λ b. length (if b then e ∷ [] else [])) (ne_eqb (performer e) c ne)
count_other c (x ∷ u) e ne = by_first (performer x == c) (count_other c u e ne) where
  by_first : (b : Bool) → count_of c (u ++ e ∷ []) ≡ count_of c u →
      length (if b then x ∷ filter (λ event. performer event == c) (u ++ e ∷ []) else
      filter (λ event. performer event == c) (u ++ e ∷ [])) ≡
      length (if b then x ∷ filter (λ event. performer event == c) u else filter (λ event. performer event == c) u)
  by_first true h = ap suc h
  by_first false h = h

-- once the event is emitted, the counters are right again
pub count_ahead : (c : ℕ) (u : List Event) (e : Event) → performer e ≡ c → (d : ℕ) →
    ahead c u d ≡ count_of d (u ++ e ∷ [])
count_ahead c u e own d =
    ⊎_elim (λ is. ap (λ b. if b then suc (count_of c u) else count_of d u) (eq-eqb d c is) ∙
    sym (counts_its_own c u e own) ∙ ap (λ x. count_of x (u ++ e ∷ [])) (sym is))
    (λ ne. ap (λ b. if b then suc (count_of c u) else count_of d u) (ne_eqb d c ne) ∙
    sym (count_other d u e (λ q. ne (sym q ∙ own)))) (cases_eq d c)

module _ (roles : Roles) (most : ℕ) where
  -- the same events, turns and inputs; the compartments that don't perform have the same blocks, and each that does has
  -- its counter as the first block
  pub record NearBy (counters : ℕ → ℕ) (s s' : State) : Type 0 where
    pub trace : s.trace ≡ s'.trace
    pub turns : s.turns ≡ s'.turns
    pub inputs : s.inputs ≡ s'.inputs
    pub few : s.turns ≤ most
    pub memory : (c : ℕ) → roles.scripted c ≡ false → s.memory c ≡ s'.memory c
    pub counter : (c : ℕ) → roles.scripted c ≡ true → (rest : Blocks) × (s.memory c ≡ counting (counters c) ∷ rest)

  -- between two events the counters are those of the trace
  abbrev pub Near : State → State → Type 0
  Near s s' = NearBy (counts s.trace) s s'

  -- the counter of a compartment is set
  pub near_counted : (counters : ℕ → ℕ) (s s' : State) (c n : ℕ) (rest : Blocks) → roles.scripted c ≡ true →
      NearBy counters s s' → NearBy (with_count c n counters) (counted c n rest s) s'
  near_counted counters s s' c n rest set near = record {
    trace = near.trace;
    turns = near.turns;
    inputs = near.inputs;
    few = near.few;
    memory = λ d clear.
        ap (λ b. if b then counting n ∷ rest else s.memory d)
        (ne_eqb d c (λ q. both_ways (roles.scripted d) clear (ap roles.scripted q ∙ set))) ∙ near.memory d clear;
    counter = λ d performs.
        ⊎_elim (λ q. (
          rest,
          ap (λ b. if b then counting n ∷ rest else s.memory d) (eq-eqb d c q) ∙
              ap (λ b. counting (if b then n else counters d) ∷ rest) (sym (eq-eqb d c q)),
        ))
        (λ ne. (
          (near.counter d performs).0,
          ap (λ b. if b then counting n ∷ rest else s.memory d) (ne_eqb d c ne) ∙ (near.counter d performs).1 ∙
              ap (λ b. counting (if b then n else counters d) ∷ (near.counter d performs).0) (sym (ne_eqb d c ne)),
        )) (cases_eq d c);
  }

  -- as many turns are left in both
  pub near_turns : (counters : ℕ → ℕ) (n : ℕ) (s s' : State) → n ≤ most → NearBy counters s s' →
      NearBy counters (record s { turns = n }) (record s' { turns = n })
  near_turns counters n s s' few near = record {
    trace = near.trace;
    turns = refl;
    inputs = near.inputs;
    few = few;
    memory = near.memory;
    counter = near.counter;
  }

  -- once this event is emitted, the counters are those of the trace
  abbrev pub Emitted : (ℕ → ℕ) → Event → List Event → Type 0
  Emitted counters e u = (d : ℕ) → roles.scripted d ≡ true → counters d ≡ count_of d (u ++ e ∷ [])

  pub emitted_ahead : (c : ℕ) (e : Event) (u : List Event) → performer e ≡ c → Emitted (ahead c u) e u
  emitted_ahead c e u own d performs = count_ahead c u e own d

  pub emitted_other : (c : ℕ) (e : Event) (u : List Event) → performer e ≡ c → roles.scripted c ≡ false →
      Emitted (counts u) e u
  emitted_other c e u own clear d performs =
      sym (count_other d u e (λ q. both_ways (roles.scripted d) (ap roles.scripted (sym q ∙ own) ∙ clear) performs))

  pub near_emitted : (counters : ℕ → ℕ) (s s' : State) (e e' : Event) → e ≡ e' → Emitted counters e s.trace →
      NearBy counters s s' → Near (emit_event e s) (emit_event e' s')
  near_emitted counters s s' e e' same emitted near = record {
    trace = ap₂ (λ u x. u ++ x ∷ []) near.trace same;
    turns = near.turns;
    inputs = near.inputs;
    few = near.few;
    memory = near.memory;
    counter = λ d performs. (
      (near.counter d performs).0,
      (near.counter d performs).1 ∙ ap (λ n. counting n ∷ (near.counter d performs).0) (emitted d performs),
    );
  }

  -- the blocks of a compartment change, and frames
  near_blocks : (counters : ℕ → ℕ) (s s' : State) (c : ℕ) (x x' : Blocks) (frames frames' : List FrameChange) →
      (roles.scripted c ≡ false → x ≡ x') →
      (roles.scripted c ≡ true → (rest : Blocks) × (x ≡ counting (counters c) ∷ rest)) → NearBy counters s s' →
      NearBy counters (record s { memory = with_blocks c x s.memory; frames = frames })
      (record s' { memory = with_blocks c x' s'.memory; frames = frames' })
  near_blocks counters s s' c x x' frames frames' kept performing near = record {
    trace = near.trace;
    turns = near.turns;
    inputs = near.inputs;
    few = near.few;
    memory = λ d clear.
        ⊎_elim (λ q. ap₂ (λ b y. if b then y else s.memory d) (eq-eqb d c q)
        (kept (ap roles.scripted (sym q) ∙ clear)) ∙ ap (λ b. if b then x' else s'.memory d) (sym (eq-eqb d c q)))
        (λ ne. ap (λ b. if b then x else s.memory d) (ne_eqb d c ne) ∙ near.memory d clear ∙
        ap (λ b. if b then x' else s'.memory d) (sym (ne_eqb d c ne))) (cases_eq d c);
    counter = λ d performs.
        ⊎_elim (λ q. let h = performing (ap roles.scripted (sym q) ∙ performs) in (
          h.0,
          ap (λ b. if b then x else s.memory d) (eq-eqb d c q) ∙ h.1 ∙
              ap (λ y. counting (counters y) ∷ h.0) (sym q),
        ))
        (λ ne. (
          (near.counter d performs).0,
          ap (λ b. if b then x else s.memory d) (ne_eqb d c ne) ∙ (near.counter d performs).1,
        )) (cases_eq d c);
  }

  -- a call that begins in a compartment; a kept function is the same in both runs
  pub near_begun : (counters : ℕ → ℕ) (s s' : State) (c : ℕ) (f f' : Function) (args : List Value) →
      (roles.scripted c ≡ false → f.cells ≡ f'.cells) → NearBy counters s s' →
      NearBy counters (begun c f args s) (begun c f' args s')
  near_begun counters s s' c f f' args cells near =
      near_blocks counters s s' c (s.memory c ++ blocks_for f.cells args) (s'.memory c ++ blocks_for f'.cells args) _ _
      (λ clear. ap₂ (λ x y. x ++ blocks_for y args) (near.memory c clear) (cells clear))
      (λ performs. (
        (near.counter c performs).0 ++ blocks_for f.cells args,
        ap (λ x. x ++ blocks_for f.cells args) (near.counter c performs).1,
      )) near

  -- where the blocks of a call begin: after the counter, where the compartment performs
  pub record Firsts (c first first' : ℕ) : Type 0 where
    pub kept : roles.scripted c ≡ false → first ≡ first'
    pub following : roles.scripted c ≡ true → (n : ℕ) × (first ≡ suc n)

  pub firsts : (counters : ℕ → ℕ) (s s' : State) (c : ℕ) → NearBy counters s s' →
      Firsts c (length (s.memory c)) (length (s'.memory c))
  firsts counters s s' c near = record {
    kept = λ clear. ap length (near.memory c clear);
    following = λ performs. (length (near.counter c performs).0, ap length (near.counter c performs).1);
  }

  pub near_done : (counters : ℕ → ℕ) (s s' : State) (c first first' : ℕ) (f f' : Function) →
      (roles.scripted c ≡ false → f.cells ≡ f'.cells) → Firsts c first first' → NearBy counters s s' →
      NearBy counters (done c f first s) (done c f' first' s')
  near_done counters s s' c first first' f f' cells at near =
      near_blocks counters s s' c (ended first (length f.cells) (s.memory c))
      (ended first' (length f'.cells) (s'.memory c)) _ _
      (λ clear. (λ i. ended (at.kept clear i) (length (cells clear i)) (near.memory c clear i)))
      (λ performs. (
        ended (at.following performs).0 (length f.cells) (near.counter c performs).0,
        ap₂ (λ n x. ended n (length f.cells) x) (at.following performs).1 (near.counter c performs).1,
      )) near

  -- WHAT PIECES REACH
  -- the same, in near states
  pub record Reaches {V : Type 0} (v w : V) (s s' : State) : Type 0 where
    pub same : v ≡ w
    pub near : Near s s'

  -- a function of this compartment reaches its end: its return is emitted by the caller, so that its counter is ahead
  pub record Returns (c : ℕ) (v w : Option Value) (s s' : State) : Type 0 where
    pub same : v ≡ w
    pub near : NearBy (ahead c s.trace) s s'

-- with a greater bound on the turns
pub near_within : (roles : Roles) (most more : ℕ) (counters : ℕ → ℕ) (s s' : State) → most ≤ more →
    NearBy roles most counters s s' → NearBy roles more counters s s'
near_within roles most more counters s s' le near = record {
  trace = near.trace;
  turns = near.turns;
  inputs = near.inputs;
  few = (let few : s.turns ≤ most = near.few in omega (arith, le, few));
  memory = near.memory;
  counter = near.counter;
}

-- with a bound that the turns keep
pub near_below : (roles : Roles) (most less : ℕ) (counters : ℕ → ℕ) (s s' : State) → s.turns ≤ less →
    NearBy roles most counters s s' → NearBy roles less counters s s'
near_below roles most less counters s s' few near = record {
  trace = near.trace;
  turns = near.turns;
  inputs = near.inputs;
  few = few;
  memory = near.memory;
  counter = near.counter;
}
