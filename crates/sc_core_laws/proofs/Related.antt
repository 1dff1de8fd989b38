-- Related runs: which relations of two runs the combinators keep.
use Rattle.sc_core_laws.proofs.Common.{Blamed, Blocks, Bool, CallTarget, Calls, Cause, Denotations, Entry, Function}
use Rattle.sc_core_laws.proofs.Common.{Goes, Gone, Grown, Here, List, Meets, Option, Piece, Reached, Result, State}
use Rattle.sc_core_laws.proofs.Common.{Stopped, Value, and_then, arith, computed, false, function, if◌then◌else◌}
use Rattle.sc_core_laws.proofs.Common.{may_call, true, turn, with_blocks, ℕ, ◌<◌, ◌≡◌}
use Rattle.sc_core_laws.proofs.Growing.{then_goes}
use Rattle.sc_core_laws.proofs.Expressions.{Keeps}

-- A relation of two runs: which states are related, and which pieces are.
module _ (P : State → State → Type 0) (R : (V : Type 0) → Piece V → Piece V → Type 0) where
  -- two doings that only go on, and come to related pieces from related states
  pub record Related (V : Type 0) (f g : State → Piece V) : Type 0 where
    pub first : Goes f
    pub second : Goes g
    pub both : (s s' : State) → P s s' → R V (f s) (g s')

  -- what a relation must keep for the combinators to keep it: to reach something, one piece after another, and a turn
  pub record Kept : Type 1 where
    pub reached : (V : Type 0) (v : V) (s s' : State) → P s s' → R V (Reached v s) (Reached v s')
    pub after : (V W : Type 0) (s s' : State) (o p : Piece V) (k l : V → State → Piece W) → P s s' → Gone s o →
        Gone s' p → ((v : V) → Goes (k v)) → ((v : V) → Goes (l v)) → R V o p
        → ((v : V) (t t' : State) → Grown s t → Grown s' t' → P t t' → R W (k v t) (l v t')) →
        R W (and_then o k) (and_then p l)
    pub turned : (W : Type 0) (k l : Unit {0} → State → Piece W) → ((v : Unit {0}) → Goes (k v)) →
        ((v : Unit {0}) → Goes (l v)) → (s s' : State) → P s s'
        → ((t t' : State) → t.turns < s.turns → t'.turns < s'.turns → P t t' → R W (k tt t) (l tt t')) →
        R W (and_then (turn s) k) (and_then (turn s') l)

  -- one doing after another, and what a test decides
  pub then_related : Kept → {V W : Type 0} (f g : State → Piece V) (k l : V → State → Piece W) → Related V f g →
      ((v : V) → Related W (k v) (l v)) → Related W (λ s. and_then (f s) k) (λ s. and_then (g s) l)
  then_related kept {V} {W} f g k l h x = record {
    first = λ s. then_goes s (f s) k (h.first s) (λ v. (x v).first);
    second = λ s. then_goes s (g s) l (h.second s) (λ v. (x v).second);
    both = λ s s' p. kept.after V W s s' (f s) (g s') k l p (h.first s) (h.second s') (λ v. (x v).first)
        (λ v. (x v).second) (h.both s s' p) (λ v t t' up up' q. (x v).both t t' q);
  }

  pub if_related : {V : Type 0} (b : Bool) (f g f' g' : State → Piece V) → Related V f g → Related V f' g' →
      Related V (λ s. if b then f s else f' s) (λ s. if b then g s else g' s)
  if_related true f g f' g' h k = h
  if_related false f g f' g' h k = k

  module _ (Soft : Cause → Type 0) where
    -- what a relation must keep in the calls of a compartment: what is computed in its blocks, and that it stores
    pub record KeptAt (here : Here) : Type 1 where
      pub computing : (V : Type 0) (line : ℕ) (e e' : Blocks → Result V Cause) →
          ((blocks : Blocks) → Keeps Soft V (e blocks) (e' blocks)) → (s s' : State) → P s s'
          → R V (computed here line (e (s.memory here.comp)) s) (computed here line (e' (s'.memory here.comp)) s')
      pub passed : (V : Type 0) (cause : Cause) (line : ℕ) → Soft cause → (s s' : State) → P s s' → (p : Piece V) →
          Gone s' p → R V (Stopped (Blamed here.comp cause line) s) p
      pub stored : (blocks : Blocks) (s s' : State) → P s s' →
          P (record s { memory = with_blocks here.comp blocks s.memory })
          (record s' { memory = with_blocks here.comp blocks s'.memory })

-- The denotations of two programs, related function by function.

-- a call of any compartment
abbrev pub Anywhere : Here → Type 0
Anywhere here = Unit {0}

-- a relation that is kept in these calls
module _ (P : State → State → Type 0) (R : (V : Type 0) → Piece V → Piece V → Type 0) (Good : Here → Type 0) where
  -- what is called from a compartment
  abbrev pub RelatedCalls : ℕ → Calls → Calls → Type 0
  RelatedCalls from C D = (target : CallTarget) (args : List Value) →
      Related P R (Option Value) (C from target args) (D from target args)

  -- functions that callers can't distinguish, and that do related things where their calls do
  pub record RelatedFunctions (f g : Function) : Type 0 where
    pub cells : g.cells ≡ f.cells
    pub frame_size : g.frame_size ≡ f.frame_size
    pub does : (C D : Calls) (here : Here) → Good here → RelatedCalls here.comp C D →
        Related P R (Option Value) (f.does C here) (g.does D here)

  pub record RelatedDenotations (L M : Denotations) : Type 0 where
    pub interfaces : M.interfaces ≡ L.interfaces
    pub functions : (comp number : ℕ) → Meets RelatedFunctions (function L comp number) (function M comp number)
    pub entered : (comp : ℕ) (entry : Entry) → M.entered comp entry ≡ L.entered comp entry

  module _ (L M : Denotations) (related : RelatedDenotations L M) where
    pub related_functions : (comp number : ℕ) → Meets RelatedFunctions (function L comp number) (function M comp number)
    related_functions = related.functions

    -- the same calls may be made
    pub may_same : (from : ℕ) (target : CallTarget) (args : List Value) →
        may_call M from target args ≡ may_call L from target args
    may_same = grind arith
