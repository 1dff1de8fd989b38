-- Calls across in both runs, once their functions are found.
use Rattle.sc_back_replay_laws.proofs.Common.{Body, BodyGoes, Bool, Call, Denotations, Event, Export, Function, Gone}
use Rattle.sc_back_replay_laws.proofs.Common.{Here, Interfaces, IsPrefix, List, None, Option, Piece, Reached, Ret}
use Rattle.sc_back_replay_laws.proofs.Common.{Roles, Some, State, Stopped, Value, [], and_then, ap, arith, back_cross}
use Rattle.sc_back_replay_laws.proofs.Common.{back_goes, begun, call_cross, count_of, counts_its_own, crossed, crossing}
use Rattle.sc_back_replay_laws.proofs.Common.{done, emit_event, export_at, false, filter, found, if◌then◌else◌, length}
use Rattle.sc_back_replay_laws.proofs.Common.{map, option_value, performer, refl, run_goes, run_in, subst, suc, sym}
use Rattle.sc_back_replay_laws.proofs.Common.{true, word_in, ℕ, ◌++◌, ◌<◌, ◌==◌, ◌∷◌, ◌≡◌, ◌≤◌}
use Rattle.sc_back_replay_laws.proofs.Near.{Both, Firsts, Near, NearBy, Reaches, Returns, Emitted, ahead, both_so}
use Rattle.sc_back_replay_laws.proofs.Near.{both_then, counts, firsts, near_begun, near_done, near_emitted, reached}
use Rattle.sc_back_replay_laws.proofs.Near.{stopped, emitted_ahead, emitted_other}

abbrev pub at : (comp first : ℕ) → Here
at comp first = record { comp = comp; first = first }

-- a function runs, and then this
abbrev pub inside : Body → ℕ → List Value → (Option Value → State → Piece (Option Value)) → ℕ → Function → State →
    Piece (Option Value)
inside body comp args back number f s =
    and_then (body number (at comp (length (s.memory comp))) (begun comp f args s))
    (λ v t. back v (done comp f (length (s.memory comp)) t))

module _ (roles : Roles) (most : ℕ) where
  -- what the body of a called function reached: once its return is emitted, the counters are right
  pub record Came (c : ℕ) (v w : Option Value) (s s' : State) : Type 0 where
    pub same : v ≡ w
    pub counters : ℕ → ℕ
    pub near : NearBy roles most counters s s'
    pub emitted : (e : Event) → performer e ≡ c → Emitted roles most counters e s.trace

  pub came_kept : (c : ℕ) (o p : Piece (Option Value)) → roles.scripted c ≡ false → Both (Reaches roles most) o p →
      Both (Came c) o p
  came_kept c o p clear both =
      both_so (Reaches roles most) (Came c) o p both (λ v w s s' r. record {
        same = r.same;
        counters = counts s.trace;
        near = r.near;
        emitted = λ e own. emitted_other roles most c e s.trace own clear;
      })

  pub came_back : (c : ℕ) (o p : Piece (Option Value)) → Both (Returns roles most c) o p → Both (Came c) o p
  came_back c o p both =
      both_so (Returns roles most c) (Came c) o p both (λ v w s s' r. record {
        same = r.same;
        counters = ahead c s.trace;
        near = r.near;
        emitted = λ e own. emitted_ahead roles most c e s.trace own;
      })

  -- the return is emitted in both
  back_both : (interfaces : Interfaces) (from to index : ℕ) (v w : Option Value) (s s' : State) →
      Came to v w s s' →
      Both (Reaches roles most) (back_cross interfaces from to index v s) (back_cross interfaces from to index w s')
  back_both interfaces from to index v w s s' came =
      let same : crossing (export_at interfaces to index) v ≡ crossing (export_at interfaces to index) w =
      ap (crossing (export_at interfaces to index)) came.same in
      let e = Ret to from (crossing (export_at interfaces to index) v) in
      reached (record {
        same = ap option_value same;
        near = near_emitted roles most came.counters s s' e (Ret to from (crossing (export_at interfaces to index) w))
            (ap (Ret to from) same) (came.emitted e refl) came.near;
      })

  -- bodies of two functions that do alike from states in which a call begins
  abbrev pub BodiesMeet : ℕ → (Option Value → Option Value → State → State → Type 0) → Body → ℕ → Body → ℕ → Type 0
  BodiesMeet c R a k' b k =
      (first first' : ℕ) (t t' : State) → Firsts roles most c first first' → Near roles most t t' → t.turns < most →
      Both R (a k' (at c first) t) (b k (at c first') t')

  -- A CALL ACROSS, once its event is emitted and its functions are found
  pub inside_cross : (interfaces : Interfaces) (from to index : ℕ) (args : List Value) (a b : Body) (k' k : ℕ)
      (f' f : Function) → (roles.scripted to ≡ false → f'.cells ≡ f.cells) → BodiesMeet to (Came to) a k' b k →
      (s s' : State) → Near roles most s s' → s.turns < most →
      Both (Reaches roles most) (inside a to args (back_cross interfaces from to index) k' f' s)
      (inside b to args (back_cross interfaces from to index) k f s')
  inside_cross interfaces from to index args a b k' k f' f cells bodies s s' near less =
      let first : ℕ = length (s.memory to) in
      let first' : ℕ = length (s'.memory to) in
      let place = firsts roles most (counts s.trace) s s' to near in
      both_then (Came to) (Reaches roles most) (a k' (at to first) (begun to f' args s))
      (b k (at to first') (begun to f args s'))
      (λ v t. back_cross interfaces from to index v (done to f' first t))
      (λ v t. back_cross interfaces from to index v (done to f first' t))
      (bodies first first' (begun to f' args s) (begun to f args s') place
      (near_begun roles most (counts s.trace) s s' to f' f args cells near) less)
      (λ v w t t' came. back_both interfaces from to index v w (done to f' first t) (done to f first' t') (record {
        same = came.same;
        counters = came.counters;
        near = near_done roles most came.counters t t' to first first' f' f cells place came.near;
        emitted = came.emitted;
      }))

-- EVENTS OF A CALL
-- what holds of the state that is reached
abbrev pub OnReach : {V : Type 0} → (State → Type 0) → Piece V → Type 0
OnReach P (Reached v s) = P s
OnReach P (Stopped end s) = Unit {0}

pub both_and : {V : Type 0} (R : V → V → State → State → Type 0) (P : State → Type 0) (o p : Piece V) → Both R o p →
    OnReach P o → Both (λ v w s s'. R v w s s' × P s) o p
both_and R P _ _ (reached r) h = reached (r, h)
both_and R P _ _ (stopped end same) h = stopped end same

count_append : (c : ℕ) (u more : List Event) → count_of c u ≤ count_of c (u ++ more)
count_append c [] more = omega arith
count_append c (x ∷ u) more = by (performer x == c) (count_append c u more) where
  by : (b : Bool) → count_of c u ≤ count_of c (u ++ more) →
      length (if b then x ∷ filter (λ event. performer event == c) u else filter (λ event. performer event == c) u) ≤
      length (if b then x ∷ filter (λ event. performer event == c) (u ++ more) else
      filter (λ event. performer event == c) (u ++ more))
  by true h = omega (arith, h)
  by false h = h

pub count_prefix : (c : ℕ) (u v : List Event) → IsPrefix u v → count_of c u ≤ count_of c v
count_prefix c u v prefix = subst (λ x. count_of c u ≤ count_of c x) (sym prefix.is) (count_append c u prefix.more)

-- a call counts as an event of its compartment once it is back
pub cross_counts : (M : Denotations) (a : Body) → BodyGoes a → (from to index : ℕ) (args : List Value) (s : State) →
    OnReach (λ u. suc (count_of from s.trace) ≤ count_of from u.trace) (call_cross M a from to index args s)
cross_counts M a goes from to index args s = by (M.entered to (Export index)) where
  e : Event
  e = Call from to index (map word_in args)

  on : (o : Piece (Option Value)) → Gone (emit_event e s) o →
      OnReach (λ u. suc (count_of from s.trace) ≤ count_of from u.trace) o
  on (Reached v u) gone =
      subst (λ n. n ≤ count_of from u.trace) (counts_its_own from s.trace e refl)
      (count_prefix from (s.trace ++ e ∷ []) u.trace gone.grown.events)
  on (Stopped end u) gone = tt

  by : (number : Option ℕ) → OnReach (λ u. suc (count_of from s.trace) ≤ count_of from u.trace)
      (and_then (found number s) (λ number s. run_in M a to number (crossed args)
      (back_cross M.interfaces from to index) (emit_event (Call from to index (map word_in args)) s)))
  by None = tt
  by (Some k) =
      on (run_in M a to k (crossed args) (back_cross M.interfaces from to index) (emit_event e s))
      (run_goes M a goes to k (crossed args) (back_cross M.interfaces from to index)
      (back_goes M.interfaces from to index) (emit_event e s))
