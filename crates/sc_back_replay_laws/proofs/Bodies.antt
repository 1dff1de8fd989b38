-- Bodies of functions in both runs, from what bodies do with one call less open.
use Rattle.sc_back_replay_laws.proofs.Common.{Blamed, Body, BodyGoes, Bool, Call, CallTarget, Cross, Denotations, Entry}
use Rattle.sc_back_replay_laws.proofs.Common.{Event, Export, Function, Here, In, Input, IsFixed, IsSome, List, Meets}
use Rattle.sc_back_replay_laws.proofs.Common.{None, Obedient, Option, Out, Output, Own, Piece, Reached, RelatedCalls}
use Rattle.sc_back_replay_laws.proofs.Common.{RelatedFunctions, Roles, Some, State, Step, Stopped, TurnsOut, Value}
use Rattle.sc_back_replay_laws.proofs.Common.{Word, [], and_first, and_rest, and_then, ap, arith, back_cross, back_own}
use Rattle.sc_back_replay_laws.proofs.Common.{begun, block_does, c_arith, call_cross, call_own, called, calls, calls_go}
use Rattle.sc_back_replay_laws.proofs.Common.{count_of, counts_its_own, crossed, done, drop, emit_event, false}
use Rattle.sc_back_replay_laws.proofs.Common.{first_word, found, function, if◌then◌else◌, imports, inl, inr}
use Rattle.sc_back_replay_laws.proofs.Common.{is_function, is_word, leads, length, list_all, map, may_call, next_input}
use Rattle.sc_back_replay_laws.proofs.Common.{now, performer, proto_of, read_input, refl, related_functions, run_in}
use Rattle.sc_back_replay_laws.proofs.Common.{run_step, scripted_step, slice_get, subst, suc, sym, takes, true, word_in}
use Rattle.sc_back_replay_laws.proofs.Common.{ℕ, ◌&&◌, ◌++◌, ◌<◌, ◌∙◌, ◌∷◌, ◌≡◌, ◌≤◌}
use Rattle.sc_core.specs.declared.cause.Cause.TheVariants.{BadType}
use Rattle.sc_back_replay_laws.proofs.Near.{Both, Near, NearBy, Reaches, Returns, Emitted, ahead, both_so, both_then}
use Rattle.sc_back_replay_laws.proofs.Near.{counts, firsts, near_begun, near_done, near_emitted, reached, stopped}
use Rattle.sc_back_replay_laws.proofs.Near.{emitted_ahead, emitted_other}
use Rattle.sc_back_replay_laws.proofs.Step.{Back, IsOut, function_alike}
use Rattle.sc_back_replay_laws.proofs.Kept.{Alike, IsKept, kept_related, turn_both}
use Rattle.sc_back_replay_laws.proofs.Crossing.{at, both_and, came_back, came_kept, cross_counts, inside, inside_cross}
use Rattle.sc_back_replay_laws.proofs.Recomposed.{Performed, Recomposed, may_same, taken}

module _ (roles : Roles) (L M : Denotations) (r : Recomposed roles L M) (obedient : Obedient L) (step : Step)
    (fixed : IsFixed (scripted_step L roles step)) (most : ℕ) where
  abbrev pub scripts : Body
  scripts = now (scripted_step L roles step)

  -- what is to be proved of bodies in the run of the texts, where they have fewer turns than this
  pub record BodiesAlike (a : Body) : Type 0 where
    pub kept : (number : ℕ) (here : Here) (s s' : State) → roles.scripted here.comp ≡ false → Near roles most s s' →
        s.turns < most → Both (Reaches roles most) (a number here s) (scripts number here s')
    pub texts : (c : ℕ) (entry : Entry) → roles.scripted c ≡ true → IsSome (proto_of L.interfaces c entry) →
        (number number' first first' : ℕ) → L.entered c entry ≡ Some number → M.entered c entry ≡ Some number' →
        (s s' : State) → Near roles most s s' → s.turns < most →
        Both (Returns roles most c) (a number' (at c first) s) (scripts number (at c first') s')

  abbrev R : Option Value → Option Value → State → State → Type 0
  R = Reaches roles most

  module _ (a : Body) (h : BodiesAlike a) where
    -- CALLS ACROSS
    module _ (from to index : ℕ) (args : List Value) where
      abbrev e : Event
      e = Call from to index (map word_in args)

      abbrev back : Option Value → State → Piece (Option Value)
      back = back_cross L.interfaces from to index

      -- a call whose functions are looked up
      abbrev into : Denotations → Body → Option ℕ → State → Piece (Option Value)
      into N body number s =
          and_then (found number s) (λ k s. run_in N body to k (crossed args) back (emit_event e s))

      -- into a compartment that keeps its section
      to_kept : roles.scripted to ≡ false → (number : Option ℕ) (s s' : State) →
          Near roles most (emit_event e s) (emit_event e s') → s.turns < most → s.trace ≡ s'.trace →
          Both R (into M a number s) (into L scripts number s')
      to_kept clear None s s' near less same = stopped TurnsOut same
      to_kept clear (Some k) s s' near less same =
          subst (λ x. Both R (and_then (found x (emit_event e s)) (inside a to (crossed args) back k))
          (and_then (found (function L to k) (emit_event e s')) (inside scripts to (crossed args) back k)))
          (sym (ap (λ fs. slice_get fs k) (r.kept to clear))) (by (function L to k)) where
            by : (o : Option Function) → Both R
                (and_then (found o (emit_event e s)) (inside a to (crossed args) back k))
                (and_then (found o (emit_event e s')) (inside scripts to (crossed args) back k))
            by None = stopped TurnsOut near.trace
            by (Some f) =
                inside_cross roles most L.interfaces from to index (crossed args) a scripts k k f f (λ _. refl)
                (λ first first' t t' place near2 less2.
                came_kept roles most to (a k (at to first) t) (scripts k (at to first') t') clear
                (subst (λ i. Both R (a k (at to first) t) (scripts k (at to i) t')) (place.kept clear)
                (h.kept k (at to first) t t' clear near2 less2))) (emit_event e s) (emit_event e s') near less

      -- into one that performs
      to_text : roles.scripted to ≡ true → IsSome (proto_of L.interfaces to (Export index)) → (s s' : State) →
          Near roles most (emit_event e s) (emit_event e s') → s.turns < most →
          Both R (into M a (M.entered to (Export index)) s) (into L scripts (L.entered to (Export index)) s')
      to_text set known s s' near less =
          let p : Performed roles L M to (Export index) = r.performed to (Export index) set known in
          subst (λ x. Both R (into M a x s) (into L scripts (L.entered to (Export index)) s')) (sym p.entered')
          (subst (λ x. Both R (into M a (Some p.number') s) (into L scripts x s')) (sym p.entered)
          (subst (λ x. Both R (and_then (found x (emit_event e s)) (inside a to (crossed args) back p.number'))
          (into L scripts (Some p.number) s')) (sym p.performer.is)
          (subst (λ x. Both R (inside a to (crossed args) back p.number' p.performer.item (emit_event e s))
          (and_then (found x (emit_event e s')) (inside scripts to (crossed args) back p.number))) (sym p.there)
          (inside_cross roles most L.interfaces from to index (crossed args) a scripts p.number' p.number
          p.performer.item p.f (λ clear. absurd (cc (clear, set))) (λ first first' t t' place near2 less2.
          came_back roles most to (a p.number' (at to first) t) (scripts p.number (at to first') t')
          (h.texts to (Export index) set known p.number p.number' first first' p.entered p.entered' t t' near2 less2))
          (emit_event e s) (emit_event e s') near less))))

      pub cross_both : (counters : ℕ → ℕ) (s s' : State) → IsSome (proto_of L.interfaces to (Export index)) →
          NearBy roles most counters s s' → Emitted roles most counters e s.trace → s.turns < most →
          Both R (call_cross M a from to index args s) (call_cross L scripts from to index args s')
      cross_both counters s s' known near emitted less =
          subst (λ I. Both R (and_then (found (M.entered to (Export index)) s)
          (λ k s. run_in M a to k (crossed args) (back_cross I from to index) (emit_event e s)))
          (call_cross L scripts from to index args s')) (sym r.interfaces) (by (roles.scripted to) refl) where
            near_e : Near roles most (emit_event e s) (emit_event e s')
            near_e = near_emitted roles most counters s s' e e refl emitted near

            by : (x : Bool) → roles.scripted to ≡ x →
                Both R (into M a (M.entered to (Export index)) s) (into L scripts (L.entered to (Export index)) s')
            by true set = to_text set known s s' near_e less
            by false clear =
                subst (λ n. Both R (into M a n s) (into L scripts (L.entered to (Export index)) s'))
                (sym (r.kept_entries to (Export index) clear))
                (to_kept clear (L.entered to (Export index)) s s' near_e less near.trace)

    -- CALLS OF A COMPARTMENT THAT KEEPS ITS SECTION
    pub own_both : (from number : ℕ) (args : List Value) (s s' : State) → roles.scripted from ≡ false → s.turns < most →
        Near roles most s s' → Both R (call_own M a from number args s) (call_own L scripts from number args s')
    own_both from number args s s' clear less near =
        subst (λ x. Both R (and_then (found x s) (inside a from args back_own number))
        (and_then (found (function L from number) s') (inside scripts from args back_own number)))
        (sym (ap (λ fs. slice_get fs number) (r.kept from clear))) (by (function L from number)) where
          by : (o : Option Function) → Both R (and_then (found o s) (inside a from args back_own number))
              (and_then (found o s') (inside scripts from args back_own number))
          by None = stopped TurnsOut near.trace
          by (Some f) =
              let first : ℕ = length (s.memory from) in
              let first' : ℕ = length (s'.memory from) in
              let place = firsts roles most (counts s.trace) s s' from near in
              both_then R R (a number (at from first) (begun from f args s))
              (scripts number (at from first') (begun from f args s'))
              (λ v t. back_own v (done from f first t)) (λ v t. back_own v (done from f first' t))
              (subst (λ i. Both R (a number (at from first) (begun from f args s))
              (scripts number (at from i) (begun from f args s'))) (place.kept clear)
              (h.kept number (at from first) (begun from f args s) (begun from f args s') clear
              (near_begun roles most (counts s.trace) s s' from f f args (λ _. refl) near) less))
              (λ v w t t' reach. reached (record {
                same = reach.same;
                near = near_done roles most (counts t.trace) t t' from first first' f f (λ _. refl) place reach.near;
              }))

    read_both : (counters : ℕ → ℕ) (c : ℕ) (s s' : State) → NearBy roles most counters s s' →
        Emitted roles most counters (In c (next_input s.inputs)) s.trace →
        Near roles most (read_input c s) (read_input c s')
    read_both counters c s s' near emitted =
        near_emitted roles most counters (record s { inputs = drop 1 s.inputs })
        (record s' { inputs = drop 1 s'.inputs })
        (In c (next_input s.inputs)) (In c (next_input s'.inputs)) (ap (λ i. In c (next_input i)) near.inputs) emitted
        (record {
          trace = near.trace;
          turns = near.turns;
          inputs = ap (drop 1) near.inputs;
          few = near.few;
          memory = near.memory;
          counter = near.counter;
        })

    -- the export of a call that may be made
    crossed_known : (from to index : ℕ) (args : List Value) → may_call L from (Cross to index) args ≡ true →
        IsSome (proto_of L.interfaces to (Export index))
    crossed_known from to index args may =
        taken roles L M to index (length args)
        (and_first (takes L.interfaces to index (length args)) (list_all is_word args && leads L to
        (L.entered to (Export index))) (and_rest (imports L.interfaces from (is_function to index)) _ may))

    called_both : (from : ℕ) (target : CallTarget) (args : List Value) (s s' : State) → roles.scripted from ≡ false →
        may_call L from target args ≡ true → Near roles most s s' →
        Both R (called M a from target args s) (called L scripts from target args s')
    called_both from (Own number) args s s' clear may near =
        turn_both roles most (Option Value) R (counts s.trace) (λ _. call_own M a from number args)
        (λ _. call_own L scripts from number args) s s' near (λ n less near2.
        own_both from number args (record s { turns = n }) (record s' { turns = n }) clear
        (omega (arith, less, near.few)) near2)
    called_both from (Cross to index) args s s' clear may near =
        turn_both roles most (Option Value) R (counts s.trace) (λ _. call_cross M a from to index args)
        (λ _. call_cross L scripts from to index args) s s' near (λ n less near2.
        cross_both from to index args (counts s.trace) (record s { turns = n }) (record s' { turns = n })
        (crossed_known from to index args may) near2
        (emitted_other roles most from (Call from to index (map word_in args)) s.trace refl clear)
        (omega (arith, less, near.few)))
    called_both from Input args s s' clear may near =
        reached (record {
          same = ap (λ i. Some (Word (next_input i))) near.inputs;
          near = read_both (counts s.trace) from s s' near
              (emitted_other roles most from (In from (next_input s.inputs)) s.trace refl clear);
        })
    called_both from Output args s s' clear may near =
        let e : Event = Out from (first_word args) in
        reached (record {
          same = refl;
          near = near_emitted roles most (counts s.trace) s s' e e refl
              (emitted_other roles most from e s.trace refl clear) near;
        })

    calls_both : (from : ℕ) (target : CallTarget) (args : List Value) (s s' : State) → roles.scripted from ≡ false →
        Near roles most s s' → Both R (calls M a from target args s) (calls L scripts from target args s')
    calls_both from target args s s' clear near =
        subst (λ x. Both R (if x then called M a from target args s else Stopped (Blamed from BadType 0) s)
        (calls L scripts from target args s')) (sym (may_same roles L M r from target args (inl clear)))
        (by (may_call L from target args) refl) where
          by : (x : Bool) → may_call L from target args ≡ x →
              Both R (if x then called M a from target args s else Stopped (Blamed from BadType 0) s)
              (if x then called L scripts from target args s' else Stopped (Blamed from BadType 0) s')
          by true may = called_both from target args s s' clear may near
          by false may = stopped (Blamed from BadType 0) near.trace

    -- CALLS OF A ROW
    abbrev Backs : CallTarget → ℕ → State → Option Value → Option Value → State → State → Type 0
    Backs target c s = Back roles most L step fixed (calls M a) target c (suc (count_of c s.trace))

    emitted_both : (target : CallTarget) (c : ℕ) (v w : Option Value) (e e' : Event) (s t t' : State) →
        performer e ≡ c → t.trace ≡ s.trace → e ≡ e' → NearBy roles most (ahead c s.trace) t t' → v ≡ w →
        Both (Backs target c s) (Reached v (emit_event e t)) (Reached w (emit_event e' t'))
    emitted_both target c v w e e' s t t' own same_trace same near value =
        let count : count_of c (t.trace ++ e ∷ []) ≡ suc (count_of c s.trace) =
        ap (λ u. count_of c (u ++ e ∷ [])) same_trace ∙ counts_its_own c s.trace e own in
        reached (record {
          near = near_emitted roles most (ahead c s.trace) t t' e e' same
              (subst (Emitted roles most (ahead c s.trace) e) (sym same_trace)
              (emitted_ahead roles most c e s.trace own)) near;
          least = omega (arith, count);
          exact = λ outside. count;
        })

    row_calls : (goes : BodyGoes a) (c : ℕ) (target : CallTarget) (args : List Value) (s s' : State) → IsOut target →
        may_call L c target args ≡ true → NearBy roles most (ahead c s.trace) s s' →
        Both (Backs target c s) (called M a c target args s) (called L scripts c target args s')
    row_calls goes c (Own number) args s s' out may near = absurd out
    row_calls goes c (Cross to index) args s s' out may near =
        turn_both roles most (Option Value) (Backs (Cross to index) c s) (ahead c s.trace)
        (λ _. call_cross M a c to index args) (λ _. call_cross L scripts c to index args) s s' near (λ n less near2.
        both_so (λ v w u u'. R v w u u' × (suc (count_of c s.trace) ≤ count_of c u.trace)) (Backs (Cross to index) c s)
        (call_cross M a c to index args (record s { turns = n }))
        (call_cross L scripts c to index args (record s' { turns = n }))
        (both_and R (λ u. suc (count_of c s.trace) ≤ count_of c u.trace)
        (call_cross M a c to index args (record s { turns = n }))
        (call_cross L scripts c to index args (record s' { turns = n }))
        (cross_both c to index args (ahead c s.trace) (record s { turns = n }) (record s' { turns = n })
        (crossed_known c to index args may) near2
        (emitted_ahead roles most c (Call c to index (map word_in args)) s.trace refl) (omega (arith, less, near.few)))
        (cross_counts M a goes c to index args (record s { turns = n })))
        (λ v w u u' p. record { near = p.0.near; least = p.1; exact = λ outside. absurd outside }))
    row_calls goes c Input args s s' out may near =
        emitted_both Input c (Some (Word (next_input s.inputs))) (Some (Word (next_input s'.inputs)))
        (In c (next_input s.inputs)) (In c (next_input s'.inputs)) s (record s { inputs = drop 1 s.inputs })
        (record s' { inputs = drop 1 s'.inputs }) refl refl (ap (λ i. In c (next_input i)) near.inputs)
        (record {
          trace = near.trace;
          turns = near.turns;
          inputs = ap (drop 1) near.inputs;
          few = near.few;
          memory = near.memory;
          counter = near.counter;
        }) (ap (λ i. Some (Word (next_input i))) near.inputs)
    row_calls goes c Output args s s' out may near =
        emitted_both Output c None None (Out c (first_word args)) (Out c (first_word args)) s s s' refl refl refl near
        refl

    pub rows_alike : (goes : BodyGoes a) (c : ℕ) (target : CallTarget) (args : List Value) (s s' : State) →
        IsOut target → may_call L c target args ≡ true → NearBy roles most (ahead c s.trace) s s' →
        Both (Backs target c s) (calls M a c target args s) (calls L scripts c target args s')
    rows_alike goes c target args s s' out may near =
        subst (λ x. Both (Backs target c s)
        (if x then called M a c target args s else Stopped (Blamed c BadType 0) s) (calls L scripts c target args s'))
        (sym (may_same roles L M r c target args (inr out) ∙ may))
        (subst (λ x. Both (Backs target c s) (called M a c target args s)
        (if x then called L scripts c target args s' else Stopped (Blamed c BadType 0) s')) (sym may)
        (row_calls goes c target args s s' out may near))

    -- ONE CALL MORE
    -- what a kept function does
    pub kept_step : BodyGoes a → BodyGoes scripts → (number : ℕ) (here : Here) (s s' : State) →
        roles.scripted here.comp ≡ false → Near roles most s s' →
        Both R (run_step M a number here s) (run_step L scripts number here s')
    kept_step goes goes' number here s s' clear near =
        subst (λ x. Both R (and_then (found x s) (λ f s. f.does (calls M a) here s))
        (run_step L scripts number here s')) (sym (ap (λ fs. slice_get fs number) (r.kept here.comp clear)))
        (by (function L here.comp number)
        (related_functions (Near roles most) (Alike roles most) (IsKept roles most) L L
        (kept_related roles most L obedient) here.comp number)) where
          made : RelatedCalls (Near roles most) (Alike roles most) (IsKept roles most) here.comp (calls M a)
              (calls L scripts)
          made target args = record {
            first = calls_go M a goes here.comp target args;
            second = calls_go L scripts goes' here.comp target args;
            both = λ t t' near2. calls_both here.comp target args t t' clear near2;
          }

          by : (o : Option Function) →
              Meets (RelatedFunctions (Near roles most) (Alike roles most) (IsKept roles most)) o o →
              Both R (and_then (found o s) (λ f s. f.does (calls M a) here s))
              (and_then (found o s') (λ f s. f.does (calls L scripts) here s))
          by None meets = stopped TurnsOut near.trace
          by (Some f) meets = (meets.does (calls M a) (calls L scripts) here clear made).both s s' near

    -- what one does that performs
    pub text_step : BodyGoes a → (c : ℕ) (entry : Entry) → roles.scripted c ≡ true →
        IsSome (proto_of L.interfaces c entry) → (number number' first first' : ℕ) →
        L.entered c entry ≡ Some number → M.entered c entry ≡ Some number' → (s s' : State) → Near roles most s s' →
        Both (Returns roles most c) (run_step M a number' (at c first) s) (scripts number (at c first') s')
    text_step goes c entry set known number number' first first' entered entered' s s' near =
        let p : Performed roles L M c entry = r.performed c entry set known in
        let q = p.performer in
        let same : p.number' ≡ number' = cc (p.entered', entered') in
        let runs : run_step M a number' (at c first) s ≡
        and_then (block_does c_arith q.structs (at c first) q.params (calls M a) q.stmts tt s) (q.close first) =
        ap (λ k. and_then (found (function M c k) s) (λ f s. f.does (calls M a) (at c first) s)) (sym same) ∙
        ap (λ o. and_then (found o s) (λ f s. f.does (calls M a) (at c first) s)) q.is ∙
        q.does (calls M a) first s in
        subst (λ o. Both (Returns roles most c) o (scripts number (at c first') s')) (sym runs)
        (function_alike roles most L step fixed (calls M a) c first first' number set (rows_alike goes c) entry q.result
        entered (λ other known' ne. r.apart c entry other number set entered known known' ne) q.structs q.params
        (q.close first) (q.closes first) q.stmts q.text (r.fair c set) s s' near)
