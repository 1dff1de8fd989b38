-- Whole runs: the run of the second program's denotations is the one in which the compartments of a set perform.
use Rattle.sc_back_replay_laws.proofs.Common.{Blocks, Body, BodyGoes, Bool, Denotations, End, Ended, Function, Here}
use Rattle.sc_back_replay_laws.proofs.Common.{IsFixed, IsSome, List, Main, Memory, None, Obedient, Option, Piece, Roles}
use Rattle.sc_back_replay_laws.proofs.Common.{Some, State, Step, TurnsOut, Value, [], and_then, ap, ap₂, arith}
use Rattle.sc_back_replay_laws.proofs.Common.{back_own, begun, call_own, done, eq-eqb, exit_word, false, first_state}
use Rattle.sc_back_replay_laws.proofs.Common.{found, function, if◌then◌else◌, is_some, length, main_proto, now}
use Rattle.sc_back_replay_laws.proofs.Common.{performs, proto_of, refl, rows_left, run_by, run_goes_on, run_step}
use Rattle.sc_back_replay_laws.proofs.Common.{run_to, scripted_goes_on, scripted_step, subst, suc, sym, true, within}
use Rattle.sc_back_replay_laws.proofs.Common.{within_goes, zero, ℕ, ◌++◌, ◌∙◌, ◌∷◌, ◌≡◌, ◌≤◌}
use Rattle.sc_core_laws.proofs.Runs.{scripted_fixed}
use Rattle.sc_back_replay_laws.proofs.Text.{counting}
use Rattle.sc_back_replay_laws.proofs.Near.{Both, Near, Reaches, Returns, ahead, both_so, both_then, counts, near_begun}
use Rattle.sc_back_replay_laws.proofs.Near.{near_below, near_within, reached, stopped}
use Rattle.sc_back_replay_laws.proofs.Crossing.{at, inside}
use Rattle.sc_back_replay_laws.proofs.Recomposed.{Performed, Recomposed}
use Rattle.sc_back_replay_laws.proofs.Bodies.{BodiesAlike, kept_step, own_both, text_step}

module _ (roles : Roles) (L M : Denotations) (r : Recomposed roles L M) (obedient : Obedient L)
    (obedient' : Obedient M) where
  abbrev scripted : Step
  scripted = scripted_step L roles (run_step L)

  fixed : IsFixed scripted
  fixed = scripted_fixed L obedient roles

  abbrev texts : ℕ → Body
  texts n = within (run_step M) n

  texts_go : (n : ℕ) → BodyGoes (texts n)
  texts_go n = within_goes (run_step M) (run_goes_on M obedient') n

  scripts_go : BodyGoes (now scripted)
  scripts_go number here s = within_goes scripted (scripted_goes_on L obedient roles) (suc s.turns) number here s

  -- BODIES, by the calls that may be open: more than there are turns
  abbrev Alike : ℕ → Type 0
  Alike n = BodiesAlike roles L M r obedient (run_step L) fixed n (texts n)

  -- a function that is kept runs
  runs_kept : (number : ℕ) (here : Here) (s : State) → roles.scripted here.comp ≡ false →
      now scripted number here s ≡ run_step L (now scripted) number here s
  runs_kept number here s clear =
      fixed number here s ∙
      ap (λ x. if x then performs L (now scripted) (rows_left roles here.comp s.trace) number here s else
      run_step L (now scripted) number here s) clear

  more_calls : (n : ℕ) → Alike n → Alike (suc n)
  more_calls n h = record {
    kept = λ number here s s' clear near less.
        let few : s.turns ≤ n = omega (arith, less) in
        subst (Both (Reaches roles (suc n)) (run_step M (texts n) number here s))
        (sym (runs_kept number here s' clear))
        (both_so (Reaches roles n) (Reaches roles (suc n)) (run_step M (texts n) number here s)
        (run_step L (now scripted) number here s')
        (kept_step roles L M r obedient (run_step L) fixed n (texts n) h (texts_go n) scripts_go number here s s' clear
        (near_below roles (suc n) n (counts s.trace) s s' few near))
        (λ v w t t' reach. record {
          same = reach.same;
          near = near_within roles n (suc n) (counts t.trace) t t' (omega arith) reach.near;
        }));
    texts = λ c entry set known number number' first first' entered entered' s s' near less.
        let few : s.turns ≤ n = omega (arith, less) in
        both_so (Returns roles n c) (Returns roles (suc n) c) (run_step M (texts n) number' (at c first) s)
        (now scripted number (at c first') s')
        (text_step roles L M r obedient (run_step L) fixed n (texts n) h (texts_go n) c entry set known number number'
        first first' entered entered' s s' (near_below roles (suc n) n (counts s.trace) s s' few near))
        (λ v w t t' back. record {
          same = back.same;
          near = near_within roles n (suc n) (ahead c t.trace) t t' (omega arith) back.near;
        });
  }

  bodies_alike : (n : ℕ) → Alike n
  bodies_alike zero = record {
    kept = λ number here s s' clear near less. absurd (omega (arith, less));
    texts = λ c entry set known number number' first first' entered entered' s s' near less.
        absurd (omega (arith, less));
  }
  bodies_alike (suc n) = more_calls n (bodies_alike n)

  -- what both runs come to in the end: the same result and trace
  record SameEnd (v w : Option Value) (s s' : State) : Type 0 where
    pub same : v ≡ w
    pub trace : s.trace ≡ s'.trace

  same_end : (main : ℕ) (o p : Piece (Option Value)) → Both SameEnd o p →
      (run_to main o).behaviour ≡ (run_to main p).behaviour
  same_end main _ _ (reached show) =
      ap₂ (λ u v. record { trace = u ++ End main (exit_word v) ∷ []; end = Ended }) show.trace show.same
  same_end main _ _ (stopped end same) = ap (λ u. record { trace = u; end = end }) same

  module _ (globals globals' : Memory)
      (kept_globals : (c : ℕ) → roles.scripted c ≡ false → globals' c ≡ globals c)
      (counters : (c : ℕ) → roles.scripted c ≡ true → (rest : Blocks) × (globals' c ≡ counting 0 ∷ rest))
      (inputs : List ℕ) (turns : ℕ) where
    abbrev main : ℕ
    main = L.interfaces.main

    abbrev start : State
    start = first_state globals inputs turns

    abbrev start' : State
    start' = first_state globals' inputs turns

    begins : Near roles (suc turns) start' start
    begins = record {
      trace = refl;
      turns = refl;
      inputs = refl;
      few = omega arith;
      memory = kept_globals;
      counter = counters;
    }

    all : Alike (suc turns)
    all = bodies_alike (suc turns)

    abbrev first_call : Denotations → Body → Option ℕ → State → Piece (Option Value)
    first_call N body number s = and_then (found number s) (λ number s. call_own N body main number [] s)

    -- there are as many open calls as turns at most
    same_call : (number : Option ℕ) →
        first_call L (now scripted) number start ≡ first_call L (within scripted (suc turns)) number start
    same_call None = refl
    same_call (Some k) = by (function L main k) where
      by : (o : Option Function) →
          and_then (found o start) (inside (now scripted) main [] back_own k) ≡
          and_then (found o start) (inside (within scripted (suc turns)) main [] back_own k)
      by None = refl
      by (Some f) = refl

    from_kept : roles.scripted main ≡ false → (number : Option ℕ) →
        Both SameEnd (first_call M (texts (suc turns)) number start') (first_call L (now scripted) number start)
    from_kept clear None = stopped TurnsOut refl
    from_kept clear (Some k) =
        both_so (Reaches roles (suc turns)) SameEnd (call_own M (texts (suc turns)) main k [] start')
        (call_own L (now scripted) main k [] start)
        (own_both roles L M r obedient (run_step L) fixed (suc turns) (texts (suc turns)) all main k [] start' start
        clear (omega arith) begins)
        (λ v w s s' reach. record { same = reach.same; trace = reach.near.trace })

    main_known : IsSome (proto_of L.interfaces main Main)
    main_known = ap (λ b. is_some (if b then Some main_proto else None)) (eq-eqb main main refl)

    from_text : roles.scripted main ≡ true →
        Both SameEnd (first_call M (texts (suc turns)) (M.entered main Main) start')
        (first_call L (now scripted) (L.entered main Main) start)
    from_text set =
        let p : Performed roles L M main Main = r.performed main Main set main_known in
        let first' : ℕ = length (start'.memory main) in
        let first : ℕ = length (start.memory main) in
        let call' = inside (texts (suc turns)) main [] back_own p.number' in
        let call = inside (now scripted) main [] back_own p.number in
        subst (λ x. Both SameEnd (first_call M (texts (suc turns)) x start')
        (first_call L (now scripted) (L.entered main Main) start)) (sym p.entered')
        (subst (λ x. Both SameEnd (first_call M (texts (suc turns)) (Some p.number') start')
        (first_call L (now scripted) x start)) (sym p.entered)
        (subst (λ x. Both SameEnd (and_then (found x start') call')
        (first_call L (now scripted) (Some p.number) start)) (sym p.performer.is)
        (subst (λ x. Both SameEnd (call' p.performer.item start') (and_then (found x start) call)) (sym p.there)
        (both_then (Returns roles (suc turns) main) SameEnd
        (texts (suc turns) p.number' (at main first') (begun main p.performer.item [] start'))
        (now scripted p.number (at main first) (begun main p.f [] start))
        (λ v t. back_own v (done main p.performer.item first' t)) (λ v t. back_own v (done main p.f first t))
        (all.texts main Main set main_known p.number p.number' first' first p.entered p.entered'
        (begun main p.performer.item [] start') (begun main p.f [] start)
        (near_begun roles (suc turns) (counts []) start' start main p.performer.item p.f []
        (λ clear. absurd (cc (clear, set))) begins) (omega arith))
        (λ v w t t' back. reached (record { same = back.same; trace = back.near.trace }))))))

    main_both : Both SameEnd (first_call M (texts (suc turns)) (M.entered main Main) start')
        (first_call L (now scripted) (L.entered main Main) start)
    main_both = by (roles.scripted main) refl where
      by : (x : Bool) → roles.scripted main ≡ x →
          Both SameEnd (first_call M (texts (suc turns)) (M.entered main Main) start')
          (first_call L (now scripted) (L.entered main Main) start)
      by true set = from_text set
      by false clear =
          subst (λ x. Both SameEnd (first_call M (texts (suc turns)) x start')
          (first_call L (now scripted) (L.entered main Main) start)) (sym (r.kept_entries main Main clear))
          (from_kept clear (L.entered main Main))

    -- WHOLE RUNS
    pub runs_same : (run_by M (run_step M) globals' inputs turns).behaviour ≡
        (run_by L scripted globals inputs turns).behaviour
    runs_same =
        ap (λ i. (run_to i.main (and_then (found (M.entered i.main Main) start')
        (λ number s. call_own M (texts (suc turns)) i.main number [] s))).behaviour) r.interfaces ∙
        same_end main (first_call M (texts (suc turns)) (M.entered main Main) start')
        (first_call L (now scripted) (L.entered main Main) start) main_both ∙
        ap (λ o. (run_to main o).behaviour) (same_call (L.entered main Main))
