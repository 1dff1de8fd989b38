-- Whole runs along one trace, of which the second has more compartments that perform their parts of it; the least set.
use Rattle.sc_core_laws.proofs.Common.{Blamed, Bool, Cause, Denotations, EmitsWithMore, Ended, Event, Function}
use Rattle.sc_core_laws.proofs.Common.{HasAllBlamed, IsBlameChain, IsFixed, IsPrefix, IsStop, IsSubset, KeepsBlames}
use Rattle.sc_core_laws.proofs.Common.{LeastIsChain, BlameLink, List, Main, Memory, Never, None, Obedient, Option}
use Rattle.sc_core_laws.proofs.Common.{PassesBlame, PassesBlames, Piece, Reached, RunEnd, CompSet, Some, SourceRun}
use Rattle.sc_core_laws.proofs.Common.{Standing, State, Step, Stopped, StopsSo, TurnsOut, Value, [], and_then, ap}
use Rattle.sc_core_laws.proofs.Common.{append-nil, arith, begun, done, drop, eqb-true, exit_word, false, first_state}
use Rattle.sc_core_laws.proofs.Common.{found, function, inl, inr, last, leb-false, length, length-append, longer}
use Rattle.sc_core_laws.proofs.Common.{lt-leb, nobody, now, performed_by, reaches, refl, roles_in, roles_run, run_by}
use Rattle.sc_core_laws.proofs.Common.{run_to, stopped_at, subst, suc, sym, take-append-drop, take_all, take_prefix}
use Rattle.sc_core_laws.proofs.Common.{true, turnless, with, within, ℕ, ◌++◌, ◌+◌, ◌<◌, ◌∙◌, ◌∷◌, ◌≡◌}
use Rattle.std.proofs.Common.{take}
use Rattle.sc_event.specs.declared.event.Event.TheVariants as event
use Rattle.sc_core_laws.proofs.Growing.{prefix_same, prefix_more, prefix_no_longer, BodyGoes, within_goes}
use Rattle.sc_core_laws.proofs.Following.{GoesOn, KeepsUp, whole, follow_kept, follow_at, Performs, left_goes}
use Rattle.sc_core_laws.proofs.Following.{perform_kept, perform_at, MovesOrReturns, MovesOn, IfBlamed}
use Rattle.sc_core_laws.proofs.Following.{KeepsUp as follows, Performs as performing, MovesOn as passed}
use Rattle.sc_core_laws.proofs.Following.{MovesOrReturns as passing}
use Rattle.sc_core_laws.proofs.Matching.{related_denotations, scripted_goes_on, denotations_go}
use Rattle.sc_core_laws.proofs.Runs.{scripted_fixed, cut_if, trace_is, take_prefixes}
use Rattle.sc_core_laws.proofs.Rows.{InLine, in_line_before}
use Rattle.sc_core_laws.proofs.FollowingCalls.{at, first_step, second_step, N, Bodies, Emits, all_emitted, emits_it}
use Rattle.sc_core_laws.proofs.FollowingCalls.{emits_next, all_bodies}

-- the trace of a whole run begins with that of its piece
behaviour_prefix : (main : ℕ) (o : Piece (Option Value)) → IsPrefix (last o).trace (run_to main o).behaviour.trace
behaviour_prefix main (Reached v s) = record { more = event.End main _ ∷ []; is = refl }
behaviour_prefix main (Stopped end s) = prefix_same s.trace

module _ (t : List Event) (S' : CompSet) where
  -- the second run emits the whole trace; or it ends as the first; or it goes on where that stopped, by whether the
  -- blamed compartment performs
  pub data RunsFollow (x y : SourceRun) : Type 0 where
    emits_all : IsPrefix t x.trace → IsPrefix t y.trace → RunsFollow x y
    ends_so : ((comp : ℕ) (cause : Cause) (line : ℕ) → x.end ≡ Blamed comp cause line → ⊥) → y ≡ x → RunsFollow x y
    goes_by : (end : RunEnd) → x.end ≡ end → IsStop end → IsPrefix x.trace y.trace → IfBlamed S' false end (y ≡ x) →
        IfBlamed S' true end (PassesBlame x y) → RunsFollow x y

  module _ (main : ℕ) where
    -- a prefix of the piece's trace is a prefix of the whole run's
    emitted_on : (u : List Event) (p : Piece (Option Value)) → IsPrefix u (last p).trace →
        IsPrefix u (run_to main p).behaviour.trace
    emitted_on u p prefix = prefix_more u (last p).trace _ prefix (behaviour_prefix main p)

    passes_on : (x : SourceRun) (u : List Event) (p : Piece (Option Value)) → x.trace ≡ u →
        MovesOn main t S' (Option Value) u p → PassesBlame x (run_to main p).behaviour
    passes_on x u p same (passed.no_turn s' is emitted) =
        turnless (ap (λ y. (run_to main y).behaviour) is ∙
        ap (λ z. record { trace = z; end = TurnsOut }) (emitted ∙ sym same))
    passes_on x u p same (passed.longer e prefix) = longer e
        (subst (λ z. IsPrefix (z ++ e ∷ []) (run_to main p).behaviour.trace) (sym same)
        (emitted_on (u ++ e ∷ []) p prefix))

    passes_in : (x : SourceRun) (u : List Event) (p : Piece (Option Value)) → x.trace ≡ u →
        MovesOrReturns main t S' u p → PassesBlame x (run_to main p).behaviour
    passes_in x u p same (passing.passes h) = passes_on x u p same h
    passes_in x u p same (passing.hands_back v s' is emitted) =
        longer (event.End main (exit_word v)) (record {
          more = [];
          is = ap (λ y. (run_to main y).behaviour.trace) is
              ∙ ap (λ z. z ++ event.End main (exit_word v) ∷ []) (emitted ∙ sym same) ∙ sym (append-nil _);
        })

    -- where the first piece stopped
    stops_by : (end : RunEnd) (u : State) (o p : Piece (Option Value)) (Passed : Type 0) → o ≡ Stopped end u →
        StopsSo o → GoesOn main t S' (Option Value) Passed end u p →
        ((x : SourceRun) → x.trace ≡ u.trace → Passed → PassesBlame x (run_to main p).behaviour) →
        RunsFollow (run_to main o).behaviour (run_to main p).behaviour
    stops_by end u o p Passed is stop by passed =
        let behaviour : (run_to main o).behaviour ≡ record { trace = u.trace; end = end } =
        ap (λ y. (run_to main y).behaviour) is in
        goes_by end (ap (λ y. (run_to main y).behaviour.end) is) (subst StopsSo is stop)
        (subst (λ r. IsPrefix r.trace (run_to main p).behaviour.trace) (sym behaviour) (emitted_on u.trace p by.prefix))
        (λ comp cause line blame clear. (let blamed = by.agreed comp cause line blame clear in
        ap (λ y. (run_to main y).behaviour) blamed.1 ∙ ap (λ z. record { trace = z; end = end }) blamed.2 ∙ sym
        behaviour))
        (λ comp cause line blame set. passed (run_to main o).behaviour (ap (λ r. r.trace) behaviour)
        (by.passed comp cause line blame set))

    both_end : (st : Standing) (o p : Piece (Option Value)) → StopsSo o → KeepsUp main t S' st (Option Value) o p →
        RunsFollow (run_to main o).behaviour (run_to main p).behaviour
    both_end st o p stop (follows.done a b) = emits_all (emitted_on t o a) (emitted_on t p b)
    both_end st o p stop (follows.both v u u' is is' near) =
        ends_so (λ comp cause line blame. (let clash = sym (ap (λ y. (run_to main y).behaviour.end) is) ∙ blame in
        absurd (cc)))
        (ap (λ y. (run_to main y).behaviour) is'
        ∙ ap (λ z. record { trace = z ++ event.End main (exit_word v) ∷ []; end = Ended }) near.trace
        ∙ sym (ap (λ y. (run_to main y).behaviour) is))
    both_end st o p stop (follows.stop end u is by) =
        stops_by end u o p _ is stop by (λ x same. passes_on x u.trace p same)

module _ (L : Denotations) (obedient : Obedient L) (t : List Event) (S S' : CompSet) (larger : IsSubset S S') where
  abbrev main : ℕ
  main = L.interfaces.main

  abbrev step : Step
  step = first_step L main t S S' larger

  abbrev step' : Step
  step' = second_step L main t S S' larger

  step_fixed : IsFixed step'
  step_fixed = scripted_fixed L obedient _

  later_goes : BodyGoes (now step')
  later_goes number here s = within_goes step' (scripted_goes_on L obedient _) (suc s.turns) number here s

  bodies : (n : ℕ) → Bodies L main t S S' larger step_fixed later_goes (within step n)
  bodies = all_bodies L main t S S' larger _ _ (denotations_go L obedient)
      (λ st. related_denotations Never _ _ _ (follow_kept main t S' st) (follow_at main t S' st) L L obedient)
      (λ st left rest goes passes. related_denotations Never _ _ _ (perform_kept main t S' st left rest goes)
      (perform_at main t S' st left rest goes passes) L L obedient)

  module _ (globals : Memory) (inputs : List ℕ) (turns : ℕ) where
    abbrev beginning : State
    beginning = first_state globals inputs turns

    abbrev st : Standing
    st = record { active = record { comp = main; entry = Main }; waiting = [] }

    begins_near : (f : Function) → N L main t S S' larger st (begun main f [] beginning) (begun main f [] beginning)
    begins_near f = grind arith

    module _ (number : ℕ) (is_number : L.entered main Main ≡ Some number) (f : Function) where
      abbrev first : ℕ
      first = length (beginning.memory main)

      abbrev start : State
      start = begun main f [] beginning

      abbrev o : Piece (Option Value)
      o = within step (suc turns) number (at main first) start

      abbrev p : Piece (Option Value)
      p = now step' number (at main first) start

      abbrev ends : Option Value → State → Piece (Option Value)
      ends v u = Reached v (done main f first u)

      -- the blocks of `main` end, and nothing is emitted
      ended_emits : (o : Piece (Option Value)) → (run_to main (and_then o ends)).behaviour ≡ (run_to main o).behaviour
      ended_emits o = grind arith

      stops : StopsSo o
      stops = ((bodies (suc turns)).goes number (at main first) start).stop

      within_run : InLine t (run_to main o).behaviour.trace → InLine t (last o).trace
      within_run = in_line_before t (last o).trace _ (behaviour_prefix main o)

      -- the event with which `main` ends
      abbrev exit : Option Value → Event
      exit v = event.End main (exit_word v)

      resumes_end : Performs main t S' st p (λ u. now step' number (at main first) u)
          (later_goes number (at main first)) (Option Value) o → S' main ≡ true →
          InLine t (run_to main o).behaviour.trace → RunsFollow t S' (run_to main o).behaviour (run_to main p).behaviour
      resumes_end (performing.done a b) set along = emits_all (emitted_on t S' main t o a) (emitted_on t S' main t p b)
      resumes_end (performing.here v u is stands) set along = subst (λ r. RunsFollow t S' r (run_to main p).behaviour)
          (sym (ap (λ y. (run_to main y).behaviour) is)) (by_emits (emits_next L main t S S' larger step_fixed
          later_goes number main first st u stands.other (exit v) set is_number refl stands.near
          (subst (λ y. InLine t (run_to main y).behaviour.trace) is along))) where
            by_emits : Emits L main t S S' larger step_fixed later_goes number main first u stands.other (exit v) →
                RunsFollow t S' (run_to main (Reached v u)).behaviour (run_to main p).behaviour
            by_emits (all_emitted all) =
                emits_all
                (whole main t S' u.trace (u.trace ++ exit v ∷ []) all (record { more = exit v ∷ []; is = refl }))
                (whole main t S' u.trace (run_to main p).behaviour.trace all (emitted_on t S' main u.trace p
                (left_goes main t S' st p (λ u. now step' number (at main first) u) (later_goes number (at main first))
                u stands)))
            by_emits (emits_it more all now_emitted) = ends_so (λ comp cause line blame. absurd (cc))
                (ap (λ y. (run_to main y).behaviour) (stands.is ∙ now_emitted.is)
                ∙ ap (λ z. record { trace = z ++ exit v ∷ []; end = Ended }) stands.near.trace)
      resumes_end (performing.stop end u is by) set along =
          stops_by t S' main end u o p _ is stops by (λ x same. passes_in t S' main x u.trace p same)

      -- by whether `main` performs in the second run
      main_follows : (b : Bool) → S' main ≡ b → InLine t (run_to main o).behaviour.trace →
          RunsFollow t S' (run_to main o).behaviour (run_to main p).behaviour
      main_follows true set along = resumes_end (((bodies (suc turns)).resumes number main first number first st p start
          set is_number (record { other = start; near = begins_near f; is = refl })).performs (within_run along)) set
          along
      main_follows false clear along = both_end t S' main st o p stops (((bodies (suc turns)).plain number
          (at main first) st start start clear (begins_near f)).follows (within_run along))

      main_runs : InLine t (run_to main (and_then o ends)).behaviour.trace →
          RunsFollow t S' (run_to main (and_then o ends)).behaviour (run_to main (and_then p ends)).behaviour
      main_runs along = subst (λ r. RunsFollow t S' r (run_to main (and_then p ends)).behaviour) (sym (ended_emits o))
          (subst (RunsFollow t S' (run_to main o).behaviour) (sym (ended_emits p))
          (main_follows _ refl (subst (λ r. InLine t r.trace) (ended_emits o) along)))

    -- what is looked up is there in both runs, or both stop
    found_runs : {V : Type 0} (o : Option V) (go go' : V → State → Piece (Option Value)) → ((v : V) → o ≡ Some v →
        InLine t (run_to main (go v beginning)).behaviour.trace →
        RunsFollow t S' (run_to main (go v beginning)).behaviour (run_to main (go' v beginning)).behaviour) →
        InLine t (run_to main (and_then (found o beginning) go)).behaviour.trace →
        RunsFollow t S' (run_to main (and_then (found o beginning) go)).behaviour
        (run_to main (and_then (found o beginning) go')).behaviour
    found_runs None go go' h along = ends_so (λ comp cause line blame. absurd (cc)) refl
    found_runs (Some v) go go' h along = h v refl along

    run_follows : InLine t (run_by L step globals inputs turns).behaviour.trace →
        RunsFollow t S' (run_by L step globals inputs turns).behaviour (run_by L step' globals inputs turns).behaviour
    run_follows = found_runs (L.entered main Main) _ _ (λ number is.
        found_runs (function L main number) _ _ (λ f there. main_runs number is f))

-- THE LAWS
module _ (t : List Event) (x y : SourceRun) where
  abbrev cut : Bool → SourceRun → SourceRun
  cut = cut_if (length t)

  -- a run that is stopped at the length of the trace emits the trace where its events begin with it
  emits : IsPrefix t y.trace → (stopped_at (length t) y).trace ≡ t
  emits prefix = trace_is _ y ∙ ap (take _) prefix.is ∙ take_prefix t prefix.more

  emits_too : (S' : CompSet) → (InLine t x.trace → RunsFollow t S' x y) → (stopped_at (length t) x).trace ≡ t →
      (stopped_at (length t) y).trace ≡ t
  emits_too S' h emits_trace = by_run (h (inr prefix)) where
    prefix : IsPrefix t x.trace
    prefix = subst (λ u. IsPrefix u x.trace) (sym (trace_is (length t) x) ∙ emits_trace) (record {
      more = drop (length t) x.trace;
      is = sym (take-append-drop (length t) x.trace);
    })

    by_run : RunsFollow t S' x y → (stopped_at (length t) y).trace ≡ t
    by_run (emits_all a b) = emits b
    by_run (ends_so no_blame is) = ap (λ r. (stopped_at (length t) r).trace) is ∙ emits_trace
    by_run (goes_by end ends stop on same passes) = emits (prefix_more t x.trace y.trace prefix on)

  -- a run that was blamed before it had as many events as the trace
  blamed_early : (comp : ℕ) (cause : Cause) (line : ℕ) → x.end ≡ Blamed comp cause line →
      reaches (length t) x x.end ≡ false → length x.trace < length t
  blamed_early comp cause line ends is = leb-false _ _ (ap (reaches _ x) (sym ends) ∙ is)

  module _ (S' : CompSet) (h : InLine t x.trace → RunsFollow t S' x y) (comp : ℕ) (cause : Cause) (line : ℕ) where
    not_all : x.end ≡ Blamed comp cause line → reaches (length t) x x.end ≡ false → IsPrefix t x.trace → ⊥
    not_all ends is emitted =
        let few = blamed_early comp cause line ends is in
        let many = prefix_no_longer t x.trace emitted in omega (arith, few, many)

    stays_so : S' comp ≡ false → (b : Bool) → reaches (length t) x x.end ≡ b → (cut b x).end ≡ Blamed comp cause line →
        IsPrefix (cut b x).trace t → stopped_at (length t) y ≡ cut b x
    stays_so clear true is ends prefix = absurd (cc)
    stays_so clear false is ends prefix = by_run (h (inl prefix)) where
      same : y ≡ x → stopped_at (length t) y ≡ x
      same equal = ap (stopped_at (length t)) equal ∙ ap (λ b. cut b x) is

      by_run : RunsFollow t S' x y → stopped_at (length t) y ≡ x
      by_run (emits_all a b) = absurd (not_all ends is a)
      by_run (ends_so no_blame equal) = same equal
      by_run (goes_by end ends' stop on stays passes) = same (stays comp cause line (sym ends' ∙ ends) clear)

    passes_so : S' comp ≡ true → (b : Bool) → reaches (length t) x x.end ≡ b → (cut b x).end ≡ Blamed comp cause line →
        IsPrefix (cut b x).trace t → PassesBlame (cut b x) (stopped_at (length t) y)
    passes_so set true is ends prefix = absurd (cc)
    passes_so set false is ends prefix = by_run (h (inl prefix)) where
      few : length x.trace < length t
      few = blamed_early comp cause line ends is

      stopped_on : PassesBlame x y → PassesBlame x (stopped_at (length t) y)
      stopped_on (turnless equal) = turnless (ap (stopped_at (length t)) equal
          ∙ ap (λ b. cut b (record { trace = x.trace; end = TurnsOut })) (lt-leb (length t) (length x.trace) few))
      stopped_on (longer e on) =
          let one : length (x.trace ++ e ∷ []) ≡ length x.trace + 1 = length-append x.trace (e ∷ []) in
          longer e (subst (λ u. IsPrefix (x.trace ++ e ∷ []) u) (sym (trace_is (length t) y))
          (subst (λ u. IsPrefix u (take (length t) y.trace)) (take_all (length t) (x.trace ++ e ∷ [])
          (omega (arith, one, few))) (take_prefixes (length t) (length t) (x.trace ++ e ∷ []) y.trace (omega arith)
          on)))

      by_run : RunsFollow t S' x y → PassesBlame x (stopped_at (length t) y)
      by_run (emits_all a b) = absurd (not_all ends is a)
      by_run (ends_so no_blame equal) = absurd (no_blame comp cause line ends)
      by_run (goes_by end ends' stop on stays passes) = stopped_on (passes comp cause line (sym ends' ∙ ends) set)

  -- a run that was blamed has not emitted the whole trace
  blamed_below : (comp : ℕ) (cause : Cause) (line : ℕ) → (b : Bool) → reaches (length t) x x.end ≡ b →
      (cut b x).end ≡ Blamed comp cause line → (cut b x).trace ≡ t → ⊥
  blamed_below comp cause line b is ends emits_trace = grind (arith, is, ends, emits_trace)

with_link : (set small : CompSet) (comp : ℕ) → IsSubset small set → set comp ≡ true → IsSubset (with comp small) set
with_link set small comp larger has c is = grind (arith, larger c, eqb-true c comp, has, is)

module _ (L : Denotations) (obedient : Obedient L) (globals : Memory) (inputs : List ℕ) (turns : ℕ) (t : List Event)
  where
    abbrev behaviour : CompSet → SourceRun
    behaviour = performed_by L globals inputs turns t

    pub emits_with_more : EmitsWithMore t behaviour
    emits_with_more small large larger emits_trace =
        emits_too t _ _ large (run_follows L obedient t small large larger globals inputs turns) emits_trace

    pub keeps_blames : KeepsBlames t behaviour
    keeps_blames small large larger comp cause line ends prefix clear = stays_so t _ _ large
        (run_follows L obedient t small large larger globals inputs turns) comp cause line clear _ refl ends prefix

    pub passes_blames : PassesBlames t behaviour
    passes_blames small large larger comp cause line ends prefix set = passes_so t _ _ large
        (run_follows L obedient t small large larger globals inputs turns) comp cause line set _ refl ends prefix

    module _ (set : CompSet) where
      is_needed : (links : List BlameLink) (small : CompSet) → IsSubset small set → IsBlameChain behaviour t small links
          →
          (behaviour set).trace ≡ t → HasAllBlamed set links
      is_needed [] small larger chain emits_trace = tt
      is_needed (link ∷ links) small larger chain emits_trace = by_test (set link.comp) refl
          (λ has. is_needed links (with _ small) (with_link set small _ larger has) chain.1 emits_trace) where
            by_test : (b : Bool) → set link.comp ≡ b → (set link.comp ≡ true → HasAllBlamed set links) →
                (set link.comp ≡ true) × HasAllBlamed set links
            by_test true has rest = (has, rest has)
            by_test false clear rest =
                let equal : behaviour set ≡ behaviour small =
                keeps_blames small set larger link.comp link.cause link.line chain.0.blamed chain.0.prefix clear in
                absurd (blamed_below t (roles_run L globals inputs turns (roles_in L.interfaces.main small t)).behaviour
                (behaviour small) link.comp link.cause link.line _ refl chain.0.blamed (ap (λ r. r.trace) (sym equal) ∙
                emits_trace))

      is_enough : (links : List BlameLink) (small : CompSet) → IsSubset small set → IsBlameChain behaviour t small links
          →
          HasAllBlamed set links → (behaviour set).trace ≡ t
      is_enough [] small larger chain all = emits_with_more small set larger chain
      is_enough (link ∷ links) small larger chain all =
          is_enough links _ (with_link set small _ larger all.0) chain.1 all.1

    pub least_is_chain : LeastIsChain t behaviour
    least_is_chain first links set larger chain =
        (is_needed set links first larger chain, is_enough set links first larger chain)
