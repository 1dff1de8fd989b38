-- No compartment that performs is blamed, whatever the trace is, and only compartments that there are.
use Rattle.sc_core_laws.proofs.Common.{AreFresh, Blamed, Bool, Cause, ChainRises, Denotations, Ended, Event, EventsOut}
use Rattle.sc_core_laws.proofs.Common.{Function, HasChain, IsBlamedOutside, IsBlameChain, IsRising, IsSubset, Kept}
use Rattle.sc_core_laws.proofs.Common.{BlameLink}
use Rattle.sc_core_laws.proofs.Common.{List, Memory, Obedient, Option, PassesBlame, Piece, Roles, RunEnd, CompSet}
use Rattle.sc_core_laws.proofs.Common.{SourceRun, TurnsOut, Value, [], ap, arith, cases_eq, eq-eqb, false, first_state}
use Rattle.sc_core_laws.proofs.Common.{function, if◌then◌else◌, is_some, leb-false, length, length-append, longer}
use Rattle.sc_core_laws.proofs.Common.{nat_le, ne_eqb, nobody, performed_by, reaches, refl, roles_in, roles_run}
use Rattle.sc_core_laws.proofs.Common.{run_step, run_to, scripted_step, slice_get, slice_index_or, stopped_at, subst}
use Rattle.sc_core_laws.proofs.Common.{suc, sym, true, turnless, with, within, zero, ℕ, ⊎_elim, ◌++◌, ◌+◌, ◌<◌, ◌||◌}
use Rattle.sc_core_laws.proofs.Common.{◌∙◌, ◌∷◌, ◌≡◌, ◌≤◌, ◌⊎◌}
use Rattle.sc_core_laws.proofs.Keeping.{Walk, place, main_walks, scripted_walks}
use Rattle.sc_core_laws.proofs.FollowingRuns.{passes_blames}
use Rattle.sc_core_laws.proofs.Runs.{cut_if}
use Rattle.sc_core_laws.specs.Chains.{count_outside}

-- that a compartment may be blamed
module _ (Fair : ℕ → Type 0) where
  -- an end that blames no other
  abbrev Spares : RunEnd → Type 0
  Spares Ended = Unit {0}
  Spares (Blamed comp cause line) = Fair comp
  Spares TurnsOut = Unit {0}
  Spares EventsOut = Unit {0}

  module _ (denotations : Denotations) (obedient : Obedient denotations) (roles : Roles) (fair : (comp number : ℕ) →
      roles.scripted comp ≡ false → is_some (function denotations comp number) ≡ true → Fair comp) where
    -- nothing is asked of states
    abbrev walk : Walk denotations
    walk = record {
      Place = Unit {0};
      At = λ n i s. Unit {0};
      Ends = λ end s. Spares end;
      In = λ i comp. Unit {0};
      Runs = λ i comp number. Unit {0};
      inner = λ i comp f. tt;
      across = λ i to index. tt;
      cross_runs = λ i to index number f same. tt;
      halts = λ i s at. tt;
      spent = λ n i s none at. tt;
      less = λ n m i s is at. tt;
      raised = λ n i s at. tt;
      stored = λ n i s memory at. tt;
      begins = λ n i comp f args s at. tt;
      ends = λ n i comp f first s at. tt;
      enters = λ n i from to index args s here may at. tt;
      leaves = λ n i from to index args v s here may at. tt;
      reads = λ n i from args s here may at. tt;
      writes = λ n i from args s here may at. tt;
    }

    run_to_spares : (n main : ℕ) (piece : Piece (Option Value)) →
        Kept (place denotations walk n tt) piece → Spares (run_to main piece).behaviour.end
    run_to_spares n main piece h = grind (arith, h)

    run_by_spares : (globals : Memory) (inputs : List ℕ) (turns : ℕ) →
        Spares (roles_run denotations globals inputs turns roles).behaviour.end
    run_by_spares globals inputs turns =
        run_to_spares (suc turns) denotations.interfaces.main _ (main_walks denotations walk
        (suc turns) (within (scripted_step denotations roles (run_step denotations)) (suc turns))
        (scripted_walks denotations walk
        (λ n i s at. tt) (λ i comp number runs. tt) (λ i comp number f here. tt) obedient roles (λ comp number plain is
        n i here cause line s at. fair comp number plain is) (suc turns)) tt (first_state globals inputs turns) (λ none. tt)
        (λ number is none. tt) (λ number f is. tt) tt)

  stopped_spares : (events : ℕ) (run : SourceRun) → Spares run.end → Spares (stopped_at events run).end
  stopped_spares events run h = by _ where
    by : (b : Bool) → Spares (cut_if events b run).end
    by b = grind arith

module _ (denotations : Denotations) (obedient : Obedient denotations) (globals : Memory) (inputs : List ℕ)
    (turns events : ℕ)
    (roles : Roles) (comp : ℕ) (cause : Cause) (line : ℕ)
    (ends : (stopped_at events (roles_run denotations globals inputs turns roles).behaviour).end ≡ Blamed comp cause
    line)
  where
    fair_blame : (Fair : ℕ → Type 0) → ((comp number : ℕ) → roles.scripted comp ≡ false →
        is_some (function denotations comp number) ≡ true → Fair comp) → Fair comp
    fair_blame Fair fair =
        subst (Spares Fair) ends (stopped_spares Fair events
        (roles_run denotations globals inputs turns roles).behaviour
        (run_by_spares Fair denotations obedient roles fair globals inputs turns))

    pub nobody_is_blamed : roles.scripted comp ≡ false
    nobody_is_blamed = fair_blame (λ c. roles.scripted c ≡ false) (λ c number plain is. plain)

    pub blamed_is_there : comp < length denotations.functions
    blamed_is_there = fair_blame (λ c. c < length denotations.functions)
        (λ c number plain is. listed denotations.functions c number is) where
          listed : (functions : List (List Function)) (c number : ℕ) →
              is_some (slice_get (slice_index_or functions c []) number) ≡ true → c < length functions
          listed [] c number is = absurd (cc)
          listed (x ∷ xs) zero number is = omega arith
          listed (x ∷ xs) (suc c) number is = omega (arith, listed xs c number is)

-- The links of a chain come one after another, and a chain is found.

-- a run that is blamed has fewer events than were allowed
early : (n : ℕ) (x : SourceRun) (comp : ℕ) (cause : Cause) (line : ℕ) → (stopped_at n x).end ≡ Blamed comp cause line →
    length (stopped_at n x).trace < n
early n x comp cause line ends = by _ refl ends where
  few : (end : RunEnd) → end ≡ Blamed comp cause line → reaches n x end ≡ false → length x.trace < n
  few end is stays = let test : nat_le n _ ≡ false = ap (reaches n x) (sym is) ∙ stays in leb-false n _ test

  by : (b : Bool) → reaches n x x.end ≡ b → (cut_if n b x).end ≡ Blamed comp cause line →
      length (cut_if n b x).trace < n
  by b is ends = grind (arith, is, ends)

within_with : (set : CompSet) (comp : ℕ) → IsSubset set (with comp set)
within_with set comp c is = grind (arith, is)

module _ (L : Denotations) (obedient : Obedient L) (globals : Memory) (inputs : List ℕ) (turns : ℕ) (t : List Event)
  where
    abbrev behaviour : CompSet → SourceRun
    behaviour set = performed_by L globals inputs turns t set

    -- where the next run is blamed it has emitted more
    emitted_more : (run other : SourceRun) (comp : ℕ) (cause : Cause) (line : ℕ) → other.end ≡ Blamed comp cause line →
        PassesBlame run other → length run.trace < length other.trace
    emitted_more run other comp cause line ends (turnless is) = let wants : other.end ≡ TurnsOut =
        ap (λ r. r.end) is in cc
    emitted_more run other comp cause line ends (longer event prefix) =
        let long = length-append (run.trace ++ event ∷ []) prefix.more in
        omega (arith, ap length prefix.is, long, length-append run.trace (event ∷ []))

    rises : (set : CompSet) (least : ℕ) (links : List BlameLink) → ((comp : ℕ) (cause : Cause) (line : ℕ) →
        (behaviour set).end ≡ Blamed comp cause line → least ≤ length (behaviour set).trace) →
        IsBlameChain (performed_by L globals inputs turns t) t set links → IsRising least (length t) links
    rises set least [] h chain = tt
    rises set least (link ∷ links) h chain =
        let here = chain.0 in
        let low : least ≤ length (behaviour set).trace = h link.comp link.cause link.line here.blamed in
        let high : length (behaviour set).trace < length t =
        early _ (roles_run L globals inputs turns (roles_in L.interfaces.main set t)).behaviour _ _ _ here.blamed in
        let same : length (behaviour set).trace ≡ link.after = here.after in (
          omega (arith, low, same),
          omega (arith, high, same),
          rises (with link.comp set) (suc link.after) links (λ comp cause line ends.
              let more : length (behaviour set).trace < length (behaviour (with _ set)).trace =
              emitted_more (behaviour set) (behaviour (with link.comp set)) comp cause line ends
              (passes_blames L obedient globals inputs turns t set (with link.comp set) (within_with set link.comp)
              link.comp link.cause link.line here.blamed here.prefix (ap (λ b. b || set link.comp) (eq-eqb link.comp _
              refl))) in
              omega (arith, more, same)) chain.1,
        )

    are_fresh : (set : CompSet) (links : List BlameLink) → IsBlameChain (performed_by L globals inputs turns t) t set
        links →
        AreFresh set links
    are_fresh set [] chain = tt
    are_fresh set (link ∷ links) chain =
        let fresh = nobody_is_blamed L obedient globals inputs turns (length t) (roles_in L.interfaces.main set t)
        link.comp
        link.cause link.line chain.0.blamed in (fresh, are_fresh (with link.comp set) links chain.1)

    pub chain_rises : ChainRises t behaviour
    chain_rises first links chain =
        (rises first 0 links (λ comp cause line ends. omega arith) chain, are_fresh first links chain)

-- a compartment at or above the number doesn't count
above_counts : (set : CompSet) (comp n : ℕ) → n ≤ comp → count_outside (with comp set) n ≡ count_outside set n
above_counts set comp zero le = refl
above_counts set comp (suc n) le = grind (arith, ne_eqb n comp, above_counts set comp n (omega (arith, le)))

-- one below it that isn't of the set counts once
below_counts : (set : CompSet) (comp n : ℕ) → set comp ≡ false → comp < n → suc (count_outside (with comp set) n) ≡ count_outside
    set n
below_counts set comp zero clear lt = absurd (omega (arith, lt))
below_counts set comp (suc n) clear lt = grind (
  arith,
  cases_eq n comp,
  eq-eqb n comp,
  ne_eqb n comp,
  above_counts set comp n,
  below_counts set comp n clear,
)

-- at most all are outside of a set
pub outside_few : (set : CompSet) (n : ℕ) → count_outside set n ≤ n
outside_few set zero = omega arith
outside_few set (suc n) = by (set n) (outside_few set n) where
  by : (is : Bool) → count_outside set n ≤ n → (if is then 0 else 1) + count_outside set n ≤ suc n
  by true rest = omega (arith, rest)
  by false rest = omega (arith, rest)

-- all are outside of the empty set
pub all_outside : (n : ℕ) → count_outside nobody n ≡ n
all_outside zero = refl
all_outside (suc n) = let rest = all_outside n in omega (arith, rest)

module _ (t : List Event) (runs : CompSet → SourceRun) (first : CompSet) (count : ℕ)
    (each : (set : CompSet) → IsSubset first set → ((runs set).trace ≡ t) ⊎ IsBlamedOutside count set (runs set) t) where
  abbrev Found : CompSet → ℕ → Type 0
  Found set most = (links : List BlameLink) × IsBlameChain runs t set links × (length links ≤ most)

  grown : (set : CompSet) (comp : ℕ) → IsSubset first set → IsSubset first (with comp set)
  grown set comp larger c is = within_with set comp c (larger c is)

  found : (most : ℕ) (set : CompSet) → IsSubset first set → count_outside set count ≤ most → Found set most
  found zero set larger few = ⊎_elim (λ emits_trace. ([], emits_trace, omega arith)) (λ b.
      let counts = below_counts set b.comp count b.outside b.compartment in absurd (omega (arith, few, counts)))
      (each set larger)
  found (suc most) set larger few =
      ⊎_elim (λ emits_trace. ([], emits_trace, omega arith))
      (λ b. goes_on b (found most _ (grown set b.comp larger) (fewer b))) (each set larger) where
        fewer : (b : IsBlamedOutside count set (runs set) t) → count_outside (with b.comp set) count ≤ most
        fewer b = let counts = below_counts set b.comp count b.outside b.compartment in omega (arith, few, counts)

        goes_on : (b : IsBlamedOutside count set (runs set) t) → Found (with b.comp set) most → Found set (suc most)
        goes_on b rest =
            let link : BlameLink =
            record { comp = b.comp; after = length (runs set).trace; cause = b.cause; line = b.line } in
            let few_links = rest.2 in (
              link ∷ rest.0,
              (record { blamed = b.blamed; prefix = b.prefix; after = refl }, rest.1),
              omega (arith, few_links),
            )

pub has_chain : (trace : List Event) (runs : CompSet → SourceRun) → HasChain trace runs
has_chain trace runs first count each =
    let result = found trace runs first count each (count_outside first count) first (λ c is. is) (omega arith) in
    (result.0, result.1, result.2)
