-- How the chain of a trace is followed, link by link, from the run in which the given compartments perform on.
use Rattle.sc_chain.proofs.Common.{All, All-push, Blamed, Bool, Cause, Event, IsBlamedOutside, IsLink, IsNextLink}
use Rattle.sc_chain.proofs.Common.{IsRising, Link, List, CompSet, SourceParts, SourceRun, [], is_listed, ap, append-nil}
use Rattle.sc_chain.proofs.Common.{append_assoc, arith, blamed_are_there, c_arith, cases_eq, chain_exists, chains_rise}
use Rattle.sc_chain.proofs.Common.{eq-eqb, false, length, length-append, length-map, map, map-append}
use Rattle.sc_chain.proofs.Common.{ne_eqb, performed, performing_text, subst, suc, sym, true, with, ℕ}
use Rattle.sc_chain.proofs.Common.{⊎_elim, ◌++◌, ◌-◌, ◌<◌, ◌==◌, ◌||◌, ◌∙◌, ◌∷◌, ◌≡◌, ◌≤◌, ◌⊎◌}
use Rattle.sc_core_laws.specs.Prelude.{BlameLink as Blame, IsBlameChain, IsSubset, count_outside}
use Rattle.sc_core_laws.proofs.Blames.{outside_few}
use Rattle.std.proofs.lemmas.List.Folds.{list_any-append}

-- SETS
same_swapped : (a b : ℕ) → (a == b) ≡ (b == a)
same_swapped a b =
    ⊎_elim (λ is. eq-eqb a b is ∙ sym (eq-eqb b a (sym is))) (λ no. ne_eqb a b no ∙
    sym (ne_eqb b a (λ is. no (sym is)))) (cases_eq a b)

or_swapped : (a b c : Bool) → b ≡ c → (a || (b || false)) ≡ (c || a)
or_swapped true true c is = ap (λ d. d || true) is
or_swapped true false c is = ap (λ d. d || true) is
or_swapped false true c is = ap (λ d. d || false) is
or_swapped false false c is = ap (λ d. d || false) is

-- one compartment more, at the end of the list or at its head
pub among_more : (comps : List ℕ) (comp : ℕ) → is_listed (comps ++ comp ∷ []) ≡ with comp (is_listed comps)
among_more comps comp = λ i. λ one. at one i where
  at : (one : ℕ) → is_listed (comps ++ comp ∷ []) one ≡ with comp (is_listed comps) one
  at one =
      list_any-append (λ c. c == one) comps (comp ∷ []) ∙
      or_swapped (is_listed comps one) (comp == one) (one == comp) (same_swapped comp one)

pub among_also : (comps : List ℕ) (comp : ℕ) → is_listed (comp ∷ comps) ≡ with comp (is_listed comps)
among_also comps comp = λ i. λ one. ap (λ b. b || is_listed comps one) (same_swapped comp one) i

-- LINKS
-- what a link says of a blame
abbrev pub blame_of : Link → Blame
blame_of link = record { comp = link.comp; after = link.after; cause = link.cause; line = link.line }

record SameBlame (comp comp' : ℕ) (cause cause' : Cause) (line line' : ℕ) : Type 0 where
  same_comp : comp ≡ comp'
  same_cause : cause ≡ cause'
  same_line : line ≡ line'

same_blame : (comp comp' : ℕ) (cause cause' : Cause) (line line' : ℕ) →
    Blamed comp cause line ≡ Blamed comp' cause' line' → SameBlame comp comp' cause cause' line line'
same_blame comp comp' cause cause' line line' is = record { same_comp = cc; same_cause = cc; same_line = cc }

module _ (source : SourceParts) (inputs : List ℕ) (steps : ℕ) (trace : List Event) where
  -- the runs in which sets perform their parts of the trace
  abbrev pub runs : CompSet → SourceRun
  runs = performed c_arith source.program inputs steps trace

  abbrev pub count : ℕ
  count = length source.program.interfaces.comps

  abbrev pub Performs : Link → Type 0
  Performs link = link.text ≡ performing_text source.program.interfaces trace link.comp

module _ (source : SourceParts) (given : List ℕ) (inputs : List ℕ) (steps : ℕ) (trace : List Event) where
  abbrev run_of : CompSet → SourceRun
  run_of = runs source inputs steps trace

  abbrev comp_count : ℕ
  comp_count = count source inputs steps trace

  abbrev Perform : Link → Type 0
  Perform = Performs source inputs steps trace

  -- as many as there are compartments that aren't given
  abbrev pub most_links : ℕ
  most_links = count_outside (is_listed given) comp_count

  -- the links are a whole chain
  pub record IsFound (links : List Link) : Type 0 where
    pub chain : IsBlameChain run_of trace (is_listed given) (map blame_of links)
    pub few : length links ≤ most_links
    pub texts : All Perform links

  -- the links are those of a chain up to here, and this is the run in which their compartments perform
  pub record IsAt (run : SourceRun) (links : List Link) (comps : List ℕ) : Type 0 where
    pub rest : List Blame
    pub whole : IsBlameChain run_of trace (is_listed given) (map blame_of links ++ rest)
    pub few : length (map blame_of links ++ rest) ≤ most_links
    pub same : run ≡ run_of (is_listed comps)
    pub chain : IsBlameChain run_of trace (is_listed comps) rest
    pub least : ℕ
    pub rising : IsRising least (length trace) rest
    pub texts : All Perform links
    pub known : All (λ comp. comp < comp_count) comps

  pub begins : length source.program.interfaces.comps ≡ length source.program.sections →
      All (λ comp. comp < comp_count) given →
      ((set : CompSet) → IsSubset (is_listed given) set → ((run_of set).trace ≡ trace) ⊎
      IsBlamedOutside (length source.program.sections) set (run_of set) trace) → (run : SourceRun) →
      run ≡ run_of (is_listed given) → IsAt run [] given
  begins as_many known each run is =
      let found = chain_exists.programs c_arith source.program inputs steps trace (is_listed given)
      (length source.program.sections) each in
      let few : length found.0 ≤ count_outside (is_listed given) (length source.program.sections) = found.2 in
      let rising = (chains_rise.programs c_arith source.program inputs steps trace (is_listed given) found.0
      found.1).0 in
      record {
        rest = found.0;
        whole = found.1;
        few = subst (λ n. length found.0 ≤ count_outside (is_listed given) n) (sym as_many) few;
        same = is;
        chain = found.1;
        least = 0;
        rising = rising;
        texts = λ k d inside. absurd (omega (arith, inside));
        known = known;
      }

  module _ (run : SourceRun) (links : List Link) (comps : List ℕ) where
    -- the next link of the chain is that of the blame
    next_is : (set : CompSet) (link : Link) (blame : Blame) → IsNextLink source.program.interfaces trace run link →
        run ≡ run_of set →
        IsLink (run_of set) trace blame → blame ≡ blame_of link
    next_is set link blame next same is =
        let parts = same_blame blame.comp link.comp blame.cause link.cause blame.line link.line
        (sym is.blamed ∙ (ap (λ r. r.end) (sym same) ∙ next.blamed)) in
        let after : blame.after ≡ link.after =
        sym is.after ∙ (ap (λ r. length r.trace) (sym same) ∙ next.after) in
        λ i. record {
          comp = parts.same_comp i;
          after = after i;
          cause = parts.same_cause i;
          line = parts.same_line i;
        }

    one_more : (link : Link) (rest : List Blame) →
        map blame_of (links ++ link ∷ []) ++ rest ≡ map blame_of links ++ blame_of link ∷ rest
    one_more link rest =
        ap (λ blames. blames ++ rest) (map-append blame_of links (link ∷ [])) ∙
        append_assoc (map blame_of links) (blame_of link ∷ []) rest

    pub goes_on : length source.program.interfaces.comps ≡ length source.program.sections → IsAt run links comps →
        (link : Link) → IsNextLink source.program.interfaces trace run link → (later : SourceRun) →
        later ≡ run_of (is_listed (comps ++ link.comp ∷ [])) → IsAt later (links ++ link ∷ []) (comps ++ link.comp ∷ [])
    goes_on as_many at link next later later_is = by at.rest at.whole at.few at.chain at.rising where
      by : (rest : List Blame) → IsBlameChain run_of trace (is_listed given) (map blame_of links ++ rest) →
          length (map blame_of links ++ rest) ≤ most_links → IsBlameChain run_of trace (is_listed comps) rest →
          IsRising at.least (length trace) rest → IsAt later (links ++ link ∷ []) (comps ++ link.comp ∷ [])
      by [] whole few is_trace rising =
          let here : length run.trace ≡ length trace = ap (λ r. length r.trace) at.same ∙ ap length is_trace in
          absurd (omega (arith, here, next.after, next.proper))
      by (blame ∷ rest) whole few chain rising =
          let is : blame ≡ blame_of link = next_is (is_listed comps) link blame next at.same chain.0 in
          let there = blamed_are_there.programs c_arith source.program (is_listed comps) trace inputs steps (length
          trace)
          link.comp link.cause link.line (ap (λ r. r.end) (sym at.same) ∙ next.blamed) in
          record {
            rest = rest;
            whole = subst (λ blames. IsBlameChain run_of trace (is_listed given) blames)
                (ap (λ b. map blame_of links ++ b ∷ rest) is
                ∙
                sym (one_more link rest)) whole;
            few = subst (λ blames. length blames ≤ most_links) (ap (λ b. map blame_of links ++ b ∷ rest) is ∙
                sym (one_more link rest)) few;
            same = later_is;
            chain = subst (λ set. IsBlameChain run_of trace set rest) (ap (λ b. with b.comp (is_listed comps)) is ∙
                sym (among_more comps link.comp)) chain.1;
            least = suc blame.after;
            rising = rising.2;
            texts = All-push Perform links link at.texts next.performs;
            known = All-push (λ comp. comp < comp_count) comps link.comp at.known (omega (arith, there, as_many));
          }

    pub ends : IsAt run links comps → ((comp : ℕ) (cause : Cause) (line : ℕ) → run.end ≡ Blamed comp cause line →
        length trace ≤ length run.trace) → IsFound links
    ends at over = by at.rest at.whole at.few at.chain at.rising where
      by : (rest : List Blame) → IsBlameChain run_of trace (is_listed given) (map blame_of links ++ rest) →
          length (map blame_of links ++ rest) ≤ most_links → IsBlameChain run_of trace (is_listed comps) rest →
          IsRising at.least (length trace) rest → IsFound links
      by [] whole few is_trace rising =
          record {
            chain = subst (λ blames. IsBlameChain run_of trace (is_listed given) blames)
                (append-nil (map blame_of links)) whole;
            few = omega (arith, few, length-append (map blame_of links) [], length-map links blame_of);
            texts = at.texts;
          }
      by (blame ∷ rest) whole few chain rising =
          let late = over blame.comp blame.cause blame.line (ap (λ r. r.end) at.same ∙ chain.0.blamed) in
          let here : length run.trace ≡ blame.after = ap (λ r. length r.trace) at.same ∙ chain.0.after in
          absurd (omega (arith, late, here, rising.1))

    -- there are never more links than compartments
    pub few_links : IsAt run links comps → length links ≤ comp_count
    few_links at =
        omega (
          arith,
          at.few,
          outside_few (is_listed given) comp_count,
          length-append (map blame_of links) at.rest,
          length-map links blame_of,
        )

    pub fewer_left : (link : Link) → length (links ++ link ∷ []) ≤ comp_count →
        comp_count - length (links ++ link ∷ []) < comp_count - length links
    fewer_left link few = omega (arith, few, length-append links (link ∷ []))
