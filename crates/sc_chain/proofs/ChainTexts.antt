-- The chain of a trace as a chain of texts: each set's text is accepted, and means what the set's scripts say.
use Rattle.sc_chain.proofs.Common.{Accepts, All, All-append, All-push, AreFresh, Bool, Event, HasProgram, Includes}
use Rattle.sc_chain.proofs.Common.{IsChain, IsChainFrom, IsChainWith, IsRising, IsSource, Link, List, MeansTrace}
use Rattle.sc_chain.proofs.Common.{ProgramTree}
use Rattle.sc_chain.proofs.Common.{CompSet}
use Rattle.sc_chain.proofs.Common.{SourceParts, SourceRun, [], is_listed, ap, arith, blamed_are_there, c_arith}
use Rattle.sc_chain.proofs.Common.{chain_is_least, chains_rise, concat, eqb-true, false, length, map}
use Rattle.sc_chain.proofs.Common.{meaning, new_texts, nobody, performing, recomposed, refl, scripted_meaning, subst}
use Rattle.sc_chain.proofs.Common.{suc, sym, take, take-append-le, take_all, true, ℕ, ◌++◌, ◌<◌, ◌==◌, ◌||◌, ◌∙◌, ◌∷◌}
use Rattle.sc_chain.proofs.Common.{◌≡◌, ◌≤◌}
use Rattle.sc_base.specs.Prelude.{IsPrefix}
use Rattle.sc_core_laws.proofs.Blames.{all_outside}
use Rattle.sc_core_laws.specs.Chains as laws
use Rattle.sc_chain.proofs.ChainFollowing.{IsFound, Performs, among_also, blame_of, runs}

-- LISTS
head_of : {A : Type 0} (P : A → Type 0) (x : A) (xs : List A) → All P (x ∷ xs) → P x
head_of P x xs all = all 0 x (omega arith)

tail_of : {A : Type 0} (P : A → Type 0) (x : A) (xs : List A) → All P (x ∷ xs) → All P xs
tail_of P x xs all = λ k d inside. all (suc k) d (omega (arith, inside))

one_also : {A : Type 0} (P : A → Type 0) (x : A) (xs : List A) → P x → All P xs → All P (x ∷ xs)
one_also P x xs this all =
    All-append P (x ∷ []) xs (All-push P [] x (λ k d inside. absurd (omega (arith, inside))) this) all

-- a prefix, by its length
prefix_taken : (run trace : List Event) (n : ℕ) → IsPrefix run trace → length run ≡ n → run ≡ take n trace
prefix_taken run trace n prefix long =
    sym (take_all n run (omega (arith, long))) ∙
    (sym (take-append-le n run prefix.more (omega (arith, long))) ∙ ap (take n) (sym prefix.is))

among_known : (comps : List ℕ) (n : ℕ) → All (λ comp. comp < n) comps → (comp : ℕ) → is_listed comps comp ≡ true →
    comp < n
among_known [] n known comp is = cc
among_known (one ∷ comps) n known comp is =
    by (among_known comps n (tail_of (λ comp. comp < n) one comps known) comp) (one == comp) refl is where
      by : (is_listed comps comp ≡ true → comp < n) → (b : Bool) → (one == comp) ≡ b → (b || is_listed comps comp) ≡
          true →
          comp < n
      by others true same is =
          subst (λ c. c < n) (eqb-true one comp same) (head_of (λ comp. comp < n) one comps known)
      by others false other is = others is

-- where nobody performs all sections are kept
kept_texts : (source : SourceParts) (trace : List Event) (comp : ℕ) (sections : List (List ℕ)) →
    new_texts (performing source.program.interfaces trace nobody) comp sections ≡ sections
kept_texts source trace comp [] = refl
kept_texts source trace comp (section ∷ sections) =
    ap (λ texts. section ∷ texts) (kept_texts source trace (suc comp) sections)

module _ (source : SourceParts) (inputs : List ℕ) (steps : ℕ) (trace : List Event)
    (as_many : length source.program.interfaces.comps ≡ length source.program.sections)
    (one_program : (text : List ℕ) (program other : ProgramTree) → Accepts text program → Accepts text other →
    program ≡ other)
    (meant : (set : CompSet) → ((comp : ℕ) → set comp ≡ true → comp < length source.program.interfaces.comps) →
    (program : ProgramTree) × Accepts (recomposed source trace set) program ×
    ((inputs : List ℕ) (turns events : ℕ) →
    meaning program inputs turns events ≡ scripted_meaning source.program set trace inputs turns events)) where
  abbrev run_of : CompSet → SourceRun
  run_of = runs source inputs steps trace

  abbrev IsKnown : CompSet → Type 0
  IsKnown set = (comp : ℕ) → set comp ≡ true → comp < length source.program.interfaces.comps

  abbrev Perform : Link → Type 0
  Perform = Performs source inputs steps trace

  has_program : (set : CompSet) → IsKnown set → HasProgram source inputs steps trace set
  has_program set known = let text = meant set known in record { program = text.0; accepted = text.1 }

  -- each program of the text of a set has the run in which the set performs
  means : (set : CompSet) → IsKnown set → (text : HasProgram source inputs steps trace set) →
      meaning text.program inputs steps (length trace) ≡ run_of set
  means set known text =
      ap (λ program. meaning program inputs steps (length trace)) (one_program (recomposed source trace set)
      text.program (meant set known).0 text.accepted (meant set known).1)
      ∙ (meant set known).2 inputs steps (length trace)

  is_trace : (set : CompSet) → IsKnown set → (run_of set).trace ≡ trace → MeansTrace source inputs steps trace set
  is_trace set known emitted =
      let text = has_program set known in
      record { text = text; is_trace = ap (λ r. r.trace) (means set known text) ∙ emitted }

  emitted_by : (set : CompSet) → IsKnown set → MeansTrace source inputs steps trace set → (run_of set).trace ≡ trace
  emitted_by set known that = sym (ap (λ r. r.trace) (means set known that.text)) ∙ that.is_trace

  -- the links of a chain of blames that rise and are fresh are a chain of texts
  texts_from : (comps : List ℕ) (least : ℕ) (links : List Link) →
      All (λ comp. comp < length source.program.interfaces.comps) comps →
      laws.IsBlameChain run_of trace (is_listed comps) (map blame_of links) →
      IsRising least (length trace) (map blame_of links) → AreFresh (is_listed comps) (map blame_of links) →
      All Perform links → IsChainFrom source inputs steps trace comps least links
  texts_from comps least [] known chain rising fresh texts =
      is_trace (is_listed comps) (among_known comps _ known) chain
  texts_from comps least (link ∷ links) known chain rising fresh texts =
      let here = among_known comps (length source.program.interfaces.comps) known in
      let text = has_program (is_listed comps) here in
      let same = means (is_listed comps) here text in
      let there = blamed_are_there.programs c_arith source.program (is_listed comps) trace inputs steps (length trace)
      link.comp link.cause link.line chain.0.blamed in
      let below : link.comp < length source.program.interfaces.comps = omega (arith, there, as_many) in
      let also = sym (among_also comps link.comp) in (
        record {
          text = text;
          blamed = record {
            end = ap (λ r. r.end) same ∙ chain.0.blamed;
            prefix = ap (λ r. r.trace) same ∙
                prefix_taken (run_of (is_listed comps)).trace trace link.after chain.0.prefix chain.0.after;
            proper = rising.1;
          };
          later = rising.0;
          outside = fresh.0;
          there = below;
          performs = head_of Perform link links texts;
        },
        texts_from (link.comp ∷ comps) (suc link.after) links
            (one_also (λ comp. comp < length source.program.interfaces.comps) link.comp comps below known)
            (subst (λ set. laws.IsBlameChain run_of trace set (map blame_of links)) also chain.1) rising.2
            (subst (λ set. AreFresh set (map blame_of links)) also fresh.1) (tail_of Perform link links texts),
      )

  includes : (set : CompSet) (links : List Link) → laws.HasAllBlamed set (map blame_of links) →
      Includes source inputs steps trace set links
  includes set [] all = tt
  includes set (link ∷ links) all = (all.0, includes set links all.1)

  included : (set : CompSet) (links : List Link) → Includes source inputs steps trace set links →
      laws.HasAllBlamed set (map blame_of links)
  included set [] all = tt
  included set (link ∷ links) all = (all.0, included set links all.1)

  module _ (given : List ℕ) (given_known : All (λ comp. comp < length source.program.interfaces.comps) given)
      (links : List Link) (found : IsFound source given inputs steps trace links) where
    abbrev first_run : SourceRun
    first_run = run_of (is_listed given)

    first_known : IsKnown (is_listed given)
    first_known = among_known given (length source.program.interfaces.comps) given_known

    rises : IsRising 0 (length trace) (map blame_of links) × AreFresh (is_listed given) (map blame_of links)
    rises = chains_rise.programs c_arith source.program inputs steps trace (is_listed given) (map blame_of links)
        found.chain

    no_links : links ≡ [] → MeansTrace source inputs steps trace (is_listed given)
    no_links is =
        is_trace (is_listed given) first_known
        (subst (λ ls. laws.IsBlameChain run_of trace (is_listed given) (map blame_of ls)) is found.chain)

    no_blame : (ls : List Link) → laws.IsBlameChain run_of trace (is_listed given) (map blame_of ls) →
        IsRising 0 (length trace) (map blame_of ls) → first_run.trace ≡ trace → ls ≡ []
    no_blame [] chain rising emitted = refl
    no_blame (link ∷ ls) chain rising emitted =
        let long : length first_run.trace ≡ link.after = chain.0.after in
        absurd (omega (arith, long, ap length emitted, rising.1))

    pub is_chain : IsChainWith source inputs steps trace given links
    is_chain = record {
      chain = texts_from given 0 links given_known found.chain rises.0 rises.1 found.texts;
      few = found.few;
      none = (no_links, λ that. no_blame links found.chain rises.0 (emitted_by (is_listed given) first_known that));
      least = λ set known larger.
          let law = chain_is_least.programs c_arith source.program inputs steps trace (is_listed given)
          (map blame_of links) set larger found.chain in (
            λ that. includes set links (law.0 (emitted_by set known that)),
            λ all. is_trace set known (law.1 (included set links all)),
          );
    }

-- the chain of the program's own image, of which nobody is given
pub is_own_chain : (source : SourceParts) (inputs : List ℕ) (steps : ℕ) (trace : List Event) → IsSource source →
    ((text : List ℕ) (program other : ProgramTree) → Accepts text program → Accepts text other → program ≡ other) →
    (links : List Link) → IsChainWith source inputs steps trace [] links → IsChain source inputs steps trace links
is_own_chain source inputs steps trace is_source one_program links with_nobody =
    let own : recomposed source trace nobody ≡ source.bytes =
    ap (λ texts. source.preamble ++ concat texts) (kept_texts source trace 0 source.sections) ∙ is_source.joined in
    record {
      own = own;
      chain = with_nobody.chain;
      few = subst (λ n. length links ≤ n) (all_outside (length source.program.interfaces.comps)) with_nobody.few;
      none = (
        λ is.
            let that = with_nobody.none.0 is in
            sym (ap (λ p. (meaning p inputs steps (length trace)).trace) (one_program source.bytes that.text.program
            source.program (subst (λ text. Accepts text that.text.program) own that.text.accepted)
            is_source.accepted)) ∙ that.is_trace,
        λ emitted. with_nobody.none.1 (record {
          text = record {
            program = source.program;
            accepted = subst (λ text. Accepts text source.program) (sym own) is_source.accepted;
          };
          is_trace = emitted;
        }),
      );
      least = λ set known. with_nobody.least set known (λ comp is. absurd (cc));
    }
