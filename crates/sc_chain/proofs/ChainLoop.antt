-- The loop that follows the chain of a trace: how it begins, goes on and ends.
use Rattle.sc_chain.proofs.Common.{Accepts, All, EmitsOrIsBlamed, Event, HasWords, Interfaces, IsChainWith, IsNextOf}
use Rattle.sc_chain.proofs.Common.{IsSource, IsWellTyped, Link, List, None, Option, ProgramTree, CompSet}
use Rattle.sc_chain.proofs.Common.{Some}
use Rattle.sc_chain.proofs.Common.{SourceParts, SourceRun, [], is_listed, ap, arith, empty_set, inl, inr, legal}
use Rattle.sc_chain.proofs.Common.{length, meaning, refl}
use Rattle.sc_chain.proofs.Common.{scripted_meaning, subst, sym, true, ℕ, ⊎_elim, ◌++◌, ◌-◌, ◌<◌, ◌∙◌, ◌∷◌, ◌≡◌, ◌≤◌}
use Rattle.sc_linker.proofs.Comps.{same_count}
use Rattle.sc_chain.proofs.Accepted.{recomposed_means}
use Rattle.sc_chain.proofs.ChainFollowing.{IsAt, begins, ends, few_links, fewer_left, goes_on, runs}
use Rattle.sc_chain.proofs.ChainTexts.{is_chain}
use Rattle.sc_core_laws.specs.Prelude.{IsSubset}

pub sections_are : (source : SourceParts) (program : ProgramTree) → program ≡ source.program → IsWellTyped program →
    length source.program.interfaces.comps ≡ length source.program.sections
sections_are source program same typed = same_count source.program (subst IsWellTyped same typed)

-- the run of the source's own text, where nobody performs
pub own_run : (source : SourceParts) (comps : List ℕ) (inputs : List ℕ) (turns events : ℕ) (trace : List Event) →
    length comps ≡ 0 → (program : ProgramTree) → program ≡ source.program → (run : SourceRun) →
    run ≡ meaning program inputs turns events →
    run ≡ scripted_meaning source.program (is_listed comps) trace inputs turns events
own_run source [] inputs turns events trace none program same run is =
    is ∙ (ap (λ p. meaning p inputs turns events) same ∙
    sym (empty_set.meaning source.program trace inputs turns events))
own_run source (comp ∷ comps) inputs turns events trace none program same run is = absurd (omega (arith, none))

module _ (source : SourceParts) (given : List ℕ) (inputs : List ℕ) (steps : ℕ) (trace : List Event)
    (as_many : length source.program.interfaces.comps ≡ length source.program.sections) where
  pub at_first : All (λ comp. comp < length source.program.interfaces.comps) given →
      ((set : CompSet) → IsSubset (is_listed given) set → EmitsOrIsBlamed (length source.program.sections) set trace
      (scripted_meaning source.program set trace inputs steps (length trace))) → (run : SourceRun) →
      run ≡ scripted_meaning source.program (is_listed given) trace inputs steps (length trace) →
      (links : List Link) → links ≡ [] → (comps : List ℕ) → comps ≡ given →
      IsAt source given inputs steps trace run links comps
  at_first known scripted run is links no_links comps copied =
      subst (λ cs. IsAt source given inputs steps trace run links cs) (sym copied)
      (subst (λ ls. IsAt source given inputs steps trace run ls given) (sym no_links)
      (begins source given inputs steps trace as_many known (λ set larger. ⊎_elim (λ emitted. inl emitted)
      (λ blamed. inr blamed.0) (scripted set larger)) run is))

  module _ (run : SourceRun) (links : List Link) (comps : List ℕ)
      (at : IsAt source given inputs steps trace run links comps)
      (interfaces : Interfaces) (same : interfaces ≡ source.program.interfaces)
      (found : Option Link) (next : IsNextOf interfaces trace run found) where
    module _ (link : Link) (is : found ≡ Some link) (links' : List Link) (more_links : links' ≡ links ++ link ∷ [])
        (comps' : List ℕ) (more_comps : comps' ≡ comps ++ link.comp ∷ []) where
      pub at_next : (later : SourceRun) → later ≡ runs source inputs steps trace (is_listed comps') →
          IsAt source given inputs steps trace later links' comps'
      at_next later later_is =
          subst (λ cs. IsAt source given inputs steps trace later links' cs) (sym more_comps)
          (subst (λ ls. IsAt source given inputs steps trace later ls (comps ++ link.comp ∷ [])) (sym more_links)
          (goes_on source given inputs steps trace run links comps as_many at link
          (subst (λ i. IsNextOf i trace run (Some link)) same (subst (IsNextOf interfaces trace run) is next)) later
          (later_is ∙ ap (λ cs. runs source inputs steps trace (is_listed cs)) more_comps)))

      -- the set's run itself
      here : IsAt source given inputs steps trace (runs source inputs steps trace (is_listed comps')) links' comps'
      here = at_next (runs source inputs steps trace (is_listed comps')) refl

      pub known_next : All (λ comp. comp < length source.program.interfaces.comps) comps'
      known_next = here.known

      pub fewer_next : length source.program.interfaces.comps - length links'
          < length source.program.interfaces.comps - length links
      fewer_next =
          let few = few_links source given inputs steps trace (runs source inputs steps trace (is_listed comps')) links'
          comps'
          here in
          subst (λ ls. length source.program.interfaces.comps - length ls
          < length source.program.interfaces.comps - length links) (sym more_links)
          (fewer_left source given inputs steps trace run links comps link
          (subst (λ ls. length ls ≤ length source.program.interfaces.comps) more_links few))

    pub at_last : All (λ comp. comp < length source.program.interfaces.comps) given → found ≡ None →
        IsSource source →
        ((text : List ℕ) (program other : ProgramTree) → Accepts text program → Accepts text other → program ≡ other) →
        legal source.program.interfaces trace ≡ true → length trace ≤ 4096 → All HasWords trace →
        IsChainWith source inputs steps trace given links
    at_last known none is_source one_program allowed few words =
        is_chain source inputs steps trace as_many one_program
        (recomposed_means source trace is_source allowed few words) given known links
        (ends source given inputs steps trace run links comps at (subst (IsNextOf interfaces trace run) none next))
