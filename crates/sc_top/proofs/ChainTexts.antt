-- The texts of a chain: what each of them means.
use Rattle.sc_top.proofs.Common.{Accepts, Bool, Explanation, IsChainFrom, Link, List, None, Option, Some, SourceParts}
use Rattle.sc_top.proofs.Common.{[]}
use Rattle.sc_top.proofs.Common.{comp_of, false, is_listed, length, map, meaning, none-some, or-false}
use Rattle.sc_top.proofs.Common.{recomposed, refl, slice_get, subst, suc, sym, take, true, zero, ℕ, ◌++◌, ◌==◌, ◌||◌}
use Rattle.sc_top.proofs.Common.{◌∙◌, ◌∷◌, ◌≡◌}
use Rattle.sc_event.specs.declared.event.Event.{Event}
use Rattle.sc_chain.specs.Chain.{HasProgram, IsBlamedSo}
use Rattle.sc_top.specs.Committed.{IsChainText}
use Rattle.std.proofs.lemmas.List.Folds.{list_any-append}

-- THE ORDER OF THE LINKS

-- the compartments that perform after the links
abbrev pub reached : List ℕ → List Link → List ℕ
reached comps [] = comps
reached comps (link ∷ links) = reached (link.comp ∷ comps) links

listed : (comps : List ℕ) (links : List Link) (comp : ℕ) →
    is_listed (reached comps links) comp ≡ (is_listed comps comp || is_listed (map comp_of links) comp)
listed comps [] comp = sym (or-false (is_listed comps comp))
listed comps (link ∷ links) comp =
    listed (link.comp ∷ comps) links comp ∙
    swapped (link.comp == comp) (is_listed comps comp) (is_listed (map comp_of links) comp) where
      swapped : (one two three : Bool) → ((one || two) || three) ≡ (two || (one || three))
      swapped true true three = refl
      swapped true false three = refl
      swapped false two three = refl

-- in whatever order, they are the same set
pub same_set : (given : List ℕ) (links : List Link) →
    is_listed (reached given links) ≡ is_listed (given ++ map comp_of links)
same_set given links = λ i comp.
    (listed given links comp ∙ sym (list_any-append (λ one. one == comp) given (map comp_of links))) i

-- WHAT A TEXT MEANS

module _ (source : SourceParts) (inputs : List ℕ) (steps : ℕ) (trace : List Event) where
  -- the text in which these compartments perform, and what the next link says of its meaning
  record MeansUpTo (comps : List ℕ) (next : Option Link) : Type 0 where
    text : HasProgram source inputs steps trace (is_listed comps)
    blamed : (link : Link) → next ≡ Some link → IsBlamedSo text.program inputs steps trace link
    means : next ≡ None → (meaning text.program inputs steps (length trace)).trace ≡ trace

  means_up_to : (comps : List ℕ) (least : ℕ) (links : List Link) →
      IsChainFrom source inputs steps trace comps least links → (n : ℕ) →
      MeansUpTo (reached comps (take n links)) (slice_get links n)
  means_up_to comps least [] chain zero = record {
    text = chain.text;
    blamed = λ link is. absurd (none-some link is);
    means = λ is. chain.is_trace;
  }
  means_up_to comps least [] chain (suc n) = record {
    text = chain.text;
    blamed = λ link is. absurd (none-some link is);
    means = λ is. chain.is_trace;
  }
  means_up_to comps least (link ∷ links) chain zero = record {
    text = chain.0.text;
    blamed = λ next is.
        let found : Some link ≡ Some next = is in
        let same : link ≡ next = cc found in
        subst (IsBlamedSo chain.0.text.program inputs steps trace) same chain.0.blamed;
    means = λ is. absurd (none-some link (sym is));
  }
  means_up_to comps least (link ∷ links) chain (suc n) =
      means_up_to (link.comp ∷ comps) (suc link.after) links chain.1 n

-- each text of the chain
pub chain_text : (source : SourceParts) (inputs : List ℕ) (steps : ℕ) (explanation : Explanation) →
    IsChainFrom source inputs steps explanation.trace explanation.given 0 explanation.links → (links : ℕ) →
    IsChainText source inputs steps explanation links
chain_text source inputs steps explanation chain links =
    let it = means_up_to source inputs steps explanation.trace explanation.given 0 explanation.links chain links in
    record {
      program = it.text.program;
      accepted = subst (λ set. Accepts (recomposed source explanation.trace set) it.text.program)
          (same_set explanation.given (take links explanation.links)) it.text.accepted;
      blamed = it.blamed;
      means = it.means;
    }
