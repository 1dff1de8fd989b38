-- The premises can be met: each compartment of any program performs its part of the empty trace.
-- An instance: nothing cites it.
use Rattle.sc_back_performer_laws.proofs.Common.{AllBecome, Bool, HasWords, IsTyped, List, SectionTree, Some, [], ap}
use Rattle.sc_back_performer_laws.proofs.Common.{arith, back_tree, comp_is, interface_of, interfaces_of, length, lt-ltb}
use Rattle.sc_back_performer_laws.proofs.Common.{nat_lt, part, program_of, refl, replaced, slice_get, subst, suc, ℕ}
use Rattle.sc_back_performer_laws.proofs.Common.{◌+◌, ◌∷◌, ◌≡◌}
use Rattle.std.proofs.lemmas.Bool.{ltb-true}
use Rattle.std.proofs.lemmas.List.Elements.{All-nil}
use Rattle.sc_back_performer_laws.specs.Recomposed.{AreRecomposed}

module _ (olds : List SectionTree) where
  -- all compartments are replaced
  abbrev pub set : ℕ → Bool
  set comp = nat_lt comp (length olds)

  abbrev pub news_from : ℕ → List SectionTree → List SectionTree
  news_from k [] = []
  news_from k (old ∷ rest) =
      back_tree (interfaces_of olds) k [] (interface_of olds k old) ∷ news_from (suc k) rest

  plus_zero : (n : ℕ) → n + 0 ≡ n
  plus_zero n = omega arith

  plus_one : (n m : ℕ) → n + suc m ≡ suc n + m
  plus_one n m = omega arith

  zero_plus : (n : ℕ) → 0 + n ≡ n
  zero_plus n = omega arith

  become_from : (k : ℕ) (xs : List SectionTree) → k + length xs ≡ length olds →
      ((i : ℕ) → slice_get olds (k + i) ≡ slice_get xs i) →
      AllBecome (interfaces_of olds) (λ comp. part (interfaces_of olds).main comp []) set k xs (news_from k xs)
  become_from k [] all got = tt
  become_from k (old ∷ rest) all got = (
    replaced (lt-ltb k (length olds) (omega (arith, all))) (interface_of olds k old)
        (comp_is olds k old (subst (λ n. slice_get olds n ≡ Some old) (plus_zero k) (got 0))) refl,
    become_from (suc k) rest (omega (arith, all))
        (λ i. subst (λ n. slice_get olds n ≡ slice_get rest i) (plus_one k i) (got (suc i))),
  )

  pub performs_nothing : IsTyped olds (program_of olds) →
      AreRecomposed olds (news_from 0 olds) (program_of olds) set []
  performs_nothing typed = record {
    typed = typed;
    performable = record { is_legal = refl; words = All-nil HasWords; few = omega arith };
    within = λ comp on. ltb-true comp (length olds) on;
    become = become_from 0 olds (zero_plus (length olds)) (λ i. ap (slice_get olds) (zero_plus i));
  }
