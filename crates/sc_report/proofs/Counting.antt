-- Texts that are printed number by number.
use Rattle.sc_report.proofs.Common.{Bool, List, [], ap, append-nil, arith, cond, false, filter, flat_map, flat_map_more}
use Rattle.sc_report.proofs.Common.{numbers_from, suc, sym, true, zero, ℕ, ◌++◌, ◌+◌, ◌∙◌, ◌∷◌, ◌≡◌}
use Rattle.std.proofs.lemmas.List.Elements.{filter-append}

last_number : (first count : ℕ) → numbers_from first (suc count) ≡ numbers_from first count ++ (first + count) ∷ []
last_number first zero =
    let same : first ≡ first + 0 = omega arith in
    ap (λ n. n ∷ []) same
last_number first (suc count) =
    let same : suc first + count ≡ first + suc count = omega arith in
    ap (λ ns. first ∷ ns)
    (last_number (suc first) count ∙ ap (λ n. numbers_from (suc first) count ++ n ∷ []) same)

one_more : (j : ℕ) → numbers_from 0 (j + 1) ≡ numbers_from 0 j ++ j ∷ []
one_more j =
    let next : j + 1 ≡ suc j = omega arith in
    let same : 0 + j ≡ j = omega arith in
    ap (λ n. numbers_from 0 n) next ∙ last_number 0 j ∙ ap (λ n. numbers_from 0 j ++ n ∷ []) same

-- one number more
pub number_turn : (f : ℕ → List ℕ) (j : ℕ) (old text now : List ℕ) → text ≡ old ++ flat_map f (numbers_from 0 j) →
    now ≡ text ++ f j → now ≡ old ++ flat_map f (numbers_from 0 (j + 1))
number_turn f j old text now before printed =
    printed ∙ ap (λ t. t ++ f j) before ∙ flat_map_more f old (numbers_from 0 j) j ∙
    ap (λ ns. old ++ flat_map f ns) (sym (one_more j))

module _ (p : ℕ → Bool) (f : ℕ → List ℕ) (j : ℕ) where
  chosen : (b : Bool) → p j ≡ b → filter p (numbers_from 0 (j + 1)) ≡ filter p (numbers_from 0 j) ++ cond b (j ∷ []) []
  chosen b is =
      ap (filter p) (one_more j) ∙ filter-append p (numbers_from 0 j) (j ∷ []) ∙
      ap (λ b. filter p (numbers_from 0 j) ++ cond b (j ∷ []) []) is

  -- one number more, which passes the test or not
  pub chosen_turn : (old text now : List ℕ) → p j ≡ true → text ≡ old ++ flat_map f (filter p (numbers_from 0 j)) →
      now ≡ text ++ f j → now ≡ old ++ flat_map f (filter p (numbers_from 0 (j + 1)))
  chosen_turn old text now is before printed =
      printed ∙ ap (λ t. t ++ f j) before ∙ flat_map_more f old (filter p (numbers_from 0 j)) j ∙
      ap (λ ns. old ++ flat_map f ns) (sym (chosen true is))

  pub passed_turn : (old text : List ℕ) → p j ≡ false → text ≡ old ++ flat_map f (filter p (numbers_from 0 j)) →
      text ≡ old ++ flat_map f (filter p (numbers_from 0 (j + 1)))
  passed_turn old text is before =
      before ∙ ap (λ ns. old ++ flat_map f ns)
      (sym (chosen false is ∙ append-nil (filter p (numbers_from 0 j))))
