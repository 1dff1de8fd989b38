-- Loops that gather what is made of some items of a list.
use Rattle.sc_types_elab.proofs.Common.{List, Option, [], ap, append-nil, append_assoc, drop, drop-step, drop_all}
use Rattle.sc_types_elab.proofs.Common.{filter_map, get_or, length, map, map-append, refl, sym, ℕ, ◌++◌, ◌+◌, ◌<◌, ◌∙◌}
use Rattle.sc_types_elab.proofs.Common.{◌∷◌, ◌≡◌, ◌≤◌}
use Rattle.std.proofs.lemmas.List.Elements.{filter_map-append}

module _ {A B C : Type 0} (f : A → Option B) (g : B → C) where
  abbrev pub gathered : List A → List C
  gathered xs = map g (filter_map f xs)

  gathered-cons : (x : A) (xs : List A) → gathered (x ∷ xs) ≡ gathered (x ∷ []) ++ gathered xs
  gathered-cons x xs = ap (map g) (filter_map-append f (x ∷ []) xs) ∙ map-append g _ _

  -- one more item is looked at
  pub gather_more : (xs : List A) (i : ℕ) (x : A) (done more whole : List C) → i < length xs → x ≡ get_or xs i x →
      more ≡ done ++ gathered (x ∷ []) → done ++ gathered (drop i xs) ≡ whole →
      more ++ gathered (drop (i + 1) xs) ≡ whole
  gather_more xs i x done more whole h e m k =
      ap (λ l. l ++ gathered (drop (i + 1) xs)) m ∙ append_assoc done (gathered (x ∷ [])) (gathered (drop (i + 1) xs))
      ∙ ap (λ l. done ++ l) (sym (gathered-cons x (drop _ xs)) ∙ sym (ap gathered (drop-step xs i x h e))) ∙ k

  -- all are looked at
  pub gather_end : (xs : List A) (i : ℕ) (done whole : List C) → length xs ≤ i → done ++ gathered (drop i xs) ≡ whole →
      done ≡ whole
  gather_end xs i done whole h k = sym (append-nil done) ∙ ap (λ l. done ++ l) (sym (ap gathered (drop_all i xs h))) ∙ k

-- what is made of the items of two lists, the first made of others
pub made_of_both : {A B C : Type 0} (g : B → C) (h : A → B) (xs : List A) (ys : List B) →
    map (λ x. g (h x)) xs ++ map g ys ≡ map g (map h xs ++ ys)
made_of_both g h [] ys = refl
made_of_both g h (x ∷ xs) ys = ap (λ l. g (h x) ∷ l) (made_of_both g h xs ys)
