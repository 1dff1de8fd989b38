-- Texts of three pieces.
use Rattle.sc_top_words.proofs.Common.{List, None, Some, [], ap, first_piece, inl, inr, pieces, pieces_after, sym, ℕ}
use Rattle.sc_top_words.proofs.Common.{◌∙◌, ◌∷◌, ◌≡◌}
use Rattle.sc_top_words.proofs.Digits.{cut}
use Rattle.sc_top_words.specs.Prelude.{range_of}

last_piece : (text : List ℕ) → pieces_after text ≡ None → pieces text ≡ first_piece text ∷ []
last_piece text none =
    elim (cut text) [
      | inl one ↦ one.1
      | inr more ↦ let never = sym none ∙ more.1 in cc
    ]

next_pieces : (text following : List ℕ) → pieces_after text ≡ Some following →
    pieces text ≡ first_piece text ∷ pieces following
next_pieces text following some =
    elim (cut text) [
      | inl one ↦ let never = sym one.0 ∙ some in cc
      | inr more ↦
          let both = sym more.1 ∙ some in
          let same : more.0 ≡ following = cc both in
          more.2 ∙ ap (λ rest. first_piece text ∷ pieces rest) same
    ]

-- no range is of one piece, of two, or of more than three
pub of_one : (text : List ℕ) → pieces_after text ≡ None → range_of (pieces text) ≡ None
of_one text none = ap range_of (last_piece text none)

pub of_two : (text second : List ℕ) → pieces_after text ≡ Some second → pieces_after second ≡ None →
    range_of (pieces text) ≡ None
of_two text second some none =
    ap range_of (next_pieces text second some ∙ ap (λ rest. first_piece text ∷ rest) (last_piece second none))

module _ (text second third : List ℕ) (some : pieces_after text ≡ Some second)
    (more : pieces_after second ≡ Some third) where
  three : pieces text ≡ first_piece text ∷ first_piece second ∷ pieces third
  three = next_pieces text second some ∙ ap (λ rest. first_piece text ∷ rest) (next_pieces second third more)

  pub are_three : pieces_after third ≡ None →
      pieces text ≡ first_piece text ∷ first_piece second ∷ first_piece third ∷ []
  are_three none =
      three ∙ ap (λ rest. first_piece text ∷ first_piece second ∷ rest) (last_piece third none)

  pub of_more : (fourth : List ℕ) → pieces_after third ≡ Some fourth → range_of (pieces text) ≡ None
  of_more fourth most =
      ap range_of (three ∙ ap (λ rest. first_piece text ∷ first_piece second ∷ rest) (next_pieces third fourth most)) ∙
      elim (cut fourth) [
        | inl one ↦ ap (λ rest. range_of (first_piece text ∷ first_piece second ∷ first_piece third ∷ rest)) one.1
        | inr more ↦ ap (λ rest. range_of (first_piece text ∷ first_piece second ∷ first_piece third ∷ rest)) more.2
      ]
