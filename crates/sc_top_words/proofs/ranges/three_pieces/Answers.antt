use Rattle.sc_top_words.proofs.Common.{List, None, Option, Some, [], ap, option_map, pieces_after, sym, ℕ, ◌∙◌, ◌∷◌}
use Rattle.sc_top_words.proofs.Common.{◌≡◌}
use Rattle.std.specs.Borrow.{Bor}
use Rattle.sc_top_words.proofs.Pieces.{are_three, of_more, of_one, of_two}
use Rattle.sc_top_words.proofs.ranges.three_pieces.Goals as goal

abbrev texts : Option (Bor (List ℕ)) → Option (List ℕ)
texts = option_map (λ (rest : Bor (List ℕ)). rest.now)

pub returns-in_err-rest-clause-none : goal.returns-in_err-rest-clause-none
returns-in_err-rest-clause-none c =
    let none : pieces_after c.args.text.now ≡ None = sym c.first_piece.ensures.following ∙ ap texts c.in_err-rest.was in
    λ _. of_one c.args.text.now none

pub returns-in_err-rest-2-clause-none : goal.returns-in_err-rest-2-clause-none
returns-in_err-rest-2-clause-none c =
    let second = c.in_ok-rest.field-0.now in
    let some : pieces_after c.args.text.now ≡ Some second =
    sym c.first_piece.ensures.following ∙ ap texts c.in_ok-rest.was in
    let none : pieces_after second ≡ None = sym c.first_piece-2.ensures.following ∙ ap texts c.in_err-rest-2.was in
    λ _. of_two c.args.text.now second some none

pub returns-in-None-clause-some : goal.returns-in-None-clause-some
returns-in-None-clause-some c =
    let second = c.in_ok-rest.field-0.now in
    let third = c.in_ok-rest-2.field-0.now in
    let some : pieces_after c.args.text.now ≡ Some second =
    sym c.first_piece.ensures.following ∙ ap texts c.in_ok-rest.was in
    let more : pieces_after second ≡ Some third =
    sym c.first_piece-2.ensures.following ∙ ap texts c.in_ok-rest-2.was in
    let none : pieces_after third ≡ None = sym c.first_piece-3.ensures.following ∙ ap texts c.in-None.is in
    are_three c.args.text.now second third some more none ∙
    (λ i. sym c.first_piece.ensures.piece i ∷ sym c.first_piece-2.ensures.piece i ∷
    sym c.first_piece-3.ensures.piece i ∷ [])

pub returns-in-Some-clause-none : goal.returns-in-Some-clause-none
returns-in-Some-clause-none c =
    let second = c.in_ok-rest.field-0.now in
    let third = c.in_ok-rest-2.field-0.now in
    let some : pieces_after c.args.text.now ≡ Some second =
    sym c.first_piece.ensures.following ∙ ap texts c.in_ok-rest.was in
    let more : pieces_after second ≡ Some third =
    sym c.first_piece-2.ensures.following ∙ ap texts c.in_ok-rest-2.was in
    let most : pieces_after third ≡ Some c.in-Some.field-0.now =
    sym c.first_piece-3.ensures.following ∙ ap texts c.in-Some.is in
    λ _. of_more c.args.text.now second third some more c.in-Some.field-0.now most
