use Rattle.sc_top_words.proofs.Common.{FitsSigned, List, None, Some, [], ap, first_piece, integer, option_map}
use Rattle.sc_top_words.proofs.Common.{pieces_after, rules, subst, sym, w32, ℕ, ℤ, ◌++◌, ◌+◌, ◌∙◌, ◌∷◌, ◌≡◌}
use Rattle.std.proofs.lemmas.Int.{to_z-of_z}
use Rattle.std.specs.Borrow.{Bor}
use Rattle.sc_top_words.proofs.Digits.{IsReadUpTo, ends, goes_on, refused, too_long}
use Rattle.sc_top_words.proofs.numbers.read_list.Goals as goal

pub returns-in_default-clause-usage : goal.returns-in_default-clause-usage
returns-in_default-clause-usage c =
    let bad : integer (first_piece c.loop.left.now) ≡ None =
    sym (c.read_integer.ensures ∙ ap integer c.first_piece.ensures.piece) ∙ c.in_default.is in
    λ usage. refused c.args.text.now c.loop.counter c.loop.list c.loop.left.now c.loop.invariant.1 bad

pub returns-in-None-clause-ok : goal.returns-in-None-clause-ok
returns-in-None-clause-ok c =
    let good : integer (first_piece c.loop.left.now) ≡ Some c.in-Some.integer
    = sym (c.read_integer.ensures ∙ ap integer c.first_piece.ensures.piece) ∙ c.in-Some.is in
    let none : pieces_after c.loop.left.now ≡ None
    = sym c.first_piece.ensures.following ∙ ap (option_map (λ (rest : Bor (List ℕ)). rest.now)) c.in-None.is in
    let fits : FitsSigned w32 c.in-Some.integer = search rules in
    let pushed : c.push.new.self ≡ c.loop.list ++ c.in-Some.integer ∷ []
    = c.in_ok-push.ensures.ok ∙ ap (λ (x : ℤ). c.loop.list ++ x ∷ []) (to_z-of_z w32 c.in-Some.integer fits) in
    ends c.args.text.now c.loop.counter c.loop.list c.loop.left.now c.in-Some.integer c.loop.invariant.1
    c.loop-test.true good none
    ∙ ap Some (sym pushed)

pub loop-preserved : goal.loop-preserved
loop-preserved c =
    let good : integer (first_piece c.loop.left.now) ≡ Some c.in-Some.integer
    = sym (c.read_integer.ensures ∙ ap integer c.first_piece.ensures.piece) ∙ c.in-Some.is in
    let some : pieces_after c.loop.left.now ≡ Some c.in-Some-rest.following.now
    = sym c.first_piece.ensures.following ∙ ap (option_map (λ (rest : Bor (List ℕ)). rest.now)) c.in-Some-rest.is in
    let fits : FitsSigned w32 c.in-Some.integer = search rules in
    let pushed : c.push.new.self ≡ c.loop.list ++ c.in-Some.integer ∷ []
    = c.in_ok-push.ensures.ok ∙ ap (λ (x : ℤ). c.loop.list ++ x ∷ []) (to_z-of_z w32 c.in-Some.integer fits) in (
      search rules,
      subst (λ list. IsReadUpTo c.args.text.now (c.loop.counter + 1) list c.in-Some-rest.following.now) (sym pushed)
          (goes_on c.args.text.now c.loop.counter c.loop.list c.loop.left.now c.in-Some.integer
          c.in-Some-rest.following.now c.loop.invariant.1 good some),
    )

pub returns-clause-usage : goal.returns-clause-usage
returns-clause-usage c = λ usage. too_long c.args.text.now c.loop.counter c.loop.list c.loop.left.now c.loop.invariant.1
    c.loop-test.false
