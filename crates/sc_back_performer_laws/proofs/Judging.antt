-- How the expressions of a performing section are judged.
use Rattle.sc_back_performer_laws.proofs.Common.{AllByRecursion, Bool, Int, IsWord, List, Scalar, Scope, Ty, TypedExpr}
use Rattle.sc_back_performer_laws.proofs.Common.{Unsigned, [], all_go_into, and_from, ap, ap₂, arith, assign_fits}
use Rattle.sc_back_performer_laws.proofs.Common.{counter, counter_is, eqb-false, false, goes_into, if◌then◌else◌}
use Rattle.sc_back_performer_laws.proofs.Common.{is_scalar, judged, le-leb, least_int, leb-false, length, lt-ltb, map}
use Rattle.sc_back_performer_laws.proofs.Common.{minus, nat_le, nat_lt, place_judged, refl, rules, scalar_ty, true}
use Rattle.sc_back_performer_laws.proofs.Common.{value_judged, word_expr, word_exprs, ℕ, ◌-◌, ◌<◌, ◌==◌, ◌^◌, ◌∙◌, ◌∷◌}
use Rattle.sc_back_performer_laws.proofs.Common.{◌≡◌}
use Rattle.sc_core.specs.declared.expr.TypedExpr as typed_exprs
use Rattle.sc_core.specs.declared.expr.TypedKind as typed_kinds
use Rattle.sc_core.specs.declared.ty.Ty.TheVariants as ty
use Rattle.sc_back_replay_laws.specs.Texts.{literal}

module _ (params : List Ty) where
  -- the counter, and parameters
  abbrev pub scope : Scope
  scope = record { structs = []; globals = ty.Unsigned ∷ []; params = params; locals = [] }

  judged_counter : judged scope counter ≡ place_judged ty.Unsigned true
  judged_counter = search (rules, typed_exprs.the_lemmas, typed_kinds.the_lemmas)

  judged_unsigned : (word : ℕ) → judged scope (literal ty.Unsigned word) ≡
      value_judged ty.Unsigned (nat_lt word (2 ^ 32))
  judged_unsigned word = search (rules, typed_exprs.the_lemmas, typed_kinds.the_lemmas)

  judged_int : (word : ℕ) → judged scope (literal ty.Int word) ≡ value_judged ty.Int (nat_le word 2147483647)
  judged_int word = search (rules, typed_exprs.the_lemmas, typed_kinds.the_lemmas)

  judged_minus : (word : ℕ) → nat_le word 2147483647 ≡ true →
      judged scope (minus (literal ty.Int word)) ≡ value_judged ty.Int true
  judged_minus word small = search (rules, typed_exprs.the_lemmas, typed_kinds.the_lemmas, small)

  judged_least : judged scope least_int ≡ value_judged ty.Int true
  judged_least = search (rules, typed_exprs.the_lemmas, typed_kinds.the_lemmas)

  judged_test : (number : ℕ) → nat_lt number (2 ^ 32) ≡ true →
      judged scope (counter_is number) ≡ value_judged ty.Int true
  judged_test number small = search (rules, typed_exprs.the_lemmas, typed_kinds.the_lemmas, small)

  -- a word fits its type

  judged_signed : (word : ℕ) (small least : Bool) → nat_le word 2147483647 ≡ small → (word == 2147483648) ≡ least →
      IsWord word → judged scope (if small then literal ty.Int word else
      (if least then least_int else minus (literal ty.Int (2 ^ 32 - word)))) ≡ value_judged ty.Int true
  judged_signed word true least h k w = judged_int word ∙ ap (value_judged ty.Int) h
  judged_signed word false true h k w = judged_least
  judged_signed word false false h k w = judged_minus (2 ^ 32 - word) (below word h k w) where
    below : (word : ℕ) → nat_le word 2147483647 ≡ false → (word == 2147483648) ≡ false → word < 2 ^ 32 →
        nat_le (2 ^ 32 - word) 2147483647 ≡ true
    below word h k w =
        let a = leb-false word 2147483647 h in
        let b = eqb-false word 2147483648 k in
        le-leb (2 ^ 32 - word) 2147483647 (omega (arith, a, b, w))

  judged_word : (type : Scalar) (word : ℕ) → IsWord word →
      judged scope (word_expr type word) ≡ value_judged (scalar_ty type) true
  judged_word Int word w = judged_signed word (nat_le word 2147483647) (word == 2147483648) refl refl w
  judged_word Unsigned word w = judged_unsigned word ∙ ap (value_judged ty.Unsigned) (lt-ltb word (2 ^ 32) w)

  value_goes : (place type : Scalar) → goes_into (scalar_ty place) (value_judged (scalar_ty type) true) ≡ true
  value_goes Int Int = refl
  value_goes Int Unsigned = refl
  value_goes Unsigned Int = refl
  value_goes Unsigned Unsigned = refl

  -- so it goes into a place of either type
  pub word_goes : (place type : Scalar) (word : ℕ) → IsWord word →
      goes_into (scalar_ty place) (judged scope (word_expr type word)) ≡ true
  word_goes place type word w = ap (goes_into (scalar_ty place)) (judged_word type word w) ∙ value_goes place type

  pub words_go : (types : List Scalar) (words : List ℕ) → length types ≡ length words →
      AllByRecursion IsWord words →
      all_go_into (map scalar_ty types) (map (judged scope) (word_exprs types words)) ≡ true
  words_go [] [] h w = refl
  words_go [] (word ∷ words) h w = absurd (omega (arith, h))
  words_go (type ∷ types) [] h w = absurd (omega (arith, h))
  words_go (type ∷ types) (word ∷ words) h w =
      and_from (goes_into (scalar_ty type) (judged scope (word_expr type word))) _ (word_goes type type word w.0)
      (words_go types words (omega (arith, h)) w.1)

  pub test_holds : (number : ℕ) → number < 2 ^ 32 → is_scalar (judged scope (counter_is number)) ≡ true
  test_holds number w = ap is_scalar (judged_test number (lt-ltb number (2 ^ 32) w))

  pub set_holds : (number : ℕ) → number < 2 ^ 32 →
      assign_fits (judged scope counter) (judged scope (literal ty.Unsigned number)) ≡ true
  set_holds number w =
      ap₂ assign_fits judged_counter (judged_unsigned number ∙
      ap (value_judged ty.Unsigned) (lt-ltb number (2 ^ 32) w))

  pub wait_holds : is_scalar (judged scope (literal ty.Int 1)) ≡ true
  wait_holds = ap is_scalar (judged_int 1)
