-- How a word is written as an expression, and that this gives the word.
use Rattle.sc_back_replay_laws.proofs.Common.{Blocks, Bool, Err, Here, IsWord, List, Lit, Ok, One, Scalar, Shape, Two}
use Rattle.sc_back_replay_laws.proofs.Common.{TypedStruct, Word, [], ap, ap₂, arith, as_word, c_arith, eq-eqb, eqb-true}
use Rattle.sc_back_replay_laws.proofs.Common.{expr, false, if◌then◌else◌, int_expr, least_int, leb-false, literal, map}
use Rattle.sc_back_replay_laws.proofs.Common.{minus, nat_le, neg_ℤ, negsuc, or_cause, pos, refl, rolls-Binary}
use Rattle.sc_back_replay_laws.proofs.Common.{rolls-Literal, rolls-Unary, suc, sym, true, way, word_expr, word_exprs}
use Rattle.sc_back_replay_laws.proofs.Common.{zero, ℕ, ◌-◌, ◌<◌, ◌==◌, ◌^◌, ◌∙◌, ◌∷◌, ◌≡◌}
use Rattle.sc_word.specs.Prelude.{fits_signed, neg_signed, signed_of, word_of}
use Rattle.sc_base.specs.declared.op.BinaryOp.TheVariants as op
use Rattle.sc_base.specs.declared.op.UnaryOp.TheVariants as unary
use Rattle.sc_event.specs.declared.interface.Scalar.TheVariants as scalar
use Rattle.sc_word.specs.declared.fault.WordFault.TheVariants.{Overflow}
use Rattle.sc_core.specs.declared.expr.TypedKind
use Rattle.sc_core.specs.declared.ty.Ty.{Ty}
use Rattle.sc_core.specs.declared.ty.Ty.TheVariants as ty
use Rattle.sc_core.specs.declared.value.Want.TheVariants as want

-- SHAPES
abbrev pub least_shape : Shape
least_shape = Two ty.Int op.Sub (One ty.Int unary.Minus (Lit ty.Int 2147483647)) (Lit ty.Int 1)

abbrev pub int_shape : ℕ → Shape
int_shape word =
    if nat_le word 2147483647 then Lit ty.Int word else
    (if word == 2147483648 then least_shape else One ty.Int unary.Minus (Lit ty.Int (2 ^ 32 - word)))

abbrev pub word_shape : Scalar → ℕ → Shape
word_shape scalar.Int word = int_shape word
word_shape scalar.Unsigned word = Lit ty.Unsigned word

abbrev pub word_shapes : List Scalar → List ℕ → List Shape
word_shapes [] words = []
word_shapes (param ∷ params) [] = []
word_shapes (param ∷ params) (word ∷ words) = word_shape param word ∷ word_shapes params words

pub literal_is : (type : Ty) (word : ℕ) → expr (Lit type word) ≡ literal type word
literal_is type word = ap (λ k. record { ty = type; kind = k }) (rolls-Literal word)

minus_is : (word : ℕ) → expr (One ty.Int unary.Minus (Lit ty.Int word)) ≡ minus (literal ty.Int word)
minus_is word =
    ap (λ k. record { ty = ty.Int; kind = k }) (rolls-Unary unary.Minus (expr (Lit ty.Int word))) ∙
    ap minus (literal_is ty.Int word)

least_is : expr least_shape ≡ least_int
least_is =
    ap (λ k. record { ty = ty.Int; kind = k })
    (rolls-Binary op.Sub (expr (One ty.Int unary.Minus (Lit ty.Int 2147483647))) (expr (Lit ty.Int 1))) ∙
    ap₂ (λ a b. record { ty = ty.Int; kind = TypedKind.Binary op.Sub a b }) (minus_is 2147483647) (literal_is ty.Int 1)

pub int_is : (word : ℕ) → expr (int_shape word) ≡ int_expr word
int_is word = by (nat_le word 2147483647) (word == 2147483648) where
  by : (small least : Bool) →
      expr (if small then Lit ty.Int word else (if least then least_shape else One ty.Int unary.Minus
      (Lit ty.Int (2 ^ 32 - word)))) ≡
      (if small then literal ty.Int word else (if least then least_int else minus (literal ty.Int (2 ^ 32 - word))))
  by true least = literal_is ty.Int word
  by false true = least_is
  by false false = minus_is (2 ^ 32 - word)

pub word_is : (type : Scalar) (word : ℕ) → expr (word_shape type word) ≡ word_expr type word
word_is scalar.Int word = int_is word
word_is scalar.Unsigned word = literal_is ty.Unsigned word

pub words_are : (params : List Scalar) (words : List ℕ) → map expr (word_shapes params words) ≡ word_exprs params words
words_are [] words = refl
words_are (param ∷ params) [] = refl
words_are (param ∷ params) (word ∷ words) = λ i. word_is param word i ∷ words_are params words i

-- VALUES
-- minus a number below 2 ^ 31, as the word that it is
negated : (word : ℕ) → 2147483648 < word → word < 2 ^ 32 → neg_signed (2 ^ 32 - word) ≡ Ok word
negated word large small = by (2 ^ 32 - word) refl where
  by : (n : ℕ) → 2 ^ 32 - word ≡ n → neg_signed n ≡ Ok word
  by zero is = absurd (omega (arith, is, large, small))
  by (suc n) is =
      let number : signed_of (suc n) ≡ pos (suc n) = grind (arith, is, large, small) in
      let fits : fits_signed (negsuc n) ≡ true = grind (arith, is, large, small) in
      let word_is : word_of (negsuc n) ≡ word = omega (arith, is, large, small) in
      ap (λ z. if fits_signed (neg_ℤ z) then Ok (word_of (neg_ℤ z)) else Err Overflow) number ∙
      ap (λ b. if b then Ok (word_of (negsuc n)) else Err Overflow) fits ∙ ap Ok word_is

module _ (structs : List TypedStruct) (here : Here) (params : ℕ) where
  -- an expression that gives this word wherever it stands
  abbrev pub Gives : Shape → ℕ → Type 0
  Gives e word = (blocks : Blocks) → way c_arith structs here params e want.Value blocks ≡ Ok (Word word)

  pub int_gives : (word : ℕ) → IsWord word → Gives (int_shape word) word
  int_gives word small = by (nat_le word 2147483647) refl (word == 2147483648) refl where
    by : (low : Bool) → nat_le word 2147483647 ≡ low → (least : Bool) → (word == 2147483648) ≡ least →
        Gives (if low then Lit ty.Int word else (if least then least_shape else One ty.Int unary.Minus
        (Lit ty.Int (2 ^ 32 - word)))) word
    by true low_is least least_is blocks = refl
    by false low_is true least_is blocks = ap (λ w. Ok (Word w)) (sym (eqb-true word 2147483648 least_is))
    by false low_is false least_is blocks =
        let high : 2147483647 < word = leb-false word 2147483647 low_is in
        let other : word ≡ 2147483648 → ⊥ = λ e. absurd (cc (eq-eqb word 2147483648 e, least_is)) in
        ap (λ r. as_word (or_cause r)) (negated word (omega (arith, high, other)) small)

  pub word_gives : (type : Scalar) (word : ℕ) → IsWord word → Gives (word_shape type word) word
  word_gives scalar.Int word small = int_gives word small
  word_gives scalar.Unsigned word small = λ blocks. refl
