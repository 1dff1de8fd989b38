-- Values of a type as expressions: their words, and what these come to.
use Rattle.sc_back_reread_laws.proofs.Common.{Bool, ExprTree, IsWord, List, Number, Scalar, [], and_from, ap}
use Rattle.sc_back_reread_laws.proofs.Common.{append-nil, arith, blank, codes, decimal, digits, eq-eqb, expr_height}
use Rattle.sc_back_reread_laws.proofs.Common.{expr_words, false, false≢true, fits, if◌then◌else◌, is_kept, le-leb}
use Rattle.sc_back_reread_laws.proofs.Common.{leb-false, leb-true, literal, literal_text, nat_le, open_after, refl}
use Rattle.sc_back_reread_laws.proofs.Common.{rules, signed_decimal, signed_text, subst, suc, sym, text_of, true}
use Rattle.sc_back_reread_laws.proofs.Common.{value_text, value_tree, word, word_symbol, ℕ, ◌-◌, ◌<◌, ◌==◌, ◌^◌, ◌∙◌}
use Rattle.sc_back_reread_laws.proofs.Common.{◌∷◌, ◌≡◌, ◌≤◌}
use Rattle.std.specs.Int.{w32, cast_signed}
use mir.ValLaws.{to_z_pos, to_z-neg}
use Rattle.sc_base.specs.declared.op.BinaryOp.TheVariants as binary
use Rattle.sc_base.specs.declared.op.UnaryOp.TheVariants as unary
use Rattle.sc_event.specs.declared.interface.Scalar.TheVariants as scalar
use Rattle.sc_ast.specs.declared.expr.ExprTree as exprs
use Rattle.sc_ast.specs.declared.expr.ExprTree.TheVariants as expr
use Rattle.sc_parse_print_laws.proofs.Tables as tables
use Rattle.sc_back_reread_laws.proofs.Nesting.{Nested, nested_none, nested_even, nested_blank, even_literal, Even}
use Rattle.sc_parse_expr.proofs.Heights.{literal_height}

-- an expression that is printed as this text, with few brackets
pub record IsExpr (e : ExprTree) (text : List ℕ) : Type 0 where
  pub kept : is_kept e ≡ true
  pub spelled : text_of (expr_words e) ≡ text
  pub nested : Nested 0 (expr_words e)
  pub low : expr_height e ≤ 3

even_minus : Even (word_symbol (codes "-"))
even_minus count = ap (λ s. open_after s count) (tables.unary_says unary.Minus)

-- a literal
literal_words : (n : Number) → expr_words (expr.Literal n) ≡ word (literal_text n) ∷ []
literal_words n = search (rules, exprs.the_lemmas)

literal_kept : (n : Number) → fits n ≡ true → is_kept (expr.Literal n) ≡ true
literal_kept n k = search (rules, exprs.the_lemmas, k)

pub literal_is : (n : Number) → fits n ≡ true → IsExpr (expr.Literal n) (literal_text n)
literal_is n k = record {
  kept = literal_kept n k;
  spelled = ap text_of (literal_words n) ∙ append-nil (literal_text n);
  nested = subst (λ ps. Nested 0 ps) (sym (literal_words n)) (nested_even (even_literal n k) nested_none);
  low = omega (arith, literal_height n);
}

-- a literal with a sign
negative_words : (n : Number) → expr_words (expr.Unary unary.Minus (expr.Literal n)) ≡
    word (codes "-") ∷ word (literal_text n) ∷ []
negative_words n = search (rules, exprs.the_lemmas)

negative_kept : (n : Number) → fits n ≡ true → is_kept (expr.Unary unary.Minus (expr.Literal n)) ≡ true
negative_kept n k = search (rules, exprs.the_lemmas, k)

negative_low : (n : Number) → expr_height (expr.Unary unary.Minus (expr.Literal n)) ≡ 2
negative_low n = search (arith, rules, exprs.the_lemmas)

negative_is : (n : Number) → fits n ≡ true → IsExpr (expr.Unary unary.Minus (expr.Literal n)) (45 ∷ literal_text n)
negative_is n k = record {
  kept = negative_kept n k;
  spelled = ap text_of (negative_words n) ∙ ap (λ d. 45 ∷ d) (append-nil (literal_text n));
  nested = subst (λ ps. Nested 0 ps) (sym (negative_words n))
      (nested_even even_minus (nested_even (even_literal n k) nested_none));
  low = omega (arith, negative_low n);
}

-- the least `int`
abbrev least : ExprTree
least = expr.Binary binary.Sub (expr.Unary unary.Minus (literal 2147483647)) (literal 1)

abbrev pub literal_number : ℕ → Number
literal_number value = record { value = value; unsigned = false }

least_words : expr_words least ≡ word (codes "-") ∷ word (literal_text (literal_number 2147483647)) ∷ blank ∷
    word (codes "-") ∷ blank ∷ word (literal_text (literal_number 1)) ∷ []
least_words = search (rules, exprs.the_lemmas)

least_kept : is_kept least ≡ true
least_kept = search (rules, exprs.the_lemmas)

least_low : expr_height least ≡ 3
least_low = search (arith, rules, exprs.the_lemmas)

least_text : text_of (word (codes "-") ∷ word (literal_text (literal_number 2147483647)) ∷ blank ∷
    word (codes "-") ∷ blank ∷ word (literal_text (literal_number 1)) ∷ []) ≡ codes "-2147483647 - 1"
unfolding digits
least_text = refl

least_is : IsExpr least (codes "-2147483647 - 1")
least_is = record {
  kept = least_kept;
  spelled = ap text_of least_words ∙ least_text;
  nested = subst (λ ps. Nested 0 ps) (sym least_words) (nested_even even_minus
      (nested_even (even_literal (literal_number 2147483647) refl) (nested_blank (nested_even even_minus
      (nested_blank (nested_even (even_literal (literal_number 1) refl) nested_none))))));
  low = omega (arith, least_low);
}

-- values
small_text : (value : ℕ) → value ≤ 2147483647 → signed_text value ≡ decimal value
small_text value low = ap signed_decimal (to_z_pos w32 value (omega arith))

great_text : (value : ℕ) → 2147483648 ≤ value → value < 2 ^ 32 → signed_text value ≡ 45 ∷ decimal (2 ^ 32 - value)
great_text value low high =
    let k : ℕ = 2 ^ 32 - suc value in
    let back : value ≡ 2 ^ 32 - suc k = omega arith in
    let one : suc k ≡ 2 ^ 32 - value = omega arith in
    ap signed_decimal (ap (λ v. cast_signed w32 v) back ∙ to_z-neg w32 k (omega arith)) ∙
    ap (λ n. 45 ∷ decimal n) one

int_is : (value : ℕ) → IsWord value → (is_least is_small : Bool) → (value == 2147483648) ≡ is_least →
    nat_le value 2147483647 ≡ is_small →
    IsExpr (if is_least then least else if is_small then literal value
    else expr.Unary unary.Minus (literal (2 ^ 32 - value)))
    (if is_least then codes "-2147483647 - 1" else signed_text value)
int_is value h true small e f = least_is
int_is value h false true e f =
    let low = leb-true value 2147483647 f in
    subst (IsExpr (literal value)) (append-nil (decimal value) ∙ sym (small_text value low))
    (literal_is (literal_number value) (and_from (nat_le value 2147483647) (nat_le value 4294967295) f
    (le-leb value 4294967295 (omega arith))))
int_is value h false false e f =
    let high : 2147483647 < value = leb-false value 2147483647 f in
    let other : value ≡ 2147483648 → ⊥ = λ same. false≢true (sym e ∙ eq-eqb value 2147483648 same) in
    let low : 2 ^ 32 - value ≤ 2147483647 = omega arith in
    subst (IsExpr (expr.Unary unary.Minus (literal (2 ^ 32 - value))))
    (ap (λ d. 45 ∷ d) (append-nil (decimal (2 ^ 32 - value))) ∙ sym (great_text value (omega arith) h))
    (negative_is (literal_number (2 ^ 32 - value)) (and_from (nat_le (2 ^ 32 - value) 2147483647)
    (nat_le (2 ^ 32 - value) 4294967295) (le-leb (2 ^ 32 - value) 2147483647 low)
    (le-leb (2 ^ 32 - value) 4294967295 (omega arith))))

pub unsigned_fits : (value : ℕ) → IsWord value → fits (record { value = value; unsigned = true }) ≡ true
unsigned_fits value h = le-leb value 4294967295 (omega arith)

pub value_is : (ty : Scalar) (value : ℕ) → IsWord value → IsExpr (value_tree ty value) (value_text ty value)
value_is scalar.Unsigned value h =
    literal_is (record { value = value; unsigned = true }) (unsigned_fits value h)
value_is scalar.Int value h = int_is value h (value == 2147483648) (nat_le value 2147483647) refl refl
