-- The literals of a made text: how they are typed and judged, and that those that are drawn fit.
use Rattle.sc_report_made.proofs.Common.{Scope, TypedExpr, Visible, addend, ap, argument, arith, drawn, goes_into}
use Rattle.sc_report_made.proofs.Common.{judged, le-leb, literal, nat_le, rules, state_after, suc, true, typed}
use Rattle.sc_report_made.proofs.Common.{value_judged, ℕ, ◌%◌, ◌*◌, ◌+◌, ◌/◌, ◌^◌, ◌∙◌, ◌≡◌, ◌≤◌}
use Rattle.sc_ast.specs.declared.expr.ExprTree as exprs
use Rattle.sc_core.specs.declared.expr.TypedExpr as typed_exprs
use Rattle.sc_core.specs.declared.expr.TypedKind as typed_kinds
use Rattle.sc_core.specs.declared.ty.Ty.TheVariants as ty

abbrev pub typed_int : ℕ → TypedExpr
typed_int word = record { ty = ty.Int; kind = typed_kinds.Literal word }

pub literal_typed : (visible : Visible) (word : ℕ) → typed visible (literal word) ≡ typed_int word
literal_typed visible word = search (rules, exprs.the_lemmas)

pub literal_judged : (scope : Scope) (word : ℕ) →
    judged scope (typed_int word) ≡ value_judged ty.Int (nat_le word 2147483647)
literal_judged scope word = search (rules, typed_exprs.the_lemmas, typed_kinds.the_lemmas)

-- a word below 2^31 goes where an `int` goes
pub literal_goes : (visible : Visible) (scope : Scope) (word : ℕ) → nat_le word 2147483647 ≡ true →
    goes_into ty.Int (judged scope (typed visible (literal word))) ≡ true
literal_goes visible scope word small =
    ap (λ e. goes_into ty.Int (judged scope e)) (literal_typed visible word) ∙
    ap (goes_into ty.Int) (literal_judged scope word) ∙ ap (λ b. goes_into ty.Int (value_judged ty.Int b)) small

-- What is drawn has 16 bits.

upper_bits : (n : ℕ) → n % 2 ^ 32 / 65536 ≤ 2147483647
upper_bits n = omega arith

drawn_small : (seed number : ℕ) → nat_le (drawn seed number) 2147483647 ≡ true
drawn_small seed number =
    le-leb (drawn seed number) 2147483647 (upper_bits (state_after seed number * 1664525 + 1013904223))

pub argument_small : (seed j : ℕ) → nat_le (argument seed j) 2147483647 ≡ true
argument_small seed j = drawn_small seed (2 * j)

pub addend_small : (seed j : ℕ) → nat_le (addend seed j) 2147483647 ≡ true
addend_small seed j = drawn_small seed (suc (2 * j))
