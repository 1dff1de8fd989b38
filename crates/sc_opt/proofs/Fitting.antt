-- Both arithmetics fit: where C computes something of constants, so does the one that wraps.
use Rattle.std.proofs.Common.{Err, Ok, Option, Result, Some, [], ap, false, if◌then◌else◌, refl, sym, true}
use Rattle.std.proofs.Common.{ℕ, ◌&&◌, ◌∙◌, ◌≡◌, Bool}
use Rattle.sc_base.specs.declared.op.BinaryOp.{BinaryOp}
use Rattle.sc_base.specs.declared.op.BinaryOp.TheVariants as op
use Rattle.sc_core.specs.Prelude.{Arith, Blocks, between, c_arith, wrapping}
use Rattle.sc_core.specs.declared.cause.Cause.{Cause}
use Rattle.sc_core.specs.declared.cause.Cause.TheVariants.{BadType}
use Rattle.sc_core.specs.declared.value.Value.{Value}
use Rattle.sc_core.specs.declared.value.Value.TheVariants.{Word, Null, Ptr}
use Rattle.sc_core_laws.specs.Prelude.{IsArithmetic}
use Rattle.sc_core_laws.proofs.Expressions.{ArithKeeps, Keeps, alike, blamed, on_words_keep, one_keeps}
use Rattle.sc_core_laws.proofs.Wrapping.{binary_fits, negated_fits}
use Rattle.sc_tac.specs.Prelude.{constant_value, is_comparison, is_pointer, is_unsigned, operated}
use Rattle.sc_tac.specs.declared.stmt.Constant.{Constant}
use Rattle.sc_tac.specs.declared.stmt.Constant.TheVariants as constant
use Rattle.sc_tac.specs.declared.stmt.TacOp.{TacOp}
use Rattle.sc_tac.specs.declared.stmt.TacOp.TheVariants as tacop
use Rattle.sc_opt.specs.Pass.{constant_from, is_total_signed, is_total_unsigned}
use Rattle.sc_opt.proofs.Values.{Fits}

-- what an operator gives of constants doesn't depend on blocks
between_steady : (blocks : Blocks) (o : BinaryOp) (cells : ℕ) (c d : Constant) →
    between blocks o cells (constant_value c) (constant_value d) ≡ between [] o cells (constant_value c)
    (constant_value d)
between_steady blocks op.Equal cells (constant.Word a) d = refl
between_steady blocks op.Equal cells constant.Null (constant.Word b) = refl
between_steady blocks op.Equal cells constant.Null constant.Null = refl
between_steady blocks op.NotEqual cells (constant.Word a) d = refl
between_steady blocks op.NotEqual cells constant.Null (constant.Word b) = refl
between_steady blocks op.NotEqual cells constant.Null constant.Null = refl
between_steady blocks o cells c d = refl

steady : (arith : Arith) (blocks : Blocks) (o : TacOp) (c d : Constant) →
    operated arith blocks o (constant_value c) (constant_value d)
    ≡ operated arith [] o (constant_value c) (constant_value d)
steady arith blocks (tacop.Unary o scalar) c d = refl
steady arith blocks (tacop.Binary o scalar) c d = refl
steady arith blocks tacop.PointerNot c d = refl
steady arith blocks (tacop.PointerMove true cells index) (constant.Word a) (constant.Word b) = refl
steady arith blocks (tacop.PointerMove true cells index) constant.Null (constant.Word b) = refl
steady arith blocks (tacop.PointerMove true cells index) c constant.Null = refl
steady arith blocks (tacop.PointerMove false cells index) (constant.Word a) (constant.Word b) = refl
steady arith blocks (tacop.PointerMove false cells index) constant.Null (constant.Word b) = refl
steady arith blocks (tacop.PointerMove false cells index) c constant.Null = refl
steady arith blocks (tacop.PointerMember offset) (constant.Word a) d = refl
steady arith blocks (tacop.PointerMember offset) constant.Null d = refl
steady arith blocks (tacop.PointerDifference cells) c d = refl
steady arith blocks (tacop.PointerCompare o) c d =
    ap (λ r. if is_comparison o && (is_pointer (constant_value c) && is_pointer (constant_value d)) then r else
    Err BadType) (between_steady blocks o 1 c d)

pub from_constant : (r : Result Value Cause) (k : Constant) → constant_from r ≡ Some k → r ≡ Ok (constant_value k)
from_constant (Ok (Word w)) k e =
    let same : ◌≡◌ {A = Option Constant} (Some (constant.Word w)) (Some k) = e in
    let one : constant.Word w ≡ k = cc same in ap (λ c. Ok (constant_value c)) one
from_constant (Ok Null) k e =
    let same : ◌≡◌ {A = Option Constant} (Some constant.Null) (Some k) = e in
    let one : constant.Null ≡ k = cc same in ap (λ c. Ok (constant_value c)) one
from_constant (Ok (Ptr p)) k e = absurd (cc e)
from_constant (Err cause) k e = absurd (cc e)

kept : (r r' : Result Value Cause) (v : Value) → Keeps IsArithmetic Value r r' → r ≡ Ok v → r' ≡ Ok v
kept r r' v (alike is) e = is ∙ e
kept r r' v (blamed cause soft is) e = let no : ◌≡◌ {A = Result Value Cause} (Err cause) (Ok v) = sym is ∙ e in
    absurd (cc no)

both_keep : ArithKeeps IsArithmetic c_arith wrapping
both_keep = record { binary = binary_fits; negated = negated_fits }

pub wrapped : (o : TacOp) (v w z : Value) → operated c_arith [] o v w ≡ Ok z → operated wrapping [] o v w ≡ Ok z
wrapped (tacop.Unary o scalar) v w z e =
    kept _ _ z (one_keeps IsArithmetic c_arith wrapping both_keep (is_unsigned scalar) o v) e
wrapped (tacop.Binary o scalar) v w z e =
    kept _ _ z (on_words_keep IsArithmetic c_arith wrapping both_keep (is_unsigned scalar) o v w) e
wrapped tacop.PointerNot v w z e = e
wrapped (tacop.PointerMove true cells index) v w z e = e
wrapped (tacop.PointerMove false cells index) v w z e = e
wrapped (tacop.PointerMember offset) v w z e = e
wrapped (tacop.PointerDifference cells) v w z e = e
wrapped (tacop.PointerCompare o) v w z e = e

c_wraps : (o : BinaryOp) → is_total_unsigned o ≡ true → (a b : ℕ) → (w : ℕ) × (c_arith.binary true o a b ≡ Ok w)
c_wraps op.Add h a b = (_, refl)
c_wraps op.Sub h a b = (_, refl)
c_wraps op.Mul h a b = (_, refl)
c_wraps op.BitAnd h a b = (_, refl)
c_wraps op.BitOr h a b = (_, refl)
c_wraps op.BitXor h a b = (_, refl)
c_wraps op.Equal h a b = (_, refl)
c_wraps op.NotEqual h a b = (_, refl)
c_wraps op.Less h a b = (_, refl)
c_wraps op.Greater h a b = (_, refl)
c_wraps op.LessEqual h a b = (_, refl)
c_wraps op.GreaterEqual h a b = (_, refl)
c_wraps o h a b = absurd (cc h)

c_compares : (unsigned : Bool) (o : BinaryOp) → is_total_signed o ≡ true → (a b : ℕ) →
    (w : ℕ) × (c_arith.binary unsigned o a b ≡ Ok w)
c_compares true op.BitAnd h a b = (_, refl)
c_compares true op.BitOr h a b = (_, refl)
c_compares true op.BitXor h a b = (_, refl)
c_compares true op.Equal h a b = (_, refl)
c_compares true op.NotEqual h a b = (_, refl)
c_compares true op.Less h a b = (_, refl)
c_compares true op.Greater h a b = (_, refl)
c_compares true op.LessEqual h a b = (_, refl)
c_compares true op.GreaterEqual h a b = (_, refl)
c_compares false op.BitAnd h a b = (_, refl)
c_compares false op.BitOr h a b = (_, refl)
c_compares false op.BitXor h a b = (_, refl)
c_compares false op.Equal h a b = (_, refl)
c_compares false op.NotEqual h a b = (_, refl)
c_compares false op.Less h a b = (_, refl)
c_compares false op.Greater h a b = (_, refl)
c_compares false op.LessEqual h a b = (_, refl)
c_compares false op.GreaterEqual h a b = (_, refl)
c_compares unsigned o h a b = absurd (cc h)

pub c_fits : Fits c_arith
c_fits = record {
  folds = λ o c d blocks k e. steady c_arith blocks o c d ∙ from_constant _ k e;
  wraps = c_wraps;
  compares = c_compares;
}

pub wrapping_fits : Fits wrapping
wrapping_fits = record {
  folds = λ o c d blocks k e. steady wrapping blocks o c d ∙ wrapped o _ _ _ (from_constant _ k e);
  wraps = λ o h a b. (_, refl);
  compares = λ unsigned o h a b. (_, refl);
}
