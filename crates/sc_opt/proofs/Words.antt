-- A folded constant is a machine word, where the constants of the code are.
use Rattle.std.proofs.Common.{Bool, Err, None, Ok, Option, Result, Some, [], ap, arith, eq-eqb, false}
use Rattle.std.proofs.Common.{if◌then◌else◌, lt-ltb, ltb-true, nat_lt, refl, subst, suc, sym, true, zero, ℕ, ◌&&◌, ◌-◌}
use Rattle.std.proofs.Common.{◌<◌, ◌^◌, ◌∙◌, ◌≡◌}
use Rattle.sc_base.specs.declared.op.BinaryOp.{BinaryOp}
use Rattle.sc_base.specs.declared.op.BinaryOp.TheVariants as op
use Rattle.sc_base.specs.declared.op.UnaryOp.{UnaryOp}
use Rattle.sc_base.specs.declared.op.UnaryOp.TheVariants as unary
use Rattle.sc_core.specs.Prelude.{between, c_arith, wrapping}
use Rattle.sc_core.specs.Value.{applied_one, of_bool, truth}
use Rattle.sc_core.specs.declared.cause.Cause.{Cause}
use Rattle.sc_core.specs.declared.cause.Cause.TheVariants.{BadType}
use Rattle.sc_core.specs.declared.value.Value.{Value}
use Rattle.sc_core.specs.declared.value.Value.TheVariants.{Word, Null, Ptr}
use Rattle.sc_core_laws.proofs.WordBounds.{binary_below, negated_below, truth_below}
use Rattle.sc_tac.specs.Prelude.{constant_value, is_comparison, is_machine_word, is_pointer, is_unsigned}
use Rattle.sc_tac.specs.Prelude.{operated}
use Rattle.sc_tac.specs.declared.stmt.Constant.{Constant}
use Rattle.sc_tac.specs.declared.stmt.Constant.TheVariants as constant
use Rattle.sc_tac.specs.declared.stmt.TacOp.{TacOp}
use Rattle.sc_tac.specs.declared.stmt.TacOp.TheVariants as tacop
use Rattle.sc_opt.specs.Pass.{constant_by, constants_below, folded, folded_from, known_constant, on_constants}
use Rattle.sc_opt.specs.Pass.{second_constant, with_second}
use Rattle.sc_opt.specs.declared.facts.Assigned.{Assigned}
use Rattle.sc_opt.specs.declared.facts.Assigned.TheVariants.{ByConstant, ByCopy, ByOperator, Nowhere, Otherwise}
use Rattle.sc_opt.specs.declared.facts.Assigned.TheVariants.{Several}
use Rattle.sc_opt.proofs.Fitting.{from_constant, wrapped}
use Rattle.sc_opt.proofs.Joined.{decide}

-- a value that is a word is one of the machine
abbrev is_low : Value → Bool
is_low (Word w) = nat_lt w (2 ^ 32)
is_low Null = true
is_low (Ptr p) = true

abbrev Low : Result Value Cause → Type 0
Low r = (z : Value) → r ≡ Ok z → is_low z ≡ true

that_is_low : (v : Value) → is_low v ≡ true → Low (Ok v)
that_is_low v h z e = let two : ◌≡◌ {A = Result Value Cause} (Ok v) (Ok z) = e in let same : v ≡ z = cc two in
    subst (λ x. is_low x ≡ true) same h

low_word : (n : ℕ) → n < 2 ^ 32 → Low (Ok (Word n))
low_word n h = that_is_low (Word n) (lt-ltb n (2 ^ 32) h)

blamed_is_low : (cause : Cause) → Low (Err cause)
blamed_is_low cause z e = absurd (cc e)

truth_is_low : (b : Bool) → Low (Ok (of_bool b))
truth_is_low b = low_word (truth b) (truth_below b)

opposite : (a : ℕ) → 2 ^ 32 - 1 - a < 2 ^ 32
opposite a = omega arith

below_of : (a : ℕ) → nat_lt a (2 ^ 32) ≡ true → a < 2 ^ 32
below_of a h = ltb-true a (2 ^ 32) h

unary_low : (unsigned : Bool) (o : UnaryOp) (c : Constant) → is_machine_word c ≡ true →
    Low (applied_one wrapping unsigned o (constant_value c))
unary_low unsigned unary.Minus (constant.Word a) h = low_word _ (negated_below unsigned a)
unary_low unsigned unary.Minus constant.Null h = blamed_is_low BadType
unary_low unsigned unary.Plus (constant.Word a) h = that_is_low (Word a) h
unary_low unsigned unary.Plus constant.Null h = that_is_low Null refl
unary_low unsigned unary.Not c h = truth_is_low _
unary_low unsigned unary.BitNot (constant.Word a) h = low_word _ (opposite a)
unary_low unsigned unary.BitNot constant.Null h = blamed_is_low BadType

between_low : (o : BinaryOp) (c d : Constant) → Low (between [] o 1 (constant_value c) (constant_value d))
between_low op.Equal (constant.Word a) d = truth_is_low false
between_low op.Equal constant.Null (constant.Word b) = truth_is_low false
between_low op.Equal constant.Null constant.Null = truth_is_low true
between_low op.NotEqual (constant.Word a) d = truth_is_low true
between_low op.NotEqual constant.Null (constant.Word b) = truth_is_low true
between_low op.NotEqual constant.Null constant.Null = truth_is_low false
between_low o (constant.Word a) d = λ z e. absurd (cc e)
between_low o constant.Null d = λ z e. absurd (cc e)

compared_low : (b : Bool) (r : Result Value Cause) → Low r → Low (if b then r else Err BadType)
compared_low true r h = h
compared_low false r h = blamed_is_low BadType

wrapped_low : (o : TacOp) (c d : Constant) → is_machine_word c ≡ true → is_machine_word d ≡ true →
    Low (operated wrapping [] o (constant_value c) (constant_value d))
wrapped_low (tacop.Unary o scalar) c d h k = unary_low (is_unsigned scalar) o c h
wrapped_low (tacop.Binary o scalar) (constant.Word a) (constant.Word b) h k =
    low_word _ (binary_below (is_unsigned scalar) o a b (below_of a h) (below_of b k))
wrapped_low (tacop.Binary o scalar) (constant.Word a) constant.Null h k = blamed_is_low BadType
wrapped_low (tacop.Binary o scalar) constant.Null d h k = blamed_is_low BadType
wrapped_low tacop.PointerNot c d h k = truth_is_low _
wrapped_low (tacop.PointerMove true cells index) (constant.Word a) (constant.Word b) h k = λ z e. absurd (cc e)
wrapped_low (tacop.PointerMove true cells index) constant.Null (constant.Word b) h k = λ z e. absurd (cc e)
wrapped_low (tacop.PointerMove true cells index) c constant.Null h k = λ z e. absurd (cc e)
wrapped_low (tacop.PointerMove false cells index) (constant.Word a) (constant.Word b) h k = λ z e. absurd (cc e)
wrapped_low (tacop.PointerMove false cells index) constant.Null (constant.Word b) h k = λ z e. absurd (cc e)
wrapped_low (tacop.PointerMove false cells index) c constant.Null h k = λ z e. absurd (cc e)
wrapped_low (tacop.PointerMember offset) (constant.Word a) d h k = λ z e. absurd (cc e)
wrapped_low (tacop.PointerMember offset) constant.Null d h k = λ z e. absurd (cc e)
wrapped_low (tacop.PointerDifference cells) (constant.Word a) d h k = λ z e. absurd (cc e)
wrapped_low (tacop.PointerDifference cells) constant.Null d h k = λ z e. absurd (cc e)
wrapped_low (tacop.PointerCompare o) c d h k =
    compared_low (is_comparison o && (is_pointer (constant_value c) && is_pointer (constant_value d)))
    (between [] o 1 (constant_value c) (constant_value d)) (between_low o c d)

machine_word : (k : Constant) → is_low (constant_value k) ≡ true → is_machine_word k ≡ true
machine_word (constant.Word w) h = h
machine_word constant.Null h = refl

on_machine_words : (o : TacOp) (c d k : Constant) → is_machine_word c ≡ true → is_machine_word d ≡ true →
    on_constants o c d ≡ Some k → is_machine_word k ≡ true
on_machine_words o c d k h l e = machine_word k (wrapped_low o c d h l (constant_value k)
    (wrapped o (constant_value c) (constant_value d) (constant_value k)
    (from_constant (operated c_arith [] o (constant_value c) (constant_value d)) k e)))

-- where the constants that are known are machine words
module _ (constants : ℕ → Option Constant)
    (words : (t : ℕ) (c : Constant) → constants t ≡ Some c → is_machine_word c ≡ true) where
  second_word : (o : TacOp) (c : Constant) → is_machine_word c ≡ true → (right : Option ℕ) (k : Constant) →
      with_second constants o c right ≡ Some k → is_machine_word k ≡ true
  second_word o c low None k e = on_machine_words o c c k low low e
  second_word o c low (Some t) k e = by (constants t) refl e where
    by : (x : Option Constant) → constants t ≡ x → second_constant o c x ≡ Some k → is_machine_word k ≡ true
    by None is e = absurd (cc e)
    by (Some d) is e = on_machine_words o c d k low (words t d is) e

  pub folded_word : (o : TacOp) (left : ℕ) (right : Option ℕ) (k : Constant) →
      folded constants o left right ≡ Some k → is_machine_word k ≡ true
  folded_word o left right k e = by (constants left) refl e where
    by : (x : Option Constant) → constants left ≡ x → folded_from constants o x right ≡ Some k →
        is_machine_word k ≡ true
    by None is e = absurd (cc e)
    by (Some c) is e = second_word o c (words left c is) right k e

-- as they are where those of the code are
module _ (table : ℕ → Assigned)
    (words : (t : ℕ) (c : Constant) → table t ≡ ByConstant c → is_machine_word c ≡ true) where
  word_by : (n t : ℕ) (c : Constant) →
      ((u : ℕ) (d : Constant) → constants_below table n u ≡ Some d → is_machine_word d ≡ true) →
      (x : Assigned) → table t ≡ x → constant_by (constants_below table n) x ≡ Some c → is_machine_word c ≡ true
  word_by n t c below Nowhere is e = absurd (cc e)
  word_by n t c below (ByConstant d) is e =
      let two : ◌≡◌ {A = Option Constant} (Some d) (Some c) = e in
      let same : d ≡ c = cc two in words t c (is ∙ ap ByConstant same)
  word_by n t c below (ByCopy u) is e = absurd (cc e)
  word_by n t c below (ByOperator o left right) is e = folded_word (constants_below table n) below o left right c e
  word_by n t c below Otherwise is e = absurd (cc e)
  word_by n t c below Several is e = absurd (cc e)

  words_below : (n t : ℕ) (c : Constant) → constants_below table n t ≡ Some c → is_machine_word c ≡ true
  words_below zero t c e = absurd (cc e)
  words_below (suc n) t c e = decide t n
      (λ is. word_by n n c (words_below n) (table n) refl (sym (ap (λ b. if b then constant_by (constants_below table n)
      (table n) else constants_below table n t) (eq-eqb t n is)) ∙ e))
      (λ other. words_below n t c (sym (ap (λ b. if b then constant_by (constants_below table n) (table n)
      else constants_below table n t) other) ∙ e))

  pub known_words : (t : ℕ) (c : Constant) → known_constant table t ≡ Some c → is_machine_word c ≡ true
  known_words t = words_below (suc t) t
