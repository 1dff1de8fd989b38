-- What operators give: where they are folded, where they can't be blamed, and where they give words.
use Rattle.std.proofs.Common.{Bool, Err, None, Ok, Option, Result, Some, [], ap, false, if◌then◌else◌, refl}
use Rattle.std.proofs.Common.{subst}
use Rattle.std.proofs.Common.{true, ℕ, ◌&&◌, ◌≡◌}
use Rattle.std.specs.Prelude.{slice_get, ◌-◌, ◌^◌}
use Rattle.sc_base.proofs.Bools.{and_first, and_rest}
use Rattle.sc_base.specs.declared.op.BinaryOp.{BinaryOp}
use Rattle.sc_base.specs.declared.op.BinaryOp.TheVariants as op
use Rattle.sc_base.specs.declared.op.UnaryOp.TheVariants as unary
use Rattle.sc_event.specs.declared.interface.Scalar.TheVariants.{Int, Unsigned}
use Rattle.sc_core.specs.Prelude.{Arith, Blocks, between, is_word, load}
use Rattle.sc_core.specs.Memory.{bind, cells_at, loaded}
use Rattle.sc_core.specs.Value.{apart, as_word, in_elements, of_bool, on_word, ordered, same_place}
use Rattle.sc_core.specs.declared.cause.Cause.{Cause}
use Rattle.sc_core.specs.declared.cause.Cause.TheVariants.{BadType, Dangling}
use Rattle.sc_core.specs.declared.value.Cell.{Cell}
use Rattle.sc_core.specs.declared.value.Cell.TheVariants as cell
use Rattle.sc_core.specs.declared.value.Value.{Value}
use Rattle.sc_core.specs.declared.value.Value.TheVariants.{Word, Null, Ptr}
use Rattle.sc_tac.specs.Prelude.{constant_value, is_comparison, is_pointer, is_unsigned, operated}
use Rattle.sc_tac.specs.declared.stmt.Constant.{Constant}
use Rattle.sc_tac.specs.declared.stmt.TacOp.{TacOp}
use Rattle.sc_tac.specs.declared.stmt.TacOp.TheVariants as tacop
use Rattle.sc_opt.specs.Pass.{gives_word, is_total_signed, is_total_unsigned, is_total, on_constants}
use Rattle.sc_opt.specs.Pass.{right_holds_word}

-- what the pass needs of an arithmetic
pub record Fits (arith : Arith) : Type 0 where
  pub folds : (o : TacOp) (c d : Constant) (blocks : Blocks) (k : Constant) → on_constants o c d ≡ Some k →
      operated arith blocks o (constant_value c) (constant_value d) ≡ Ok (constant_value k)
  pub wraps : (o : BinaryOp) → is_total_unsigned o ≡ true → (a b : ℕ) → (w : ℕ) × (arith.binary true o a b ≡ Ok w)
  pub compares : (unsigned : Bool) (o : BinaryOp) → is_total_signed o ≡ true → (a b : ℕ) →
      (w : ℕ) × (arith.binary unsigned o a b ≡ Ok w)

is_that : (v z : Value) → is_word v ≡ true → ◌≡◌ {A = Result Value Cause} (Ok v) (Ok z) → is_word z ≡ true
is_that v z h e = let same : v ≡ z = cc e in subst (λ x. is_word x ≡ true) same h

bind_word : {A : Type 0} (r : Result A Cause) (go : A → Result Value Cause) (z : Value) →
    ((x : A) → go x ≡ Ok z → is_word z ≡ true) → bind r go ≡ Ok z → is_word z ≡ true
bind_word (Err cause) go z h e = absurd (cc e)
bind_word (Ok x) go z h e = h x e

if_word : (b : Bool) (w : ℕ) (cause : Cause) (z : Value) → (if b then Ok (Word w) else Err cause) ≡ Ok z →
    is_word z ≡ true
if_word true w cause z e = is_that (Word w) z refl e
if_word false w cause z e = absurd (cc e)

as_word_word : (r : Result ℕ Cause) (z : Value) → as_word r ≡ Ok z → is_word z ≡ true
as_word_word r z e = bind_word r (λ w. Ok (Word w)) z (λ w h. is_that (Word w) z refl h) e

on_word_word : (f : ℕ → Result ℕ Cause) (v z : Value) → on_word f v ≡ Ok z → is_word z ≡ true
on_word_word f (Word a) z e = as_word_word (f a) z e
on_word_word f Null z e = absurd (cc e)
on_word_word f (Ptr p) z e = absurd (cc e)

on_words_word : (arith : Arith) (unsigned : Bool) (o : BinaryOp) (v w z : Value) →
    operated arith [] (tacop.Binary o (if unsigned then Unsigned else Int)) v w ≡ Ok z → is_word z ≡ true
on_words_word arith unsigned o (Word a) (Word b) z e = as_word_word (arith.binary _ o a b) z e
on_words_word arith unsigned o (Word a) Null z e = absurd (cc e)
on_words_word arith unsigned o (Word a) (Ptr p) z e = absurd (cc e)
on_words_word arith unsigned o Null w z e = absurd (cc e)
on_words_word arith unsigned o (Ptr p) w z e = absurd (cc e)

between_word : (blocks : Blocks) (o : BinaryOp) (cells : ℕ) (v w z : Value) → between blocks o cells v w ≡ Ok z →
    is_word z ≡ true
between_word blocks op.Sub cells v w z e = bind_word (apart v w) (in_elements cells) z (λ by h. if_word _ _ _ z h) e
between_word blocks op.Equal cells v w z e =
    bind_word (same_place blocks v w) (λ b. Ok (of_bool b)) z (λ b h. is_that _ z refl h) e
between_word blocks op.NotEqual cells v w z e =
    bind_word (same_place blocks v w) _ z (λ b h. is_that _ z refl h) e
between_word blocks o cells v w z e =
    bind_word (apart v w) (λ by. Ok (of_bool (ordered o by))) z (λ by h. is_that _ z refl h) e

compared_word : (b : Bool) (r : Result Value Cause) (z : Value) → (r ≡ Ok z → is_word z ≡ true) →
    (if b then r else Err BadType) ≡ Ok z → is_word z ≡ true
compared_word true r z h e = h e
compared_word false r z h e = absurd (cc e)

no_word : {B : Type 0} → false ≡ true → B
no_word h = absurd (cc h)

pub words_computed : (arith : Arith) (blocks : Blocks) (o : TacOp) (v w z : Value) → gives_word o ≡ true →
    operated arith blocks o v w ≡ Ok z → is_word z ≡ true
words_computed arith blocks (tacop.Unary unary.Minus scalar) v w z h e =
    on_word_word (arith.negated (is_unsigned scalar)) v z e
words_computed arith blocks (tacop.Unary unary.Plus scalar) v w z h e = no_word h
words_computed arith blocks (tacop.Unary unary.Not scalar) v w z h e = is_that _ z refl e
words_computed arith blocks (tacop.Unary unary.BitNot scalar) v w z h e =
    on_word_word (λ a. Ok (2 ^ 32 - 1 - a)) v z e
words_computed arith blocks (tacop.Binary o Int) v w z h e = on_words_word arith false o v w z e
words_computed arith blocks (tacop.Binary o Unsigned) v w z h e = on_words_word arith true o v w z e
words_computed arith blocks tacop.PointerNot v w z h e = is_that _ z refl e
words_computed arith blocks (tacop.PointerMove minus cells index) v w z h e = no_word h
words_computed arith blocks (tacop.PointerMember offset) v w z h e = no_word h
words_computed arith blocks (tacop.PointerDifference cells) v w z h e = between_word blocks op.Sub cells v w z e
words_computed arith blocks (tacop.PointerCompare o) v w z h e =
    compared_word (is_comparison o && (is_pointer v && is_pointer w)) (between blocks o 1 v w) z
    (between_word blocks o 1 v w z) e

-- a load of a word
loaded_word : (blocks : Blocks) (c : Option Cell) (z : Value) → loaded blocks false c ≡ Ok z → is_word z ≡ true
loaded_word blocks None z e = absurd (cc e)
loaded_word blocks (Some cell.Undef) z e = absurd (cc e)
loaded_word blocks (Some (cell.Word w)) z e = is_that (Word w) z refl e
loaded_word blocks (Some cell.Null) z e = absurd (cc e)
loaded_word blocks (Some (cell.Ptr p)) z e = by _ e where
  by : (b : Bool) → (if b then Err BadType else Err Dangling) ≡ Ok z → is_word z ≡ true
  by true e = absurd (cc e)
  by false e = absurd (cc e)

pub load_word : (blocks : Blocks) (q z : Value) → load blocks false q ≡ Ok z → is_word z ≡ true
load_word blocks (Word w) z e = absurd (cc e)
load_word blocks Null z e = absurd (cc e)
load_word blocks (Ptr p) z e =
    bind_word (cells_at blocks p.block) (λ cells. loaded blocks false (slice_get cells p.index)) z
    (λ cells h. loaded_word blocks (slice_get cells p.index) z h) e

-- what can't be blamed gives something
abbrev Gives : Result Value Cause → Type 0
Gives r = (z : Value) × (r ≡ Ok z)

from_word : (r : Result ℕ Cause) → ((w : ℕ) × (r ≡ Ok w)) → Gives (as_word r)
from_word r h = (Word h.0, ap as_word h.1)

on_words_give : (arith : Arith) (unsigned : Bool) (o : BinaryOp) (v w : Value) → is_word v ≡ true → is_word w ≡ true →
    ((a b : ℕ) → (x : ℕ) × (arith.binary unsigned o a b ≡ Ok x)) →
    Gives (operated arith [] (tacop.Binary o (if unsigned then Unsigned else Int)) v w)
on_words_give arith true o (Word a) (Word b) h k g = from_word (arith.binary true o a b) (g a b)
on_words_give arith false o (Word a) (Word b) h k g = from_word (arith.binary false o a b) (g a b)
on_words_give arith unsigned o (Word a) Null h k g = no_word k
on_words_give arith unsigned o (Word a) (Ptr p) h k g = no_word k
on_words_give arith unsigned o Null w h k g = no_word h
on_words_give arith unsigned o (Ptr p) w h k g = no_word h

on_word_gives : (f : ℕ → ℕ) (v : Value) → is_word v ≡ true → Gives (on_word (λ a. Ok (f a)) v)
on_word_gives f (Word a) h = (Word (f a), refl)
on_word_gives f Null h = no_word h
on_word_gives f (Ptr p) h = no_word h

module _ (holds_word : ℕ → Bool) where
  pub total_gives : (arith : Arith) → Fits arith → (blocks : Blocks) (o : TacOp) (left : ℕ) (right : Option ℕ)
      (v w : Value) → is_total holds_word o left right ≡ true → (holds_word left ≡ true → is_word v ≡ true) →
      (right_holds_word holds_word right ≡ true → is_word w ≡ true) → Gives (operated arith blocks o v w)
  total_gives arith fits blocks (tacop.Unary unary.Minus scalar) left right v w h l r = no_word h
  total_gives arith fits blocks (tacop.Unary unary.Plus scalar) left right v w h l r = no_word h
  total_gives arith fits blocks (tacop.Unary unary.Not scalar) left right v w h l r = (_, refl)
  total_gives arith fits blocks (tacop.Unary unary.BitNot scalar) left right v w h l r =
      on_word_gives (λ a. 2 ^ 32 - 1 - a) v (l h)
  total_gives arith fits blocks (tacop.Binary o Int) left right v w h l r =
      let both = and_rest (is_total_signed o) _ h in
      on_words_give arith false o v w (l (and_first (holds_word left) _ both)) (r (and_rest (holds_word left) _ both))
      (fits.compares false o (and_first (is_total_signed o) _ h))
  total_gives arith fits blocks (tacop.Binary o Unsigned) left right v w h l r =
      let both = and_rest (is_total_unsigned o) _ h in
      on_words_give arith true o v w (l (and_first (holds_word left) _ both)) (r (and_rest (holds_word left) _ both))
      (fits.wraps o (and_first (is_total_unsigned o) _ h))
  total_gives arith fits blocks tacop.PointerNot left right v w h l r = (_, refl)
  total_gives arith fits blocks (tacop.PointerMove minus cells index) left right v w h l r = no_word h
  total_gives arith fits blocks (tacop.PointerMember offset) left right v w h l r = no_word h
  total_gives arith fits blocks (tacop.PointerDifference cells) left right v w h l r = no_word h
  total_gives arith fits blocks (tacop.PointerCompare o) left right v w h l r = no_word h
