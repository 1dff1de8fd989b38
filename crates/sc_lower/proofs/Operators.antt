-- Operators of code compute what those of trees do.
use Rattle.sc_lower.proofs.Common.{Arith, BadType, BinaryOp, Blocks, Bool, Cause, Err, Judged, List, Null, Ok, Ptr}
use Rattle.sc_lower.proofs.Common.{Result, Ty, TypedStruct, UnaryOp, Value, Word, and_first, and_rest, ap, applied_one}
use Rattle.sc_lower.proofs.Common.{at_pointer, between, between_op, binary_fits, both_ints, common, compared, decayed}
use Rattle.sc_lower.proofs.Common.{either, false, false≢true, if◌then◌else◌, integer_kind, is_address, is_comparison}
use Rattle.sc_lower.proofs.Common.{is_int, is_of, is_pointer, is_true, is_unsigned, move_op, moved_back, moved_on, not}
use Rattle.sc_lower.proofs.Common.{not_op, of_bool, on_words, operated, refl, same_ty, scalar_in, scalar_of, sym}
use Rattle.sc_lower.proofs.Common.{target_cells, true, unary_op, ℕ, ◌&&◌, ◌||◌, ◌∙◌, ◌≡◌}
use Rattle.sc_tac.specs.Prelude.{is_unsigned as is_unsigned_scalar}
use Rattle.sc_base.specs.declared.op.UnaryOp.TheVariants as unary
use Rattle.sc_base.specs.declared.op.BinaryOp.TheVariants as op
use Rattle.sc_tac.specs.declared.stmt.TacOp.TheVariants as tacop

unsigned_in : (b : Bool) → is_unsigned_scalar (scalar_in b) ≡ b
unsigned_in true = refl
unsigned_in false = refl

pub not_twice : (b : Bool) → of_bool (not (is_true (of_bool (not b)))) ≡ of_bool b
not_twice true = refl
not_twice false = refl

-- the operators between two pointers
abbrev pub is_between : BinaryOp → Bool
is_between op.Sub = true
is_between o = is_comparison o

-- those that go by the truth of their operands
abbrev pub is_logical : BinaryOp → Bool
is_logical op.OrElse = true
is_logical op.AndAlso = true
is_logical o = false

no_int : {C : Type 0} (a : Judged) → is_int a ≡ true → is_pointer a.ty ≡ true → C
no_int a h p = absurd (false≢true (sym (integer_kind a.ty (and_rest a.fits _ h)) ∙ p))

no_ints : {C : Type 0} (a b : Judged) → both_ints a b ≡ true → is_pointer a.ty ≡ true → C
no_ints a b h p = no_int a (and_first (is_int a) _ h) p

-- which operators take two pointers
pub pointers_between : (o : BinaryOp) (a b : Judged) (t : Ty) → binary_fits o a b t ≡ true → is_pointer a.ty ≡ true →
    is_pointer b.ty ≡ true → (is_logical o || is_between o) ≡ true
pointers_between op.OrElse a b t h p q = refl
pointers_between op.AndAlso a b t h p q = refl
pointers_between op.BitOr a b t h p q = no_ints a b (and_first (both_ints a b) _ h) p
pointers_between op.BitXor a b t h p q = no_ints a b (and_first (both_ints a b) _ h) p
pointers_between op.BitAnd a b t h p q = no_ints a b (and_first (both_ints a b) _ h) p
pointers_between op.Equal a b t h p q = refl
pointers_between op.NotEqual a b t h p q = refl
pointers_between op.Less a b t h p q = refl
pointers_between op.Greater a b t h p q = refl
pointers_between op.LessEqual a b t h p q = refl
pointers_between op.GreaterEqual a b t h p q = refl
pointers_between op.ShiftLeft a b t h p q = no_ints a b (and_first (both_ints a b) _ h) p
pointers_between op.ShiftRight a b t h p q = no_ints a b (and_first (both_ints a b) _ h) p
pointers_between op.Add a b t h p q =
    let A : Bool = both_ints a b && same_ty t (common a.ty b.ty) in
    let B : Bool = is_address a && (is_int b && same_ty t (decayed a.ty)) in
    either (A || B) (is_int a && (is_address b && same_ty t (decayed b.ty))) h
    (λ k. either A B k (λ k. no_ints a b (and_first (both_ints a b) _ k) p)
    (λ k. no_int b (and_first (is_int b) _ (and_rest (is_address a) _ k)) q))
    (λ k. no_int a (and_first (is_int a) _ k) p)
pointers_between op.Sub a b t h p q = refl
pointers_between op.Mul a b t h p q = no_ints a b (and_first (both_ints a b) _ h) p
pointers_between op.Div a b t h p q = no_ints a b (and_first (both_ints a b) _ h) p
pointers_between op.Rem a b t h p q = no_ints a b (and_first (both_ints a b) _ h) p

chosen : (b : Bool) (r : Result Value Cause) → b ≡ true → (if b && (true && true) then r else Err BadType) ≡ r
chosen b r h = ap (λ b. if b && (true && true) then r else Err BadType) h

module _ (arith : Arith) where
  pub not_is : (ty : Ty) (blocks : Blocks) (v w : Value) →
      operated arith blocks (not_op ty) v w ≡ Ok (of_bool (not (is_true v)))
  not_is ty blocks v w = by (is_pointer ty) where
    by : (b : Bool) → operated arith blocks (if b then tacop.PointerNot else tacop.Unary unary.Not (scalar_of ty)) v w
        ≡ Ok (of_bool (not (is_true v)))
    by true = refl
    by false = refl

  pub unary_is : (o : UnaryOp) (ty : Ty) (blocks : Blocks) (v w : Value) →
      operated arith blocks (unary_op o ty) v w ≡ applied_one arith (is_unsigned ty) o v
  unary_is unary.Minus ty blocks v w = ap (λ b. applied_one arith b unary.Minus v) (unsigned_in (is_unsigned ty))
  unary_is unary.Plus ty blocks v w = ap (λ b. applied_one arith b unary.Plus v) (unsigned_in (is_unsigned ty))
  unary_is unary.Not ty blocks v w = not_is ty blocks v w
  unary_is unary.BitNot ty blocks v w = ap (λ b. applied_one arith b unary.BitNot v) (unsigned_in (is_unsigned ty))

  pub words_is : (o : BinaryOp) (b : Bool) (blocks : Blocks) (v w : Value) →
      operated arith blocks (tacop.Binary o (scalar_in b)) v w ≡ on_words arith b o v w
  words_is o b blocks v w = ap (λ u. on_words arith u o v w) (unsigned_in b)

  -- a comparison of pointers
  compared_is : (o : BinaryOp) (blocks : Blocks) (v w : Value) → is_comparison o ≡ true → is_of true v ≡ true →
      is_of true w ≡ true → compared blocks o v w ≡ between blocks o 1 v w
  compared_is o blocks (Word a) w h left right = absurd (false≢true left)
  compared_is o blocks Null (Word b) h left right = absurd (false≢true right)
  compared_is o blocks (Ptr p) (Word b) h left right = absurd (false≢true right)
  compared_is o blocks Null Null h left right = chosen (is_comparison o) _ h
  compared_is o blocks Null (Ptr q) h left right = chosen (is_comparison o) _ h
  compared_is o blocks (Ptr p) Null h left right = chosen (is_comparison o) _ h
  compared_is o blocks (Ptr p) (Ptr q) h left right = chosen (is_comparison o) _ h

  pub between_is : (o : BinaryOp) (cells : ℕ) (blocks : Blocks) (v w : Value) → is_between o ≡ true →
      is_of true v ≡ true → is_of true w ≡ true →
      operated arith blocks (between_op o cells) v w ≡ between blocks o cells v w
  between_is op.OrElse cells blocks v w h left right = absurd (false≢true h)
  between_is op.AndAlso cells blocks v w h left right = absurd (false≢true h)
  between_is op.BitOr cells blocks v w h left right = absurd (false≢true h)
  between_is op.BitXor cells blocks v w h left right = absurd (false≢true h)
  between_is op.BitAnd cells blocks v w h left right = absurd (false≢true h)
  between_is op.Equal cells blocks v w h left right = compared_is op.Equal blocks v w refl left right
  between_is op.NotEqual cells blocks v w h left right = compared_is op.NotEqual blocks v w refl left right
  between_is op.Less cells blocks v w h left right = compared_is op.Less blocks v w refl left right
  between_is op.Greater cells blocks v w h left right = compared_is op.Greater blocks v w refl left right
  between_is op.LessEqual cells blocks v w h left right = compared_is op.LessEqual blocks v w refl left right
  between_is op.GreaterEqual cells blocks v w h left right = compared_is op.GreaterEqual blocks v w refl left right
  between_is op.ShiftLeft cells blocks v w h left right = absurd (false≢true h)
  between_is op.ShiftRight cells blocks v w h left right = absurd (false≢true h)
  between_is op.Add cells blocks v w h left right = absurd (false≢true h)
  between_is op.Sub cells blocks v w h left right = refl
  between_is op.Mul cells blocks v w h left right = absurd (false≢true h)
  between_is op.Div cells blocks v w h left right = absurd (false≢true h)
  between_is op.Rem cells blocks v w h left right = absurd (false≢true h)

  module _ (structs : List TypedStruct) where
    on : (o : BinaryOp) (pointer index : Ty) (blocks : Blocks) (v w : Value) →
        moved_on blocks (target_cells structs pointer) (is_unsigned_scalar (scalar_of index)) v w
        ≡ moved_on blocks (target_cells structs pointer) (is_unsigned index) v w
    on o pointer index blocks v w =
        ap (λ u. moved_on blocks (target_cells structs pointer) u v w) (unsigned_in (is_unsigned index))

    pub move_is : (o : BinaryOp) (pointer index : Ty) (blocks : Blocks) (v w : Value) →
        operated arith blocks (move_op structs o pointer index) v w ≡ at_pointer structs blocks o pointer index v w
    move_is op.OrElse pointer index blocks v w = on op.OrElse pointer index blocks v w
    move_is op.AndAlso pointer index blocks v w = on op.AndAlso pointer index blocks v w
    move_is op.BitOr pointer index blocks v w = on op.BitOr pointer index blocks v w
    move_is op.BitXor pointer index blocks v w = on op.BitXor pointer index blocks v w
    move_is op.BitAnd pointer index blocks v w = on op.BitAnd pointer index blocks v w
    move_is op.Equal pointer index blocks v w = on op.Equal pointer index blocks v w
    move_is op.NotEqual pointer index blocks v w = on op.NotEqual pointer index blocks v w
    move_is op.Less pointer index blocks v w = on op.Less pointer index blocks v w
    move_is op.Greater pointer index blocks v w = on op.Greater pointer index blocks v w
    move_is op.LessEqual pointer index blocks v w = on op.LessEqual pointer index blocks v w
    move_is op.GreaterEqual pointer index blocks v w = on op.GreaterEqual pointer index blocks v w
    move_is op.ShiftLeft pointer index blocks v w = on op.ShiftLeft pointer index blocks v w
    move_is op.ShiftRight pointer index blocks v w = on op.ShiftRight pointer index blocks v w
    move_is op.Add pointer index blocks v w = on op.Add pointer index blocks v w
    move_is op.Sub pointer index blocks v w =
        ap (λ u. moved_back blocks (target_cells structs pointer) u v w) (unsigned_in (is_unsigned index))
    move_is op.Mul pointer index blocks v w = on op.Mul pointer index blocks v w
    move_is op.Div pointer index blocks v w = on op.Div pointer index blocks v w
    move_is op.Rem pointer index blocks v w = on op.Rem pointer index blocks v w
