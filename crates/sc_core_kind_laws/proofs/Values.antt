-- Values have the kinds of their types: expressions.
use Rattle.sc_core_kind_laws.proofs.Common.{Arith, BadPointer, Blocks, Bool, Cause, Err, Here, Judged, List, Meant}
use Rattle.sc_core_kind_laws.proofs.Common.{None, Null, Ok, Option, Ptr, Result, Scope, Some, Ty, TypedExpr}
use Rattle.sc_core_kind_laws.proofs.Common.{TypedStruct, Under, Value, Word, [], and_first, and_rest, ap, apart}
use Rattle.sc_core_kind_laws.proofs.Common.{applied, applied_one, are_equatable, are_ordered, as_word, at_place}
use Rattle.sc_core_kind_laws.proofs.Common.{at_pointer, between, binary, binary_fits, bind, both_ints, cells_at, choose}
use Rattle.sc_core_kind_laws.proofs.Common.{common, decayed, difference_fits, expr_at, expr_induction, false}
use Rattle.sc_core_kind_laws.proofs.Common.{false≢true, if◌then◌else◌, in_elements, int_div, int_rem, is_address}
use Rattle.sc_core_kind_laws.proofs.Common.{is_array, is_int, is_integer, is_live, is_of, is_pointer, is_scalar}
use Rattle.sc_core_kind_laws.proofs.Common.{is_true, is_type, is_unsigned, is_unsigned_op, is_zero, judged, judged_ty}
use Rattle.sc_core_kind_laws.proofs.Common.{length, literal, load, loaded, meant, meant_step, moved, moved_back}
use Rattle.sc_core_kind_laws.proofs.Common.{moved_on, nat_le, negsuc, not, of_bool, on_word, on_words, ordered}
use Rattle.sc_core_kind_laws.proofs.Common.{place_at, pointer_to, points, pos, refl, same_place, same_pointers, same_ty}
use Rattle.sc_core_kind_laws.proofs.Common.{same_types, slice_get, subst, suc, sum_fits, sym, target_cells, term_judged}
use Rattle.sc_core_kind_laws.proofs.Common.{term_of, term_step, true, typed, unary_fits, variable_at, wanted, ways, ℕ}
use Rattle.sc_core_kind_laws.proofs.Common.{ℤ, ◌&&◌, ◌-◌, ◌^◌, ◌||◌, ◌∙◌, ◌∷◌, ◌≡◌}
use Rattle.std.specs.Prelude.{◌*◌, ◌%◌}
use Rattle.sc_core.specs.Prelude.{most_cells}
use Rattle.sc_word.specs.Prelude.{word_of}
use Rattle.sc_base.specs.declared.op.UnaryOp.{UnaryOp}
use Rattle.sc_base.specs.declared.op.UnaryOp.TheVariants as unary
use Rattle.sc_base.specs.declared.op.BinaryOp.{BinaryOp}
use Rattle.sc_base.specs.declared.op.BinaryOp.TheVariants as op
use Rattle.sc_core.specs.declared.ty.Ty.TheVariants as ty
use Rattle.sc_core.specs.declared.ty.BaseTy.TheVariants as base
use Rattle.sc_core.specs.declared.expr.TypedKind.{TypedKind, TypedKind-F}
use Rattle.sc_core.specs.declared.expr.TypedKind.TheOpen as term
use Rattle.sc_core.specs.declared.value.Cell.{Cell}
use Rattle.sc_core.specs.declared.value.Cell.TheVariants as cell
use Rattle.sc_core.specs.declared.value.Want.TheVariants as want

-- RESULTS

-- what a result that is there was made of
pub record Made {A B : Type 0} (r : Result A Cause) (f : A → Result B Cause) (y : B) : Type 0 where
  pub first : A
  pub is : r ≡ Ok first
  pub gives : f first ≡ Ok y

pub bind_made : {A B : Type 0} (r : Result A Cause) (f : A → Result B Cause) (y : B) → bind r f ≡ Ok y → Made r f y
bind_made (Ok x) f y h = record { first = x; is = refl; gives = h }
bind_made (Err cause) f y h = absurd (cc)

abbrev Gives : Value → Value → Type 0
Gives x y = ◌≡◌ {A = Result Value Cause} (Ok x) (Ok y)

value_is : (x y : Value) → Gives x y → x ≡ y
value_is x y h = cc

-- KINDS OF TYPES

pub same_kind : (a b : Ty) → same_ty a b ≡ true → is_pointer a ≡ is_pointer b
same_kind ty.Int ty.Int h = refl
same_kind ty.Int ty.Unsigned h = refl
same_kind ty.Int (ty.Struct k) h = refl
same_kind ty.Int (ty.Pointer j b) h = absurd (false≢true h)
same_kind ty.Int (ty.Array j b o) h = absurd (false≢true h)
same_kind ty.Unsigned ty.Int h = refl
same_kind ty.Unsigned ty.Unsigned h = refl
same_kind ty.Unsigned (ty.Struct k) h = refl
same_kind ty.Unsigned (ty.Pointer j b) h = absurd (false≢true h)
same_kind ty.Unsigned (ty.Array j b o) h = absurd (false≢true h)
same_kind (ty.Struct m) ty.Int h = refl
same_kind (ty.Struct m) ty.Unsigned h = refl
same_kind (ty.Struct m) (ty.Struct k) h = refl
same_kind (ty.Struct m) (ty.Pointer j b) h = absurd (false≢true h)
same_kind (ty.Struct m) (ty.Array j b o) h = absurd (false≢true h)
same_kind (ty.Pointer i a) ty.Int h = absurd (false≢true h)
same_kind (ty.Pointer i a) ty.Unsigned h = absurd (false≢true h)
same_kind (ty.Pointer i a) (ty.Struct k) h = absurd (false≢true h)
same_kind (ty.Pointer i a) (ty.Pointer j b) h = refl
same_kind (ty.Pointer i a) (ty.Array j b o) h = refl
same_kind (ty.Array i a n) ty.Int h = absurd (false≢true h)
same_kind (ty.Array i a n) ty.Unsigned h = absurd (false≢true h)
same_kind (ty.Array i a n) (ty.Struct k) h = absurd (false≢true h)
same_kind (ty.Array i a n) (ty.Pointer j b) h = refl
same_kind (ty.Array i a n) (ty.Array j b o) h = refl

-- rows of the same types are as long
pub types_length : (a b : List Ty) → same_types a b ≡ true → length a ≡ length b
types_length [] [] h = refl
types_length [] (y ∷ b) h = absurd (false≢true h)
types_length (x ∷ a) [] h = absurd (false≢true h)
types_length (x ∷ a) (y ∷ b) h = ap suc (types_length a b (and_rest (same_ty x y) _ h))

-- a type that is the same as `int` is no pointer
int_kind : (t : Ty) → same_ty t ty.Int ≡ true → is_pointer t ≡ false
int_kind t h = same_kind t ty.Int h

pub integer_kind : (t : Ty) → is_integer t ≡ true → is_pointer t ≡ false
integer_kind ty.Int h = refl
integer_kind ty.Unsigned h = refl
integer_kind (ty.Struct m) h = refl
integer_kind (ty.Pointer i a) h = absurd (false≢true h)
integer_kind (ty.Array i a n) h = absurd (false≢true h)

pub decayed_kind : (t : Ty) → is_pointer (decayed t) ≡ is_pointer t
decayed_kind ty.Int = refl
decayed_kind ty.Unsigned = refl
decayed_kind (ty.Struct m) = refl
decayed_kind (ty.Pointer i a) = refl
decayed_kind (ty.Array i a n) = refl

common_kind : (a b : Ty) → is_integer a ≡ true → is_pointer (common a b) ≡ false
common_kind ty.Int ty.Int h = refl
common_kind ty.Int ty.Unsigned h = refl
common_kind ty.Int (ty.Struct m) h = refl
common_kind ty.Int (ty.Pointer i a) h = refl
common_kind ty.Int (ty.Array i a n) h = refl
common_kind ty.Unsigned b h = refl
common_kind (ty.Struct m) b h = absurd (false≢true h)
common_kind (ty.Pointer i a) b h = absurd (false≢true h)
common_kind (ty.Array i a n) b h = absurd (false≢true h)

-- whether one of two is a pointer and the other isn't
abbrev pub one_of : Bool → Bool → Bool
one_of true b = not b
one_of false b = b

ints_kind : (a b : Judged) → both_ints a b ≡ true → one_of (is_pointer a.ty) (is_pointer b.ty) ≡ false
ints_kind a b h =
    let x = integer_kind a.ty (and_rest a.fits (is_integer a.ty) (and_first (is_int a) (is_int b) h)) in
    let y = integer_kind b.ty (and_rest b.fits (is_integer b.ty) (and_rest (is_int a) (is_int b) h)) in
    ap (λ p. one_of p (is_pointer b.ty)) x ∙ y

points_kind : (a : Judged) → points a ≡ true → is_pointer a.ty ≡ true
points_kind a h = and_rest a.fits (is_pointer a.ty) h

pub address_kind : (a : Judged) → is_address a ≡ true → is_pointer a.ty ≡ true
address_kind a h = points_kind a (and_first (points a) (not a.null) h)

pub address_fits : (a : Judged) → is_address a ≡ true → a.fits ≡ true
address_fits a h = and_first a.fits (is_pointer a.ty) (and_first (points a) (not a.null) h)

pub int_fits : (a : Judged) → is_int a ≡ true → a.fits ≡ true
int_fits a h = and_first a.fits (is_integer a.ty) h

both_point : (a b : Judged) → points a ≡ true → points b ≡ true → one_of (is_pointer a.ty) (is_pointer b.ty) ≡ false
both_point a b h k = ap (λ p. one_of p (is_pointer b.ty)) (points_kind a h) ∙ ap not (points_kind b k)

-- EITHER OF TWO TESTS
pub either : {C : Type 0} (a b : Bool) → (a || b) ≡ true → (a ≡ true → C) → (b ≡ true → C) → C
either true b h f g = f refl
either false b h f g = g h

equatable_kind : (a b : Judged) → are_equatable a b ≡ true → one_of (is_pointer a.ty) (is_pointer b.ty) ≡ false
equatable_kind a b h =
    either (both_ints a b) _ h (ints_kind a b) (λ k. both_point a b (and_first (points a) _ k)
    (and_first (points b) _ (and_rest (points a) _ k)))

ordered_kind : (a b : Judged) → are_ordered a b ≡ true → one_of (is_pointer a.ty) (is_pointer b.ty) ≡ false
ordered_kind a b h =
    either (both_ints a b) _ h (ints_kind a b) (λ k. both_point a b
    (and_first (points a) _ (and_first (is_address a) _ k))
    (and_first (points b) _ (and_first (is_address b) _ (and_rest (is_address a) _ k))))

-- the result of an operator is a pointer where exactly one of its operands is
abbrev GivesKind : Judged → Judged → Ty → Type 0
GivesKind a b t = is_pointer t ≡ one_of (is_pointer a.ty) (is_pointer b.ty)

int_result : (a b : Judged) (t : Ty) → one_of (is_pointer a.ty) (is_pointer b.ty) ≡ false → same_ty t ty.Int ≡ true →
    GivesKind a b t
int_result a b t h k = int_kind t k ∙ sym h

common_result : (a b : Judged) (t : Ty) → both_ints a b ≡ true → same_ty t (common a.ty b.ty) ≡ true → GivesKind a b t
common_result a b t h k =
    same_kind t (common a.ty b.ty) k
    ∙ common_kind a.ty b.ty (and_rest a.fits (is_integer a.ty) (and_first (is_int a) (is_int b) h))
    ∙ sym (ints_kind a b h)

moved_result : (a b : Judged) (t : Ty) → is_address a ≡ true → is_int b ≡ true → same_ty t (decayed a.ty) ≡ true →
    GivesKind a b t
moved_result a b t h k is =
    let x = address_kind a h in
    let y = integer_kind b.ty (and_rest b.fits (is_integer b.ty) k) in
    same_kind t (decayed a.ty) is ∙ decayed_kind a.ty ∙ x
    ∙ sym (ap (λ p. one_of p (is_pointer b.ty)) x ∙ ap not y)

moved_after : (a b : Judged) (t : Ty) → is_int a ≡ true → is_address b ≡ true → same_ty t (decayed b.ty) ≡ true →
    GivesKind a b t
moved_after a b t h k is =
    let x = integer_kind a.ty (and_rest a.fits (is_integer a.ty) h) in
    same_kind t (decayed b.ty) is ∙ decayed_kind b.ty ∙ sym (ap (λ p. one_of p (is_pointer b.ty)) x)

sum_kind : (a b : Judged) (t : Ty) → sum_fits a b t ≡ true → GivesKind a b t
sum_kind a b t h =
    either (both_ints a b && same_ty t (common a.ty b.ty) || is_address a && (is_int b && same_ty t (decayed a.ty)))
    (is_int a && (is_address b && same_ty t (decayed b.ty))) h
    (λ k. either (both_ints a b && same_ty t (common a.ty b.ty))
    (is_address a && (is_int b && same_ty t (decayed a.ty))) k
    (λ x. common_result a b t (and_first (both_ints a b) _ x) (and_rest (both_ints a b) _ x))
    (λ x. moved_result a b t (and_first (is_address a) _ x) (and_first (is_int b) _ (and_rest (is_address a) _ x))
    (and_rest (is_int b) _ (and_rest (is_address a) _ x))))
    (λ x. moved_after a b t (and_first (is_int a) _ x) (and_first (is_address b) _ (and_rest (is_int a) _ x))
    (and_rest (is_address b) _ (and_rest (is_int a) _ x)))

difference_kind : (a b : Judged) (t : Ty) → difference_fits a b t ≡ true → GivesKind a b t
difference_kind a b t h =
    either (both_ints a b && same_ty t (common a.ty b.ty) || is_address a && (is_int b && same_ty t (decayed a.ty)))
    (is_address a && (is_address b && (same_pointers a b && same_ty t ty.Int))) h
    (λ k. either (both_ints a b && same_ty t (common a.ty b.ty))
    (is_address a && (is_int b && same_ty t (decayed a.ty))) k
    (λ x. common_result a b t (and_first (both_ints a b) _ x) (and_rest (both_ints a b) _ x))
    (λ x. moved_result a b t (and_first (is_address a) _ x) (and_first (is_int b) _ (and_rest (is_address a) _ x))
    (and_rest (is_int b) _ (and_rest (is_address a) _ x))))
    (λ x. let second = and_rest (is_address a) _ x in
    int_result a b t (both_point a b (and_first (points a) _ (and_first (is_address a) _ x))
    (and_first (points b) _ (and_first (is_address b) _ second)))
    (and_rest (same_pointers a b) _ (and_rest (is_address b) _ second)))

equal_result : (a b : Judged) (t : Ty) → (are_equatable a b && same_ty t ty.Int) ≡ true → GivesKind a b t
equal_result a b t h =
    int_result a b t (equatable_kind a b (and_first (are_equatable a b) _ h)) (and_rest (are_equatable a b) _ h)

order_result : (a b : Judged) (t : Ty) → (are_ordered a b && same_ty t ty.Int) ≡ true → GivesKind a b t
order_result a b t h =
    int_result a b t (ordered_kind a b (and_first (are_ordered a b) _ h)) (and_rest (are_ordered a b) _ h)

shift_result : (a b : Judged) (t : Ty) → (both_ints a b && same_ty t a.ty) ≡ true → GivesKind a b t
shift_result a b t h =
    same_kind t a.ty (and_rest (both_ints a b) _ h)
    ∙ integer_kind a.ty (and_rest a.fits (is_integer a.ty)
    (and_first (is_int a) (is_int b) (and_first (both_ints a b) _ h)))
    ∙ sym (ints_kind a b (and_first (both_ints a b) _ h))

word_result : (a b : Judged) (t : Ty) → (both_ints a b && same_ty t (common a.ty b.ty)) ≡ true → GivesKind a b t
word_result a b t h = common_result a b t (and_first (both_ints a b) _ h) (and_rest (both_ints a b) _ h)

-- VALUES
abbrev HasKind : Bool → Result Value Cause → Type 0
HasKind pointer r = (v : Value) → r ≡ Ok v → is_of pointer v ≡ true

by_value : (pointer : Bool) (x v : Value) → is_of pointer x ≡ true → Gives x v → is_of pointer v ≡ true
by_value pointer x v h is = subst (λ y. is_of pointer y ≡ true) (value_is x v is) h

no_value : (pointer : Bool) (cause : Cause) → HasKind pointer (Err cause)
no_value pointer cause v is = absurd (cc)

bind_kind : {A : Type 0} (pointer : Bool) (r : Result A Cause) (f : A → Result Value Cause) →
    ((x : A) → HasKind pointer (f x)) → HasKind pointer (bind r f)
bind_kind pointer (Ok x) f h v is = h x v is
bind_kind pointer (Err cause) f h v is = no_value pointer cause v is

if_kind : (pointer b : Bool) (r r' : Result Value Cause) → HasKind pointer r → HasKind pointer r' →
    HasKind pointer (if b then r else r')
if_kind pointer true r r' h k = h
if_kind pointer false r r' h k = k

ok_kind : (pointer : Bool) (x : Value) → is_of pointer x ≡ true → HasKind pointer (Ok x)
ok_kind pointer x h v is = by_value pointer x v h is

loaded_kind : (blocks : Blocks) (pointer : Bool) (o : Option Cell) → HasKind pointer (loaded blocks pointer o)
loaded_kind blocks pointer None = no_value pointer _
loaded_kind blocks pointer (Some cell.Undef) = no_value pointer _
loaded_kind blocks true (Some (cell.Word w)) = no_value true _
loaded_kind blocks false (Some (cell.Word w)) = ok_kind false (Word w) refl
loaded_kind blocks true (Some cell.Null) = ok_kind true Null refl
loaded_kind blocks false (Some cell.Null) = no_value false _
loaded_kind blocks true (Some (cell.Ptr p)) =
    if_kind true (is_live (slice_get blocks p.block)) _ _ (ok_kind true (Ptr p) refl) (no_value true _)
loaded_kind blocks false (Some (cell.Ptr p)) =
    if_kind false (is_live (slice_get blocks p.block)) _ _ (no_value false _) (no_value false _)

load_kind : (blocks : Blocks) (pointer : Bool) (q : Value) → HasKind pointer (load blocks pointer q)
load_kind blocks pointer (Word w) = no_value pointer _
load_kind blocks pointer Null = no_value pointer _
load_kind blocks pointer (Ptr p) = bind_kind pointer (cells_at blocks p.block) _
    (λ cells. loaded_kind blocks pointer (slice_get cells p.index))

place_kind : (block : ℕ) (i : ℤ) (cells : ℕ) → HasKind true (place_at block i cells)
place_kind block (negsuc i) cells = no_value true _
place_kind block (pos i) cells = if_kind true (nat_le i cells) _ _ (ok_kind true (Ptr _) refl) (no_value true _)

moved_kind : (blocks : Blocks) (by : ℤ) (q : Value) → HasKind true (moved blocks by q)
moved_kind blocks by (Word w) = no_value true _
moved_kind blocks by Null = no_value true _
moved_kind blocks by (Ptr p) = bind_kind true (cells_at blocks p.block) _ (λ cells. place_kind p.block _ (length cells))

moved_on_kind : (blocks : Blocks) (cells : ℕ) (unsigned : Bool) (q i : Value) →
    HasKind true (moved_on blocks cells unsigned q i)
moved_on_kind blocks cells unsigned q (Word i) = moved_kind blocks _ q
moved_on_kind blocks cells unsigned q Null = no_value true _
moved_on_kind blocks cells unsigned q (Ptr p) = no_value true _

moved_back_kind : (blocks : Blocks) (cells : ℕ) (unsigned : Bool) (q i : Value) →
    HasKind true (moved_back blocks cells unsigned q i)
moved_back_kind blocks cells unsigned q (Word i) = moved_kind blocks _ q
moved_back_kind blocks cells unsigned q Null = no_value true _
moved_back_kind blocks cells unsigned q (Ptr p) = no_value true _

word_kind : (r : Result ℕ Cause) → HasKind false (as_word r)
word_kind r = bind_kind false r _ (λ w. ok_kind false (Word w) refl)

elements_kind : (cells : ℕ) (by : ℤ) → HasKind false (in_elements cells by)
elements_kind cells by =
    if_kind false (is_zero (int_rem by (pos cells))) (Ok (Word (word_of (int_div by (pos cells))))) (Err BadPointer)
    (ok_kind false (Word (word_of (int_div by (pos cells)))) refl) (no_value false BadPointer)

between_kind : (blocks : Blocks) (o : BinaryOp) (cells : ℕ) (v w : Value) → HasKind false (between blocks o cells v w)
between_kind blocks op.Sub cells v w = bind_kind false (apart v w) (in_elements cells) (elements_kind cells)
between_kind blocks op.Equal cells v w = bind_kind false (same_place blocks v w) _ (λ b. ok_kind false (of_bool b) refl)
between_kind blocks op.NotEqual cells v w =
    bind_kind false (same_place blocks v w) _ (λ b. ok_kind false (of_bool (not b)) refl)
between_kind blocks o cells v w = bind_kind false (apart v w) _ (λ by. ok_kind false (of_bool (ordered o by)) refl)

on_words_kind : (arith : Arith) (unsigned : Bool) (o : BinaryOp) (v w : Value) →
    HasKind false (on_words arith unsigned o v w)
on_words_kind arith unsigned o (Word a) (Word b) = word_kind (arith.binary unsigned o a b)
on_words_kind arith unsigned o (Word a) Null = no_value false _
on_words_kind arith unsigned o (Word a) (Ptr p) = no_value false _
on_words_kind arith unsigned o Null w = no_value false _
on_words_kind arith unsigned o (Ptr p) w = no_value false _

on_word_kind : (f : ℕ → Result ℕ Cause) (v : Value) → HasKind false (on_word f v)
on_word_kind f (Word a) = word_kind (f a)
on_word_kind f Null = no_value false _
on_word_kind f (Ptr p) = no_value false _

pointer_kind : (structs : List TypedStruct) (blocks : Blocks) (o : BinaryOp) (pointer index : Ty) (v w : Value) →
    HasKind true (at_pointer structs blocks o pointer index v w)
pointer_kind structs blocks op.Sub pointer index v w = moved_back_kind blocks _ _ v w
pointer_kind structs blocks o pointer index v w = moved_on_kind blocks _ _ v w

applied_kind : (arith : Arith) (structs : List TypedStruct) (blocks : Blocks) (o : BinaryOp) (left right : Ty)
    (v w : Value) → HasKind (one_of (is_pointer left) (is_pointer right))
    (applied arith structs blocks o left right v w)
applied_kind arith structs blocks o left right v w =
    by (is_pointer left) (is_pointer right) where
      by : (p q : Bool) → HasKind (one_of p q) (if p then
          (if q then between blocks o (target_cells structs left) v w else
          at_pointer structs blocks o left right v w) else
          (if q then at_pointer structs blocks o right left w v else
          on_words arith (is_unsigned_op o left right) o v w))
      by true true = between_kind blocks o (target_cells structs left) v w
      by true false = pointer_kind structs blocks o left right v w
      by false true = pointer_kind structs blocks o right left w v
      by false false = on_words_kind arith (is_unsigned_op o left right) o v w

literal_kind : (ty : Ty) (word : ℕ) → is_of (is_pointer ty) (literal ty word) ≡ true
literal_kind ty word = by (is_pointer ty) where
  by : (p : Bool) → is_of p (if p then Null else Word word) ≡ true
  by true = refl
  by false = refl

-- EXPRESSIONS

-- an expression that fits gives values of its type's kind, and places
pub record Sound (j : Judged) (m : Meant) : Type 0 where
  pub same : m.ty ≡ j.ty
  pub value : j.fits ≡ true → (blocks : Blocks) → HasKind (is_pointer j.ty) (m.way want.Value blocks)
  pub place : j.fits ≡ true → j.place ≡ true → (blocks : Blocks) → HasKind true (m.way want.Place blocks)

array_kind : (ty : Ty) → is_array ty ≡ true → is_pointer ty ≡ true
array_kind ty.Int h = absurd (false≢true h)
array_kind ty.Unsigned h = absurd (false≢true h)
array_kind (ty.Struct m) h = absurd (false≢true h)
array_kind (ty.Pointer i a) h = absurd (false≢true h)
array_kind (ty.Array i a n) h = refl

wanted_kind : (ty : Ty) (q : Value) (blocks : Blocks) → is_of true q ≡ true →
    HasKind (is_pointer ty) (wanted ty q want.Value blocks)
wanted_kind ty q blocks h = by (is_array ty) (array_kind ty) where
  by : (b : Bool) → (b ≡ true → is_pointer ty ≡ true) →
      HasKind (is_pointer ty) (if b then Ok q else load blocks (is_pointer ty) q)
  by true k = subst (λ p. HasKind p (Ok q)) (sym (k refl)) (ok_kind true q h)
  by false k = load_kind blocks (is_pointer ty) q

-- an expression that names such a place
place_sound : (j : Judged) (place : Blocks → Result Value Cause) →
    (j.fits ≡ true → (blocks : Blocks) → HasKind true (place blocks)) →
    Sound j (record { ty = j.ty; way = at_place j.ty place })
place_sound j place h = record {
  same = refl;
  value = λ fits blocks v is. (let made = bind_made (place blocks) (λ q. wanted j.ty q want.Value blocks) v is in
      wanted_kind j.ty made.first blocks (h fits blocks made.first made.is) v made.gives);
  place = λ fits names blocks v is. (let made = bind_made (place blocks) (λ q. wanted j.ty q want.Place blocks) v is in
      by_value true made.first v (h fits blocks made.first made.is) made.gives);
}

-- an expression that has only a value
value_sound : (j : Judged) (m : Meant) → m.ty ≡ j.ty → j.place ≡ false →
    (j.fits ≡ true → (blocks : Blocks) → HasKind (is_pointer j.ty) (m.way want.Value blocks)) → Sound j m
value_sound j m is none h =
    record { same = is; value = h; place = λ fits names. absurd (false≢true (sym none ∙ names)) }

-- what follows `&`
reached_kind : (a t : Ty) → is_type (pointer_to a) t ≡ true → is_pointer t ≡ true
reached_kind ty.Int t h = sym (same_kind (ty.Pointer 1 base.Int) t h)
reached_kind ty.Unsigned t h = sym (same_kind (ty.Pointer 1 base.Unsigned) t h)
reached_kind (ty.Struct m) t h = sym (same_kind (ty.Pointer 1 (base.Struct m)) t h)
reached_kind (ty.Pointer i a) t h = sym (same_kind (ty.Pointer (suc i) a) t h)
reached_kind (ty.Array i a n) t h = absurd (false≢true h)

module _ (arith : Arith) (structs : List TypedStruct) (here : Here) (params : ℕ) (scope : Scope) where
  abbrev judged_at : Ty → TypedKind-F TypedKind TypedExpr → Judged
  judged_at t k = term_of _ _ (term_judged scope) (λ e. e.kind e.ty) k t

  abbrev meant_at : Ty → TypedKind-F TypedKind TypedExpr → Meant
  meant_at t k = record { ty = t; way = term_of _ _ (term_step arith structs here params) meant_step k t }

  abbrev IsSound : TypedExpr → Type 0
  IsSound e = Sound (judged scope e) (meant arith structs here params e)

  unary_sound : (o : UnaryOp) (j : Judged) (m : Meant) (t : Ty) → Sound j m → unary_fits o j t ≡ true →
      (blocks : Blocks) → HasKind (is_pointer t) (bind (m.way want.Value blocks)
      (applied_one arith (is_unsigned m.ty) o))
  unary_sound unary.Not j m t h fits blocks =
      subst (λ p. HasKind p (bind (m.way want.Value blocks) (applied_one arith (is_unsigned m.ty) unary.Not)))
      (sym (int_kind t (and_rest (is_scalar j) _ fits)))
      (bind_kind false (m.way want.Value blocks) (applied_one arith (is_unsigned m.ty) unary.Not)
      (λ v. ok_kind false (of_bool (not (is_true v))) refl))
  unary_sound unary.Plus j m t h fits blocks = λ v is.
      let made = bind_made (m.way want.Value blocks) (applied_one arith (is_unsigned m.ty) unary.Plus) v is in
      let kind = h.value (int_fits j (and_first (is_int j) _ fits)) blocks made.first made.is in
      subst (λ p. is_of p v ≡ true) (sym (same_kind t j.ty (and_rest (is_int j) _ fits)))
      (by_value (is_pointer j.ty) made.first v kind made.gives)
  unary_sound unary.Minus j m t h fits blocks =
      subst (λ p. HasKind p (bind (m.way want.Value blocks) (applied_one arith (is_unsigned m.ty) unary.Minus)))
      (sym (same_kind t j.ty (and_rest (is_int j) _ fits) ∙
      integer_kind j.ty (and_rest j.fits _ (and_first (is_int j) _ fits))))
      (bind_kind false (m.way want.Value blocks) (applied_one arith (is_unsigned m.ty) unary.Minus)
      (λ v. on_word_kind (arith.negated (is_unsigned m.ty)) v))
  unary_sound unary.BitNot j m t h fits blocks =
      subst (λ p. HasKind p (bind (m.way want.Value blocks) (applied_one arith (is_unsigned m.ty) unary.BitNot)))
      (sym (same_kind t j.ty (and_rest (is_int j) _ fits) ∙
      integer_kind j.ty (and_rest j.fits _ (and_first (is_int j) _ fits))))
      (bind_kind false (m.way want.Value blocks) (applied_one arith (is_unsigned m.ty) unary.BitNot)
      (λ v. on_word_kind (λ a. Ok (2 ^ 32 - 1 - a)) v))

  -- an operator that looks at both
  both_sound : (o : BinaryOp) (j k : Judged) (m n : Meant) (t : Ty) → Sound j m → Sound k n → GivesKind j k t →
      (blocks : Blocks) → HasKind (is_pointer t) (bind (m.way want.Value blocks)
      (λ v. bind (n.way want.Value blocks) (applied arith structs blocks o m.ty n.ty v)))
  both_sound o j k m n t h g kind blocks =
      subst (λ p. HasKind p (bind (m.way want.Value blocks)
      (λ v. bind (n.way want.Value blocks) (applied arith structs blocks o m.ty n.ty v))))
      (sym (kind ∙ ap (λ (x : Ty). one_of (is_pointer x) (is_pointer k.ty)) (sym h.same) ∙
      ap (λ (x : Ty). one_of (is_pointer m.ty) (is_pointer x)) (sym g.same)))
      (bind_kind (one_of (is_pointer m.ty) (is_pointer n.ty)) (m.way want.Value blocks)
      (λ v. bind (n.way want.Value blocks) (applied arith structs blocks o m.ty n.ty v)) (λ v.
      bind_kind (one_of (is_pointer m.ty) (is_pointer n.ty)) (n.way want.Value blocks)
      (applied arith structs blocks o m.ty n.ty v) (λ w.
      applied_kind arith structs blocks o m.ty n.ty v w)))

  choose_kind : (pointer : Bool) (v : Value) (r r' : Result Value Cause) → HasKind pointer r → HasKind pointer r' →
      HasKind pointer (choose v r r')
  choose_kind pointer v r r' h k = if_kind pointer (is_true v) r r' h k

  binary_sound : (o : BinaryOp) (j k : Judged) (m n : Meant) (t : Ty) → Sound j m → Sound k n →
      binary_fits o j k t ≡ true → (blocks : Blocks) → HasKind (is_pointer t) (binary arith structs o m n blocks)
  binary_sound op.AndAlso j k m n t h g fits = λ blocks.
      subst (λ p. HasKind p (binary arith structs op.AndAlso m n blocks))
      (sym (int_kind t (and_rest (is_scalar k) _ (and_rest (is_scalar j) _ fits))))
      (bind_kind false (m.way want.Value blocks) (λ v.
      choose v (bind (n.way want.Value blocks) (λ w. Ok (of_bool (is_true w)))) (Ok (Word 0))) (λ v.
      choose_kind false v (bind (n.way want.Value blocks) (λ w. Ok (of_bool (is_true w)))) (Ok (Word 0))
      (bind_kind false (n.way want.Value blocks) (λ w. Ok (of_bool (is_true w)))
      (λ w. ok_kind false (of_bool (is_true w)) refl)) (ok_kind false (Word 0) refl)))
  binary_sound op.OrElse j k m n t h g fits = λ blocks.
      subst (λ p. HasKind p (binary arith structs op.OrElse m n blocks))
      (sym (int_kind t (and_rest (is_scalar k) _ (and_rest (is_scalar j) _ fits))))
      (bind_kind false (m.way want.Value blocks) (λ v.
      choose v (Ok (Word 1)) (bind (n.way want.Value blocks) (λ w. Ok (of_bool (is_true w))))) (λ v.
      choose_kind false v (Ok (Word 1)) (bind (n.way want.Value blocks) (λ w. Ok (of_bool (is_true w))))
      (ok_kind false (Word 1) refl) (bind_kind false (n.way want.Value blocks) (λ w. Ok (of_bool (is_true w)))
      (λ w. ok_kind false (of_bool (is_true w)) refl))))
  binary_sound op.Equal j k m n t h g fits = both_sound op.Equal j k m n t h g (equal_result j k t fits)
  binary_sound op.NotEqual j k m n t h g fits = both_sound op.NotEqual j k m n t h g (equal_result j k t fits)
  binary_sound op.Less j k m n t h g fits = both_sound op.Less j k m n t h g (order_result j k t fits)
  binary_sound op.Greater j k m n t h g fits = both_sound op.Greater j k m n t h g (order_result j k t fits)
  binary_sound op.LessEqual j k m n t h g fits = both_sound op.LessEqual j k m n t h g (order_result j k t fits)
  binary_sound op.GreaterEqual j k m n t h g fits = both_sound op.GreaterEqual j k m n t h g (order_result j k t fits)
  binary_sound op.ShiftLeft j k m n t h g fits = both_sound op.ShiftLeft j k m n t h g (shift_result j k t fits)
  binary_sound op.ShiftRight j k m n t h g fits = both_sound op.ShiftRight j k m n t h g (shift_result j k t fits)
  binary_sound op.Add j k m n t h g fits = both_sound op.Add j k m n t h g (sum_kind j k t fits)
  binary_sound op.Sub j k m n t h g fits = both_sound op.Sub j k m n t h g (difference_kind j k t fits)
  binary_sound op.BitOr j k m n t h g fits = both_sound op.BitOr j k m n t h g (word_result j k t fits)
  binary_sound op.BitXor j k m n t h g fits = both_sound op.BitXor j k m n t h g (word_result j k t fits)
  binary_sound op.BitAnd j k m n t h g fits = both_sound op.BitAnd j k m n t h g (word_result j k t fits)
  binary_sound op.Mul j k m n t h g fits = both_sound op.Mul j k m n t h g (word_result j k t fits)
  binary_sound op.Div j k m n t h g fits = both_sound op.Div j k m n t h g (word_result j k t fits)
  binary_sound op.Rem j k m n t h g fits = both_sound op.Rem j k m n t h g (word_result j k t fits)

  term_sound : (t : Ty) (k : TypedKind-F TypedKind TypedExpr) → Under IsSound k → Sound (judged_at t k) (meant_at t k)
  term_sound t (term.Literal word) h =
      value_sound (judged_at t (term.Literal word)) (meant_at t (term.Literal word)) refl refl
      (λ fits blocks. ok_kind (is_pointer t) (literal t word) (literal_kind t word))
  term_sound t (term.Variable v) h =
      place_sound (judged_at t (term.Variable v)) (λ blocks. Ok (variable_at here params v))
      (λ fits blocks. ok_kind true (variable_at here params v) refl)
  term_sound t (term.Unary o a) h =
      value_sound (judged_at t (term.Unary o a)) (meant_at t (term.Unary o a)) refl refl
      (λ fits blocks. unary_sound o (judged scope a) (meant arith structs here params a) t h fits blocks)
  term_sound t (term.Binary o a b) h =
      value_sound (judged_at t (term.Binary o a b)) (meant_at t (term.Binary o a b)) refl refl
      (λ fits blocks. binary_sound o (judged scope a) (judged scope b) (meant arith structs here params a)
      (meant arith structs here params b) t h.0 h.1 fits blocks)
  term_sound t (term.Index a b) h =
      let ma = meant arith structs here params a in
      let mb = meant arith structs here params b in
      place_sound (judged_at t (term.Index a b)) (λ blocks.
      bind (ma.way want.Value blocks) (λ v. bind (mb.way want.Value blocks)
      (at_pointer structs blocks op.Add ma.ty mb.ty v))) (λ fits blocks.
      bind_kind true (ma.way want.Value blocks) (λ v.
      bind (mb.way want.Value blocks) (at_pointer structs blocks op.Add ma.ty mb.ty v)) (λ v.
      bind_kind true (mb.way want.Value blocks) (at_pointer structs blocks op.Add ma.ty mb.ty v)
      (λ w. pointer_kind structs blocks op.Add ma.ty mb.ty v w)))
  term_sound t (term.Member a offset) h =
      let ma = meant arith structs here params a in
      place_sound (judged_at t (term.Member a offset))
      (λ blocks. bind (ma.way want.Place blocks) (moved blocks (pos offset)))
      (λ fits blocks. bind_kind true (ma.way want.Place blocks) (moved blocks (pos offset))
      (λ q. moved_kind blocks (pos offset) q))
  term_sound t (term.Arrow a offset) h =
      let ma = meant arith structs here params a in
      place_sound (judged_at t (term.Arrow a offset))
      (λ blocks. bind (ma.way want.Value blocks) (moved blocks (pos offset)))
      (λ fits blocks. bind_kind true (ma.way want.Value blocks) (moved blocks (pos offset))
      (λ q. moved_kind blocks (pos offset) q))
  term_sound t (term.Deref a) h =
      let ja = judged scope a in
      place_sound (judged_at t (term.Deref a)) ((meant arith structs here params a).way want.Value) (λ fits blocks.
      subst (λ p. HasKind p ((meant arith structs here params a).way want.Value blocks))
      (address_kind ja (and_first (is_address ja) _ fits))
      (h.value (address_fits ja (and_first (is_address ja) _ fits)) blocks))
  term_sound t (term.Address a) h =
      let ja = judged scope a in
      value_sound (judged_at t (term.Address a)) (meant_at t (term.Address a)) refl refl (λ fits blocks.
      subst (λ p. HasKind p ((meant arith structs here params a).way want.Place blocks))
      (sym (reached_kind ja.ty t (and_rest ja.place _ (and_rest ja.fits _ fits))))
      (h.place (and_first ja.fits _ fits) (and_first ja.place _ (and_rest ja.fits _ fits)) blocks))
  term_sound t (term.SizeOf cells) h =
      value_sound (judged_at t (term.SizeOf cells)) (meant_at t (term.SizeOf cells)) refl refl (λ fits blocks.
      subst (λ p. HasKind p (Ok (Word (4 * cells % 2 ^ 32))))
      (sym (same_kind t ty.Unsigned (and_rest (nat_le cells most_cells) _ fits)))
      (ok_kind false (Word (4 * cells % 2 ^ 32)) refl))

  pub sound : (e : TypedExpr) → IsSound e
  sound =
      expr_induction IsSound (λ t k h. subst (λ j. Sound j (meant arith structs here params (typed t k)))
      (sym (expr_at _ _ (term_judged scope) (λ e. e.kind e.ty) t k))
      (subst (Sound (judged_at t k)) (sym (expr_at _ _ (term_step arith structs here params) meant_step t k))
      (term_sound t k h)))

  pub value_kind : (e : TypedExpr) → (judged scope e).fits ≡ true → (blocks : Blocks) →
      HasKind (is_pointer e.ty) (ways arith structs here params e want.Value blocks)
  value_kind e fits blocks =
      subst (λ t. HasKind (is_pointer t) (ways arith structs here params e want.Value blocks)) (judged_ty scope e)
      ((sound e).value fits blocks)
