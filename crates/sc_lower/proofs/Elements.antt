-- What an address of a well-typed program points to has a cell at least, and few.
use Rattle.sc_lower.proofs.Common.{BaseTy, BinaryOp, Bool, Global, Judged, List, Local, None, Option, Param, Scope}
use Rattle.sc_lower.proofs.Common.{Some, Ty, TypedExpr, TypedFunction, TypedGlobal, TypedKind, TypedKind-F, TypedLocal}
use Rattle.sc_lower.proofs.Common.{TypedParam, TypedSection, TypedStruct, UnaryOp, Under, VarRef, [], address_fits}
use Rattle.sc_lower.proofs.Common.{and_first, and_from, and_rest, ap, are_equatable, are_ordered, arith as numbers}
use Rattle.sc_lower.proofs.Common.{base_cells, base_within, binary_fits, both_ints, cells_of, common, counts_elements}
use Rattle.sc_lower.proofs.Common.{decayed, difference_fits, either, eqb-true, expr_at, expr_induction, false}
use Rattle.sc_lower.proofs.Common.{false≢true, global_fits, has_member, is_address, is_array, is_int, is_integer}
use Rattle.sc_lower.proofs.Common.{is_pointer, is_scalar, is_type, judged, judged_ty, leb-true, length, list_all}
use Rattle.sc_lower.proofs.Common.{list_any, literal_fits, local_fits, lt-ltb, ltb-false, ltb-true, map, member_of}
use Rattle.sc_lower.proofs.Common.{members_fit, most_cells, nat_le, nat_lt, not, not-true, passed_fits, pointer_to}
use Rattle.sc_lower.proofs.Common.{points, refl, same_base, same_pointers, same_ty, scope_of, slice_get, starred}
use Rattle.sc_lower.proofs.Common.{starred_cells, starred_within, struct_cells, struct_fits, structs_fit, subst, suc}
use Rattle.sc_lower.proofs.Common.{sum_fits, sym, target, target_cells, term_judged, term_of, true, type_within}
use Rattle.sc_lower.proofs.Common.{unary_fits, variable_fits, variable_ty, zero, ℕ, ◌&&◌, ◌*◌, ◌+◌, ◌-◌, ◌<◌, ◌==◌, ◌^◌}
use Rattle.sc_lower.proofs.Common.{◌||◌, ◌∙◌, ◌∷◌, ◌≡◌, ◌≤◌}
use Rattle.std.proofs.Math.Nat.{mul-pos}
use Rattle.sc_base.specs.declared.op.BinaryOp.TheVariants as op
use Rattle.sc_base.specs.declared.op.UnaryOp.TheVariants as unary
use Rattle.sc_core.specs.declared.expr.TypedKind.TheOpen as term
use Rattle.sc_core.specs.declared.section.TypedMember.{TypedMember}
use Rattle.sc_core.specs.declared.ty.BaseTy.TheVariants as base
use Rattle.sc_core.specs.declared.ty.Ty.TheVariants as ty
use Rattle.sc_tac.specs.declared.stmt.TacOp.TheVariants as tacop
use Rattle.sc_lower.proofs.Tests.{PointsToElements}

-- TYPES OVER THE FIRST STRUCTS
-- a type, and what it points to, is over the first `count` structs
abbrev known : ℕ → Ty → Bool
known count ty.Int = true
known count ty.Unsigned = true
known count (ty.Struct n) = nat_lt n count
known count (ty.Pointer stars base) = base_within count base
known count (ty.Array stars base length) = base_within count base

module _ (count : ℕ) where
  base_same : (a b : BaseTy) → same_base a b ≡ true → base_within count a ≡ base_within count b
  base_same base.Int base.Int h = refl
  base_same base.Int base.Unsigned h = absurd (false≢true h)
  base_same base.Int (base.Struct k) h = absurd (false≢true h)
  base_same base.Unsigned base.Int h = absurd (false≢true h)
  base_same base.Unsigned base.Unsigned h = refl
  base_same base.Unsigned (base.Struct k) h = absurd (false≢true h)
  base_same (base.Struct m) base.Int h = absurd (false≢true h)
  base_same (base.Struct m) base.Unsigned h = absurd (false≢true h)
  base_same (base.Struct m) (base.Struct k) h = ap (λ (i : ℕ). nat_lt i count) (eqb-true m k h)

  same_known : (a b : Ty) → same_ty a b ≡ true → known count a ≡ known count b
  same_known ty.Int ty.Int h = refl
  same_known ty.Int ty.Unsigned h = absurd (false≢true h)
  same_known ty.Int (ty.Struct k) h = absurd (false≢true h)
  same_known ty.Int (ty.Pointer j b) h = absurd (false≢true h)
  same_known ty.Int (ty.Array j b o) h = absurd (false≢true h)
  same_known ty.Unsigned ty.Int h = absurd (false≢true h)
  same_known ty.Unsigned ty.Unsigned h = refl
  same_known ty.Unsigned (ty.Struct k) h = absurd (false≢true h)
  same_known ty.Unsigned (ty.Pointer j b) h = absurd (false≢true h)
  same_known ty.Unsigned (ty.Array j b o) h = absurd (false≢true h)
  same_known (ty.Struct m) ty.Int h = absurd (false≢true h)
  same_known (ty.Struct m) ty.Unsigned h = absurd (false≢true h)
  same_known (ty.Struct m) (ty.Struct k) h = ap (λ (i : ℕ). nat_lt i count) (eqb-true m k h)
  same_known (ty.Struct m) (ty.Pointer j b) h = absurd (false≢true h)
  same_known (ty.Struct m) (ty.Array j b o) h = absurd (false≢true h)
  same_known (ty.Pointer i a) ty.Int h = absurd (false≢true h)
  same_known (ty.Pointer i a) ty.Unsigned h = absurd (false≢true h)
  same_known (ty.Pointer i a) (ty.Struct k) h = absurd (false≢true h)
  same_known (ty.Pointer i a) (ty.Pointer j b) h = base_same a b (and_rest (i == j) _ h)
  same_known (ty.Pointer i a) (ty.Array j b o) h = absurd (false≢true h)
  same_known (ty.Array i a n) ty.Int h = absurd (false≢true h)
  same_known (ty.Array i a n) ty.Unsigned h = absurd (false≢true h)
  same_known (ty.Array i a n) (ty.Struct k) h = absurd (false≢true h)
  same_known (ty.Array i a n) (ty.Pointer j b) h = absurd (false≢true h)
  same_known (ty.Array i a n) (ty.Array j b o) h = base_same a b (and_first (same_base a b) _ (and_rest (i == j) _ h))

  base_up : (k : ℕ) (b : BaseTy) → k ≤ count → base_within k b ≡ true → base_within count b ≡ true
  base_up k base.Int le h = refl
  base_up k base.Unsigned le h = refl
  base_up k (base.Struct n) le h = lt-ltb n count (omega (numbers, ltb-true n k h, le))

  starred_up : (whole pointed stars : ℕ) (b : BaseTy) → whole ≤ count → pointed ≤ count →
      starred_within whole pointed stars b ≡ true → base_within count b ≡ true
  starred_up whole pointed zero b le pe h = base_up whole b le h
  starred_up whole pointed (suc stars) b le pe h = base_up pointed b pe h

  within_known : (whole pointed : ℕ) (t : Ty) → whole ≤ count → pointed ≤ count → type_within whole pointed t ≡ true →
      known count t ≡ true
  within_known whole pointed ty.Int le pe h = refl
  within_known whole pointed ty.Unsigned le pe h = refl
  within_known whole pointed (ty.Struct n) le pe h = lt-ltb n count (omega (numbers, ltb-true n whole h, le))
  within_known whole pointed (ty.Pointer stars b) le pe h = base_up pointed b pe (and_rest (nat_le 1 stars) _ h)
  within_known whole pointed (ty.Array stars b length) le pe h =
      starred_up whole pointed stars b le pe (and_rest (nat_le 1 length) _ h)

  starred_known : (stars : ℕ) (b : BaseTy) → base_within count b ≡ true → known count (starred stars b) ≡ true
  starred_known zero base.Int h = refl
  starred_known zero base.Unsigned h = refl
  starred_known zero (base.Struct n) h = h
  starred_known (suc stars) b h = h

  decayed_known : (t : Ty) → known count (decayed t) ≡ known count t
  decayed_known ty.Int = refl
  decayed_known ty.Unsigned = refl
  decayed_known (ty.Struct n) = refl
  decayed_known (ty.Pointer stars b) = refl
  decayed_known (ty.Array stars b length) = refl

  target_known : (a t : Ty) → known count a ≡ true → is_type (target (decayed a)) t ≡ true → known count t ≡ true
  target_known ty.Int t k h = absurd (false≢true h)
  target_known ty.Unsigned t k h = absurd (false≢true h)
  target_known (ty.Struct n) t k h = absurd (false≢true h)
  target_known (ty.Pointer stars b) t k h = sym (same_known (starred _ b) t h) ∙ starred_known _ b k
  target_known (ty.Array stars b length) t k h = sym (same_known (starred _ b) t h) ∙ starred_known _ b k

  pointer_known : (a t : Ty) → known count a ≡ true → is_type (pointer_to a) t ≡ true → known count t ≡ true
  pointer_known ty.Int t k h = sym (same_known (ty.Pointer 1 base.Int) t h)
  pointer_known ty.Unsigned t k h = sym (same_known (ty.Pointer 1 base.Unsigned) t h)
  pointer_known (ty.Struct n) t k h = sym (same_known (ty.Pointer 1 (base.Struct n)) t h) ∙ k
  pointer_known (ty.Pointer stars b) t k h = sym (same_known (ty.Pointer (suc stars) b) t h) ∙ k
  pointer_known (ty.Array stars b length) t k h = absurd (false≢true h)

  integer_known : (t : Ty) → is_integer t ≡ true → known count t ≡ true
  integer_known ty.Int h = refl
  integer_known ty.Unsigned h = refl
  integer_known (ty.Struct n) h = absurd (false≢true h)
  integer_known (ty.Pointer stars b) h = absurd (false≢true h)
  integer_known (ty.Array stars b length) h = absurd (false≢true h)

  common_known : (a b : Ty) → is_integer a ≡ true → known count (common a b) ≡ true
  common_known ty.Int ty.Int h = refl
  common_known ty.Int ty.Unsigned h = refl
  common_known ty.Int (ty.Struct n) h = refl
  common_known ty.Int (ty.Pointer stars b) h = refl
  common_known ty.Int (ty.Array stars b length) h = refl
  common_known ty.Unsigned b h = refl
  common_known (ty.Struct n) b h = absurd (false≢true h)
  common_known (ty.Pointer stars a) b h = absurd (false≢true h)
  common_known (ty.Array stars a length) b h = absurd (false≢true h)

  literal_known : (t : Ty) (word : ℕ) → literal_fits word t ≡ true → is_pointer t ≡ false → known count t ≡ true
  literal_known ty.Int word h none = refl
  literal_known ty.Unsigned word h none = refl
  literal_known (ty.Struct n) word h none = absurd (false≢true h)
  literal_known (ty.Pointer stars b) word h none = absurd (false≢true (sym none))
  literal_known (ty.Array stars b length) word h none = absurd (false≢true h)

  -- EXPRESSIONS
  -- what fits has a known type, but for null pointers, which are no places
  record Known (j : Judged) : Type 0 where
    pub typed : j.fits ≡ true → j.null ≡ false → known count j.ty ≡ true
    pub no_null : j.place ≡ true → j.null ≡ false

  value_known : (t : Ty) (fits : Bool) → (fits ≡ true → known count t ≡ true) →
      Known (record { ty = t; fits = fits; place = false; null = false })
  value_known t fits h = record { typed = λ fit none. h fit; no_null = λ place. absurd (false≢true place) }

  place_known : (t : Ty) (fits : Bool) → (fits ≡ true → known count t ≡ true) →
      Known (record { ty = t; fits = fits; place = true; null = false })
  place_known t fits h = record { typed = λ fit none. h fit; no_null = λ place. refl }

  address_known : (j : Judged) → Known j → is_address j ≡ true → known count j.ty ≡ true
  address_known j h is = h.typed (address_fits j is) (not-true j.null (and_rest (points j) _ is))

  int_known : (j : Judged) → is_int j ≡ true → known count j.ty ≡ true
  int_known j is = integer_known j.ty (and_rest j.fits _ is)

  word : (a b : Judged) (t : Ty) → (both_ints a b && same_ty t (common a.ty b.ty)) ≡ true → known count t ≡ true
  word a b t h =
      same_known t (common a.ty b.ty) (and_rest (both_ints a b) _ h)
      ∙ common_known a.ty b.ty (and_rest a.fits _ (and_first (is_int a) _ (and_first (both_ints a b) _ h)))

  -- a pointer that is moved
  moved : (a : Judged) (t : Ty) → Known a → is_address a ≡ true → same_ty t (decayed a.ty) ≡ true → known count t ≡ true
  moved a t h is same = same_known t (decayed a.ty) same ∙ decayed_known a.ty ∙ address_known a h is

  unary_known : (o : UnaryOp) (a : Judged) (t : Ty) → unary_fits o a t ≡ true → known count t ≡ true
  unary_known unary.Not a t h = same_known t ty.Int (and_rest (is_scalar a) _ h)
  unary_known unary.Minus a t h = same_known t a.ty (and_rest (is_int a) _ h) ∙ int_known a (and_first (is_int a) _ h)
  unary_known unary.Plus a t h = same_known t a.ty (and_rest (is_int a) _ h) ∙ int_known a (and_first (is_int a) _ h)
  unary_known unary.BitNot a t h = same_known t a.ty (and_rest (is_int a) _ h) ∙ int_known a (and_first (is_int a) _ h)

  sum_known : (a b : Judged) (t : Ty) → Known a → Known b → sum_fits a b t ≡ true → known count t ≡ true
  sum_known a b t ha hb h =
      let A : Bool = both_ints a b && same_ty t (common a.ty b.ty) in
      let B : Bool = is_address a && (is_int b && same_ty t (decayed a.ty)) in
      either (A || B) (is_int a && (is_address b && same_ty t (decayed b.ty))) h
      (λ k. either A B k (word a b t) (λ k. moved a t ha (and_first (is_address a) _ k)
      (and_rest (is_int b) _ (and_rest (is_address a) _ k))))
      (λ k. moved b t hb (and_first (is_address b) _ (and_rest (is_int a) _ k))
      (and_rest (is_address b) _ (and_rest (is_int a) _ k)))

  difference_known : (a b : Judged) (t : Ty) → Known a → difference_fits a b t ≡ true → known count t ≡ true
  difference_known a b t ha h =
      let A : Bool = both_ints a b && same_ty t (common a.ty b.ty) in
      let B : Bool = is_address a && (is_int b && same_ty t (decayed a.ty)) in
      either (A || B) (is_address a && (is_address b && (same_pointers a b && same_ty t ty.Int))) h
      (λ k. either A B k (word a b t) (λ k. moved a t ha (and_first (is_address a) _ k)
      (and_rest (is_int b) _ (and_rest (is_address a) _ k))))
      (λ k. same_known t ty.Int (and_rest (same_pointers a b) _ (and_rest (is_address b) _ (and_rest (is_address a)
      _ k))))

  binary_known : (o : BinaryOp) (a b : Judged) (t : Ty) → Known a → Known b → binary_fits o a b t ≡ true →
      known count t ≡ true
  binary_known op.OrElse a b t ha hb h = same_known t ty.Int (and_rest (is_scalar b) _ (and_rest (is_scalar a) _ h))
  binary_known op.AndAlso a b t ha hb h = same_known t ty.Int (and_rest (is_scalar b) _ (and_rest (is_scalar a) _ h))
  binary_known op.Equal a b t ha hb h = same_known t ty.Int (and_rest (are_equatable a b) _ h)
  binary_known op.NotEqual a b t ha hb h = same_known t ty.Int (and_rest (are_equatable a b) _ h)
  binary_known op.Less a b t ha hb h = same_known t ty.Int (and_rest (are_ordered a b) _ h)
  binary_known op.Greater a b t ha hb h = same_known t ty.Int (and_rest (are_ordered a b) _ h)
  binary_known op.LessEqual a b t ha hb h = same_known t ty.Int (and_rest (are_ordered a b) _ h)
  binary_known op.GreaterEqual a b t ha hb h = same_known t ty.Int (and_rest (are_ordered a b) _ h)
  binary_known op.BitOr a b t ha hb h = word a b t h
  binary_known op.BitXor a b t ha hb h = word a b t h
  binary_known op.BitAnd a b t ha hb h = word a b t h
  binary_known op.Mul a b t ha hb h = word a b t h
  binary_known op.Div a b t ha hb h = word a b t h
  binary_known op.Rem a b t ha hb h = word a b t h
  binary_known op.ShiftLeft a b t ha hb h =
      same_known t a.ty (and_rest (both_ints a b) _ h) ∙ int_known a (and_first (is_int a) _ (and_first (both_ints a b)
      _ h))
  binary_known op.ShiftRight a b t ha hb h =
      same_known t a.ty (and_rest (both_ints a b) _ h) ∙ int_known a (and_first (is_int a) _ (and_first (both_ints a b)
      _ h))
  binary_known op.Add a b t ha hb h = sum_known a b t ha hb h
  binary_known op.Sub a b t ha hb h = difference_known a b t ha h

  module _ (scope : Scope)
      (variables : (v : VarRef) (t : Ty) → is_type (variable_ty scope v) t ≡ true → known count t ≡ true)
      (members : (struct : Option Ty) (offset : ℕ) (t : Ty) → member_of scope struct offset t ≡ true → known count t
      ≡ true) where
    abbrev P : TypedExpr → Type 0
    P e = Known (judged scope e)

    level : (t : Ty) (k : TypedKind-F TypedKind TypedExpr) → Under P k →
        Known (term_of _ _ (term_judged scope) (λ e. e.kind e.ty) k t)
    level t (term.Literal n) h =
        record { typed = λ fit none. literal_known t n fit none; no_null = λ place. absurd (false≢true place) }
    level t (term.Variable v) h = place_known t _ (variables v t)
    level t (term.Unary o a) h = value_known t _ (unary_known o (judged scope a) t)
    level t (term.Binary o a b) h = value_known t _ (binary_known o (judged scope a) (judged scope b) t h.0 h.1)
    level t (term.Index a b) h =
        let j = judged scope a in
        place_known t _ (λ fit. target_known j.ty t (address_known j h.0 (and_first (is_address j) _ fit))
        (and_rest (is_int (judged scope b)) _ (and_rest (is_address j) _ fit)))
    level t (term.Member a offset) h =
        let j = judged scope a in
        place_known t _ (λ fit. members (Some j.ty) offset t (and_rest j.place _ (and_rest j.fits _ fit)))
    level t (term.Arrow a offset) h =
        let j = judged scope a in
        place_known t _ (λ fit. members (target (decayed j.ty)) offset t (and_rest (is_address j) _ fit))
    level t (term.Deref a) h =
        let j = judged scope a in
        place_known t _ (λ fit. target_known j.ty t (address_known j h (and_first (is_address j) _ fit))
        (and_rest (is_address j) _ fit))
    level t (term.SizeOf cells) h =
        value_known t _ (λ fit. same_known t ty.Unsigned (and_rest (nat_le cells most_cells) _ fit))
    level t (term.Address a) h =
        let j = judged scope a in
        value_known t _ (λ fit.
        let following = and_rest j.fits _ fit in
        pointer_known j.ty t (h.typed (and_first j.fits _ fit) (h.no_null (and_first j.place _ following)))
        (and_rest j.place _ following))

    expr_known : (e : TypedExpr) → P e
    expr_known = expr_induction P (λ t k h. subst Known (sym (expr_at _ _ (term_judged scope) (λ e. e.kind e.ty) t k))
        (level t k h))

-- CELLS
record Item (structs : List TypedStruct) (n : ℕ) : Type 0 where
  pub item : TypedStruct
  pub is : slice_get structs n ≡ Some item

item_at : (structs : List TypedStruct) (n : ℕ) → n < length structs → Item structs n
item_at [] n lt = absurd (omega (numbers, lt))
item_at (x ∷ xs) zero lt = record { item = x; is = refl }
item_at (x ∷ xs) (suc n) lt = let rest = item_at xs n (omega (numbers, lt)) in record { item = rest.item; is = rest.is }

below : (structs : List TypedStruct) (n : ℕ) (s : TypedStruct) → slice_get structs n ≡ Some s → n < length structs
below [] n s is = absurd (cc)
below (x ∷ xs) zero s is = omega numbers
below (x ∷ xs) (suc n) s is = omega (numbers, below xs n s is)

counted : (cells : ℕ) → 1 ≤ cells → cells ≤ most_cells → counts_elements (tacop.PointerDifference cells) ≡ true
counted cells some few =
    and_from _ _ (lt-ltb 0 cells (omega (numbers, some))) (lt-ltb cells (2 ^ 29) (by cells few)) where
      by : (c : ℕ) → c ≤ most_cells → c < 536870912
      by c h = omega (numbers, h)

module _ (structs : List TypedStruct) where
  -- the first structs have a cell at least
  abbrev Filled : ℕ → Type 0
  Filled k = (n : ℕ) → n < k → 1 ≤ struct_cells (slice_get structs n)

  module _ (k : ℕ) (filled : Filled k) where
    base_filled : (b : BaseTy) → base_within k b ≡ true → 1 ≤ base_cells structs b
    base_filled base.Int h = omega numbers
    base_filled base.Unsigned h = omega numbers
    base_filled (base.Struct n) h = filled n (ltb-true n k h)

    starred_filled : (pointed stars : ℕ) (b : BaseTy) → starred_within k pointed stars b ≡ true →
        1 ≤ starred_cells structs stars b
    starred_filled pointed zero b h = base_filled b h
    starred_filled pointed (suc stars) b h = omega numbers

    type_filled : (t : Ty) → type_within k (suc k) t ≡ true → 1 ≤ cells_of structs t
    type_filled ty.Int h = omega numbers
    type_filled ty.Unsigned h = omega numbers
    type_filled (ty.Struct n) h = filled n (ltb-true n k h)
    type_filled (ty.Pointer stars b) h = omega numbers
    type_filled (ty.Array stars b length) h =
        let some : 0 < length = omega (numbers, leb-true 1 length (and_first (nat_le 1 length) _ h)) in
        let cells : 0 < starred_cells structs stars b =
        omega (numbers, starred_filled (suc k) stars b (and_rest (nat_le 1 length) _ h)) in
        let product : 0 < length * starred_cells structs stars b = mul-pos some cells in
        omega (numbers, product)

    members_end : (offset : ℕ) (members : List TypedMember) (end : ℕ) → members_fit structs k offset members end
        ≡ true → offset ≤ end
    members_end offset [] end h = omega (numbers, eqb-true offset end h)
    members_end offset (m ∷ members) end h =
        let rest : offset + cells_of structs m.ty ≤ end =
        members_end (offset + cells_of structs m.ty) members end (and_rest (type_within k (suc k) m.ty)
        _ (and_rest (m.offset == offset) _ h)) in
        omega (numbers, rest)

    members_filled : (members : List TypedMember) (end : ℕ) → nat_le 1 (length members) ≡ true →
        members_fit structs k 0 members end ≡ true → 1 ≤ end
    members_filled [] end some h = absurd (false≢true some)
    members_filled (m ∷ members) end some h =
        let following = and_rest (m.offset == 0) _ h in
        let first : 1 ≤ cells_of structs m.ty = type_filled m.ty (and_first (type_within k (suc k) m.ty) _ following) in
        let rest : 0 + cells_of structs m.ty ≤ end =
        members_end (0 + cells_of structs m.ty) members end (and_rest (type_within k (suc k) m.ty) _ following) in
        omega (numbers, first, rest)

    struct_filled : (s : TypedStruct) → struct_fits structs k s ≡ true → 1 ≤ s.cells
    struct_filled s h =
        members_filled s.members s.cells (and_first (nat_le 1 (length s.members)) _ h)
        (and_first (members_fit structs k 0 s.members s.cells) _ (and_rest (nat_le 1 (length s.members)) _ h))

  struct_few : (k : ℕ) (s : TypedStruct) → struct_fits structs k s ≡ true → s.cells ≤ most_cells
  struct_few k s h =
      leb-true s.cells most_cells (and_rest (members_fit structs k 0 s.members s.cells)
      _ (and_rest (nat_le 1 (length s.members)) _ h))

  struct_at : (k : ℕ) (rest : List TypedStruct) → structs_fit structs k rest ≡ true → (i : ℕ) (s : TypedStruct) →
      slice_get rest i ≡ Some s → struct_fits structs (k + i) s ≡ true
  struct_at k [] h i s is = absurd (cc)
  struct_at k (x ∷ rest) h zero s is =
      let same : x ≡ s = cc in
      let own : k ≡ k + 0 = omega numbers in
      subst (λ j. struct_fits structs j s ≡ true) own (subst (λ z. struct_fits structs k z ≡ true) same
      (and_first (struct_fits structs k x) _ h))
  struct_at k (x ∷ rest) h (suc i) s is =
      let own : suc k + i ≡ k + suc i = omega numbers in
      subst (λ j. struct_fits structs j s ≡ true) own (struct_at (suc k) rest (and_rest (struct_fits structs k x) _ h) i
      s is)

  module _ (fit : structs_fit structs 0 structs ≡ true) where
    abbrev count : ℕ
    count = length structs

    fits_at : (n : ℕ) (s : TypedStruct) → slice_get structs n ≡ Some s → struct_fits structs n s ≡ true
    fits_at n s is =
        let own : 0 + n ≡ n = omega numbers in
        subst (λ j. struct_fits structs j s ≡ true) own (struct_at 0 structs fit n s is)

    one_more : (k : ℕ) → suc k ≤ count → Filled k → Filled (suc k)
    one_more k le before n lt = by (nat_lt n k) refl where
      by : (b : Bool) → nat_lt n k ≡ b → 1 ≤ struct_cells (slice_get structs n)
      by true is = before n (ltb-true n k is)
      by false is =
          let own : k ≡ n = omega (numbers, lt, ltb-false n k is) in
          let found = item_at structs n (omega (numbers, lt, le)) in
          subst (λ o. 1 ≤ struct_cells o) (sym found.is)
          (struct_filled k before found.item
          (subst (λ j. struct_fits structs j found.item ≡ true) (sym own) (fits_at n found.item found.is)))

    filled : (k : ℕ) → k ≤ count → Filled k
    filled zero le = λ n lt. absurd (omega (numbers, lt))
    filled (suc k) le = one_more k le (filled k (omega (numbers, le)))

    base_counted : (b : BaseTy) → base_within count b ≡ true →
        counts_elements (tacop.PointerDifference (base_cells structs b)) ≡ true
    base_counted base.Int h = refl
    base_counted base.Unsigned h = refl
    base_counted (base.Struct n) h =
        let lt : n < count = ltb-true n count h in
        let found = item_at structs n lt in
        counted (struct_cells (slice_get structs n)) (filled count (itself count) n lt)
        (subst (λ o. struct_cells o ≤ most_cells) (sym found.is)
        (struct_few n found.item (fits_at n found.item found.is)))
      where
        itself : (m : ℕ) → m ≤ m
        itself m = omega numbers

    starred_counted : (stars : ℕ) (b : BaseTy) → base_within count b ≡ true →
        counts_elements (tacop.PointerDifference (starred_cells structs stars b)) ≡ true
    starred_counted zero b h = base_counted b h
    starred_counted (suc stars) b h = refl

    target_counted : (t : Ty) → known count t ≡ true → is_pointer t ≡ true →
        counts_elements (tacop.PointerDifference (target_cells structs t)) ≡ true
    target_counted ty.Int k h = absurd (false≢true h)
    target_counted ty.Unsigned k h = absurd (false≢true h)
    target_counted (ty.Struct n) k h = absurd (false≢true h)
    target_counted (ty.Pointer stars b) k h = starred_counted (stars - 1) b k
    target_counted (ty.Array stars b length) k h = starred_counted stars b k

    -- members
    named_known : (k offset : ℕ) (members : List TypedMember) (end at : ℕ) (t : Ty) → k < count →
        members_fit structs k offset members end ≡ true →
        list_any {X = TypedMember} (λ m. m.offset == at && same_ty m.ty t) members ≡ true → known count t ≡ true
    named_known k offset [] end at t lt h any = absurd (false≢true any)
    named_known k offset (m ∷ members) end at t lt h any =
        let following = and_rest (m.offset == offset) _ h in
        either (m.offset == at && same_ty m.ty t) _ any
        (λ is. sym (same_known count m.ty t (and_rest (m.offset == at) _ is))
        ∙ within_known count k (suc k) m.ty (omega (numbers, lt)) (omega (numbers, lt))
        (and_first (type_within k (suc k) m.ty) _ following))
        (named_known k (offset + cells_of structs m.ty) members end at t lt (and_rest (type_within k (suc k) m.ty)
        _ following))

    member_known : (n : ℕ) (o : Option TypedStruct) (offset : ℕ) (t : Ty) → slice_get structs n ≡ o →
        has_member o offset t ≡ true → known count t ≡ true
    member_known n None offset t is h = absurd (false≢true h)
    member_known n (Some s) offset t is h =
        named_known n 0 s.members s.cells offset t (below structs n s is)
        (and_first (members_fit structs n 0 s.members s.cells) _ (and_rest (nat_le 1 (length s.members))
        _ (fits_at n s is))) h

    -- variables
    variable_known : (t : Ty) → variable_fits structs t ≡ true → known count t ≡ true
    variable_known t h =
        within_known count count count t (itself count) (itself count) (and_first (type_within count count t) _ h) where
          itself : (m : ℕ) → m ≤ m
          itself m = omega numbers

    listed : {A : Type 0} (f : A → Ty) (p : A → Bool) → ((x : A) → p x ≡ true → known count (f x) ≡ true) →
        (xs : List A) → list_all p xs ≡ true → (n : ℕ) (t : Ty) → is_type (slice_get (map f xs) n) t ≡ true →
        known count t ≡ true
    listed f p on [] h n t is = absurd (false≢true is)
    listed f p on (x ∷ xs) h zero t is = sym (same_known count (f x) t is) ∙ on x (and_first (p x) _ h)
    listed f p on (x ∷ xs) h (suc n) t is = listed f p on xs (and_rest (p x) _ h) n t is

module _ (section : TypedSection) (f : TypedFunction)
    (structs : structs_fit section.structs 0 section.structs ≡ true)
    (globals : list_all (global_fits section.structs) section.globals ≡ true)
    (params : list_all {X = TypedParam} (λ p. passed_fits section.structs p.ty) f.params ≡ true)
    (locals : list_all (local_fits (scope_of section f)) f.locals ≡ true) where
  abbrev scope : Scope
  scope = scope_of section f

  abbrev all : ℕ
  all = length section.structs

  variables_known : (v : VarRef) (t : Ty) → is_type (variable_ty scope v) t ≡ true → known all t ≡ true
  variables_known (Global n) t is =
      listed section.structs structs {A = TypedGlobal} (λ g. g.ty) (global_fits section.structs)
      (λ g h. variable_known section.structs structs g.ty (and_first (variable_fits section.structs g.ty) _ h))
      section.globals globals n t is
  variables_known (Param n) t is =
      listed section.structs structs {A = TypedParam} (λ p. p.ty) (λ p. passed_fits section.structs p.ty)
      (λ p h. variable_known section.structs structs p.ty (and_rest (not (is_array p.ty)) _ h))
      f.params params n t is
  variables_known (Local n) t is =
      listed section.structs structs {A = TypedLocal} (λ l. l.ty) (local_fits scope)
      (λ l h. variable_known section.structs structs l.ty (and_first (variable_fits section.structs l.ty) _ h))
      f.locals locals n t is

  members_known : (struct : Option Ty) (offset : ℕ) (t : Ty) → member_of scope struct offset t ≡ true → known all t
      ≡ true
  members_known None offset t h = absurd (false≢true h)
  members_known (Some ty.Int) offset t h = absurd (false≢true h)
  members_known (Some ty.Unsigned) offset t h = absurd (false≢true h)
  members_known (Some (ty.Struct n)) offset t h =
      member_known section.structs structs n (slice_get section.structs n) offset t refl h
  members_known (Some (ty.Pointer stars b)) offset t h = absurd (false≢true h)
  members_known (Some (ty.Array stars b length)) offset t h = absurd (false≢true h)

  pub points_to_elements : PointsToElements scope section.structs
  points_to_elements e h =
      let j = judged scope e in
      let pointer = and_rest j.fits _ (and_first (points j) _ h) in
      subst (λ t. counts_elements (tacop.PointerDifference (target_cells section.structs t)) ≡ true)
      (judged_ty scope e)
      (target_counted section.structs structs j.ty (address_known all j (expr_known all scope variables_known
      members_known e) h) pointer)
