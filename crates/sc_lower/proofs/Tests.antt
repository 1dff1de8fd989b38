-- The statements of lowered code pass each test that the statements which are emitted pass.
use Rattle.sc_lower.proofs.Common.{BinaryOp, Bool, Constant, Global, Int, Judged, List, Local, Low, Lowered, Lows, None}
use Rattle.sc_lower.proofs.Common.{Option, Param, Scope, Some, TacOp, TacStmt, TacStmt-F, Ty, TypedExpr, TypedKind}
use Rattle.sc_lower.proofs.Common.{TypedKind-F, TypedStruct, UnaryOp, Under, VarRef, Want, [], address_fits, and_code}
use Rattle.sc_lower.proofs.Common.{and_first, and_from, and_rest, ap, are_equatable, are_ordered, arith as numbers}
use Rattle.sc_lower.proofs.Common.{at_place, between_op, binary, binary_code, binary_fits, both_ints, common}
use Rattle.sc_lower.proofs.Common.{constant_of, count_fits, counts_elements, decayed, difference_fits, either}
use Rattle.sc_lower.proofs.Common.{everywhere, expr_at, expr_induction, false, false≢true, fold-TacStmt}
use Rattle.sc_lower.proofs.Common.{fold-roll-TacStmt, from_first, from_one, from_two, if◌then◌else◌, int_fits}
use Rattle.sc_lower.proofs.Common.{integer_kind, is_address, is_array, is_int, is_machine_word, is_pointer, is_scalar}
use Rattle.sc_lower.proofs.Common.{is_some, is_target, is_type, is_unsigned_op, judged, judged_ty, leb-true, length}
use Rattle.sc_lower.proofs.Common.{literal_fits, loaded, lone, lowered, lowered_step, lt-ltb, malloc_fits, map-TacStmt}
use Rattle.sc_lower.proofs.Common.{member, most_cells, move_op, nat_le, not_op, or_code, place_code, points, refl}
use Rattle.sc_lower.proofs.Common.{replaced, roll-TacStmt, same_pointers, same_ty, scalar_in, scalar_of, size_of}
use Rattle.sc_lower.proofs.Common.{slice_get, subst, suc, sum_fits, sym, takes_two, target, target_cells, term_judged}
use Rattle.sc_lower.proofs.Common.{term_of, term_step, true, truth_code, unary_fits, unary_op, variable_ty, with_parts}
use Rattle.sc_lower.proofs.Common.{zero, ℕ, ◌%◌, ◌&&◌, ◌*◌, ◌++◌, ◌+◌, ◌<◌, ◌==◌, ◌^◌, ◌||◌, ◌∙◌, ◌∷◌, ◌≡◌, ◌≤◌}
use Rattle.sc_lower.proofs.Lowered.{lowered_ty}
use Rattle.sc_base.specs.declared.op.BinaryOp.TheVariants as op
use Rattle.sc_base.specs.declared.op.UnaryOp.TheVariants as unary
use Rattle.sc_core.specs.declared.expr.TypedKind.TheOpen as term
use Rattle.sc_core.specs.declared.ty.Ty.TheVariants as ty
use Rattle.sc_core.specs.declared.value.Want.TheVariants as want
use Rattle.sc_tac.specs.declared.stmt.TacOp.TheVariants as tacop
use Rattle.sc_tac.specs.declared.stmt.TacStmt.TheOpen as tac
use Rattle.sc_tac.specs.declared.stmt.TacStmt.TheVariants as emit

-- WHAT FITS
pub points_fits : (a : Judged) → points a ≡ true → a.fits ≡ true
points_fits a h = and_first a.fits _ h

pub scalar_fits : (a : Judged) → is_scalar a ≡ true → a.fits ≡ true
scalar_fits a h = either (is_int a) (is_address a) h (int_fits a) (address_fits a)

abbrev Fit : Judged → Judged → Type 0
Fit a b = (a.fits ≡ true) × (b.fits ≡ true)

ints_fit : (a b : Judged) → both_ints a b ≡ true → Fit a b
ints_fit a b h = (int_fits a (and_first (is_int a) _ h), int_fits b (and_rest (is_int a) _ h))

equatable_fit : (a b : Judged) → are_equatable a b ≡ true → Fit a b
equatable_fit a b h =
    either (both_ints a b) _ h (ints_fit a b)
    (λ k. (points_fits a (and_first (points a) _ k), points_fits b (and_first (points b) _ (and_rest (points a) _ k))))

ordered_fit : (a b : Judged) → are_ordered a b ≡ true → Fit a b
ordered_fit a b h =
    either (both_ints a b) _ h (ints_fit a b) (λ k. (
      address_fits a (and_first (is_address a) _ k),
      address_fits b
          (and_first (is_address b) _ (and_rest (is_address a) _ k)),
    ))

-- an address and an integer, or an integer and an address
moved_fit : (a b : Judged) (c : Bool) → (is_address a && (is_int b && c)) ≡ true → Fit a b
moved_fit a b c h =
    (address_fits a (and_first (is_address a) _ h), int_fits b (and_first (is_int b) _ (and_rest (is_address a) _ h)))

after_fit : (a b : Judged) (c : Bool) → (is_int a && (is_address b && c)) ≡ true → Fit a b
after_fit a b c h =
    (int_fits a (and_first (is_int a) _ h), address_fits b (and_first (is_address b) _ (and_rest (is_int a) _ h)))

apart_fit : (a b : Judged) (c : Bool) → (is_address a && (is_address b && c)) ≡ true → Fit a b
apart_fit a b c h = (
  address_fits a (and_first (is_address a) _ h),
  address_fits b
      (and_first (is_address b) _ (and_rest (is_address a) _ h)),
)

scalars_fit : (a b : Judged) (c : Bool) → (is_scalar a && (is_scalar b && c)) ≡ true → Fit a b
scalars_fit a b c h = (
  scalar_fits a (and_first (is_scalar a) _ h),
  scalar_fits b
      (and_first (is_scalar b) _ (and_rest (is_scalar a) _ h)),
)

sum_fit : (a b : Judged) (t : Ty) → sum_fits a b t ≡ true → Fit a b
sum_fit a b t h =
    let A : Bool = both_ints a b && same_ty t (common a.ty b.ty) in
    let B : Bool = is_address a && (is_int b && same_ty t (decayed a.ty)) in
    either (A || B) (is_int a && (is_address b && same_ty t (decayed b.ty))) h
    (λ k. either A B k (λ k. ints_fit a b (and_first (both_ints a b) _ k)) (moved_fit a b _)) (after_fit a b _)

difference_fit : (a b : Judged) (t : Ty) → difference_fits a b t ≡ true → Fit a b
difference_fit a b t h =
    let A : Bool = both_ints a b && same_ty t (common a.ty b.ty) in
    let B : Bool = is_address a && (is_int b && same_ty t (decayed a.ty)) in
    either (A || B) (is_address a && (is_address b && (same_pointers a b && same_ty t ty.Int))) h
    (λ k. either A B k (λ k. ints_fit a b (and_first (both_ints a b) _ k)) (moved_fit a b _)) (apart_fit a b _)

pub both_fit : (o : BinaryOp) (a b : Judged) (t : Ty) → binary_fits o a b t ≡ true → Fit a b
both_fit op.OrElse a b t h = scalars_fit a b _ h
both_fit op.AndAlso a b t h = scalars_fit a b _ h
both_fit op.BitOr a b t h = ints_fit a b (and_first (both_ints a b) _ h)
both_fit op.BitXor a b t h = ints_fit a b (and_first (both_ints a b) _ h)
both_fit op.BitAnd a b t h = ints_fit a b (and_first (both_ints a b) _ h)
both_fit op.Equal a b t h = equatable_fit a b (and_first (are_equatable a b) _ h)
both_fit op.NotEqual a b t h = equatable_fit a b (and_first (are_equatable a b) _ h)
both_fit op.Less a b t h = ordered_fit a b (and_first (are_ordered a b) _ h)
both_fit op.Greater a b t h = ordered_fit a b (and_first (are_ordered a b) _ h)
both_fit op.LessEqual a b t h = ordered_fit a b (and_first (are_ordered a b) _ h)
both_fit op.GreaterEqual a b t h = ordered_fit a b (and_first (are_ordered a b) _ h)
both_fit op.ShiftLeft a b t h = ints_fit a b (and_first (both_ints a b) _ h)
both_fit op.ShiftRight a b t h = ints_fit a b (and_first (both_ints a b) _ h)
both_fit op.Add a b t h = sum_fit a b t h
both_fit op.Sub a b t h = difference_fit a b t h
both_fit op.Mul a b t h = ints_fit a b (and_first (both_ints a b) _ h)
both_fit op.Div a b t h = ints_fit a b (and_first (both_ints a b) _ h)
both_fit op.Rem a b t h = ints_fit a b (and_first (both_ints a b) _ h)

pub unary_fit : (o : UnaryOp) (a : Judged) (t : Ty) → unary_fits o a t ≡ true → a.fits ≡ true
unary_fit unary.Not a t h = scalar_fits a (and_first (is_scalar a) _ h)
unary_fit unary.Minus a t h = int_fits a (and_first (is_int a) _ h)
unary_fit unary.Plus a t h = int_fits a (and_first (is_int a) _ h)
unary_fit unary.BitNot a t h = int_fits a (and_first (is_int a) _ h)

-- what is allocated: a place, an integer that counts the elements, and few cells in each
module _ (structs : List TypedStruct) (place : Judged) (count : Option Judged) (cells : ℕ)
    (h : malloc_fits structs place count cells ≡ true) where
  pub malloc_place : is_target place ≡ true
  malloc_place = and_first (is_target place) _ h

  later : (nat_le cells most_cells && count_fits count) ≡ true
  later = and_rest (target_cells structs place.ty == cells) _ (and_rest (is_some (target place.ty)) _
      (and_rest (is_target place) _ h))

  pub malloc_few : nat_le cells most_cells ≡ true
  malloc_few = and_first (nat_le cells most_cells) _ later

  pub malloc_count : count_fits count ≡ true
  malloc_count = and_rest (nat_le cells most_cells) _ later

pub typed_at : (types : List Ty) (i : ℕ) (t : Ty) → is_type (slice_get types i) t ≡ true → i < length types
typed_at [] i t h = absurd (false≢true h)
typed_at (x ∷ xs) zero t h = omega numbers
typed_at (x ∷ xs) (suc i) t h = omega (numbers, typed_at xs i t h)

-- CONSTANTS AND ELEMENTS
-- a literal that fits is a word
literal_word : (t : Ty) (word : ℕ) → literal_fits word t ≡ true → is_machine_word (constant_of t word) ≡ true
literal_word ty.Int word h = lt-ltb word (2 ^ 32) (by word (leb-true word 2147483647 h)) where
  by : (w : ℕ) → w ≤ 2147483647 → w < 4294967296
  by w h = omega (numbers, h)
literal_word ty.Unsigned word h = h
literal_word (ty.Struct n) word h = absurd (false≢true h)
literal_word (ty.Pointer stars base) word h = refl
literal_word (ty.Array stars base length) word h = absurd (false≢true h)

-- a size is a word
size_word : (cells : ℕ) → is_machine_word (size_of cells) ≡ true
size_word cells = lt-ltb (4 * cells % 2 ^ 32) (2 ^ 32) (omega numbers)

-- what each address points to has as many cells as an element may have
abbrev pub PointsToElements : Scope → List TypedStruct → Type 0
PointsToElements scope structs = (e : TypedExpr) → is_address (judged scope e) ≡ true →
    counts_elements (tacop.PointerDifference (target_cells structs e.ty)) ≡ true

-- a difference of a pointer is one of an address
differing_address : (a b : Judged) (t : Ty) → difference_fits a b t ≡ true → is_pointer a.ty ≡ true →
    is_address a ≡ true
differing_address a b t h pointer =
    let A : Bool = both_ints a b && same_ty t (common a.ty b.ty) in
    let B : Bool = is_address a && (is_int b && same_ty t (decayed a.ty)) in
    either (A || B) (is_address a && (is_address b && (same_pointers a b && same_ty t ty.Int))) h
    (λ k. either A B k (λ k. absurd (false≢true (sym (integer_kind a.ty
    (and_rest a.fits _ (and_first (is_int a) _ (and_first (both_ints a b) _ k)))) ∙ pointer)))
    (and_first (is_address a) _)) (and_first (is_address a) _)

module _ (scope : Scope) (structs : List TypedStruct) (elements : PointsToElements scope structs) where
  -- an operator of a pointer that fits
  between_elements : (o : BinaryOp) (a b : TypedExpr) (t : Ty) → binary_fits o (judged scope a) (judged scope b) t
      ≡ true → is_pointer a.ty ≡ true → counts_elements (between_op o (target_cells structs a.ty)) ≡ true
  between_elements op.Sub a b t h pointer =
      elements a (differing_address (judged scope a) (judged scope b) t h
      (ap is_pointer (judged_ty scope a) ∙ pointer))
  between_elements op.OrElse a b t h pointer = refl
  between_elements op.AndAlso a b t h pointer = refl
  between_elements op.BitOr a b t h pointer = refl
  between_elements op.BitXor a b t h pointer = refl
  between_elements op.BitAnd a b t h pointer = refl
  between_elements op.Equal a b t h pointer = refl
  between_elements op.NotEqual a b t h pointer = refl
  between_elements op.Less a b t h pointer = refl
  between_elements op.Greater a b t h pointer = refl
  between_elements op.LessEqual a b t h pointer = refl
  between_elements op.GreaterEqual a b t h pointer = refl
  between_elements op.ShiftLeft a b t h pointer = refl
  between_elements op.ShiftRight a b t h pointer = refl
  between_elements op.Add a b t h pointer = refl
  between_elements op.Mul a b t h pointer = refl
  between_elements op.Div a b t h pointer = refl
  between_elements op.Rem a b t h pointer = refl

-- EVERYWHERE
module _ (test : TacStmt-F Bool → Bool) where
  pub all_append : (xs ys : List TacStmt) → everywhere test xs ≡ true → everywhere test ys ≡ true →
      everywhere test (xs ++ ys) ≡ true
  all_append [] ys h k = k
  all_append (x ∷ xs) ys h k =
      and_from _ _ (and_first (fold-TacStmt Bool (with_parts test) x) _ h)
      (all_append xs ys (and_rest (fold-TacStmt Bool (with_parts test) x) _ h) k)

  -- one statement
  pub all_one : (k : TacStmt-F TacStmt) (c : TacStmt) → roll-TacStmt k ≡ c →
      with_parts test (map-TacStmt _ _ (fold-TacStmt Bool (with_parts test)) k) ≡ true → everywhere test (c ∷ []) ≡ true
  all_one k c is h =
      and_from _ true (ap (fold-TacStmt Bool (with_parts test)) (sym is) ∙ fold-roll-TacStmt Bool (with_parts test) k
      ∙ h) refl

  pub all_after : (c : TacStmt) (ys : List TacStmt) → everywhere test (c ∷ []) ≡ true → everywhere test ys ≡ true →
      everywhere test (c ∷ ys) ≡ true
  all_after c ys h k = all_append (c ∷ []) ys h k

-- a number, if there is one, and numbers below another
abbrev pub Below : ℕ → Option ℕ → Type 0
Below temps None = Unit {0}
Below temps (Some t) = t < temps

abbrev pub AllBelow : ℕ → List ℕ → Type 0
AllBelow temps [] = Unit {0}
AllBelow temps (t ∷ ts) = (t < temps) × AllBelow temps ts

-- a statement that expressions emit, by itself, where they name the variables of a scope and `temps` temporaries
abbrev pub OfExpression : ℕ → Scope → TacStmt-F Bool → Type 0
OfExpression temps scope (tac.Const d c) = (is_machine_word c ≡ true) × (d < temps)
OfExpression temps scope (tac.Op d o x None) = (takes_two o ≡ false) × (d < temps) × (x < temps)
OfExpression temps scope (tac.Op d o x (Some y)) =
    (takes_two o ≡ true) × (counts_elements o ≡ true) × (d < temps) × (x < temps) × (y < temps)
OfExpression temps scope (tac.ObjectPlace d i) = (d < temps) × (i < length scope.params + length scope.locals)
OfExpression temps scope (tac.GlobalPlace d g) = (d < temps) × (g < length scope.globals)
OfExpression temps scope (tac.Load d x b) = (d < temps) × (x < temps)
OfExpression temps scope (tac.If c a b) = c < temps
OfExpression temps scope _ = ⊥

-- a test that each of them passes
abbrev pub PassedBy : ℕ → Scope → (TacStmt-F Bool → Bool) → Type 0
PassedBy temps scope test = (layer : TacStmt-F Bool) → OfExpression temps scope layer → test layer ≡ true

module _ (temps : ℕ) (scope : Scope) (test : TacStmt-F Bool → Bool) (passed : PassedBy temps scope test) where
  pub record Clean (l : Lows) : Type 0 where
    pub above : (n : ℕ) → n ≤ (l n).at
    pub below : (n : ℕ) → (l n).at < (l n).next
    pub passes : (n : ℕ) → (l n).next ≤ temps → everywhere test (l n).code ≡ true

  pub const_passes : (d : ℕ) (c : Constant) → is_machine_word c ≡ true → d < temps →
      everywhere test (emit.Const d c ∷ []) ≡ true
  const_passes d c word lt =
      all_one test (tac.Const d c) (emit.Const d c) (emit.rolls-Const d c) (and_from _ true (passed (tac.Const d c)
      (word, lt)) refl)

  pub one_passes : (d : ℕ) (o : TacOp) (x : ℕ) → takes_two o ≡ false → d < temps → x < temps →
      everywhere test (emit.Op d o x None ∷ []) ≡ true
  one_passes d o x two ld lx = all_one test (tac.Op d o x None) (emit.Op d o x None) (emit.rolls-Op d o x None)
      (and_from _ true (passed (tac.Op d o x None) (two, ld, lx)) refl)

  two_passes : (d : ℕ) (o : TacOp) (x y : ℕ) → takes_two o ≡ true → counts_elements o ≡ true → d < temps →
      x < temps → y < temps → everywhere test (emit.Op d o x (Some y) ∷ []) ≡ true
  two_passes d o x y two cells ld lx ly =
      all_one test (tac.Op d o x (Some y)) (emit.Op d o x (Some y)) (emit.rolls-Op d o x (Some y))
      (and_from _ true (passed (tac.Op d o x (Some y)) (two, cells, ld, lx, ly)) refl)

  pub fork_passes : (c : ℕ) (x y : List TacStmt) → c < temps → everywhere test x ≡ true → everywhere test y ≡ true →
      everywhere test (emit.If c x y ∷ []) ≡ true
  fork_passes c x y lt hx hy =
      all_one test (tac.If c x y) (emit.If c x y) (emit.rolls-If c x y) (and_from _ _ (passed (tac.If c _ _) lt)
      (and_from _ _ hx (and_from _ true hy refl)))

  pub lone_clean : (make : ℕ → TacStmt) → ((d : ℕ) → d < temps → everywhere test (make d ∷ []) ≡ true) →
      Clean (lone make)
  lone_clean make h =
      record { above = λ n. omega numbers; below = λ n. omega numbers; passes = λ n le. h n (omega (numbers, le)) }

  loaded_passes : (t : Ty) (w : Want) (at : ℕ) → at < temps → everywhere test (loaded t w at) ≡ true
  loaded_passes t want.Place at lt = refl
  loaded_passes t want.Value at lt = by (is_array t) where
    by : (b : Bool) → everywhere test (if b then [] else emit.Load at at (is_pointer t) ∷ []) ≡ true
    by true = refl
    by false = all_one test (tac.Load at at (is_pointer t)) (emit.Load at at (is_pointer t))
        (emit.rolls-Load at at (is_pointer t)) (and_from _ true (passed (tac.Load at at (is_pointer t)) (lt, lt)) refl)

  pub replaced_clean : (a : Lows) (last : ℕ → List TacStmt) →
      ((at : ℕ) → at < temps → everywhere test (last at) ≡ true) → Clean a → Clean (replaced a last)
  replaced_clean a last h ha = record {
    above = ha.above;
    below = ha.below;
    passes = λ n le. all_append test (a n).code (last (a n).at) (ha.passes n le)
        (h (a n).at (omega (numbers, ha.below n, le)));
  }

  pub place_clean : (t : Ty) (w : Want) (l : Lows) → Clean l → Clean (at_place t l w)
  place_clean t w l h = replaced_clean l (loaded t w) (loaded_passes t w) h

  from_one_clean : (a : Lows) (make : ℕ → ℕ → TacStmt) →
      ((d x : ℕ) → d < temps → x < temps → everywhere test (make d x ∷ []) ≡ true) → Clean a → Clean (from_one a make)
  from_one_clean a make h ha = record {
    above = λ n. omega (numbers, ha.above n, ha.below n);
    below = λ n. omega numbers;
    passes = λ n le.
        let few : (a n).next ≤ temps = omega (numbers, le) in
        let lt : (a n).at < temps = omega (numbers, few, ha.below n) in
        all_append test (a n).code (make (a n).next (a n).at ∷ []) (ha.passes n few)
        (h (a n).next (a n).at (omega (numbers, le)) lt);
  }

  from_two_clean : (a b : Lows) (make : ℕ → ℕ → ℕ → TacStmt) →
      ((d x y : ℕ) → d < temps → x < temps → y < temps → everywhere test (make d x y ∷ []) ≡ true) → Clean a → Clean b →
      Clean (from_two a b make)
  from_two_clean a b make h ha hb = record {
    above = λ n. omega (numbers, ha.above n, ha.below n, hb.above (a n).next, hb.below (a n).next);
    below = λ n. omega numbers;
    passes = λ n le.
        let y : Low = b (a n).next in
        let few : y.next ≤ temps = omega (numbers, le) in
        let far : (a n).next ≤ y.next = omega (numbers, hb.above (a n).next, hb.below (a n).next) in
        let lt : y.at < temps = omega (numbers, few, hb.below (a n).next) in
        all_append test (a n).code (y.code ++ make y.next (a n).at y.at ∷ []) (ha.passes n (omega (numbers, few, far)))
        (all_append test y.code (make y.next (a n).at y.at ∷ []) (hb.passes (a n).next few)
        (h y.next (a n).at y.at (omega (numbers, le)) (omega (numbers, few, far, ha.below n)) lt));
  }

  from_first_clean : (a b : Lows) (last : ℕ → ℕ → List TacStmt) (make : ℕ → ℕ → List TacStmt → TacStmt) →
      ((d x : ℕ) → d < temps → x < temps → everywhere test (last d x) ≡ true) →
      ((d x : ℕ) (code : List TacStmt) → d < temps → x < temps → everywhere test code ≡ true →
      everywhere test (make d x code ∷ []) ≡ true) →
      Clean a → Clean b → Clean (from_first a b last make)
  from_first_clean a b last make end h ha hb = record {
    above = λ n. omega (numbers, ha.above n, ha.below n, hb.above (a n).next, hb.below (a n).next);
    below = λ n. omega numbers;
    passes = λ n le.
        let y : Low = b (a n).next in
        let far : (a n).next ≤ y.next = omega (numbers, hb.above (a n).next, hb.below (a n).next) in
        all_append test (a n).code (make y.next (a n).at (y.code ++ last y.next y.at) ∷ [])
        (ha.passes n (omega (numbers, le, far)))
        (h y.next (a n).at (y.code ++ last y.next y.at) (omega (numbers, le)) (omega (numbers, le, far, ha.below n))
        (all_append test y.code (last y.next y.at) (hb.passes (a n).next (omega (numbers, le)))
        (end y.next y.at (omega (numbers, le)) (omega (numbers, le, hb.below (a n).next)))));
  }

  not_takes_one : (t : Ty) → takes_two (not_op t) ≡ false
  not_takes_one t = by (is_pointer t) where
    by : (b : Bool) → takes_two (if b then tacop.PointerNot else tacop.Unary unary.Not (scalar_of t)) ≡ false
    by true = refl
    by false = refl

  unary_takes_one : (o : UnaryOp) (t : Ty) → takes_two (unary_op o t) ≡ false
  unary_takes_one unary.Not t = not_takes_one t
  unary_takes_one unary.Minus t = refl
  unary_takes_one unary.Plus t = refl
  unary_takes_one unary.BitNot t = refl

  between_takes_two : (o : BinaryOp) (cells : ℕ) → takes_two (between_op o cells) ≡ true
  between_takes_two op.OrElse cells = refl
  between_takes_two op.AndAlso cells = refl
  between_takes_two op.BitOr cells = refl
  between_takes_two op.BitXor cells = refl
  between_takes_two op.BitAnd cells = refl
  between_takes_two op.Equal cells = refl
  between_takes_two op.NotEqual cells = refl
  between_takes_two op.Less cells = refl
  between_takes_two op.Greater cells = refl
  between_takes_two op.LessEqual cells = refl
  between_takes_two op.GreaterEqual cells = refl
  between_takes_two op.ShiftLeft cells = refl
  between_takes_two op.ShiftRight cells = refl
  between_takes_two op.Add cells = refl
  between_takes_two op.Sub cells = refl
  between_takes_two op.Mul cells = refl
  between_takes_two op.Div cells = refl
  between_takes_two op.Rem cells = refl

  truth_passes : (t : Ty) (d x : ℕ) → d < temps → x < temps → everywhere test (truth_code t d x) ≡ true
  truth_passes t d x ld lx =
      all_after test (emit.Op d (not_op t) x None) (emit.Op d (tacop.Unary unary.Not Int) d None ∷ [])
      (one_passes d (not_op t) x (not_takes_one t) ld lx) (one_passes d (tacop.Unary unary.Not Int) d refl ld ld)

  and_passes : (d x : ℕ) (code : List TacStmt) → d < temps → x < temps → everywhere test code ≡ true →
      everywhere test (and_code d x code ∷ []) ≡ true
  and_passes d x code ld lx h = fork_passes x code _ lx h (const_passes d _ refl ld)

  or_passes : (d x : ℕ) (code : List TacStmt) → d < temps → x < temps → everywhere test code ≡ true →
      everywhere test (or_code d x code ∷ []) ≡ true
  or_passes d x code ld lx h = fork_passes x _ code lx (const_passes d _ refl ld) h

  pub place_passes : (v : VarRef) (t : Ty) → is_type (variable_ty scope v) t ≡ true → (d : ℕ) → d < temps →
      everywhere test (place_code (length scope.params) v d ∷ []) ≡ true
  place_passes (Global g) t h d lt =
      all_one test (tac.GlobalPlace d g) (emit.GlobalPlace d g) (emit.rolls-GlobalPlace d g)
      (and_from _ true (passed (tac.GlobalPlace d g) (lt, typed_at scope.globals g t h)) refl)
  place_passes (Param p) t h d lt =
      all_one test (tac.ObjectPlace d p) (emit.ObjectPlace d p) (emit.rolls-ObjectPlace d p)
      (and_from _ true (passed (tac.ObjectPlace d p) (lt, by (typed_at scope.params p t h))) refl) where
        by : p < length scope.params → p < length scope.params + length scope.locals
        by h = omega (numbers, h)
  place_passes (Local l) t h d lt =
      all_one test (tac.ObjectPlace d (length scope.params + l)) (emit.ObjectPlace d (length scope.params + l))
      (emit.rolls-ObjectPlace d (length scope.params + l))
      (and_from _ true (passed (tac.ObjectPlace d (length scope.params + l)) (
        lt,
        by (typed_at scope.locals l t h),
      )) refl) where
        by : l < length scope.locals → length scope.params + l < length scope.params + length scope.locals
        by h = omega (numbers, h)

  module _ (structs : List TypedStruct) (elements : PointsToElements scope structs) where
    binary_passes : (o : BinaryOp) (left right : Ty) → (is_pointer left ≡ true →
        counts_elements (between_op o (target_cells structs left)) ≡ true) → (d x y : ℕ) → d < temps → x < temps →
        y < temps → everywhere test (binary_code structs o left right d x y ∷ []) ≡ true
    binary_passes o left right cells d x y ld lx ly = by (is_pointer left) (is_pointer right) cells where
      by : (b c : Bool) → (b ≡ true → counts_elements (between_op o (target_cells structs left)) ≡ true) →
          everywhere test
          ((if b then (if c then emit.Op d (between_op o (target_cells structs left)) x (Some y) else emit.Op d
          (move_op structs o left right) x (Some y)) else (if c then emit.Op d (move_op structs o right left) y
          (Some x) else emit.Op d (tacop.Binary o (scalar_in (is_unsigned_op o left right))) x (Some y))) ∷ []) ≡ true
      by true true few =
          two_passes d (between_op o (target_cells structs left)) x y (between_takes_two o (target_cells structs left))
          (few refl) ld lx ly
      by true false few = two_passes d (move_op structs o left right) x y refl refl ld lx ly
      by false true few = two_passes d (move_op structs o right left) y x refl refl ld ly lx
      by false false few =
          two_passes d (tacop.Binary o (scalar_in (is_unsigned_op o left right))) x y refl refl ld lx ly

    -- between two pointers it counts elements, if it subtracts
    abbrev Counts : BinaryOp → Lowered → Type 0
    Counts o a = is_pointer a.ty ≡ true → counts_elements (between_op o (target_cells structs a.ty)) ≡ true

    plain_clean : (o : BinaryOp) (a b : Lowered) → Counts o a → Clean (a.form want.Value) → Clean (b.form want.Value) →
        Clean (from_two (a.form want.Value) (b.form want.Value) (binary_code structs o a.ty b.ty))
    plain_clean o a b cells ha hb = from_two_clean _ _ _ (binary_passes o a.ty b.ty cells) ha hb

    binary_clean : (o : BinaryOp) (a b : Lowered) → Counts o a → Clean (a.form want.Value) →
        Clean (b.form want.Value) → Clean (binary structs o a b)
    binary_clean op.OrElse a b cells ha hb =
        from_first_clean _ _ (truth_code b.ty) or_code (truth_passes b.ty) or_passes ha hb
    binary_clean op.AndAlso a b cells ha hb =
        from_first_clean _ _ (truth_code b.ty) and_code (truth_passes b.ty) and_passes ha hb
    binary_clean op.BitOr a b cells ha hb = plain_clean op.BitOr a b cells ha hb
    binary_clean op.BitXor a b cells ha hb = plain_clean op.BitXor a b cells ha hb
    binary_clean op.BitAnd a b cells ha hb = plain_clean op.BitAnd a b cells ha hb
    binary_clean op.Equal a b cells ha hb = plain_clean op.Equal a b cells ha hb
    binary_clean op.NotEqual a b cells ha hb = plain_clean op.NotEqual a b cells ha hb
    binary_clean op.Less a b cells ha hb = plain_clean op.Less a b cells ha hb
    binary_clean op.Greater a b cells ha hb = plain_clean op.Greater a b cells ha hb
    binary_clean op.LessEqual a b cells ha hb = plain_clean op.LessEqual a b cells ha hb
    binary_clean op.GreaterEqual a b cells ha hb = plain_clean op.GreaterEqual a b cells ha hb
    binary_clean op.ShiftLeft a b cells ha hb = plain_clean op.ShiftLeft a b cells ha hb
    binary_clean op.ShiftRight a b cells ha hb = plain_clean op.ShiftRight a b cells ha hb
    binary_clean op.Add a b cells ha hb = plain_clean op.Add a b cells ha hb
    binary_clean op.Sub a b cells ha hb = plain_clean op.Sub a b cells ha hb
    binary_clean op.Mul a b cells ha hb = plain_clean op.Mul a b cells ha hb
    binary_clean op.Div a b cells ha hb = plain_clean op.Div a b cells ha hb
    binary_clean op.Rem a b cells ha hb = plain_clean op.Rem a b cells ha hb

    member_clean : (offset : ℕ) (l : Lows) → Clean l → Clean (member structs offset l)
    member_clean offset l h = from_one_clean l _ (λ d x ld lx. one_passes d (tacop.PointerMember offset) x refl ld lx) h

    abbrev P : TypedExpr → Type 0
    P e = (judged scope e).fits ≡ true → (w : Want) → Clean ((lowered structs (length scope.params) e).form w)

    level : (t : Ty) (k : TypedKind-F TypedKind TypedExpr) → Under P k →
        (term_of _ _ (term_judged scope) (λ e. e.kind e.ty) k t).fits ≡ true → (w : Want) →
        Clean (term_of _ _ (term_step structs (length scope.params)) lowered_step k t w)
    level t (term.Literal word) h fits w =
        lone_clean _ (λ d lt. const_passes d (constant_of t word) (literal_word t word fits) lt)
    level t (term.Variable v) h fits w =
        place_clean t w _ (lone_clean (place_code (length scope.params) v) (place_passes v t fits))
    level t (term.Unary o a) h fits w =
        from_one_clean _ _ (λ d x ld lx. one_passes d (unary_op o (lowered structs (length scope.params) a).ty) x
        (unary_takes_one o (lowered structs (length scope.params) a).ty) ld lx) (h (unary_fit o (judged scope a) t fits)
        want.Value)
    level t (term.Binary o a b) h fits w =
        let both = both_fit o (judged scope a) (judged scope b) t fits in
        binary_clean o _ _ (subst (λ t. is_pointer t ≡ true → counts_elements (between_op o (target_cells structs t))
        ≡ true) (sym (lowered_ty structs (length scope.params) a))
        (between_elements scope structs elements o a b t fits))
        (h.0 both.0 want.Value) (h.1 both.1 want.Value)
    level t (term.Index a b) h fits w =
        place_clean t w
        _ (from_two_clean _ _ _ (λ d x y ld lx ly. two_passes d
        (move_op structs op.Add (lowered structs (length scope.params) a).ty (lowered structs (length scope.params)
        b).ty) x y refl refl ld lx ly)
        (h.0 (address_fits (judged scope a) (and_first (is_address (judged scope a)) _ fits)) want.Value)
        (h.1 (int_fits (judged scope b) (and_first (is_int (judged scope b)) _ (and_rest (is_address (judged scope a))
        _ fits))) want.Value))
    level t (term.Member a offset) h fits w =
        place_clean t w _ (member_clean offset _ (h (and_first (judged scope a).fits _ fits) want.Place))
    level t (term.Arrow a offset) h fits w =
        place_clean t w
        _ (member_clean offset _ (h (address_fits (judged scope a) (and_first (is_address (judged scope a)) _ fits))
        want.Value))
    level t (term.Deref a) h fits w =
        place_clean t w _ (h (address_fits (judged scope a) (and_first (is_address (judged scope a)) _ fits))
        want.Value)
    level t (term.Address a) h fits w = h (and_first (judged scope a).fits _ fits) want.Place
    level t (term.SizeOf cells) h fits w =
        lone_clean _ (λ d lt. const_passes d (size_of cells) (size_word cells) lt)

    pub expr_clean : (e : TypedExpr) → P e
    expr_clean = expr_induction P (λ t k h fits w.
        subst (λ l. Clean (l.form w)) (sym (expr_at _ _ (term_step structs (length scope.params)) lowered_step t k))
        (level t k h (subst (λ j. j.fits ≡ true) (expr_at _ _ (term_judged scope) (λ e. e.kind e.ty) t k) fits) w))
