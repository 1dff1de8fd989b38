-- Code takes at most a temporary for each node, and weighs at most 24 for each.
use Rattle.sc_lower.proofs.Common.{BinaryOp, Bool, Constant, Global, Int, List, Local, Low, Lowered, Lows, None, Option}
use Rattle.sc_lower.proofs.Common.{Param, Some, TacOp, TacStmt, TacStmt-F, Ty, TypedExpr, TypedKind, TypedKind-F}
use Rattle.sc_lower.proofs.Common.{TypedStruct, Under, VarRef, Want, [], and_code, ap, arith as numbers, at_place}
use Rattle.sc_lower.proofs.Common.{between_op, binary, binary_code, constant_of, expr_at, expr_induction, expr_nodes}
use Rattle.sc_lower.proofs.Common.{false, fold-roll-TacStmt, from_first, from_one, from_two, if◌then◌else◌, is_array}
use Rattle.sc_lower.proofs.Common.{is_pointer, is_unsigned_op, loaded, lone, lowered, lowered_step, map-TacStmt}
use Rattle.sc_lower.proofs.Common.{move_op, not_op, op_weight, or_code, place_code, roll-TacStmt, scalar_in, scalar_of}
use Rattle.sc_lower.proofs.Common.{size_of, stmt_weight, subst, suc, sym, target_cells, term_nodes, term_of, term_step}
use Rattle.sc_lower.proofs.Common.{true, truth_code, typed, unary_op, weight, weight_step, ℕ, ◌*◌, ◌++◌, ◌+◌, ◌<◌, ◌∙◌}
use Rattle.sc_lower.proofs.Common.{◌∷◌, ◌≡◌, ◌≤◌}
use Rattle.sc_base.specs.declared.op.BinaryOp.TheVariants as op
use Rattle.sc_base.specs.declared.op.UnaryOp.TheVariants as unary
use Rattle.sc_core.specs.declared.expr.TypedKind.TheOpen as term
use Rattle.sc_core.specs.declared.value.Want.TheVariants as want
use Rattle.sc_tac.specs.declared.stmt.TacOp.TheVariants as tacop
use Rattle.sc_tac.specs.declared.stmt.TacStmt.TheOpen as tac
use Rattle.sc_tac.specs.declared.stmt.TacStmt.TheVariants as emit

-- WEIGHTS
pub weight_append : (xs ys : List TacStmt) → weight (xs ++ ys) ≡ weight xs + weight ys
weight_append [] ys = omega numbers
weight_append (x ∷ xs) ys =
    let rest = weight_append xs ys in
    by (stmt_weight x) (weight xs) (weight ys) (weight (xs ++ ys)) rest where
      by : (a b c d : ℕ) → d ≡ b + c → a + d ≡ a + b + c
      by a b c d h = omega (numbers, h)

-- one statement
pub weight_one : (k : TacStmt-F TacStmt) (c : TacStmt) → roll-TacStmt k ≡ c →
    weight (c ∷ []) ≡ weight_step (map-TacStmt _ _ stmt_weight k)
weight_one k c is =
    ap (λ x. stmt_weight x + 0) (sym is) ∙ ap (λ n. n + 0) (fold-roll-TacStmt ℕ weight_step k)
    ∙ zero_after (weight_step (map-TacStmt _ _ stmt_weight k)) where
      zero_after : (n : ℕ) → n + 0 ≡ n
      zero_after n = omega numbers

abbrev pub AtMost : TacStmt → ℕ → Type 0
AtMost c n = weight (c ∷ []) ≤ n

pub at_most : (c : TacStmt) (n m : ℕ) → weight (c ∷ []) ≡ n → n ≤ m → AtMost c m
at_most c n m is le = subst (λ x. x ≤ m) (sym is) le

pub const_weight : (d : ℕ) (c : Constant) → AtMost (emit.Const d c) 5
const_weight d c = at_most (emit.Const d c) 5 5 (weight_one (tac.Const d c) (emit.Const d c) (emit.rolls-Const d c))
    (omega numbers)

load_weight : (d x : ℕ) (b : Bool) → AtMost (emit.Load d x b) 7
load_weight d x b =
    at_most (emit.Load d x b) 7 7 (weight_one (tac.Load d x b) (emit.Load d x b) (emit.rolls-Load d x b))
    (omega numbers)

pub place_weight : (params : ℕ) (v : VarRef) (d : ℕ) → AtMost (place_code params v d) 6
place_weight params (Global g) d =
    at_most (emit.GlobalPlace d g) 6 6 (weight_one (tac.GlobalPlace d g) (emit.GlobalPlace d g)
    (emit.rolls-GlobalPlace d g)) (omega numbers)
place_weight params (Param p) d =
    at_most (emit.ObjectPlace d p) 6 6 (weight_one (tac.ObjectPlace d p) (emit.ObjectPlace d p)
    (emit.rolls-ObjectPlace d p)) (omega numbers)
place_weight params (Local l) d =
    at_most (emit.ObjectPlace d (params + l)) 6 6 (weight_one (tac.ObjectPlace d (params + l))
    (emit.ObjectPlace d (params + l)) (emit.rolls-ObjectPlace d (params + l))) (omega numbers)

-- an operator weighs at most 13
op_light : (o : TacOp) → op_weight o ≤ 13
op_light (tacop.Unary o scalar) = omega numbers
op_light (tacop.Binary o scalar) = omega numbers
op_light tacop.PointerNot = omega numbers
op_light (tacop.PointerMove minus cells index) = omega numbers
op_light (tacop.PointerMember offset) = omega numbers
op_light (tacop.PointerDifference cells) = omega numbers
op_light (tacop.PointerCompare o) = omega numbers

op_at_most : (d : ℕ) (o : TacOp) (x : ℕ) (y : Option ℕ) → AtMost (emit.Op d o x y) 13
op_at_most d o x y =
    at_most (emit.Op d o x y) (op_weight o) 13 (weight_one (tac.Op d o x y) (emit.Op d o x y) (emit.rolls-Op d o x y))
    (op_light o)

not_at_most : (d : ℕ) (t : Ty) (x : ℕ) → AtMost (emit.Op d (not_op t) x None) 7
not_at_most d t x =
    at_most (emit.Op d (not_op t) x None) (op_weight (not_op t)) 7 (weight_one (tac.Op d (not_op t) x None)
    (emit.Op d (not_op t) x None) (emit.rolls-Op d (not_op t) x None)) (by (is_pointer t)) where
      by : (b : Bool) → op_weight (if b then tacop.PointerNot else tacop.Unary unary.Not (scalar_of t)) ≤ 7
      by true = omega numbers
      by false = omega numbers

-- SHAPES
-- code that takes its temporaries from the free ones on, at most one for each of `k` nodes, and weighs at most 24 for
-- each, less 11
pub record Rises (l : Lows) (k : ℕ) : Type 0 where
  pub above : (n : ℕ) → n ≤ (l n).at
  pub below : (n : ℕ) → (l n).at < (l n).next
  pub few : (n : ℕ) → (l n).next ≤ n + k
  pub light : (n : ℕ) → weight (l n).code + 11 ≤ 24 * k

-- a place that may be loaded weighs 7 less
pub record RisesPlace (l : Lows) (k : ℕ) : Type 0 where
  pub above : (n : ℕ) → n ≤ (l n).at
  pub below : (n : ℕ) → (l n).at < (l n).next
  pub few : (n : ℕ) → (l n).next ≤ n + k
  pub light : (n : ℕ) → weight (l n).code + 18 ≤ 24 * k

as_place : (l : Lows) (k : ℕ) → Rises l k → RisesPlace l (suc k)
as_place l k h = record {
  above = h.above;
  below = h.below;
  few = λ n. omega (numbers, h.few n);
  light = λ n. omega (numbers, h.light n);
}

loaded_weight : (ty : Ty) (w : Want) (at : ℕ) → weight (loaded ty w at) ≤ 7
loaded_weight ty want.Place at = omega numbers
loaded_weight ty want.Value at = by (is_array ty) where
  by : (b : Bool) → weight (if b then [] else emit.Load at at (is_pointer ty) ∷ []) ≤ 7
  by true = omega numbers
  by false = load_weight at at (is_pointer ty)

pub place_rises : (ty : Ty) (w : Want) (l : Lows) (k : ℕ) → RisesPlace l k → Rises (at_place ty l w) k
place_rises ty w l k h = record {
  above = h.above;
  below = h.below;
  few = h.few;
  light = λ n.
      subst (λ x. x + 11 ≤ 24 * k) (sym (weight_append (l n).code (loaded ty w (l n).at)))
      (by (weight (l n).code) (weight (loaded ty w (l n).at)) (h.light n) (loaded_weight ty w (l n).at));
} where
  by : (a b : ℕ) → a + 18 ≤ 24 * k → b ≤ 7 → a + b + 11 ≤ 24 * k
  by a b h x = omega (numbers, h, x)

-- one statement after a value
one_rises : (a : Lows) (make : ℕ → ℕ → TacStmt) (k : ℕ) → ((d x : ℕ) → AtMost (make d x) 13) → Rises a k →
    RisesPlace (from_one a make) (suc k)
one_rises a make k most h = record {
  above = λ n. omega (numbers, h.above n, h.below n);
  below = λ n. omega numbers;
  few = λ n. omega (numbers, h.few n);
  light = λ n.
      subst (λ x. x + 18 ≤ 24 * suc k) (sym (weight_append (a n).code (make (a n).next (a n).at ∷ [])))
      (by (weight (a n).code) (weight (make (a n).next (a n).at ∷ [])) (h.light n) (most (a n).next (a n).at));
} where
  by : (u v : ℕ) → u + 11 ≤ 24 * k → v ≤ 13 → u + v + 18 ≤ 24 * suc k
  by u v h x = omega (numbers, h, x)

two_rise : (a b : Lows) (make : ℕ → ℕ → ℕ → TacStmt) (ka kb : ℕ) → ((d x y : ℕ) → AtMost (make d x y) 13) → Rises a ka →
    Rises b kb → RisesPlace (from_two a b make) (suc (ka + kb))
two_rise a b make ka kb most ha hb = record {
  above = λ n. omega (numbers, ha.above n, ha.below n, hb.above (a n).next, hb.below (a n).next);
  below = λ n. omega numbers;
  few = λ n. omega (numbers, ha.few n, hb.few (a n).next);
  light = λ n.
      let y : Low = b (a n).next in
      let last : List TacStmt = make y.next (a n).at y.at ∷ [] in
      subst (λ x. x + 18 ≤ 24 * suc (ka + kb)) (sym (weight_append (a n).code (y.code ++ last)
      ∙ ap (λ x. weight (a n).code + x) (weight_append y.code last)))
      (by (weight (a n).code) (weight y.code) (weight last) (ha.light n) (hb.light (a n).next)
      (most y.next (a n).at y.at));
} where
  by : (u v w : ℕ) → u + 11 ≤ 24 * ka → v + 11 ≤ 24 * kb → w ≤ 13 → u + (v + w) + 18 ≤ 24 * suc (ka + kb)
  by u v w h g x = omega (numbers, h, g, x)

first_rises : (a b : Lows) (last : ℕ → ℕ → List TacStmt) (make : ℕ → ℕ → List TacStmt → TacStmt) (ka kb : ℕ) →
    ((d x : ℕ) → weight (last d x) ≤ 14) →
    ((d x : ℕ) (code : List TacStmt) → weight (make d x code ∷ []) ≤ 11 + weight code) → Rises a ka → Rises b kb →
    Rises (from_first a b last make) (suc (ka + kb))
first_rises a b last make ka kb end most ha hb = record {
  above = λ n. omega (numbers, ha.above n, ha.below n, hb.above (a n).next, hb.below (a n).next);
  below = λ n. omega numbers;
  few = λ n. omega (numbers, ha.few n, hb.few (a n).next);
  light = λ n.
      let y : Low = b (a n).next in
      let inner : List TacStmt = y.code ++ last y.next y.at in
      subst (λ x. x + 11 ≤ 24 * suc (ka + kb)) (sym (weight_append (a n).code (make y.next (a n).at inner ∷ [])))
      (by (weight (a n).code) (weight y.code) (weight (last y.next y.at)) (weight inner)
      (weight (make y.next (a n).at inner ∷ [])) (ha.light n) (hb.light (a n).next) (end y.next y.at)
      (weight_append y.code (last y.next y.at)) (most y.next (a n).at inner));
} where
  by : (u v w i m : ℕ) → u + 11 ≤ 24 * ka → v + 11 ≤ 24 * kb → w ≤ 14 → i ≡ v + w → m ≤ 11 + i →
      u + m + 11 ≤ 24 * suc (ka + kb)
  by u v w i m h g x e l = omega (numbers, h, g, x, e, l)

truth_weight : (t : Ty) (d x : ℕ) → weight (truth_code t d x) ≤ 14
truth_weight t d x =
    subst (λ n. n ≤ 14)
    (sym (weight_append (emit.Op d (not_op t) x None ∷ []) (emit.Op d (tacop.Unary unary.Not Int) d None ∷ [])))
    (by _ _ (not_at_most d t x) (at_most (emit.Op d (tacop.Unary unary.Not Int) d None) 7 7
    (weight_one (tac.Op d (tacop.Unary unary.Not Int) d None) (emit.Op d (tacop.Unary unary.Not Int) d None)
    (emit.rolls-Op d (tacop.Unary unary.Not Int) d None)) (omega numbers))) where
      by : (u v : ℕ) → u ≤ 7 → v ≤ 7 → u + v ≤ 14
      by u v h g = omega (numbers, h, g)

pub if_weight : (c : ℕ) (x y : List TacStmt) → weight (emit.If c x y ∷ []) ≡ 6 + weight x + weight y
if_weight c x y = weight_one (tac.If c x y) (emit.If c x y) (emit.rolls-If c x y)

and_weight : (d x : ℕ) (code : List TacStmt) → weight (and_code d x code ∷ []) ≤ 11 + weight code
and_weight d x code =
    subst (λ n. n ≤ 11 + weight code) (sym (if_weight x code (emit.Const d _ ∷ [])))
    (by (weight code) _ (const_weight d _)) where
      by : (u v : ℕ) → v ≤ 5 → 6 + u + v ≤ 11 + u
      by u v h = omega (numbers, h)

or_weight : (d x : ℕ) (code : List TacStmt) → weight (or_code d x code ∷ []) ≤ 11 + weight code
or_weight d x code =
    subst (λ n. n ≤ 11 + weight code) (sym (if_weight x (emit.Const d _ ∷ []) code))
    (by (weight code) _ (const_weight d _)) where
      by : (u v : ℕ) → v ≤ 5 → 6 + v + u ≤ 11 + u
      by u v h = omega (numbers, h)

pub lone_rises : (make : ℕ → TacStmt) → ((d : ℕ) → AtMost (make d) 6) → RisesPlace (lone make) 1
lone_rises make most = record {
  above = λ n. omega numbers;
  below = λ n. omega numbers;
  few = λ n. omega numbers;
  light = λ n. omega (numbers, most n);
}

from_place : (l : Lows) (k : ℕ) → RisesPlace l k → Rises l k
from_place l k h = record { above = h.above; below = h.below; few = h.few; light = λ n. omega (numbers, h.light n) }

const_rises : (c : Constant) → Rises (lone (λ d. emit.Const d c)) 1
const_rises c = from_place _ _ (lone_rises (λ d. emit.Const d c) (λ d. omega (numbers, const_weight d c)))

further : (l : Lows) (k : ℕ) → Rises l k → Rises l (suc k)
further l k h = record {
  above = h.above;
  below = h.below;
  few = λ n. omega (numbers, h.few n);
  light = λ n. omega (numbers, h.light n);
}

-- EXPRESSIONS
module _ (structs : List TypedStruct) where
  binary_light : (o : BinaryOp) (left right : Ty) (d x y : ℕ) → AtMost (binary_code structs o left right d x y) 13
  binary_light o left right d x y = by (is_pointer left) (is_pointer right) where
    by : (b c : Bool) →
        AtMost (if b then (if c then emit.Op d (between_op o (target_cells structs left)) x (Some y) else emit.Op d
        (move_op structs o left right) x (Some y)) else (if c then emit.Op d (move_op structs o right left) y
        (Some x) else emit.Op d (tacop.Binary o (scalar_in (is_unsigned_op o left right))) x (Some y))) 13
    by true true = op_at_most d (between_op o (target_cells structs left)) x (Some y)
    by true false = op_at_most d (move_op structs o left right) x (Some y)
    by false true = op_at_most d (move_op structs o right left) y (Some x)
    by false false = op_at_most d (tacop.Binary o (scalar_in (is_unsigned_op o left right))) x (Some y)

  plain_rises : (o : BinaryOp) (a b : Lowered) (ka kb : ℕ) → Rises (a.form want.Value) ka →
      Rises (b.form want.Value) kb →
      Rises (from_two (a.form want.Value) (b.form want.Value) (binary_code structs o a.ty b.ty)) (suc (ka + kb))
  plain_rises o a b ka kb ha hb =
      from_place _ _ (two_rise (a.form want.Value) (b.form want.Value) (binary_code structs o a.ty b.ty) ka kb
      (λ d x y. binary_light o a.ty b.ty d x y) ha hb)

  binary_rises : (o : BinaryOp) (a b : Lowered) (ka kb : ℕ) → Rises (a.form want.Value) ka →
      Rises (b.form want.Value) kb →
      Rises (binary structs o a b) (suc (ka + kb))
  binary_rises op.OrElse a b ka kb ha hb =
      first_rises (a.form want.Value) (b.form want.Value) (truth_code b.ty) or_code ka kb (truth_weight b.ty) or_weight
      ha hb
  binary_rises op.AndAlso a b ka kb ha hb =
      first_rises (a.form want.Value) (b.form want.Value) (truth_code b.ty) and_code ka kb (truth_weight b.ty)
      and_weight ha hb
  binary_rises op.BitOr a b ka kb ha hb = plain_rises op.BitOr a b ka kb ha hb
  binary_rises op.BitXor a b ka kb ha hb = plain_rises op.BitXor a b ka kb ha hb
  binary_rises op.BitAnd a b ka kb ha hb = plain_rises op.BitAnd a b ka kb ha hb
  binary_rises op.Equal a b ka kb ha hb = plain_rises op.Equal a b ka kb ha hb
  binary_rises op.NotEqual a b ka kb ha hb = plain_rises op.NotEqual a b ka kb ha hb
  binary_rises op.Less a b ka kb ha hb = plain_rises op.Less a b ka kb ha hb
  binary_rises op.Greater a b ka kb ha hb = plain_rises op.Greater a b ka kb ha hb
  binary_rises op.LessEqual a b ka kb ha hb = plain_rises op.LessEqual a b ka kb ha hb
  binary_rises op.GreaterEqual a b ka kb ha hb = plain_rises op.GreaterEqual a b ka kb ha hb
  binary_rises op.ShiftLeft a b ka kb ha hb = plain_rises op.ShiftLeft a b ka kb ha hb
  binary_rises op.ShiftRight a b ka kb ha hb = plain_rises op.ShiftRight a b ka kb ha hb
  binary_rises op.Add a b ka kb ha hb = plain_rises op.Add a b ka kb ha hb
  binary_rises op.Sub a b ka kb ha hb = plain_rises op.Sub a b ka kb ha hb
  binary_rises op.Mul a b ka kb ha hb = plain_rises op.Mul a b ka kb ha hb
  binary_rises op.Div a b ka kb ha hb = plain_rises op.Div a b ka kb ha hb
  binary_rises op.Rem a b ka kb ha hb = plain_rises op.Rem a b ka kb ha hb

  module _ (params : ℕ) where
    abbrev P : TypedExpr → Type 0
    P e = (w : Want) → Rises ((lowered structs params e).form w) (expr_nodes e)

    level : (ty : Ty) (k : TypedKind-F TypedKind TypedExpr) → Under P k → (w : Want) →
        Rises (term_of _ _ (term_step structs params) lowered_step k ty w) (term_of _ _ term_nodes (λ e. e.kind) k)
    level ty (term.Literal word) h w = const_rises (constant_of ty word)
    level ty (term.Variable v) h w = place_rises ty w _ _ (lone_rises (place_code params v) (place_weight params v))
    level ty (term.Unary o a) h w =
        from_place _ _ (one_rises _ (λ d x. emit.Op d (unary_op o (lowered structs params a).ty) x None)
        _ (λ d x. op_at_most d (unary_op o (lowered structs params a).ty) x None) (h want.Value))
    level ty (term.Binary o a b) h w = binary_rises o _ _ _ _ (h.0 want.Value) (h.1 want.Value)
    level ty (term.Index a b) h w =
        place_rises ty w
        _ _ (two_rise _ _ _ _ _ (λ d x y. op_at_most d (move_op structs op.Add (lowered structs params a).ty
        (lowered structs params b).ty) x (Some y)) (h.0 want.Value) (h.1 want.Value))
    level ty (term.Member a offset) h w =
        place_rises ty w _ _ (one_rises _ _ _ (λ d x. op_at_most d (tacop.PointerMember offset) x None) (h want.Place))
    level ty (term.Arrow a offset) h w =
        place_rises ty w _ _ (one_rises _ _ _ (λ d x. op_at_most d (tacop.PointerMember offset) x None) (h want.Value))
    level ty (term.Deref a) h w = place_rises ty w _ _ (as_place _ _ (h want.Value))
    level ty (term.Address a) h w = further _ _ (h want.Place)
    level ty (term.SizeOf cells) h w = const_rises (size_of cells)

    pub expr_rises : (e : TypedExpr) → P e
    expr_rises = expr_induction P (λ ty k h w.
        subst (Rises ((lowered structs params (typed ty k)).form w)) (sym (expr_at _ _ term_nodes (λ e. e.kind) ty k))
        (subst (λ l. Rises (l.form w) (term_of _ _ term_nodes (λ e. e.kind) k))
        (sym (expr_at _ _ (term_step structs params) lowered_step ty k)) (level ty k h w)))
