-- The code of a function has one `If` for each `if`, `while`, `for`, `&&` and `||`.
use Rattle.sc_lower.proofs.Common.{BinaryOp, Bool, CallTarget, Constant, Each, Forms, Global, Inside, Int}
use Rattle.sc_lower.proofs.Common.{KeepsBranches, List, Local, Low, Lowered, Lows, Many, None, Option, Param, Part}
use Rattle.sc_lower.proofs.Common.{Parts, Some, TacOp, TacStmt, TacStmt-F, Ty, TypedCall, TypedExpr, TypedKind}
use Rattle.sc_lower.proofs.Common.{TypedKind-F, TypedLocal, TypedSimple, TypedSimpleKind, TypedStmt, TypedStmtKind}
use Rattle.sc_lower.proofs.Common.{TypedStmtKind-F, TypedStruct, Under, VarRef, Want, [], after, allocate_at}
use Rattle.sc_lower.proofs.Common.{allocation, and_code, ap, arith as numbers, assign, at_place, between_op, binary}
use Rattle.sc_lower.proofs.Common.{binary_code, block_code, both, call_branches, call_code, call_for, call_statement}
use Rattle.sc_lower.proofs.Common.{constant_of, count_branches, count_code, cycle, expr_at, expr_branches}
use Rattle.sc_lower.proofs.Common.{expr_induction, false, first_of, fold-roll-TacStmt, forms, free_value, from_first}
use Rattle.sc_lower.proofs.Common.{from_one, from_two, ifs, ifs_step, if◌then◌else◌, in_turn, init_branches, init_code}
use Rattle.sc_lower.proofs.Common.{inits_code, is_array, is_pointer, is_unsigned_op, just, kind_branches, kind_step}
use Rattle.sc_lower.proofs.Common.{layer_of, length, loaded, local_branches, lone, lowered, lowered_step, many, map}
use Rattle.sc_lower.proofs.Common.{map-TacStmt, member, move_op, not_op, on_line, op_branches, or_code, part_branches}
use Rattle.sc_lower.proofs.Common.{part_code, place_code, refl, replaced, return_value, roll-TacStmt, scalar_in}
use Rattle.sc_lower.proofs.Common.{simple_branches, simple_code, size_of, stmt_at, stmt_branches, stmt_code, stmt_ifs}
use Rattle.sc_lower.proofs.Common.{stmt_induction, store_at, subst, suc, sym, target_cells, term_branches, term_of}
use Rattle.sc_lower.proofs.Common.{term_step, test, total, true, truth_code, typed, unary_op, ℕ, ◌++◌, ◌+◌, ◌∙◌, ◌∷◌}
use Rattle.sc_lower.proofs.Common.{◌≡◌}
use Rattle.sc_lower.specs.Prelude.{HasBranches, branches, lowered_function, lowered_program, lowered_sections}
use Rattle.sc_event.specs.declared.interface.Interfaces.{Interfaces}
use Rattle.sc_core.specs.declared.program.ProgramTree.{ProgramTree}
use Rattle.sc_core.specs.declared.section.TypedFunction.{TypedFunction}
use Rattle.sc_core.specs.declared.section.TypedSection.{TypedSection}
use Rattle.sc_tac.specs.declared.function.TacFnTree.{TacFnTree}
use Rattle.sc_tac.specs.declared.program.TacSection.{TacSection}
use Rattle.sc_base.specs.declared.op.BinaryOp.TheVariants as op
use Rattle.sc_base.specs.declared.op.UnaryOp.TheVariants as unary
use Rattle.sc_core.specs.declared.expr.CallTarget.TheVariants as target
use Rattle.sc_core.specs.declared.expr.TypedKind.TheOpen as term
use Rattle.sc_core.specs.declared.stmt.TypedStmtKind.TheOpen as layer
use Rattle.sc_core.specs.declared.stmt.TypedSimpleKind.TheVariants as simple
use Rattle.sc_core.specs.declared.value.Want.TheVariants as want
use Rattle.sc_core.proofs.Induction.{everywhere}
use Rattle.sc_tac.specs.declared.stmt.Constant.TheVariants as constant
use Rattle.sc_tac.specs.declared.stmt.TacOp.TheVariants as tacop
use Rattle.sc_tac.specs.declared.stmt.TacStmt.TheOpen as tac
use Rattle.sc_tac.specs.declared.stmt.TacStmt.TheVariants as emit

ifs_append : (xs ys : List TacStmt) → ifs (xs ++ ys) ≡ ifs xs + ifs ys
ifs_append [] ys = omega numbers
ifs_append (x ∷ xs) ys = by (stmt_ifs x) (ifs xs) (ifs ys) (ifs (xs ++ ys)) (ifs_append xs ys) where
  by : (a b c d : ℕ) → d ≡ b + c → a + d ≡ a + b + c
  by a b c d h = omega (numbers, h)

ifs_one : (k : TacStmt-F TacStmt) (c : TacStmt) → roll-TacStmt k ≡ c →
    ifs (c ∷ []) ≡ ifs_step (map-TacStmt _ _ stmt_ifs k)
ifs_one k c is =
    ap (λ x. stmt_ifs x + 0) (sym is) ∙ ap (λ n. n + 0) (fold-roll-TacStmt ℕ ifs_step k)
    ∙ zero_after (ifs_step (map-TacStmt _ _ stmt_ifs k)) where
      zero_after : (n : ℕ) → n + 0 ≡ n
      zero_after n = omega numbers

-- SHAPES
abbrev Has : Lows → ℕ → Type 0
Has l k = (n : ℕ) → ifs (l n).code ≡ k

abbrev Without : TacStmt → Type 0
Without c = ifs (c ∷ []) ≡ 0

sum_is : (a b k j m : ℕ) → m ≡ a + b → a ≡ k → b ≡ j → m ≡ k + j
sum_is a b k j m e h g = omega (numbers, e, h, g)

same_sum : (m k j : ℕ) → m ≡ k + 0 → m ≡ k
same_sum m k j h = omega (numbers, h)

then_ifs : (xs ys : List TacStmt) (k j : ℕ) → ifs xs ≡ k → ifs ys ≡ j → ifs (xs ++ ys) ≡ k + j
then_ifs xs ys k j h g = sum_is (ifs xs) (ifs ys) k j (ifs (xs ++ ys)) (ifs_append xs ys) h g

then_none : (xs ys : List TacStmt) (k : ℕ) → ifs xs ≡ k → ifs ys ≡ 0 → ifs (xs ++ ys) ≡ k
then_none xs ys k h g = same_sum (ifs (xs ++ ys)) k 0 (then_ifs xs ys k 0 h g)

op_without : (d : ℕ) (o : TacOp) (x : ℕ) (y : Option ℕ) → Without (emit.Op d o x y)
op_without d o x y = ifs_one (tac.Op d o x y) (emit.Op d o x y) (emit.rolls-Op d o x y)

const_without : (d : ℕ) (c : Constant) → Without (emit.Const d c)
const_without d c = ifs_one (tac.Const d c) (emit.Const d c) (emit.rolls-Const d c)

place_without : (params : ℕ) (v : VarRef) (d : ℕ) → Without (place_code params v d)
place_without params (Global g) d = ifs_one (tac.GlobalPlace d g) (emit.GlobalPlace d g) (emit.rolls-GlobalPlace d g)
place_without params (Param p) d = ifs_one (tac.ObjectPlace d p) (emit.ObjectPlace d p) (emit.rolls-ObjectPlace d p)
place_without params (Local l) d = ifs_one (tac.ObjectPlace d (params + l)) (emit.ObjectPlace d (params + l))
    (emit.rolls-ObjectPlace d (params + l))

loaded_without : (ty : Ty) (w : Want) (at : ℕ) → ifs (loaded ty w at) ≡ 0
loaded_without ty want.Place at = refl
loaded_without ty want.Value at = by (is_array ty) where
  by : (b : Bool) → ifs (if b then [] else emit.Load at at (is_pointer ty) ∷ []) ≡ 0
  by true = refl
  by false = ifs_one (tac.Load at at (is_pointer ty)) (emit.Load at at (is_pointer ty))
      (emit.rolls-Load at at (is_pointer ty))

replaced_has : (a : Lows) (last : ℕ → List TacStmt) (k : ℕ) → ((at : ℕ) → ifs (last at) ≡ 0) → Has a k →
    Has (replaced a last) k
replaced_has a last k none h n = then_none (a n).code (last (a n).at) k (h n) (none (a n).at)

place_has : (ty : Ty) (w : Want) (l : Lows) (k : ℕ) → Has l k → Has (at_place ty l w) k
place_has ty w l k = replaced_has l (loaded ty w) k (loaded_without ty w)

one_has : (a : Lows) (make : ℕ → ℕ → TacStmt) (k : ℕ) → ((d x : ℕ) → Without (make d x)) → Has a k →
    Has (from_one a make) k
one_has a make k none h n =
    then_none (a n).code (make (a n).next (a n).at ∷ []) k (h n) (none (a n).next (a n).at)

two_has : (a b : Lows) (make : ℕ → ℕ → ℕ → TacStmt) (k j : ℕ) → ((d x y : ℕ) → Without (make d x y)) → Has a k →
    Has b j → Has (from_two a b make) (k + j)
two_has a b make k j none ha hb n =
    let y : Low = b (a n).next in
    then_ifs (a n).code (y.code ++ make y.next (a n).at y.at ∷ []) k j (ha n)
    (then_none y.code (make y.next (a n).at y.at ∷ []) j (hb (a n).next) (none y.next (a n).at y.at))

if_ifs : (c : ℕ) (x y : List TacStmt) → ifs (emit.If c x y ∷ []) ≡ suc (ifs x + ifs y)
if_ifs c x y = ifs_one (tac.If c x y) (emit.If c x y) (emit.rolls-If c x y)

truth_without : (t : Ty) (d x : ℕ) → ifs (truth_code t d x) ≡ 0
truth_without t d x = then_none (emit.Op d (not_op t) x None ∷ []) (emit.Op d (tacop.Unary unary.Not Int) d None ∷ []) 0
    (op_without d (not_op t) x None) (op_without d (tacop.Unary unary.Not Int) d None)

-- a statement that is one `If` around the code of the second value
abbrev OneMore : (ℕ → ℕ → List TacStmt → TacStmt) → Type 0
OneMore make = (d x : ℕ) (code : List TacStmt) → ifs (make d x code ∷ []) ≡ suc (ifs code)

and_more : OneMore and_code
and_more d x code = if_ifs x code (emit.Const d _ ∷ []) ∙ by (ifs code) (ifs (emit.Const d _ ∷ []))
    (const_without d _) where
      by : (a b : ℕ) → b ≡ 0 → suc (a + b) ≡ suc a
      by a b h = omega (numbers, h)

or_more : OneMore or_code
or_more d x code = if_ifs x (emit.Const d _ ∷ []) code ∙ by (ifs code) (ifs (emit.Const d _ ∷ []))
    (const_without d _) where
      by : (a b : ℕ) → b ≡ 0 → suc (b + a) ≡ suc a
      by a b h = omega (numbers, h)

first_has : (a b : Lows) (last : ℕ → ℕ → List TacStmt) (make : ℕ → ℕ → List TacStmt → TacStmt) (k j : ℕ) →
    ((d x : ℕ) → ifs (last d x) ≡ 0) → OneMore make → Has a k → Has b j → Has (from_first a b last make) (1 + (k + j))
first_has a b last make k j none more ha hb n =
    let y : Low = b (a n).next in
    let inner : List TacStmt = y.code ++ last y.next y.at in
    by (ifs (from_first a b last make n).code) (then_ifs (a n).code (make y.next (a n).at inner ∷ []) k (suc j) (ha n)
    (more y.next (a n).at inner
    ∙ ap suc (then_none y.code (last y.next y.at) j (hb (a n).next) (none y.next y.at)))) where
      by : (m : ℕ) → m ≡ k + suc j → m ≡ 1 + (k + j)
      by m h = omega (numbers, h)

-- EXPRESSIONS
module _ (structs : List TypedStruct) where
  binary_without : (o : BinaryOp) (left right : Ty) (d x y : ℕ) → Without (binary_code structs o left right d x y)
  binary_without o left right d x y = by (is_pointer left) (is_pointer right) where
    by : (b c : Bool) →
        Without (if b then (if c then emit.Op d (between_op o (target_cells structs left)) x (Some y) else emit.Op d
        (move_op structs o left right) x (Some y)) else (if c then emit.Op d (move_op structs o right left) y
        (Some x) else emit.Op d (tacop.Binary o (scalar_in (is_unsigned_op o left right))) x (Some y)))
    by true true = op_without d (between_op o (target_cells structs left)) x (Some y)
    by true false = op_without d (move_op structs o left right) x (Some y)
    by false true = op_without d (move_op structs o right left) y (Some x)
    by false false = op_without d (tacop.Binary o (scalar_in (is_unsigned_op o left right))) x (Some y)

  plain_has : (o : BinaryOp) (a b : Lowered) (k j : ℕ) → Has (a.form want.Value) k → Has (b.form want.Value) j →
      Has (from_two (a.form want.Value) (b.form want.Value) (binary_code structs o a.ty b.ty)) (0 + (k + j))
  plain_has o a b k j ha hb n = two_has (a.form want.Value) (b.form want.Value) (binary_code structs o a.ty b.ty) k j
      (binary_without o a.ty b.ty) ha hb n ∙ zero_first (k + j) where
        zero_first : (m : ℕ) → m ≡ 0 + m
        zero_first m = omega numbers

  binary_has : (o : BinaryOp) (a b : Lowered) (k j : ℕ) → Has (a.form want.Value) k → Has (b.form want.Value) j →
      Has (binary structs o a b) (op_branches o + (k + j))
  binary_has op.OrElse a b k j ha hb n = first_has (a.form want.Value) (b.form want.Value) (truth_code b.ty) or_code k j
      (truth_without b.ty) or_more ha hb n
  binary_has op.AndAlso a b k j ha hb n =
      first_has (a.form want.Value) (b.form want.Value) (truth_code b.ty) and_code k j (truth_without b.ty) and_more ha
      hb n
  binary_has op.BitOr a b k j ha hb n = plain_has op.BitOr a b k j ha hb n
  binary_has op.BitXor a b k j ha hb n = plain_has op.BitXor a b k j ha hb n
  binary_has op.BitAnd a b k j ha hb n = plain_has op.BitAnd a b k j ha hb n
  binary_has op.Equal a b k j ha hb n = plain_has op.Equal a b k j ha hb n
  binary_has op.NotEqual a b k j ha hb n = plain_has op.NotEqual a b k j ha hb n
  binary_has op.Less a b k j ha hb n = plain_has op.Less a b k j ha hb n
  binary_has op.Greater a b k j ha hb n = plain_has op.Greater a b k j ha hb n
  binary_has op.LessEqual a b k j ha hb n = plain_has op.LessEqual a b k j ha hb n
  binary_has op.GreaterEqual a b k j ha hb n = plain_has op.GreaterEqual a b k j ha hb n
  binary_has op.ShiftLeft a b k j ha hb n = plain_has op.ShiftLeft a b k j ha hb n
  binary_has op.ShiftRight a b k j ha hb n = plain_has op.ShiftRight a b k j ha hb n
  binary_has op.Add a b k j ha hb n = plain_has op.Add a b k j ha hb n
  binary_has op.Sub a b k j ha hb n = plain_has op.Sub a b k j ha hb n
  binary_has op.Mul a b k j ha hb n = plain_has op.Mul a b k j ha hb n
  binary_has op.Div a b k j ha hb n = plain_has op.Div a b k j ha hb n
  binary_has op.Rem a b k j ha hb n = plain_has op.Rem a b k j ha hb n

  module _ (params : ℕ) where
    abbrev P : TypedExpr → Type 0
    P e = (w : Want) → Has ((lowered structs params e).form w) (expr_branches e)

    level : (ty : Ty) (k : TypedKind-F TypedKind TypedExpr) → Under P k → (w : Want) →
        Has (term_of _ _ (term_step structs params) lowered_step k ty w) (term_of _ _ term_branches (λ e. e.kind) k)
    level ty (term.Literal word) h w n = const_without n (constant_of ty word)
    level ty (term.Variable v) h w n = place_has ty w (lone (place_code params v)) 0 (λ n. place_without params v n) n
    level ty (term.Unary o a) h w n =
        one_has ((lowered structs params a).form want.Value)
        (λ d x. emit.Op d (unary_op o (lowered structs params a).ty) x None) (expr_branches a)
        (λ d x. op_without d (unary_op o (lowered structs params a).ty) x None) (h want.Value) n
    level ty (term.Binary o a b) h w n =
        binary_has o (lowered structs params a) (lowered structs params b) (expr_branches a) (expr_branches b)
        (h.0 want.Value) (h.1 want.Value) n
    level ty (term.Index a b) h w n =
        place_has ty w (from_two ((lowered structs params a).form want.Value)
        ((lowered structs params b).form want.Value)
        (λ d x y. emit.Op d (move_op structs op.Add (lowered structs params a).ty (lowered structs params b).ty) x
        (Some y))) (expr_branches a + expr_branches b)
        (two_has ((lowered structs params a).form want.Value) ((lowered structs params b).form want.Value)
        (λ d x y. emit.Op d (move_op structs op.Add (lowered structs params a).ty (lowered structs params b).ty) x
        (Some y)) (expr_branches a) (expr_branches b)
        (λ d x y. op_without d (move_op structs op.Add (lowered structs params a).ty (lowered structs params b).ty) x
        (Some y)) (h.0 want.Value) (h.1 want.Value)) n
    level ty (term.Member a offset) h w n =
        place_has ty w (member structs offset ((lowered structs params a).form want.Place)) (expr_branches a)
        (one_has ((lowered structs params a).form want.Place) (λ d x. emit.Op d (tacop.PointerMember offset) x None)
        (expr_branches a) (λ d x. op_without d (tacop.PointerMember offset) x None) (h want.Place)) n
    level ty (term.Arrow a offset) h w n =
        place_has ty w (member structs offset ((lowered structs params a).form want.Value)) (expr_branches a)
        (one_has ((lowered structs params a).form want.Value) (λ d x. emit.Op d (tacop.PointerMember offset) x None)
        (expr_branches a) (λ d x. op_without d (tacop.PointerMember offset) x None) (h want.Value)) n
    level ty (term.Deref a) h w n = place_has ty w ((lowered structs params a).form want.Value) (expr_branches a)
        (h want.Value) n
    level ty (term.Address a) h w n = h want.Place n
    level ty (term.SizeOf cells) h w n = const_without n (size_of cells)

    expr_has : (e : TypedExpr) → P e
    expr_has = expr_induction P (λ ty k h w.
        subst (Has ((lowered structs params (typed ty k)).form w)) (sym (expr_at _ _ term_branches (λ e. e.kind) ty k))
        (subst (λ l. Has (l.form w) (term_of _ _ term_branches (λ e. e.kind) k))
        (sym (expr_at _ _ (term_step structs params) lowered_step ty k)) (level ty k h w)))

-- STATEMENTS
abbrev PartHas : Parts → ℕ → Type 0
PartHas p k = (n : ℕ) → ifs (p n).code ≡ k

after_has : (a : Lows) (make : ℕ → Parts) (k j : ℕ) → Has a k → ((at : ℕ) → PartHas (make at) j) →
    PartHas (after a make) (k + j)
after_has a make k j ha h n = then_ifs (a n).code (make (a n).at (a n).next).code k j (ha n) (h (a n).at (a n).next)

both_has : (p q : Parts) (k j : ℕ) → PartHas p k → PartHas q j → PartHas (both p q) (k + j)
both_has p q k j hp hq n = then_ifs (p n).code (q (p n).next).code k j (hp n) (hq (p n).next)

store_has : (f : Forms) (k value : ℕ) → Has (f want.Place) k → PartHas (store_at f value) k
store_has f k value h n =
    let q : ℕ = (f want.Place n).at in
    then_none (f want.Place n).code (emit.Store q value ∷ []) k (h n) (ifs_one (tac.Store q value) (emit.Store q value)
    (emit.rolls-Store q value))

assign_has : (f e : Forms) (k j : ℕ) → Has (f want.Place) k → Has (e want.Value) j → PartHas (assign f e) (k + j)
assign_has f e k j hf he n = after_has (e want.Value) (store_at f) j k he (λ at. store_has f k at hf) n
    ∙ turned j k where
      turned : (a b : ℕ) → a + b ≡ b + a
      turned a b = omega numbers

alloc_without : (d x cells : ℕ) → Without (emit.Alloc d x cells)
alloc_without d x cells = ifs_one (tac.Alloc d x cells) (emit.Alloc d x cells) (emit.rolls-Alloc d x cells)

free_without : (at : ℕ) → Without (emit.Free at)
free_without at = ifs_one (tac.Free at) (emit.Free at) (emit.rolls-Free at)

allocate_has : (f : Forms) (a : Lows) (cells k j : ℕ) → Has (f want.Place) k → Has a j →
    PartHas (allocate_at f a cells) (k + j)
allocate_has f a cells k j hf ha n =
    after_has (allocation a cells) (store_at f) j k (replaced_has a (λ at. emit.Alloc at at cells ∷ []) j
    (λ at. alloc_without at at cells) ha) (λ at. store_has f k at hf) n ∙ turned j k where
      turned : (a b : ℕ) → a + b ≡ b + a
      turned a b = omega numbers

free_has : (f : Forms) (k : ℕ) → Has (f want.Value) k → PartHas (free_value f) k
free_has f k h n =
    same_sum _ k 0 (after_has (f want.Value) (λ at. just (emit.Free at ∷ [])) k 0 h (λ at n. free_without at) n)

call_without : (to : CallTarget) (dest : Option ℕ) (at : List ℕ) → Without (call_code to dest at)
call_without (target.Own f) dest at =
    ifs_one (tac.CallOwn dest f at) (emit.CallOwn dest f at) (emit.rolls-CallOwn dest f at)
call_without (target.Cross c i) dest at =
    ifs_one (tac.CallCross dest c i at) (emit.CallCross dest c i at) (emit.rolls-CallCross dest c i at)
call_without target.Input dest at = ifs_one (tac.Input dest) (emit.Input dest) (emit.rolls-Input dest)
call_without target.Output dest at =
    ifs_one (tac.Output (first_of at)) (emit.Output (first_of at)) (emit.rolls-Output (first_of at))

return_has : (value : ℕ) → PartHas (return_value value) 0
return_has value n = ifs_one (tac.Return (Some value)) (emit.Return (Some value)) (emit.rolls-Return (Some value))

module _ (structs : List TypedStruct) (params : ℕ) where
  abbrev form : TypedExpr → Forms
  form = forms structs params

  value_has : (e : TypedExpr) → Has (form e want.Value) (expr_branches e)
  value_has e = expr_has structs params e want.Value

  target_has : (e : TypedExpr) → Has (form e want.Place) (expr_branches e)
  target_has e = expr_has structs params e want.Place

  count_has : (count : Option TypedExpr) → Has (count_code structs params count) (count_branches count)
  count_has None n = const_without n (constant.Word 1)
  count_has (Some e) n = value_has e n

  malloc_has : (place : TypedExpr) (count : Option TypedExpr) (cells : ℕ) →
      PartHas (allocate_at (form place) (count_code structs params count) cells)
      (expr_branches place + count_branches count)
  malloc_has place count cells =
      allocate_has (form place) (count_code structs params count) cells (expr_branches place) (count_branches count)
      (target_has place) (count_has count)

  many_has : (es : List TypedExpr) (n : ℕ) → ifs (many (map form es) n).code ≡ total (map expr_branches es)
  many_has [] n = refl
  many_has (e ∷ es) n =
      then_ifs (form e want.Value n).code (many (map form es) (form e want.Value n).next).code (expr_branches e)
      (total (map expr_branches es)) (value_has e n) (many_has es (form e want.Value n).next)

  call_statement_has : (c : TypedCall) → PartHas (call_statement c.target (map form c.args)) (call_branches c)
  call_statement_has c n =
      let x : Many = many (map form c.args) n in
      then_none x.code (call_code c.target None x.at ∷ []) (call_branches c) (many_has c.args n)
      (call_without c.target None x.at)

  call_for_has : (c : TypedCall) (make : ℕ → Parts) (k : ℕ) → ((d : ℕ) → PartHas (make d) k) →
      PartHas (call_for c.target (map form c.args) make) (k + call_branches c)
  call_for_has c make k h n =
      let x : Many = many (map form c.args) n in
      let y : List TacStmt = (make x.next (suc x.next)).code in
      let call : TacStmt = call_code c.target (Some x.next) x.at in
      by (ifs (x.code ++ call ∷ y)) (call_branches c) (then_ifs x.code (call ∷ y) (call_branches c) (0 + k)
      (many_has c.args n) (then_ifs (call ∷ []) y 0 k (call_without c.target (Some x.next) x.at)
      (h x.next (suc x.next)))) where
        by : (m j : ℕ) → m ≡ j + (0 + k) → m ≡ k + j
        by m j e = omega (numbers, e)

  break_without : Without emit.Break
  break_without = ifs_one tac.Break emit.Break emit.rolls-Break

  test_has : (cond : TypedExpr) → PartHas (test (form cond)) (expr_branches cond + 1)
  test_has cond = after_has (form cond want.Value) (λ at. just (emit.If at [] (emit.Break ∷ []) ∷ []))
      (expr_branches cond) 1 (value_has cond) (λ at n. if_ifs at [] (emit.Break ∷ [])
      ∙ by (ifs (emit.Break ∷ [])) break_without) where
        by : (b : ℕ) → b ≡ 0 → suc (0 + b) ≡ 1
        by b h = omega (numbers, h)

  cycle_has : (p q r : Parts) (k j i : ℕ) → PartHas p k → PartHas q j → PartHas r i → PartHas (cycle p q r) (k + j + i)
  cycle_has p q r k j i hp hq hr n =
      let x : Part = p n in let y : Part = q x.next in let z : Part = r y.next in
      ifs_one (tac.Loop x.code y.code z.code) (emit.Loop x.code y.code z.code) (emit.rolls-Loop x.code y.code z.code)
      ∙ (λ m. hp n m + hq x.next m + hr y.next m)

  simple_has : (k : TypedSimpleKind) → PartHas (simple_code structs params k) (simple_branches k)
  simple_has (simple.Assign place e) n =
      assign_has (form place) (form e) (expr_branches place) (expr_branches e) (target_has place) (value_has e) n
  simple_has (simple.AssignCall place c) n =
      call_for_has c (store_at (form place)) (expr_branches place) (λ d. store_has (form place) (expr_branches place) d
      (target_has place)) n
  simple_has (simple.Call c) n = call_statement_has c n
  simple_has (simple.Malloc place count cells) n = malloc_has place count cells n
  simple_has (simple.Free e) n = free_has (form e) (expr_branches e) (value_has e) n

  part_has : (part : Option TypedSimple) → PartHas (part_code structs params part) (part_branches part)
  part_has None n = refl
  part_has (Some s) n = simple_has s.kind n

  abbrev Q : TypedStmt → Type 0
  Q stmt = PartHas (stmt_code structs params stmt) (stmt_branches stmt)

  block_has : (block : List TypedStmt) → Each Q block →
      PartHas (block_code structs params block) (total (map stmt_branches block))
  block_has [] h n = refl
  block_has (stmt ∷ rest) h n =
      both_has (stmt_code structs params stmt) (block_code structs params rest) (stmt_branches stmt)
      (total (map stmt_branches rest)) h.0 (block_has rest h.1) n

  level_has : (line : ℕ) (k : TypedStmtKind-F TypedStmtKind TypedStmt) → Inside Q k →
      PartHas (layer_of _ _ (kind_step structs params) (λ s. s.kind) k) (layer_of _ _ kind_branches (λ s. s.kind) k)
  level_has line layer.Empty h n = refl
  level_has line (layer.Assign place e) h n =
      assign_has (form place) (form e) (expr_branches place) (expr_branches e) (target_has place) (value_has e) n
  level_has line (layer.AssignCall place c) h n =
      call_for_has c (store_at (form place)) (expr_branches place) (λ d. store_has (form place) (expr_branches place) d
      (target_has place)) n
  level_has line (layer.Call c) h n = call_statement_has c n
  level_has line (layer.Malloc place count cells) h n = malloc_has place count cells n
  level_has line (layer.Free e) h n = free_has (form e) (expr_branches e) (value_has e) n
  level_has line (layer.If cond x y) h n =
      let a : Low = form cond want.Value n in
      let p : Part = block_code structs params x a.next in
      let q : Part = block_code structs params y p.next in
      by _ _ _ _ (then_ifs a.code (emit.If a.at p.code q.code ∷ []) (expr_branches cond)
      (suc (total (map stmt_branches x) + total (map stmt_branches y))) (value_has cond n) (if_ifs a.at p.code q.code
      ∙ (λ m. suc (block_has x h.0 a.next m + block_has y h.1 p.next m)))) where
        by : (m a b c : ℕ) → m ≡ a + suc (b + c) → m ≡ suc (a + b + c)
        by m a b c e = omega (numbers, e)
  level_has line (layer.While cond x) h n =
      by _ _ _ (cycle_has (test (form cond)) (block_code structs params x) (just []) (expr_branches cond + 1)
      (total (map stmt_branches x)) 0 (test_has cond) (block_has x h) (λ n. refl) n) where
        by : (m a b : ℕ) → m ≡ a + 1 + b + 0 → m ≡ suc (a + b)
        by m a b e = omega (numbers, e)
  level_has line (layer.For first cond next x) h n =
      by _ _ _ _ _ (both_has (part_code structs params first) (cycle (test (form cond)) (block_code structs params x)
      (part_code structs params next)) (part_branches first)
      (expr_branches cond + 1 + total (map stmt_branches x) + part_branches next) (part_has first)
      (cycle_has (test (form cond)) (block_code structs params x) (part_code structs params next)
      (expr_branches cond + 1) (total (map stmt_branches x)) (part_branches next) (test_has cond) (block_has x h)
      (part_has next)) n) where
        by : (m f c b x : ℕ) → m ≡ f + (c + 1 + b + x) → m ≡ suc (f + c + x + b)
        by m f c b x e = omega (numbers, e)
  level_has line layer.Break h n = break_without
  level_has line layer.Continue h n = ifs_one tac.Continue emit.Continue emit.rolls-Continue
  level_has line layer.Return h n = ifs_one (tac.Return None) (emit.Return None) (emit.rolls-Return None)
  level_has line (layer.ReturnValue e) h n =
      same_sum _ (expr_branches e) 0 (after_has (form e want.Value) return_value (expr_branches e) 0 (value_has e)
      return_has n)
  level_has line (layer.ReturnCall c) h n = by _ (call_branches c) (call_for_has c return_value 0 return_has n) where
    by : (m j : ℕ) → m ≡ 0 + j → m ≡ j
    by m j e = omega (numbers, e)

  stmt_has : (stmt : TypedStmt) → Q stmt
  stmt_has = stmt_induction Q (λ line k h.
      subst (λ p. PartHas p (stmt_branches (on_line line k)))
      (sym (stmt_at _ _ (kind_step structs params) (λ s. s.kind) line k))
      (subst (PartHas (layer_of _ _ (kind_step structs params) (λ s. s.kind) k))
      (sym (stmt_at _ _ kind_branches (λ s. s.kind) line k)) (level_has line k h)))

  init_has : (k : ℕ) (local : TypedLocal) (init : Option TypedExpr) →
      PartHas (init_code structs params k local init) (init_branches init)
  init_has k local None n = refl
  init_has k local (Some e) n =
      by _ (expr_branches e) (assign_has (at_place local.ty (lone (place_code params (Local k)))) (form e) 0
      (expr_branches e) (place_has local.ty want.Place (lone (place_code params (Local k))) 0
      (λ n. place_without params (Local k) n)) (value_has e) n) where
        by : (m j : ℕ) → m ≡ 0 + j → m ≡ j
        by m j e = omega (numbers, e)

  inits_have : (k : ℕ) (locals : List TypedLocal) →
      PartHas (in_turn (inits_code structs params k locals)) (total (map local_branches locals))
  inits_have k [] n = refl
  inits_have k (local ∷ locals) n =
      both_has (init_code structs params k local local.init) (in_turn (inits_code structs params (suc k) locals))
      (local_branches local) (total (map local_branches locals)) (init_has k local local.init)
      (inits_have (suc k) locals) n

pub keeps_branches : KeepsBranches
keeps_branches = record {
  functions = λ structs f.
      both_has (in_turn (inits_code structs (length f.params) 0 f.locals)) (block_code structs (length f.params) f.body)
      (total (map local_branches f.locals)) (total (map stmt_branches f.body))
      (inits_have structs (length f.params) 0 f.locals) (block_has structs (length f.params) f.body
      (everywhere (Q structs (length f.params)) (stmt_has structs (length f.params)) f.body)) 0;
}

functions_branch : (interfaces : Interfaces) (comp : ℕ) (structs : List TypedStruct) (fs : List TypedFunction) →
    map {A = TacFnTree} (λ f. ifs f.body) (map (lowered_function interfaces comp structs) fs) ≡ map branches fs
functions_branch interfaces comp structs [] = refl
functions_branch interfaces comp structs (f ∷ fs) = λ i.
    keeps_branches.functions structs f i ∷ functions_branch interfaces comp structs fs i

sections_branch : (interfaces : Interfaces) (comp : ℕ) (sections : List TypedSection) →
    map {A = TacSection} (λ section. map {A = TacFnTree} (λ f. ifs f.body) section.functions)
    (lowered_sections interfaces comp sections)
    ≡ map {A = TypedSection} (λ section. map branches section.functions) sections
sections_branch interfaces comp [] = refl
sections_branch interfaces comp (section ∷ sections) = λ i.
    functions_branch interfaces comp section.structs section.functions i ∷
    sections_branch interfaces (suc comp) sections i

pub has_branches : (program : ProgramTree) → HasBranches program (lowered_program program)
has_branches program = record { same = sections_branch program.interfaces 0 program.sections }
