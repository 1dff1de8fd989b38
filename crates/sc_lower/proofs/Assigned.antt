-- Lowered code assigns each temporary before it reads it.
use Rattle.sc_lower.proofs.Common.{Ahead, BinaryOp, Bool, Constant, Each, Global, Int, List, Local, Low, Lowered, Lows}
use Rattle.sc_lower.proofs.Common.{None, Option, Param, Reading, Some, TacOp, TacStmt, TacStmt-F, Ty, TypedExpr}
use Rattle.sc_lower.proofs.Common.{TypedKind, TypedKind-F, TypedStruct, Under, VarRef, Want, [], allocation, and_code}
use Rattle.sc_lower.proofs.Common.{and_first, and_from, and_rest, ap, at_place, between_op, binary, binary_code}
use Rattle.sc_lower.proofs.Common.{constant_of, count_code, either, eq-eqb, eqb-true, everywhere, expr_at}
use Rattle.sc_lower.proofs.Common.{expr_induction, false, false≢true, fold-TacStmt, fold-roll-TacStmt, from_first}
use Rattle.sc_lower.proofs.Common.{from_one, from_two, if◌then◌else◌, inl, inr, is_array, is_pointer, is_unsigned_op}
use Rattle.sc_lower.proofs.Common.{loaded, lone, lowered, lowered_step, map, map-TacStmt, member, move_op, not, not_op}
use Rattle.sc_lower.proofs.Common.{or_code, or_right, place_code, reading, reading_step, refl, replaced, roll-TacStmt}
use Rattle.sc_lower.proofs.Common.{row_first, row_fresh, scalar_in, size_of, subst, sym, target_cells, term_of}
use Rattle.sc_lower.proofs.Common.{term_step, true, truth_code, unary_op, with_parts, ℕ, ◌&&◌, ◌++◌, ◌+◌, ◌==◌, ◌||◌}
use Rattle.sc_lower.proofs.Common.{◌∙◌, ◌∷◌, ◌≡◌, ◌⊎◌}
use Rattle.sc_base.specs.declared.op.BinaryOp.TheVariants as op
use Rattle.sc_base.specs.declared.op.UnaryOp.TheVariants as unary
use Rattle.sc_core.specs.declared.expr.TypedKind.TheOpen as term
use Rattle.sc_core.specs.declared.value.Want.TheVariants as want
use Rattle.sc_tac.specs.declared.stmt.TacOp.TheVariants as tacop
use Rattle.sc_tac.specs.declared.stmt.Constant.TheVariants as constant
use Rattle.sc_tac.specs.declared.stmt.TacStmt.TheOpen as tac
use Rattle.sc_tac.specs.declared.stmt.TacStmt.TheVariants as emit
use Rattle.sc_tac.proofs.Induction.{Inside as CodeInside, stmt_induction as code_induction}
use Rattle.sc_lower.proofs.Strays.{is_straight, Straight}

-- whether a temporary is read first from the start of code, and whether the parts of its loops begin with no such read
abbrev pub first : ℕ → List TacStmt → Ahead → Bool
first t xs ahead = row_first (map (reading t) xs) ahead

abbrev pub fresh : ℕ → List TacStmt → Ahead → Bool
fresh t xs ahead = row_fresh (map (reading t) xs) ahead

pub first_append : (t : ℕ) (xs ys : List TacStmt) (ahead : Ahead) →
    first t (xs ++ ys) ahead ≡ first t xs (record ahead { following = first t ys ahead })
first_append t [] ys ahead = refl
first_append t (x ∷ xs) ys ahead =
    ap (λ b. (reading t x).first (record ahead { following = b })) (first_append t xs ys ahead)

pub fresh_append : (t : ℕ) (xs ys : List TacStmt) (ahead : Ahead) →
    fresh t xs (record ahead { following = first t ys ahead }) ≡ true → fresh t ys ahead ≡ true →
    fresh t (xs ++ ys) ahead ≡ true
fresh_append t [] ys ahead h k = k
fresh_append t (x ∷ xs) ys ahead h k =
    let here =
    (reading t x).fresh (record ahead { following = first t xs (record ahead { following = first t ys ahead }) }) in
    and_from _ _
    (ap (λ b. (reading t x).fresh (record ahead { following = b })) (first_append t xs ys ahead) ∙ and_first here _ h)
    (fresh_append t xs ys ahead (and_rest here _ h) k)

-- one statement
pub first_one : (t : ℕ) (k : TacStmt-F TacStmt) (c : TacStmt) (ahead : Ahead) → roll-TacStmt k ≡ c →
    first t (c ∷ []) ahead ≡ (reading_step t (map-TacStmt _ _ (reading t) k)).first ahead
first_one t k c ahead is = ap (λ x. (reading t x).first ahead) (sym is)
    ∙ ap (λ r. r.first ahead) (fold-roll-TacStmt Reading (reading_step t) k)

pub fresh_one : (t : ℕ) (k : TacStmt-F TacStmt) (c : TacStmt) (ahead : Ahead) → roll-TacStmt k ≡ c →
    (reading_step t (map-TacStmt _ _ (reading t) k)).fresh ahead ≡ true → fresh t (c ∷ []) ahead ≡ true
fresh_one t k c ahead is h =
    and_from _ true (ap (λ x. (reading t x).fresh ahead) (sym is)
    ∙ ap (λ r. r.fresh ahead) (fold-roll-TacStmt Reading (reading_step t) k) ∙ h) refl

-- STRAIGHT CODE HAS NO LOOPS
abbrev S : TacStmt → Type 0
S s = fold-TacStmt Bool (with_parts is_straight) s ≡ true → (t : ℕ) (ahead : Ahead) → (reading t s).fresh ahead ≡ true

rows_fresh : (xs : List TacStmt) → Each S xs → Straight xs → (t : ℕ) (ahead : Ahead) → fresh t xs ahead ≡ true
rows_fresh [] h all t ahead = refl
rows_fresh (x ∷ xs) h all t ahead =
    and_from _ _ (h.0 (and_first (fold-TacStmt Bool (with_parts is_straight) x) _ all) t _)
    (rows_fresh xs h.1 (and_rest (fold-TacStmt Bool (with_parts is_straight) x) _ all) t ahead)

straight_level : (k : TacStmt-F TacStmt) → CodeInside S k →
    with_parts is_straight (map-TacStmt _ _ (fold-TacStmt Bool (with_parts is_straight)) k) ≡ true →
    (t : ℕ) (ahead : Ahead) → (reading_step t (map-TacStmt _ _ (reading t) k)).fresh ahead ≡ true
straight_level (tac.Const dest value) h all t ahead = refl
straight_level (tac.Copy dest from) h all t ahead = refl
straight_level (tac.Op dest o left right) h all t ahead = refl
straight_level (tac.ObjectPlace dest object) h all t ahead = refl
straight_level (tac.GlobalPlace dest global) h all t ahead = refl
straight_level (tac.Load dest place pointer) h all t ahead = refl
straight_level (tac.Store place value) h all t ahead = refl
straight_level (tac.CallOwn dest function args) h all t ahead = refl
straight_level (tac.CallCross dest comp index args) h all t ahead = refl
straight_level (tac.Input dest) h all t ahead = refl
straight_level (tac.Output value) h all t ahead = refl
straight_level (tac.Alloc dest count words) h all t ahead = refl
straight_level (tac.Free pointer) h all t ahead = refl
straight_level (tac.Return value) h all t ahead = refl
straight_level (tac.If cond a b) h all t ahead =
    and_from _ _ (rows_fresh a h.0 (and_first (everywhere is_straight a) _ all) t ahead)
    (rows_fresh b h.1 (and_first (everywhere is_straight b) _ (and_rest (everywhere is_straight a) _ all)) t ahead)
straight_level (tac.Loop head body next) h all t ahead = absurd (false≢true all)
straight_level tac.Break h all t ahead = absurd (false≢true all)
straight_level tac.Continue h all t ahead = absurd (false≢true all)

straight_stmt : (s : TacStmt) → S s
straight_stmt = code_induction S (λ k h all t ahead.
    ap (λ r. r.fresh ahead) (fold-roll-TacStmt Reading (reading_step t) k)
    ∙ straight_level k h (sym (fold-roll-TacStmt Bool (with_parts is_straight) k) ∙ all) t ahead)

pub straight_fresh : (xs : List TacStmt) → Straight xs → (t : ℕ) (ahead : Ahead) → fresh t xs ahead ≡ true
straight_fresh [] all t ahead = refl
straight_fresh (x ∷ xs) all t ahead =
    and_from _ _ (straight_stmt x (and_first (fold-TacStmt Bool (with_parts is_straight) x) _ all) t _)
    (straight_fresh xs (and_rest (fold-TacStmt Bool (with_parts is_straight) x) _ all) t ahead)

-- READS
pub is_it : (x t : ℕ) → (x == t) ≡ true → t ≡ x
is_it x t h = sym (eqb-true x t h)

-- a statement that reads, then assigns: what is read first is read by it, or isn't what it assigns and is read after it
pub plain_reads : {B : Type 0} (t d : ℕ) (reads following : Bool) →
    (reads || (not (d == t || false) && following)) ≡ true →
    (reads ≡ true → B) → (following ≡ true → (t ≡ d) ⊎ B) → B
plain_reads {B} t d reads following h read later =
    either reads (not (d == t || false) && following) h read
    (λ k. other (d == t) refl (and_first (not (d == t || false)) following k)
    (later (and_rest (not (d == t || false)) following k))) where
      other : (b : Bool) → (d == t) ≡ b → not (d == t || false) ≡ true → (t ≡ d) ⊎ B → B
      other true is n either_way = absurd (false≢true (sym (ap (λ b. not (b || false)) is) ∙ n))
      other false is n (inl same) = absurd (false≢true (sym is ∙ eq-eqb d t (sym same)))
      other false is n (inr b) = b

-- a statement that reads and assigns nothing
pub only_reads : {B : Type 0} (reads following : Bool) → (reads || (true && following)) ≡ true → (reads ≡ true → B) →
    (following ≡ true → B) → B
only_reads reads following h read later = either reads following h read later

pub no_reads : {B : Type 0} → false ≡ true → B
no_reads h = absurd (false≢true h)

pub one_read : {B : Type 0} (x t : ℕ) → (x == t || false) ≡ true → (t ≡ x → B) → B
one_read x t h read = either (x == t) false h (λ k. read (is_it x t k)) no_reads

pub two_read : {B : Type 0} (x y t : ℕ) → (x == t || (y == t || false)) ≡ true → (t ≡ x → B) → (t ≡ y → B) → B
two_read x y t h left right = either (x == t) (y == t || false) h (λ k. left (is_it x t k)) (λ k. one_read y t k right)

-- SHAPES
-- where what follows reads `t` first only if `t` is `at` or `b` holds, the code reads `t` first only if `b` holds
abbrev pub Settles : ℕ → List TacStmt → Type 0
Settles at xs = (b : Bool) (t : ℕ) (ahead : Ahead) → (ahead.following ≡ true → (t ≡ at) ⊎ (b ≡ true)) →
    first t xs ahead ≡ true → b ≡ true

pub record Settled (l : Lows) : Type 0 where
  pub settles : (n : ℕ) → Settles (l n).at (l n).code

pub const_settles : (d : ℕ) (c : Constant) → Settles d (emit.Const d c ∷ [])
const_settles d c b t ahead following h =
    plain_reads t d false ahead.following
    (sym (first_one t (tac.Const d c) (emit.Const d c) ahead (emit.rolls-Const d c))
    ∙ h) no_reads following

place_settles : (params : ℕ) (v : VarRef) (d : ℕ) → Settles d (place_code params v d ∷ [])
place_settles params (Global g) d b t ahead following h =
    plain_reads t d false ahead.following (sym (first_one t (tac.GlobalPlace d g) (emit.GlobalPlace d g) ahead
    (emit.rolls-GlobalPlace d g)) ∙ h) no_reads following
place_settles params (Param p) d b t ahead following h =
    plain_reads t d false ahead.following (sym (first_one t (tac.ObjectPlace d p) (emit.ObjectPlace d p) ahead
    (emit.rolls-ObjectPlace d p)) ∙ h) no_reads following
place_settles params (Local l) d b t ahead following h =
    plain_reads t d false ahead.following
    (sym (first_one t (tac.ObjectPlace d (params + l)) (emit.ObjectPlace d (params + l)) ahead
    (emit.rolls-ObjectPlace d (params + l))) ∙ h) no_reads following

-- what a statement reads that assigns d: one temporary, or two
abbrev ReadsOne : ℕ → ℕ → List TacStmt → Type 0
ReadsOne d x xs = (b : Bool) (t : ℕ) (ahead : Ahead) → (ahead.following ≡ true → (t ≡ d) ⊎ (b ≡ true)) →
    first t xs ahead ≡ true → (t ≡ x) ⊎ (b ≡ true)

abbrev ReadsTwo : ℕ → ℕ → ℕ → List TacStmt → Type 0
ReadsTwo d x y xs = (b : Bool) (t : ℕ) (ahead : Ahead) → (ahead.following ≡ true → (t ≡ d) ⊎ (b ≡ true)) →
    first t xs ahead ≡ true → (t ≡ y) ⊎ ((t ≡ x) ⊎ (b ≡ true))

further : {A B C : Type 0} → A ⊎ B → (B → C) → A ⊎ C
further (inl a) f = inl a
further (inr b) f = inr (f b)

pub into : (x t : ℕ) (b : Bool) → (t ≡ x) ⊎ (b ≡ true) → (x == t || b) ≡ true
into x t b (inl e) = ap (λ c. c || b) (eq-eqb x t (sym e))
into x t b (inr h) = or_right (x == t) b h

pub out_of : (x t : ℕ) (b : Bool) → (x == t || b) ≡ true → (t ≡ x) ⊎ (b ≡ true)
out_of x t b h = either (x == t) b h (λ k. inl (is_it x t k)) (λ k. inr k)

one_op : (d : ℕ) (o : TacOp) (x : ℕ) → ReadsOne d x (emit.Op d o x None ∷ [])
one_op d o x b t ahead following h =
    plain_reads t d (x == t || false) ahead.following (sym (first_one t (tac.Op d o x None) (emit.Op d o x None) ahead
    (emit.rolls-Op d o x None)) ∙ h) (λ k. one_read x t k (λ e. inl e)) (λ g. further (following g) (λ a. inr a))

two_op : (d : ℕ) (o : TacOp) (x y : ℕ) → ReadsTwo d x y (emit.Op d o x (Some y) ∷ [])
two_op d o x y b t ahead following h =
    plain_reads t d (x == t || (y == t || false)) ahead.following
    (sym (first_one t (tac.Op d o x (Some y)) (emit.Op d o x (Some y)) ahead (emit.rolls-Op d o x (Some y))) ∙ h)
    (λ k. two_read x y t k (λ e. inr (inl e)) (λ e. inl e)) (λ g. further (following g) (λ a. inr (inr a)))

swapped_op : (d : ℕ) (o : TacOp) (x y : ℕ) → ReadsTwo d x y (emit.Op d o y (Some x) ∷ [])
swapped_op d o x y b t ahead following h =
    plain_reads t d (y == t || (x == t || false)) ahead.following
    (sym (first_one t (tac.Op d o y (Some x)) (emit.Op d o y (Some x)) ahead (emit.rolls-Op d o y (Some x))) ∙ h)
    (λ k. two_read y x t k (λ e. inl e) (λ e. inr (inl e))) (λ g. further (following g) (λ a. inr (inr a)))

lone_settled : (make : ℕ → TacStmt) → ((d : ℕ) → Settles d (make d ∷ [])) → Settled (lone make)
lone_settled make h = record { settles = λ n. h n }

load_reads : (at : ℕ) (pointer : Bool) (b : Bool) (t : ℕ) (ahead : Ahead) →
    (ahead.following ≡ true → (t ≡ at) ⊎ (b ≡ true)) → first t (emit.Load at at pointer ∷ []) ahead ≡ true →
    (t ≡ at) ⊎ (b ≡ true)
load_reads at pointer b t ahead following h =
    either (at == t || false) (not (at == t || false) && ahead.following)
    (sym (first_one t (tac.Load at at pointer) (emit.Load at at pointer) ahead (emit.rolls-Load at at pointer)) ∙ h)
    (λ k. one_read at t k (λ e. inl e)) (λ k. following (and_rest (not (at == t || false)) ahead.following k))

loaded_reads : (ty : Ty) (w : Want) (at : ℕ) (b : Bool) (t : ℕ) (ahead : Ahead) →
    (ahead.following ≡ true → (t ≡ at) ⊎ (b ≡ true)) → first t (loaded ty w at) ahead ≡ true → (t ≡ at) ⊎ (b ≡ true)
loaded_reads ty want.Place at b t ahead following h = following h
loaded_reads ty want.Value at b t ahead following h = by (is_array ty) h where
  by : (c : Bool) → first t (if c then [] else emit.Load at at (is_pointer ty) ∷ []) ahead ≡ true →
      (t ≡ at) ⊎ (b ≡ true)
  by true h = following h
  by false h = load_reads at (is_pointer ty) b t ahead following h

replaced_settled : (a : Lows) (last : ℕ → List TacStmt) → ((at : ℕ) → ReadsOne at at (last at)) → Settled a →
    Settled (replaced a last)
replaced_settled a last k ha = record {
  settles = λ n b t ahead following h.
      let at : ℕ = (a n).at in
      ha.settles n b t (record ahead { following = first t (last at) ahead }) (k at b t ahead following)
      (sym (first_append t (a n).code (last at) ahead) ∙ h);
}

pub place_settled : (ty : Ty) (w : Want) (l : Lows) → Settled l → Settled (at_place ty l w)
place_settled ty w l hl = replaced_settled l (loaded ty w) (loaded_reads ty w) hl

one_settled : (a : Lows) (make : ℕ → ℕ → TacStmt) → ((d x : ℕ) → ReadsOne d x (make d x ∷ [])) → Settled a →
    Settled (from_one a make)
one_settled a make k ha = record {
  settles = λ n b t ahead following h.
      let last : List TacStmt = make (a n).next (a n).at ∷ [] in
      ha.settles n b t (record ahead { following = first t last ahead }) (k (a n).next (a n).at b t ahead following)
      (sym (first_append t (a n).code last ahead) ∙ h);
}

two_settled : (a b : Lows) (make : ℕ → ℕ → ℕ → TacStmt) → ((d x y : ℕ) → ReadsTwo d x y (make d x y ∷ [])) → Settled a →
    Settled b → Settled (from_two a b make)
two_settled a c make k ha hb = record {
  settles = λ n b t ahead following h.
      let x : Low = a n in let y : Low = c x.next in
      let last : List TacStmt = make y.next x.at y.at ∷ [] in
      ha.settles n b t (record ahead { following = first t (y.code ++ last) ahead })
      (λ g. out_of (x.at) t b (hb.settles x.next (x.at == t || b) t (record ahead { following = first t last ahead })
      (λ f. further (k y.next x.at y.at b t ahead following f) (into x.at t b)) (sym (first_append t y.code last ahead)
      ∙ g)))
      (sym (first_append t x.code (y.code ++ last) ahead) ∙ h);
}

truth_reads : (ty : Ty) (d x : ℕ) → ReadsOne d x (truth_code ty d x)
truth_reads ty d x b t ahead following h =
    let last : List TacStmt = emit.Op d (tacop.Unary unary.Not Int) d None ∷ [] in
    one_op d (not_op ty) x b t (record ahead { following = first t last ahead })
    (λ g. one_op d (tacop.Unary unary.Not Int)
    d b t ahead following g) (sym (first_append t (emit.Op d (not_op ty) x None ∷ []) last ahead) ∙ h)

-- `If`: what it reads first is its condition, or read first in one of its parts
pub if_reads : {B : Type 0} (t c : ℕ) (xs ys : List TacStmt) (ahead : Ahead) →
    first t (emit.If c xs ys ∷ []) ahead ≡ true → (t ≡ c → B) → (first t xs ahead ≡ true → B) →
    (first t ys ahead ≡ true → B) → B
if_reads t c xs ys ahead h cond left right =
    either (c == t) (first t xs ahead || first t ys ahead)
    (sym (first_one t (tac.If c xs ys) (emit.If c xs ys) ahead (emit.rolls-If c xs ys)) ∙ h) (λ k. cond (is_it c t k))
    (λ k. either (first t xs ahead) (first t ys ahead) k left right)

-- what runs the code of a second value
abbrev Chooses : (ℕ → ℕ → List TacStmt → TacStmt) → Type 0
Chooses make = (d x : ℕ) (code : List TacStmt) (b : Bool) (t : ℕ) (ahead : Ahead) →
    (ahead.following ≡ true → (t ≡ d) ⊎ (b ≡ true)) → (first t code ahead ≡ true → b ≡ true) →
    first t (make d x code ∷ []) ahead ≡ true → (t ≡ x) ⊎ (b ≡ true)

and_chooses : Chooses and_code
and_chooses d x code b t ahead following inner h =
    if_reads t x code _ ahead h (λ e. inl e) (λ k. inr (inner k)) (λ k. inr (const_settles d _ b t ahead following k))

or_chooses : Chooses or_code
or_chooses d x code b t ahead following inner h =
    if_reads t x _ code ahead h (λ e. inl e) (λ k. inr (const_settles d _ b t ahead following k)) (λ k. inr (inner k))

first_settled : (a b : Lows) (last : ℕ → ℕ → List TacStmt) (make : ℕ → ℕ → List TacStmt → TacStmt) →
    ((d x : ℕ) → ReadsOne d x (last d x)) → Chooses make → Settled a → Settled b → Settled (from_first a b last make)
first_settled a c last make end k ha hb = record {
  settles = λ n b t ahead following h.
      let x : Low = a n in let y : Low = c x.next in
      let inner : List TacStmt = y.code ++ last y.next y.at in
      let whole : List TacStmt = make y.next x.at inner ∷ [] in
      ha.settles n b t (record ahead { following = first t whole ahead })
      (k y.next x.at inner b t ahead following
      (λ g. hb.settles x.next b t (record ahead { following = first t (last y.next y.at) ahead })
      (end y.next y.at b t ahead following) (sym (first_append t y.code (last y.next y.at) ahead) ∙ g)))
      (sym (first_append t x.code whole ahead) ∙ h);
}

-- EXPRESSIONS
module _ (structs : List TypedStruct) where
  binary_reads : (o : BinaryOp) (left right : Ty) (d x y : ℕ) →
      ReadsTwo d x y (binary_code structs o left right d x y ∷ [])
  binary_reads o left right d x y = by (is_pointer left) (is_pointer right) where
    by : (b c : Bool) →
        ReadsTwo d x y
        ((if b then (if c then emit.Op d (between_op o (target_cells structs left)) x (Some y) else emit.Op d
        (move_op structs o left right) x (Some y)) else (if c then emit.Op d (move_op structs o right left) y
        (Some x) else emit.Op d (tacop.Binary o (scalar_in (is_unsigned_op o left right))) x (Some y))) ∷ [])
    by true true = two_op d (between_op o (target_cells structs left)) x y
    by true false = two_op d (move_op structs o left right) x y
    by false true = swapped_op d (move_op structs o right left) x y
    by false false = two_op d (tacop.Binary o (scalar_in (is_unsigned_op o left right))) x y

  plain_settled : (o : BinaryOp) (a b : Lowered) → Settled (a.form want.Value) → Settled (b.form want.Value) →
      Settled (from_two (a.form want.Value) (b.form want.Value) (binary_code structs o a.ty b.ty))
  plain_settled o a b ha hb = two_settled _ _ (binary_code structs o a.ty b.ty) (binary_reads o a.ty b.ty) ha hb

  binary_settled : (o : BinaryOp) (a b : Lowered) → Settled (a.form want.Value) → Settled (b.form want.Value) →
      Settled (binary structs o a b)
  binary_settled op.OrElse a b ha hb = first_settled _ _ (truth_code b.ty) or_code (truth_reads b.ty) or_chooses ha hb
  binary_settled op.AndAlso a b ha hb =
      first_settled _ _ (truth_code b.ty) and_code (truth_reads b.ty) and_chooses ha hb
  binary_settled op.BitOr a b ha hb = plain_settled op.BitOr a b ha hb
  binary_settled op.BitXor a b ha hb = plain_settled op.BitXor a b ha hb
  binary_settled op.BitAnd a b ha hb = plain_settled op.BitAnd a b ha hb
  binary_settled op.Equal a b ha hb = plain_settled op.Equal a b ha hb
  binary_settled op.NotEqual a b ha hb = plain_settled op.NotEqual a b ha hb
  binary_settled op.Less a b ha hb = plain_settled op.Less a b ha hb
  binary_settled op.Greater a b ha hb = plain_settled op.Greater a b ha hb
  binary_settled op.LessEqual a b ha hb = plain_settled op.LessEqual a b ha hb
  binary_settled op.GreaterEqual a b ha hb = plain_settled op.GreaterEqual a b ha hb
  binary_settled op.ShiftLeft a b ha hb = plain_settled op.ShiftLeft a b ha hb
  binary_settled op.ShiftRight a b ha hb = plain_settled op.ShiftRight a b ha hb
  binary_settled op.Add a b ha hb = plain_settled op.Add a b ha hb
  binary_settled op.Sub a b ha hb = plain_settled op.Sub a b ha hb
  binary_settled op.Mul a b ha hb = plain_settled op.Mul a b ha hb
  binary_settled op.Div a b ha hb = plain_settled op.Div a b ha hb
  binary_settled op.Rem a b ha hb = plain_settled op.Rem a b ha hb

  member_settled : (offset : ℕ) (l : Lows) → Settled l → Settled (member structs offset l)
  member_settled offset l h =
      one_settled l (λ d x. emit.Op d (tacop.PointerMember offset) x None) (λ d x. one_op d (tacop.PointerMember offset)
      x) h

  module _ (params : ℕ) where
    abbrev P : TypedExpr → Type 0
    P e = (w : Want) → Settled ((lowered structs params e).form w)

    level : (ty : Ty) (k : TypedKind-F TypedKind TypedExpr) → Under P k → (w : Want) →
        Settled (term_of _ _ (term_step structs params) lowered_step k ty w)
    level ty (term.Literal word) h w = lone_settled _ (λ d. const_settles d (constant_of ty word))
    level ty (term.Variable v) h w = place_settled ty w _ (lone_settled (place_code params v) (place_settles params v))
    level ty (term.Unary o a) h w = one_settled _ _ (λ d x. one_op d (unary_op o (lowered structs params a).ty) x)
        (h want.Value)
    level ty (term.Binary o a b) h w = binary_settled o _ _ (h.0 want.Value) (h.1 want.Value)
    level ty (term.Index a b) h w =
        place_settled ty w _ (two_settled _ _ _ (λ d x y. two_op d (move_op structs op.Add (lowered structs params a).ty
        (lowered structs params b).ty) x y) (h.0 want.Value) (h.1 want.Value))
    level ty (term.Member a offset) h w = place_settled ty w _ (member_settled offset _ (h want.Place))
    level ty (term.Arrow a offset) h w = place_settled ty w _ (member_settled offset _ (h want.Value))
    level ty (term.Deref a) h w = place_settled ty w _ (h want.Value)
    level ty (term.Address a) h w = h want.Place
    level ty (term.SizeOf cells) h w = lone_settled _ (λ d. const_settles d (size_of cells))

    pub expr_settled : (e : TypedExpr) → P e
    expr_settled = expr_induction P (λ ty k h w.
        subst (λ l. Settled (l.form w)) (sym (expr_at _ _ (term_step structs params) lowered_step ty k))
        (level ty k h w))

one_alloc : (cells at : ℕ) → ReadsOne at at (emit.Alloc at at cells ∷ [])
one_alloc cells at b t ahead following h =
    plain_reads t at (at == t || false) ahead.following
    (sym (first_one t (tac.Alloc at at cells) (emit.Alloc at at cells) ahead (emit.rolls-Alloc at at cells)) ∙ h)
    (λ k. one_read at t k (λ e. inl e)) (λ g. further (following g) (λ a. inr a))

-- a count, and then a block
pub allocation_settled : (structs : List TypedStruct) (params : ℕ) (count : Option TypedExpr) (cells : ℕ) →
    Settled (allocation (count_code structs params count) cells)
allocation_settled structs params count cells =
    replaced_settled (count_code structs params count) (λ at. emit.Alloc at at cells ∷ []) (one_alloc cells) (by count)
  where
    by : (count : Option TypedExpr) → Settled (count_code structs params count)
    by None = lone_settled (λ d. emit.Const d (constant.Word 1)) (λ d. const_settles d (constant.Word 1))
    by (Some e) = expr_settled structs params e want.Value

pub local_settled : (params k : ℕ) (ty : Ty) → Settled (at_place ty (lone (place_code params (Local k))) want.Place)
local_settled params k ty =
    place_settled ty want.Place (lone (place_code params (Local k))) (lone_settled (place_code params (Local k))
    (place_settles params (Local k)))
