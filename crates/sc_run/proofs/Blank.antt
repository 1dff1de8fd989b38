-- Blocks whose ended variables hold no cells are loaded from and stored to as the others; expressions give the same.
use Rattle.sc_run.proofs.Common.{BadPointer, BadType, Block, Blocks, Bool, Cause, Cell, Dangling, Err, Here, List}
use Rattle.sc_run.proofs.Common.{Meant, Memory, None, Ok, Option, OutOfBounds, Ptr, Result, Some, TypedExpr}
use Rattle.sc_run.proofs.Common.{TypedStruct, Value, Ways, Word, [], ap, applied, applied_one, at_place, at_pointer}
use Rattle.sc_run.proofs.Common.{between, binary, bind, blocks_for, c_arith, cell_of, cells_at, choose, cleared, ended}
use Rattle.sc_run.proofs.Common.{expr_at, false, given_back, if◌then◌else◌, is_array, is_inside, is_live, is_pointer}
use Rattle.sc_run.proofs.Common.{is_some, is_true, is_unsigned, is_unsigned_op, length, length-map, live_cells, living}
use Rattle.sc_run.proofs.Common.{load, loaded, map, map-append, map-set, meant, meant_step, moved, moved_back, moved_on}
use Rattle.sc_run.proofs.Common.{nat_lt, not, of_bool, on_words, place_at, pos, refl, replicate, same_place, slice_get}
use Rattle.sc_run.proofs.Common.{slice_set, store, subst, suc, sym, target_cells, term_of, term_step, true, typed}
use Rattle.sc_run.proofs.Common.{values, variable, variable_at, wanted, ways, with_blocks, with_cell, zero, ℕ, ℤ, ◌&&◌}
use Rattle.sc_run.proofs.Common.{◌++◌, ◌+ℤ◌, ◌==◌, ◌∙◌, ◌∷◌, ◌≡◌}
use Rattle.std.proofs.lemmas.Option.{slice_get-map}
use Rattle.std.specs.Option.{option_map}
use Rattle.std.specs.Prelude.{fold}
use Rattle.sc_zone.specs.declared.span.Span.{Span}
use Rattle.sc_core.specs.Prelude.{freed, over, spans_of, with_block, without_block}
use Rattle.sc_core.specs.declared.cause.Cause.TheVariants.{BadFree}
use Rattle.sc_core.specs.declared.value.Value.TheVariants.{Null}
use Rattle.sc_core.specs.declared.value.Pointer.{Pointer}
use Rattle.sc_base.specs.declared.op.BinaryOp.{BinaryOp}
use Rattle.sc_base.specs.declared.op.BinaryOp.TheVariants as op
use Rattle.sc_core.specs.declared.ty.Ty.{Ty}
use Rattle.sc_core.specs.declared.expr.TypedKind.{TypedKind, TypedKind-F}
use Rattle.sc_core.specs.declared.expr.TypedKind.TheOpen as term
use Rattle.sc_core.specs.declared.value.Want.{Want}
use Rattle.sc_core.specs.declared.value.Want.TheVariants as want
use Rattle.sc_core.proofs.Induction.{Under, expr_induction}
use Rattle.sc_core.specs.declared.value.Cell.TheVariants as cell
use Rattle.sc_blocks.specs.Rows.{ended_block, free_cell}

abbrev pub blank : Blocks → Blocks
blank bs = map given_back bs

pub by_ok : {A B : Type 0} (r : Result A Cause) (f g : A → Result B Cause) → ((x : A) → f x ≡ g x) → bind r f ≡ bind r g
by_ok (Err cause) f g h = refl
by_ok (Ok x) f g h = h x

module _ (cells : List Cell) (place : Option ℕ) where
  abbrev block_of : Bool → Block
  block_of live = record { live = live; cells = cells; place = place }

  given_live : (live : Bool) → (given_back (block_of live)).live ≡ live
  given_live true = refl
  given_live false = refl

  given_cells : (live : Bool) → live_cells (Some (given_back (block_of live))) ≡ live_cells (Some (block_of live))
  given_cells true = refl
  given_cells false = refl

  given_living : (live : Bool) → living (Some (given_back (block_of live))) ≡ living (Some (block_of live))
  given_living true = refl
  given_living false = refl

  given_span : (spans : List Span) (live : Bool) →
      with_block spans (given_back (block_of live)) ≡ with_block spans (block_of live)
  given_span spans true = refl
  given_span spans false = refl

  given_twice : (live : Bool) → given_back (given_back (block_of live)) ≡ given_back (block_of live)
  given_twice true = refl
  given_twice false = refl

pub live_same : (bs : Blocks) (k : ℕ) → is_live (slice_get (blank bs) k) ≡ is_live (slice_get bs k)
live_same [] k = refl
live_same (b ∷ bs) zero = given_live b.cells b.place b.live
live_same (b ∷ bs) (suc k) = live_same bs k

pub cells_same : (bs : Blocks) (k : ℕ) → cells_at (blank bs) k ≡ cells_at bs k
cells_same [] k = refl
cells_same (b ∷ bs) zero = given_cells b.cells b.place b.live
cells_same (b ∷ bs) (suc k) = cells_same bs k

living_same : (bs : Blocks) (k : ℕ) → living (slice_get (blank bs) k) ≡ living (slice_get bs k)
living_same [] k = refl
living_same (b ∷ bs) zero = given_living b.cells b.place b.live
living_same (b ∷ bs) (suc k) = living_same bs k

spans_from : (spans : List Span) (bs : Blocks) → fold with_block spans (blank bs) ≡ fold with_block spans bs
spans_from spans [] = refl
spans_from spans (b ∷ bs) = ap (λ l. fold with_block l (blank bs)) (given_span b.cells b.place spans b.live) ∙
    spans_from (with_block spans b) bs

-- the zone is that of the blocks that live
pub spans_same : (bs : Blocks) → spans_of (blank bs) ≡ spans_of bs
spans_same bs = spans_from [] bs

blank_twice : (bs : Blocks) → blank (blank bs) ≡ blank bs
blank_twice [] = refl
blank_twice (b ∷ bs) = λ i. given_twice b.cells b.place b.live i ∷ blank_twice bs i

pub length_same : (bs : Blocks) → length (blank bs) ≡ length bs
length_same bs = length-map bs _

loaded_same : (bs : Blocks) (pointer : Bool) (o : Option Cell) → loaded (blank bs) pointer o ≡ loaded bs pointer o
loaded_same bs pointer (Some (cell.Ptr p)) =
    ap (λ b. if b then (if pointer then Ok (Ptr p) else Err BadType) else Err Dangling) (live_same bs p.block)
loaded_same bs pointer _ = refl

pub load_same : (bs : Blocks) (pointer : Bool) (q : Value) → load (blank bs) pointer q ≡ load bs pointer q
load_same bs pointer (Ptr p) = ap (λ c. bind c (λ cells. loaded (blank bs) pointer (slice_get cells p.index)))
    (cells_same bs p.block) ∙ by_ok (cells_at bs p.block) (λ cells. loaded (blank bs) pointer (slice_get cells p.index))
    (λ cells. loaded bs pointer _) (λ cells. loaded_same bs pointer _)
load_same bs pointer _ = refl

abbrev pub blanked : Result Blocks Cause → Result Blocks Cause
blanked r = bind r (λ bs. Ok (blank bs))

module _ (bs : Blocks) (p : Pointer) (v : Value) (place : Option ℕ) where
  with_same : (cells : List Cell) (b : Bool) →
      (if b then Ok (slice_set (blank bs) p.block (block_of cells place true)) else Err OutOfBounds) ≡
      blanked (if b then Ok (slice_set bs p.block (block_of cells place true)) else Err OutOfBounds)
  with_same cells true = ap Ok (sym (map-set _ bs p.block _))
  with_same cells false = refl

  one_same : (cells : List Cell) (live : Bool) → bind (living (Some (block_of cells place live)))
      (with_cell (blank bs) p v) ≡ blanked (bind (living (Some (block_of cells place live))) (with_cell bs p v))
  one_same cells true = with_same (slice_set cells p.index (cell_of v)) (nat_lt p.index (length cells))
  one_same cells false = refl

stored_same : (bs : Blocks) (p : Pointer) (v : Value) (o : Option Block) →
    bind (living o) (with_cell (blank bs) p v) ≡ blanked (bind (living o) (with_cell bs p v))
stored_same bs p v None = refl
stored_same bs p v (Some b) = one_same bs p v b.place b.cells b.live

pub store_same : (bs : Blocks) (q v : Value) → store (blank bs) q v ≡ blanked (store bs q v)
store_same bs (Ptr p) v = ap (λ c. bind c (with_cell (blank bs) p v)) (living_same bs p.block) ∙ stored_same bs p v _
store_same bs _ v = refl

module _ (bs : Blocks) (k : ℕ) (cells : List Cell) (place : Option ℕ) where
  over_same : (b : Bool) →
      blanked (if b then Ok (slice_set (blank bs) k (over (block_of cells place true))) else Err BadFree) ≡
      blanked (if b then Ok (slice_set bs k (over (block_of cells place true))) else Err BadFree)
  over_same true = ap Ok (map-set _ (blank bs) k _ ∙ ap (λ cs. slice_set cs k ended_block) (blank_twice bs) ∙
      sym (map-set _ bs k _))
  over_same false = refl

  gone_same : (live : Bool) →
      blanked (without_block (blank bs) k (Some (given_back (block_of cells place live)))) ≡
      blanked (without_block bs k (Some (block_of cells place live)))
  gone_same true = over_same (is_some place)
  gone_same false = refl

without_same : (bs : Blocks) (k : ℕ) (o : Option Block) →
    blanked (without_block (blank bs) k (option_map given_back o)) ≡ blanked (without_block bs k o)
without_same bs k None = refl
without_same bs k (Some b) = gone_same bs k b.cells b.place b.live

pub free_same : (bs : Blocks) (v : Value) → free_cell (blank bs) (cell_of v) ≡ blanked (freed bs v)
free_same bs (Word w) = refl
free_same bs Null = refl
free_same bs (Ptr p) = by (p.index == 0) where
  by : (b : Bool) →
      blanked (if b then without_block (blank bs) p.block (slice_get (blank bs) p.block) else Err BadFree) ≡
      blanked (if b then without_block bs p.block (slice_get bs p.block) else Err BadFree)
  by true = ap (λ o. blanked (without_block (blank bs) p.block o)) (slice_get-map given_back bs p.block) ∙
      without_same bs p.block (slice_get bs p.block)
  by false = refl

pub blank_more : (bs cs : Blocks) → blank (bs ++ cs) ≡ blank bs ++ blank cs
blank_more bs cs = map-append _ bs cs

pub blank_new : (sizes : List ℕ) (args : List Value) → blank (blocks_for sizes args) ≡ blocks_for sizes args
blank_new [] args = refl
blank_new (n ∷ sizes) [] = ap (λ bs. variable (replicate n cell.Undef) ∷ bs) (blank_new sizes [])
blank_new (n ∷ sizes) (v ∷ args) = ap (λ bs. variable (cell_of v ∷ []) ∷ bs) (blank_new sizes args)

-- what is left of blocks does not depend on the cells of those that had ended
pub left_same : (first count : ℕ) (bs : Blocks) → cleared first count (blank bs) ≡ blank (ended first count bs)
left_same zero zero (b ∷ bs) = λ i. given_twice b.cells b.place b.live i ∷ left_same zero zero bs i
left_same zero (suc count) (b ∷ bs) = ap (λ cs. ended_block ∷ cs) (left_same zero count bs)
left_same (suc first) count (b ∷ bs) = λ i. given_twice b.cells b.place b.live i ∷ left_same first count bs i
left_same _ _ [] = refl

with_if : (b : Bool) (bs cs : Blocks) → blank (if b then bs else cs) ≡ (if b then blank bs else blank cs)
with_if true bs cs = refl
with_if false bs cs = refl

-- the memory as it is seen, with other blocks in a compartment
pub memory_with : (comp : ℕ) (bs : Blocks) (memory : Memory) →
    (λ c. blank (with_blocks comp bs memory c)) ≡ with_blocks comp (blank bs) (λ c. blank (memory c))
memory_with comp bs memory = λ i c. with_if (c == comp) bs (memory c) i

abbrev pub WaySame : Ways → Type 0
WaySame e = (wish : Want) (bs : Blocks) → e wish (blank bs) ≡ e wish bs

moved_same : (bs : Blocks) (by : ℤ) (q : Value) → moved (blank bs) by q ≡ moved bs by q
moved_same bs by (Ptr p) = ap (λ c. bind c (λ cells. place_at p.block (pos p.index +ℤ by) (length cells)))
    (cells_same bs p.block)
moved_same bs by _ = refl

on_same : (bs : Blocks) (cells : ℕ) (unsigned : Bool) (q i : Value) →
    moved_on (blank bs) cells unsigned q i ≡ moved_on bs cells unsigned q i
on_same bs cells unsigned q (Word i) = moved_same bs _ q
on_same bs cells unsigned q _ = refl

back_same : (bs : Blocks) (cells : ℕ) (unsigned : Bool) (q i : Value) →
    moved_back (blank bs) cells unsigned q i ≡ moved_back bs cells unsigned q i
back_same bs cells unsigned q (Word i) = moved_same bs _ q
back_same bs cells unsigned q _ = refl

inside_same : (bs : Blocks) (p : Pointer) → is_inside (blank bs) p ≡ is_inside bs p
inside_same bs p = ap (λ c. bind c (λ cells. Ok (nat_lt p.index (length cells)))) (cells_same bs p.block)

place_same : (bs : Blocks) (v w : Value) → same_place (blank bs) v w ≡ same_place bs v w
place_same bs (Ptr p) (Ptr q) = λ i. if p.block == q.block then Ok (p.index == q.index) else bind (inside_same bs p i)
    (λ a. bind (inside_same bs q i) (λ b. if a && b then Ok false else Err BadPointer))
place_same bs Null Null = refl
place_same bs _ _ = refl

between_same : (bs : Blocks) (o : BinaryOp) (cells : ℕ) (v w : Value) →
    between (blank bs) o cells v w ≡ between bs o cells v w
between_same bs op.Equal cells v w = ap (λ r. bind r (λ b. Ok (of_bool b))) (place_same bs v w)
between_same bs op.NotEqual cells v w = ap (λ r. bind r (λ b. Ok (of_bool (not b)))) (place_same bs v w)
between_same bs o cells v w = refl

wanted_same : (ty : Ty) (q : Value) → WaySame (wanted ty q)
wanted_same ty q want.Place bs = refl
wanted_same ty q want.Value bs = ap (λ r. if is_array ty then Ok q else r) (load_same bs _ q)

at_same : (ty : Ty) (place : Blocks → Result Value Cause) → ((bs : Blocks) → place (blank bs) ≡ place bs) →
    WaySame (at_place ty place)
at_same ty place h wish bs = ap (λ r. bind r (λ q. wanted ty q wish (blank bs))) (h bs) ∙ by_ok (place bs)
    (λ q. wanted ty q wish _) (λ q. wanted ty q wish bs) (λ q. wanted_same ty q wish bs)

module _ (structs : List TypedStruct) where
  pointer_same : (bs : Blocks) (o : BinaryOp) (l r : Ty) (v w : Value) →
      at_pointer structs (blank bs) o l r v w ≡ at_pointer structs bs o l r v w
  pointer_same bs op.Sub l r v w = back_same bs _ _ v w
  pointer_same bs o l r v w = on_same bs _ _ v w

  applied_same : (bs : Blocks) (o : BinaryOp) (l r : Ty) (v w : Value) →
      applied c_arith structs (blank bs) o l r v w ≡ applied c_arith structs bs o l r v w
  applied_same bs o l r v w = λ i. if is_pointer l then
      (if is_pointer r then between_same bs o (target_cells structs l) v w i else pointer_same bs o l r v w i) else
      (if is_pointer r then pointer_same bs o r l w v i else on_words c_arith (is_unsigned_op o l r) o v w)

  both_same : (o : BinaryOp) (a b : Meant) → WaySame a.way → WaySame b.way → (bs : Blocks) →
      bind (a.way want.Value (blank bs)) (λ v. bind (b.way want.Value (blank bs))
      (applied c_arith structs (blank bs) o a.ty b.ty v)) ≡
      bind (a.way want.Value bs) (λ v. bind (b.way want.Value bs) (applied c_arith structs bs o a.ty b.ty v))
  both_same o a b h k bs = λ i.
      bind (h want.Value bs i) (λ v. bind (k want.Value bs i) (λ w. applied_same bs o a.ty b.ty v w i))

  binary_same : (o : BinaryOp) (a b : Meant) → WaySame a.way → WaySame b.way → (bs : Blocks) →
      binary c_arith structs o a b (blank bs) ≡ binary c_arith structs o a b bs
  binary_same op.AndAlso a b h k bs = λ i.
      bind (h want.Value bs i) (λ v. choose v (bind (k want.Value bs i) (λ w. Ok (of_bool (is_true w)))) (Ok (Word 0)))
  binary_same op.OrElse a b h k bs = λ i.
      bind (h want.Value bs i) (λ v. choose v (Ok (Word 1)) (bind (k want.Value bs i) (λ w. Ok (of_bool (is_true w)))))
  binary_same o a b h k bs = both_same o a b h k bs

  module _ (here : Here) (params : ℕ) where
    abbrev meant_by : TypedExpr → Meant
    meant_by e = meant c_arith structs here params e

    abbrev Same : TypedExpr → Type 0
    Same e = WaySame (meant_by e).way

    term_same : (ty : Ty) (k : TypedKind-F TypedKind TypedExpr) → Under Same k →
        WaySame (term_of _ _ (term_step c_arith structs here params) meant_step k ty)
    term_same ty (term.Literal word) h = λ wish bs. refl
    term_same ty (term.Variable v) h = at_same ty (λ bs. Ok (variable_at here params v)) (λ bs. refl)
    term_same ty (term.Unary o a) h = λ wish bs. ap (λ r. bind r (applied_one c_arith (is_unsigned (meant_by a).ty) o))
        (h want.Value bs)
    term_same ty (term.Binary o a b) h = λ wish bs. binary_same o (meant_by a) (meant_by b) h.0 h.1 bs
    term_same ty (term.Index a b) h = at_same ty _ (λ bs i. bind (h.0 want.Value bs i)
        (λ v. bind (h.1 want.Value bs i) (λ w. pointer_same bs op.Add (meant_by a).ty (meant_by b).ty v w i)))
    term_same ty (term.Member a offset) h = at_same ty _
        (λ bs i. bind (h want.Place bs i) (λ q. moved_same bs (pos offset) q i))
    term_same ty (term.Arrow a offset) h = at_same ty _
        (λ bs i. bind (h want.Value bs i) (λ q. moved_same bs (pos offset) q i))
    term_same ty (term.Deref a) h = at_same ty _ (λ bs. h want.Value bs)
    term_same ty (term.Address a) h = λ wish bs. h want.Place bs
    term_same ty (term.SizeOf cells) h = λ wish bs. refl

    layer_same : (ty : Ty) (k : TypedKind-F TypedKind TypedExpr) → Under Same k → Same (typed ty k)
    layer_same ty k h = subst (λ m. WaySame m.way) (sym (expr_at _ _ (term_step c_arith structs here params) _ ty k))
        (term_same ty k h)

    pub way_same : (e : TypedExpr) → WaySame (ways c_arith structs here params e)
    way_same e = expr_induction Same layer_same e

    pub values_same : (es : List TypedExpr) (bs : Blocks) → values (map (ways c_arith structs here params) es)
        (blank bs) ≡ values (map (ways c_arith structs here params) es) bs
    values_same [] bs = refl
    values_same (e ∷ es) bs = λ i. bind (way_same e want.Value bs i)
        (λ v. bind (values_same es bs i) (λ vs. Ok (v ∷ vs)))
