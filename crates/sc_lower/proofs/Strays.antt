-- No `Break` or `Continue` of a function's code stands outside of loops.
use Rattle.sc_lower.proofs.Common.{Bool, CallTarget, Callable, Each, Forms, Inside, Judged, List, Local, Low, Lows}
use Rattle.sc_lower.proofs.Common.{Many, None, Option, Part, Parts, Scope, Some, TacStmt, TacStmt-F, Ty, TypedCall}
use Rattle.sc_lower.proofs.Common.{TypedExpr, TypedLocal, TypedSimple, TypedSimpleKind, TypedStmt, TypedStmtKind}
use Rattle.sc_lower.proofs.Common.{TypedStmtKind-F, TypedStruct, Want, [], after, all_go_into, allocate_at, allocation}
use Rattle.sc_lower.proofs.Common.{and_first, and_rest, ap, arith as numbers, assign, assign_call_fits, assign_fits}
use Rattle.sc_lower.proofs.Common.{at_place, block_code, body_fits, both, call_code, call_fits, call_for}
use Rattle.sc_lower.proofs.Common.{call_statement, count_code, count_fits, cycle, everywhere, false, false≢true}
use Rattle.sc_lower.proofs.Common.{first_of, fold-TacStmt, fold-roll-TacStmt, fork, forms, free_value, goes_into}
use Rattle.sc_lower.proofs.Common.{has_none, in_turn, init_code, init_fits, inits_code, int_fits, is_scalar, is_target}
use Rattle.sc_lower.proofs.Common.{is_type, judged, just, kind_fits, kind_step, layer_of, length, list_all, lone}
use Rattle.sc_lower.proofs.Common.{malloc_fits, many, map, map-TacStmt, not, option_map, or_from, part_code, part_fits}
use Rattle.sc_lower.proofs.Common.{place_code, points, refl, return_value, returned_call_fits, roll-TacStmt, signed}
use Rattle.sc_lower.proofs.Common.{simple_code, simple_fits, some_hold, stmt_at, stmt_code, stmt_fits, stmt_induction}
use Rattle.sc_lower.proofs.Common.{store_at, stray_break, stray_continue, subst, suc, sym, target_signature}
use Rattle.sc_lower.proofs.Common.{test as tests, true, variable_ty, with_parts, ℕ, ◌++◌, ◌||◌, ◌∙◌, ◌∷◌, ◌≡◌}
use Rattle.sc_core.specs.declared.expr.CallTarget.TheVariants as target
use Rattle.sc_core.specs.declared.stmt.TypedStmtKind.TheOpen as layer
use Rattle.sc_core.specs.declared.stmt.TypedSimpleKind.TheVariants as simple
use Rattle.sc_core.specs.declared.value.Want.TheVariants as want
use Rattle.sc_tac.specs.declared.stmt.Constant.TheVariants as constant
use Rattle.sc_tac.specs.declared.stmt.TacStmt.TheOpen as tac
use Rattle.sc_tac.specs.declared.stmt.TacStmt.TheVariants as emit
use Rattle.sc_tac.proofs.Induction.{Inside as CodeInside, stmt_induction as code_induction}
use Rattle.sc_lower.proofs.Tests.{PassedBy, PointsToElements, all_append, all_one, expr_clean, lone_clean, malloc_count}
use Rattle.sc_lower.proofs.Tests.{malloc_place, place_clean, place_passes, points_fits, scalar_fits}
use Rattle.sc_lower.proofs.Passing.{returned_value, InitsFit}

-- STRAIGHT CODE
-- it neither loops nor leaves a loop
abbrev pub is_straight : TacStmt-F Bool → Bool
is_straight (tac.Loop head body next) = false
is_straight tac.Break = false
is_straight tac.Continue = false
is_straight _ = true

pub straight_passed : (temps : ℕ) (scope : Scope) → PassedBy temps scope is_straight
straight_passed temps scope (tac.Loop head body next) h = absurd h
straight_passed temps scope tac.Break h = absurd h
straight_passed temps scope tac.Continue h = absurd h
straight_passed temps scope _ h = refl

abbrev pub Straight : List TacStmt → Type 0
Straight xs = everywhere is_straight xs ≡ true

module _ (scope : Scope) (structs : List TypedStruct) (elements : PointsToElements scope structs) where
  pub expr_straight : (e : TypedExpr) → (judged scope e).fits ≡ true → (w : Want) (n : ℕ) →
      Straight (forms structs (length scope.params) e w n).code
  expr_straight e h w n =
      let t : ℕ = (forms structs (length scope.params) e w n).next in
      (expr_clean t scope is_straight (straight_passed t scope) structs elements e h w).passes n (omega numbers)

  pub value_straight : (e : TypedExpr) → (judged scope e).fits ≡ true → (n : ℕ) →
      Straight (forms structs (length scope.params) e want.Value n).code
  value_straight e h n = expr_straight e h want.Value n

  pub target_straight : (place : TypedExpr) → is_target (judged scope place) ≡ true → (n : ℕ) →
      Straight (forms structs (length scope.params) place want.Place n).code
  target_straight place h n = expr_straight place (and_first (judged scope place).fits _ h) want.Place n

  pub local_straight : (k : ℕ) (t : Ty) → is_type (variable_ty scope (Local k)) t ≡ true → (w : Want) (n : ℕ) →
      Straight (at_place t (lone (place_code (length scope.params) (Local k))) w n).code
  local_straight k t h w n =
      let m : ℕ = (at_place t (lone (place_code (length scope.params) (Local k))) w n).next in
      (place_clean m scope is_straight (straight_passed m scope) t w
      (lone (place_code (length scope.params) (Local k))) (lone_clean m scope is_straight (straight_passed m scope)
      (place_code (length scope.params) (Local k)) (place_passes m scope is_straight (straight_passed m scope) (Local k)
      t h))).passes n (omega numbers)

  count_straight : (count : Option TypedExpr) → count_fits (option_map (judged scope) count) ≡ true → (n : ℕ) →
      Straight (count_code structs (length scope.params) count n).code
  count_straight None h n =
      all_one is_straight (tac.Const n (constant.Word 1)) (emit.Const n (constant.Word 1))
      (emit.rolls-Const n (constant.Word 1)) refl
  count_straight (Some e) h n = value_straight e (int_fits (judged scope e) h) n

  -- a count, and then a block
  pub allocation_straight : (count : Option TypedExpr) (cells : ℕ) → count_fits (option_map (judged scope) count)
      ≡ true → (n : ℕ) → Straight (allocation (count_code structs (length scope.params) count) cells n).code
  allocation_straight count cells h n =
      let x : Low = count_code structs (length scope.params) count n in
      all_append is_straight x.code (emit.Alloc x.at x.at cells ∷ []) (count_straight count h n)
      (all_one is_straight (tac.Alloc x.at x.at cells) (emit.Alloc x.at x.at cells) (emit.rolls-Alloc x.at x.at cells)
      refl)

-- STRAYS
-- a statement without others inside, which goes on or ends the call
abbrev is_plain : TacStmt-F Bool → Bool
is_plain (tac.If cond a b) = false
is_plain (tac.Loop head body next) = false
is_plain tac.Break = false
is_plain tac.Continue = false
is_plain _ = true

-- what is found in statements, by their layers: nothing in those without others inside, but for `Break` and `Continue`
record Strays (stray : TacStmt-F Bool → Bool) : Type 0 where
  pub plain : (k : TacStmt-F Bool) → is_plain k ≡ true → stray k ≡ false
  pub fork : (c : ℕ) (a b : List Bool) → some_hold a ≡ false → some_hold b ≡ false → stray (tac.If c a b) ≡ false
  pub cycle : (head body next : List Bool) → (stray tac.Break ≡ false → some_hold head ≡ false) →
      some_hold next ≡ false →
      stray (tac.Loop head body next) ≡ false

break_plain : (k : TacStmt-F Bool) → is_plain k ≡ true → stray_break k ≡ false
break_plain (tac.Const dest value) h = refl
break_plain (tac.Copy dest from) h = refl
break_plain (tac.Op dest o left right) h = refl
break_plain (tac.ObjectPlace dest object) h = refl
break_plain (tac.GlobalPlace dest global) h = refl
break_plain (tac.Load dest place pointer) h = refl
break_plain (tac.Store place value) h = refl
break_plain (tac.CallOwn dest function args) h = refl
break_plain (tac.CallCross dest comp index args) h = refl
break_plain (tac.Input dest) h = refl
break_plain (tac.Output value) h = refl
break_plain (tac.Alloc dest count words) h = refl
break_plain (tac.Free pointer) h = refl
break_plain (tac.Return value) h = refl
break_plain (tac.If cond a b) h = absurd (false≢true h)
break_plain (tac.Loop head body next) h = absurd (false≢true h)
break_plain tac.Break h = absurd (false≢true h)
break_plain tac.Continue h = absurd (false≢true h)

continue_plain : (k : TacStmt-F Bool) → is_plain k ≡ true → stray_continue k ≡ false
continue_plain (tac.Const dest value) h = refl
continue_plain (tac.Copy dest from) h = refl
continue_plain (tac.Op dest o left right) h = refl
continue_plain (tac.ObjectPlace dest object) h = refl
continue_plain (tac.GlobalPlace dest global) h = refl
continue_plain (tac.Load dest place pointer) h = refl
continue_plain (tac.Store place value) h = refl
continue_plain (tac.CallOwn dest function args) h = refl
continue_plain (tac.CallCross dest comp index args) h = refl
continue_plain (tac.Input dest) h = refl
continue_plain (tac.Output value) h = refl
continue_plain (tac.Alloc dest count words) h = refl
continue_plain (tac.Free pointer) h = refl
continue_plain (tac.Return value) h = refl
continue_plain (tac.If cond a b) h = absurd (false≢true h)
continue_plain (tac.Loop head body next) h = absurd (false≢true h)
continue_plain tac.Break h = absurd (false≢true h)
continue_plain tac.Continue h = absurd (false≢true h)

break_strays : Strays stray_break
break_strays = record {
  plain = break_plain;
  fork = λ c a b ha hb. or_from (some_hold a) _ ha (or_from (some_hold b) false hb refl);
  cycle = λ head body next h k. refl;
}

continue_strays : Strays stray_continue
continue_strays = record {
  plain = continue_plain;
  fork = λ c a b ha hb. or_from (some_hold a) _ ha (or_from (some_hold b) false hb refl);
  cycle = λ head body next h k. or_from (some_hold head) (some_hold next) (h refl) k;
}

module _ (stray : TacStmt-F Bool → Bool) (strays : Strays stray) where
  abbrev Free : List TacStmt → Type 0
  Free xs = some_hold (map (fold-TacStmt Bool stray) xs) ≡ false

  none_append : (xs ys : List TacStmt) → Free xs → Free ys → Free (xs ++ ys)
  none_append [] ys h k = k
  none_append (x ∷ xs) ys h k = by (fold-TacStmt Bool stray x) h (none_append xs ys) where
    by : (b : Bool) → (b || some_hold (map (fold-TacStmt Bool stray) xs)) ≡ false →
        (Free xs → Free ys → Free (xs ++ ys)) → (b || some_hold (map (fold-TacStmt Bool stray) (xs ++ ys))) ≡ false
    by true h later = absurd (false≢true (sym h))
    by false h later = later h k

  none_one : (k : TacStmt-F TacStmt) (c : TacStmt) → roll-TacStmt k ≡ c →
      stray (map-TacStmt _ _ (fold-TacStmt Bool stray) k) ≡ false → Free (c ∷ [])
  none_one k c is h = or_from _ false (ap (fold-TacStmt Bool stray) (sym is) ∙ fold-roll-TacStmt Bool stray k ∙ h) refl

  none_after : (c : TacStmt) (ys : List TacStmt) → Free (c ∷ []) → Free ys → Free (c ∷ ys)
  none_after c ys h k = none_append (c ∷ []) ys h k

  -- straight code has none
  abbrev S : TacStmt → Type 0
  S s = fold-TacStmt Bool (with_parts is_straight) s ≡ true → fold-TacStmt Bool stray s ≡ false

  rows_none : (xs : List TacStmt) → Each S xs → Straight xs → Free xs
  rows_none [] h all = refl
  rows_none (x ∷ xs) h all =
      or_from _ _ (h.0 (and_first (fold-TacStmt Bool (with_parts is_straight) x) _ all))
      (rows_none xs h.1 (and_rest (fold-TacStmt Bool (with_parts is_straight) x) _ all))

  straight_level : (k : TacStmt-F TacStmt) → CodeInside S k →
      with_parts is_straight (map-TacStmt _ _ (fold-TacStmt Bool (with_parts is_straight)) k) ≡ true →
      stray (map-TacStmt _ _ (fold-TacStmt Bool stray) k) ≡ false
  straight_level (tac.Const dest value) h all = strays.plain (tac.Const dest value) refl
  straight_level (tac.Copy dest from) h all = strays.plain (tac.Copy dest from) refl
  straight_level (tac.Op dest o left right) h all = strays.plain (tac.Op dest o left right) refl
  straight_level (tac.ObjectPlace dest object) h all = strays.plain (tac.ObjectPlace dest object) refl
  straight_level (tac.GlobalPlace dest global) h all = strays.plain (tac.GlobalPlace dest global) refl
  straight_level (tac.Load dest place pointer) h all = strays.plain (tac.Load dest place pointer) refl
  straight_level (tac.Store place value) h all = strays.plain (tac.Store place value) refl
  straight_level (tac.CallOwn dest function args) h all = strays.plain (tac.CallOwn dest function args) refl
  straight_level (tac.CallCross dest comp index args) h all = strays.plain (tac.CallCross dest comp index args) refl
  straight_level (tac.Input dest) h all = strays.plain (tac.Input dest) refl
  straight_level (tac.Output value) h all = strays.plain (tac.Output value) refl
  straight_level (tac.Alloc dest count words) h all = strays.plain (tac.Alloc dest count words) refl
  straight_level (tac.Free pointer) h all = strays.plain (tac.Free pointer) refl
  straight_level (tac.Return value) h all = strays.plain (tac.Return value) refl
  straight_level (tac.If cond a b) h all =
      strays.fork cond _ _ (rows_none a h.0 (and_first (everywhere is_straight a) _ all))
      (rows_none b h.1 (and_first (everywhere is_straight b) _ (and_rest (everywhere is_straight a) _ all)))
  straight_level (tac.Loop head body next) h all = absurd (false≢true all)
  straight_level tac.Break h all = absurd (false≢true all)
  straight_level tac.Continue h all = absurd (false≢true all)

  straight_stmt : (s : TacStmt) → S s
  straight_stmt = code_induction S (λ k h all.
      fold-roll-TacStmt Bool stray k ∙ straight_level k h (sym (fold-roll-TacStmt Bool (with_parts is_straight) k)
      ∙ all))

  straight_none : (xs : List TacStmt) → Straight xs → Free xs
  straight_none [] all = refl
  straight_none (x ∷ xs) all =
      or_from _ _ (straight_stmt x (and_first (fold-TacStmt Bool (with_parts is_straight) x) _ all))
      (straight_none xs (and_rest (fold-TacStmt Bool (with_parts is_straight) x) _ all))

  -- STATEMENTS
  abbrev NonePart : Parts → Type 0
  NonePart p = (n : ℕ) → Free (p n).code

  after_none : (a : Lows) (make : ℕ → Parts) → ((n : ℕ) → Straight (a n).code) → ((at : ℕ) → NonePart (make at)) →
      NonePart (after a make)
  after_none a make ha h n = none_append (a n).code (make (a n).at (a n).next).code (straight_none (a n).code (ha n))
      (h (a n).at (a n).next)

  store_none : (f : Forms) → ((n : ℕ) → Straight (f want.Place n).code) → (value : ℕ) → NonePart (store_at f value)
  store_none f hf value =
      after_none (f want.Place) (λ at. just (emit.Store at value ∷ [])) hf (λ at n. none_one (tac.Store at value)
      (emit.Store at value) (emit.rolls-Store at value) (strays.plain (tac.Store at value) refl))

  assign_none : (f e : Forms) → ((n : ℕ) → Straight (f want.Place n).code) →
      ((n : ℕ) → Straight (e want.Value n).code) → NonePart (assign f e)
  assign_none f e hf he = after_none (e want.Value) (store_at f) he (store_none f hf)

  free_none : (f : Forms) → ((n : ℕ) → Straight (f want.Value n).code) → NonePart (free_value f)
  free_none f hf =
      after_none (f want.Value) (λ at. just (emit.Free at ∷ [])) hf (λ at n. none_one (tac.Free at) (emit.Free at)
      (emit.rolls-Free at) (strays.plain (tac.Free at) refl))

  call_none : (to : CallTarget) (dest : Option ℕ) (at : List ℕ) → Free (call_code to dest at ∷ [])
  call_none (target.Own function) dest at =
      none_one (tac.CallOwn dest function at) (emit.CallOwn dest function at) (emit.rolls-CallOwn dest function at)
      (strays.plain (tac.CallOwn dest function at) refl)
  call_none (target.Cross comp index) dest at =
      none_one (tac.CallCross dest comp index at) (emit.CallCross dest comp index at)
      (emit.rolls-CallCross dest comp index at) (strays.plain (tac.CallCross dest comp index at) refl)
  call_none target.Input dest at =
      none_one (tac.Input dest) (emit.Input dest) (emit.rolls-Input dest) (strays.plain (tac.Input dest) refl)
  call_none target.Output dest at =
      none_one (tac.Output (first_of at)) (emit.Output (first_of at)) (emit.rolls-Output (first_of at))
      (strays.plain (tac.Output (first_of at)) refl)

  return_none : (v : Option ℕ) → Free (emit.Return v ∷ [])
  return_none v = none_one (tac.Return v) (emit.Return v) (emit.rolls-Return v) (strays.plain (tac.Return v) refl)

  module _ (scope : Scope) (callable : Callable) (result : Option Ty) (structs : List TypedStruct)
      (elements : PointsToElements scope structs) where
    abbrev params : ℕ
    params = length scope.params

    abbrev form : TypedExpr → Forms
    form = forms structs params

    many_none : (types : List Ty) (es : List TypedExpr) (n : ℕ) → all_go_into types (map (judged scope) es) ≡ true →
        Free (many (map form es) n).code
    many_none types [] n h = refl
    many_none [] (e ∷ es) n h = absurd (false≢true h)
    many_none (t ∷ types) (e ∷ es) n h =
        none_append (form e want.Value n).code (many (map form es) (form e want.Value n).next).code
        (straight_none (form e want.Value n).code
        (expr_straight scope structs elements e (and_first (judged scope e).fits _ (and_first (goes_into t
        (judged scope e))
        _ h)) want.Value n))
        (many_none types es (form e want.Value n).next (and_rest (goes_into t (judged scope e)) _ h))

    args_none : (c : TypedCall) (n : ℕ) → call_fits callable c.target (map (judged scope) c.args) ≡ true →
        Free (many (map form c.args) n).code
    args_none c n h =
        let s = signed (target_signature callable c.target) (map (judged scope) c.args) h in
        many_none s.signature.params c.args n s.fit

    call_statement_none : (c : TypedCall) → call_fits callable c.target (map (judged scope) c.args) ≡ true →
        NonePart (call_statement c.target (map form c.args))
    call_statement_none c h n =
        none_append (many (map form c.args) n).code (call_code c.target None (many (map form c.args) n).at ∷ [])
        (args_none c n h) (call_none c.target None (many (map form c.args) n).at)

    call_for_none : (c : TypedCall) (make : ℕ → Parts) → call_fits callable c.target (map (judged scope) c.args)
        ≡ true → ((d : ℕ) → NonePart (make d)) → NonePart (call_for c.target (map form c.args) make)
    call_for_none c make h k n =
        let x : Many = many (map form c.args) n in
        none_append x.code (call_code c.target (Some x.next) x.at ∷ (make x.next (suc x.next)).code) (args_none c n h)
        (none_after (call_code c.target (Some x.next) x.at) (make x.next (suc x.next)).code
        (call_none c.target (Some x.next) x.at) (k x.next (suc x.next)))

    assigned_none : (place e : TypedExpr) → assign_fits (judged scope place) (judged scope e) ≡ true →
        NonePart (assign (form place) (form e))
    assigned_none place e h =
        assign_none (form place) (form e) (target_straight scope structs elements place
        (and_first (is_target (judged scope place)) _ h))
        (value_straight scope structs elements e (and_first (judged scope e).fits _ (and_rest (is_target
        (judged scope place))
        _ h)))

    assign_call_none : (place : TypedExpr) (c : TypedCall) →
        assign_call_fits callable (judged scope place) c.target (map (judged scope) c.args) ≡ true →
        NonePart (call_for c.target (map form c.args) (store_at (form place)))
    assign_call_none place c h =
        call_for_none c (store_at (form place)) (and_first (call_fits callable c.target (map (judged scope) c.args))
        _ (and_rest (is_target (judged scope place)) _ h))
        (store_none (form place) (target_straight scope structs elements place (and_first (is_target
        (judged scope place)) _ h)))

    malloc_none : (place : TypedExpr) (count : Option TypedExpr) (cells : ℕ) →
        malloc_fits scope.structs (judged scope place) (option_map (judged scope) count) cells ≡ true →
        NonePart (allocate_at (form place) (count_code structs params count) cells)
    malloc_none place count cells h =
        let j = judged scope place in
        let counts = option_map (judged scope) count in
        after_none (allocation (count_code structs params count) cells) (store_at (form place))
        (allocation_straight scope structs elements count cells (malloc_count scope.structs j counts cells h))
        (store_none (form place) (target_straight scope structs elements place (malloc_place scope.structs j counts
        cells h)))

    freed_none : (e : TypedExpr) → points (judged scope e) ≡ true → NonePart (free_value (form e))
    freed_none e h = free_none (form e) (value_straight scope structs elements e (points_fits (judged scope e) h))

    simple_none : (k : TypedSimpleKind) → simple_fits scope callable result k ≡ true →
        NonePart (simple_code structs params k)
    simple_none (simple.Assign place e) h = assigned_none place e h
    simple_none (simple.AssignCall place c) h = assign_call_none place c h
    simple_none (simple.Call c) h = call_statement_none c h
    simple_none (simple.Malloc place count cells) h = malloc_none place count cells h
    simple_none (simple.Free e) h = freed_none e h

    part_none : (part : Option TypedSimple) → part_fits scope callable result part ≡ true →
        NonePart (part_code structs params part)
    part_none None h n = refl
    part_none (Some s) h n = simple_none s.kind h n

    -- the head of a loop breaks, which strays where breaks do
    test_none : (cond : TypedExpr) → (judged scope cond).fits ≡ true → stray tac.Break ≡ false →
        NonePart (tests (form cond))
    test_none cond h b =
        after_none (form cond want.Value) (λ at. just (emit.If at [] (emit.Break ∷ []) ∷ []))
        (value_straight scope structs elements cond h)
        (λ at n.
        none_one (tac.If at [] (emit.Break ∷ [])) (emit.If at [] (emit.Break ∷ []))
        (emit.rolls-If at [] (emit.Break ∷ []))
        (strays.fork at [] _ refl (none_one tac.Break emit.Break emit.rolls-Break b)))

    cycle_none : (cond : TypedExpr) (body next : Parts) → (judged scope cond).fits ≡ true → NonePart next →
        NonePart (cycle (tests (form cond)) body next)
    cycle_none cond body next h k n =
        let x : Part = tests (form cond) n in let y : Part = body x.next in let z : Part = next y.next in
        none_one (tac.Loop x.code y.code z.code) (emit.Loop x.code y.code z.code) (emit.rolls-Loop x.code y.code z.code)
        (strays.cycle _ _ _ (λ b. test_none cond h b n) (k y.next))

    returned_call : (r : Option Ty) (to : CallTarget) (args : List Judged) →
        returned_call_fits callable r to args ≡ true → call_fits callable to args ≡ true
    returned_call None to args h = absurd (false≢true h)
    returned_call (Some t) to args h = and_first (call_fits callable to args) _ h

    abbrev Q : TypedStmt → Type 0
    Q stmt = stmt_fits scope callable result stmt false ≡ true → NonePart (stmt_code structs params stmt)

    block_none : (block : List TypedStmt) →
        list_all {X = Bool → Bool} (λ s. s false) (map (stmt_fits scope callable result) block) ≡ true → Each Q block →
        NonePart (block_code structs params block)
    block_none [] h every n = refl
    block_none (stmt ∷ rest) h every n =
        let x : Part = stmt_code structs params stmt n in
        none_append x.code (block_code structs params rest x.next).code
        (every.0 (and_first (stmt_fits scope callable result stmt false) _ h) n)
        (block_none rest (and_rest (stmt_fits scope callable result stmt false) _ h) every.1 x.next)

    level : (line : ℕ) (k : TypedStmtKind-F TypedStmtKind TypedStmt) → Inside Q k →
        layer_of _ _ (kind_fits scope callable result) (λ s. s.kind) k false ≡ true →
        NonePart (layer_of _ _ (kind_step structs params) (λ s. s.kind) k)
    level line layer.Empty h fits n = refl
    level line (layer.Assign place e) h fits n = assigned_none place e fits n
    level line (layer.AssignCall place c) h fits n = assign_call_none place c fits n
    level line (layer.Call c) h fits n = call_statement_none c fits n
    level line (layer.Malloc place count cells) h fits n = malloc_none place count cells fits n
    level line (layer.Free e) h fits n = freed_none e fits n
    level line (layer.If cond x y) h fits m =
        let inner = and_rest (is_scalar (judged scope cond)) _ fits in
        after_none (form cond want.Value) (fork (block_code structs params x) (block_code structs params y))
        (value_straight scope structs elements cond (scalar_fits (judged scope cond) (and_first (is_scalar
        (judged scope cond))
        _ fits)))
        (λ at n.
        let p : Part = block_code structs params x n in
        let q : Part = block_code structs params y p.next in
        none_one (tac.If at p.code q.code) (emit.If at p.code q.code) (emit.rolls-If at p.code q.code)
        (strays.fork at _ _
        (block_none x (and_first (list_all {X = Bool → Bool} (λ s. s false) (map (stmt_fits scope callable result) x))
        _ inner) h.0 n)
        (block_none y (and_rest (list_all {X = Bool → Bool} (λ s. s false) (map (stmt_fits scope callable result) x))
        _ inner) h.1 p.next))) m
    level line (layer.While cond x) h fits n =
        cycle_none cond (block_code structs params x) (just []) (scalar_fits (judged scope cond)
        (and_first (is_scalar (judged scope cond)) _ fits)) (λ n. refl) n
    level line (layer.For first cond next x) h fits n =
        let following = and_rest (part_fits scope callable result first) _ fits in
        let last = and_rest (is_scalar (judged scope cond)) _ following in
        let p : Part = part_code structs params first n in
        none_append p.code (cycle (tests (form cond)) (block_code structs params x) (part_code structs params next)
        p.next).code (part_none first (and_first (part_fits scope callable result first) _ fits) n)
        (cycle_none cond (block_code structs params x) (part_code structs params next) (scalar_fits (judged scope cond)
        (and_first (is_scalar (judged scope cond)) _ following))
        (part_none next (and_first (part_fits scope callable result next) _ last)) p.next)
    level line layer.Break h fits n = absurd (false≢true fits)
    level line layer.Continue h fits n = absurd (false≢true fits)
    level line layer.Return h fits n = return_none None
    level line (layer.ReturnValue e) h fits n =
        after_none (form e want.Value) return_value
        (value_straight scope structs elements e (returned_value result (judged scope e) fits))
        (λ at n. return_none (Some at)) n
    level line (layer.ReturnCall c) h fits n =
        call_for_none c return_value (returned_call result c.target (map (judged scope) c.args) fits)
        (λ d n. return_none (Some d)) n

    stmt_none : (stmt : TypedStmt) → Q stmt
    stmt_none = stmt_induction Q (λ line k h fits.
        subst NonePart (sym (stmt_at _ _ (kind_step structs params) (λ s. s.kind) line k))
        (level line k h (subst (λ x. x false ≡ true) (stmt_at _ _ (kind_fits scope callable result) (λ s. s.kind) line
        k) fits)))

    body_block : (block : List TypedStmt) → body_fits scope callable result block ≡ true →
        NonePart (block_code structs params block)
    body_block [] h n = refl
    body_block (stmt ∷ rest) h n =
        let x : Part = stmt_code structs params stmt n in
        none_append x.code (block_code structs params rest x.next).code
        (stmt_none stmt (and_first (stmt_fits scope callable result stmt false) _ h) n)
        (body_block rest (and_rest (stmt_fits scope callable result stmt false) _ h) x.next)

    init_none : (k : ℕ) (local : TypedLocal) (init : Option TypedExpr) → is_type (variable_ty scope (Local k)) local.ty
        ≡ true → init_fits scope local.ty init ≡ true → NonePart (init_code structs params k local init)
    init_none k local None own h n = refl
    init_none k local (Some e) own h n =
        assign_none (at_place local.ty (lone (place_code params (Local k)))) (form e)
        (local_straight scope structs elements k local.ty own want.Place)
        (value_straight scope structs elements e (and_first (judged scope e).fits _ h)) n

    inits_none : (k : ℕ) (locals : List TypedLocal) → InitsFit scope k locals →
        NonePart (in_turn (inits_code structs params k locals))
    inits_none k [] h n = refl
    inits_none k (local ∷ locals) h n =
        let x : Part = init_code structs params k local local.init n in
        none_append x.code (in_turn (inits_code structs params (suc k) locals) x.next).code
        (init_none k local local.init h.0 h.1 n) (inits_none (suc k) locals h.2 x.next)

    body_none : (locals : List TypedLocal) (body : List TypedStmt) → InitsFit scope 0 locals →
        body_fits scope callable result body ≡ true →
        has_none stray (both (in_turn (inits_code structs params 0 locals)) (block_code structs params body) 0).code
        ≡ true
    body_none locals body inits fits =
        let x : Part = in_turn (inits_code structs params 0 locals) 0 in
        ap not (none_append x.code (block_code structs params body x.next).code (inits_none 0 locals inits 0)
        (body_block body fits x.next))

module _ (scope : Scope) (callable : Callable) (result : Option Ty) (structs : List TypedStruct)
    (elements : PointsToElements scope structs) (locals : List TypedLocal) (body : List TypedStmt) where
  abbrev code : List TacStmt
  code =
      (both (in_turn (inits_code structs (length scope.params) 0 locals)) (block_code structs (length scope.params)
      body) 0).code

  pub breaks_in_loops : InitsFit scope 0 locals → body_fits scope callable result body ≡ true →
      has_none stray_break code ≡ true
  breaks_in_loops = body_none stray_break break_strays scope callable result structs elements locals body

  pub continues_in_bodies : InitsFit scope 0 locals → body_fits scope callable result body ≡ true →
      has_none stray_continue code ≡ true
  continues_in_bodies = body_none stray_continue continue_strays scope callable result structs elements locals body
