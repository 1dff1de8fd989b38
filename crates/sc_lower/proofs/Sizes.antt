-- The code of statements and functions takes at most a temporary for each node, and weighs at most 24 for each.
use Rattle.sc_lower.proofs.Common.{CallTarget, Each, Forms, Inside, List, Local, Low, Lows, Many, None, Option, Part}
use Rattle.sc_lower.proofs.Common.{Parts, Some, TacStmt, TypedCall, TypedExpr, TypedFunction, TypedLocal, TypedSimple}
use Rattle.sc_lower.proofs.Common.{TypedSimpleKind, TypedStmt, TypedStmtKind, TypedStmtKind-F, TypedStruct, [], after}
use Rattle.sc_lower.proofs.Common.{allocate_at, allocation, ap, arith as numbers, assign, at_place, block_code}
use Rattle.sc_lower.proofs.Common.{body_code, both, call_code, call_for, call_nodes, call_statement, count_code}
use Rattle.sc_lower.proofs.Common.{count_nodes, cycle, entry_weight, expr_nodes, first_of, fork, forms, free_value}
use Rattle.sc_lower.proofs.Common.{in_turn, init_code, init_nodes, inits_code, just, kind_nodes, kind_step, layer_of}
use Rattle.sc_lower.proofs.Common.{length, local_nodes, lone, many, map, nodes, on_line, part_code, part_nodes}
use Rattle.sc_lower.proofs.Common.{place_code, return_value, simple_code, simple_nodes, stmt_at, stmt_code}
use Rattle.sc_lower.proofs.Common.{stmt_induction, stmt_nodes, store_at, subst, suc, sym, test, total, weight, ℕ, ◌*◌}
use Rattle.sc_lower.proofs.Common.{◌+◌, ◌<◌, ◌∙◌, ◌∷◌, ◌≤◌}
use Rattle.sc_core.specs.declared.expr.CallTarget.TheVariants as target
use Rattle.sc_core.specs.declared.stmt.TypedStmtKind.TheOpen as layer
use Rattle.sc_core.specs.declared.stmt.TypedSimpleKind.TheVariants as simple
use Rattle.sc_core.specs.declared.value.Want.TheVariants as want
use Rattle.sc_core.proofs.Induction.{everywhere}
use Rattle.sc_tac.specs.declared.stmt.Constant.TheVariants as constant
use Rattle.sc_tac.specs.declared.stmt.TacStmt.TheOpen as tac
use Rattle.sc_tac.specs.declared.stmt.TacStmt.TheVariants as emit
use Rattle.sc_lower.proofs.Bounds.{Rises, at_most, const_weight, expr_rises, if_weight, lone_rises, place_rises}
use Rattle.sc_lower.proofs.Bounds.{place_weight, weight_append, weight_one}

-- code that takes at most `k` temporaries from the free ones on, and weighs at most 24 for each, and `more` besides
pub record Grows (p : Parts) (k more : ℕ) : Type 0 where
  pub up : (n : ℕ) → n ≤ (p n).next
  pub few : (n : ℕ) → (p n).next ≤ n + k
  pub light : (n : ℕ) → weight (p n).code ≤ 24 * k + more

loosen : (p : Parts) (k more j less : ℕ) → k ≤ j → 24 * k + more ≤ 24 * j + less → Grows p k more → Grows p j less
loosen p k more j less le heavy h = record {
  up = h.up;
  few = λ n. omega (numbers, le, h.few n);
  light = λ n. omega (numbers, heavy, h.light n);
}

just_grows : (code : List TacStmt) (more : ℕ) → weight code ≤ more → Grows (just code) 0 more
just_grows code more h = record { up = λ n. omega numbers; few = λ n. omega numbers; light = λ n. omega (numbers, h) }

after_grows : (a : Lows) (make : ℕ → Parts) (ka k more : ℕ) → more ≤ 11 → Rises a ka →
    ((at : ℕ) → Grows (make at) k more) → Grows (after a make) (ka + k) 0
after_grows a make ka k more le ha h = record {
  up = λ n. omega (numbers, ha.above n, ha.below n, (h (a n).at).up (a n).next);
  few = λ n. omega (numbers, ha.few n, (h (a n).at).few (a n).next);
  light = λ n.
      subst (λ x. x ≤ 24 * (ka + k) + 0) (sym (weight_append (a n).code (make (a n).at (a n).next).code))
      (by (weight (a n).code) (weight (make (a n).at (a n).next).code) (ha.light n) ((h (a n).at).light (a n).next));
} where
  by : (u v : ℕ) → u + 11 ≤ 24 * ka → v ≤ 24 * k + more → u + v ≤ 24 * (ka + k) + 0
  by u v h g = omega (numbers, le, h, g)

both_grow : (p q : Parts) (k j x y : ℕ) → Grows p k x → Grows q j y → Grows (both p q) (k + j) (x + y)
both_grow p q k j x y hp hq = record {
  up = λ n. omega (numbers, hp.up n, hq.up (p n).next);
  few = λ n. omega (numbers, hp.few n, hq.few (p n).next);
  light = λ n.
      subst (λ z. z ≤ 24 * (k + j) + (x + y)) (sym (weight_append (p n).code (q (p n).next).code))
      (by (weight (p n).code) (weight (q (p n).next).code) (hp.light n) (hq.light (p n).next));
} where
  by : (u v : ℕ) → u ≤ 24 * k + x → v ≤ 24 * j + y → u + v ≤ 24 * (k + j) + (x + y)
  by u v h g = omega (numbers, h, g)

store_weight : (q v : ℕ) → weight (emit.Store q v ∷ []) ≤ 7
store_weight q v = at_most (emit.Store q v) 7 7 (weight_one (tac.Store q v) (emit.Store q v) (emit.rolls-Store q v))
    (omega numbers)

store_at_grows : (f : Forms) (k value : ℕ) → Rises (f want.Place) k → Grows (store_at f value) k 0
store_at_grows f k value h =
    loosen (store_at f value) (k + 0) 0 k 0 (omega numbers) (omega numbers)
    (after_grows (f want.Place) _ k 0 7 (omega numbers) h (λ at. just_grows (emit.Store at value ∷ []) 7
    (store_weight at value)))

assign_grows : (f e : Forms) (k j : ℕ) → Rises (f want.Place) k → Rises (e want.Value) j → Grows (assign f e) (j + k) 0
assign_grows f e k j hf he =
    after_grows (e want.Value) (store_at f) j k 0 (omega numbers) he (λ at. store_at_grows f k at hf)

-- code that leaves a value below the next free temporary, takes at most `k`, and weighs less than 24 for each by `less`
record Leaves (l : Lows) (k less : ℕ) : Type 0 where
  pub above : (n : ℕ) → n ≤ (l n).next
  pub few : (n : ℕ) → (l n).next ≤ n + k
  pub light : (n : ℕ) → weight (l n).code + less ≤ 24 * k

alloc_weight : (d x cells : ℕ) → weight (emit.Alloc d x cells ∷ []) ≤ 10
alloc_weight d x cells =
    at_most (emit.Alloc d x cells) 10 10 (weight_one (tac.Alloc d x cells) (emit.Alloc d x cells)
    (emit.rolls-Alloc d x cells)) (omega numbers)

free_weight : (at : ℕ) → weight (emit.Free at ∷ []) ≤ 5
free_weight at = at_most (emit.Free at) 5 5 (weight_one (tac.Free at) (emit.Free at) (emit.rolls-Free at))
    (omega numbers)

allocation_leaves : (a : Lows) (k cells : ℕ) → Leaves a k 10 → Leaves (allocation a cells) k 0
allocation_leaves a k cells h = record {
  above = h.above;
  few = h.few;
  light = λ n.
      let x : Low = a n in
      let last : List TacStmt = emit.Alloc x.at x.at cells ∷ [] in
      subst (λ z. z + 0 ≤ 24 * k) (sym (weight_append x.code last))
      (by (weight x.code) (weight last) (h.light n) (alloc_weight x.at x.at cells));
} where
  by : (u v : ℕ) → u + 10 ≤ 24 * k → v ≤ 10 → u + v + 0 ≤ 24 * k
  by u v h g = omega (numbers, h, g)

after_leaves : (a : Lows) (make : ℕ → Parts) (ka k : ℕ) → Leaves a ka 0 → ((at : ℕ) → Grows (make at) k 0) →
    Grows (after a make) (ka + k) 0
after_leaves a make ka k ha h = record {
  up = λ n. omega (numbers, ha.above n, (h (a n).at).up (a n).next);
  few = λ n. omega (numbers, ha.few n, (h (a n).at).few (a n).next);
  light = λ n.
      subst (λ x. x ≤ 24 * (ka + k) + 0) (sym (weight_append (a n).code (make (a n).at (a n).next).code))
      (by (weight (a n).code) (weight (make (a n).at (a n).next).code) (ha.light n) ((h (a n).at).light (a n).next));
} where
  by : (u v : ℕ) → u + 0 ≤ 24 * ka → v ≤ 24 * k + 0 → u + v ≤ 24 * (ka + k) + 0
  by u v h g = omega (numbers, h, g)

call_weight_most : (to : CallTarget) (dest : Option ℕ) (at : List ℕ) →
    weight (call_code to dest at ∷ []) ≤ 3 * length at + 8
call_weight_most (target.Own f) dest at =
    at_most (emit.CallOwn dest f at) (3 * length at + 5) _ (weight_one (tac.CallOwn dest f at) (emit.CallOwn dest f at)
    (emit.rolls-CallOwn dest f at)) (omega numbers)
call_weight_most (target.Cross c i) dest at =
    at_most (emit.CallCross dest c i at) (3 * length at + 5) _ (weight_one (tac.CallCross dest c i at)
    (emit.CallCross dest c i at) (emit.rolls-CallCross dest c i at)) (omega numbers)
call_weight_most target.Input dest at =
    at_most (emit.Input dest) 5 _ (weight_one (tac.Input dest) (emit.Input dest) (emit.rolls-Input dest))
    (omega numbers)
call_weight_most target.Output dest at =
    at_most (emit.Output (first_of at)) 8 _ (weight_one (tac.Output (first_of at)) (emit.Output (first_of at))
    (emit.rolls-Output (first_of at))) (omega numbers)

module _ (structs : List TypedStruct) (params : ℕ) where
  abbrev form : TypedExpr → Forms
  form = forms structs params

  value_rises : (e : TypedExpr) → Rises (form e want.Value) (expr_nodes e)
  value_rises e = expr_rises structs params e want.Value

  target_rises : (e : TypedExpr) → Rises (form e want.Place) (expr_nodes e)
  target_rises e = expr_rises structs params e want.Place

  count_leaves : (count : Option TypedExpr) → Leaves (count_code structs params count) (suc (count_nodes count)) 10
  count_leaves None = record {
    above = λ n. omega numbers;
    few = λ n. omega numbers;
    light = λ n. omega (numbers, const_weight n (constant.Word 1));
  }
  count_leaves (Some e) =
      let h = value_rises e in
      record {
        above = λ n. omega (numbers, h.above n, h.below n);
        few = λ n. omega (numbers, h.few n);
        light = λ n. omega (numbers, h.light n);
      }

  malloc_grows : (place : TypedExpr) (count : Option TypedExpr) (cells : ℕ) →
      Grows (allocate_at (form place) (count_code structs params count) cells)
      (suc (expr_nodes place + count_nodes count)) 0
  malloc_grows place count cells =
      loosen _ (suc (count_nodes count) + expr_nodes place) 0 _ 0 (omega numbers) (omega numbers)
      (after_leaves (allocation (count_code structs params count) cells) (store_at (form place))
      (suc (count_nodes count)) (expr_nodes place)
      (allocation_leaves (count_code structs params count) (suc (count_nodes count)) cells (count_leaves count))
      (λ at. store_at_grows (form place) (expr_nodes place) at (target_rises place)))

  free_grows : (e : TypedExpr) → Grows (free_value (form e)) (suc (expr_nodes e)) 0
  free_grows e =
      loosen _ (expr_nodes e + 0) 0 _ 0 (omega numbers) (omega numbers)
      (after_grows (form e want.Value) _ (expr_nodes e) 0 5 (omega numbers) (value_rises e)
      (λ at. just_grows (emit.Free at ∷ []) 5 (free_weight at)))

  -- arguments: each is read by three instructions more
  record ManyGrow (es : List TypedExpr) (n : ℕ) : Type 0 where
    pub up : n ≤ (many (map form es) n).next
    pub few : (many (map form es) n).next ≤ n + total (map expr_nodes es)
    pub light : weight (many (map form es) n).code + 3 * length (many (map form es) n).at ≤ 24 * total
        (map expr_nodes es)

  many_grow : (es : List TypedExpr) (n : ℕ) → ManyGrow es n
  many_grow [] n = record { up = omega numbers; few = omega numbers; light = omega numbers }
  many_grow (e ∷ es) n =
      let x : Low = form e want.Value n in
      let rest : Many = many (map form es) x.next in
      let h = value_rises e in
      let g = many_grow es x.next in
      record {
        up = omega (numbers, h.above n, h.below n, g.up);
        few = omega (numbers, h.few n, g.few);
        light = subst (λ z. z + 3 * suc (length rest.at) ≤ 24 * (expr_nodes e + total (map expr_nodes es)))
            (sym (weight_append x.code rest.code)) (by (weight x.code) (weight rest.code) (length rest.at)
            (expr_nodes e) (total (map expr_nodes es)) (h.light n) g.light);
      } where
        by : (u v l j k : ℕ) → u + 11 ≤ 24 * j → v + 3 * l ≤ 24 * k → u + v + 3 * suc l ≤ 24 * (j + k)
        by u v l j k h g = omega (numbers, h, g)

  call_statement_grows : (c : TypedCall) → Grows (call_statement c.target (map form c.args)) (call_nodes c) 8
  call_statement_grows c = record {
    up = λ n. (many_grow c.args n).up;
    few = λ n. (many_grow c.args n).few;
    light = λ n.
        let x : Many = many (map form c.args) n in
        subst (λ z. z ≤ 24 * call_nodes c + 8) (sym (weight_append x.code (call_code c.target None x.at ∷ [])))
        (by (weight x.code) (weight (call_code c.target None x.at ∷ [])) (length x.at) (call_nodes c)
        (many_grow c.args n).light (call_weight_most c.target None x.at));
  } where
    by : (u v l k : ℕ) → u + 3 * l ≤ 24 * k → v ≤ 3 * l + 8 → u + v ≤ 24 * k + 8
    by u v l k h g = omega (numbers, h, g)

  call_for_grows : (c : TypedCall) (make : ℕ → Parts) (k more : ℕ) → more ≤ 16 → ((d : ℕ) → Grows (make d) k more) →
      Grows (call_for c.target (map form c.args) make) (suc (call_nodes c + k)) 0
  call_for_grows c make k more le h = record {
    up =
        λ n. omega (
          numbers,
          (many_grow c.args n).up,
          (h (many (map form c.args) n).next).up
              (suc (many (map form c.args) n).next),
        );
    few =
        λ n. omega (
          numbers,
          (many_grow c.args n).few,
          (h (many (map form c.args) n).next).few
              (suc (many (map form c.args) n).next),
        );
    light = λ n.
        let x : Many = many (map form c.args) n in
        let y : Part = make x.next (suc x.next) in
        let s : TacStmt = call_code c.target (Some x.next) x.at in
        subst (λ z. z ≤ 24 * suc (call_nodes c + k) + 0) (sym (weight_append x.code (s ∷ y.code)
        ∙ ap (λ z. weight x.code + z) (weight_append (s ∷ []) y.code)))
        (by (weight x.code) (weight (s ∷ [])) (weight y.code) (length x.at) (call_nodes c) (many_grow c.args n).light
        (call_weight_most c.target (Some x.next) x.at) ((h x.next).light (suc x.next)));
  } where
    by : (u v w l j : ℕ) → u + 3 * l ≤ 24 * j → v ≤ 3 * l + 8 → w ≤ 24 * k + more → u + (v + w) ≤ 24 * suc (j + k) + 0
    by u v w l j h g f = omega (numbers, le, h, g, f)

  return_grows : (value : ℕ) → Grows (return_value value) 0 8
  return_grows value =
      just_grows (emit.Return (Some value) ∷ []) 8 (at_most (emit.Return (Some value)) 8 8
      (weight_one (tac.Return (Some value)) (emit.Return (Some value)) (emit.rolls-Return (Some value)))
      (omega numbers))

  break_weight : weight (emit.Break ∷ []) ≤ 1
  break_weight = at_most emit.Break 1 1 (weight_one tac.Break emit.Break emit.rolls-Break) (omega numbers)

  fork_grows : (p q : Parts) (k j : ℕ) → Grows p k 0 → Grows q j 0 → (cond : ℕ) → Grows (fork p q cond) (k + j) 6
  fork_grows p q k j hp hq cond = record {
    up = λ n. omega (numbers, hp.up n, hq.up (p n).next);
    few = λ n. omega (numbers, hp.few n, hq.few (p n).next);
    light = λ n.
        subst (λ z. z ≤ 24 * (k + j) + 6) (sym (if_weight cond (p n).code (q (p n).next).code))
        (by (weight (p n).code) (weight (q (p n).next).code) (hp.light n) (hq.light (p n).next));
  } where
    by : (u v : ℕ) → u ≤ 24 * k + 0 → v ≤ 24 * j + 0 → 6 + u + v ≤ 24 * (k + j) + 6
    by u v h g = omega (numbers, h, g)

  test_grows : (cond : TypedExpr) → Grows (test (form cond)) (expr_nodes cond) 0
  test_grows cond =
      loosen (test (form cond)) (expr_nodes cond + 0) 0 (expr_nodes cond) 0 (omega numbers) (omega numbers)
      (after_grows (form cond want.Value) _ (expr_nodes cond) 0 7 (omega numbers) (value_rises cond)
      (λ at. just_grows (emit.If at [] (emit.Break ∷ []) ∷ []) 7 (by at))) where
        by : (at : ℕ) → weight (emit.If at [] (emit.Break ∷ []) ∷ []) ≤ 7
        by at = subst (λ z. z ≤ 7) (sym (if_weight at [] (emit.Break ∷ []))) (omega (numbers, break_weight))

  cycle_grows : (p q r : Parts) (k j i : ℕ) → Grows p k 0 → Grows q j 0 → Grows r i 0 →
      Grows (cycle p q r) (k + j + i) 2
  cycle_grows p q r k j i hp hq hr = record {
    up = λ n. omega (numbers, hp.up n, hq.up (p n).next, hr.up (q (p n).next).next);
    few = λ n. omega (numbers, hp.few n, hq.few (p n).next, hr.few (q (p n).next).next);
    light = λ n.
        let x : List TacStmt = (p n).code in
        let y : List TacStmt = (q (p n).next).code in
        let z : List TacStmt = (r (q (p n).next).next).code in
        subst (λ m. m ≤ 24 * (k + j + i) + 2)
        (sym (weight_one (tac.Loop x y z) (emit.Loop x y z) (emit.rolls-Loop x y z)))
        (by (weight x) (weight y) (weight z) (hp.light n) (hq.light (p n).next) (hr.light (q (p n).next).next));
  } where
    by : (u v w : ℕ) → u ≤ 24 * k + 0 → v ≤ 24 * j + 0 → w ≤ 24 * i + 0 → 2 + u + v + w ≤ 24 * (k + j + i) + 2
    by u v w h g f = omega (numbers, h, g, f)

  simple_grows : (k : TypedSimpleKind) → Grows (simple_code structs params k) (simple_nodes k) 0
  simple_grows (simple.Assign place e) =
      loosen _ (expr_nodes e + expr_nodes place) 0 _ 0 (omega numbers) (omega numbers)
      (assign_grows (form place) (form e) (expr_nodes place) (expr_nodes e) (target_rises place) (value_rises e))
  simple_grows (simple.AssignCall place c) =
      loosen _ (suc (call_nodes c + expr_nodes place)) 0 _ 0 (omega numbers) (omega numbers)
      (call_for_grows c (store_at (form place)) (expr_nodes place) 0 (omega numbers) (λ d. store_at_grows (form place)
      (expr_nodes place) d (target_rises place)))
  simple_grows (simple.Call c) = loosen _ (call_nodes c) 8 _ 0 (omega numbers) (omega numbers) (call_statement_grows c)
  simple_grows (simple.Malloc place count cells) = malloc_grows place count cells
  simple_grows (simple.Free e) = free_grows e

  part_grows : (part : Option TypedSimple) → Grows (part_code structs params part) (part_nodes part) 0
  part_grows None = just_grows [] 0 (omega numbers)
  part_grows (Some s) = simple_grows s.kind

  abbrev Q : TypedStmt → Type 0
  Q stmt = Grows (stmt_code structs params stmt) (stmt_nodes stmt) 0

  block_grows : (block : List TypedStmt) → Each Q block →
      Grows (block_code structs params block) (total (map stmt_nodes block)) 0
  block_grows [] h = just_grows [] 0 (omega numbers)
  block_grows (stmt ∷ rest) h = both_grow (stmt_code structs params stmt) (block_code structs params rest)
      (stmt_nodes stmt) (total (map stmt_nodes rest)) 0 0 h.0 (block_grows rest h.1)

  level : (line : ℕ) (k : TypedStmtKind-F TypedStmtKind TypedStmt) → Inside Q k →
      Grows (layer_of _ _ (kind_step structs params) (λ s. s.kind) k) (layer_of _ _ kind_nodes (λ s. s.kind) k) 0
  level line layer.Empty h = loosen _ 0 0 1 0 (omega numbers) (omega numbers) (just_grows [] 0 (omega numbers))
  level line (layer.Assign place e) h =
      loosen _ (expr_nodes e + expr_nodes place) 0 _ 0 (omega numbers) (omega numbers)
      (assign_grows (form place) (form e) (expr_nodes place) (expr_nodes e) (target_rises place) (value_rises e))
  level line (layer.AssignCall place c) h =
      loosen _ (suc (call_nodes c + expr_nodes place)) 0 _ 0 (omega numbers) (omega numbers)
      (call_for_grows c (store_at (form place)) (expr_nodes place) 0 (omega numbers) (λ d. store_at_grows (form place)
      (expr_nodes place) d (target_rises place)))
  level line (layer.Call c) h = loosen _ (call_nodes c) 8 _ 0 (omega numbers) (omega numbers) (call_statement_grows c)
  level line (layer.Malloc place count cells) h = malloc_grows place count cells
  level line (layer.Free e) h = free_grows e
  level line (layer.If cond x y) h =
      let kx : ℕ = total (map stmt_nodes x) in let ky : ℕ = total (map stmt_nodes y) in
      loosen _ (expr_nodes cond + (kx + ky)) 0 _ 0 (omega numbers) (omega numbers)
      (after_grows (form cond want.Value) _ (expr_nodes cond) (kx + ky) 6 (omega numbers) (value_rises cond)
      (fork_grows _ _ kx ky (block_grows x h.0) (block_grows y h.1)))
  level line (layer.While cond x) h =
      let kx : ℕ = total (map stmt_nodes x) in
      loosen _ (expr_nodes cond + kx + 0) 2 _ 0 (omega numbers) (omega numbers)
      (cycle_grows _ _ _ (expr_nodes cond) kx 0 (test_grows cond) (block_grows x h) (just_grows [] 0 (omega numbers)))
  level line (layer.For first cond next x) h =
      let kx : ℕ = total (map stmt_nodes x) in
      loosen _ (part_nodes first + (expr_nodes cond + kx + part_nodes next)) 2 _ 0 (omega numbers) (omega numbers)
      (both_grow _ _ (part_nodes first) (expr_nodes cond + kx + part_nodes next) 0 2 (part_grows first)
      (cycle_grows _ _ _ (expr_nodes cond) kx (part_nodes next) (test_grows cond) (block_grows x h) (part_grows next)))
  level line layer.Break h =
      loosen _ 0 1 1 0 (omega numbers) (omega numbers) (just_grows (emit.Break ∷ []) 1 break_weight)
  level line layer.Continue h =
      loosen _ 0 1 1 0 (omega numbers) (omega numbers) (just_grows (emit.Continue ∷ []) 1
      (at_most emit.Continue 1 1 (weight_one tac.Continue emit.Continue emit.rolls-Continue) (omega numbers)))
  level line layer.Return h =
      loosen _ 0 8 1 0 (omega numbers) (omega numbers) (just_grows (emit.Return None ∷ []) 8
      (at_most (emit.Return None) 8 8 (weight_one (tac.Return None) (emit.Return None) (emit.rolls-Return None))
      (omega numbers)))
  level line (layer.ReturnValue e) h =
      loosen _ (expr_nodes e + 0) 0 _ 0 (omega numbers) (omega numbers) (after_grows (form e want.Value) return_value
      (expr_nodes e) 0 8 (omega numbers) (value_rises e) return_grows)
  level line (layer.ReturnCall c) h =
      loosen _ (suc (call_nodes c + 0)) 0 _ 0 (omega numbers) (omega numbers) (call_for_grows c return_value 0 8
      (omega numbers) return_grows)

  pub stmt_grows : (stmt : TypedStmt) → Q stmt
  stmt_grows = stmt_induction Q (λ line k h.
      subst (λ p. Grows p (stmt_nodes (on_line line k)) 0)
      (sym (stmt_at _ _ (kind_step structs params) (λ s. s.kind) line k))
      (subst (λ n. Grows (layer_of _ _ (kind_step structs params) (λ s. s.kind) k) n 0)
      (sym (stmt_at _ _ kind_nodes (λ s. s.kind) line k)) (level line k h)))

  init_grows : (k : ℕ) (local : TypedLocal) (init : Option TypedExpr) →
      Grows (init_code structs params k local init) (suc (init_nodes init)) 0
  init_grows k local None = loosen _ 0 0 1 0 (omega numbers) (omega numbers) (just_grows [] 0 (omega numbers))
  init_grows k local (Some e) =
      loosen _ (expr_nodes e + 1) 0 _ 0 (omega numbers) (omega numbers)
      (assign_grows (at_place local.ty (lone (place_code params (Local k)))) (form e) 1 (expr_nodes e)
      (place_rises local.ty want.Place (lone (place_code params (Local k))) 1
      (lone_rises (place_code params (Local k)) (place_weight params (Local k)))) (value_rises e))

  inits_grow : (k : ℕ) (locals : List TypedLocal) →
      Grows (in_turn (inits_code structs params k locals)) (total (map local_nodes locals)) 0
  inits_grow k [] = just_grows [] 0 (omega numbers)
  inits_grow k (local ∷ locals) =
      both_grow (init_code structs params k local local.init) (in_turn (inits_code structs params (suc k) locals))
      (local_nodes local) (total (map local_nodes locals)) 0 0 (init_grows k local local.init)
      (inits_grow (suc k) locals)

pub body_grows : (structs : List TypedStruct) (f : TypedFunction) →
    Grows (body_code structs f) (total (map local_nodes f.locals) + total (map stmt_nodes f.body)) 0
body_grows structs f =
    both_grow (in_turn (inits_code structs (length f.params) 0 f.locals)) (block_code structs (length f.params) f.body)
    (total (map local_nodes f.locals)) (total (map stmt_nodes f.body)) 0 0
    (inits_grow structs (length f.params) 0 f.locals) (block_grows structs (length f.params) f.body
    (everywhere (Q structs (length f.params)) (stmt_grows structs (length f.params)) f.body))

-- at most a temporary for each node
pub few_temps : (structs : List TypedStruct) (f : TypedFunction) → (body_code structs f 0).next ≤ nodes f
few_temps structs f = by _ _ _ _ ((body_grows structs f).few 0) where
  by : (next p l b : ℕ) → next ≤ 0 + (l + b) → next ≤ suc p + l + b
  by next p l b h = omega (numbers, h)

-- fewer than 24 instructions for each node
pub light : (structs : List TypedStruct) (f : TypedFunction) →
    entry_weight (length f.params) + weight (body_code structs f 0).code < 24 * nodes f
light structs f = by _ (length f.params) _ _ ((body_grows structs f).light 0) where
  by : (w p l b : ℕ) → w ≤ 24 * (l + b) + 0 → 10 + 3 * p + w < 24 * (suc p + l + b)
  by w p l b h = omega (numbers, h)
