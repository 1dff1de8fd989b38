-- The pass makes code no heavier, and leaves as it is what doesn't get lighter.
use Rattle.std.proofs.Common.{Bool, List, None, Option, Some, [], ap, arith, false, map, not, refl}
use Rattle.std.proofs.Common.{subst}
use Rattle.std.proofs.Common.{sym, true, ℕ, ◌&&◌, ◌+◌, ◌<◌, ◌==◌, ◌||◌, ◌∙◌, ◌∷◌, ◌≡◌, ◌≤◌}
use Rattle.std.proofs.lemmas.Bool.{and_from}
use Rattle.std.proofs.lemmas.List.{length-map}
use Rattle.std.specs.Option.{option_map}
use Rattle.std.specs.Prelude.{length}
use Rattle.sc_core.proofs.Induction.{Each, everywhere as everywhere_in}
use Rattle.sc_core.specs.Prelude.{total}
use Rattle.sc_tac.proofs.Induction.{Inside, stmt_induction}
use Rattle.sc_tac.specs.Prelude.{all_true, call_weight, everywhere, op_weight, stmt_weight, weight, weight_step}
use Rattle.sc_tac.specs.Prelude.{with_parts}
use Rattle.sc_tac.specs.declared.stmt.Constant.{Constant}
use Rattle.sc_tac.specs.declared.stmt.TacOp.{TacOp}
use Rattle.sc_tac.specs.declared.stmt.TacOp.TheVariants as tacop
use Rattle.sc_tac.specs.declared.stmt.TacStmt.{TacStmt, TacStmt-F, fold-TacStmt, fold-roll-TacStmt, map-TacStmt}
use Rattle.sc_tac.specs.declared.stmt.TacStmt.{roll-TacStmt}
use Rattle.sc_tac.specs.declared.stmt.TacStmt.TheOpen as tac
use Rattle.sc_opt.specs.Pass.{folded, is_kept, is_none, is_total, keep_if, operator_code, pass, pass_step, present}

module _ (constants : ℕ → Option Constant) (source : ℕ → ℕ) (used holds_word : ℕ → Bool) where
  abbrev left_test : TacStmt → Bool
  left_test = fold-TacStmt Bool (with_parts (is_kept constants source used holds_word))

  abbrev passes : TacStmt → Option TacStmt
  passes = pass constants source used holds_word

  abbrev left_weight : Option TacStmt → ℕ
  left_weight None = 0
  left_weight (Some stmt) = stmt_weight stmt

  -- not heavier, and left as it is where not lighter
  record Falls (now before : ℕ) (is_same : Bool) : Type 0 where
    no_more : now ≤ before
    same : now ≡ before → is_same ≡ true

  abbrev Fallen : TacStmt → Type 0
  Fallen stmt = Falls (left_weight (passes stmt)) (stmt_weight stmt) (left_test stmt)

  abbrev now_weight : List TacStmt → ℕ
  now_weight stmts = total (map stmt_weight (present (map passes stmts)))

  added : (o : Option TacStmt) (rest : List (Option TacStmt)) →
      total (map stmt_weight (present (o ∷ rest))) ≡ left_weight o + total (map stmt_weight (present rest))
  added None rest = omega arith
  added (Some stmt) rest = refl

  two : (a b c d : ℕ) (x y : Bool) → Falls a b x → Falls c d y → Falls (a + c) (b + d) (x && y)
  two a b c d x y h k = record {
    no_more = omega (arith, h.no_more, k.no_more);
    same = λ e. and_from x y (h.same (first e)) (k.same (rest e));
  } where
    first : a + c ≡ b + d → a ≡ b
    first e = omega (arith, e, h.no_more, k.no_more)

    rest : a + c ≡ b + d → c ≡ d
    rest e = omega (arith, e, h.no_more, k.no_more)

  row_falls : (stmts : List TacStmt) → Each Fallen stmts → Falls (now_weight stmts) (weight stmts)
      (all_true (map left_test stmts))
  row_falls [] each = record { no_more = omega arith; same = λ e. refl }
  row_falls (s ∷ rest) each = subst (λ n. Falls n (weight (s ∷ rest)) (all_true (map left_test (s ∷ rest))))
      (sym (added (passes s) (map passes rest)))
      (two (left_weight (passes s)) (stmt_weight s) (now_weight rest) (weight rest) (left_test s)
      (all_true (map left_test rest)) each.0 (row_falls rest each.1))

  rolled : (k : TacStmt-F TacStmt) → stmt_weight (roll-TacStmt k) ≡ weight_step (map-TacStmt _ _ stmt_weight k)
  rolled k = fold-roll-TacStmt ℕ weight_step k

  -- it stays where it is used
  if_kept : (u : Bool) (k : TacStmt-F TacStmt) (w n : ℕ) (is_same : Bool) → stmt_weight (roll-TacStmt k) ≡ n →
      n ≤ w → 0 < w → (u ≡ true → n ≡ w → is_same ≡ true) → Falls (left_weight (keep_if u k)) w is_same
  if_kept true k w n is_same is le some h = subst (λ m. Falls m w is_same) (sym is)
      (record { no_more = le; same = λ e. h refl e })
  if_kept false k w n is_same is le some h = record { no_more = omega arith; same = λ e. absurd (none e) } where
    none : 0 ≡ w → ⊥
    none e = omega (arith, e, some)

  -- nothing is dropped
  stays : (k : TacStmt-F TacStmt) (w : ℕ) (is_same : Bool) → stmt_weight (roll-TacStmt k) ≡ w → is_same ≡ true →
      Falls (stmt_weight (roll-TacStmt k)) w is_same
  stays k w is_same is h = subst (λ m. Falls m w is_same) (sym is) (record { no_more = omega arith; same = λ e. h })

  op_heavy : (o : TacOp) → 7 ≤ op_weight o
  op_heavy (tacop.Unary op scalar) = omega arith
  op_heavy (tacop.Binary op scalar) = omega arith
  op_heavy tacop.PointerNot = omega arith
  op_heavy (tacop.PointerMove minus cells index) = omega arith
  op_heavy (tacop.PointerMember offset) = omega arith
  op_heavy (tacop.PointerDifference cells) = omega arith
  op_heavy (tacop.PointerCompare op) = omega arith

  true_left : (b : Bool) → b ≡ true → (b && true) ≡ true
  true_left b h = and_from b true h refl

  op_falls : (d : ℕ) (o : TacOp) (left : ℕ) (right : Option ℕ) (f : Option Constant) →
      Falls (left_weight (operator_code source used holds_word d o left right f)) (op_weight o)
      ((is_none f && (used d || not (is_total holds_word o left right))) && true)
  op_falls d o left right (Some c) = if_kept (used d) (tac.Const d c) (op_weight o) 5 _ (rolled (tac.Const d c))
      (light (op_weight o) (op_heavy o)) (some (op_weight o) (op_heavy o))
      (λ u e. absurd (apart (op_weight o) (op_heavy o) e)) where
        light : (w : ℕ) → 7 ≤ w → 5 ≤ w
        light w h = omega (arith, h)

        some : (w : ℕ) → 7 ≤ w → 0 < w
        some w h = omega (arith, h)

        apart : (w : ℕ) → 7 ≤ w → 5 ≡ w → ⊥
        apart w h e = omega (arith, h, e)
  op_falls d o left right None = if_kept (used d || not (is_total holds_word o left right))
      (tac.Op d o (source left) (option_map source right)) (op_weight o) (op_weight o) _
      (rolled (tac.Op d o (source left) (option_map source right))) (same (op_weight o)) (some (op_weight o)
      (op_heavy o))
      (λ u e. true_left (used d || not (is_total holds_word o left right)) u) where
        same : (w : ℕ) → w ≤ w
        same w = omega arith

        some : (w : ℕ) → 7 ≤ w → 0 < w
        some w h = omega (arith, h)

  args_same : (args : List ℕ) → call_weight (length (map source args)) ≡ call_weight (length args)
  args_same args = ap call_weight (length-map args source)

  layer_falls : (k : TacStmt-F TacStmt) → Inside Fallen k →
      Falls (left_weight (pass_step constants source used holds_word (map-TacStmt _ _ passes k)))
      (weight_step (map-TacStmt _ _ stmt_weight k))
      (with_parts (is_kept constants source used holds_word) (map-TacStmt _ _ left_test k))
  layer_falls (tac.Const d value) i = if_kept (used d) (tac.Const d value) 5 5 _ (rolled (tac.Const d value))
      (omega arith)
      (omega arith) (λ u e. true_left (used d) u)
  layer_falls (tac.Copy d from) i = if_kept (not (source d == source from) && used d) (tac.Copy d (source from)) 6 6 _
      (rolled (tac.Copy d (source from))) (omega arith) (omega arith)
      (λ u e. true_left (not (source d == source from) && used d) u)
  layer_falls (tac.Op d o left right) i = op_falls d o left right (folded constants o left right)
  layer_falls (tac.ObjectPlace d object) i = if_kept (used d) (tac.ObjectPlace d object) 6 6 _
      (rolled (tac.ObjectPlace d object)) (omega arith) (omega arith) (λ u e. true_left (used d) u)
  layer_falls (tac.GlobalPlace d global) i = if_kept (used d) (tac.GlobalPlace d global) 6 6 _
      (rolled (tac.GlobalPlace d global)) (omega arith) (omega arith) (λ u e. true_left (used d) u)
  layer_falls (tac.Load d place pointer) i = stays (tac.Load d (source place) pointer) 7 _
      (rolled (tac.Load d (source place) pointer)) refl
  layer_falls (tac.Store place value) i = stays (tac.Store (source place) (source value)) 7 _
      (rolled (tac.Store (source place) (source value))) refl
  layer_falls (tac.If cond a b) i = subst
      (λ n. Falls n (6 + weight a + weight b) (all_true (map left_test a) && (all_true (map left_test b) && true)))
      (sym (rolled (tac.If (source cond) (present (map passes a)) (present (map passes b)))))
      (by (now_weight a) (weight a) (now_weight b) (weight b) (all_true (map left_test a)) (all_true (map left_test b))
      (row_falls a i.0) (row_falls b i.1)) where
        by : (m n p q : ℕ) (x y : Bool) → Falls m n x → Falls p q y → Falls (6 + m + p) (6 + n + q) (x && (y && true))
        by m n p q x y h k = record {
          no_more = omega (arith, h.no_more, k.no_more);
          same = λ e. and_from x (y && true) (h.same (one e)) (true_left y (k.same (other e)));
        } where
          one : 6 + m + p ≡ 6 + n + q → m ≡ n
          one e = omega (arith, e, h.no_more, k.no_more)

          other : 6 + m + p ≡ 6 + n + q → p ≡ q
          other e = omega (arith, e, h.no_more, k.no_more)
  layer_falls (tac.Loop a b c) i = subst
      (λ n. Falls n (2 + weight a + weight b + weight c)
      (all_true (map left_test a) && (all_true (map left_test b) && (all_true (map left_test c) && true))))
      (sym (rolled (tac.Loop (present (map passes a)) (present (map passes b)) (present (map passes c)))))
      (by (now_weight a) (weight a) (now_weight b) (weight b) (now_weight c) (weight c) (all_true (map left_test a))
      (all_true (map left_test b)) (all_true (map left_test c)) (row_falls a i.0) (row_falls b i.1)
      (row_falls c i.2)) where
        by : (m n p q r v : ℕ) (x y z : Bool) → Falls m n x → Falls p q y → Falls r v z →
            Falls (2 + m + p + r) (2 + n + q + v) (x && (y && (z && true)))
        by m n p q r v x y z h k l = record {
          no_more = omega (arith, h.no_more, k.no_more, l.no_more);
          same = λ e. and_from x _ (h.same (one e)) (and_from y _ (k.same (other e)) (true_left z (l.same (last e))));
        } where
          one : 2 + m + p + r ≡ 2 + n + q + v → m ≡ n
          one e = omega (arith, e, h.no_more, k.no_more, l.no_more)

          other : 2 + m + p + r ≡ 2 + n + q + v → p ≡ q
          other e = omega (arith, e, h.no_more, k.no_more, l.no_more)

          last : 2 + m + p + r ≡ 2 + n + q + v → r ≡ v
          last e = omega (arith, e, h.no_more, k.no_more, l.no_more)
  layer_falls tac.Break i = stays tac.Break 1 _ (rolled tac.Break) refl
  layer_falls tac.Continue i = stays tac.Continue 1 _ (rolled tac.Continue) refl
  layer_falls (tac.CallOwn dest function args) i = stays (tac.CallOwn dest function (map source args))
      (call_weight (length args)) _ (rolled (tac.CallOwn dest function (map source args)) ∙ args_same args) refl
  layer_falls (tac.CallCross dest comp index args) i = stays (tac.CallCross dest comp index (map source args))
      (call_weight (length args)) _ (rolled (tac.CallCross dest comp index (map source args)) ∙ args_same args) refl
  layer_falls (tac.Input dest) i = stays (tac.Input dest) (call_weight 0) _ (rolled (tac.Input dest)) refl
  layer_falls (tac.Output value) i = stays (tac.Output (source value)) (call_weight 1) _
      (rolled (tac.Output (source value))) refl
  layer_falls (tac.Alloc d count words) i = stays (tac.Alloc d (source count) words) 10 _
      (rolled (tac.Alloc d (source count) words)) refl
  layer_falls (tac.Free pointer) i = stays (tac.Free (source pointer)) 5 _ (rolled (tac.Free (source pointer))) refl
  layer_falls (tac.Return value) i = stays (tac.Return (option_map source value)) 8 _
      (rolled (tac.Return (option_map source value))) refl

  stmt_falls : (stmt : TacStmt) → Fallen stmt
  stmt_falls = stmt_induction Fallen (λ k i.
      subst (λ n. Falls (left_weight (passes (roll-TacStmt k))) n (left_test (roll-TacStmt k))) (sym (rolled k))
      (subst (λ b. Falls (left_weight (passes (roll-TacStmt k))) (weight_step (map-TacStmt _ _ stmt_weight k)) b)
      (sym (fold-roll-TacStmt Bool (with_parts (is_kept constants source used holds_word)) k))
      (subst (λ o. Falls (left_weight o) (weight_step (map-TacStmt _ _ stmt_weight k))
      (with_parts (is_kept constants source used holds_word) (map-TacStmt _ _ left_test k)))
      (sym (fold-roll-TacStmt (Option TacStmt) (pass_step constants source used holds_word) k)) (layer_falls k i))))

  pub no_heavier : (body : List TacStmt) → weight (present (map passes body)) ≤ weight body
  no_heavier body = (row_falls body (everywhere_in Fallen stmt_falls body)).no_more

  -- a pass that changes no weight leaves each statement
  pub all_left : (body : List TacStmt) → weight (present (map passes body)) ≡ weight body →
      everywhere (is_kept constants source used holds_word) body ≡ true
  all_left body e = (row_falls body (everywhere_in Fallen stmt_falls body)).same e
