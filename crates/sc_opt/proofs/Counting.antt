-- The pass adds no statement and no branch.
use Rattle.std.proofs.Common.{Bool, List, None, Option, Some, [], arith, false, map, refl, subst, suc, sym, true, ℕ}
use Rattle.std.proofs.Common.{◌+◌, ◌∙◌, ◌∷◌, ◌≡◌, ◌≤◌}
use Rattle.std.specs.Option.{option_map}
use Rattle.sc_core.proofs.Induction.{Each, everywhere as everywhere_in}
use Rattle.sc_core.specs.Prelude.{total}
use Rattle.sc_tac.proofs.Induction.{Inside, stmt_induction}
use Rattle.sc_tac.specs.Prelude.{branch_step, branches}
use Rattle.sc_tac.specs.declared.stmt.Constant.{Constant}
use Rattle.sc_tac.specs.declared.stmt.TacOp.{TacOp}
use Rattle.sc_tac.specs.declared.stmt.TacStmt.{TacStmt, TacStmt-F, fold-TacStmt, fold-roll-TacStmt, map-TacStmt}
use Rattle.sc_tac.specs.declared.stmt.TacStmt.{roll-TacStmt}
use Rattle.sc_tac.specs.declared.stmt.TacStmt.TheOpen as tac
use Rattle.sc_opt.specs.Optimised.{statement_step, statements}
use Rattle.sc_opt.specs.Pass.{folded, keep_if, operator_code, pass, pass_step, present}

-- a statement without others inside
abbrev is_leaf : TacStmt-F ℕ → Bool
is_leaf (tac.If cond a b) = false
is_leaf (tac.Loop head body next) = false
is_leaf _ = true

-- a count that is the same for all such, and grows with what stands inside
record Counts (step : TacStmt-F ℕ → ℕ) : Type 0 where
  of_leaf : ℕ
  leaf : (k : TacStmt-F ℕ) → is_leaf k ≡ true → step k ≡ of_leaf
  fork : (c e : ℕ) (a b x y : List ℕ) → total x ≤ total a → total y ≤ total b → step (tac.If e x y) ≤ step
      (tac.If c a b)
  cycle : (a b c x y z : List ℕ) → total x ≤ total a → total y ≤ total b → total z ≤ total c →
      step (tac.Loop x y z) ≤ step (tac.Loop a b c)

two : (m n p q : ℕ) → m ≤ n → p ≤ q → suc (m + p) ≤ suc (n + q)
two m n p q h k = omega (arith, h, k)

-- one for the statement itself, and what its parts count
two_parts : (m n p q : ℕ) → m ≤ n → p ≤ q → suc (m + (p + 0)) ≤ suc (n + (q + 0))
two_parts m n p q h k = omega (arith, h, k)

three : (m n p q r v : ℕ) → m ≤ n → p ≤ q → r ≤ v → m + (p + (r + 0)) ≤ n + (q + (v + 0))
three m n p q r v h k l = omega (arith, h, k, l)

three_parts : (m n p q r v : ℕ) → m ≤ n → p ≤ q → r ≤ v → suc (m + (p + (r + 0))) ≤ suc (n + (q + (v + 0)))
three_parts m n p q r v h k l = omega (arith, h, k, l)

branch_leaf : (k : TacStmt-F ℕ) → is_leaf k ≡ true → branch_step k ≡ 0
branch_leaf (tac.If cond a b) h = absurd (cc h)
branch_leaf (tac.Loop head body next) h = absurd (cc h)
branch_leaf _ h = refl

statement_leaf : (k : TacStmt-F ℕ) → is_leaf k ≡ true → statement_step k ≡ 1
statement_leaf (tac.If cond a b) h = absurd (cc h)
statement_leaf (tac.Loop head body next) h = absurd (cc h)
statement_leaf _ h = refl

count_branches : Counts branch_step
count_branches = record {
  of_leaf = 0;
  leaf = branch_leaf;
  fork = λ c e a b x y h k. two (total x) (total a) (total y) (total b) h k;
  cycle = λ a b c x y z h k l. three (total x) (total a) (total y) (total b) (total z) (total c) h k l;
}

count_statements : Counts statement_step
count_statements = record {
  of_leaf = 1;
  leaf = statement_leaf;
  fork = λ c e a b x y h k. two_parts (total x) (total a) (total y) (total b) h k;
  cycle = λ a b c x y z h k l. three_parts (total x) (total a) (total y) (total b) (total z) (total c) h k l;
}

module _ (constants : ℕ → Option Constant) (source : ℕ → ℕ) (used holds_word : ℕ → Bool) (step : TacStmt-F ℕ → ℕ)
    (counts : Counts step) where
  abbrev passes : TacStmt → Option TacStmt
  passes = pass constants source used holds_word

  abbrev number : TacStmt → ℕ
  number = fold-TacStmt ℕ step

  abbrev number_left : Option TacStmt → ℕ
  number_left None = 0
  number_left (Some stmt) = number stmt

  abbrev row_number : List TacStmt → ℕ
  row_number stmts = total (map number stmts)

  abbrev Fewer : TacStmt → Type 0
  Fewer stmt = number_left (passes stmt) ≤ number stmt

  added : (o : Option TacStmt) (rest : List (Option TacStmt)) →
      row_number (present (o ∷ rest)) ≡ number_left o + row_number (present rest)
  added None rest = omega arith
  added (Some stmt) rest = refl

  sum : (a b c d n : ℕ) → a ≤ b → c ≤ d → n ≡ a + c → n ≤ b + d
  sum a b c d n h k e = omega (arith, h, k, e)

  row_fewer : (stmts : List TacStmt) → Each Fewer stmts → row_number (present (map passes stmts)) ≤ row_number stmts
  row_fewer [] each = omega arith
  row_fewer (s ∷ rest) each = sum (number_left (passes s)) (number s) (row_number (present (map passes rest)))
      (row_number rest) _ each.0 (row_fewer rest each.1) (added (passes s) (map passes rest))

  rolled : (k : TacStmt-F TacStmt) → number (roll-TacStmt k) ≡ step (map-TacStmt _ _ number k)
  rolled k = fold-roll-TacStmt ℕ step k

  -- one leaf in place of another
  in_place : (k : TacStmt-F TacStmt) (l : TacStmt-F ℕ) → is_leaf (map-TacStmt _ _ number k) ≡ true → is_leaf l ≡ true →
      number (roll-TacStmt k) ≤ step l
  in_place k l h i = at (number (roll-TacStmt k)) (step l) (rolled k ∙ counts.leaf (map-TacStmt _ _ number k) h)
      (counts.leaf l i) where
        at : (m n : ℕ) → m ≡ counts.of_leaf → n ≡ counts.of_leaf → m ≤ n
        at m n e f = omega (arith, e, f)

  if_kept : (u : Bool) (k : TacStmt-F TacStmt) (l : TacStmt-F ℕ) → is_leaf (map-TacStmt _ _ number k) ≡ true →
      is_leaf l ≡ true → number_left (keep_if u k) ≤ step l
  if_kept true k l h i = in_place k l h i
  if_kept false k l h i = omega arith

  op_fewer : (d : ℕ) (o : TacOp) (left : ℕ) (right : Option ℕ) (f : Option Constant) →
      number_left (operator_code source used holds_word d o left right f) ≤ step (tac.Op d o left right)
  op_fewer d o left right (Some c) = if_kept (used d) (tac.Const d c) (tac.Op d o left right) refl refl
  op_fewer d o left right None =
      if_kept _ (tac.Op d o (source left) (option_map source right)) (tac.Op d o left right) refl refl

  along : (m n p : ℕ) → m ≡ n → n ≤ p → m ≤ p
  along m n p e h = subst (λ x. x ≤ p) (sym e) h

  layer_fewer : (k : TacStmt-F TacStmt) → Inside Fewer k →
      number_left (pass_step constants source used holds_word (map-TacStmt _ _ passes k)) ≤ step
      (map-TacStmt _ _ number k)
  layer_fewer (tac.Const d value) i = if_kept (used d) (tac.Const d value) (tac.Const d value) refl refl
  layer_fewer (tac.Copy d from) i = if_kept _ (tac.Copy d (source from)) (tac.Copy d from) refl refl
  layer_fewer (tac.Op d o left right) i = op_fewer d o left right (folded constants o left right)
  layer_fewer (tac.ObjectPlace d object) i =
      if_kept (used d) (tac.ObjectPlace d object) (tac.ObjectPlace d object) refl refl
  layer_fewer (tac.GlobalPlace d global) i =
      if_kept (used d) (tac.GlobalPlace d global) (tac.GlobalPlace d global) refl refl
  layer_fewer (tac.Load d place pointer) i =
      in_place (tac.Load d (source place) pointer) (tac.Load d place pointer) refl refl
  layer_fewer (tac.Store place value) i =
      in_place (tac.Store (source place) (source value)) (tac.Store place value) refl refl
  layer_fewer (tac.If cond a b) i = along _ _ _
      (rolled (tac.If (source cond) (present (map passes a)) (present (map passes b))))
      (counts.fork cond (source cond) (map number a) (map number b) (map number (present (map passes a)))
      (map number (present (map passes b))) (row_fewer a i.0) (row_fewer b i.1))
  layer_fewer (tac.Loop a b c) i = along _ _ _
      (rolled (tac.Loop (present (map passes a)) (present (map passes b)) (present (map passes c))))
      (counts.cycle (map number a) (map number b) (map number c) (map number (present (map passes a)))
      (map number (present (map passes b))) (map number (present (map passes c))) (row_fewer a i.0) (row_fewer b i.1)
      (row_fewer c i.2))
  layer_fewer tac.Break i = in_place tac.Break tac.Break refl refl
  layer_fewer tac.Continue i = in_place tac.Continue tac.Continue refl refl
  layer_fewer (tac.CallOwn dest function args) i =
      in_place (tac.CallOwn dest function (map source args)) (tac.CallOwn dest function args) refl refl
  layer_fewer (tac.CallCross dest comp index args) i =
      in_place (tac.CallCross dest comp index (map source args)) (tac.CallCross dest comp index args) refl refl
  layer_fewer (tac.Input dest) i = in_place (tac.Input dest) (tac.Input dest) refl refl
  layer_fewer (tac.Output value) i = in_place (tac.Output (source value)) (tac.Output value) refl refl
  layer_fewer (tac.Alloc d count words) i =
      in_place (tac.Alloc d (source count) words) (tac.Alloc d count words) refl refl
  layer_fewer (tac.Free pointer) i = in_place (tac.Free (source pointer)) (tac.Free pointer) refl refl
  layer_fewer (tac.Return value) i = in_place (tac.Return (option_map source value)) (tac.Return value) refl refl

  stmt_fewer : (stmt : TacStmt) → Fewer stmt
  stmt_fewer = stmt_induction Fewer (λ k i. subst (λ n. number_left (passes (roll-TacStmt k)) ≤ n) (sym (rolled k))
      (subst (λ o. number_left o ≤ step (map-TacStmt _ _ number k))
      (sym (fold-roll-TacStmt (Option TacStmt) (pass_step constants source used holds_word) k)) (layer_fewer k i)))

  none_added : (body : List TacStmt) → row_number (present (map passes body)) ≤ row_number body
  none_added body = row_fewer body (everywhere_in Fewer stmt_fewer body)

module _ (constants : ℕ → Option Constant) (source : ℕ → ℕ) (used holds_word : ℕ → Bool) (body : List TacStmt) where
  pub no_more_branches : branches (present (map (pass constants source used holds_word) body)) ≤ branches body
  no_more_branches = none_added constants source used holds_word branch_step count_branches body

  pub no_more_statements : statements (present (map (pass constants source used holds_word) body)) ≤ statements body
  no_more_statements = none_added constants source used holds_word statement_step count_statements body
