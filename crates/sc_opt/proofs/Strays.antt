-- No `Break` or `Continue` of the code that the pass gives stands outside of loops, where none does in the code.
use Rattle.std.proofs.Common.{Bool, List, None, Option, Some, [], ap, false, map, not, refl, sym, true, ℕ}
use Rattle.std.proofs.Common.{◌||◌, ◌∙◌, ◌∷◌, ◌≡◌}
use Rattle.std.specs.Option.{option_map}
use Rattle.sc_core.proofs.Induction.{Each, everywhere as everywhere_in}
use Rattle.sc_tac.proofs.Induction.{Inside, stmt_induction}
use Rattle.sc_tac.specs.Prelude.{has_none, some_hold, stray_break, stray_continue}
use Rattle.sc_tac.specs.declared.stmt.Constant.{Constant}
use Rattle.sc_tac.specs.declared.stmt.TacOp.{TacOp}
use Rattle.sc_tac.specs.declared.stmt.TacStmt.{TacStmt, TacStmt-F, fold-TacStmt, fold-roll-TacStmt, map-TacStmt}
use Rattle.sc_tac.specs.declared.stmt.TacStmt.{roll-TacStmt}
use Rattle.sc_tac.specs.declared.stmt.TacStmt.TheOpen as tac
use Rattle.sc_opt.specs.Pass.{folded, keep_if, operator_code, pass, pass_step, present}

-- a statement without others inside, which leaves no loop
abbrev is_plain : TacStmt-F Bool → Bool
is_plain (tac.If cond a b) = false
is_plain (tac.Loop head body next) = false
is_plain tac.Break = false
is_plain tac.Continue = false
is_plain _ = true

either_false : (a b : Bool) → (a || b) ≡ false → (a ≡ false) × (b ≡ false)
either_false true b h = let no : true ≡ false = h in absurd (cc no)
either_false false b h = (refl, h)

from_both : (a b : Bool) → a ≡ false → b ≡ false → (a || b) ≡ false
from_both true b h k = h
from_both false b h k = k

-- what such a test finds in statements: nothing in plain ones, and in others no more than in what stands inside
record Strays (stray : TacStmt-F Bool → Bool) : Type 0 where
  plain : (k : TacStmt-F Bool) → is_plain k ≡ true → stray k ≡ false
  fork : (c e : ℕ) (a b x y : List Bool) → stray (tac.If c a b) ≡ false →
      (some_hold a ≡ false → some_hold x ≡ false) → (some_hold b ≡ false → some_hold y ≡ false) →
      stray (tac.If e x y) ≡ false
  cycle : (a b c x y z : List Bool) → stray (tac.Loop a b c) ≡ false → (some_hold a ≡ false → some_hold x ≡ false) →
      (some_hold b ≡ false → some_hold y ≡ false) → (some_hold c ≡ false → some_hold z ≡ false) →
      stray (tac.Loop x y z) ≡ false

fork_parts : (a b x y : List Bool) → (some_hold a || (some_hold b || false)) ≡ false →
    (some_hold a ≡ false → some_hold x ≡ false) → (some_hold b ≡ false → some_hold y ≡ false) →
    (some_hold x || (some_hold y || false)) ≡ false
fork_parts a b x y h f g =
    let two = either_false (some_hold a) (some_hold b || false) h in
    from_both (some_hold x) (some_hold y || false) (f two.0)
    (from_both (some_hold y) false (g (either_false (some_hold b) false two.1).0) refl)

break_plain : (k : TacStmt-F Bool) → is_plain k ≡ true → stray_break k ≡ false
break_plain (tac.If cond a b) h = absurd (cc h)
break_plain (tac.Loop head body next) h = absurd (cc h)
break_plain tac.Break h = absurd (cc h)
break_plain tac.Continue h = absurd (cc h)
break_plain _ h = refl

continue_plain : (k : TacStmt-F Bool) → is_plain k ≡ true → stray_continue k ≡ false
continue_plain (tac.If cond a b) h = absurd (cc h)
continue_plain (tac.Loop head body next) h = absurd (cc h)
continue_plain tac.Break h = absurd (cc h)
continue_plain tac.Continue h = absurd (cc h)
continue_plain _ h = refl

breaks : Strays stray_break
breaks = record {
  plain = break_plain;
  fork = λ c e a b x y h f g. fork_parts a b x y h f g;
  cycle = λ a b c x y z h f g k. refl;
}

continues : Strays stray_continue
continues = record {
  plain = continue_plain;
  fork = λ c e a b x y h f g. fork_parts a b x y h f g;
  cycle = λ a b c x y z h f g k. let two = either_false (some_hold a) (some_hold c) h in
      from_both (some_hold x) (some_hold z) (f two.0) (k two.1);
}

module _ (constants : ℕ → Option Constant) (source : ℕ → ℕ) (used holds_word : ℕ → Bool) (stray : TacStmt-F Bool → Bool)
    (strays : Strays stray) where
  abbrev passes : TacStmt → Option TacStmt
  passes = pass constants source used holds_word

  abbrev strays_in : TacStmt → Bool
  strays_in = fold-TacStmt Bool stray

  abbrev strays_of : Option TacStmt → Bool
  strays_of None = false
  strays_of (Some stmt) = strays_in stmt

  abbrev Tame : TacStmt → Type 0
  Tame stmt = strays_in stmt ≡ false → strays_of (passes stmt) ≡ false

  added : (o : Option TacStmt) (rest : List (Option TacStmt)) → strays_of o ≡ false →
      some_hold (map strays_in (present rest)) ≡ false → some_hold (map strays_in (present (o ∷ rest))) ≡ false
  added None rest h k = k
  added (Some stmt) rest h k = from_both (strays_in stmt) _ h k

  row_tame : (stmts : List TacStmt) → Each Tame stmts → some_hold (map strays_in stmts) ≡ false →
      some_hold (map strays_in (present (map passes stmts))) ≡ false
  row_tame [] each h = refl
  row_tame (s ∷ rest) each h =
      let two = either_false (strays_in s) (some_hold (map strays_in rest)) h in
      added (passes s) (map passes rest) (each.0 two.0) (row_tame rest each.1 two.1)

  rolled : (k : TacStmt-F TacStmt) → strays_in (roll-TacStmt k) ≡ stray (map-TacStmt _ _ strays_in k)
  rolled k = fold-roll-TacStmt Bool stray k

  none : (k : TacStmt-F TacStmt) → is_plain (map-TacStmt _ _ strays_in k) ≡ true → strays_in (roll-TacStmt k) ≡ false
  none k plain = rolled k ∙ strays.plain (map-TacStmt _ _ strays_in k) plain

  if_kept : (u : Bool) (k : TacStmt-F TacStmt) → is_plain (map-TacStmt _ _ strays_in k) ≡ true →
      strays_of (keep_if u k) ≡ false
  if_kept true k plain = none k plain
  if_kept false k plain = refl

  op_tame : (d : ℕ) (o : TacOp) (left : ℕ) (right : Option ℕ) (f : Option Constant) →
      strays_of (operator_code source used holds_word d o left right f) ≡ false
  op_tame d o left right (Some c) = if_kept (used d) (tac.Const d c) refl
  op_tame d o left right None = if_kept _ (tac.Op d o (source left) (option_map source right)) refl

  layer_tame : (k : TacStmt-F TacStmt) → Inside Tame k → stray (map-TacStmt _ _ strays_in k) ≡ false →
      strays_of (pass_step constants source used holds_word (map-TacStmt _ _ passes k)) ≡ false
  layer_tame (tac.Const d value) i h = if_kept (used d) (tac.Const d value) refl
  layer_tame (tac.Copy d from) i h = if_kept _ (tac.Copy d (source from)) refl
  layer_tame (tac.Op d o left right) i h = op_tame d o left right (folded constants o left right)
  layer_tame (tac.ObjectPlace d object) i h = if_kept (used d) (tac.ObjectPlace d object) refl
  layer_tame (tac.GlobalPlace d global) i h = if_kept (used d) (tac.GlobalPlace d global) refl
  layer_tame (tac.Load d place pointer) i h = none (tac.Load d (source place) pointer) refl
  layer_tame (tac.Store place value) i h = none (tac.Store (source place) (source value)) refl
  layer_tame (tac.If cond a b) i h =
      rolled (tac.If (source cond) (present (map passes a)) (present (map passes b)))
      ∙ strays.fork cond (source cond) (map strays_in a) (map strays_in b) (map strays_in (present (map passes a)))
      (map strays_in (present (map passes b))) h (row_tame a i.0) (row_tame b i.1)
  layer_tame (tac.Loop a b c) i h =
      rolled (tac.Loop (present (map passes a)) (present (map passes b)) (present (map passes c)))
      ∙ strays.cycle (map strays_in a) (map strays_in b) (map strays_in c) (map strays_in (present (map passes a)))
      (map strays_in (present (map passes b))) (map strays_in (present (map passes c))) h (row_tame a i.0)
      (row_tame b i.1) (row_tame c i.2)
  layer_tame tac.Break i h = rolled tac.Break ∙ h
  layer_tame tac.Continue i h = rolled tac.Continue ∙ h
  layer_tame (tac.CallOwn dest function args) i h = none (tac.CallOwn dest function (map source args)) refl
  layer_tame (tac.CallCross dest comp index args) i h = none (tac.CallCross dest comp index (map source args)) refl
  layer_tame (tac.Input dest) i h = none (tac.Input dest) refl
  layer_tame (tac.Output value) i h = none (tac.Output (source value)) refl
  layer_tame (tac.Alloc d count words) i h = none (tac.Alloc d (source count) words) refl
  layer_tame (tac.Free pointer) i h = none (tac.Free (source pointer)) refl
  layer_tame (tac.Return value) i h = none (tac.Return (option_map source value)) refl

  stmt_tame : (stmt : TacStmt) → Tame stmt
  stmt_tame = stmt_induction Tame (λ k i h. ap strays_of (fold-roll-TacStmt (Option TacStmt)
      (pass_step constants source used holds_word) k) ∙ layer_tame k i (sym (rolled k) ∙ h))

  none_stray : (body : List TacStmt) → has_none stray body ≡ true → has_none stray (present (map passes body)) ≡ true
  none_stray body h = ap not (row_tame body (everywhere_in Tame stmt_tame body) (from_not _ h)) where
    from_not : (b : Bool) → not b ≡ true → b ≡ false
    from_not true n = let no : false ≡ true = n in absurd (cc no)
    from_not false n = refl

module _ (constants : ℕ → Option Constant) (source : ℕ → ℕ) (used holds_word : ℕ → Bool) where
  pub no_stray_break : (body : List TacStmt) → has_none stray_break body ≡ true →
      has_none stray_break (present (map (pass constants source used holds_word) body)) ≡ true
  no_stray_break = none_stray constants source used holds_word stray_break breaks

  pub no_stray_continue : (body : List TacStmt) → has_none stray_continue body ≡ true →
      has_none stray_continue (present (map (pass constants source used holds_word) body)) ≡ true
  no_stray_continue = none_stray constants source used holds_word stray_continue continues
