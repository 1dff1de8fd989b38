-- The code that the pass gives keeps what each statement keeps by itself.
use Rattle.std.proofs.Common.{Bool, List, None, Option, Some, [], ap, false, map, not, refl, sym, true, ℕ, ◌&&◌}
use Rattle.std.proofs.Common.{◌==◌, ◌∙◌, ◌∷◌, ◌≡◌}
use Rattle.std.proofs.lemmas.Bool.{and_from}
use Rattle.std.specs.Option.{option_map}
use Rattle.sc_base.proofs.Bools.{and_first, and_rest}
use Rattle.sc_core.proofs.Induction.{Each, everywhere as everywhere_in}
use Rattle.sc_tac.proofs.Induction.{Inside, stmt_induction}
use Rattle.sc_tac.specs.Prelude.{all_true, everywhere, with_parts}
use Rattle.sc_tac.specs.declared.stmt.Constant.{Constant}
use Rattle.sc_tac.specs.declared.stmt.TacOp.{TacOp}
use Rattle.sc_tac.specs.declared.stmt.TacStmt.{TacStmt, TacStmt-F, fold-TacStmt, fold-roll-TacStmt, map-TacStmt}
use Rattle.sc_tac.specs.declared.stmt.TacStmt.{roll-TacStmt}
use Rattle.sc_tac.specs.declared.stmt.TacStmt.TheOpen as tac
use Rattle.sc_opt.specs.Pass.{folded, keep_if, operator_code, pass, pass_step, present}

-- a statement that the pass leaves as it is, where it doesn't go
abbrev pub is_untouched : TacStmt-F Bool → Bool
is_untouched (tac.Const dest value) = true
is_untouched (tac.ObjectPlace dest object) = true
is_untouched (tac.GlobalPlace dest global) = true
is_untouched tac.Break = true
is_untouched tac.Continue = true
is_untouched (tac.Input dest) = true
is_untouched _ = false

module _ (constants : ℕ → Option Constant) (source : ℕ → ℕ) (used holds_word : ℕ → Bool)
    (before after : TacStmt-F Bool → Bool)
  where
    -- where a statement passes the first test, what the pass makes of it passes the second, whatever stands inside
    pub record Stays : Type 0 where
      pub untouched : (k : TacStmt-F Bool) → is_untouched k ≡ true → before k ≡ true → after k ≡ true
      pub copied : (d from : ℕ) → (source d == source from) ≡ false → before (tac.Copy d from) ≡ true →
          after (tac.Copy d (source from)) ≡ true
      pub operated : (d : ℕ) (o : TacOp) (left : ℕ) (right : Option ℕ) →
          folded constants o left right ≡ None → before (tac.Op d o left right) ≡ true →
          after (tac.Op d o (source left) (option_map source right)) ≡ true
      pub computed : (d : ℕ) (o : TacOp) (left : ℕ) (right : Option ℕ) (c : Constant) →
          before (tac.Op d o left right) ≡ true → folded constants o left right ≡ Some c →
          after (tac.Const d c) ≡ true
      pub loaded : (d place : ℕ) (pointer : Bool) → before (tac.Load d place pointer) ≡ true →
          after (tac.Load d (source place) pointer) ≡ true
      pub stored : (place value : ℕ) → before (tac.Store place value) ≡ true →
          after (tac.Store (source place) (source value)) ≡ true
      pub forked : (cond : ℕ) (a b c d : List Bool) → before (tac.If cond a b) ≡ true →
          after (tac.If (source cond) c d) ≡ true
      pub looped : (a b c d e f : List Bool) → before (tac.Loop a b c) ≡ true → after (tac.Loop d e f) ≡ true
      pub called : (dest : Option ℕ) (function : ℕ) (args : List ℕ) → before (tac.CallOwn dest function args) ≡ true →
          after (tac.CallOwn dest function (map source args)) ≡ true
      pub crossed : (dest : Option ℕ) (comp index : ℕ) (args : List ℕ) →
          before (tac.CallCross dest comp index args) ≡ true →
          after (tac.CallCross dest comp index (map source args)) ≡ true
      pub shown : (value : ℕ) → before (tac.Output value) ≡ true → after (tac.Output (source value)) ≡ true
      pub allocated : (d count words : ℕ) → before (tac.Alloc d count words) ≡ true →
          after (tac.Alloc d (source count) words) ≡ true
      pub freed : (pointer : ℕ) → before (tac.Free pointer) ≡ true → after (tac.Free (source pointer)) ≡ true
      pub returned : (value : Option ℕ) → before (tac.Return value) ≡ true →
          after (tac.Return (option_map source value)) ≡ true

    module _ (stays : Stays) where
      abbrev held : TacStmt → Bool
      held = fold-TacStmt Bool (with_parts before)

      abbrev holds : TacStmt → Bool
      holds = fold-TacStmt Bool (with_parts after)

      abbrev passes : TacStmt → Option TacStmt
      passes = pass constants source used holds_word

      abbrev holds_of : Option TacStmt → Bool
      holds_of None = true
      holds_of (Some stmt) = holds stmt

      abbrev Stable : TacStmt → Type 0
      Stable stmt = held stmt ≡ true → holds_of (passes stmt) ≡ true

      added : (o : Option TacStmt) (rest : List (Option TacStmt)) → holds_of o ≡ true →
          all_true (map holds (present rest)) ≡ true → all_true (map holds (present (o ∷ rest))) ≡ true
      added None rest h k = k
      added (Some stmt) rest h k = and_from (holds stmt) _ h k

      row_stable : (stmts : List TacStmt) → Each Stable stmts → all_true (map held stmts) ≡ true →
          all_true (map holds (present (map passes stmts))) ≡ true
      row_stable [] each h = refl
      row_stable (s ∷ rest) each h = added (passes s) (map passes rest) (each.0 (and_first (held s) _ h))
          (row_stable rest each.1 (and_rest (held s) _ h))

      rolled : (k : TacStmt-F TacStmt) → holds (roll-TacStmt k) ≡ with_parts after (map-TacStmt _ _ holds k)
      rolled k = fold-roll-TacStmt Bool (with_parts after) k

      -- one without others inside
      kept : (k : TacStmt-F TacStmt) (own : Bool) → with_parts after (map-TacStmt _ _ holds k) ≡ (own && true) →
          own ≡ true → holds (roll-TacStmt k) ≡ true
      kept k own is h = rolled k ∙ is ∙ and_from own true h refl

      if_kept : (u : Bool) (k : TacStmt-F TacStmt) → holds (roll-TacStmt k) ≡ true → holds_of (keep_if u k) ≡ true
      if_kept true k h = h
      if_kept false k h = refl

      op_stable : (d : ℕ) (o : TacOp) (left : ℕ) (right : Option ℕ) → before (tac.Op d o left right) ≡ true →
          (f : Option Constant) → folded constants o left right ≡ f →
          holds_of (operator_code source used holds_word d o left right f) ≡ true
      op_stable d o left right h (Some c) is = if_kept (used d) (tac.Const d c)
          (kept (tac.Const d c) (after (tac.Const d c)) refl (stays.computed d o left right c h is))
      op_stable d o left right h None is = if_kept _ (tac.Op d o (source left) (option_map source right))
          (kept (tac.Op d o (source left) (option_map source right))
          (after (tac.Op d o (source left) (option_map source right))) refl (stays.operated d o left right is h))

      copy_stable : (d from : ℕ) → before (tac.Copy d from) ≡ true → (same : Bool) → (source d == source from) ≡ same →
          holds_of (keep_if (not same && used d) (tac.Copy d (source from))) ≡ true
      copy_stable d from h true is = refl
      copy_stable d from h false is = if_kept (used d) (tac.Copy d (source from))
          (kept (tac.Copy d (source from)) (after (tac.Copy d (source from))) refl (stays.copied d from is h))

      -- one that the pass leaves as it is
      untouched : (k : TacStmt-F TacStmt) (l : TacStmt-F Bool) → is_untouched l ≡ true →
          with_parts after (map-TacStmt _ _ holds k) ≡ (after l && true) → (before l && true) ≡ true →
          holds (roll-TacStmt k) ≡ true
      untouched k l plain is h = kept k (after l) is (stays.untouched l plain (and_first (before l) true h))

      layer_stable : (k : TacStmt-F TacStmt) → Inside Stable k → with_parts before (map-TacStmt _ _ held k) ≡ true →
          holds_of (pass_step constants source used holds_word (map-TacStmt _ _ passes k)) ≡ true
      layer_stable (tac.Const d value) i h = if_kept (used d) (tac.Const d value)
          (untouched (tac.Const d value) (tac.Const d value) refl refl h)
      layer_stable (tac.Copy d from) i h =
          copy_stable d from (and_first (before (tac.Copy d from)) true h) (source d == source from) refl
      layer_stable (tac.Op d o left right) i h = op_stable d o left right
          (and_first (before (tac.Op d o left right)) true h) (folded constants o left right) refl
      layer_stable (tac.ObjectPlace d object) i h = if_kept (used d) (tac.ObjectPlace d object)
          (untouched (tac.ObjectPlace d object) (tac.ObjectPlace d object) refl refl h)
      layer_stable (tac.GlobalPlace d global) i h = if_kept (used d) (tac.GlobalPlace d global)
          (untouched (tac.GlobalPlace d global) (tac.GlobalPlace d global) refl refl h)
      layer_stable (tac.Load d place pointer) i h = kept (tac.Load d (source place) pointer)
          (after (tac.Load d (source place) pointer)) refl
          (stays.loaded d place pointer (and_first (before (tac.Load d place pointer)) true h))
      layer_stable (tac.Store place value) i h = kept (tac.Store (source place) (source value))
          (after (tac.Store (source place) (source value))) refl
          (stays.stored place value (and_first (before (tac.Store place value)) true h))
      layer_stable (tac.If cond a b) i h =
          let own = and_first (before (tac.If cond (map held a) (map held b))) _ h in
          let all = and_rest (before (tac.If cond (map held a) (map held b))) _ h in
          rolled (tac.If (source cond) (present (map passes a)) (present (map passes b)))
          ∙ and_from (after (tac.If (source cond) (map holds (present (map passes a)))
          (map holds (present (map passes b))))) _
          (stays.forked cond (map held a) (map held b) (map holds (present (map passes a)))
          (map holds (present (map passes b))) own)
          (and_from (all_true (map holds (present (map passes a)))) _
          (row_stable a i.0 (and_first (all_true (map held a)) _ all))
          (and_from (all_true (map holds (present (map passes b)))) true
          (row_stable b i.1 (and_first (all_true (map held b)) true (and_rest (all_true (map held a)) _ all))) refl))
      layer_stable (tac.Loop a b c) i h =
          let own = and_first (before (tac.Loop (map held a) (map held b) (map held c))) _ h in
          let all = and_rest (before (tac.Loop (map held a) (map held b) (map held c))) _ h in
          let later = and_rest (all_true (map held a)) _ all in
          rolled (tac.Loop (present (map passes a)) (present (map passes b)) (present (map passes c)))
          ∙ and_from (after (tac.Loop (map holds (present (map passes a))) (map holds (present (map passes b)))
          (map holds (present (map passes c))))) _
          (stays.looped (map held a) (map held b) (map held c) (map holds (present (map passes a)))
          (map holds (present (map passes b))) (map holds (present (map passes c))) own)
          (and_from (all_true (map holds (present (map passes a)))) _
          (row_stable a i.0 (and_first (all_true (map held a)) _ all))
          (and_from (all_true (map holds (present (map passes b)))) _
          (row_stable b i.1 (and_first (all_true (map held b)) _ later))
          (and_from (all_true (map holds (present (map passes c)))) true
          (row_stable c i.2 (and_first (all_true (map held c)) true (and_rest (all_true (map held b)) _ later))) refl)))
      layer_stable tac.Break i h = untouched tac.Break tac.Break refl refl h
      layer_stable tac.Continue i h = untouched tac.Continue tac.Continue refl refl h
      layer_stable (tac.CallOwn dest function args) i h = kept (tac.CallOwn dest function (map source args))
          (after (tac.CallOwn dest function (map source args))) refl
          (stays.called dest function args (and_first (before (tac.CallOwn dest function args)) true h))
      layer_stable (tac.CallCross dest comp index args) i h = kept (tac.CallCross dest comp index (map source args))
          (after (tac.CallCross dest comp index (map source args))) refl
          (stays.crossed dest comp index args (and_first (before (tac.CallCross dest comp index args)) true h))
      layer_stable (tac.Input dest) i h = untouched (tac.Input dest) (tac.Input dest) refl refl h
      layer_stable (tac.Output value) i h = kept (tac.Output (source value)) (after (tac.Output (source value))) refl
          (stays.shown value (and_first (before (tac.Output value)) true h))
      layer_stable (tac.Alloc d count words) i h = kept (tac.Alloc d (source count) words)
          (after (tac.Alloc d (source count) words)) refl
          (stays.allocated d count words (and_first (before (tac.Alloc d count words)) true h))
      layer_stable (tac.Free pointer) i h = kept (tac.Free (source pointer)) (after (tac.Free (source pointer))) refl
          (stays.freed pointer (and_first (before (tac.Free pointer)) true h))
      layer_stable (tac.Return value) i h = kept (tac.Return (option_map source value))
          (after (tac.Return (option_map source value))) refl
          (stays.returned value (and_first (before (tac.Return value)) true h))

      stmt_stable : (stmt : TacStmt) → Stable stmt
      stmt_stable = stmt_induction Stable (λ k i h. ap holds_of (fold-roll-TacStmt (Option TacStmt)
          (pass_step constants source used holds_word) k) ∙ layer_stable k i (sym (fold-roll-TacStmt Bool
          (with_parts before) k) ∙ h))

      -- what each statement keeps by itself
      pub passed_keeps : (body : List TacStmt) → everywhere before body ≡ true →
          everywhere after (present (map passes body)) ≡ true
      passed_keeps body h = row_stable body (everywhere_in Stable stmt_stable body) h
