-- A pass that takes no weight away changes nothing.
use Rattle.std.proofs.Common.{Bool, List, None, Option, Some, [], ap, ap₂, false, map, not, refl, sym, true, ℕ}
use Rattle.std.proofs.Common.{◌&&◌}
use Rattle.std.proofs.Common.{◌==◌, ◌||◌, ◌∙◌, ◌∷◌, ◌≡◌}
use Rattle.std.specs.Option.{option_map}
use Rattle.sc_base.proofs.Bools.{and_first, and_rest}
use Rattle.sc_core.proofs.Induction.{Each, everywhere as everywhere_in}
use Rattle.sc_tac.proofs.Induction.{Inside, stmt_induction}
use Rattle.sc_tac.specs.Prelude.{all_true, everywhere, weight, with_parts}
use Rattle.sc_tac.specs.declared.stmt.Constant.{Constant}
use Rattle.sc_tac.specs.declared.stmt.TacOp.{TacOp}
use Rattle.sc_tac.specs.declared.stmt.TacStmt.{TacStmt, TacStmt-F, fold-TacStmt, fold-roll-TacStmt, map-TacStmt}
use Rattle.sc_tac.specs.declared.stmt.TacStmt.{roll-TacStmt}
use Rattle.sc_tac.specs.declared.stmt.TacStmt.TheOpen as tac
use Rattle.sc_opt.specs.Pass.{always_word, copy_source, folded, is_kept, is_none, is_read, is_total, keep_if}
use Rattle.sc_opt.specs.Pass.{known_constant, one_pass, operator_code, pass, pass_step, present, table_of}
use Rattle.sc_opt.proofs.Falling.{all_left}
use Rattle.sc_opt.proofs.Lean.{at_home}
use Rattle.sc_opt.proofs.Copies.{all_sourced}

module _ (constants : ℕ → Option Constant) (source : ℕ → ℕ) (used holds_word : ℕ → Bool)
    (home : (t : ℕ) → source t ≡ t) where
  abbrev kept : TacStmt → Bool
  kept = fold-TacStmt Bool (with_parts (is_kept constants source used holds_word))

  abbrev passes : TacStmt → Option TacStmt
  passes = pass constants source used holds_word

  abbrev Stays : TacStmt → Type 0
  Stays stmt = kept stmt ≡ true → passes stmt ≡ Some stmt

  added : (o : Option TacStmt) (s : TacStmt) (rest : List (Option TacStmt)) (others : List TacStmt) → o ≡ Some s →
      present rest ≡ others → present (o ∷ rest) ≡ s ∷ others
  added o s rest others is same = ap (λ x. present (x ∷ rest)) is ∙ ap (λ xs. s ∷ xs) same

  row_stays : (stmts : List TacStmt) → Each Stays stmts → all_true (map kept stmts) ≡ true →
      present (map passes stmts) ≡ stmts
  row_stays [] each h = refl
  row_stays (s ∷ rest) each h = added (passes s) s (map passes rest) rest (each.0 (and_first (kept s) _ h))
      (row_stays rest each.1 (and_rest (kept s) _ h))

  all_home : (ts : List ℕ) → map source ts ≡ ts
  all_home [] = refl
  all_home (t ∷ ts) = ap₂ (λ u us. u ∷ us) (home t) (all_home ts)

  maybe_home : (o : Option ℕ) → option_map source o ≡ o
  maybe_home None = refl
  maybe_home (Some t) = ap Some (home t)

  if_used : (u : Bool) (k : TacStmt-F TacStmt) → u ≡ true → keep_if u k ≡ Some (roll-TacStmt k)
  if_used u k h = ap (λ b. keep_if b k) h

  op_stays : (d : ℕ) (o : TacOp) (left : ℕ) (right : Option ℕ) (f : Option Constant) → is_none f ≡ true →
      (used d || not (is_total holds_word o left right)) ≡ true →
      operator_code source used holds_word d o left right f ≡ Some (roll-TacStmt (tac.Op d o left right))
  op_stays d o left right (Some c) none h = let no : false ≡ true = none in absurd (cc no)
  op_stays d o left right None none h =
      if_used _ (tac.Op d o (source left) (option_map source right)) h
      ∙ ap₂ (λ l r. Some (roll-TacStmt (tac.Op d o l r))) (home left) (maybe_home right)

  layer_stays : (k : TacStmt-F TacStmt) → Inside Stays k →
      with_parts (is_kept constants source used holds_word) (map-TacStmt _ _ kept k) ≡ true →
      pass_step constants source used holds_word (map-TacStmt _ _ passes k) ≡ Some (roll-TacStmt k)
  layer_stays (tac.Const d value) i h = if_used (used d) (tac.Const d value) (and_first (used d) true h)
  layer_stays (tac.Copy d from) i h =
      if_used _ (tac.Copy d (source from)) (and_first (not (source d == source from) && used d) true h)
      ∙ ap (λ t. Some (roll-TacStmt (tac.Copy d t))) (home from)
  layer_stays (tac.Op d o left right) i h =
      let all = and_first (is_none (folded constants o left right)
      && (used d || not (is_total holds_word o left right))) true h in
      op_stays d o left right (folded constants o left right)
      (and_first (is_none (folded constants o left right)) _ all)
      (and_rest (is_none (folded constants o left right)) _ all)
  layer_stays (tac.ObjectPlace d object) i h = if_used (used d) (tac.ObjectPlace d object) (and_first (used d) true h)
  layer_stays (tac.GlobalPlace d global) i h = if_used (used d) (tac.GlobalPlace d global) (and_first (used d) true h)
  layer_stays (tac.Load d place pointer) i h = ap (λ t. Some (roll-TacStmt (tac.Load d t pointer))) (home place)
  layer_stays (tac.Store place value) i h =
      ap₂ (λ t u. Some (roll-TacStmt (tac.Store t u))) (home place) (home value)
  layer_stays (tac.If cond a b) i h =
      let all = and_rest true (all_true (map kept a) && (all_true (map kept b) && true)) h in
      ap (λ t. Some (roll-TacStmt (tac.If t (present (map passes a)) (present (map passes b))))) (home cond)
      ∙ ap₂ (λ x y. Some (roll-TacStmt (tac.If cond x y))) (row_stays a i.0 (and_first (all_true (map kept a)) _ all))
      (row_stays b i.1 (and_first (all_true (map kept b)) true (and_rest (all_true (map kept a)) _ all)))
  layer_stays (tac.Loop a b c) i h =
      let all = and_rest true (all_true (map kept a) && (all_true (map kept b) && (all_true (map kept c) && true))) h in
      let later = and_rest (all_true (map kept a)) _ all in
      ap (λ x. Some (roll-TacStmt (tac.Loop x (present (map passes b)) (present (map passes c)))))
      (row_stays a i.0 (and_first (all_true (map kept a)) _ all))
      ∙ ap₂ (λ y z. Some (roll-TacStmt (tac.Loop a y z))) (row_stays b i.1 (and_first (all_true (map kept b)) _ later))
      (row_stays c i.2 (and_first (all_true (map kept c)) true (and_rest (all_true (map kept b)) _ later)))
  layer_stays tac.Break i h = refl
  layer_stays tac.Continue i h = refl
  layer_stays (tac.CallOwn dest function args) i h =
      ap (λ ts. Some (roll-TacStmt (tac.CallOwn dest function ts))) (all_home args)
  layer_stays (tac.CallCross dest comp index args) i h =
      ap (λ ts. Some (roll-TacStmt (tac.CallCross dest comp index ts))) (all_home args)
  layer_stays (tac.Input dest) i h = refl
  layer_stays (tac.Output value) i h = ap (λ t. Some (roll-TacStmt (tac.Output t))) (home value)
  layer_stays (tac.Alloc d count words) i h = ap (λ t. Some (roll-TacStmt (tac.Alloc d t words))) (home count)
  layer_stays (tac.Free pointer) i h = ap (λ t. Some (roll-TacStmt (tac.Free t))) (home pointer)
  layer_stays (tac.Return value) i h = ap (λ v. Some (roll-TacStmt (tac.Return v))) (maybe_home value)

  stmt_stays : (stmt : TacStmt) → Stays stmt
  stmt_stays = stmt_induction Stays (λ k i h. fold-roll-TacStmt (Option TacStmt)
      (pass_step constants source used holds_word) k
      ∙ layer_stays k i (sym (fold-roll-TacStmt Bool (with_parts (is_kept constants source used holds_word)) k) ∙ h))

  all_stay : (body : List TacStmt) → everywhere (is_kept constants source used holds_word) body ≡ true →
      present (map passes body) ≡ body
  all_stay body h = row_stays body (everywhere_in Stays stmt_stays body) h

pub nothing_changed : (body : List TacStmt) → weight (one_pass body) ≡ weight body → one_pass body ≡ body
nothing_changed body same =
    let table = table_of body in
    let constants = known_constant table in
    let source = copy_source table in
    let used = is_read constants source body in
    let holds_word = always_word body in
    let left = all_left constants source used holds_word body same in
    all_stay constants source used holds_word
    (at_home table constants used holds_word (all_sourced table used holds_word) body (λ t. refl) left) body left
