-- What the pass makes of statements, as the code builds it.
use Rattle.std.proofs.Common.{Bool, List, None, Option, Some, [], ap, false, map, not, refl, sym}
use Rattle.std.proofs.Common.{true}
use Rattle.std.proofs.Common.{append_assoc, drop, get_or, length, ◌+◌, ◌<◌}
use Rattle.std.proofs.Common.{ℕ, ◌&&◌, ◌++◌, ◌==◌, ◌||◌, ◌∙◌, ◌∷◌, ◌≡◌}
use Rattle.std.specs.Option.{option_map}
use Rattle.sc_tac.specs.declared.stmt.Constant.{Constant}
use Rattle.sc_tac.specs.declared.stmt.TacOp.{TacOp}
use Rattle.sc_tac.specs.declared.stmt.TacStmt.{TacStmt, TacStmt-F, fold-roll-TacStmt, map-TacStmt}
use Rattle.sc_tac.specs.declared.stmt.TacStmt.{roll-TacStmt}
use Rattle.sc_tac.specs.declared.stmt.TacStmt.TheOpen as tac
use Rattle.sc_tac.specs.declared.stmt.TacStmt.TheVariants as emit
use Rattle.sc_opt.proofs.Stepping.{parted_of}
use Rattle.sc_opt.specs.Pass.{folded, is_total, keep_if, operator_code, pass_step, present}
use Rattle.sc_opt.specs.Tables.{constant_at, copy_by, holds_word_at, keep_when, operator_by, operator_from, pass_by}
use Rattle.sc_opt.specs.Tables.{passed_by, source_at, used_at}
use Rattle.sc_opt.specs.declared.pass.Tables.{Tables}

module _ (tables : Tables) where
  abbrev source : ℕ → ℕ
  source = source_at tables.origins.sources

  abbrev used : ℕ → Bool
  used = used_at tables.marks

  abbrev holds_word : ℕ → Bool
  holds_word = holds_word_at tables.origins.facts

  abbrev step : TacStmt-F (Option TacStmt) → Option TacStmt
  step = pass_step (constant_at tables.origins.constants) source used holds_word

  -- a statement by its layer
  by_layer : (stmt : TacStmt) (layer : TacStmt-F TacStmt) → roll-TacStmt layer ≡ stmt →
      step (map-TacStmt _ _ (pass_by tables) layer) ≡ pass_by tables stmt
  by_layer stmt layer is = sym (fold-roll-TacStmt (Option TacStmt) step layer) ∙ ap (pass_by tables) is

  kept : (u : Bool) (layer : TacStmt-F TacStmt) (made : TacStmt) → roll-TacStmt layer ≡ made →
      keep_when u made ≡ keep_if u layer
  kept true layer made is = ap Some (sym is)
  kept false layer made is = refl

  operator_made : (d : ℕ) (o : TacOp) (left : ℕ) (right : Option ℕ) (f : Option Constant) →
      operator_from tables d o left right f ≡ operator_code source used holds_word d o left right f
  operator_made d o left right (Some c) = kept (used d) (tac.Const d c) (emit.Const d c) (emit.rolls-Const d c)
  operator_made d o left right None = kept (used d || not (is_total holds_word o left right))
      (tac.Op d o (source left) (option_map source right)) (emit.Op d o (source left) (option_map source right))
      (emit.rolls-Op d o (source left) (option_map source right))

  pub op_made : (stmt : TacStmt) (d : ℕ) (o : TacOp) (left : ℕ) (right : Option ℕ) → stmt ≡ emit.Op d o left right →
      operator_by tables d o left right ≡ pass_by tables stmt
  op_made stmt d o left right is = operator_made d o left right
      (folded (constant_at tables.origins.constants) o left right)
      ∙ by_layer stmt (tac.Op d o left right) (emit.rolls-Op d o left right ∙ sym is)

  -- STATEMENTS IN ORDER
  one_more : (o : Option TacStmt) (rest : List (Option TacStmt)) → present (o ∷ []) ++ present rest ≡ present (o ∷ rest)
  one_more None rest = refl
  one_more (Some s) rest = refl

  pub row_stepped : (items list : List TacStmt) (i : ℕ) (stmt : TacStmt) (whole made : List TacStmt)
      (kept : Option TacStmt) → items ≡ list → i < length items → stmt ≡ get_or items i stmt →
      made ++ passed_by tables (drop i list) ≡ whole →
      kept ≡ pass_by tables stmt →
      (made ++ present (kept ∷ [])) ++ passed_by tables (drop (i + 1) list) ≡ whole
  row_stepped items list i stmt whole made kept same less is h k =
      append_assoc made (present (kept ∷ [])) (passed_by tables (drop (i + 1) list))
      ∙ ap (λ l. made ++ l) ((λ j. present (k j ∷ []) ++ passed_by tables (drop (i + 1) list))
      ∙ one_more (pass_by tables stmt) (map (pass_by tables) (drop (i + 1) list))
      ∙ ap (passed_by tables) (parted_of items list i stmt same less is)) ∙ h
