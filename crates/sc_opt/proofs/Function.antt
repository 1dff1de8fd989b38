-- A function does what it does where its code is passed once.
use Rattle.std.proofs.Common.{Bool, List, Option, ap, inl, inr, is_some, map, refl, sym, true, ℕ}
use Rattle.std.proofs.Common.{◌∙◌, ◌≡◌}
use Rattle.std.proofs.Common.{not}
use Rattle.sc_base.proofs.Bools.{and_first, and_rest}
use Rattle.sc_core.specs.Prelude.{Arith, Calls, Here, Left, Piece, Reached, State, Stopped, and_then, closed}
use Rattle.sc_core.specs.declared.expr.CallTarget.{CallTarget}
use Rattle.sc_core.specs.declared.value.Value.{Value}
use Rattle.sc_core_laws.specs.Prelude.{CallsAgree, PiecesAgree, piece_without_line}
use Rattle.sc_tac.specs.Flow.{is_assigned_first}
use Rattle.sc_tac.specs.Prelude.{Temps, code_does, code_function, everywhere, nothing_ahead, nothing_live, no_temps}
use Rattle.sc_tac.specs.Prelude.{reading, row_first}
use Rattle.sc_tac.specs.declared.function.TacFnTree.{TacFnTree}
use Rattle.sc_opt.specs.Pass.{always_word, copy_source, is_read, known_constant, one_pass, table_of, takes_promised}
use Rattle.sc_opt.specs.Optimised.{changed_function}
use Rattle.sc_opt.proofs.Kept.{code_kept}
use Rattle.sc_opt.proofs.Agreement.{begun}
use Rattle.sc_opt.proofs.Related.{Related}
use Rattle.sc_opt.proofs.AllKnown.{all_known}
use Rattle.sc_opt.proofs.Copies.{all_sourced}
use Rattle.sc_opt.proofs.UsedReads.{all_uses}
use Rattle.sc_opt.proofs.Values.{Fits}
use Rattle.sc_tac.specs.declared.stmt.Constant.{Constant}
use Rattle.sc_opt.specs.declared.facts.Assigned.{Assigned}

-- what a call sees of two pieces that follow
module _ (table : ℕ → Assigned) (constants : ℕ → Option Constant) (source : ℕ → ℕ) (used holds_word : ℕ → Bool)
    (result is_main : Bool)
    (here : Here) where
  abbrev closing : Left Temps → State → Piece (Option Value)
  closing left s = closed left.exit result is_main 0 here s

  closes : (g : Temps) (assignments : ℕ → Assigned) (o p : Piece (Left Temps)) →
      Related table constants source used holds_word nothing_live g assignments o p → PiecesAgree (and_then o closing)
      (and_then p closing)
  closes g assignments (Reached l s) p m = record {
    same = sym (ap (λ x. piece_without_line
        (and_then x closing)) m.is);
  }
  closes g assignments (Stopped end s) p m = record {
    same = ap (λ e. Stopped e s) m.same ∙ sym (ap (λ x. piece_without_line (and_then x closing)) m.is);
  }

not_so : {B : Type 0} (b : Bool) → not b ≡ true → b ≡ true → B
not_so b n h = let no : not true ≡ true = ap not (sym h) ∙ n in absurd (cc no)

module _ (arith : Arith) (fits : Fits arith) (f : TacFnTree) (gives : CallTarget → Bool)
    (assigned_first : (t : ℕ) → is_assigned_first t f.body ≡ true)
    (takes : everywhere (takes_promised gives) f.body ≡ true) where
  pub function_kept : (here : Here) (C D : Calls) → CallsAgree C D →
      ((target : CallTarget) → gives target ≡ true → (args : List Value) (s t : State) (v : Option Value) →
      C here.comp target args s ≡ Reached v t → is_some v ≡ true) → (s : State) →
      PiecesAgree ((code_function arith f).does C here s) ((code_function arith
      (changed_function one_pass f)).does D here s)
  function_kept here C D agree giving s =
      let table = table_of f.body in
      let constants = known_constant table in
      let source = copy_source table in
      let used = is_read constants source f.body in
      let holds_word = always_word f.body in
      closes table constants source used holds_word f.result _ here no_temps (λ t. table t)
      (code_does arith here C f.body no_temps s)
      (code_does arith here D (one_pass f.body) no_temps s)
      (code_kept table constants source used holds_word (all_sourced table used holds_word)
      (all_known table source used holds_word) arith fits here C D gives
      (agree here.comp) giving f.body
      nothing_live no_temps no_temps no_temps s (record {
        below = λ t. inr (inl refl);
        words = λ t w. w;
        uses = all_uses constants source used holds_word f.body (λ x r. r);
        takes = takes;
        fresh = λ t. and_rest (not (row_first (map (reading t) f.body) nothing_ahead)) _ (assigned_first t);
      }) (begun table constants source used holds_word _ no_temps no_temps (λ t on.
      not_so (row_first (map (reading t) f.body) nothing_ahead)
      (and_first (not (row_first (map (reading t) f.body) nothing_ahead)) _ (assigned_first t)) on))
      (λ t once. inr refl)).related
