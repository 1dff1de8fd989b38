-- Typed statements that do the rows of an entry perform all rows of a compartment that are of it.
use Rattle.sc_back_performer_laws.proofs.Common.{Action, Bool, Callees, Entry, Export, Import, Interface, Interfaces}
use Rattle.sc_back_performer_laws.proofs.Common.{IsPerformer, IsPerforming, List, Main, MayDo, None, Option, Proto, Row}
use Rattle.sc_back_performer_laws.proofs.Common.{Scalar, Some, TypedStmt, [], ap, calls_out, counter, counter_is, ends}
use Rattle.sc_back_performer_laws.proofs.Common.{eq-eqb, export_at, false, false≢true, filter, if◌then◌else◌}
use Rattle.sc_back_performer_laws.proofs.Common.{import_target, imports, input_proto, int_expr, is_function, is_of}
use Rattle.sc_back_performer_laws.proofs.Common.{length, option_map_or, output_proto, performs, refl, skips, stmt_at}
use Rattle.sc_back_performer_laws.proofs.Common.{subst, suc, sym, true, word_exprs, ℕ, ◌==◌, ◌∙◌, ◌∷◌, ◌≡◌}
use Rattle.sc_event.specs.declared.interface.Import.TheVariants as import
use Rattle.sc_event.specs.declared.row.Action.TheVariants as action
use Rattle.sc_core.specs.declared.stmt.TypedStmtKind as kind
use Rattle.sc_core.specs.declared.ty.Ty.TheVariants as ty
use Rattle.sc_back_replay_laws.specs.Texts.{action_kind, literal}
use Rattle.sc_back_performer_laws.proofs.BackTree.{uses}
use Rattle.sc_back_performer_laws.proofs.TypedRows.{IsTypedBody, action_typed, row_typed, then_does, waits_on}
use Rattle.sc_back_performer_laws.proofs.Uses.{AllFit, IsAmong, calls_use, entry_is, input_use, output_use}

-- calls by the names of what is imported lead where it is imported from
abbrev pub HasTargets : Callees → List (Import × Proto) → Type 0
HasTargets callees used = (u : Import × Proto) → IsAmong u used → callees.target u.1.name ≡ import_target u.0

same_entries : (entry : Entry) (number : ℕ) (action : Action) →
    is_of entry (record { entry = entry; number = number; action = action }) ≡ true
same_entries Main number action = refl
same_entries (Export index) number action = eq-eqb index index refl

-- a row of this entry passes its test
of_entry : (entry : Entry) (row : Row) → row.entry ≡ entry → is_of entry row ≡ true
of_entry entry row e = subst (λ x. is_of x row ≡ true) e (same_entries row.entry row.number row.action)

module _ (callees : Callees) (interfaces : Interfaces) (comp : ℕ) (all : List Row) (interface : Interface)
    (is : IsPerformer interfaces comp all interface)
    (targets : HasTargets callees (uses interfaces interface.imports)) where
  cross_leads : (to index : ℕ) (args : List ℕ) → imports interfaces comp (is_function to index) ≡ true →
      (o : Option Proto) → export_at interfaces to index ≡ o →
      option_map_or (λ found. length found.params == length args) o false ≡ true →
      option_map_or (λ f. calls_out (callees.target f.name) (word_exprs f.params args)) o kind.Empty ≡
      calls_out (import_target (import.Function to index)) (word_exprs (option_map_or (λ f. f.params) o []) args)
  cross_leads to index args h None at t = absurd (false≢true t)
  cross_leads to index args h (Some f) at t =
      ap (λ x. calls_out x (word_exprs f.params args)) (targets (import.Function to index, f)
      (calls_use interfaces comp all interface is to index f h at))

  leads : (result : Option Scalar) (a : Action) → MayDo interfaces comp result a →
      action_typed callees interfaces result a ≡ action_kind interfaces result a
  leads result (action.Call to index args) h =
      cross_leads to index args h.0 (export_at interfaces to index) refl h.1
  leads result (action.Ret None) h = refl
  leads result (action.Ret (Some word)) h = refl
  leads result (action.Out word) h =
      ap (λ x. calls_out x (int_expr word ∷ [])) (targets (import.Output, output_proto)
      (output_use interfaces comp all interface is output_proto refl h.0))
  leads result (action.In word) h =
      ap (λ x. calls_out x []) (targets (import.Input, input_proto)
      (input_use interfaces comp all interface is input_proto refl h))
  leads result (action.End word) h = refl

  nothing_left : (entry : Entry) (result : Option Scalar) (done : List Row) (stmts : List TypedStmt) →
      IsTypedBody callees interfaces result done stmts → done ≡ [] → IsPerforming interfaces entry result [] stmts
  nothing_left entry result done stmts (waits_on line) e = ends line
  nothing_left entry result done stmts (then_does row rows rest line set_line action_line h) e = absurd (cc)

  record BeginsWith (result : Option Scalar) (row : Row) (others : List Row) (stmts : List TypedStmt) : Type 0 where
    rest : List TypedStmt
    line : ℕ
    set_line : ℕ
    action_line : ℕ
    is_then : stmts ≡ row_typed callees interfaces result row line set_line action_line ∷ rest
    others_done : IsTypedBody callees interfaces result others rest

  begins : (result : Option Scalar) (row : Row) (others done : List Row) (stmts : List TypedStmt) →
      IsTypedBody callees interfaces result done stmts → done ≡ row ∷ others → BeginsWith result row others stmts
  begins result row others done stmts (waits_on line) e = absurd (cc)
  begins result row others done stmts (then_does first rows rest line set_line action_line h) e =
      let same : first ≡ row = cc in
      let same_rest : rows ≡ others = cc in
      record {
        rest = rest;
        line = line;
        set_line = set_line;
        action_line = action_line;
        is_then = ap (λ r. row_typed callees interfaces result r line set_line action_line ∷ rest) same;
        others_done = subst (λ r. IsTypedBody callees interfaces result r rest) same_rest h;
      }

  pub performing : (entry : Entry) (result : Option Scalar) (rows : List Row) (stmts : List TypedStmt) →
      IsTypedBody callees interfaces result (filter (is_of entry) rows) stmts →
      AllFit interfaces comp result (filter (is_of entry) rows) → IsPerforming interfaces entry result rows stmts
  performing entry result [] stmts h fits = nothing_left entry result [] stmts h refl
  performing entry result (row ∷ rows) stmts h fits =
      by (is_of entry row) refl h fits (performing entry result rows) where
        by : (b : Bool) → is_of entry row ≡ b →
            IsTypedBody callees interfaces result
            (if b then row ∷ filter (is_of entry) rows else filter (is_of entry) rows) stmts →
            AllFit interfaces comp result
            (if b then row ∷ filter (is_of entry) rows else filter (is_of entry) rows) →
            ((rest : List TypedStmt) → IsTypedBody callees interfaces result (filter (is_of entry) rows) rest →
            AllFit interfaces comp result (filter (is_of entry) rows) →
            IsPerforming interfaces entry result rows rest) →
            IsPerforming interfaces entry result (row ∷ rows) stmts
        by true here h fits more =
            let b : BeginsWith result row (filter (is_of entry) rows) stmts =
            begins result row (filter (is_of entry) rows) _ stmts h refl in
            subst (IsPerforming interfaces entry result (row ∷ rows))
            (sym (b.is_then ∙ ap (λ k. stmt_at b.line (kind.If (counter_is row.number)
            (stmt_at b.set_line (kind.Assign counter (literal ty.Unsigned (suc row.number))) ∷
            stmt_at b.action_line k ∷ []) []) ∷ b.rest) (leads result row.action fits.0.may)))
            (performs row rows b.rest b.line b.set_line b.action_line (entry_is entry row here)
            (more b.rest b.others_done fits.1))
        by false elsewhere h fits more =
            skips row rows stmts (λ e. false≢true (sym elsewhere ∙ of_entry entry row e)) (more stmts h fits)
