-- The rows of a performing section with their types.
use Rattle.sc_back_performer_laws.proofs.Common.{Action, Binary, Callees, Equal, Import, Int, Interface, Interfaces}
use Rattle.sc_back_performer_laws.proofs.Common.{IsPerformer, List, MayDo, None, Option, Param, Proto, Row, Scalar}
use Rattle.sc_back_performer_laws.proofs.Common.{Some, StmtTree, TypedParam, TypedStmt, TypedStmtKind, Unsigned}
use Rattle.sc_back_performer_laws.proofs.Common.{Variable, [], action_kind, ap, call_kind, calls_out, counter}
use Rattle.sc_back_performer_laws.proofs.Common.{counter_is, counter_name, export_at, false, false≢true, variable_in}
use Rattle.sc_back_performer_laws.proofs.Common.{going_to_all, imports, input_proto, int_expr, is_function, length, map}
use Rattle.sc_back_performer_laws.proofs.Common.{option_map_or, or_int, output_proto, params_called, proto_signature}
use Rattle.sc_back_performer_laws.proofs.Common.{refl}
use Rattle.sc_back_performer_laws.proofs.Common.{result_ty, scalar_ty, stmt_at, subst, suc, sym, true, typed}
use Rattle.sc_back_performer_laws.proofs.Common.{typed_stmt, value_tree, value_trees, waits, word_expr, word_exprs, ℕ}
use Rattle.sc_back_performer_laws.proofs.Common.{◌==◌, ◌∙◌, ◌∷◌, ◌≡◌}
use Rattle.sc_event.specs.declared.interface.Import.TheVariants as import
use Rattle.sc_event.specs.declared.row.Action.TheVariants as action
use Rattle.sc_ast.specs.declared.stmt.StmtKind.TheVariants as stmt
use Rattle.sc_core.specs.declared.stmt.TypedStmtKind as kind
use Rattle.sc_core.specs.declared.ty.Ty.TheVariants as ty
use Rattle.sc_back_replay_laws.specs.Texts.{literal}
use Rattle.sc_back_performer_laws.proofs.BackTree.{IsBackBody, does, ends, row_at, uses}
use Rattle.sc_back_performer_laws.proofs.BackTree as back
use Rattle.sc_back_performer_laws.proofs.TypedTrees.{assign_at, call_at, goes, if_at, return_at, typed_test}
use Rattle.sc_back_performer_laws.proofs.TypedTrees.{typed_value, typed_values, value_at, visible, while_at}
use Rattle.sc_back_performer_laws.proofs.Uses.{AllFit, IsAmong, calls_use, input_use, output_use}

-- what a statement does that performs an action, where calls lead where their names do
abbrev pub action_typed : Callees → Interfaces → Option Scalar → Action → TypedStmtKind
action_typed callees interfaces result (action.Call to index args) =
    option_map_or (λ f. calls_out (callees.target f.name) (word_exprs f.params args)) (export_at interfaces to index)
    kind.Empty
action_typed callees interfaces result (action.Ret None) = kind.Return
action_typed callees interfaces result (action.Ret (Some word)) = kind.ReturnValue (word_expr (or_int result) word)
action_typed callees interfaces result (action.Out word) =
    calls_out (callees.target output_proto.name) (int_expr word ∷ [])
action_typed callees interfaces result (action.In word) = calls_out (callees.target input_proto.name) []
action_typed callees interfaces result (action.End word) = kind.ReturnValue (int_expr word)

abbrev pub row_typed : Callees → Interfaces → Option Scalar → Row → (line set_line action_line : ℕ) → TypedStmt
row_typed callees interfaces result row line set_line action_line =
    stmt_at line (kind.If (counter_is row.number)
    (stmt_at set_line (kind.Assign counter (literal ty.Unsigned (suc row.number))) ∷
    stmt_at action_line (action_typed callees interfaces result row.action) ∷ []) [])

-- statements that do these rows
pub data IsTypedBody (callees : Callees) (interfaces : Interfaces) (result : Option Scalar) :
    List Row → List TypedStmt → Type 0 where
  waits_on : (line : ℕ) → IsTypedBody callees interfaces result [] (stmt_at line waits ∷ [])
  then_does : (row : Row) (rows : List Row) (stmts : List TypedStmt) (line set_line action_line : ℕ) →
      IsTypedBody callees interfaces result rows stmts → IsTypedBody callees interfaces result (row ∷ rows)
      (row_typed callees interfaces result row line set_line action_line ∷ stmts)

-- what is imported has the types of its prototype
abbrev pub HasSignatures : Callees → List (Import × Proto) → Type 0
HasSignatures callees used = (u : Import × Proto) → IsAmong u used →
    callees.signature u.1.name ≡ Some (proto_signature u.1)

module _ (params : List TypedParam) (absent : variable_in Param params counter_name ≡ None) (callees : Callees)
    (interfaces : Interfaces) (comp : ℕ) (rows : List Row) (interface : Interface)
    (is : IsPerformer interfaces comp rows interface)
    (signatures : HasSignatures callees (uses interfaces interface.imports)) where
  typed_out : (result : Option Scalar) (line : ℕ) (args : List ℕ) (f : Proto) →
      callees.signature f.name ≡ Some (proto_signature f) →
      typed_stmt (visible params absent callees) callees (result_ty result) (back.stmt_at line (call_kind args f)) ≡
      stmt_at line (calls_out (callees.target f.name) (word_exprs f.params args))
  typed_out result line args f has =
      call_at params absent callees (result_ty result) line
      (record { name = f.name; args = value_trees f.params args }) ∙
      ap (λ x. stmt_at line (calls_out (callees.target f.name) x))
      (ap (λ s. going_to_all (params_called s) (map (typed (visible params absent callees)) (value_trees f.params
      args)))
      has ∙ typed_values params absent callees f.params args)

  typed_cross : (result : Option Scalar) (line to index : ℕ) (args : List ℕ) →
      imports interfaces comp (is_function to index) ≡ true → (o : Option Proto) → export_at interfaces to index ≡ o →
      option_map_or (λ found. length found.params == length args) o false ≡ true →
      typed_stmt (visible params absent callees) callees (result_ty result)
      (back.stmt_at line (option_map_or (call_kind args) o stmt.Empty)) ≡
      stmt_at line (option_map_or (λ f. calls_out (callees.target f.name) (word_exprs f.params args)) o kind.Empty)
  typed_cross result line to index args h None at t = absurd (false≢true t)
  typed_cross result line to index args h (Some f) at t =
      typed_out result line args f (signatures (import.Function to index, f)
      (calls_use interfaces comp rows interface is to index f h at))

  typed_return : (type : Scalar) (line word : ℕ) →
      typed_stmt (visible params absent callees) callees (Some (scalar_ty type))
      (back.stmt_at line (stmt.ReturnValue (value_tree type word))) ≡
      stmt_at line (kind.ReturnValue (word_expr type word))
  typed_return type line word =
      value_at params absent callees type line (value_tree type word) ∙
      ap (λ x. stmt_at line (kind.ReturnValue x)) (goes type (typed (visible params absent callees)
      (value_tree type word)) ∙ typed_value params absent callees type word)

  typed_action : (result : Option Scalar) (a : Action) (line : ℕ) → MayDo interfaces comp result a →
      typed_stmt (visible params absent callees) callees (result_ty result)
      (back.stmt_at line (action_kind interfaces result a)) ≡
      stmt_at line (action_typed callees interfaces result a)
  typed_action result (action.Call to index args) line h =
      typed_cross result line to index args h.0 (export_at interfaces to index) refl h.1
  typed_action None (action.Ret None) line h = return_at params absent callees (result_ty None) line
  typed_action None (action.Ret (Some word)) line h = absurd (false≢true h.0)
  typed_action (Some type) (action.Ret None) line h = absurd (false≢true h.0)
  typed_action (Some type) (action.Ret (Some word)) line h = typed_return type line word
  typed_action result (action.Out word) line h =
      typed_out result line (word ∷ []) output_proto (signatures (import.Output, output_proto)
      (output_use interfaces comp rows interface is output_proto refl h.0))
  typed_action result (action.In word) line h =
      typed_out result line [] input_proto (signatures (import.Input, input_proto)
      (input_use interfaces comp rows interface is input_proto refl h))
  typed_action result (action.End word) line h =
      ap (λ r. typed_stmt (visible params absent callees) callees (result_ty r)
      (back.stmt_at line (stmt.ReturnValue (value_tree Int word)))) h.0 ∙ typed_return Int line word

  typed_row : (result : Option Scalar) (row : Row) (line set_line action_line : ℕ) →
      MayDo interfaces comp result row.action →
      typed_stmt (visible params absent callees) callees (result_ty result)
      (row_at interfaces result row line set_line action_line) ≡
      row_typed callees interfaces result row line set_line action_line
  typed_row result row line set_line action_line may =
      if_at params absent callees (result_ty result) line
      (Binary Equal (Variable counter_name) (value_tree Unsigned row.number)) _ ∙
      (λ i. stmt_at line (kind.If (typed_test params absent callees row.number i)
      (assign_at params absent callees (result_ty result) set_line (suc row.number) i ∷
      typed_action result row.action action_line may i ∷ []) []))

  pub typed_body : (result : Option Scalar) (done : List Row) (body : List StmtTree) →
      IsBackBody interfaces result done body → AllFit interfaces comp result done →
      IsTypedBody callees interfaces result done
      (map (typed_stmt (visible params absent callees) callees (result_ty result)) body)
  typed_body result done body (ends line) h =
      subst (λ x. IsTypedBody callees interfaces result [] (x ∷ []))
      (sym (while_at params absent callees (result_ty result) line)) (waits_on line)
  typed_body result done body (does row others stmts line set_line action_line rest) h =
      subst (λ x. IsTypedBody callees interfaces result (row ∷ others) (x ∷ map (typed_stmt
      (visible params absent callees) callees (result_ty result)) stmts))
      (sym (typed_row result row line set_line action_line h.0.may))
      (then_does row others _ line set_line action_line (typed_body result others stmts rest h.1))
