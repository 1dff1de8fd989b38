-- A performing section breaks no rule of types.
use Rattle.sc_back_performer_laws.proofs.Common.{Action, AllByRecursion, Binary, CallTree, Callees, Decides-eqb, Entry}
use Rattle.sc_back_performer_laws.proofs.Common.{Equal, ExprTree, FunctionTree, HeadTree, Int, Interface, Interfaces}
use Rattle.sc_back_performer_laws.proofs.Common.{IsPerformer, IsUsable, IsWord, List, MayDo, None, Option, Param, Proto}
use Rattle.sc_back_performer_laws.proofs.Common.{Row, Scalar, SectionTree, Some, StmtTree, Ty, TypedParam, TypesHold}
use Rattle.sc_back_performer_laws.proofs.Common.{Unsigned, Variable, [], action_kind, ap, ap₂, args_fit, arith}
use Rattle.sc_back_performer_laws.proofs.Common.{assign_fits, assign_holds, call_holds, call_kind, callees_of, concat}
use Rattle.sc_back_performer_laws.proofs.Common.{cond_holds, counter_name, decl_type_lines, export_at, false}
use Rattle.sc_back_performer_laws.proofs.Common.{false≢true}
use Rattle.sc_back_performer_laws.proofs.Common.{filter, variable_in, goes_into, going_to, going_to_all, imports}
use Rattle.sc_back_performer_laws.proofs.Common.{input_proto, is_function, is_of, is_scalar, is_some, judged, length}
use Rattle.sc_back_performer_laws.proofs.Common.{literal, map, not, option_map_or, output_proto, params_called}
use Rattle.sc_back_performer_laws.proofs.Common.{proto_of}
use Rattle.sc_back_performer_laws.proofs.Common.{proto_signature, recursion_from_All, refl, result_ty}
use Rattle.sc_back_performer_laws.proofs.Common.{return_value_holds, rules, scalar_ty, suc, true, typed, unless}
use Rattle.sc_back_performer_laws.proofs.Common.{value_tree, value_trees, ℕ, ◌++◌, ◌<◌, ◌==◌, ◌^◌, ◌∙◌, ◌∷◌, ◌≡◌}
use Rattle.sc_types_elab_stmt.specs.Prelude.{stmt_type_lines}
use Rattle.sc_types_elab.specs.Prelude.{function_type_lines, section_type_lines}
use Rattle.sc_event.specs.declared.interface.Import.TheVariants as import
use Rattle.sc_event.specs.declared.row.Action.TheVariants as action
use Rattle.sc_ast.specs.declared.expr.ExprTree as exprs
use Rattle.sc_ast.specs.declared.stmt.StmtKind as kinds
use Rattle.sc_ast.specs.declared.stmt.StmtKind.TheVariants as stmt
use Rattle.sc_ast.specs.declared.stmt.StmtTree as stmts
use Rattle.sc_ast.specs.declared.section.Decl.TheVariants as decl
use Rattle.sc_back_performer_laws.proofs.BackTree.{AreFunctions, IsBackBody, IsBackTree, and_function, counter_at, does}
use Rattle.sc_back_performer_laws.proofs.BackTree.{ends, function_at, no_functions, row_at, stmt_at, uses, while_at}
use Rattle.sc_back_performer_laws.proofs.Undone.{back_tree_is}
use Rattle.sc_back_performer_laws.proofs.Judging.{scope, set_holds, test_holds, wait_holds, word_goes, words_go}
use Rattle.sc_back_performer_laws.proofs.SectionFacts.{entries, entries_usable}
use Rattle.sc_back_performer_laws.proofs.SectionTypes.{no_counter, result_is, scope_is, signatures, typed_params}
use Rattle.sc_back_performer_laws.proofs.SectionTypes.{visible_is}
use Rattle.sc_back_performer_laws.proofs.TypedRows.{HasSignatures}
use Rattle.sc_back_performer_laws.proofs.TypedTrees.{goes, typed_counter, typed_literal, typed_test, typed_value}
use Rattle.sc_back_performer_laws.proofs.TypedTrees.{typed_values, typed_word, visible}
use Rattle.sc_back_performer_laws.proofs.Uses.{AllFit, AreEntries, are_entries, calls_use, input_use, output_use}
use Rattle.sc_back_performer_laws.proofs.Uses.{rows_fit}

module _ (params : List TypedParam) (absent : variable_in Param params counter_name ≡ None) (types : List Ty)
    (callees : Callees) where
  module _ (result : Option Ty) where
    -- the lines of a statement that break a rule
    abbrev lines : StmtTree → List ℕ
    lines = stmt_type_lines (visible params absent callees) callees (scope types) result

    if_at : (line : ℕ) (test : ExprTree) (first : List StmtTree) → lines (stmt_at line (stmt.If test first [])) ≡
        unless (cond_holds (visible params absent callees) callees (scope types) result test) line ++
        (concat (map lines first) ++ [])
    if_at line test first = search (rules, exprs.the_lemmas, kinds.the_lemmas, stmts.the_lemmas)

    while_lines : (line : ℕ) (test : ExprTree) → lines (stmt_at line (stmt.While test [])) ≡
        unless (cond_holds (visible params absent callees) callees (scope types) result test) line ++ []
    while_lines line test = search (rules, exprs.the_lemmas, kinds.the_lemmas, stmts.the_lemmas)

    assign_at : (line : ℕ) (place value : ExprTree) → lines (stmt_at line (stmt.Assign place value)) ≡
        unless (assign_holds (visible params absent callees) callees (scope types) result place value) line
    assign_at line place value = search (rules, exprs.the_lemmas, kinds.the_lemmas, stmts.the_lemmas)

    call_at : (line : ℕ) (call : CallTree) → lines (stmt_at line (stmt.Call call)) ≡
        unless (call_holds (visible params absent callees) callees (scope types) result call) line
    call_at line call = search (rules, exprs.the_lemmas, kinds.the_lemmas, stmts.the_lemmas)

    value_at : (line : ℕ) (value : ExprTree) → lines (stmt_at line (stmt.ReturnValue value)) ≡
        unless (return_value_holds (visible params absent callees) callees (scope types) result value) line
    value_at line value = search (rules, exprs.the_lemmas, kinds.the_lemmas, stmts.the_lemmas)

    return_at : (line : ℕ) → lines (stmt_at line stmt.Return) ≡ unless (not (is_some result)) line
    return_at line = search (rules, exprs.the_lemmas, kinds.the_lemmas, stmts.the_lemmas)

    tested : (line number : ℕ) → number < 2 ^ 32 →
        cond_holds (visible params absent callees) callees (scope types) result
        (Binary Equal (Variable counter_name) (value_tree Unsigned number)) ≡ true
    tested line number low =
        ap (λ e. is_scalar (judged (scope types) e)) (typed_test params absent callees number) ∙
        test_holds types number low

    waited : (line : ℕ) → lines (while_at line) ≡ []
    waited line = while_lines line (literal 1) ∙ ap (λ b. unless b line ++ [])
        (ap (λ e. is_scalar (judged (scope types) e)) (typed_literal params absent callees 1) ∙ wait_holds types)

    set_lines : (line number : ℕ) → number < 2 ^ 32 →
        lines (stmt_at line (stmt.Assign (Variable counter_name) (value_tree Unsigned number))) ≡ []
    set_lines line number low =
        assign_at line (Variable counter_name) (value_tree Unsigned number) ∙
        ap (λ b. unless b line)
        (ap₂ (λ p e. assign_fits (judged (scope types) p) (judged (scope types) (going_to p.ty e)))
        (typed_counter params absent callees) (typed_word params absent callees number) ∙ set_holds types number low)

    called : (line : ℕ) (args : List ℕ) (f : Proto) → callees.signature f.name ≡ Some (proto_signature f) →
        length f.params ≡ length args → AllByRecursion IsWord args → lines (stmt_at line (call_kind args f)) ≡ []
    called line args f has many words =
        call_at line (record { name = f.name; args = value_trees f.params args }) ∙
        ap (λ b. unless b line)
        (ap (λ s. args_fit s (map (judged (scope types)) (going_to_all (params_called s)
        (map (typed (visible params absent callees)) (value_trees f.params args))))) has ∙
        ap (λ es. args_fit (Some (proto_signature f)) (map (judged (scope types)) es))
        (typed_values params absent callees f.params args) ∙ words_go types f.params args many words)

  returned : (line : ℕ) (type : Scalar) (word : ℕ) → IsWord word →
      lines (Some (scalar_ty type)) (stmt_at line (stmt.ReturnValue (value_tree type word))) ≡ []
  returned line type word w =
      value_at (Some (scalar_ty type)) line (value_tree type word) ∙
      ap (λ b. unless b line)
      (ap (λ e. goes_into (scalar_ty type) (judged (scope types) e))
      (goes type (typed (visible params absent callees) (value_tree type word)) ∙
      typed_value params absent callees type word) ∙ word_goes types type type word w)

  module _ (interfaces : Interfaces) (comp : ℕ) (rows : List Row) (interface : Interface)
      (is : IsPerformer interfaces comp rows interface)
      (signed : HasSignatures callees (uses interfaces interface.imports)) where
    crossed : (result : Option Scalar) (line to index : ℕ) (args : List ℕ) →
        imports interfaces comp (is_function to index) ≡ true → (o : Option Proto) → export_at interfaces to index ≡ o →
        option_map_or (λ found. length found.params == length args) o false ≡ true → AllByRecursion IsWord args →
        lines (result_ty result) (stmt_at line (option_map_or (call_kind args) o stmt.Empty)) ≡ []
    crossed result line to index args h None at t w = absurd (false≢true t)
    crossed result line to index args h (Some f) at t w =
        called (result_ty result) line args f (signed (import.Function to index, f)
        (calls_use interfaces comp rows interface is to index f h at))
        ((Decides-eqb (length f.params) (length args)).0 t) w

    acted : (result : Option Scalar) (a : Action) (line : ℕ) → MayDo interfaces comp result a →
        lines (result_ty result) (stmt_at line (action_kind interfaces result a)) ≡ []
    acted result (action.Call to index args) line h =
        crossed result line to index args h.0 (export_at interfaces to index) refl h.1
        (recursion_from_All IsWord args h.2)
    acted None (action.Ret None) line h = return_at (result_ty None) line
    acted None (action.Ret (Some word)) line h = absurd (false≢true h.0)
    acted (Some type) (action.Ret None) line h = absurd (false≢true h.0)
    acted (Some type) (action.Ret (Some word)) line h = returned line type word h.1
    acted result (action.Out word) line h =
        called (result_ty result) line (word ∷ []) output_proto (signed (import.Output, output_proto)
        (output_use interfaces comp rows interface is output_proto refl h.0)) refl (h.1, tt)
    acted result (action.In word) line h =
        called (result_ty result) line [] input_proto (signed (import.Input, input_proto)
        (input_use interfaces comp rows interface is input_proto refl h)) refl tt
    acted result (action.End word) line h =
        ap (λ r. lines (result_ty r) (stmt_at line (stmt.ReturnValue (value_tree Int word)))) h.0 ∙
        returned line Int word h.1

    row_none : (result : Option Scalar) (row : Row) (line set_line action_line : ℕ) → IsWord (suc row.number) →
        MayDo interfaces comp result row.action →
        lines (result_ty result) (row_at interfaces result row line set_line action_line) ≡ []
    row_none result row line set_line action_line low may =
        if_at (result_ty result) line (Binary Equal (Variable counter_name) (value_tree Unsigned row.number)) _ ∙
        (λ i. unless (tested (result_ty result) line row.number (omega (arith, low)) i) line ++
        ((set_lines (result_ty result) set_line (suc row.number) low i ++
        (acted result row.action action_line may i ++ [])) ++ []))

    body_none : (result : Option Scalar) (done : List Row) (body : List StmtTree) →
        IsBackBody interfaces result done body → AllFit interfaces comp result done →
        concat (map (lines (result_ty result)) body) ≡ []
    body_none result done body (ends line) h = ap (λ x. x ++ []) (waited (result_ty result) line)
    body_none result done body (does row others stmts line set_line action_line rest) h =
        ap₂ (λ x y. x ++ y) (row_none result row line set_line action_line h.0.numbered h.0.may)
        (body_none result others stmts rest h.1)

module _ (interfaces : Interfaces) (comp : ℕ) (rows : List Row) (interface : Interface)
    (is : IsPerformer interfaces comp rows interface) (section : SectionTree)
    (t : IsBackTree interfaces comp rows interface section) (sections : List SectionTree) (number : ℕ) where
  abbrev callees : Callees
  callees = callees_of sections number section

  function_none : (entry : Entry) (f : Proto) (line close_line : ℕ) (body : List StmtTree) →
      IsBackBody interfaces f.result (filter (is_of entry) rows) body → proto_of interfaces comp entry ≡ Some f →
      IsUsable f → function_type_lines section callees (function_at f line close_line body) ≡ []
  function_none entry f line close_line body b named usable =
      let absent = no_counter f.params usable.few in
      (λ i. concat (map (stmt_type_lines (visible_is interfaces comp rows interface is section t callees f line
      close_line
      body absent i) callees (scope_is interfaces comp rows interface is section t f line close_line body i)
      (result_is interfaces comp rows interface is section t f line close_line body i)) body)) ∙
      body_none (typed_params 0 f.params) absent _ callees interfaces comp rows interface is
      (signatures interfaces comp rows interface is section t sections number) f.result
      (filter (is_of entry) rows) body b (rows_fit interfaces comp rows interface is entry f named)

  functions_none : (others : List (Entry × Proto)) (trees : List FunctionTree) →
      AreFunctions interfaces rows others trees → AreEntries interfaces comp others →
      AllByRecursion (λ e. IsUsable e.1) others →
      concat (map (decl_type_lines section callees) (map decl.Function trees)) ≡ []
  functions_none others trees no_functions named usable = refl
  functions_none others trees (and_function entry f more rest line close body b h) named usable =
      ap₂ (λ x y. x ++ y) (function_none entry f line close body b named.0 usable.0)
      (functions_none more rest h named.1 usable.1)

  decls_none : (heads : List HeadTree) (line : ℕ) (trees : List FunctionTree) →
      concat (map (decl_type_lines section callees) (map decl.Function trees)) ≡ [] →
      concat (map (decl_type_lines section callees)
      (map decl.Proto heads ++ decl.Global (counter_at line) ∷ map decl.Function trees)) ≡ []
  decls_none [] line trees h = h
  decls_none (x ∷ heads) line trees h = decls_none heads line trees h

  section_none : section_type_lines section callees ≡ []
  section_none =
      ap (λ decls. concat (map (decl_type_lines section callees) decls)) t.decls ∙
      decls_none t.heads t.counter_line t.functions
      (functions_none (entries interfaces comp rows interface is) t.functions t.are_functions
      (are_entries interfaces comp rows interface is) (entries_usable interfaces comp rows interface is))

pub types_hold : TypesHold
types_hold interfaces comp rows interface section is same sections number =
    section_none interfaces comp rows interface is section
    (back_tree_is interfaces comp rows interface section same) sections number
