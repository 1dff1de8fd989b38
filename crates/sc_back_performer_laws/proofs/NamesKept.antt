-- A performing section breaks no rule of names.
use Rattle.sc_back_performer_laws.proofs.Common.{Action, AllByRecursion, Decl, Entry, FunctionTree, GlobalTree}
use Rattle.sc_back_performer_laws.proofs.Common.{HeadTree, Import, Int, Interface, Interfaces, IsPerformer, IsUsable}
use Rattle.sc_back_performer_laws.proofs.Common.{List, MayDo, NamesHold, None, Option, ParamTree, Proto, Row, Scalar}
use Rattle.sc_back_performer_laws.proofs.Common.{SectionTree, Some, StmtTree, StructTree, Text, Unsigned, []}
use Rattle.sc_back_performer_laws.proofs.Common.{action_kind, among, and_from, ap, append-nil, append_assoc, ap₂}
use Rattle.sc_back_performer_laws.proofs.Common.{are_distinct, arith, base_known, base_tree, body_lines, bytes_eq}
use Rattle.sc_back_performer_laws.proofs.Common.{bytes_eq_self, call_kind, counter_name, declared, export_at, false}
use Rattle.sc_back_performer_laws.proofs.Common.{false≢true, filter, function_names, function_params, global_known}
use Rattle.sc_back_performer_laws.proofs.Common.{head_of_known, import_names, imports, input_proto, is_callable}
use Rattle.sc_back_performer_laws.proofs.Common.{is_function, is_new, is_of, length, list_all, map, map-append, not}
use Rattle.sc_back_performer_laws.proofs.Common.{option_map, option_map_or, or_from, or_left, output_proto, param_of}
use Rattle.sc_back_performer_laws.proofs.Common.{proto_known, proto_of, proto_params, refl, result_known}
use Rattle.sc_back_performer_laws.proofs.Common.{same_either_way, stmt_name_lines, subst, suc, sym, true, type_name}
use Rattle.sc_back_performer_laws.proofs.Common.{unless}
use Rattle.sc_back_performer_laws.proofs.Common.{ℕ, ◌++◌, ◌==◌, ◌||◌, ◌∙◌, ◌∷◌, ◌≡◌}
use Rattle.sc_types_scope.specs.Prelude.{decl_name_lines, function_name_lines, name_lines_from}
use Rattle.sc_event.specs.declared.interface.Import.TheVariants as import
use Rattle.sc_event.specs.declared.row.Action.TheVariants as action
use Rattle.sc_ast.specs.declared.section.Decl.TheVariants as decl
use Rattle.sc_ast.specs.declared.stmt.StmtKind.TheVariants as stmt
use Rattle.sc_types_scope.specs.declared.section_names.SectionNames.{SectionNames}
use Rattle.sc_back_performer_laws.proofs.BackTree.{AreFunctions, AreHeads, IsBackBody, IsBackTree, and_function}
use Rattle.sc_back_performer_laws.proofs.BackTree.{and_head, counter_at, does, ends, function_at, head_at, no_functions}
use Rattle.sc_back_performer_laws.proofs.BackTree.{no_heads, stmt_at}
use Rattle.sc_back_performer_laws.proofs.Undone.{back_tree_is}
use Rattle.sc_back_performer_laws.proofs.Declared.{all_functions, all_globals, all_protos, all_structs, decls_of}
use Rattle.sc_back_performer_laws.proofs.Declared.{protos_functions, protos_globals, protos_protos, protos_structs}
use Rattle.sc_back_performer_laws.proofs.Distinct.{among_back, prefix_distinct, not_counter, not_from, not_param}
use Rattle.sc_back_performer_laws.proofs.Distinct.{params_distinct, params_named, apart}
use Rattle.sc_back_performer_laws.proofs.Uses.{AllFit, AreEntries, IsAmong, are_entries, calls_use, input_use}
use Rattle.sc_back_performer_laws.proofs.Uses.{output_use, rows_fit}
use Rattle.sc_back_performer_laws.proofs.RowNames.{calls_known, known, returns_known, row_known, while_known}
use Rattle.sc_back_performer_laws.proofs.SectionFacts.{distinct_names, entries, entries_usable, entry_names}
use Rattle.sc_back_performer_laws.proofs.SectionFacts.{functions_named, imported_uses, imports_named, names_declared}
use Rattle.sc_back_performer_laws.proofs.SectionFacts.{tree_names, use_holds, use_named, use_names, uses_usable}

-- Heads.

scalar_known : (ty : Scalar) → base_known [] (base_tree ty) ≡ true
scalar_known Int = refl
scalar_known Unsigned = refl

result_is_known : (result : Option Scalar) → result_known [] (option_map type_name result) ≡ true
result_is_known None = refl
result_is_known (Some ty) = scalar_known ty

protos_known : (number : ℕ) (types : List Scalar) →
    list_all {X = ParamTree} (λ param. base_known [] param.ty.base) (proto_params number types) ≡ true
protos_known number [] = refl
protos_known number (ty ∷ types) =
    and_from (base_known [] (base_tree ty)) _ (scalar_known ty) (protos_known (suc number) types)

params_known : (number : ℕ) (types : List Scalar) →
    list_all {X = ParamTree} (λ param. base_known [] param.ty.base) (map param_of (function_params number types)) ≡ true
params_known number [] = refl
params_known number (ty ∷ types) =
    and_from (base_known [] (base_tree ty)) _ (scalar_known ty) (params_known (suc number) types)

-- Bodies.

module _ (interfaces : Interfaces) (comp : ℕ) (rows : List Row) (interface : Interface)
    (is : IsPerformer interfaces comp rows interface) (own callables hiding : List Text)
    (callable : (u : Import × Proto) → IsAmong u (imported_uses interfaces comp rows interface is) →
    is_callable (known own callables hiding) u.1.name ≡ true) where
  cross_known : (to index : ℕ) (args : List ℕ) (line : ℕ) → imports interfaces comp (is_function to index) ≡ true →
      (o : Option Proto) → export_at interfaces to index ≡ o →
      option_map_or (λ found. length found.params == length args) o false ≡ true →
      stmt_name_lines (known own callables hiding) (stmt_at line (option_map_or (call_kind args) o stmt.Empty)) false ≡
      []
  cross_known to index args line h None at t = absurd (false≢true t)
  cross_known to index args line h (Some f) at t =
      calls_known own callables hiding line args f false
      (callable (import.Function to index, f) (calls_use interfaces comp rows interface is to index f h at))

  action_known : (result : Option Scalar) (a : Action) (line : ℕ) → MayDo interfaces comp result a →
      stmt_name_lines (known own callables hiding) (stmt_at line (action_kind interfaces result a)) false ≡ []
  action_known result (action.Call to index args) line h =
      cross_known to index args line h.0 (export_at interfaces to index) refl h.1
  action_known result (action.Ret value) line h = returns_known own callables hiding line result value false
  action_known result (action.Out word) line h =
      calls_known own callables hiding line (word ∷ []) output_proto false
      (callable (import.Output, output_proto) (output_use interfaces comp rows interface is output_proto refl h.0))
  action_known result (action.In word) line h =
      calls_known own callables hiding line [] input_proto false
      (callable (import.Input, input_proto) (input_use interfaces comp rows interface is input_proto refl h))
  action_known result (action.End word) line h =
      returns_known own callables hiding line (Some Int) (Some word) false

  body_known : (result : Option Scalar) (done : List Row) (body : List StmtTree) →
      IsBackBody interfaces result done body → AllFit interfaces comp result done →
      body_lines (known own callables hiding) body ≡ []
  body_known result done body (ends line) h = ap (λ x. x ++ []) (while_known own callables hiding line)
  body_known result done body (does row others stmts line set_line action_line rest) h =
      ap₂ (λ x y. x ++ y) (row_known own callables hiding interfaces result row line set_line action_line
      (action_known result row.action action_line h.0.may)) (body_known result others stmts rest h.1)

-- Sections.

module _ (interfaces : Interfaces) (comp : ℕ) (rows : List Row) (interface : Interface)
    (is : IsPerformer interfaces comp rows interface) (section : SectionTree)
    (t : IsBackTree interfaces comp rows interface section) where
  abbrev used : List (Import × Proto)
  used = imported_uses interfaces comp rows interface is

  abbrev defined : List (Entry × Proto)
  defined = entries interfaces comp rows interface is

  -- what is declared before a declaration
  abbrev names : (globals functions protos : List Text) → SectionNames
  names globals functions protos = record {
    structs = [];
    globals = globals;
    functions = functions;
    protos = protos;
    imports = use_names used;
    callables = entry_names defined ++ use_names used;
  }

  abbrev head_names : List HeadTree → List Text
  head_names heads = map {A = HeadTree} (λ head. head.name) heads

  callables_are : function_names section.decls ++ import_names section ≡ entry_names defined ++ use_names used
  callables_are =
      ap₂ (λ a b. a ++ b) (functions_named interfaces comp rows interface is section t)
      (imports_named interfaces comp rows interface is section t)

  before_protos : (heads : List HeadTree) →
      declared section (map decl.Proto heads) ≡ names [] [] (head_names heads)
  before_protos heads = λ i. record {
    structs = map {A = StructTree} (λ tree. tree.name) (protos_structs heads i);
    globals = map {A = GlobalTree} (λ tree. tree.name) (protos_globals heads i);
    functions = map {A = FunctionTree} (λ tree. tree.head.name) (protos_functions heads i);
    protos = map {A = HeadTree} (λ head. head.name) (protos_protos heads i);
    imports = imports_named interfaces comp rows interface is section t i;
    callables = callables_are i;
  }

  before_functions : (heads : List HeadTree) (line : ℕ) (trees : List FunctionTree) →
      declared section (decls_of heads (counter_at line) trees) ≡
      names (counter_name ∷ []) (tree_names trees) (head_names heads)
  before_functions heads line trees = λ i. record {
    structs = map {A = StructTree} (λ tree. tree.name) (all_structs heads (counter_at line) trees i);
    globals = map {A = GlobalTree} (λ tree. tree.name) (all_globals heads (counter_at line) trees i);
    functions = map {A = FunctionTree} (λ tree. tree.head.name) (all_functions heads (counter_at line) trees i);
    protos = map {A = HeadTree} (λ head. head.name) (all_protos heads (counter_at line) trees i);
    imports = imports_named interfaces comp rows interface is section t i;
    callables = callables_are i;
  }

  -- prototypes

  proto_holds : (functions protos : List Text) (f : Proto) (line : ℕ) →
      proto_known (names [] functions protos) (head_at f line) ≡ true
  proto_holds functions protos f line =
      and_from (result_known [] (option_map type_name f.result)) _ (result_is_known f.result)
      (protos_known 0 f.params)

  protos_lines : (others : List (Import × Proto)) (rest : List HeadTree) → AreHeads others rest →
      (prefix : List HeadTree) (decls : List Decl) →
      name_lines_from section (map decl.Proto prefix) (map decl.Proto rest ++ decls) ≡
      name_lines_from section (map decl.Proto (prefix ++ rest)) decls
  protos_lines others rest no_heads prefix decls =
      ap (λ x. name_lines_from section (map decl.Proto x) decls) (sym (append-nil prefix))
  protos_lines others rest (and_head u more heads line h) prefix decls =
      let head = head_at u.1 line in
      ap₂ (λ x y. x ++ name_lines_from section y (map decl.Proto heads ++ decls))
      (ap (λ n. decl_name_lines n (decl.Proto head)) (before_protos prefix) ∙
      ap (λ b. unless b line) (proto_holds [] (head_names prefix) u.1 line))
      (sym (map-append decl.Proto prefix (head ∷ []))) ∙
      protos_lines more heads h (prefix ++ head ∷ []) decls ∙
      ap (λ x. name_lines_from section (map decl.Proto x) decls) (append_assoc prefix (head ∷ []) heads)

  -- the counter

  no_counter : (all : List (Import × Proto)) → AllByRecursion (λ u. IsUsable u.1) all →
      among (use_names all) counter_name ≡ false
  no_counter [] h = refl
  no_counter (u ∷ all) h =
      or_from (bytes_eq counter_name u.1.name) (among (use_names all) counter_name)
      (same_either_way counter_name u.1.name ∙ not_counter u.1.name h.0.plain) (no_counter all h.1)

  counter_holds : (heads : List HeadTree) (line : ℕ) → AreHeads used heads →
      global_known (names [] [] (head_names heads)) (counter_at line) ≡ true
  counter_holds heads line h =
      let none : among (use_names used) counter_name ≡ false =
      no_counter used (uses_usable interfaces comp rows interface is) in
      and_from (is_new (head_names heads) counter_name) _
      (not_from (among (head_names heads) counter_name)
      (ap (λ x. among x counter_name) (names_declared used heads h) ∙ none))
      (and_from (is_new (use_names used) counter_name) _ (not_from (among (use_names used) counter_name) none) refl)

  -- functions

  function_holds : (f : Proto) (line close_line : ℕ) (body : List StmtTree) (functions protos : List Text) →
      IsUsable f → among functions f.name ≡ false →
      head_of_known (names (counter_name ∷ []) functions protos) (function_at f line close_line body) ≡ true
  function_holds f line close_line body functions protos usable new =
      and_from (is_new (counter_name ∷ []) f.name) _ (ap (λ b. not (b || false)) (not_counter f.name usable.plain))
      (and_from (is_new functions f.name) _ (not_from (among functions f.name) new)
      (and_from _ _ (and_from (result_known [] (option_map type_name f.result)) _ (result_is_known f.result)
      (params_known 0 f.params)) (params_distinct 0 f.params (omega (arith, usable.few)))))

  callable : (f : Proto) (u : Import × Proto) → IsAmong u used →
      is_callable (known (params_named 0 f.params ++ []) (entry_names defined ++ use_names used)
      (params_named 0 f.params ++ [])) u.1.name ≡ true
  callable f u h =
      let usable : IsUsable u.1 = use_holds IsUsable u used (uses_usable interfaces comp rows interface is) h in
      and_from (among (entry_names defined ++ use_names used) u.1.name) _
      (among_back (entry_names defined) (use_names used) u.1.name (use_named u used h))
      (not_from (among (params_named 0 f.params ++ []) u.1.name)
      (ap (λ x. among x u.1.name) (append-nil (params_named 0 f.params)) ∙
      not_param u.1.name 0 f.params usable.plain))

  function_none : (entry : Entry) (f : Proto) (line close_line : ℕ) (body : List StmtTree)
      (functions protos : List Text) → IsBackBody interfaces f.result (filter (is_of entry) rows) body →
      proto_of interfaces comp entry ≡ Some f → IsUsable f → among functions f.name ≡ false →
      function_name_lines (names (counter_name ∷ []) functions protos) (function_at f line close_line body) ≡ []
  function_none entry f line close_line body functions protos b named usable new =
      ap₂ (λ b x. unless b line ++ ([] ++ x))
      (function_holds f line close_line body functions protos usable new)
      (body_known interfaces comp rows interface is (params_named 0 f.params ++ [])
      (entry_names defined ++ use_names used) (params_named 0 f.params ++ []) (callable f) f.result
      (filter (is_of entry) rows) body b (rows_fit interfaces comp rows interface is entry f named))

  functions_lines : (heads : List HeadTree) (line : ℕ) (others : List (Entry × Proto)) (rest : List FunctionTree) →
      AreFunctions interfaces rows others rest → (prefix : List FunctionTree) → AreEntries interfaces comp others →
      AllByRecursion (λ e. IsUsable e.1) others →
      are_distinct (tree_names prefix ++ entry_names others) ≡ true →
      name_lines_from section (decls_of heads (counter_at line) prefix) (map decl.Function rest) ≡ []
  functions_lines heads line others rest no_functions prefix named usable distinct = refl
  functions_lines heads line others rest (and_function entry f more trees at close body b h) prefix named usable
      distinct =
      let tree = function_at f at close body in
      let new : among (tree_names prefix) f.name ≡ false =
      apart (tree_names prefix) (f.name ∷ entry_names more) f.name distinct
      (or_left (bytes_eq f.name f.name) (among (entry_names more) f.name) (bytes_eq_self f.name)) in
      let none : function_name_lines (declared section (decls_of heads (counter_at line) prefix)) tree ≡ [] =
      ap (λ n. function_name_lines n tree) (before_functions heads line prefix) ∙
      function_none entry f at close body (tree_names prefix) (head_names heads) b named.0 usable.0 new in
      let next : decls_of heads (counter_at line) prefix ++ decl.Function tree ∷ [] ≡
      decls_of heads (counter_at line) (prefix ++ tree ∷ []) =
      append_assoc (map decl.Proto heads) (decl.Global (counter_at line) ∷ map decl.Function prefix)
      (decl.Function tree ∷ []) ∙
      ap (λ x. map decl.Proto heads ++ decl.Global (counter_at line) ∷ x)
      (sym (map-append decl.Function prefix (tree ∷ []))) in
      let still : are_distinct (tree_names (prefix ++ tree ∷ []) ++ entry_names more) ≡ true =
      subst (λ x. are_distinct x ≡ true) (sym (ap (λ x. x ++ entry_names more)
      (map-append {A = FunctionTree} (λ tree. tree.head.name) prefix (tree ∷ [])) ∙
      append_assoc (tree_names prefix) (f.name ∷ []) (entry_names more))) distinct in
      ap₂ (λ x y. x ++ name_lines_from section y (map decl.Function trees)) none next ∙
      functions_lines heads line more trees h (prefix ++ tree ∷ []) named.1 usable.1 still

  -- all of them
  section_none : name_lines_from section [] section.decls ≡ []
  section_none =
      let heads = t.heads in
      let global = counter_at t.counter_line in
      ap (λ d. name_lines_from section [] d) t.decls ∙
      protos_lines used heads t.are_heads [] (decl.Global global ∷ map decl.Function t.functions) ∙
      ap (λ x. x ++ name_lines_from section (map decl.Proto heads ++ decl.Global global ∷ [])
      (map decl.Function t.functions))
      (ap (λ n. decl_name_lines n (decl.Global global)) (before_protos heads) ∙
      ap (λ b. unless b t.counter_line) (counter_holds heads t.counter_line t.are_heads)) ∙
      functions_lines heads t.counter_line defined t.functions t.are_functions []
      (are_entries interfaces comp rows interface is) (entries_usable interfaces comp rows interface is)
      (prefix_distinct (entry_names defined) (use_names used) (distinct_names interfaces comp rows interface is))

pub names_hold : NamesHold
names_hold interfaces comp rows interface section is same =
    section_none interfaces comp rows interface is section
    (back_tree_is interfaces comp rows interface section same)
