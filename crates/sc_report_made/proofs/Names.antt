-- The sections of a made text break no rule of names.
use Rattle.sc_report_made.proofs.Common.{CallTree, Decl, ExprTree, FunctionLines, FunctionTree, GlobalTree, HeadTree}
use Rattle.sc_report_made.proofs.Common.{ImportLine, IsAmong, IsAsked, Known, List, SectionTree, Some, StmtTree}
use Rattle.sc_report_made.proofs.Common.{StructTree, Text, Variable, [], add_kind, all_functions, all_hold, among}
use Rattle.sc_report_made.proofs.Common.{among_back, among_prefix, and_from, ap, append-nil, append_assoc, ap₂, below}
use Rattle.sc_report_made.proofs.Common.{body_lines, call_kind, call_known, call_of, codes, concat, declared, element}
use Rattle.sc_report_made.proofs.Common.{expr_known, false, first, function_at, function_name, function_decls}
use Rattle.sc_report_made.proofs.Common.{worker_functions, is_callable, is_new, later, line_of_text, literal, loop_kind}
use Rattle.sc_report_made.proofs.Common.{main_at, map, map-append, names_broken, next_at, numbers_from, output_kind}
use Rattle.sc_report_made.proofs.Common.{output_proto, proto_at, refl, return_kind, rules, set_kind, start_at, stmt_at}
use Rattle.sc_report_made.proofs.Common.{store_kind, suc, sym, table_at, true, unless, variable, workers, ℕ, ◌&&◌, ◌++◌}
use Rattle.sc_report_made.proofs.Common.{◌∙◌, ◌∷◌, ◌≡◌, ◌≤◌}
use Rattle.sc_types_scope.specs.Prelude.{decl_name_lines, function_name_lines, name_lines_from, part_name_lines}
use Rattle.sc_types_scope.specs.Prelude.{section_name_lines, stmt_name_lines}
use Rattle.sc_ast.specs.declared.expr.ExprTree as exprs
use Rattle.sc_ast.specs.declared.section.Decl.TheVariants as decl
use Rattle.sc_ast.specs.declared.stmt.StmtKind as kinds
use Rattle.sc_ast.specs.declared.stmt.StmtTree as stmts
use Rattle.sc_types_scope.proofs.Statements.{for-at}
use Rattle.sc_types_scope.specs.declared.section_names.SectionNames.{SectionNames}
use Rattle.sc_back_performer_laws.proofs.Declared.{protos_functions, protos_globals, protos_protos, protos_structs}
use Rattle.sc_report_made.proofs.Declared.{after_functions, functions_functions, functions_globals, functions_protos}
use Rattle.sc_report_made.proofs.Declared.{functions_structs, imports_named}
use Rattle.sc_report_made.proofs.Naming.{Below, below_more, below_next, function_among, function_names, function_new}
use Rattle.sc_report_made.proofs.Numbers.{Rise, functions_rise}
use Rattle.sc_report_made.proofs.Shapes.{AreCalls, AreFunctions, AreMade, AreProtos, AreWorkers, IsMain, IsWorker}
use Rattle.sc_report_made.proofs.Shapes.{and_function, and_proto, and_worker, calls, ends, no_functions, no_protos}
use Rattle.sc_report_made.proofs.Shapes.{no_workers}

-- The body of `main`.

module _ (callables : List Text) where
  -- what may be named in it: its local, and functions
  abbrev in_main : Known
  in_main = record { tags = []; variables = codes "r" ∷ []; functions = callables; hiding = codes "r" ∷ [] }

  result_known : expr_known in_main (Variable (codes "r")) ≡ true
  result_known = search (rules, exprs.the_lemmas)

  number_known : (word : ℕ) → expr_known in_main (literal word) ≡ true
  number_known word = search (rules, exprs.the_lemmas)

  assign_call_at : (line : ℕ) (place : ExprTree) (call : CallTree) →
      stmt_name_lines in_main (stmt_at line (kinds.AssignCall place call)) false ≡
      unless (expr_known in_main place && call_known in_main call) line
  assign_call_at line place call = search (rules, kinds.the_lemmas, stmts.the_lemmas)

  call_at : (line : ℕ) (call : CallTree) →
      stmt_name_lines in_main (stmt_at line (kinds.Call call)) false ≡ unless (call_known in_main call) line
  call_at line call = search (rules, kinds.the_lemmas, stmts.the_lemmas)

  value_at : (line : ℕ) (value : ExprTree) →
      stmt_name_lines in_main (stmt_at line (return_kind value)) false ≡ unless (expr_known in_main value) line
  value_at line value = search (rules, kinds.the_lemmas, stmts.the_lemmas)

  function_called : (seed j line : ℕ) → among callables (function_name j) ≡ true →
      stmt_name_lines in_main (stmt_at line (call_kind seed j)) false ≡ []
  function_called seed j line there =
      assign_call_at line (Variable (codes "r")) (call_of seed j) ∙
      ap (λ b. unless b line) (and_from _ _ result_known
      (and_from (is_callable in_main (function_name j)) _
      (and_from (among callables (function_name j)) (is_new (codes "r" ∷ []) (function_name j)) there refl)
      (and_from _ true (number_known _) refl)))

  output_called : (line : ℕ) → among callables (codes "output") ≡ true →
      stmt_name_lines in_main (stmt_at line output_kind) false ≡ []
  output_called line there =
      call_at line (record { name = codes "output"; args = Variable (codes "r") ∷ [] }) ∙
      ap (λ b. unless b line) (and_from (is_callable in_main (codes "output")) _
      (and_from (among callables (codes "output")) (is_new (codes "r" ∷ []) (codes "output")) there refl)
      (and_from _ true result_known refl))

  calls_known : (seed : ℕ) (js : List ℕ) (body : List StmtTree) → AreCalls seed js body →
      among callables (codes "output") ≡ true →
      ((j : ℕ) → IsAmong j js → among callables (function_name j) ≡ true) →
      body_lines in_main body ≡ []
  calls_known seed _ _ (ends line) output all =
      ap (λ x. x ++ []) (value_at line (literal 0) ∙ ap (λ b. unless b line) (number_known 0))
  calls_known seed _ _ (calls j x y js stmts h) output all =
      ap₂ (λ a b. a ++ (b ++ concat (map (λ s. stmt_name_lines in_main s false) stmts)))
      (function_called seed j x (all j (first js))) (output_called y output) ∙
      calls_known seed js stmts h output (λ k there. all k (later j js there))

-- The section of `Main`.

module _ (size seed : ℕ) (section : SectionTree) (m : IsMain size seed section) where
  abbrev every : List ℕ
  every = all_functions size

  abbrev main_function : FunctionTree
  main_function = main_at m.head_line m.local_line m.close_line m.body

  abbrev last_decls : List Decl
  last_decls = decl.Proto (output_proto m.proto_line) ∷ decl.Function main_function ∷ []

  abbrev imported : List Text
  imported = function_names every ++ codes "output" ∷ []

  abbrev head_names : List HeadTree → List Text
  head_names heads = map {A = HeadTree} (λ head. head.name) heads

  -- what is declared before a declaration
  abbrev names : (protos : List Text) → SectionNames
  names protos = record {
    structs = [];
    globals = [];
    functions = [];
    protos = protos;
    imports = imported;
    callables = codes "main" ∷ imported;
  }

  decls_are : section.decls ≡ map decl.Proto m.protos ++ last_decls
  decls_are = ap (λ s. s.decls) m.is

  imports_are : map {A = ImportLine} (λ one. one.name) section.imports ≡ imported
  imports_are = ap (λ s. map {A = ImportLine} (λ one. one.name) s.imports) m.is ∙
      imports_named size m.output_line every m.imports m.imports_are

  functions_are : function_decls section.decls ≡ main_function ∷ []
  functions_are = ap function_decls decls_are ∙ after_functions last_decls m.protos

  before : (heads : List HeadTree) → declared section (map decl.Proto heads) ≡ names (head_names heads)
  before heads = λ i. record {
    structs = map {A = StructTree} (λ tree. tree.name) (protos_structs heads i);
    globals = map {A = GlobalTree} (λ tree. tree.name) (protos_globals heads i);
    functions = map {A = FunctionTree} (λ tree. tree.head.name) (protos_functions heads i);
    protos = map {A = HeadTree} (λ head. head.name) (protos_protos heads i);
    imports = imports_are i;
    callables = map {A = FunctionTree} (λ tree. tree.head.name) (functions_are i) ++ imports_are i;
  }

  protos_lines : (prefix : List HeadTree) (ks : List ℕ) (heads : List HeadTree) → AreProtos ks heads →
      (more : List Decl) → name_lines_from section (map decl.Proto prefix) (map decl.Proto heads ++ more) ≡
      name_lines_from section (map decl.Proto (prefix ++ heads)) more
  protos_lines prefix _ _ no_protos more =
      ap (λ x. name_lines_from section (map decl.Proto x) more) (sym (append-nil prefix))
  protos_lines prefix _ _ (and_proto j line ks heads h) more =
      let head : HeadTree = proto_at j line in
      ap₂ (λ x y. x ++ name_lines_from section y (map decl.Proto heads ++ more))
      (ap (λ n. decl_name_lines n (decl.Proto head)) (before prefix)) (sym (map-append decl.Proto prefix (head ∷ []))) ∙
      protos_lines (prefix ++ head ∷ []) ks heads h more ∙
      ap (λ x. name_lines_from section (map decl.Proto x) more) (append_assoc prefix (head ∷ []) heads)

  called : (j : ℕ) → IsAmong j every → among (codes "main" ∷ imported) (function_name j) ≡ true
  called j there =
      among_prefix (function_names every) (codes "output" ∷ []) (function_name j) (function_among j every there)

  output_is_called : among (codes "main" ∷ imported) (codes "output") ≡ true
  output_is_called = among_back (function_names every) (codes "output" ∷ []) (codes "output") refl

  main_lines : (protos : List Text) → function_name_lines (names protos) main_function ≡ []
  main_lines protos =
      calls_known (codes "main" ∷ imported) seed every m.body m.body_is output_is_called called

  pub main_names : section_name_lines section ≡ []
  main_names =
      let output : HeadTree = output_proto m.proto_line in
      ap (name_lines_from section []) decls_are ∙ protos_lines [] every m.protos m.protos_are last_decls ∙
      ap₂ (λ x y. x ++ (y ++ []))
      (ap (λ n. decl_name_lines n (decl.Proto output)) (before m.protos))
      (ap (λ b. decl_name_lines (declared section b) (decl.Function main_function))
      (sym (map-append decl.Proto m.protos (output ∷ []))) ∙
      ap (λ n. decl_name_lines n (decl.Function main_function)) (before (m.protos ++ output ∷ [])) ∙
      main_lines (head_names (m.protos ++ output ∷ [])))

-- A worker's function.

module _ (callables : List Text) where
  abbrev own : List Text
  own = codes "x" ∷ codes "i" ∷ codes "s" ∷ []

  abbrev in_function : Known
  in_function = record { tags = []; variables = codes "t" ∷ own; functions = callables; hiding = own }

  set_known : (seed j line : ℕ) → stmt_name_lines in_function (stmt_at line (set_kind seed j)) false ≡ []
  set_known seed j line = search (rules, exprs.the_lemmas, kinds.the_lemmas, stmts.the_lemmas)

  element_known : expr_known in_function element ≡ true
  element_known = search (rules, exprs.the_lemmas)

  store_known : (line : ℕ) → stmt_name_lines in_function (stmt_at line store_kind) true ≡ []
  store_known line = search (rules, exprs.the_lemmas, kinds.the_lemmas, stmts.the_lemmas)

  add_known : (line : ℕ) → stmt_name_lines in_function (stmt_at line add_kind) true ≡ []
  add_known line = search (rules, exprs.the_lemmas, kinds.the_lemmas, stmts.the_lemmas)

  below_known : expr_known in_function below ≡ true
  below_known = search (rules, exprs.the_lemmas)

  start_known : (line : ℕ) → part_name_lines in_function (Some (start_at line)) ≡ []
  start_known line = search (rules, exprs.the_lemmas)

  next_known : (line : ℕ) → part_name_lines in_function (Some (next_at line)) ≡ []
  next_known line = search (rules, exprs.the_lemmas)

  loop_known : (lines : FunctionLines) →
      stmt_name_lines in_function (stmt_at lines.loop (loop_kind lines)) false ≡ []
  loop_known lines =
      for-at in_function false lines.loop (Some (start_at lines.start)) below (Some (next_at lines.next))
      (stmt_at lines.store store_kind ∷ stmt_at lines.add add_kind ∷ []) ∙
      (λ i. start_known lines.start i ++ (unless (below_known i) lines.loop ++ (next_known lines.next i ++
      (store_known lines.store i ++ (add_known lines.add i ++ [])))))

  sum_known : (line : ℕ) → stmt_name_lines in_function (stmt_at line (return_kind (variable (codes "s")))) false ≡ []
  sum_known line = search (rules, exprs.the_lemmas, kinds.the_lemmas, stmts.the_lemmas)

  function_known : (seed j : ℕ) (lines : FunctionLines) →
      body_lines in_function (function_at seed j lines).body ≡ []
  function_known seed j lines =
      λ i. set_known seed j lines.set i ++ (loop_known lines i ++ (sum_known lines.result i ++ []))

-- The section of a worker.

module _ (size seed worker : ℕ) (section : SectionTree) (w : IsWorker size seed worker section) where
  abbrev table : GlobalTree
  table = table_at w.table_line

  abbrev defined : List FunctionTree → List Text
  defined trees = map {A = FunctionTree} (λ tree. tree.head.name) trees

  abbrev worker_callables : List Text
  worker_callables = defined (function_decls section.decls) ++ map {A = ImportLine} (λ one. one.name) section.imports

  -- what is declared before a function
  abbrev names_before : (functions : List Text) → SectionNames
  names_before functions = record {
    structs = [];
    globals = codes "t" ∷ [];
    functions = functions;
    protos = [];
    imports = [];
    callables = worker_callables;
  }

  imports_none : map {A = ImportLine} (λ one. one.name) section.imports ≡ []
  imports_none = ap (λ s. map {A = ImportLine} (λ one. one.name) s.imports) w.is

  before_function : (trees : List FunctionTree) →
      declared section (decl.Global table ∷ map decl.Function trees) ≡ names_before (defined trees)
  before_function trees = λ i. record {
    structs = map {A = StructTree} (λ tree. tree.name) (functions_structs trees i);
    globals = codes "t" ∷ map {A = GlobalTree} (λ tree. tree.name) (functions_globals trees i);
    functions = map {A = FunctionTree} (λ tree. tree.head.name) (functions_functions trees i);
    protos = map {A = HeadTree} (λ head. head.name) (functions_protos trees i);
    imports = imports_none i;
    callables = worker_callables;
  }

  table_known : decl_name_lines (declared section []) (decl.Global table) ≡ []
  table_known = ap (λ names. unless (all_hold (true ∷ true ∷ true ∷ is_new names (codes "t") ∷ true ∷ []))
      w.table_line) imports_none

  function_none : (functions : List Text) (j : ℕ) (lines : FunctionLines) →
      is_new functions (function_name j) ≡ true →
      function_name_lines (names_before functions) (function_at seed j lines) ≡ []
  function_none functions j lines new =
      ap₂ (λ b x. unless b lines.head ++ ([] ++ x))
      (and_from (is_new functions (function_name j)) true new refl)
      (function_known worker_callables seed j lines)

  functions_lines : (low : ℕ) (prefix : List FunctionTree) (done js : List ℕ) (trees : List FunctionTree) →
      AreFunctions seed js trees → defined prefix ≡ function_names done → Below low 1000 done → Rise low 1000 js →
      name_lines_from section (decl.Global table ∷ map decl.Function prefix) (map decl.Function trees) ≡ []
  functions_lines low prefix done _ _ no_functions named less rise = refl
  functions_lines low prefix done _ _ (and_function j lines js trees h) named less rise =
      let tree : FunctionTree = function_at seed j lines in
      let lower : Below j 1000 done = below_more low j 1000 done rise.0 less in
      let new : is_new (defined prefix) (function_name j) ≡ true =
      ap (λ names. is_new names (function_name j)) named ∙ function_new j rise.1 done lower in
      let next : (decl.Global table ∷ map decl.Function prefix) ++ decl.Function tree ∷ [] ≡
      decl.Global table ∷ map decl.Function (prefix ++ tree ∷ []) =
      ap (λ x. decl.Global table ∷ x) (sym (map-append decl.Function prefix (tree ∷ []))) in
      let still : defined (prefix ++ tree ∷ []) ≡ function_names (done ++ j ∷ []) =
      map-append {A = FunctionTree} (λ t. t.head.name) prefix (tree ∷ []) ∙
      ap (λ x. x ++ function_name j ∷ []) named ∙ sym (map-append function_name done (j ∷ [])) in
      ap₂ (λ x y. x ++ name_lines_from section y (map decl.Function trees))
      (ap (λ n. function_name_lines n tree) (before_function prefix) ∙ function_none (defined prefix) j lines new) next
      ∙
      functions_lines (suc j) (prefix ++ tree ∷ []) (done ++ j ∷ []) js trees h still
      (below_next j 1000 done rise.1 lower) rise.2

  pub worker_names_hold : size ≤ 1000 → section_name_lines section ≡ []
  worker_names_hold few =
      ap (name_lines_from section []) (ap (λ s. s.decls) w.is) ∙
      ap₂ (λ x y. x ++ y) table_known
      (functions_lines 0 [] [] (worker_functions size worker) w.functions w.functions_are refl tt
      (functions_rise size worker few))

-- All sections.

workers_hold : (size seed : ℕ) → size ≤ 1000 → (is : List ℕ) (sections : List SectionTree) →
    AreWorkers size seed is sections → names_broken sections ≡ []
workers_hold size seed few _ _ no_workers = refl
workers_hold size seed few _ _ (and_worker i section is sections w h) =
    ap₂ (λ x y. map (line_of_text section.line) x ++ y) (worker_names_hold size seed i section w few)
    (workers_hold size seed few is sections h)

pub names_hold : (size seed : ℕ) → IsAsked size seed → (sections : List SectionTree) →
    AreMade size seed sections → names_broken sections ≡ []
names_hold size seed asked sections made =
    ap names_broken made.are ∙
    ap₂ (λ x y. map (line_of_text made.main.line) x ++ y) (main_names size seed made.main made.main_is)
    (workers_hold size seed asked.few (numbers_from 0 (workers size)) made.others made.others_are)
