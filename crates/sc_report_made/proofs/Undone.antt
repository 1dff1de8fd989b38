-- Sections that are those of a made text, lines aside, are these with lines.
use Rattle.sc_report_made.proofs.Common.{Add, AreSame, Binary, CallTree, Decl, ExportLine, ExprTree, FunctionLines}
use Rattle.sc_report_made.proofs.Common.{FunctionTree, HeadTree, ImportLine, List, None, Option, SameButLines}
use Rattle.sc_report_made.proofs.Common.{SectionTree, SimpleTree, Some, StmtKind, StmtTree, [], add_kind, all_functions}
use Rattle.sc_report_made.proofs.Common.{ap, ap₂, assign_simple, below, call_kind, calls_tree, codes, export_at}
use Rattle.sc_report_made.proofs.Common.{flat_map, function_at, worker_functions, import_at, lineless_decl}
use Rattle.sc_report_made.proofs.Common.{lineless_export}
use Rattle.sc_report_made.proofs.Common.{lineless_function, lineless_head, lineless_import, lineless_kind}
use Rattle.sc_report_made.proofs.Common.{lineless_local, lineless_option, lineless_simple, lineless_stmt}
use Rattle.sc_report_made.proofs.Common.{lineless_stmts, literal, local_at, loop_kind, made_trees, main_at, main_body}
use Rattle.sc_report_made.proofs.Common.{main_tree, map, next_at, no_lines, numbers_from, out-StmtKind, output_import}
use Rattle.sc_report_made.proofs.Common.{output_kind, output_proto, proto_at, refl, return_kind, set_kind, start_at}
use Rattle.sc_report_made.proofs.Common.{stmt_at, store_kind, subst, sym, table_at, variable, worker_tree, workers, ℕ}
use Rattle.sc_report_made.proofs.Common.{◌++◌, ◌∙◌, ◌∷◌, ◌≡◌}
use Rattle.sc_ast.proofs.Statements.{bare_stmt}
use Rattle.sc_ast.specs.declared.stmt.StmtKind.TheOpen as layer
use Rattle.sc_ast.specs.declared.stmt.StmtKind.TheVariants as stmt
use Rattle.sc_ast.specs.declared.section.Decl.TheVariants as decl
use Rattle.sc_ast.specs.declared.section.LocalTree.{LocalTree}
use Rattle.sc_back_performer_laws.proofs.BareKinds.{IsFor, IsLeaf, for_kind, kind_of_layer, leaf_kind}
use Rattle.sc_report_made.proofs.Shapes.{AreCalls, AreExports, AreFunctions, AreImports, AreMade, AreProtos, AreWorkers}
use Rattle.sc_report_made.proofs.Shapes.{IsMain, IsWorker, and_export, and_function, and_import, and_proto, and_worker}
use Rattle.sc_report_made.proofs.Shapes.{calls, ends, no_exports, no_functions, no_imports, no_protos, no_workers}
use Rattle.sc_back_performer_laws.proofs.Undone.{heads_same, tails_same}

-- Statements.

kinds_same : (s : StmtTree) (kind : StmtKind) → lineless_stmt s ≡ lineless_stmt (stmt_at 0 kind) →
    lineless_kind s.kind ≡ lineless_kind kind
kinds_same s kind h = ap (λ x. x.kind) (sym (bare_stmt s.line s.kind) ∙ h ∙ bare_stmt 0 kind)

leaf_stmt : (s : StmtTree) (kind : StmtKind) → IsLeaf kind → lineless_stmt s ≡ lineless_stmt (stmt_at 0 kind) →
    s ≡ stmt_at s.line kind
leaf_stmt s kind leaf h = ap (λ k. record { line = s.line; kind = k }) (leaf_kind s.kind kind leaf
    (kinds_same s kind h))

assigns : (place value : ExprTree) → IsLeaf (stmt.Assign place value)
assigns place value = record { top = layer.Assign place value; leaf = tt; is = sym (stmt.rolls-Assign place value) }

assigns_call : (place : ExprTree) (call : CallTree) → IsLeaf (stmt.AssignCall place call)
assigns_call place call =
    record { top = layer.AssignCall place call; leaf = tt; is = sym (stmt.rolls-AssignCall place call) }

calls_leaf : (call : CallTree) → IsLeaf (stmt.Call call)
calls_leaf call = record { top = layer.Call call; leaf = tt; is = sym (stmt.rolls-Call call) }

returns : (value : ExprTree) → IsLeaf (return_kind value)
returns value = record { top = layer.ReturnValue value; leaf = tt; is = sym (stmt.rolls-ReturnValue value) }

-- `Main`

calls_are : (seed : ℕ) (js : List ℕ) (body : List StmtTree) → lineless_stmts body ≡
    lineless_stmts (flat_map (calls_tree seed) js ++ stmt_at 0 (return_kind (literal 0)) ∷ []) →
    AreCalls seed js body
calls_are seed [] [] h = absurd (cc)
calls_are seed [] (s ∷ []) h =
    subst (λ x. AreCalls seed [] (x ∷ []))
    (sym (leaf_stmt s (return_kind (literal 0)) (returns (literal 0)) (heads_same _ _ _ _ h))) (ends s.line)
calls_are seed [] (s ∷ t ∷ body) h = absurd (cc)
calls_are seed (j ∷ js) [] h = absurd (cc)
calls_are seed (j ∷ js) (s ∷ []) h = absurd (cc)
calls_are seed (j ∷ js) (s ∷ t ∷ body) h =
    let first : s ≡ stmt_at s.line (call_kind seed j) =
    leaf_stmt s (call_kind seed j) (assigns_call _ _) (heads_same _ _ _ _ h) in
    let second : t ≡ stmt_at t.line output_kind =
    leaf_stmt t output_kind (calls_leaf _) (heads_same _ _ _ _ (tails_same _ _ _ _ h)) in
    let rest : AreCalls seed js body =
    calls_are seed js body (tails_same _ _ _ _ (tails_same _ _ _ _ h)) in
    subst (λ x. AreCalls seed (j ∷ js) x) (ap₂ (λ x y. x ∷ y ∷ body) (sym first) (sym second))
    (calls j s.line t.line js body rest)

record HaveOutput {A : Type 0} (All : List A → Type 0) (output : ℕ → A) (items : List A) : Type 0 where
  before : List A
  line : ℕ
  are : All before
  is : items ≡ before ++ output line ∷ []

imports_are : (size : ℕ) (js : List ℕ) (lines : List ImportLine) → map lineless_import lines ≡
    map lineless_import (map (λ j. import_at size j 0) js ++ output_import 0 ∷ []) →
    HaveOutput (AreImports size js) output_import lines
imports_are size [] [] h = absurd (cc)
imports_are size [] (l ∷ []) h =
    let same : lineless_import l ≡ output_import 0 = heads_same _ _ _ _ h in
    let is : l ≡ output_import l.line = ap {A = ImportLine} (λ x. record x { line = l.line }) same in
    record { before = []; line = l.line; are = no_imports; is = ap (λ x. x ∷ []) is }
imports_are size [] (l ∷ m ∷ lines) h = absurd (cc)
imports_are size (j ∷ js) [] h = absurd (cc)
imports_are size (j ∷ js) (l ∷ lines) h =
    let same : lineless_import l ≡ lineless_import (import_at size j 0) = heads_same _ _ _ _ h in
    let is : l ≡ import_at size j l.line = ap {A = ImportLine} (λ x. record x { line = l.line }) same in
    let rest = imports_are size js lines (tails_same _ _ _ _ h) in
    record {
      before = import_at size j l.line ∷ rest.before;
      line = rest.line;
      are = and_import j l.line js rest.before rest.are;
      is = ap₂ (λ x y. x ∷ y) is rest.is;
    }

record AreMainDecls (size seed : ℕ) (js : List ℕ) (decls : List Decl) : Type 0 where
  protos : List HeadTree
  proto_line : ℕ
  head_line : ℕ
  local_line : ℕ
  close_line : ℕ
  body : List StmtTree
  protos_are : AreProtos js protos
  body_is : AreCalls seed (all_functions size) body
  is : decls ≡ map decl.Proto protos ++ decl.Proto (output_proto proto_line) ∷
      decl.Function (main_at head_line local_line close_line body) ∷ []

-- one local
one_local : (locals : List LocalTree) (local : LocalTree) → map lineless_local locals ≡
    map lineless_local (local ∷ []) → (x : ℕ) × (locals ≡ record local { line = x } ∷ [])
one_local [] local h = absurd (cc)
one_local (l ∷ []) local h =
    let is : l ≡ record local { line = l.line } =
    ap {A = LocalTree} (λ x. record x { line = l.line }) (heads_same _ _ _ _ h) in
    (l.line, ap (λ x. x ∷ []) is)
one_local (l ∷ m ∷ locals) local h = absurd (cc)

main_is : (size seed : ℕ) (t : FunctionTree) →
    lineless_function t ≡ lineless_function (main_at 0 0 0 (main_body size seed)) →
    (x : ℕ) × (t ≡ main_at t.head.line x t.close_line t.body)
main_is size seed t same =
    let one = one_local t.locals (local_at (codes "r") 0) (ap (λ x. x.locals) same) in (
      one.0,
      λ i. record {
        head = record ((ap (λ x. x.head) same) i) { line = t.head.line };
        locals = one.1 i;
        body = t.body;
        close_line = t.close_line;
      },
    )

main_decls : (size seed : ℕ) (js : List ℕ) (decls : List Decl) → map lineless_decl decls ≡
    map lineless_decl (map (λ j. decl.Proto (proto_at j 0)) js ++ decl.Proto (output_proto 0) ∷
    decl.Function (main_at 0 0 0 (main_body size seed)) ∷ []) → AreMainDecls size seed js decls
main_decls size seed [] [] h = absurd (cc)
main_decls size seed [] (d ∷ []) h = absurd (cc)
main_decls size seed [] (decl.Proto u ∷ decl.Function t ∷ []) h =
    let here : decl.Proto (lineless_head u) ≡ decl.Proto (lineless_head (output_proto 0)) = heads_same _ _ _ _ h in
    let head_same : lineless_head u ≡ lineless_head (output_proto 0) = cc in
    let head_is : u ≡ output_proto u.line = ap {A = HeadTree} (λ x. record x { line = u.line }) head_same in
    let there : decl.Function (lineless_function t) ≡
    decl.Function (lineless_function (main_at 0 0 0 (main_body size seed))) =
    heads_same _ _ _ _ (tails_same _ _ _ _ h) in
    let same : lineless_function t ≡ lineless_function (main_at 0 0 0 (main_body size seed)) = cc in
    let function = main_is size seed t same in
    record {
      protos = [];
      proto_line = u.line;
      head_line = t.head.line;
      local_line = function.0;
      close_line = t.close_line;
      body = t.body;
      protos_are = no_protos;
      body_is = calls_are seed (all_functions size) t.body (ap (λ x. x.body) same);
      is = ap₂ (λ x y. decl.Proto x ∷ decl.Function y ∷ []) head_is function.1;
    }
main_decls size seed [] (decl.Struct u ∷ e ∷ []) h = absurd (cc)
main_decls size seed [] (decl.Global u ∷ e ∷ []) h = absurd (cc)
main_decls size seed [] (decl.Function u ∷ e ∷ []) h = absurd (cc)
main_decls size seed [] (decl.Proto u ∷ decl.Struct t ∷ []) h = absurd (cc)
main_decls size seed [] (decl.Proto u ∷ decl.Global t ∷ []) h = absurd (cc)
main_decls size seed [] (decl.Proto u ∷ decl.Proto t ∷ []) h = absurd (cc)
main_decls size seed [] (d ∷ e ∷ f ∷ decls) h = absurd (cc)
main_decls size seed (j ∷ js) [] h = absurd (cc)
main_decls size seed (j ∷ js) (decl.Proto u ∷ decls) h =
    let rest = main_decls size seed js decls (tails_same _ _ _ _ h) in
    let here : decl.Proto (lineless_head u) ≡ decl.Proto (lineless_head (proto_at j 0)) = heads_same _ _ _ _ h in
    let same : lineless_head u ≡ lineless_head (proto_at j 0) = cc in
    let is : u ≡ proto_at j u.line = ap {A = HeadTree} (λ x. record x { line = u.line }) same in
    record {
      protos = proto_at j u.line ∷ rest.protos;
      proto_line = rest.proto_line;
      head_line = rest.head_line;
      local_line = rest.local_line;
      close_line = rest.close_line;
      body = rest.body;
      protos_are = and_proto j u.line js rest.protos rest.protos_are;
      body_is = rest.body_is;
      is = ap₂ (λ x y. decl.Proto x ∷ y) is rest.is;
    }
main_decls size seed (j ∷ js) (decl.Struct u ∷ decls) h = absurd (cc)
main_decls size seed (j ∷ js) (decl.Global u ∷ decls) h = absurd (cc)
main_decls size seed (j ∷ js) (decl.Function u ∷ decls) h = absurd (cc)

no_exports_are : (exports : List ExportLine) → map lineless_export exports ≡ [] → exports ≡ []
no_exports_are [] h = refl
no_exports_are (l ∷ exports) h = absurd (cc)

pub main_undone : (size seed : ℕ) (section : SectionTree) → SameButLines section (main_tree size seed) →
    IsMain size seed section
main_undone size seed section same =
    let imports = imports_are size (all_functions size) section.imports (ap (λ x. x.imports) same) in
    let decls = main_decls size seed (all_functions size) section.decls (ap (λ x. x.decls) same) in
    let exports = no_exports_are section.exports (ap (λ x. x.exports) same) in
    record {
      imports = imports.before;
      output_line = imports.line;
      protos = decls.protos;
      proto_line = decls.proto_line;
      head_line = decls.head_line;
      local_line = decls.local_line;
      close_line = decls.close_line;
      body = decls.body;
      imports_are = imports.are;
      protos_are = decls.protos_are;
      body_is = decls.body_is;
      is = λ i. record {
        name = (ap (λ x. x.name) same) i;
        line = section.line;
        exports = exports i;
        imports = imports.is i;
        decls = decls.is i;
      };
    }

-- Workers

two_locals : (locals : List LocalTree) (a b : LocalTree) → map lineless_local locals ≡
    map lineless_local (a ∷ b ∷ []) →
    (x : ℕ) × (y : ℕ) × (locals ≡ record a { line = x } ∷ record b { line = y } ∷ [])
two_locals [] a b h = absurd (cc)
two_locals (l ∷ []) a b h = absurd (cc)
two_locals (l ∷ m ∷ []) a b h =
    let first : l ≡ record a { line = l.line } =
    ap {A = LocalTree} (λ x. record x { line = l.line }) (heads_same _ _ _ _ h) in
    let second : m ≡ record b { line = m.line } =
    ap {A = LocalTree} (λ x. record x { line = m.line }) (heads_same _ _ _ _ (tails_same _ _ _ _ h)) in
    (l.line, m.line, ap₂ (λ x y. x ∷ y ∷ []) first second)
two_locals (l ∷ m ∷ n ∷ locals) a b h = absurd (cc)

two_are : (stmts : List StmtTree) (a b : StmtKind) → IsLeaf a → IsLeaf b →
    lineless_stmts stmts ≡ lineless_stmts (stmt_at 0 a ∷ stmt_at 0 b ∷ []) →
    (x : ℕ) × (y : ℕ) × (stmts ≡ stmt_at x a ∷ stmt_at y b ∷ [])
two_are [] a b p q h = absurd (cc)
two_are (s ∷ []) a b p q h = absurd (cc)
two_are (s ∷ t ∷ []) a b p q h = (
  s.line,
  t.line,
  ap₂ (λ x y. x ∷ y ∷ []) (leaf_stmt s a p (heads_same _ _ _ _ h))
      (leaf_stmt t b q (heads_same _ _ _ _ (tails_same _ _ _ _ h))),
)
two_are (s ∷ t ∷ u ∷ stmts) a b p q h = absurd (cc)

-- an assignment in a loop's head
simple_is : (o : Option SimpleTree) (place value : ExprTree) →
    lineless_option o ≡ lineless_option (Some (assign_simple place value 0)) →
    (x : ℕ) × (o ≡ Some (assign_simple place value x))
simple_is None place value h = absurd (cc)
simple_is (Some s) place value h =
    let same : lineless_simple s ≡ lineless_simple (assign_simple place value 0) = cc in
    let is : s ≡ assign_simple place value s.line =
    ap {A = SimpleTree} (λ x. record x { line = s.line }) same in
    (s.line, ap Some is)

-- the loop of a function, with its lines
record IsLoop (s : StmtTree) : Type 0 where
  start : ℕ
  next : ℕ
  store : ℕ
  add : ℕ
  is : s ≡ stmt_at s.line (stmt.For (Some (start_at start)) below (Some (next_at next))
      (stmt_at store store_kind ∷ stmt_at add add_kind ∷ []))

loop_is : (s : StmtTree) → lineless_stmt s ≡ lineless_stmt (stmt_at 0 (loop_kind no_lines)) → IsLoop s
loop_is s h =
    let inside : List StmtTree = stmt_at 0 store_kind ∷ stmt_at 0 add_kind ∷ [] in
    let f : IsFor (Some (start_at 0)) below (Some (next_at 0)) inside (out-StmtKind s.kind) =
    for_kind s.kind (Some (start_at 0)) below (Some (next_at 0)) inside (kinds_same s (loop_kind no_lines) h) in
    let counter = variable (codes "i") in
    let start = simple_is f.start counter (literal 0) f.start_is in
    let next = simple_is f.step counter (Binary Add counter (literal 1)) f.step_is in
    let two = two_are f.body store_kind add_kind (assigns _ _) (assigns _ _) f.body_is in
    let body : List StmtTree = stmt_at two.0 store_kind ∷ stmt_at two.1 add_kind ∷ [] in
    let parts : out-StmtKind s.kind ≡ layer.For (Some (start_at start.0)) below (Some (next_at next.0)) body =
    f.is ∙ (λ i. layer.For (start.1 i) below (next.1 i) (two.2 i)) in
    record {
      start = start.0;
      next = next.0;
      store = two.0;
      add = two.1;
      is = ap (λ k. record { line = s.line; kind = k }) (kind_of_layer s.kind _ parts ∙
          stmt.rolls-For (Some (start_at start.0)) below (Some (next_at next.0)) body);
    }

record IsBody (seed j : ℕ) (body : List StmtTree) : Type 0 where
  set : ℕ
  line : ℕ
  result : ℕ
  start : ℕ
  next : ℕ
  store : ℕ
  add : ℕ
  is : body ≡ stmt_at set (set_kind seed j) ∷ stmt_at line (stmt.For (Some (start_at start)) below
      (Some (next_at next)) (stmt_at store store_kind ∷ stmt_at add add_kind ∷ [])) ∷
      stmt_at result (return_kind (variable (codes "s"))) ∷ []

body_is : (seed j : ℕ) (body : List StmtTree) →
    lineless_stmts body ≡ lineless_stmts (function_at seed j no_lines).body → IsBody seed j body
body_is seed j [] h = absurd (cc)
body_is seed j (s ∷ []) h = absurd (cc)
body_is seed j (s ∷ t ∷ []) h = absurd (cc)
body_is seed j (s ∷ t ∷ u ∷ []) h =
    let rest = tails_same _ _ _ _ h in
    let first = leaf_stmt s (set_kind seed j) (assigns _ _) (heads_same _ _ _ _ h) in
    let loop = loop_is t (heads_same _ _ _ _ rest) in
    let last = leaf_stmt u (return_kind (variable (codes "s"))) (returns _)
    (heads_same _ _ _ _ (tails_same _ _ _ _ rest)) in
    record {
      set = s.line;
      line = t.line;
      result = u.line;
      start = loop.start;
      next = loop.next;
      store = loop.store;
      add = loop.add;
      is = λ i. first i ∷ loop.is i ∷ last i ∷ [];
    }
body_is seed j (s ∷ t ∷ u ∷ v ∷ body) h = absurd (cc)

record IsFunction (seed j : ℕ) (t : FunctionTree) : Type 0 where
  lines : FunctionLines
  is : t ≡ function_at seed j lines

function_is : (seed j : ℕ) (t : FunctionTree) →
    lineless_function t ≡ lineless_function (function_at seed j no_lines) → IsFunction seed j t
function_is seed j t same =
    let locals = two_locals t.locals (local_at (codes "i") 0) (local_at (codes "s") 0) (ap (λ x. x.locals) same) in
    let body = body_is seed j t.body (ap (λ x. x.body) same) in
    record {
      lines = record {
        head = t.head.line;
        counter = locals.0;
        sum = locals.1;
        set = body.set;
        loop = body.line;
        start = body.start;
        next = body.next;
        store = body.store;
        add = body.add;
        result = body.result;
        close = t.close_line;
      };
      is = λ i. record {
        head = record ((ap (λ x. x.head) same) i) { line = t.head.line };
        locals = locals.2 i;
        body = body.is i;
        close_line = t.close_line;
      };
    }

record AreOnlyFunctions (seed : ℕ) (js : List ℕ) (decls : List Decl) : Type 0 where
  functions : List FunctionTree
  are : AreFunctions seed js functions
  is : decls ≡ map decl.Function functions

functions_are : (seed : ℕ) (js : List ℕ) (decls : List Decl) → map lineless_decl decls ≡
    map lineless_decl (map (λ j. decl.Function (function_at seed j no_lines)) js) →
    AreOnlyFunctions seed js decls
functions_are seed [] [] h = record { functions = []; are = no_functions; is = refl }
functions_are seed [] (d ∷ decls) h = absurd (cc)
functions_are seed (j ∷ js) [] h = absurd (cc)
functions_are seed (j ∷ js) (decl.Function t ∷ decls) h =
    let rest = functions_are seed js decls (tails_same _ _ _ _ h) in
    let here : decl.Function (lineless_function t) ≡ decl.Function (lineless_function (function_at seed j no_lines)) =
    heads_same _ _ _ _ h in
    let same : lineless_function t ≡ lineless_function (function_at seed j no_lines) = cc in
    let function = function_is seed j t same in
    record {
      functions = function_at seed j function.lines ∷ rest.functions;
      are = and_function j function.lines js rest.functions rest.are;
      is = ap₂ (λ x y. decl.Function x ∷ y) function.is rest.is;
    }
functions_are seed (j ∷ js) (decl.Struct u ∷ decls) h = absurd (cc)
functions_are seed (j ∷ js) (decl.Global u ∷ decls) h = absurd (cc)
functions_are seed (j ∷ js) (decl.Proto u ∷ decls) h = absurd (cc)

exports_are : (js : List ℕ) (lines : List ExportLine) →
    map lineless_export lines ≡ map lineless_export (map (λ j. export_at j 0) js) → AreExports js lines
exports_are [] [] h = no_exports
exports_are [] (l ∷ lines) h = absurd (cc)
exports_are (j ∷ js) [] h = absurd (cc)
exports_are (j ∷ js) (l ∷ lines) h =
    let same : lineless_export l ≡ lineless_export (export_at j 0) = heads_same _ _ _ _ h in
    let is : l ≡ export_at j l.line = ap {A = ExportLine} (λ x. record x { line = l.line }) same in
    subst (λ x. AreExports (j ∷ js) (x ∷ lines)) (sym is)
    (and_export j l.line js lines (exports_are js lines (tails_same _ _ _ _ h)))

no_imports_are : (imports : List ImportLine) → map lineless_import imports ≡ [] → imports ≡ []
no_imports_are [] h = refl
no_imports_are (l ∷ imports) h = absurd (cc)

record AreWorkerDecls (seed : ℕ) (js : List ℕ) (decls : List Decl) : Type 0 where
  line : ℕ
  functions : List FunctionTree
  are : AreFunctions seed js functions
  is : decls ≡ decl.Global (table_at line) ∷ map decl.Function functions

worker_decls : (seed : ℕ) (js : List ℕ) (decls : List Decl) → map lineless_decl decls ≡
    map lineless_decl (decl.Global (table_at 0) ∷ map (λ j. decl.Function (function_at seed j no_lines)) js) →
    AreWorkerDecls seed js decls
worker_decls seed js [] h = absurd (cc)
worker_decls seed js (decl.Global g ∷ decls) h =
    let rest = functions_are seed js decls (tails_same _ _ _ _ h) in
    let here : lineless_decl (decl.Global g) ≡ decl.Global (table_at 0) = heads_same _ _ _ _ h in
    let same : record g { line = 0 } ≡ table_at 0 = cc in
    record {
      line = g.line;
      functions = rest.functions;
      are = rest.are;
      is = ap₂ (λ x y. decl.Global (record x { line = g.line }) ∷ y) same rest.is;
    }
worker_decls seed js (decl.Struct u ∷ decls) h = absurd (cc)
worker_decls seed js (decl.Proto u ∷ decls) h = absurd (cc)
worker_decls seed js (decl.Function u ∷ decls) h = absurd (cc)

pub worker_undone : (size seed i : ℕ) (section : SectionTree) → SameButLines section (worker_tree size seed i) →
    IsWorker size seed i section
worker_undone size seed i section same =
    let js = worker_functions size i in
    let decls = worker_decls seed js section.decls (ap (λ x. x.decls) same) in
    let imports = no_imports_are section.imports (ap (λ x. x.imports) same) in
    record {
      exports = section.exports;
      table_line = decls.line;
      functions = decls.functions;
      exports_are = exports_are js section.exports (ap (λ x. x.exports) same);
      functions_are = decls.are;
      is = λ k. record {
        name = (ap (λ x. x.name) same) k;
        line = section.line;
        exports = section.exports;
        imports = imports k;
        decls = decls.is k;
      };
    }

workers_undone : (size seed : ℕ) (is : List ℕ) (sections : List SectionTree) →
    AreSame sections (map (worker_tree size seed) is) → AreWorkers size seed is sections
workers_undone size seed [] [] h = no_workers
workers_undone size seed [] (section ∷ sections) h = absurd h
workers_undone size seed (i ∷ is) [] h = absurd h
workers_undone size seed (i ∷ is) (section ∷ sections) h =
    and_worker i section is sections (worker_undone size seed i section h.0)
    (workers_undone size seed is sections h.1)

-- sections that are those of a made text, lines aside, have their shape
pub undone : (size seed : ℕ) (sections : List SectionTree) → AreSame sections (made_trees size seed) →
    AreMade size seed sections
undone size seed [] h = absurd h
undone size seed (main ∷ others) h = record {
  main = main;
  others = others;
  main_is = main_undone size seed main h.0;
  others_are = workers_undone size seed (numbers_from 0 (workers size)) others h.1;
  are = refl;
}
