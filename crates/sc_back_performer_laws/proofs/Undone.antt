-- A tree that is that of a performing section, lines aside, is that tree with lines.
use Rattle.sc_back_performer_laws.proofs.Common.{Action, Binary, Bool, Decl, Entry, Equal, Export, ExportLine, ExprTree}
use Rattle.sc_back_performer_laws.proofs.Common.{FunctionTree, HeadTree, Import, ImportLine, Int, Interface, Interfaces}
use Rattle.sc_back_performer_laws.proofs.Common.{List, Main, None, Option, Proto, Row, SameButLines, Scalar}
use Rattle.sc_back_performer_laws.proofs.Common.{SectionTree, Some, StmtKind, StmtTree, Unsigned, Variable, []}
use Rattle.sc_back_performer_laws.proofs.Common.{action_kind, all_functions, ap, ap₂, back_tree, body_tree, call_kind}
use Rattle.sc_back_performer_laws.proofs.Common.{cons_option, counter_name, export_at, export_line, false, filter}
use Rattle.sc_back_performer_laws.proofs.Common.{filter_map, function_tree, function_trees, if◌then◌else◌, imported}
use Rattle.sc_back_performer_laws.proofs.Common.{input_proto, is_of, lineless_decl, lineless_export, lineless_function}
use Rattle.sc_back_performer_laws.proofs.Common.{lineless_head, lineless_import, lineless_kind, lineless_local}
use Rattle.sc_back_performer_laws.proofs.Common.{lineless_stmt, lineless_stmts, literal, main_proto, map, map-append}
use Rattle.sc_back_performer_laws.proofs.Common.{map_twice, names_of, option_map, option_map_or, out-StmtKind}
use Rattle.sc_back_performer_laws.proofs.Common.{output_proto, proto_head, refl, return_kind, row_kind, subst, suc, sym}
use Rattle.sc_back_performer_laws.proofs.Common.{true, unlined, value_tree, ℕ, ◌++◌, ◌==◌, ◌∙◌, ◌∷◌, ◌≡◌}
use Rattle.sc_back.specs.Prelude.{counter}
use Rattle.sc_event.specs.declared.row.Action.TheVariants as action
use Rattle.sc_ast.proofs.Statements.{bare_stmt}
use Rattle.sc_ast.specs.declared.stmt.StmtKind.TheOpen as layer
use Rattle.sc_ast.specs.declared.stmt.StmtKind.TheVariants as stmt
use Rattle.sc_ast.specs.declared.section.Decl.TheVariants as decl
use Rattle.sc_ast.specs.declared.section.LocalTree.{LocalTree}
use Rattle.sc_back_performer_laws.proofs.BareKinds.{IsIf, IsLeaf, IsWhile, if_kind, kind_of_layer, leaf_kind}
use Rattle.sc_back_performer_laws.proofs.BareKinds.{while_kind}
use Rattle.sc_back_performer_laws.proofs.BackTree.{AreFunctions, AreHeads, AreImports, IsBackBody, IsBackTree}
use Rattle.sc_back_performer_laws.proofs.BackTree.{and_function, and_head, and_import, counter_at, does, ends}
use Rattle.sc_back_performer_laws.proofs.BackTree.{entries_from, entries_of, function_at, head_at, import_at}
use Rattle.sc_back_performer_laws.proofs.BackTree.{main_entries, no_functions, no_heads, no_imports, row_at, stmt_at}
use Rattle.sc_back_performer_laws.proofs.BackTree.{use_of, uses, while_at}

-- Lists that begin alike.
abbrev head_or : {A : Type 0} → A → List A → A
head_or x [] = x
head_or x (y ∷ ys) = y

abbrev tail_of : {A : Type 0} → List A → List A
tail_of [] = []
tail_of (y ∷ ys) = ys

pub heads_same : {A : Type 0} (x y : A) (xs ys : List A) → x ∷ xs ≡ y ∷ ys → x ≡ y
heads_same x y xs ys h = ap (head_or x) h

pub tails_same : {A : Type 0} (x y : A) (xs ys : List A) → x ∷ xs ≡ y ∷ ys → xs ≡ ys
tails_same x y xs ys h = ap tail_of h

-- Statements.

kinds_same : (s : StmtTree) (kind : StmtKind) → lineless_stmt s ≡ lineless_stmt (unlined kind) →
    lineless_kind s.kind ≡ lineless_kind kind
kinds_same s kind h = ap (λ x. x.kind) (sym (bare_stmt s.line s.kind) ∙ h ∙ bare_stmt 1 kind)

leaf_stmt : (s : StmtTree) (kind : StmtKind) → IsLeaf kind → lineless_stmt s ≡ lineless_stmt (unlined kind) →
    s ≡ stmt_at s.line kind
leaf_stmt s kind leaf h = ap (λ k. record { line = s.line; kind = k }) (leaf_kind s.kind kind leaf
    (kinds_same s kind h))

assigns : (place value : ExprTree) → IsLeaf (stmt.Assign place value)
assigns place value = record { top = layer.Assign place value; leaf = tt; is = sym (stmt.rolls-Assign place value) }

calls : (args : List ℕ) (f : Proto) → IsLeaf (call_kind args f)
calls args f = record { top = layer.Call _; leaf = tt; is = sym (stmt.rolls-Call _) }

calls_some : (args : List ℕ) (f : Option Proto) → IsLeaf (option_map_or (call_kind args) f stmt.Empty)
calls_some args None = record { top = layer.Empty; leaf = tt; is = sym stmt.rolls-Empty }
calls_some args (Some f) = calls args f

returns : (result : Option Scalar) (value : Option ℕ) → IsLeaf (return_kind result value)
returns (Some ty) (Some word) = record { top = layer.ReturnValue _; leaf = tt; is = sym (stmt.rolls-ReturnValue _) }
returns (Some ty) None = record { top = layer.Return; leaf = tt; is = sym stmt.rolls-Return }
returns None value = record { top = layer.Return; leaf = tt; is = sym stmt.rolls-Return }

acts : (interfaces : Interfaces) (result : Option Scalar) (a : Action) → IsLeaf (action_kind interfaces result a)
acts interfaces result (action.Call to index args) = calls_some args (export_at interfaces to index)
acts interfaces result (action.Ret value) = returns result value
acts interfaces result (action.Out word) = calls (word ∷ []) output_proto
acts interfaces result (action.In word) = calls [] input_proto
acts interfaces result (action.End word) = returns (Some Int) (Some word)

-- no statements
none_is : (stmts : List StmtTree) → lineless_stmts stmts ≡ [] → stmts ≡ []
none_is [] h = refl
none_is (s ∷ stmts) h = absurd (cc)

-- two statements
two_are : (stmts : List StmtTree) (a b : StmtKind) → IsLeaf a → IsLeaf b →
    lineless_stmts stmts ≡ lineless_stmts (unlined a ∷ unlined b ∷ []) →
    (x : ℕ) × (y : ℕ) × (stmts ≡ stmt_at x a ∷ stmt_at y b ∷ [])
two_are [] a b p q h = absurd (cc)
two_are (s ∷ []) a b p q h = absurd (cc)
two_are (s ∷ t ∷ []) a b p q h = (
  s.line,
  t.line,
  ap₂ (λ x y. x ∷ y ∷ []) (leaf_stmt s a p (heads_same _ _ _ _ h))
      (leaf_stmt t b q (heads_same _ _ _ _ (tails_same _ _ _ _ h))),
)
two_are (s ∷ t ∷ u ∷ stmts) a b p q h = absurd (cc)

record IsRow (interfaces : Interfaces) (result : Option Scalar) (row : Row) (s : StmtTree) : Type 0 where
  set_line : ℕ
  action_line : ℕ
  is : s ≡ row_at interfaces result row s.line set_line action_line

row_is : (interfaces : Interfaces) (result : Option Scalar) (row : Row) (s : StmtTree) →
    lineless_stmt s ≡ lineless_stmt (unlined (row_kind interfaces result row)) → IsRow interfaces result row s
row_is interfaces result row s h =
    let place = Variable counter_name in
    let test = Binary Equal place (value_tree Unsigned row.number) in
    let set : StmtKind = stmt.Assign place (value_tree Unsigned (suc row.number)) in
    let act : StmtKind = action_kind interfaces result row.action in
    let i : IsIf test (unlined set ∷ unlined act ∷ []) [] (out-StmtKind s.kind) =
    if_kind s.kind test (unlined set ∷ unlined act ∷ []) []
    (kinds_same s (row_kind interfaces result row) h) in
    let two = two_are i.then_part set act (assigns place _) (acts interfaces result row.action) i.first_is in
    let none : i.else_part ≡ [] = none_is i.else_part i.second_is in
    let parts : out-StmtKind s.kind ≡ layer.If test (stmt_at two.0 set ∷ stmt_at two.1 act ∷ []) [] =
    i.is ∙ ap₂ (λ x y. layer.If test x y) two.2 none in
    record {
      set_line = two.0;
      action_line = two.1;
      is = ap (λ k. record { line = s.line; kind = k })
          (kind_of_layer s.kind _ parts ∙ stmt.rolls-If test (stmt_at two.0 set ∷ stmt_at two.1 act ∷ []) []);
    }

while_is : (s : StmtTree) → lineless_stmt s ≡ lineless_stmt (unlined (stmt.While (literal 1) [])) →
    s ≡ while_at s.line
while_is s h =
    let w : IsWhile (literal 1) [] (out-StmtKind s.kind) =
    while_kind s.kind (literal 1) [] (kinds_same s (stmt.While (literal 1) []) h) in
    let is : out-StmtKind s.kind ≡ layer.While (literal 1) [] =
    w.is ∙ ap (layer.While (literal 1)) (none_is w.body w.body_is) in
    ap (λ k. record { line = s.line; kind = k }) (kind_of_layer s.kind _ is ∙ stmt.rolls-While (literal 1) [])

pub body_is : (interfaces : Interfaces) (result : Option Scalar) (rows : List Row) (body : List StmtTree) →
    lineless_stmts body ≡ lineless_stmts (body_tree interfaces result rows) → IsBackBody interfaces result rows body
body_is interfaces result [] [] h = absurd (cc)
body_is interfaces result [] (s ∷ []) h =
    subst (λ x. IsBackBody interfaces result [] (x ∷ [])) (sym (while_is s (heads_same _ _ _ _ h))) (ends s.line)
body_is interfaces result [] (s ∷ t ∷ body) h = absurd (cc)
body_is interfaces result (row ∷ rows) [] h = absurd (cc)
body_is interfaces result (row ∷ rows) (s ∷ body) h =
    let r : IsRow interfaces result row s = row_is interfaces result row s (heads_same _ _ _ _ h) in
    subst (λ x. IsBackBody interfaces result (row ∷ rows) (x ∷ body)) (sym r.is)
    (does row rows body s.line r.set_line r.action_line
    (body_is interfaces result rows body (tails_same _ _ _ _ h)))

-- Functions.

locals_are : (locals : List LocalTree) → map lineless_local locals ≡ [] → locals ≡ []
locals_are [] h = refl
locals_are (l ∷ locals) h = absurd (cc)

function_is : (interfaces : Interfaces) (rows : List Row) (entry : Entry) (f : Proto) (t : FunctionTree) →
    lineless_function t ≡ lineless_function (function_tree interfaces rows entry f) →
    t ≡ function_at f t.head.line t.close_line t.body
function_is interfaces rows entry f t same =
    ap₂ (λ h l. record t { head = record h { line = t.head.line }; locals = l })
    (ap (λ x. x.head) same) (locals_are t.locals (ap (λ x. x.locals) same))

abbrev tree_of : Interfaces → List Row → Entry × Proto → FunctionTree
tree_of interfaces rows e = function_tree interfaces rows e.0 e.1

functions_are : (interfaces : Interfaces) (rows : List Row) (entries : List (Entry × Proto))
    (trees : List FunctionTree) → map lineless_function trees ≡
    map lineless_function (map (tree_of interfaces rows) entries) → AreFunctions interfaces rows entries trees
functions_are interfaces rows [] [] h = no_functions
functions_are interfaces rows [] (t ∷ trees) h = absurd (cc)
functions_are interfaces rows (e ∷ entries) [] h = absurd (cc)
functions_are interfaces rows (e ∷ entries) (t ∷ trees) h =
    let same : lineless_function t ≡ lineless_function (tree_of interfaces rows e) = heads_same _ _ _ _ h in
    subst (λ x. AreFunctions interfaces rows (e ∷ entries) (x ∷ trees))
    (sym (function_is interfaces rows e.0 e.1 t same))
    (and_function e.0 e.1 entries trees t.head.line t.close_line t.body
    (body_is interfaces e.1.result (filter (is_of e.0) rows) t.body (ap (λ x. x.body) same))
    (functions_are interfaces rows entries trees (tails_same _ _ _ _ h)))

trees_from : (interfaces : Interfaces) (rows : List Row) (index : ℕ) (exports : List Proto) →
    function_trees interfaces rows index exports ≡ map (tree_of interfaces rows) (entries_from index exports)
trees_from interfaces rows index [] = refl
trees_from interfaces rows index (f ∷ exports) =
    ap (λ rest. function_tree interfaces rows (Export index) f ∷ rest) (trees_from interfaces rows (suc index) exports)

main_are : (interfaces : Interfaces) (rows : List Row) (b : Bool) →
    (if b then function_tree interfaces rows Main main_proto ∷ [] else []) ≡
    map (tree_of interfaces rows) (if b then (Main, main_proto) ∷ [] else [])
main_are interfaces rows true = refl
main_are interfaces rows false = refl

trees_are : (interfaces : Interfaces) (comp : ℕ) (rows : List Row) (interface : Interface) →
    all_functions interfaces comp rows interface ≡
    map (tree_of interfaces rows) (entries_of interfaces comp interface)
trees_are interfaces comp rows interface =
    ap₂ (λ a b. a ++ b) (trees_from interfaces rows 0 interface.exports)
    (main_are interfaces rows (comp == interfaces.main)) ∙
    sym (map-append (tree_of interfaces rows) (entries_from 0 interface.exports) (main_entries interfaces comp))

-- Imports.

abbrev line_of : Interfaces → Import × Proto → ImportLine
line_of interfaces used = import_at interfaces used 1

one_more : {X : Type 0} (g : Import → Proto → X) (import : Import) (o : Option Proto)
    (rest : List (Import × Proto)) → cons_option (option_map (g import) o) (map (λ u. g u.0 u.1) rest) ≡
    map (λ u. g u.0 u.1) (use_of import o rest)
one_more g import None rest = refl
one_more g import (Some f) rest = refl

pub of_uses : {X : Type 0} (interfaces : Interfaces) (g : Import → Proto → X) (imports : List Import) →
    filter_map (λ import. option_map (g import) (imported interfaces import)) imports ≡
    map (λ u. g u.0 u.1) (uses interfaces imports)
of_uses interfaces g [] = refl
of_uses interfaces g (import ∷ imports) =
    ap (cons_option (option_map (g import) (imported interfaces import))) (of_uses interfaces g imports) ∙
    one_more g import (imported interfaces import) (uses interfaces imports)

imports_are : (interfaces : Interfaces) (used : List (Import × Proto)) (lines : List ImportLine) →
    map lineless_import lines ≡ map lineless_import (map (line_of interfaces) used) →
    AreImports interfaces used lines
imports_are interfaces [] [] h = no_imports
imports_are interfaces [] (l ∷ lines) h = absurd (cc)
imports_are interfaces (u ∷ used) [] h = absurd (cc)
imports_are interfaces (u ∷ used) (l ∷ lines) h =
    let same : lineless_import l ≡ lineless_import (line_of interfaces u) = heads_same _ _ _ _ h in
    let is : l ≡ import_at interfaces u l.line = ap {A = ImportLine} (λ x. record x { line = l.line }) same in
    subst (λ x. AreImports interfaces (u ∷ used) (x ∷ lines)) (sym is)
    (and_import u used lines l.line (imports_are interfaces used lines (tails_same _ _ _ _ h)))

abbrev proto_of : Import × Proto → HeadTree
proto_of used = proto_head used.1

heads_are : (used : List (Import × Proto)) (heads : List HeadTree) →
    map lineless_head heads ≡ map lineless_head (map proto_of used) → AreHeads used heads
heads_are [] [] h = no_heads
heads_are [] (x ∷ heads) h = absurd (cc)
heads_are (u ∷ used) [] h = absurd (cc)
heads_are (u ∷ used) (x ∷ heads) h =
    let same : lineless_head x ≡ lineless_head (proto_of u) = heads_same _ _ _ _ h in
    let is : x ≡ head_at u.1 x.line = ap {A = HeadTree} (λ y. record y { line = x.line }) same in
    subst (λ y. AreHeads (u ∷ used) (y ∷ heads)) (sym is)
    (and_head u used heads x.line (heads_are used heads (tails_same _ _ _ _ h)))

-- Declarations.

record AreDecls (bare_heads : List HeadTree) (bare_functions : List FunctionTree) (decls : List Decl) : Type 0 where
  heads : List HeadTree
  line : ℕ
  functions : List FunctionTree
  is : decls ≡ map decl.Proto heads ++ decl.Global (counter_at line) ∷ map decl.Function functions
  same_heads : map lineless_head heads ≡ map lineless_head bare_heads
  same_functions : map lineless_function functions ≡ map lineless_function bare_functions

record AreOnlyFunctions (bare_functions : List FunctionTree) (decls : List Decl) : Type 0 where
  functions : List FunctionTree
  is : decls ≡ map decl.Function functions
  same : map lineless_function functions ≡ map lineless_function bare_functions

only_functions : (bare : List FunctionTree) (decls : List Decl) →
    map lineless_decl decls ≡ map lineless_decl (map decl.Function bare) → AreOnlyFunctions bare decls
only_functions [] [] h = record { functions = []; is = refl; same = refl }
only_functions [] (d ∷ decls) h = absurd (cc)
only_functions (t ∷ bare) [] h = absurd (cc)
only_functions (t ∷ bare) (decl.Function u ∷ decls) h =
    let rest : AreOnlyFunctions bare decls = only_functions bare decls (tails_same _ _ _ _ h) in
    let here : decl.Function (lineless_function u) ≡ decl.Function (lineless_function t) = heads_same _ _ _ _ h in
    let same : lineless_function u ≡ lineless_function t = cc in
    record {
      functions = u ∷ rest.functions;
      is = ap (λ x. decl.Function u ∷ x) rest.is;
      same = ap₂ (λ x y. x ∷ y) same rest.same;
    }
only_functions (t ∷ bare) (decl.Struct u ∷ decls) h = absurd (cc)
only_functions (t ∷ bare) (decl.Global u ∷ decls) h = absurd (cc)
only_functions (t ∷ bare) (decl.Proto u ∷ decls) h = absurd (cc)

decls_are : (heads : List HeadTree) (functions : List FunctionTree) (decls : List Decl) →
    map lineless_decl decls ≡
    map lineless_decl (map decl.Proto heads ++ decl.Global counter ∷ map decl.Function functions) →
    AreDecls heads functions decls
decls_are [] functions [] h = absurd (cc)
decls_are [] functions (decl.Global g ∷ decls) h =
    let rest : AreOnlyFunctions functions decls = only_functions functions decls (tails_same _ _ _ _ h) in
    let here : lineless_decl (decl.Global g) ≡ lineless_decl (decl.Global counter) = heads_same _ _ _ _ h in
    let same : record g { line = 0 } ≡ counter_at 0 = cc in
    record {
      heads = [];
      line = g.line;
      functions = rest.functions;
      is = ap₂ (λ x y. decl.Global (record x { line = g.line }) ∷ y) same rest.is;
      same_heads = refl;
      same_functions = rest.same;
    }
decls_are [] functions (decl.Struct u ∷ decls) h = absurd (cc)
decls_are [] functions (decl.Proto u ∷ decls) h = absurd (cc)
decls_are [] functions (decl.Function u ∷ decls) h = absurd (cc)
decls_are (x ∷ heads) functions [] h = absurd (cc)
decls_are (x ∷ heads) functions (decl.Proto u ∷ decls) h =
    let rest : AreDecls heads functions decls = decls_are heads functions decls (tails_same _ _ _ _ h) in
    let here : lineless_decl (decl.Proto u) ≡ lineless_decl (decl.Proto x) = heads_same _ _ _ _ h in
    let same : lineless_head u ≡ lineless_head x = cc in
    record {
      heads = u ∷ rest.heads;
      line = rest.line;
      functions = rest.functions;
      is = ap (λ y. decl.Proto u ∷ y) rest.is;
      same_heads = ap₂ (λ y z. y ∷ z) same rest.same_heads;
      same_functions = rest.same_functions;
    }
decls_are (x ∷ heads) functions (decl.Struct u ∷ decls) h = absurd (cc)
decls_are (x ∷ heads) functions (decl.Global u ∷ decls) h = absurd (cc)
decls_are (x ∷ heads) functions (decl.Function u ∷ decls) h = absurd (cc)

-- Sections.

exports_are : (exports : List ExportLine) (protos : List Proto) →
    map lineless_export exports ≡ map lineless_export (map export_line protos) →
    map {A = ExportLine} (λ line. line.name) exports ≡ names_of protos
exports_are exports protos h =
    sym (map_twice {A = ExportLine} {B = ExportLine} (λ line. line.name) lineless_export exports) ∙
    ap (map {A = ExportLine} (λ line. line.name)) h ∙
    map_twice {A = ExportLine} {B = ExportLine} (λ line. line.name) lineless_export (map export_line protos) ∙
    map_twice {A = Proto} {B = ExportLine} (λ line. line.name) export_line protos

-- a tree that is that of a performing section, lines aside, is it with lines
pub back_tree_is : (interfaces : Interfaces) (comp : ℕ) (rows : List Row) (interface : Interface)
    (section : SectionTree) → SameButLines section (back_tree interfaces comp rows interface) →
    IsBackTree interfaces comp rows interface section
back_tree_is interfaces comp rows interface section same =
    let used = uses interfaces interface.imports in
    let entries = entries_of interfaces comp interface in
    let d : AreDecls (map proto_of used) (map (tree_of interfaces rows) entries) section.decls =
    decls_are (map proto_of used) (map (tree_of interfaces rows) entries) section.decls
    (ap (λ x. x.decls) same ∙ ap₂ (λ hs fs. map lineless_decl
    (map decl.Proto hs ++ decl.Global counter ∷ map decl.Function fs))
    (of_uses interfaces (λ i f. proto_head f) interface.imports) (trees_are interfaces comp rows interface)) in
    record {
      name = ap (λ x. x.name) same;
      exports = exports_are section.exports interface.exports (ap (λ x. x.exports) same);
      imports = imports_are interfaces used section.imports
          (ap (λ x. x.imports) same ∙ ap (map lineless_import)
          (of_uses interfaces (λ i f. line_of interfaces (i, f)) interface.imports));
      heads = d.heads;
      are_heads = heads_are used d.heads d.same_heads;
      counter_line = d.line;
      functions = d.functions;
      are_functions = functions_are interfaces rows entries d.functions d.same_functions;
      decls = d.is;
    }
