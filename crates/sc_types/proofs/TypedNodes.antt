-- What is typed has as many nodes as its tree, and is as high.
use Rattle.sc_types.proofs.Common.{Bool, CallTree, Callees, Each, ExprTree, ExprTree-F, Found, FunctionTree, Inside}
use Rattle.sc_types.proofs.Common.{List, LocalTree, None, Option, SectionTree, SimpleKind, SimpleTree, Some, StmtKind}
use Rattle.sc_types.proofs.Common.{StmtKind-F, StmtTree, Ty, TypedStmt, TypedStmtKind, TypedStmtKind-F, Under, Visible}
use Rattle.sc_types.proofs.Common.{[], ap, ap₂, arith, beside, call_height, call_nodes, cond, count_height, decayed}
use Rattle.sc_types.proofs.Common.{decls_nodes, expr_height, expr_induction, expr_nodes, expr_step, false}
use Rattle.sc_types.proofs.Common.{variable_named, function_nodes, going_to, going_to_all, going_to_some, highest}
use Rattle.sc_types.proofs.Common.{if◌then◌else◌, int_pointer, is_pointer, is_zero_literal, kind_height}
use Rattle.sc_types.proofs.Common.{kind_typed as typed_kind_step, length-map, local_nodes, map, map-ExprTree, max}
use Rattle.sc_types.proofs.Common.{nodes, option_map, option_nodes, part_height, part_nodes, refl, result_of}
use Rattle.sc_types.proofs.Common.{roll-TypedStmtKind, rules, simple_height, simple_nodes, expr_typed, stmt_height}
use Rattle.sc_types.proofs.Common.{stmt_induction, stmt_nodes, stmt_typed as typed_stmt_step, suc, sym, term_height}
use Rattle.sc_types.proofs.Common.{total, true, typed, typed_call, typed_count, typed_freed, typed_function, typed_init}
use Rattle.sc_types.proofs.Common.{typed_locals, typed_section, typed_simple, typed_simple_kind, typed_stmt}
use Rattle.sc_types.proofs.Common.{typed_value, variable_typed, visible_in, visible_of, ℕ, ◌&&◌, ◌+◌, ◌∙◌, ◌∷◌, ◌≡◌}
use Rattle.sc_types.specs.Prelude.{kind_step, stmt_step}
use Rattle.sc_base.specs.declared.op.BinaryOp.{BinaryOp}
use Rattle.sc_core.specs.declared.expr.TypedExpr.{TypedExpr, fold-roll-TypedExpr}
use Rattle.sc_core.specs.declared.expr.TypedKind.{TypedKind, TypedKind-F, roll-TypedKind, the_lemmas}
use Rattle.sc_base.specs.declared.op.BinaryOp.TheVariants as tree_op
use Rattle.sc_ast.specs.declared.expr.ExprTree.TheOpen as tree
use Rattle.sc_ast.specs.declared.stmt.SimpleKind.TheVariants as simple_tree
use Rattle.sc_ast.specs.declared.stmt.StmtKind.TheOpen as layer
use Rattle.sc_ast.proofs.Layers as layers
use Rattle.sc_core.specs.Sizes as core
use Rattle.sc_core.specs.declared.expr.TypedKind.TheOpen as open_term
use Rattle.sc_core.specs.declared.stmt.TypedStmtKind.TheOpen as open_kind
use Rattle.sc_core.proofs.Layers as core_layers
use Rattle.sc_ast.specs.Height as surface

-- The nodes of a typed expression, by the layer of its kind.

node-at : (t : Ty) (k : TypedKind-F TypedKind TypedExpr) →
    core.expr_nodes (core_layers.typed t k) ≡ core_layers.term_of ℕ ℕ core.term_nodes (λ e. e.kind) k
node-at t k = core_layers.expr_at ℕ ℕ core.term_nodes (λ e. e.kind) t k

-- its type doesn't count
kind-alone : (t u : Ty) (k : TypedKind) → core.expr_nodes (record { ty = t; kind = k }) ≡
    core.expr_nodes (record { ty = u; kind = k })
kind-alone t u k = search (rules, the_lemmas)

going-if : (b : Bool) (place : Ty) (e : TypedExpr) → core.expr_nodes
    (cond b (record { ty = decayed place; kind = e.kind }) e) ≡ core.expr_nodes e
going-if true place e = kind-alone _ e.ty e.kind
going-if false place e = refl

going : (place : Ty) (e : TypedExpr) → core.expr_nodes (going_to place e) ≡ core.expr_nodes e
going place e = going-if _ place e

going-some : (place : Option Ty) (e : TypedExpr) → core.expr_nodes (going_to_some place e) ≡ core.expr_nodes e
going-some None e = refl
going-some (Some place) e = going place e

going-all : (types : List Ty) (exprs : List TypedExpr) →
    total (map core.expr_nodes (going_to_all types exprs)) ≡ total (map core.expr_nodes exprs)
going-all [] exprs = refl
going-all (t ∷ types) [] = refl
going-all (t ∷ types) (e ∷ exprs) = ap₂ (λ a b. a + b) (going t e) (going-all types exprs)

total-same : {A B : Type 0} (f : B → ℕ) (g : A → B) (h : A → ℕ) → ((x : A) → f (g x) ≡ h x) → (xs : List A) →
    total (map f (map g xs)) ≡ total (map h xs)
total-same f g h same [] = refl
total-same f g h same (x ∷ xs) = λ i. same x i + total-same f g h same xs i

beside-nodes : (o : BinaryOp) (other : Ty) (e : TypedExpr) → core.expr_nodes (beside o other e) ≡ core.expr_nodes e
beside-nodes tree_op.Equal other e = going other e
beside-nodes tree_op.NotEqual other e = going other e
beside-nodes o other e = refl

variable-nodes : (f : Option Found) → core.expr_nodes (variable_typed f) ≡ 1
unfolding roll-TypedKind denote.Hole.Carrier.roll
variable-nodes None = node-at _ (open_term.Variable _)
variable-nodes (Some f) = node-at _ (open_term.Variable _)

module _ (visible : Visible) where
  abbrev AsTree : ExprTree → Type 0
  AsTree e = core.expr_nodes (typed visible e) ≡ expr_nodes e

  step-nodes : (t : ExprTree-F ExprTree) → Under AsTree t →
      core.expr_nodes (expr_typed visible (map-ExprTree _ _ (typed visible) t)) ≡ expr_step (map-ExprTree _ _ expr_nodes
      t)
  unfolding roll-TypedKind denote.Hole.Carrier.roll
  step-nodes (tree.Literal number) h = node-at _ (open_term.Literal _)
  step-nodes (tree.Variable name) h = variable-nodes (variable_named visible name)
  step-nodes (tree.Unary o a) h = node-at _ (open_term.Unary o _) ∙ ap suc h
  step-nodes (tree.Binary o a b) h = node-at _ (open_term.Binary o _ _) ∙
      ap₂ (λ m n. suc (m + n)) (beside-nodes o (typed visible b).ty (typed visible a) ∙ h.0)
      (beside-nodes o (typed visible a).ty (typed visible b) ∙ h.1)
  step-nodes (tree.Index a b) h = node-at _ (open_term.Index _ _) ∙ ap₂ (λ m n. suc (m + n)) h.0 h.1
  step-nodes (tree.Member a name) h = node-at _ (open_term.Member _ _) ∙ ap suc h
  step-nodes (tree.Arrow a name) h = node-at _ (open_term.Arrow _ _) ∙ ap suc h
  step-nodes (tree.Deref a) h = node-at _ (open_term.Deref _) ∙ ap suc h
  step-nodes (tree.Address a) h = node-at _ (open_term.Address _) ∙ ap suc h
  step-nodes (tree.SizeOf of) h = node-at _ (open_term.SizeOf _)

  pub typed-nodes : (e : ExprTree) → core.expr_nodes (typed visible e) ≡ expr_nodes e
  typed-nodes = expr_induction AsTree
      (λ t h. ap core.expr_nodes (layers.expr_at _ t) ∙ (step-nodes t h ∙ sym (layers.expr_at _ t)))

  module _ (callees : Callees) where
    call-nodes : (call : CallTree) → core.call_nodes (typed_call visible callees call) ≡ call_nodes call
    call-nodes call = going-all _ _ ∙ total-same core.expr_nodes (typed visible) expr_nodes typed-nodes _

    value-nodes : (place value : ExprTree) → core.expr_nodes (going_to (typed visible place).ty (typed visible value)) ≡
        expr_nodes value
    value-nodes place value = going (typed visible place).ty (typed visible value) ∙ typed-nodes value

    count-nodes : (count : Option ExprTree) → core.count_nodes (typed_count visible callees count) ≡ option_nodes count
    count-nodes None = refl
    count-nodes (Some e) = typed-nodes e

    freed-nodes : (pointer : ExprTree) → core.expr_nodes (typed_freed visible callees pointer) ≡ expr_nodes pointer
    freed-nodes pointer = going int_pointer (typed visible pointer) ∙ typed-nodes pointer

    simple-nodes : (s : SimpleKind) → core.simple_nodes (typed_simple_kind visible callees s) ≡ simple_nodes s
    simple-nodes (simple_tree.Assign place value) = ap₂ (λ a b. suc (a + b)) (typed-nodes place)
        (value-nodes place value)
    simple-nodes (simple_tree.AssignCall place call) = ap₂ (λ a b. suc (a + b)) (typed-nodes place) (call-nodes call)
    simple-nodes (simple_tree.Call call) = ap suc (call-nodes call)
    simple-nodes (simple_tree.Malloc place count of) = ap₂ (λ a b. suc (a + b)) (typed-nodes place) (count-nodes count)
    simple-nodes (simple_tree.Free pointer) = ap suc (freed-nodes pointer)

    part-nodes : (part : Option SimpleTree) → core.part_nodes (option_map (typed_simple visible callees) part) ≡
        part_nodes part
    part-nodes None = refl
    part-nodes (Some s) = simple-nodes s.kind

-- The nodes of a typed statement, by the layer of its kind.

stmt-node-at : (line : ℕ) (k : TypedStmtKind-F TypedStmtKind TypedStmt) →
    core.stmt_nodes (core_layers.on_line line k) ≡ core_layers.layer_of ℕ ℕ core.kind_nodes (λ s. s.kind) k
stmt-node-at line k = core_layers.stmt_at ℕ ℕ core.kind_nodes (λ s. s.kind) line k

module _ (visible : Visible) (callees : Callees) (result : Option Ty) where
  abbrev StmtAsTree : StmtTree → Type 0
  StmtAsTree s = core.stmt_nodes (typed_stmt visible callees result s) ≡ stmt_nodes s

  each-nodes : (stmts : List StmtTree) → Each StmtAsTree stmts →
      total (map core.stmt_nodes (map (typed_stmt visible callees result) stmts)) ≡ total (map stmt_nodes stmts)
  each-nodes [] h = refl
  each-nodes (s ∷ stmts) h = ap₂ (λ a b. a + b) h.0 (each-nodes stmts h.1)

  abbrev typed_layer : StmtKind-F StmtKind StmtTree → TypedStmtKind
  typed_layer k = layers.layer_of TypedStmtKind TypedStmt (typed_kind_step visible callees result)
      (typed_stmt_step visible callees result) k

  layer-nodes : (line : ℕ) (k : StmtKind-F StmtKind StmtTree) → Inside StmtAsTree k →
      core.stmt_nodes (record { line = line; kind = typed_layer k }) ≡ layers.layer_of ℕ ℕ kind_step stmt_step k
  unfolding roll-TypedStmtKind denote.Hole.Carrier.roll
  layer-nodes line layer.Empty h = stmt-node-at line open_kind.Empty
  layer-nodes line (layer.Assign place value) h = stmt-node-at line (open_kind.Assign _ _)
      ∙ ap₂ (λ a b. suc (a + b)) (typed-nodes visible place) (value-nodes visible callees place value)
  layer-nodes line (layer.AssignCall place call) h = stmt-node-at line (open_kind.AssignCall _ _)
      ∙ ap₂ (λ a b. suc (a + b)) (typed-nodes visible place) (call-nodes visible callees call)
  layer-nodes line (layer.Call call) h = stmt-node-at line (open_kind.Call _) ∙ ap suc (call-nodes visible callees call)
  layer-nodes line (layer.Malloc place count of) h = stmt-node-at line (open_kind.Malloc _ _ _)
      ∙ ap₂ (λ a b. suc (a + b)) (typed-nodes visible place) (count-nodes visible callees count)
  layer-nodes line (layer.Free pointer) h =
      stmt-node-at line (open_kind.Free _) ∙ ap suc (freed-nodes visible callees pointer)
  layer-nodes line (layer.If c first second) h = stmt-node-at line (open_kind.If _ _ _)
      ∙ (λ i. suc (typed-nodes visible c i + each-nodes first h.0 i + each-nodes second h.1 i))
  layer-nodes line (layer.While c body) h = stmt-node-at line (open_kind.While _ _)
      ∙ (λ i. suc (typed-nodes visible c i + each-nodes body h i))
  layer-nodes line (layer.For first c next body) h = stmt-node-at line (open_kind.For _ _ _ _)
      ∙ (λ i. suc (part-nodes visible callees first i + typed-nodes visible c i + part-nodes visible callees next i +
      each-nodes body h i))
  layer-nodes line layer.Break h = stmt-node-at line open_kind.Break
  layer-nodes line layer.Continue h = stmt-node-at line open_kind.Continue
  layer-nodes line layer.Return h = stmt-node-at line open_kind.Return
  layer-nodes line (layer.ReturnValue value) h =
      stmt-node-at line (open_kind.ReturnValue _) ∙ ap suc (going-some result _ ∙ typed-nodes visible value)
  layer-nodes line (layer.ReturnCall call) h =
      stmt-node-at line (open_kind.ReturnCall _) ∙ ap suc (call-nodes visible callees call)

  pub stmt-nodes : (s : StmtTree) → core.stmt_nodes (typed_stmt visible callees result s) ≡ stmt_nodes s
  stmt-nodes =
      stmt_induction StmtAsTree (λ line k h. ap core.stmt_nodes (layers.stmt_at TypedStmtKind TypedStmt _ _ line k)
      ∙ (layer-nodes line k h ∙ sym (layers.stmt_at ℕ ℕ _ _ line k)))

-- Functions and sections.

module _ (section : SectionTree) where
  init-nodes : (tree : FunctionTree) (place : ℕ) (t : Ty) (init : Option ExprTree) →
      core.init_nodes (typed_init section tree place t init) ≡ option_nodes init
  init-nodes tree place t None = refl
  init-nodes tree place t (Some init) = going t _ ∙ typed-nodes (visible_in section tree (suc place)) init

  locals-nodes : (tree : FunctionTree) (place : ℕ) (locals : List LocalTree) →
      total (map core.local_nodes (typed_locals section tree place locals)) ≡ total (map local_nodes locals)
  unfolding typed_locals
  locals-nodes tree place [] = refl
  locals-nodes tree place (local ∷ locals) =
      ap₂ (λ a b. suc a + b) (init-nodes tree place _ local.init) (locals-nodes tree (suc place) locals)

  module _ (callees : Callees) where
    pub function-nodes : (tree : FunctionTree) → nodes (typed_function section callees tree) ≡ function_nodes tree
    function-nodes tree =
        ap₂ (λ a b. a + b) (ap₂ (λ a b. suc a + b) (length-map _ _) (locals-nodes tree 0 _))
        (total-same core.stmt_nodes _ stmt_nodes
        (stmt-nodes (visible_of section tree) callees (result_of section tree)) _)

    -- the nodes of a section's typed functions are those of its trees, whoever is called
    pub section-nodes : total (map nodes (typed_section section callees).functions) ≡ decls_nodes section.decls
    section-nodes = total-same nodes (typed_function section callees) function_nodes function-nodes _

-- Heights.

one_more : (n : ℕ) → suc n ≡ n + 1
one_more n = omega arith

-- the height doesn't depend on the type
type_aside : (t u : Ty) (k : TypedKind) → expr_height (record { ty = t; kind = k }) ≡
    expr_height (record { ty = u; kind = k })
type_aside t u k = fold-roll-TypedExpr ℕ ℕ _ _ _ ∙ sym (fold-roll-TypedExpr ℕ ℕ _ _ _)

going_by : (b : Bool) (t : Ty) (e : TypedExpr) → expr_height (if b then record { ty = t; kind = e.kind } else e) ≡
    expr_height e
going_by true t e = type_aside t e.ty e.kind
going_by false t e = refl

pub going_height : (place : Ty) (e : TypedExpr) → expr_height (going_to place e) ≡ expr_height e
going_height place e = going_by (is_pointer place && is_zero_literal e) _ e

beside_height : (o : BinaryOp) (other : Ty) (e : TypedExpr) → expr_height (beside o other e) ≡ expr_height e
beside_height tree_op.Equal other e = going_height other e
beside_height tree_op.NotEqual other e = going_height other e
beside_height o other e = refl

-- an expression of this layer
height_at : (t : Ty) (k : TypedKind-F TypedKind TypedExpr) →
    expr_height (core_layers.typed t k) ≡ core_layers.term_of ℕ ℕ term_height (λ e. e.kind) k
height_at t k = core_layers.expr_at ℕ ℕ _ _ t k

module _ (visible : Visible) where
  abbrev Same : ExprTree → Type 0
  Same e = expr_height (typed visible e) ≡ surface.expr_height e

  variable_height : (o : Option Found) → expr_height (variable_typed o) ≡ 1
  unfolding roll-TypedKind denote.Hole.Carrier.roll
  variable_height None = height_at _ (open_term.Variable _)
  variable_height (Some f) = height_at _ (open_term.Variable _)

  -- by the layer of the tree
  by_term : (t : ExprTree-F ExprTree) → Under Same t → expr_height (expr_typed visible
      (map-ExprTree _ _ (typed visible) t)) ≡ surface.expr_height_step (map-ExprTree _ _ surface.expr_height t)
  unfolding roll-TypedKind denote.Hole.Carrier.roll
  by_term (tree.Literal number) under = height_at _ (open_term.Literal _)
  by_term (tree.Variable name) under = variable_height (variable_named visible name)
  by_term (tree.Unary o e) under = height_at _ (open_term.Unary o _) ∙ ap suc under ∙ one_more _
  by_term (tree.Binary o a b) under = height_at _ (open_term.Binary o _ _)
      ∙ (λ i. suc (max ((beside_height o (typed visible b).ty (typed visible a) ∙ under.0) i)
      ((beside_height o (typed visible a).ty (typed visible b) ∙ under.1) i))) ∙ one_more _
  by_term (tree.Index a b) under =
      height_at _ (open_term.Index _ _) ∙ (λ i. suc (max (under.0 i) (under.1 i))) ∙ one_more _
  by_term (tree.Member e name) under = height_at _ (open_term.Member _ _) ∙ ap suc under ∙ one_more _
  by_term (tree.Arrow e name) under = height_at _ (open_term.Arrow _ _) ∙ ap suc under ∙ one_more _
  by_term (tree.Deref e) under = height_at _ (open_term.Deref _) ∙ ap suc under ∙ one_more _
  by_term (tree.Address e) under = height_at _ (open_term.Address _) ∙ ap suc under ∙ one_more _
  by_term (tree.SizeOf of) under = height_at _ (open_term.SizeOf _)

  pub typed_height : (e : ExprTree) → Same e
  typed_height = expr_induction Same
      (λ t under. ap expr_height (layers.expr_at _ t) ∙ by_term t under ∙ sym (layers.expr_at _ t))

  module _ (callees : Callees) where
    args_height : (types : List Ty) (args : List ExprTree) → highest (map expr_height
        (going_to_all types (map (typed visible) args))) ≡ surface.highest (map surface.expr_height args)
    args_height [] [] = refl
    args_height [] (e ∷ args) = λ i. max (typed_height e i) (args_height [] args i)
    args_height (t ∷ types) [] = refl
    args_height (t ∷ types) (e ∷ args) = λ i. max ((going_height t _ ∙ typed_height e) i) (args_height types args i)

    call_is : (call : CallTree) → call_height (typed_call visible callees call) ≡ surface.call_height call
    call_is call = args_height _ _

    value_is : (place value : ExprTree) → expr_height (typed_value visible callees place value) ≡
        surface.expr_height value
    value_is place value = going_height _ _ ∙ typed_height value

    count_is : (count : Option ExprTree) →
        count_height (typed_count visible callees count) ≡ surface.optional_height count
    count_is None = refl
    count_is (Some e) = typed_height e

    freed_is : (pointer : ExprTree) → expr_height (typed_freed visible callees pointer) ≡ surface.expr_height pointer
    freed_is pointer = going_height int_pointer (typed visible pointer) ∙ typed_height pointer

    simple_is : (s : SimpleKind) → simple_height (typed_simple_kind visible callees s) ≡ surface.simple_kind_height s
    simple_is (simple_tree.Assign place value) = λ i. max (typed_height place i) (value_is place value i)
    simple_is (simple_tree.AssignCall place call) = λ i. max (typed_height place i) (call_is call i)
    simple_is (simple_tree.Call call) = call_is call
    simple_is (simple_tree.Malloc place count of) = λ i. max (typed_height place i) (count_is count i)
    simple_is (simple_tree.Free pointer) = freed_is pointer

    part_is : (part : Option SimpleTree) → part_height (option_map (typed_simple visible callees) part) ≡
        surface.option_height part
    part_is None = refl
    part_is (Some s) = ap suc (simple_is s.kind) ∙ one_more _

    module _ (result : Option Ty) where
      some_height : (place : Option Ty) (e : TypedExpr) → expr_height (going_to_some place e) ≡ expr_height e
      some_height None e = refl
      some_height (Some t) e = going_height t e

      abbrev SameStmt : StmtTree → Type 0
      SameStmt s = stmt_height (typed_stmt visible callees result s) ≡ surface.stmt_height s

      all_heights : (stmts : List StmtTree) → Each SameStmt stmts → highest (map stmt_height
          (map (typed_stmt visible callees result) stmts)) ≡ surface.highest (map surface.stmt_height stmts)
      all_heights [] each = refl
      all_heights (s ∷ stmts) each = λ i. max (each.0 i) (all_heights stmts each.1 i)

      abbrev Layer : Type 0
      Layer = StmtKind-F StmtKind StmtTree

      abbrev typed_kind : Layer → TypedStmtKind
      typed_kind k = layers.layer_of TypedStmtKind TypedStmt (typed_kind_step visible callees result)
          (typed_stmt_step visible callees result) k

      abbrev height_of : Layer → ℕ
      height_of k = layers.layer_of ℕ ℕ surface.kind_height_step surface.stmt_height_step k

      -- a statement of this layer
      stmt_of : (line : ℕ) (k : TypedStmtKind-F TypedStmtKind TypedStmt) →
          stmt_height (core_layers.on_line line k) ≡ suc (core_layers.layer_of ℕ ℕ kind_height (λ s. suc s.kind) k)
      stmt_of line k = core_layers.stmt_at ℕ ℕ _ _ line k

      by_kind : (line : ℕ) (k : Layer) → Inside SameStmt k →
          stmt_height (record { line = line; kind = typed_kind k }) ≡ suc (height_of k)
      unfolding roll-TypedStmtKind denote.Hole.Carrier.roll
      by_kind line layer.Empty inside = stmt_of line open_kind.Empty
      by_kind line (layer.Assign place value) inside =
          stmt_of line (open_kind.Assign _ _) ∙ (λ i. suc (max (typed_height place i) (value_is place value i)))
      by_kind line (layer.AssignCall place call) inside =
          stmt_of line (open_kind.AssignCall _ _) ∙ (λ i. suc (max (typed_height place i) (call_is call i)))
      by_kind line (layer.Call call) inside = stmt_of line (open_kind.Call _) ∙ ap suc (call_is call)
      by_kind line (layer.Malloc place count of) inside =
          stmt_of line (open_kind.Malloc _ _ _) ∙ (λ i. suc (max (typed_height place i) (count_is count i)))
      by_kind line (layer.Free pointer) inside = stmt_of line (open_kind.Free _) ∙ ap suc (freed_is pointer)
      by_kind line (layer.If cond first second) inside = stmt_of line (open_kind.If _ _ _)
          ∙ (λ i. suc (max (typed_height cond i) (max (all_heights first inside.0 i) (all_heights second inside.1 i))))
      by_kind line (layer.While cond body) inside =
          stmt_of line (open_kind.While _ _) ∙ (λ i. suc (max (typed_height cond i) (all_heights body inside i)))
      by_kind line (layer.For first cond next body) inside =
          stmt_of line (open_kind.For _ _ _ _) ∙ (λ i. suc (max (max (part_is first i) (part_is next i))
          (max (typed_height cond i) (all_heights body inside i))))
      by_kind line layer.Break inside = stmt_of line open_kind.Break
      by_kind line layer.Continue inside = stmt_of line open_kind.Continue
      by_kind line layer.Return inside = stmt_of line open_kind.Return
      by_kind line (layer.ReturnValue value) inside =
          stmt_of line (open_kind.ReturnValue _) ∙ ap suc (some_height result _ ∙ typed_height value)
      by_kind line (layer.ReturnCall call) inside = stmt_of line (open_kind.ReturnCall _) ∙ ap suc (call_is call)

      pub stmt_is : (s : StmtTree) → SameStmt s
      stmt_is = stmt_induction SameStmt (λ line k inside. ap stmt_height (layers.stmt_at _ _ _ _ line k)
          ∙ by_kind line k inside ∙ one_more _ ∙ sym (layers.stmt_at _ _ _ _ line k))
