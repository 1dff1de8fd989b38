-- What a section is lowered to doesn't depend on where its parts stand.
use Rattle.sc_lower.proofs.Common.{Each, Inside, Interfaces, List, None, Option, Parts, Some, TypedExpr, TypedFunction}
use Rattle.sc_lower.proofs.Common.{TypedLocal, TypedSimple, TypedStmt, TypedStmtKind, TypedStmtKind-F}
use Rattle.sc_lower.proofs.Common.{TypedStruct, [], ap, body_code, both, cells_of, cycle, entry_of, expr_nodes, forms}
use Rattle.sc_lower.proofs.Common.{in_turn, init_code, inits_code, is_some, kind_nodes, kind_step, layer_of, length}
use Rattle.sc_lower.proofs.Common.{local_nodes, lowered_function, map, nodes, part_code, part_nodes, refl, stmt_at}
use Rattle.sc_lower.proofs.Common.{stmt_induction, suc, sym, test, total, variables, ℕ, ◌++◌, ◌+◌, ◌∙◌, ◌∷◌, ◌≡◌}
use Rattle.sc_lower.specs.Prelude.{CodeHasNoLines}
use Rattle.std.proofs.Common.{ap₂}
use Rattle.std.specs.Option.{option_map}
use Rattle.sc_core.proofs.Induction.{everywhere}
use Rattle.sc_core.specs.declared.stmt.TypedStmt.{TypedStmt-F, fold-TypedStmt}
use Rattle.sc_core.specs.declared.stmt.TypedStmtKind.{fold-TypedStmtKind, map-TypedStmtKind, roll-TypedStmtKind}
use Rattle.sc_core.specs.declared.stmt.TypedStmtKind.TheOpen as layer
use Rattle.sc_core_laws.specs.Lines.{function_lined, layer_lined, local_lined, simple_lined, stmt_lined}

module _ (line_of : ℕ → ℕ) where
  -- STATEMENTS
  abbrev at_other_line : TypedStmt-F TypedStmtKind TypedStmt → TypedStmt
  at_other_line s = record { line = line_of s.line; kind = s.kind }

  -- a layer whose statements stand on other lines
  abbrev inner_lined : TypedStmtKind-F TypedStmtKind TypedStmt → TypedStmtKind-F TypedStmtKind TypedStmt
  inner_lined k =
      layer_lined line_of (map-TypedStmtKind _ _ _ _ (fold-TypedStmtKind TypedStmtKind TypedStmt
      (λ inside. roll-TypedStmtKind (layer_lined line_of inside)) at_other_line) (stmt_lined line_of) k)

  abbrev part_lined : Option TypedSimple → Option TypedSimple
  part_lined part = option_map (simple_lined line_of) part

  -- what is made of statements, layer by layer, from those inside, where nothing is made of the lines of parts
  module _ (A : Type 0) (step : TypedStmtKind-F A A → A) (heads : (first next : Option TypedSimple) (cond : TypedExpr)
      (body : List A) →
      step (layer.For (part_lined first) cond (part_lined next) body) ≡ step (layer.For first cond next body)) where
    abbrev made : TypedStmt → A
    made = fold-TypedStmt A A step (λ s. s.kind)

    abbrev made_of : TypedStmtKind-F TypedStmtKind TypedStmt → A
    made_of = layer_of A A step (λ s. s.kind)

    abbrev Same : TypedStmt → Type 0
    Same stmt = made (stmt_lined line_of stmt) ≡ made stmt

    same_all : (block : List TypedStmt) → Each Same block → map made (map (stmt_lined line_of) block) ≡ map made block
    same_all [] h = refl
    same_all (stmt ∷ rest) h = ap₂ (λ x xs. x ∷ xs) h.0 (same_all rest h.1)

    same_layer : (k : TypedStmtKind-F TypedStmtKind TypedStmt) → Inside Same k → made_of (inner_lined k) ≡ made_of k
    same_layer (layer.If cond first second) h =
        ap₂ (λ x y. step (layer.If cond x y)) (same_all first h.0) (same_all second h.1)
    same_layer (layer.While cond body) h = ap (λ x. step (layer.While cond x)) (same_all body h)
    same_layer (layer.For first cond next body) h =
        heads first next cond (map made (map (stmt_lined line_of) body))
        ∙ ap (λ x. step (layer.For first cond next x)) (same_all body h)
    same_layer _ h = refl

    same_made : (stmt : TypedStmt) → Same stmt
    same_made = stmt_induction Same (λ line k h.
        ap made (stmt_at TypedStmtKind TypedStmt _ at_other_line line k)
        ∙ stmt_at A A step (λ s. s.kind) (line_of line) (inner_lined k) ∙ same_layer k h
        ∙ sym (stmt_at A A step (λ s. s.kind) line k))

    same_block : (block : List TypedStmt) → map made (map (stmt_lined line_of) block) ≡ map made block
    same_block block = same_all block (everywhere Same same_made block)

  -- NODES AND VARIABLES
  same_part_nodes : (part : Option TypedSimple) → part_nodes (part_lined part) ≡ part_nodes part
  same_part_nodes None = refl
  same_part_nodes (Some s) = refl

  same_head_nodes : (first next : Option TypedSimple) (cond : TypedExpr) (body : List ℕ) →
      kind_nodes (layer.For (part_lined first) cond (part_lined next) body) ≡
      kind_nodes (layer.For first cond next body)
  same_head_nodes first next cond body = ap₂ (λ m n. suc (m + expr_nodes cond + n + total body)) (same_part_nodes first)
      (same_part_nodes next)

  same_local_nodes : (locals : List TypedLocal) →
      map local_nodes (map (local_lined line_of) locals) ≡ map local_nodes locals
  same_local_nodes [] = refl
  same_local_nodes (local ∷ rest) = ap (λ ns. local_nodes local ∷ ns) (same_local_nodes rest)

  same_nodes : (f : TypedFunction) → nodes (function_lined line_of f) ≡ nodes f
  same_nodes f = ap₂ (λ m n. suc (length f.params) + total m + total n) (same_local_nodes f.locals)
      (same_block ℕ kind_nodes same_head_nodes f.body)

  same_cells : (structs : List TypedStruct) (locals : List TypedLocal) →
      map {A = TypedLocal} (λ l. cells_of structs l.ty) (map (local_lined line_of) locals) ≡
      map {A = TypedLocal} (λ l. cells_of structs l.ty) locals
  same_cells structs [] = refl
  same_cells structs (local ∷ rest) = ap (λ ns. cells_of structs local.ty ∷ ns) (same_cells structs rest)

  same_variables : (structs : List TypedStruct) (f : TypedFunction) →
      variables structs (function_lined line_of f) ≡ variables structs f
  same_variables structs f = ap (λ ns. map (λ p. cells_of structs p.ty) f.params ++ ns) (same_cells structs f.locals)

  -- CODE
  module _ (structs : List TypedStruct) (params : ℕ) where
    same_part_code : (part : Option TypedSimple) →
        part_code structs params (part_lined part) ≡ part_code structs params part
    same_part_code None = refl
    same_part_code (Some s) = refl

    same_head_code : (first next : Option TypedSimple) (cond : TypedExpr) (body : List Parts) →
        kind_step structs params (layer.For (part_lined first) cond (part_lined next) body) ≡
        kind_step structs params (layer.For first cond next body)
    same_head_code first next cond body =
        ap₂ (λ x y. both x (cycle (test (forms structs params cond)) (in_turn body) y)) (same_part_code first)
        (same_part_code next)

    same_init : (k : ℕ) (local : TypedLocal) (init : Option TypedExpr) →
        init_code structs params k (local_lined line_of local) init ≡ init_code structs params k local init
    same_init k local None = refl
    same_init k local (Some e) = refl

    same_inits : (k : ℕ) (locals : List TypedLocal) →
        inits_code structs params k (map (local_lined line_of) locals) ≡ inits_code structs params k locals
    same_inits k [] = refl
    same_inits k (local ∷ rest) = ap₂ (λ x xs. x ∷ xs) (same_init k local local.init) (same_inits (suc k) rest)

  same_body : (structs : List TypedStruct) (f : TypedFunction) →
      body_code structs (function_lined line_of f) ≡ body_code structs f
  same_body structs f =
      let params : ℕ = length f.params in
      ap₂ (λ inits block. both (in_turn inits) (in_turn block)) (same_inits structs params 0 f.locals)
      (same_block Parts (kind_step structs params) (same_head_code structs params) f.body)

  module _ (interfaces : Interfaces) (comp : ℕ) where
    same_function : (structs : List TypedStruct) (f : TypedFunction) →
        lowered_function interfaces comp structs (function_lined line_of f) ≡
        lowered_function interfaces comp structs f
    same_function structs f = λ i. record {
      comp = comp;
      name = f.name;
      entry = entry_of interfaces comp f.name;
      params = length f.params;
      result = is_some f.result;
      temps = (same_body structs f i 0).next;
      objects = same_variables structs f i;
      nodes = same_nodes f i;
      body = (same_body structs f i 0).code;
    }

    same_functions : (structs : List TypedStruct) (fs : List TypedFunction) →
        map (lowered_function interfaces comp structs) (map (function_lined line_of) fs) ≡
        map (lowered_function interfaces comp structs) fs
    same_functions structs [] = refl
    same_functions structs (f ∷ fs) = ap₂ (λ x xs. x ∷ xs) (same_function structs f) (same_functions structs fs)

pub code_has_no_lines : CodeHasNoLines
code_has_no_lines line_of interfaces comp section = λ i. record {
  structs = section.structs;
  globals = section.globals;
  functions = same_functions line_of interfaces comp section.structs section.functions i;
}
