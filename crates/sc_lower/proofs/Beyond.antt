-- A function that fits names no local beyond the first 16777216.
use Rattle.sc_lower.proofs.Common.{Bool, Callable, Each, Global, Inside, List, Local, None, Option, Param, Scope, Some}
use Rattle.sc_lower.proofs.Common.{Ty, TypedCall, TypedExpr, TypedFunction, TypedKind, TypedKind-F, TypedLocal}
use Rattle.sc_lower.proofs.Common.{TypedSimple, TypedSimpleKind, TypedStmt, TypedStmtKind, TypedStmtKind-F, Under}
use Rattle.sc_lower.proofs.Common.{VarRef, [], address_fits, all_go_into, and_first, and_rest, ap, arith as numbers}
use Rattle.sc_lower.proofs.Common.{assign_call_fits, assign_fits, beyond, body_fits, call_beyond, call_fits}
use Rattle.sc_lower.proofs.Common.{count_beyond, count_fits, expr_at, expr_beyond, expr_induction, false, false≢true}
use Rattle.sc_lower.proofs.Common.{goes_into, if◌then◌else◌, init_beyond, init_fits, int_fits, is_address, is_int}
use Rattle.sc_lower.proofs.Common.{is_scalar, is_target, is_type, judged, kind_beyond, kind_fits, layer_of, length}
use Rattle.sc_lower.proofs.Common.{list_all, local_beyond, local_nodes, lt-ltb, malloc_fits, map, most_nodes}
use Rattle.sc_lower.proofs.Common.{option_map, part_beyond, part_fits, points, refl, returned_call_fits, signed}
use Rattle.sc_lower.proofs.Common.{simple_beyond, simple_fits, stmt_at, stmt_beyond, stmt_fits, stmt_induction, subst}
use Rattle.sc_lower.proofs.Common.{suc, target_signature, term_beyond, term_judged, term_of, total, true}
use Rattle.sc_lower.proofs.Common.{variable_beyond, variable_ty, ℕ, ◌+◌, ◌∙◌, ◌∷◌, ◌≡◌, ◌≤◌}
use Rattle.sc_core.specs.declared.expr.TypedKind.TheOpen as term
use Rattle.sc_core.specs.declared.stmt.TypedStmtKind.TheOpen as layer
use Rattle.sc_core.specs.declared.stmt.TypedSimpleKind.TheVariants as simple
use Rattle.sc_lower.proofs.Tests.{both_fit, malloc_count, malloc_place, points_fits, scalar_fits, typed_at, unary_fit}
use Rattle.sc_lower.proofs.Passing.{InitsFit, returned_value}

none_of_two : (a b : ℕ) → a ≡ 0 → b ≡ 0 → a + b ≡ 0
none_of_two a b h g = omega (numbers, h, g)

-- there are no more locals than nodes
pub locals_few : (locals : List TypedLocal) → length locals ≤ total (map local_nodes locals)
locals_few [] = omega numbers
locals_few (l ∷ ls) = by _ _ _ (locals_few ls) where
  by : (n a b : ℕ) → n ≤ b → suc n ≤ suc a + b
  by n a b h = omega (numbers, h)

module _ (scope : Scope) (few : length scope.locals ≤ most_nodes) where
  variable_near : (v : VarRef) (t : Ty) → is_type (variable_ty scope v) t ≡ true → variable_beyond v ≡ 0
  variable_near (Global g) t h = refl
  variable_near (Param p) t h = refl
  variable_near (Local l) t h = ap (λ b. if b then 0 else 1)
      (lt-ltb l most_nodes (omega (numbers, typed_at scope.locals l t h, few)))

  abbrev P : TypedExpr → Type 0
  P e = (judged scope e).fits ≡ true → expr_beyond e ≡ 0

  level : (t : Ty) (k : TypedKind-F TypedKind TypedExpr) → Under P k →
      (term_of _ _ (term_judged scope) (λ e. e.kind e.ty) k t).fits ≡ true →
      term_of _ _ term_beyond (λ e. e.kind) k ≡ 0
  level t (term.Literal word) h fits = refl
  level t (term.Variable v) h fits = variable_near v t fits
  level t (term.Unary o a) h fits = h (unary_fit o (judged scope a) t fits)
  level t (term.Binary o a b) h fits =
      let both = both_fit o (judged scope a) (judged scope b) t fits in
      none_of_two (expr_beyond a) (expr_beyond b) (h.0 both.0) (h.1 both.1)
  level t (term.Index a b) h fits =
      none_of_two (expr_beyond a) (expr_beyond b)
      (h.0 (address_fits (judged scope a) (and_first (is_address (judged scope a)) _ fits)))
      (h.1 (int_fits (judged scope b) (and_first (is_int (judged scope b)) _ (and_rest (is_address (judged scope a))
      _ fits))))
  level t (term.Member a offset) h fits = h (and_first (judged scope a).fits _ fits)
  level t (term.Arrow a offset) h fits =
      h (address_fits (judged scope a) (and_first (is_address (judged scope a)) _ fits))
  level t (term.Deref a) h fits = h (address_fits (judged scope a) (and_first (is_address (judged scope a)) _ fits))
  level t (term.Address a) h fits = h (and_first (judged scope a).fits _ fits)
  level t (term.SizeOf cells) h fits = refl

  pub expr_near : (e : TypedExpr) → P e
  expr_near = expr_induction P (λ t k h fits.
      expr_at _ _ term_beyond (λ e. e.kind) t k
      ∙ level t k h (subst (λ j. j.fits ≡ true) (expr_at _ _ (term_judged scope) (λ e. e.kind e.ty) t k) fits))

  module _ (callable : Callable) (result : Option Ty) where
    args_near : (types : List Ty) (es : List TypedExpr) → all_go_into types (map (judged scope) es) ≡ true →
        total (map expr_beyond es) ≡ 0
    args_near types [] h = refl
    args_near [] (e ∷ es) h = absurd (false≢true h)
    args_near (t ∷ types) (e ∷ es) h =
        none_of_two (expr_beyond e) (total (map expr_beyond es))
        (expr_near e (and_first (judged scope e).fits _ (and_first (goes_into t (judged scope e)) _ h)))
        (args_near types es (and_rest (goes_into t (judged scope e)) _ h))

    call_near : (c : TypedCall) → call_fits callable c.target (map (judged scope) c.args) ≡ true → call_beyond c ≡ 0
    call_near c h =
        let s = signed (target_signature callable c.target) (map (judged scope) c.args) h in
        args_near s.signature.params c.args s.fit

    target_near : (place : TypedExpr) → is_target (judged scope place) ≡ true → expr_beyond place ≡ 0
    target_near place h = expr_near place (and_first (judged scope place).fits _ h)

    assign_near : (place e : TypedExpr) → assign_fits (judged scope place) (judged scope e) ≡ true →
        expr_beyond place + expr_beyond e ≡ 0
    assign_near place e h =
        none_of_two (expr_beyond place) (expr_beyond e)
        (target_near place (and_first (is_target (judged scope place)) _ h))
        (expr_near e (and_first (judged scope e).fits _ (and_rest (is_target (judged scope place)) _ h)))

    assign_call_near : (place : TypedExpr) (c : TypedCall) →
        assign_call_fits callable (judged scope place) c.target (map (judged scope) c.args) ≡ true →
        expr_beyond place + call_beyond c ≡ 0
    assign_call_near place c h =
        none_of_two (expr_beyond place) (call_beyond c)
        (target_near place (and_first (is_target (judged scope place)) _ h))
        (call_near c (and_first (call_fits callable c.target (map (judged scope) c.args))
        _ (and_rest (is_target (judged scope place)) _ h)))

    return_call_near : (r : Option Ty) (c : TypedCall) →
        returned_call_fits callable r c.target (map (judged scope) c.args) ≡ true → call_beyond c ≡ 0
    return_call_near None c h = absurd (false≢true h)
    return_call_near (Some t) c h =
        call_near c (and_first (call_fits callable c.target (map (judged scope) c.args)) _ h)

    count_near : (count : Option TypedExpr) → count_fits (option_map (judged scope) count) ≡ true →
        count_beyond count ≡ 0
    count_near None h = refl
    count_near (Some e) h = expr_near e (int_fits (judged scope e) h)

    malloc_near : (place : TypedExpr) (count : Option TypedExpr) (cells : ℕ) →
        malloc_fits scope.structs (judged scope place) (option_map (judged scope) count) cells ≡ true →
        expr_beyond place + count_beyond count ≡ 0
    malloc_near place count cells h =
        none_of_two (expr_beyond place) (count_beyond count)
        (target_near place (malloc_place scope.structs (judged scope place) (option_map (judged scope) count) cells h))
        (count_near count (malloc_count scope.structs (judged scope place) (option_map (judged scope) count) cells h))

    free_near : (e : TypedExpr) → points (judged scope e) ≡ true → expr_beyond e ≡ 0
    free_near e h = expr_near e (points_fits (judged scope e) h)

    simple_near : (k : TypedSimpleKind) → simple_fits scope callable result k ≡ true → simple_beyond k ≡ 0
    simple_near (simple.Assign place e) h = assign_near place e h
    simple_near (simple.AssignCall place c) h = assign_call_near place c h
    simple_near (simple.Call c) h = call_near c h
    simple_near (simple.Malloc place count cells) h = malloc_near place count cells h
    simple_near (simple.Free e) h = free_near e h

    part_near : (part : Option TypedSimple) → part_fits scope callable result part ≡ true → part_beyond part ≡ 0
    part_near None h = refl
    part_near (Some s) h = simple_near s.kind h

    cond_near : (cond : TypedExpr) → is_scalar (judged scope cond) ≡ true → expr_beyond cond ≡ 0
    cond_near cond h = expr_near cond (scalar_fits (judged scope cond) h)

    abbrev Q : TypedStmt → Type 0
    Q stmt = (looping : Bool) → stmt_fits scope callable result stmt looping ≡ true → stmt_beyond stmt ≡ 0

    abbrev AllFit : List TypedStmt → Bool → Bool
    AllFit block looping =
        list_all {X = Bool → Bool} (λ s. s looping) (map (stmt_fits scope callable result) block)

    block_near : (block : List TypedStmt) (looping : Bool) → AllFit block looping ≡ true → Each Q block →
        total (map stmt_beyond block) ≡ 0
    block_near [] looping h every = refl
    block_near (stmt ∷ rest) looping h every =
        none_of_two (stmt_beyond stmt) (total (map stmt_beyond rest))
        (every.0 looping (and_first (stmt_fits scope callable result stmt looping) _ h))
        (block_near rest looping (and_rest (stmt_fits scope callable result stmt looping) _ h) every.1)

    level_near : (line : ℕ) (k : TypedStmtKind-F TypedStmtKind TypedStmt) → Inside Q k → (looping : Bool) →
        layer_of _ _ (kind_fits scope callable result) (λ s. s.kind) k looping ≡ true →
        layer_of _ _ kind_beyond (λ s. s.kind) k ≡ 0
    level_near line layer.Empty h looping fits = refl
    level_near line (layer.Assign place e) h looping fits = assign_near place e fits
    level_near line (layer.AssignCall place c) h looping fits = assign_call_near place c fits
    level_near line (layer.Call c) h looping fits = call_near c fits
    level_near line (layer.Malloc place count cells) h looping fits = malloc_near place count cells fits
    level_near line (layer.Free e) h looping fits = free_near e fits
    level_near line (layer.If cond x y) h looping fits =
        let inner = and_rest (is_scalar (judged scope cond)) _ fits in
        by _ _ _ (cond_near cond (and_first (is_scalar (judged scope cond)) _ fits))
        (block_near x looping (and_first (AllFit x looping) _ inner) h.0)
        (block_near y looping (and_rest (AllFit x looping) _ inner) h.1) where
          by : (a b c : ℕ) → a ≡ 0 → b ≡ 0 → c ≡ 0 → a + b + c ≡ 0
          by a b c u v w = omega (numbers, u, v, w)
    level_near line (layer.While cond x) h looping fits =
        none_of_two (expr_beyond cond) (total (map stmt_beyond x))
        (cond_near cond (and_first (is_scalar (judged scope cond)) _ fits))
        (block_near x true (and_rest (is_scalar (judged scope cond)) _ fits) h)
    level_near line (layer.For first cond next x) h looping fits =
        let following = and_rest (part_fits scope callable result first) _ fits in
        let last = and_rest (is_scalar (judged scope cond)) _ following in
        by _ _ _ _ (part_near first (and_first (part_fits scope callable result first) _ fits))
        (cond_near cond (and_first (is_scalar (judged scope cond)) _ following))
        (part_near next (and_first (part_fits scope callable result next) _ last))
        (block_near x true (and_rest (part_fits scope callable result next) _ last) h) where
          by : (a b c d : ℕ) → a ≡ 0 → b ≡ 0 → c ≡ 0 → d ≡ 0 → a + b + c + d ≡ 0
          by a b c d u v w z = omega (numbers, u, v, w, z)
    level_near line layer.Break h looping fits = refl
    level_near line layer.Continue h looping fits = refl
    level_near line layer.Return h looping fits = refl
    level_near line (layer.ReturnValue e) h looping fits =
        expr_near e (returned_value result (judged scope e) fits)
    level_near line (layer.ReturnCall c) h looping fits = return_call_near result c fits

    stmt_near : (stmt : TypedStmt) → Q stmt
    stmt_near = stmt_induction Q (λ line k h looping fits.
        stmt_at _ _ kind_beyond (λ s. s.kind) line k
        ∙ level_near line k h looping (subst (λ x. x looping ≡ true)
        (stmt_at _ _ (kind_fits scope callable result) (λ s. s.kind) line k) fits))

    body_near : (block : List TypedStmt) → body_fits scope callable result block ≡ true →
        total (map stmt_beyond block) ≡ 0
    body_near [] h = refl
    body_near (stmt ∷ rest) h =
        none_of_two (stmt_beyond stmt) (total (map stmt_beyond rest))
        (stmt_near stmt false (and_first (stmt_fits scope callable result stmt false) _ h))
        (body_near rest (and_rest (stmt_fits scope callable result stmt false) _ h))

    init_near : (t : Ty) (init : Option TypedExpr) → init_fits scope t init ≡ true → init_beyond init ≡ 0
    init_near t None h = refl
    init_near t (Some e) h = expr_near e (and_first (judged scope e).fits _ h)

    inits_near : (k : ℕ) (locals : List TypedLocal) → InitsFit scope k locals → total (map local_beyond locals) ≡ 0
    inits_near k [] h = refl
    inits_near k (l ∷ ls) h =
        none_of_two (local_beyond l) (total (map local_beyond ls)) (init_near l.ty l.init h.1)
        (inits_near (suc k) ls h.2)

    -- all of a function
    pub function_near : (f : TypedFunction) → InitsFit scope 0 f.locals →
        body_fits scope callable result f.body ≡ true →
        beyond f ≡ 0
    function_near f inits fits =
        none_of_two (total (map local_beyond f.locals)) (total (map stmt_beyond f.body)) (inits_near 0 f.locals inits)
        (body_near f.body fits)
