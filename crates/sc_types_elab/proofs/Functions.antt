-- What stands for a function while it is built gives its typed form.
use Rattle.sc_types_elab.proofs.Common.{ExprTree, FunctionScope, FunctionTree, List, LocalTree, None, Option}
use Rattle.sc_types_elab.proofs.Common.{SectionScope, SectionTree, Some, Stands, StandsIn, Ty, TypedLocal, [], add-one}
use Rattle.sc_types_elab.proofs.Common.{ap, called, drop, drop-step, get_or, going_to, length, local_in, local_variable}
use Rattle.sc_types_elab.proofs.Common.{map, map-append, refl, stmt_in, subst, suc, tags, take, take-step, type_of}
use Rattle.sc_types_elab.proofs.Common.{type_of_name, typed, typed_function, typed_init, typed_local, typed_locals}
use Rattle.sc_types_elab.proofs.Common.{typed_param, typed_stmt, value_in, visible, visible_in, ℕ, ◌++◌, ◌+◌, ◌<◌, ◌∙◌}
use Rattle.sc_types_elab.proofs.Common.{◌∷◌, ◌≡◌}
use Rattle.std.specs.Option.{option_map}
use Rattle.sc_core.specs.declared.section.TypedFunction.{TypedFunction}
use Rattle.sc_types_elab_stmt.proofs.Loops.{one_more, all_done}

module _ (scope : SectionScope) (section : SectionTree) (stands : Stands scope section) (tree : FunctionTree) where
  pub seen : (count : ℕ) (function : FunctionScope) → StandsIn section tree count function →
      visible scope function ≡ visible_in section tree count
  seen count function within = λ j. record {
    tags = stands.tags j;
    structs = stands.structs j;
    globals = stands.globals j;
    params = within.params j;
    locals = within.locals j;
  }

  init_kept : (place : ℕ) (function : FunctionScope) → StandsIn section tree (suc place) function → (t : Ty)
      (init : Option ExprTree) → option_map (value_in scope function t) init ≡ typed_init section tree place t init
  unfolding value_in
  init_kept place function within t None = refl
  init_kept place function within t (Some init) = ap (λ v. Some (going_to t (typed v init))) (seen _ _ within)

  pub local_kept : (place : ℕ) (function : FunctionScope) → StandsIn section tree (suc place) function →
      (local : LocalTree) → local_in scope function local ≡ typed_local section tree place local
  local_kept place function within local =
      cc (stands.tags, init_kept place function within (type_of (tags section) local.ty) local.init)

  pub head_kept : (function : FunctionScope) → function ≡ record {
    params = map (typed_param scope.tags) tree.head.params;
    locals = [];
    result = option_map (type_of_name scope.tags) tree.head.result;
  } → StandsIn section tree 0 function
  head_kept function e = record {
    params = cc (stands.tags);
    locals = cc;
    result = cc (stands.tags);
  }

  -- one more local stands there
  pub more_stands : (i : ℕ) (local : LocalTree) (function more : FunctionScope) →
      i < length tree.locals → local ≡ get_or tree.locals i local → StandsIn section tree i function → more ≡ record {
        params = function.params;
        locals = function.locals ++ local_variable scope.tags local ∷ [];
        result = function.result;
      } → StandsIn section tree (i + 1) more
  more_stands i local function more h e within m = record {
    params = cc (within.params);
    locals = cc (
      within.locals,
      stands.tags,
      take-step tree.locals i local h e,
      map-append (local_variable (tags section)) (take i tree.locals) (local ∷ []),
    );
    result = cc (within.result);
  }

  locals-nil : (place : ℕ) → typed_locals section tree place [] ≡ []
  unfolding typed_locals
  locals-nil place = refl

  locals-cons : (place : ℕ) (local : LocalTree) (locals : List LocalTree) → typed_locals section tree place
      (local ∷ locals) ≡ typed_local section tree place local ∷ typed_locals section tree (suc place) locals
  unfolding typed_locals
  locals-cons place local locals = refl

  -- one more local is built
  pub more_built : (i : ℕ) (local : LocalTree) (function : FunctionScope) (done more whole : List TypedLocal)
      (built : TypedLocal) → i < length tree.locals → local ≡ get_or tree.locals i local →
      StandsIn section tree (i + 1) function → built ≡ local_in scope function local → more ≡ done ++ built ∷ [] →
      done ++ typed_locals section tree i (drop i tree.locals) ≡ whole →
      more ++ typed_locals section tree (i + 1) (drop (i + 1) tree.locals) ≡ whole
  more_built i local function done more whole built h e within b m k = one_more done more (typed_locals section tree i
      (drop i tree.locals)) (typed_locals section tree (i + 1) (drop (i + 1) tree.locals)) whole built m step k where
        at : StandsIn section tree (suc i) function
        at = subst (λ n. StandsIn section tree n function) (add-one i) within

        step : typed_locals section tree i (drop i tree.locals) ≡ built ∷
            typed_locals section tree (i + 1) (drop (i + 1) tree.locals)
        step = cc (
          drop-step tree.locals i local h e,
          locals-cons i local (drop (i + 1) tree.locals),
          local_kept i function at local,
          add-one i,
        )

  -- all are built
  pub all_built : (i : ℕ) (done whole : List TypedLocal) → drop i tree.locals ≡ [] →
      done ++ typed_locals section tree i (drop i tree.locals) ≡ whole → done ≡ whole
  all_built i done whole h k = all_done done _ whole (ap (typed_locals section tree i) h ∙ locals-nil i) k

  -- the function over its locals and its body
  pub function_kept : (function : FunctionScope) → StandsIn section tree (length tree.locals) function →
      (built : TypedFunction) → built ≡ record {
        name = tree.head.name;
        params = function.params;
        locals = typed_locals section tree 0 tree.locals;
        result = function.result;
        body = map (stmt_in scope function) tree.body;
        close_line = tree.close_line;
      } →
      built ≡ typed_function section (called scope.callees) tree
  unfolding stmt_in
  function_kept function within built e = e ∙ (λ j. record {
    name = tree.head.name;
    params = within.params j;
    locals = typed_locals section tree 0 tree.locals;
    result = within.result j;
    body = map (typed_stmt (seen _ _ within j) (called scope.callees) (within.result j)) tree.body;
    close_line = tree.close_line;
  })
