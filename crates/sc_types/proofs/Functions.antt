-- Functions, globals and structs of a section that breaks no rule are well typed.
use Rattle.sc_types.proofs.Common.{BaseTree, BaseTy, Callable, Callees, Decl, ExprTree, FunctionParam, FunctionTree}
use Rattle.sc_types.proofs.Common.{Global, List, LocalTree, None, Option, ParamTree, SectionTree, Some, StmtTree}
use Rattle.sc_types.proofs.Common.{Struct, StructTree, Ty, TypeName, TypeTree, TypedParam, TypedStmt, [], and_first}
use Rattle.sc_types.proofs.Common.{and_from, and_rest, ap, append-nil, append_assoc, arith, base_known, body_fits}
use Rattle.sc_types.proofs.Common.{concat, decl_type_lines, false, filter_map-append, function_fits, function_decls}
use Rattle.sc_types.proofs.Common.{global_fits, global_names, globals_in, head_of, heads_in, init_height, init_holds}
use Rattle.sc_types.proofs.Common.{init_words, is_array, is_callable, is_sized, is_small, known_in, length, length-map}
use Rattle.sc_types.proofs.Common.{list_all, local_fits, local_holds, typed_locals_from, map, map-append, map_twice}
use Rattle.sc_types.proofs.Common.{max}
use Rattle.sc_types.proofs.Common.{most_cells, most_height, most_params, nat_le, nat_tests, not, option_map}
use Rattle.sc_types.proofs.Common.{param_names, param_of, passed_fits, refl, result_fits, result_known, result_of}
use Rattle.sc_types.proofs.Common.{scope_in, scope_of, slice_get, starred, stmt_height, stmt_type_lines, struct_cells}
use Rattle.sc_types.proofs.Common.{struct_lines, struct_names, structs, structs_from, structs_in, subst, suc, sym, tags}
use Rattle.sc_types.proofs.Common.{target_signature, true, type_of, type_of_name, type_within, typed_function}
use Rattle.sc_types.proofs.Common.{typed_global, typed_init, typed_local, typed_locals, typed_param, typed_section}
use Rattle.sc_types.proofs.Common.{typed_stmt, unless, variable_fits, visible_in, visible_of, word_of_const, words_fit}
use Rattle.sc_types.proofs.Common.{zero, ℕ, ◌&&◌, ◌++◌, ◌+◌, ◌<◌, ◌∙◌, ◌∷◌, ◌≡◌}
use Rattle.sc_types_elab.specs.Prelude.{function_type_lines}
use Rattle.sc_ast.specs.declared.section.GlobalTree.{GlobalTree}
use Rattle.sc_ast.specs.declared.types.BaseTree.TheVariants as base_tree
use Rattle.sc_ast.specs.declared.section.InitTree.{InitTree}
use Rattle.sc_ast.specs.declared.section.InitTree.TheVariants.{Absent, One, Many}
use Rattle.sc_ast.specs.Height as surface
use Rattle.sc_core.specs.declared.ty.Ty.TheVariants as ty
use Rattle.sc_core.specs.declared.ty.BaseTy.TheVariants as base
use Rattle.sc_core.specs.declared.section.TypedLocal.{TypedLocal}
use Rattle.sc_types_scope.specs.Names as names
use Rattle.sc_types.specs.Counts as counts
use Rattle.sc_types.proofs.Lookups.{rule_holds, prefix_empty, back_empty, no_lines, Text, at_most, numbered_prefix}
use Rattle.sc_types.proofs.Structs.{Known, AllKnown, AllSmall, structs_length, type_is_within, name_is_within, is_less}
use Rattle.sc_types.proofs.Bodies.{fits}
use Rattle.sc_types.proofs.TypedNodes as heights

low_left : (a b n : ℕ) → nat_le (max a b) n ≡ true → nat_le a n ≡ true
low_left a b n h = grind (arith, nat_tests)

low_right : (a b n : ℕ) → nat_le (max a b) n ≡ true → nat_le b n ≡ true
low_right a b n h = grind (arith, nat_tests)

-- Tags.

pub struct_names_append : (before decls : List Decl) →
    struct_names (before ++ decls) ≡ struct_names before ++ struct_names decls
struct_names_append before decls = ap (map _) (filter_map-append _ before decls) ∙ map-append _ _ _

known_prefix : (some more : List Text) (b : BaseTree) → base_known some b ≡ true → base_known (some ++ more) b ≡ true
known_prefix some more (base_tree.Struct tag) h = numbered_prefix some more tag h
known_prefix some more _ h = refl

module _ (section : SectionTree) where
  -- what is known among the first declarations is known in the section
  known_whole : (before decls : List Decl) → before ++ decls ≡ section.decls → (b : BaseTree) →
      base_known (struct_names before) b ≡ true → base_known (tags section) b ≡ true
  known_whole before decls whole b h = subst (λ names. base_known names b ≡ true)
      (sym (struct_names_append before decls) ∙ ap struct_names whole) (known_prefix _ (struct_names decls) b h)

  count_is : length (structs section) ≡ length (tags section)
  count_is = structs_length _

  abbrev Within : Ty → Type 0
  Within t = type_within (length (tags section)) (length (tags section)) t ≡ true

  within_is : (t : Ty) → Within t → is_small section t ≡ true → variable_fits (structs section) t ≡ true
  within_is t h small = and_from _ _ (subst (λ n. type_within n n t ≡ true) (sym count_is) h) small

  pub tree_fits : (t : TypeTree) → is_sized t ≡ true → base_known (tags section) t.base ≡ true → is_small section
      (type_of (tags section) t) ≡ true → variable_fits (structs section) (type_of (tags section) t) ≡ true
  tree_fits t sized known small = within_is _ (subst (λ all. type_within (length (tags section))
      (length (tags section)) (type_of all t) ≡ true) (append-nil _) (type_is_within _ [] t sized known)) small

  -- Structs are small.

  pub small_from : (k : ℕ) (trees : List StructTree) → structs_from section k trees ≡ [] →
      AllSmall (structs section) k trees
  small_from k [] h = tt
  small_from k (tree ∷ trees) h = (
    rule_holds _ tree.line (prefix_empty _ _ h),
    small_from (suc k) trees (back_empty (unless (is_small section (ty.Struct k)) tree.line) _ h),
  )

  small_at : (k : ℕ) (trees : List StructTree) (n : ℕ) → AllSmall (structs section) k trees → n < length trees →
      nat_le (struct_cells (slice_get (structs section) (k + n))) most_cells ≡ true
  small_at k [] n h less = absurd (omega (arith, less))
  small_at k (tree ∷ trees) zero h less = ap (λ m. nat_le (struct_cells (slice_get (structs section) m)) most_cells)
      (omega arith) ∙ h.0
  small_at k (tree ∷ trees) (suc n) h less = ap (λ m. nat_le (struct_cells (slice_get (structs section) m)) most_cells)
      (omega arith) ∙ small_at (suc k) trees n h.1 (omega (arith, less))

  module _ (small : AllSmall (structs section) 0 (structs_in section.decls)) where
    small_struct : (n : ℕ) → n < length (tags section) → is_small section (ty.Struct n) ≡ true
    small_struct n less = ap (λ m. nat_le (struct_cells (slice_get (structs section) m)) most_cells)
        (omega arith) ∙ small_at 0 _ n small (subst (λ m. n < m) (length-map _ _) less)

    small_starred : (stars : ℕ) (b : BaseTy) → Within (starred stars b) → is_small section (starred stars b) ≡ true
    small_starred zero (base.Struct n) h = small_struct n (is_less n _ h)
    small_starred _ _ h = refl

    -- a type name over known tags
    named_fits : (t : TypeName) → base_known (tags section) t.base ≡ true →
        variable_fits (structs section) (type_of_name (tags section) t) ≡ true
    named_fits t known =
        let within : Within (type_of_name (tags section) t) = subst (λ all. type_within (length (tags section))
        (length (tags section)) (type_of_name all t) ≡ true) (append-nil _) (name_is_within _ [] t known) in
        within_is _ within (small_starred t.stars _ within)

    no_array : (stars : ℕ) (b : BaseTy) → is_array (starred stars b) ≡ false
    no_array zero base.Int = refl
    no_array _ _ = refl

    pub passed : (t : TypeName) → base_known (tags section) t.base ≡ true →
        passed_fits (structs section) (type_of_name (tags section) t) ≡ true
    passed t known = and_from _ _ (ap not (no_array t.stars _)) (named_fits t known)

    pub result_passed : (result : Option TypeName) → result_known (tags section) result ≡ true →
        result_fits (structs section) (option_map (type_of_name (tags section)) result) ≡ true
    result_passed None known = refl
    result_passed (Some t) known = passed t known

    pub params_passed : (params : List FunctionParam) → list_all {X = ParamTree}
        (λ param. base_known (tags section) param.ty.base) (map param_of params) ≡ true → list_all {X = TypedParam}
        (λ p. passed_fits (structs section) p.ty) (map (typed_param (tags section)) params) ≡ true
    params_passed [] known = refl
    params_passed (p ∷ params) known = and_from _ _ (passed p.ty (and_first _ _ known))
        (params_passed params (and_rest _ _ known))

  -- Globals.

  words_are : (t : Ty) (init : InitTree) → init_holds t init ≡ true → words_fit t (init_words init) ≡ true
  words_are ty.Int (One const) h = refl
  words_are ty.Unsigned (One const) h = refl
  words_are (ty.Pointer stars b) (One const) h = grind arith
  words_are (ty.Array zero base.Int count) Absent h = at_most 0 count (omega arith)
  words_are (ty.Array zero base.Int count) (Many consts) h = grind (arith, length-map consts word_of_const)
  words_are (ty.Array zero base.Unsigned count) Absent h = at_most 0 count (omega arith)
  words_are (ty.Array zero base.Unsigned count) (Many consts) h = grind (arith, length-map consts word_of_const)
  words_are _ Absent h = refl
  words_are _ _ h = cc

  pub global_is : (tree : GlobalTree) → base_known (tags section) tree.ty.base ≡ true →
      (is_sized tree.ty && init_holds (type_of (tags section) tree.ty) tree.init) ≡ true → is_small section
      (type_of (tags section) tree.ty) ≡ true → global_fits (structs section) (typed_global (tags section) tree) ≡ true
  global_is tree known holds small =
      grind (arith, tree_fits tree.ty, words_are (type_of (tags section) tree.ty) tree.init)

  -- A function's variables.

  local_types : (tree : FunctionTree) (place : ℕ) (locals : List LocalTree) → map {A = TypedLocal} (λ l. l.ty)
      (typed_locals section tree place locals) ≡ map {A = LocalTree} (λ local. type_of (tags section) local.ty) locals
  unfolding typed_locals
  local_types tree place [] = refl
  local_types tree place (local ∷ locals) = cc (local_types tree (suc place) locals)

  pub scope_is : (callees : Callees) (tree : FunctionTree) →
      scope_of (typed_section section callees) (typed_function section callees tree) ≡ scope_in section tree
  scope_is callees tree = λ i. record {
    structs = structs section;
    globals = map_twice (λ g. g.ty) (typed_global (tags section)) (globals_in section.decls) i;
    params = map_twice (λ p. p.ty) (typed_param (tags section)) tree.head.params i;
    locals = local_types tree 0 tree.locals i;
  }

  init_low : (tree : FunctionTree) (place : ℕ) (t : Ty) (init : Option ExprTree) →
      init_height (typed_init section tree place t init) ≡ surface.optional_height init
  init_low tree place t None = refl
  init_low tree place t (Some init) = heights.going_height t _ ∙
      heights.typed_height (visible_in section tree (suc place)) init

  local_is : (callees : Callees) (tree : FunctionTree) (place : ℕ) (local : LocalTree) →
      local_holds section callees tree place local ≡ true → base_known (tags section) local.ty.base ≡ true →
      is_small section (type_of (tags section) local.ty) ≡ true → nat_le (surface.local_height local) 256 ≡ true →
      local_fits (scope_in section tree) (typed_local section tree place local) ≡ true
  local_is callees tree place local holds known small low =
      grind (arith, tree_fits local.ty, init_low tree place (type_of (tags section) local.ty) local.init)

  locals_are : (callees : Callees) (before decls : List Decl) → before ++ decls ≡ section.decls →
      (globals own : List Text) (tree : FunctionTree) (place : ℕ) (locals : List LocalTree) →
      typed_locals_from section callees tree place locals ≡ [] →
      names.locals_from (struct_names before) globals own locals ≡ [] →
      concat (map (counts.local_lines section) locals) ≡ [] → nat_le (surface.locals_height locals) 256 ≡ true →
      list_all (local_fits (scope_in section tree)) (typed_locals section tree place locals) ≡ true
  unfolding typed_locals
  locals_are callees before decls whole globals own tree place [] holds known small low = refl
  locals_are callees before decls whole globals own tree place (local ∷ locals) holds known small low =
      grind (
        arith,
        no_lines,
        known_whole before decls whole local.ty.base,
        local_is callees tree place local,
        low_left,
        low_right,
        locals_are callees before decls whole globals (own ++ local.name ∷ []) tree (suc place) locals,
      )

  -- All declarations, those before one after another.

  pub record After (callees : Callees) (before decls : List Decl) : Type 0 where
    pub whole : before ++ decls ≡ section.decls
    pub in_names : names.name_lines_from section before decls ≡ []
    pub holds : concat (map (decl_type_lines section callees) decls) ≡ []

  next : {callees : Callees} {before : List Decl} {decl : Decl} {decls : List Decl} →
      After callees before (decl ∷ decls) → After callees (before ++ decl ∷ []) decls
  next {callees} {before} {decl} {decls} b = record {
    whole = append_assoc before _ decls ∙ b.whole;
    in_names = back_empty (names.decl_name_lines (names.declared section before) decl) _ b.in_names;
    holds = back_empty (decl_type_lines section callees decl) _ b.holds;
  }

  -- Bodies.

  module _ (callees : Callees) (callable : Callable) (same : (before : List Decl) (tree : FunctionTree) (name : Text) →
      is_callable (known_in (names.declared section before) tree) name ≡ true →
      target_signature callable (callees.target name) ≡ callees.signature name) where
    body_is : (before : List Decl) (tree : FunctionTree) → ((t : TypeName) →
        base_known (struct_names before) t.base ≡ true → is_small section (type_of_name (tags section) t) ≡ true) →
        (body : List StmtTree) → names.body_lines (known_in (names.declared section before) tree) body ≡ [] →
        concat (map (stmt_type_lines (visible_of section tree) callees (scope_in section tree)
        (result_of section tree)) body) ≡ [] → body_fits (scope_in section tree) callable (result_of section tree)
        (map (typed_stmt (visible_of section tree) callees (result_of section tree)) body) ≡ true
    body_is before tree small [] known holds = refl
    body_is before tree small (s ∷ body) known holds = grind (
      arith,
      no_lines,
      fits (known_in (names.declared section before)
          tree) (visible_of section tree) callees (scope_in section tree) callable (same before tree) refl small
          (result_of section tree) s false,
      body_is before tree small body,
    )

    body_low : (tree : FunctionTree) (body : List StmtTree) → nat_le (surface.stmts_height body) 256 ≡ true →
        list_all {X = TypedStmt} (λ s. nat_le (stmt_height s) most_height)
        (map (typed_stmt (visible_of section tree) callees (result_of section tree)) body) ≡ true
    body_low tree [] low = refl
    body_low tree (s ∷ body) low = grind (
      arith,
      low_left,
      low_right,
      body_low tree body,
      heights.stmt_is (visible_of section tree) callees (result_of section tree) s,
    )

    result_whole : (before decls : List Decl) → before ++ decls ≡ section.decls → (result : Option TypeName) →
        result_known (struct_names before) result ≡ true → result_known (tags section) result ≡ true
    result_whole before decls whole None h = refl
    result_whole before decls whole (Some t) h = known_whole before decls whole t.base h

    params_whole : (before decls : List Decl) → before ++ decls ≡ section.decls → (params : List ParamTree) →
        list_all {X = ParamTree} (λ param. base_known (struct_names before) param.ty.base) params ≡ true →
        list_all {X = ParamTree} (λ param. base_known (tags section) param.ty.base) params ≡ true
    params_whole before decls whole [] h = refl
    params_whole before decls whole (p ∷ params) h =
        grind (arith, known_whole before decls whole p.ty.base, params_whole before decls whole params)

    -- what the rules of names say of a function's head and of what follows it
    record FunctionKnown (before : List Decl) (tree : FunctionTree) : Type 0 where
      result : result_known (struct_names before) tree.head.result ≡ true
      params : list_all {X = ParamTree} (λ param. base_known (struct_names before) param.ty.base)
          (map param_of tree.head.params) ≡ true
      locals : names.locals_from (struct_names before) (global_names before) (param_names tree) tree.locals ≡ []
      body : names.body_lines (known_in (names.declared section before) tree) tree.body ≡ []

    function_known : (before : List Decl) (tree : FunctionTree) →
        names.function_name_lines (names.declared section before) tree ≡ [] → FunctionKnown before tree
    function_known before tree in_names = grind (arith, no_lines)

    function_is : (before decls : List Decl) → before ++ decls ≡ section.decls →
        AllSmall (structs section) 0 (structs_in section.decls) → (tree : FunctionTree) →
        names.function_name_lines (names.declared section before) tree ≡ [] → function_type_lines section callees tree ≡
        [] →
        counts.function_count_lines section tree ≡ [] → counts.head_lines section (head_of tree.head) ≡ [] →
        nat_le (surface.function_height tree) 256 ≡ true →
        function_fits callable (typed_section section callees) (typed_function section callees tree) ≡ true
    function_is before decls whole small tree in_names holds sizes count low =
        let known = function_known before tree in_names in
        let few : nat_le (length (typed_function section callees tree).params) most_params ≡ true =
        ap (λ n. nat_le n most_params) (length-map tree.head.params (typed_param _) ∙ sym (length-map _ _)) ∙
        rule_holds _ _ count in
        let locals = locals_are callees before decls whole (global_names before) (param_names tree) tree 0 tree.locals
        (prefix_empty _ _ holds) known.locals (back_empty _ _ sizes) (low_left _ _ 256 low) in
        let body = body_is before tree (λ t in_names. and_rest _ _ (named_fits small t
        (known_whole before decls whole t.base in_names))) tree.body known.body (back_empty _ _ holds) in
        cc (
          scope_is callees tree,
          params_passed small tree.head.params (params_whole before decls whole
              (map param_of tree.head.params) known.params),
          result_passed small tree.head.result
              (result_whole before decls whole tree.head.result known.result),
          body_low tree tree.body (low_right _ _ 256 low),
        )

    pub functions_are : AllSmall (structs section) 0 (structs_in section.decls) → (before decls : List Decl) →
        After callees before decls → concat (map (counts.head_lines section) (heads_in decls)) ≡ [] →
        concat (map (counts.function_count_lines section) (function_decls decls)) ≡ [] →
        nat_le (surface.decls_height decls) 256 ≡ true → list_all (function_fits callable
        (typed_section section callees)) (map (typed_function section callees) (function_decls decls)) ≡ true
    functions_are small before [] b heads sizes low = refl
    functions_are small before (decl ∷ decls) b heads sizes low = grind (
      arith,
      no_lines,
      low_left,
      low_right,
      function_is before (decl ∷ decls) b.whole small,
      functions_are small (before ++ decl ∷ []) decls (next b),
    )

  module _ (callees : Callees) where
    pub globals_are : (before decls : List Decl) → After callees before decls →
        concat (map (counts.global_count_lines section) (globals_in decls)) ≡ [] →
        list_all (global_fits (structs section)) (map (typed_global (tags section)) (globals_in decls)) ≡ true
    globals_are before [] b sizes = refl
    globals_are before (Global tree ∷ decls) b sizes =
        grind (
          arith,
          no_lines,
          known_whole before _ b.whole tree.ty.base,
          global_is tree,
          b.in_names,
          b.holds,
          globals_are (before ++ Global tree ∷ []) decls (next b),
        )
    globals_are before (_ ∷ decls) b sizes = globals_are _ decls (next b) sizes

    struct_is : (before : List Decl) (tree : StructTree) → names.decl_name_lines (names.declared section before)
        (Struct tree) ≡ [] → struct_lines section tree ≡ [] → Known (struct_names before) tree
    struct_is before tree in_names holds = grind (arith, rule_holds)

    same_names : (before : List Decl) (decl : Decl) (decls : List Decl) → struct_names (decl ∷ []) ≡ [] →
        AllKnown (struct_names (before ++ decl ∷ [])) (structs_in decls) →
        AllKnown (struct_names before) (structs_in decls)
    same_names before decl decls h = subst (λ all. AllKnown all (structs_in decls))
        (struct_names_append before _ ∙ ap (λ more. struct_names before ++ more) h ∙ append-nil _)

    pub structs_known : (before decls : List Decl) → After callees before decls →
        AllKnown (struct_names before) (structs_in decls)
    structs_known before [] b = tt
    structs_known before (Struct tree ∷ decls) b = (
      struct_is before tree (prefix_empty _ _ b.in_names) (prefix_empty _ _ b.holds),
      subst (λ all. AllKnown all
          (structs_in decls)) (struct_names_append before (Struct tree ∷ [])) (structs_known _ decls (next b)),
    )
    structs_known before (decl ∷ decls) b = same_names before decl decls refl (structs_known _ decls (next b))
