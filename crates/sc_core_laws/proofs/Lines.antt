-- A program whose trees stand on other lines does the same up to the lines of blames.
use Rattle.sc_core_laws.proofs.Common.{Acts, Arith, Bool, CallTarget, Calls, CallsAgree, Cause, DenotationsAgree, Does}
use Rattle.sc_core_laws.proofs.Common.{Each, Entry, Exit, Export, FunctionsAgree, Here, Inside, Left, List, Local, Main}
use Rattle.sc_core_laws.proofs.Common.{Next, None, Ok, Option, OtherLinesAgree, Piece, PiecesAgree, ProgramTree, Proto}
use Rattle.sc_core_laws.proofs.Common.{Result, Route, RunsAgree, Some, State, TypedExpr, TypedFunction, TypedLocal}
use Rattle.sc_core_laws.proofs.Common.{TypedSection, TypedSimple, TypedSimpleKind, TypedStmt, TypedStmt-F}
use Rattle.sc_core_laws.proofs.Common.{TypedStmtKind, TypedStmtKind-F, TypedStruct, Value, Want, Ways, [], all_do, ap}
use Rattle.sc_core_laws.proofs.Common.{ap₂, arith, assign, at_place, block_does, body_does, bytes_eq, call, cells_of}
use Rattle.sc_core_laws.proofs.Common.{choose, closed, computed, cond, denotations_of, entry_in, evaluated, everywhere}
use Rattle.sc_core_laws.proofs.Common.{export_at, expr_nodes, first_blocks, fold-TypedStmt, fold-TypedStmtKind, follow}
use Rattle.sc_core_laws.proofs.Common.{frame_bound, function_of, functions_in, globals_of, if◌then◌else◌, in_order}
use Rattle.sc_core_laws.proofs.Common.{init_does, inits_do, kind_nodes, kind_step, layer_of, leave, length, length-map}
use Rattle.sc_core_laws.proofs.Common.{local_nodes, loop, main_name, map, map-TypedStmtKind, nat_lt, nodes, not}
use Rattle.sc_core_laws.proofs.Common.{on_line, part_does, part_nodes, place_named, place_of_export, position_or_len}
use Rattle.sc_core_laws.proofs.Common.{refl, roll-TypedStmtKind, rounds, run_by, run_of, run_step, simple_does}
use Rattle.sc_core_laws.proofs.Common.{slice_get, stmt_at, stmt_does, stmt_induction, stmt_nodes, stmt_step, store_at}
use Rattle.sc_core_laws.proofs.Common.{store_result, subst, suc, sym, take, test, total, variable_at, variables, ways}
use Rattle.sc_core_laws.proofs.Common.{zero, ℕ, ◌++◌, ◌+◌, ◌∙◌, ◌∷◌, ◌≡◌}
use Rattle.sc_core.specs.Prelude.{allocate_at, count_in, count_ways, elements_allocated, free_value, freed}
use Rattle.std.specs.Option.{option_map}
use Rattle.std.proofs.lemmas.Option.{slice_get-map}
use Rattle.sc_core.specs.declared.stmt.TypedSimpleKind.TheVariants as simple
use Rattle.sc_core.specs.declared.stmt.TypedStmtKind.TheOpen as layer
use Rattle.sc_core.specs.declared.value.Want.TheVariants as want
use Rattle.sc_core_laws.specs.Lines.{simple_lined, layer_lined, stmt_lined, local_lined, function_lined, section_lined}
use Rattle.sc_core_laws.specs.Lines.{program_lined}
use Rattle.sc_core_laws.proofs.Agreement.{itself, then_agree, agreeing_run_alike}
use Rattle.sc_core_laws.proofs.Statements.{Pairs, meets_at, lists_at}

-- COMBINATORS
computed_agree : {V : Type 0} (here : Here) (line other : ℕ) (r : Result V Cause) (s : State) →
    PiecesAgree (computed here line r s) (computed here other r s)
computed_agree here line other r s = grind arith

choose_agree : {V : Type 0} (v : Value) (o p o' p' : Piece V) → PiecesAgree o p → PiecesAgree o' p' →
    PiecesAgree (choose v o o') (choose v p p')
choose_agree {V} v o p o' p' h k = grind (arith, h, k)

-- doings that agree
abbrev DoesAgree : {A : Type 0} → Does A → Does A → Type 0
DoesAgree {A} f g = (a : A) (s : State) → PiecesAgree (f a s) (g a s)

take_agree : {A : Type 0} (route : Route) (f g : Does A) → DoesAgree f g → DoesAgree (take route f) (take route g)
take_agree route f g h a s = grind (arith, h)

follow_agree : {A : Type 0} (route : Exit → Route) (o p : Piece (Left A)) (f g : Does A) → PiecesAgree o p →
    DoesAgree f g → PiecesAgree (follow route o f) (follow route p g)
follow_agree route o p f g h k = then_agree o p _ _ h (λ left s. take_agree _ f g k _ s)

rounds_agree : {A : Type 0} (n : ℕ) (f g f2 g2 f3 g3 : Does A) → DoesAgree f g → DoesAgree f2 g2 → DoesAgree f3 g3 →
    DoesAgree (rounds n f f2 f3) (rounds n g g2 g3)
rounds_agree zero f g f2 g2 f3 g3 h b x a s = itself _
rounds_agree (suc n) f g f2 g2 f3 g3 h b x a s = grind (arith, rounds_agree n f g f2 g2 f3 g3 h b x, g, h, b, x)

-- A STATEMENT ON ANOTHER LINE
module _ (line_of : ℕ → ℕ) where
  abbrev kind_lined : TypedStmtKind-F TypedStmtKind TypedStmt → TypedStmtKind
  kind_lined k = roll-TypedStmtKind (layer_lined line_of k)

  abbrev moved : TypedStmt-F TypedStmtKind TypedStmt → TypedStmt
  moved s = record { line = line_of s.line; kind = s.kind }

  -- a layer whose statements stand on other lines
  abbrev inner_lined : TypedStmtKind-F TypedStmtKind TypedStmt → TypedStmtKind-F TypedStmtKind TypedStmt
  inner_lined k =
      layer_lined line_of (map-TypedStmtKind _ _ _ _ (fold-TypedStmtKind TypedStmtKind TypedStmt kind_lined moved)
      (fold-TypedStmt TypedStmtKind TypedStmt kind_lined moved) k)

  lined_at : (line : ℕ) (k : TypedStmtKind-F TypedStmtKind TypedStmt) →
      stmt_lined line_of (on_line line k) ≡ on_line (line_of line) (inner_lined k)
  lined_at line k = stmt_at TypedStmtKind TypedStmt _ moved line k

  -- it has as many nodes
  abbrev SameNodes : TypedStmt → Type 0
  SameNodes stmt = stmt_nodes (stmt_lined line_of stmt) ≡ stmt_nodes stmt

  list_nodes : (block : List TypedStmt) → Each SameNodes block → map stmt_nodes (map (stmt_lined line_of) block)
      ≡ map stmt_nodes block
  list_nodes [] h = refl
  list_nodes (stmt ∷ rest) h = ap₂ (λ n ns. n ∷ ns) h.0 (list_nodes rest h.1)

  same_part : (part : Option TypedSimple) → part_nodes (option_map (simple_lined line_of) part) ≡ part_nodes part
  same_part part = grind arith

  abbrev nodes_of : TypedStmtKind-F TypedStmtKind TypedStmt → ℕ
  nodes_of = layer_of ℕ ℕ kind_nodes (λ s. s.kind)

  layer_nodes : (k : TypedStmtKind-F TypedStmtKind TypedStmt) → Inside SameNodes k →
      nodes_of (inner_lined k) ≡ nodes_of k
  layer_nodes (layer.If cond first second) h =
      ap₂ (λ m n. suc (expr_nodes cond + total m + total n)) (list_nodes first h.0) (list_nodes second h.1)
  layer_nodes (layer.While cond body) h = ap (λ n. suc (expr_nodes cond + total n)) (list_nodes body h)
  layer_nodes (layer.For first cond next body) h =
      ap₂ (λ m n. suc (m + expr_nodes cond + n + total (map stmt_nodes (map (stmt_lined line_of) body))))
      (same_part first) (same_part next)
      ∙ ap (λ n. suc (part_nodes first + expr_nodes cond + part_nodes next + total n)) (list_nodes body h)
  layer_nodes _ h = refl

  same_nodes : (stmt : TypedStmt) → SameNodes stmt
  same_nodes =
      stmt_induction SameNodes (λ line k h. ap stmt_nodes (lined_at line k) ∙ stmt_at ℕ ℕ kind_nodes (λ s. s.kind)
      (line_of line) (inner_lined k) ∙ layer_nodes k h ∙ sym (stmt_at ℕ ℕ _ _ line k))

  same_locals : (locals : List TypedLocal) → map local_nodes (map (local_lined line_of) locals) ≡ map local_nodes locals
  same_locals [] = refl
  same_locals (local ∷ rest) = ap (λ ns. local_nodes local ∷ ns) (same_locals rest)

  same_cells : (structs : List TypedStruct) (locals : List TypedLocal) →
      map {A = TypedLocal} (λ l. cells_of structs l.ty) (map (local_lined line_of) locals) ≡ map {A = TypedLocal}
      (λ l. cells_of structs l.ty) locals
  same_cells structs [] = refl
  same_cells structs (local ∷ rest) = ap (λ ns. cells_of structs local.ty ∷ ns) (same_cells structs rest)

  function_nodes : (f : TypedFunction) → nodes (function_lined line_of f) ≡ nodes f
  function_nodes f = ap₂ (λ m n. suc (length f.params) + total m + total n) (same_locals f.locals)
      (list_nodes f.body (everywhere SameNodes same_nodes f.body))

  function_cells : (structs : List TypedStruct) (f : TypedFunction) →
      variables structs (function_lined line_of f) ≡ variables structs f
  function_cells structs f = ap (λ ns. map (λ p. cells_of structs p.ty) f.params ++ ns) (same_cells structs f.locals)

-- STATEMENTS
module _ (here : Here) where
  given_agree : (w : Want) (e : Ways) (line other : ℕ) (s : State) →
      PiecesAgree (evaluated here w e line s) (evaluated here w e other s)
  given_agree w e line other s = computed_agree here line other _ s

  store_at_agree : (place : Ways) (v : Value) (line other : ℕ) →
      DoesAgree (store_at here place v line) (store_at here place v other)
  store_at_agree place v line other a s = grind arith

  assign_agree : (place e : Ways) (line other : ℕ) → DoesAgree (assign here place e line) (assign here place e other)
  assign_agree place e line other a s = grind arith

  elements_agree : (v : Value) (cells line other : ℕ) (s : State) →
      PiecesAgree (elements_allocated here v cells line s) (elements_allocated here v cells other s)
  elements_agree v cells line other s =
      then_agree _ _ _ _ (computed_agree here line other (count_in v) s) (λ count s. itself _)

  allocate_at_agree : (place count : Ways) (cells line other : ℕ) →
      DoesAgree (allocate_at here place count cells line) (allocate_at here place count cells other)
  allocate_at_agree place count cells line other a s =
      then_agree _ _ _ _ (given_agree want.Value count line other s)
      (λ v s. then_agree _ _ _ _ (elements_agree v cells line other s)
      (λ q s. store_at_agree place q line other a s))

  free_value_agree : (e : Ways) (line other : ℕ) → DoesAgree (free_value here e line) (free_value here e other)
  free_value_agree e line other a s =
      then_agree _ _ _ _ (given_agree want.Value e line other s)
      (λ v s. then_agree _ _ _ _ (computed_agree here line other (freed (s.memory here.comp) v) s)
      (λ blocks s. itself _))

  test_agree : (e : Ways) (line other : ℕ) → DoesAgree (test here e line) (test here e other)
  test_agree e line other a s = then_agree _ _ _ _ (given_agree _ e line other s) (λ v s. itself _)

  store_result_agree : (place : Ways) (result : Option Value) (line other : ℕ) →
      DoesAgree (store_result here place result line) (store_result here place result other)
  store_result_agree place None line other a s = itself _
  store_result_agree place (Some v) line other a s = store_at_agree place v line other a s

  module _ (C D : Calls) (calls : CallsAgree C D) where
    call_agree : (target : CallTarget) (args : List Ways) (line other : ℕ) (s : State) →
        PiecesAgree (call here C target args line s) (call here D target args other s)
    call_agree target args line other s = grind arith

    module _ (arith : Arith) (structs : List TypedStruct) (params : ℕ) (line_of : ℕ → ℕ) where
      simple_agree : (k : TypedSimpleKind) (line other : ℕ) →
          DoesAgree (simple_does arith structs here params C k line) (simple_does arith structs here params D k other)
      simple_agree (simple.Assign place e) line other a s =
          assign_agree (ways arith structs here params place) (ways arith structs here params e) line other a s
      simple_agree (simple.AssignCall place c) line other a s =
          then_agree _ _ _ _ (call_agree c.target (map _ c.args) line other s)
          (λ result s. store_result_agree (ways arith structs here params place) result line other a s)
      simple_agree (simple.Call c) line other a s =
          then_agree _ _ _ _ (call_agree c.target (map _ c.args) line other s) (λ result s. itself _)
      simple_agree (simple.Malloc place count cells) line other a s = allocate_at_agree
          (ways arith structs here params place) (count_ways arith structs here params count) cells line other a s
      simple_agree (simple.Free e) line other a s =
          free_value_agree (ways arith structs here params e) line other a s

      part_agree : (part : Option TypedSimple) → DoesAgree (part_does arith structs here params C part)
          (part_does arith structs here params D (option_map (simple_lined line_of) part))
      part_agree None a s = itself _
      part_agree (Some p) a s = simple_agree p.kind p.line _ a s

      abbrev Agrees : TypedStmt → Type 0
      Agrees stmt = DoesAgree (stmt_does arith structs here params C stmt)
          (stmt_does arith structs here params D (stmt_lined line_of stmt))

      block_agree : (block : List TypedStmt) → Each Agrees block →
          DoesAgree (block_does arith structs here params C block) (block_does arith structs here params D
          (map (stmt_lined line_of) block))
      block_agree [] h a s = itself _
      block_agree (stmt ∷ rest) h a s = follow_agree in_order _ _ _ _ (h.0 a s) (block_agree rest h.1)

      loop_agree : (cond : Ways) (line other : ℕ) (f g f3 g3 : Acts) → DoesAgree f g → DoesAgree f3 g3 →
          DoesAgree (loop (test here cond line) f f3) (loop (test here cond other) g g3)
      loop_agree cond line other f g f3 g3 b x a s = rounds_agree (suc s.turns) (test here cond line)
          (test here cond other) f g f3 g3 (test_agree cond line other) b x a s

      abbrev layered : Calls → TypedStmtKind-F TypedStmtKind TypedStmt → ℕ → Acts
      layered by = layer_of _ _ (kind_step arith structs here params by) stmt_step

      layer_agree : (line : ℕ) (k : TypedStmtKind-F TypedStmtKind TypedStmt) → Inside Agrees k →
          DoesAgree (layered C k line) (layered D (inner_lined line_of k) (line_of line))
      layer_agree line (layer.Assign place e) h a s = simple_agree (simple.Assign place e) line (line_of line) a s
      layer_agree line (layer.AssignCall place c) h a s =
          simple_agree (simple.AssignCall place c) line (line_of line) a s
      layer_agree line (layer.Call c) h a s = simple_agree (simple.Call c) line (line_of line) a s
      layer_agree line (layer.Malloc place count cells) h a s =
          simple_agree (simple.Malloc place count cells) line (line_of line) a s
      layer_agree line (layer.Free e) h a s = simple_agree (simple.Free e) line (line_of line) a s
      layer_agree line (layer.If cond x y) h a s =
          then_agree _ _ _ _ (given_agree want.Value (ways arith structs here params cond) line (line_of line) s)
          (λ v s. choose_agree v _ _ _ _ (block_agree x h.0 a s) (block_agree y h.1 a s))
      layer_agree line (layer.While cond x) h a s = loop_agree (ways arith structs here params cond) line (line_of line)
          _ _ (leave Next) (leave Next) (block_agree x h) (λ a s. itself _) a s
      layer_agree line (layer.For first cond next x) h a s =
          follow_agree in_order _ _ _ _ (part_agree first a s) (loop_agree (ways arith structs here params cond) line
          (line_of line) _ _ (part_does arith structs here params C next) (part_does arith structs here params D
          _) (block_agree x h) (part_agree next))
      layer_agree line (layer.ReturnValue e) h a s = then_agree _ _ _ _
          (given_agree want.Value (ways arith structs here params e) line (line_of line) s) (λ v s. itself _)
      layer_agree line (layer.ReturnCall c) h a s =
          then_agree _ _ _ _ (call_agree c.target (map _ c.args) line (line_of line) s) (λ result s. itself _)
      layer_agree line _ h a s = itself _

      stmt_agree : (stmt : TypedStmt) → Agrees stmt
      stmt_agree = stmt_induction Agrees (λ line k h. subst
          (λ x. DoesAgree x (stmt_does arith structs here params D (stmt_lined line_of (on_line line k))))
          (sym (stmt_at _ _ _ _ line k)) (subst (DoesAgree _) (sym
          (ap (stmt_does arith structs here params D) (lined_at line_of line k)
          ∙ stmt_at _ _ (kind_step arith structs here params D) stmt_step (line_of line) (inner_lined line_of k)))
          (layer_agree line k h)))

      init_agree : (k : ℕ) (local : TypedLocal) (init : Option TypedExpr) →
          DoesAgree (init_does arith structs here params k local init) (init_does arith structs here params k
          (local_lined line_of local) init)
      init_agree k local None a s = itself _
      init_agree k local (Some e) a s =
          assign_agree (at_place local.ty (λ blocks. Ok (variable_at here params (Local k))))
          (ways arith structs here params e) local.line (line_of _) a s

      inits_agree : (k : ℕ) (locals : List TypedLocal) →
          DoesAgree (all_do (inits_do arith structs here params k locals))
          (all_do (inits_do arith structs here params k (map (local_lined line_of) locals)))
      inits_agree k [] a s = itself _
      inits_agree k (local ∷ rest) a s =
          follow_agree in_order _ _ _ _ (init_agree k local local.init a s) (inits_agree _ rest)

      body_agree : (f : TypedFunction) → DoesAgree (body_does arith structs here params C f)
          (body_does arith structs here params D (function_lined line_of f))
      body_agree f a s = follow_agree in_order _ _ _ _ (inits_agree 0 f.locals a s)
          (block_agree f.body (everywhere Agrees stmt_agree f.body))

  closed_agree : (exit : Exit) (has_result is_main : Bool) (line other : ℕ) (s : State) →
      PiecesAgree (closed exit has_result is_main line here s) (closed exit has_result is_main other here s)
  closed_agree exit has_result is_main line other s = grind arith

-- FUNCTIONS AND DENOTATIONS
pairs_map : {A A' B : Type 0} (Q : B → B → Type 0) (f : A → B) (g : A' → B) (h : A → A') →
    ((x : A) → Q (f x) (g (h x))) → (xs : List A) → Pairs Q (map f xs) (map g (map h xs))
pairs_map Q f g h each [] = tt
pairs_map Q f g h each (x ∷ xs) = (each x, pairs_map Q f g h each xs)

module _ (arith : Arith) (line_of : ℕ → ℕ) where
  function_agrees : (main : ℕ) (structs : List TypedStruct) (f : TypedFunction) →
      FunctionsAgree (function_of arith main structs f) (function_of arith main structs (function_lined line_of f))
  function_agrees main structs f = record {
    cells = sym (function_cells line_of structs f);
    frame_size = ap₂ frame_bound (sym (function_cells line_of structs f)) (sym (function_nodes line_of f));
    does = λ C D calls here s. then_agree _ _ _ _ (body_agree here C D calls arith structs _ line_of f tt s) (λ left s.
        closed_agree here _ _ _ _ _ s);
  }

  sections_agree : (main : ℕ) (sections : List TypedSection) → Pairs (Pairs FunctionsAgree)
      (map (functions_in arith main) sections) (map (functions_in arith main) (map (section_lined line_of) sections))
  sections_agree main = pairs_map _ _ _ _ (λ section.
      pairs_map _ _ _ _ (function_agrees main section.structs) section.functions)

  -- names lead to the same places
  same_prefix : (name : List ℕ) (fs : List TypedFunction) →
      position_or_len {X = TypedFunction} (λ f. bytes_eq f.name name) (map (function_lined line_of) fs)
      ≡ position_or_len {X = TypedFunction} (λ f. bytes_eq f.name name) fs
  same_prefix name [] = refl
  same_prefix name (f ∷ fs) = ap (λ n. if not (bytes_eq f.name name) then 1 + n else 0) (same_prefix name fs)

  same_place : (name : List ℕ) (section : Option TypedSection) →
      place_named name (option_map (section_lined line_of) section) ≡ place_named name section
  same_place name None = refl
  same_place name (Some section) = ap₂ (λ n count. cond (nat_lt n count) (Some n) None)
      (same_prefix name section.functions) (length-map section.functions (function_lined line_of))

  same_export : (proto : Option Proto) (section : Option TypedSection) →
      place_of_export proto (option_map (section_lined line_of) section) ≡ place_of_export proto section
  same_export None section = refl
  same_export (Some proto) section = same_place _ section

  same_entry : (program : ProgramTree) (comp : ℕ) (entry : Entry) →
      entry_in program comp entry ≡ entry_in (program_lined line_of program) comp entry
  same_entry program comp Main =
      sym (ap (place_named _) (slice_get-map _ _ comp) ∙ same_place main_name (slice_get _ comp))
  same_entry program comp (Export index) = sym (ap (place_of_export _) (slice_get-map _ _ comp)
      ∙ same_export (export_at program.interfaces comp index) (slice_get _ comp))

denotations_agree : (arith : Arith) (line_of : ℕ → ℕ) (program : ProgramTree) →
    DenotationsAgree (denotations_of arith program) (denotations_of arith (program_lined line_of program))
denotations_agree arith line_of program = record {
  interfaces = refl;
  functions = λ comp number. meets_at FunctionsAgree _ _ number
      (lists_at FunctionsAgree (denotations_of arith program).functions
      (denotations_of arith (program_lined line_of program)).functions comp (sections_agree arith line_of _ _));
  entered = same_entry arith line_of program;
}

-- the globals have no lines
same_blocks : (line_of : ℕ → ℕ) (section : Option TypedSection) →
    first_blocks section ≡ first_blocks (option_map (section_lined line_of) section)
same_blocks line_of section = grind arith

same_globals : (line_of : ℕ → ℕ) (sections : List TypedSection) (comp : ℕ) →
    globals_of sections comp ≡ globals_of (map (section_lined line_of) sections) comp
same_globals line_of sections comp = same_blocks line_of _ ∙ sym (ap first_blocks (slice_get-map _ _ comp))

pub other_lines_agree : OtherLinesAgree
other_lines_agree = record {
  any_denotations = denotations_agree;
  runs = λ arith line_of program inputs turns. subst (λ globals. RunsAgree (run_of arith program inputs turns) (run_by
      (denotations_of arith (program_lined line_of program))
      (run_step (denotations_of arith (program_lined line_of program)))
      globals inputs turns)) (λ i comp. same_globals line_of program.sections comp i) (agreeing_run_alike.meaning
      (denotations_of arith program) (denotations_of arith _) (denotations_agree arith line_of program) (globals_of _)
      inputs
      turns);
}
