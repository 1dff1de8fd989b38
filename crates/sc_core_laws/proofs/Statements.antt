-- What statements do is a tree, and under two arithmetics the trees are alike.
use Rattle.sc_core_laws.proofs.Common.{Acts, Arith, Blocks, Bool, Break, Calls, Cause, Continue, DenotationsMatch}
use Rattle.sc_core_laws.proofs.Common.{Doing, Each, Err, Exit, FunctionsMatch, Here, Inside, List, Local, Match, Meets}
use Rattle.sc_core_laws.proofs.Common.{Never, Next, NoReturn, None, Obedient, Ok, Option, ProgramTree, Return, Some}
use Rattle.sc_core_laws.proofs.Common.{TypedExpr, TypedFunction, TypedLocal, TypedSection, TypedSimple, TypedSimpleKind}
use Rattle.sc_core_laws.proofs.Common.{TypedStmt, TypedStmtKind, TypedStmtKind-F, TypedStruct, Value, Want, Ways, []}
use Rattle.sc_core_laws.proofs.Common.{all_do, assign, at_brace, at_place, block_does, body_does, call, choose, closed}
use Rattle.sc_core_laws.proofs.Common.{denotations_of, evaluated, everywhere, false, function_of, functions_in}
use Rattle.sc_core_laws.proofs.Common.{in_order, init_does, inits_do, kind_step, layer_of, leave, loop, map, on_line}
use Rattle.sc_core_laws.proofs.Common.{part_does, refl, simple_does, slice_get, slice_index_or, stmt_at, stmt_does}
use Rattle.sc_core_laws.proofs.Common.{stmt_induction, stmt_step, store_at, store_result, stored, subst, suc, sym, test}
use Rattle.sc_core_laws.proofs.Common.{true, variable_at, ways, zero, ℕ, ◌∷◌, ◌≡◌}
use Rattle.sc_core.specs.declared.expr.TypedCall.{TypedCall}
use Rattle.sc_core.specs.Prelude.{allocate_at, and_then, count_ways, elements_allocated, free_value, released}
use Rattle.sc_core.specs.declared.stmt.TypedStmtKind.TheOpen as layer
use Rattle.sc_core.specs.declared.stmt.TypedSimpleKind.TheVariants as simple
use Rattle.sc_core.specs.declared.value.Want.TheVariants as want
use Rattle.sc_core_laws.proofs.InteractionTrees.{MatchWith, match_reached, match_then, match_computed, match_store}
use Rattle.sc_core_laws.proofs.InteractionTrees.{match_call, match_if, match_leave, match_follow, match_all, match_loop}
use Rattle.sc_core_laws.proofs.InteractionTrees.{match_elements, match_released}
use Rattle.sc_core_laws.proofs.Expressions.{Keeps, alike, ArithKeeps, ways_keep, values_keep}

module _ (Soft : Cause → Type 0) (here : Here) where
  -- statements, by what calls do
  abbrev pub ActsMatch : (Calls → Acts) → (Calls → Acts) → Type 0
  ActsMatch f g = MatchWith Soft here {A = Unit {0}} f g

  abbrev pub WaysMatch : Ways → Ways → Type 0
  WaysMatch f g = (w : Want) (blocks : Blocks) → Keeps Soft Value (f w blocks) (g w blocks)

  leave_matches : (exit : Exit) → ActsMatch (λ by. leave exit) (λ by. leave exit)
  leave_matches exit = match_leave Soft here exit

  given_matches : (w : Want) (e e' : Ways) → WaysMatch e e' → (line : ℕ) →
      Match Soft here (λ by. evaluated here w e line) (λ by. evaluated here w e' line)
  given_matches w e e' h line = match_computed Soft here line (e w) (e' w) (h w)

  store_at_matches : (place place' : Ways) → WaysMatch place place' → (v : Value) (line : ℕ) →
      ActsMatch (λ by. store_at here place v line) (λ by. store_at here place' v line)
  store_at_matches place place' h v line a = match_then Soft here _ _ (λ q by. stored here q v line a)
      (λ q by. stored here q v line a) (given_matches _ place place' h line) (λ q. match_store Soft here q v line a)

  assign_matches : (place place' e e' : Ways) → WaysMatch place place' → WaysMatch e e' → (line : ℕ) →
      ActsMatch (λ by. assign here place e line) (λ by. assign here place' e' line)
  assign_matches place place' e e' h k line a =
      match_then Soft here _ _ (λ v by. store_at here place v line a) (λ v by. store_at here place' v line a)
      (given_matches _ e e' k line) (λ v. store_at_matches place place' h v line a)

  allocate_at_matches : (place place' count count' : Ways) → WaysMatch place place' → WaysMatch count count' →
      (cells line : ℕ) →
      ActsMatch (λ by. allocate_at here place count cells line) (λ by. allocate_at here place' count' cells line)
  allocate_at_matches place place' count count' h k cells line a = match_then Soft here _ _
      (λ v by s. and_then (elements_allocated here v cells line s) (λ q s. store_at here place q line a s))
      (λ v by s. and_then (elements_allocated here v cells line s) (λ q s. store_at here place' q line a s))
      (given_matches _ count count' k line)
      (λ v. match_then Soft here _ _ (λ q by. store_at here place q line a) (λ q by. store_at here place' q line a)
      (match_elements Soft here v cells line) (λ q. store_at_matches place place' h q line a))

  free_value_matches : (e e' : Ways) → WaysMatch e e' → (line : ℕ) →
      ActsMatch (λ by. free_value here e line) (λ by. free_value here e' line)
  free_value_matches e e' h line a =
      match_then Soft here _ _ (λ v by. released here v line a) (λ v by. released here v line a)
      (given_matches _ e e' h line) (λ v. match_released Soft here v line a)

  choose_matches : {V : Type 0} (v : Value) (f g f' g' : Doing V) → Match Soft here f g → Match Soft here f' g' →
      Match Soft here (λ by s. choose v (f by s) (f' by s)) (λ by s. choose v (g by s) (g' by s))
  choose_matches v f g f' g' h k = match_if Soft here _ f g f' g' h k

  pub test_matches : (cond cond' : Ways) → WaysMatch cond cond' → (line : ℕ) →
      ActsMatch (λ by. test here cond line) (λ by. test here cond' line)
  test_matches cond cond' h line a = match_then Soft here _ _ (λ v by s. choose v _ _) (λ v by s. choose v _ _)
      (given_matches _ cond cond' h line) (λ v. choose_matches v _ _ _ _ (leave_matches Next a) (leave_matches Break a))

  pub store_result_matches : (place place' : Ways) → WaysMatch place place' → (result : Option Value) (line : ℕ) →
      ActsMatch (λ by. store_result here place result line) (λ by. store_result here place' result line)
  store_result_matches place place' h None line = leave_matches Next
  store_result_matches place place' h (Some v) line = store_at_matches place place' h v line

  module _ (ar br : Arith) (arith : ArithKeeps Soft ar br) (structs : List TypedStruct) (params : ℕ) where
    -- the same acts in both
    abbrev InBoth : (Arith → Calls → Acts) → Type 0
    InBoth acts = ActsMatch (acts ar) (acts br)

    pub way_matches : (e : TypedExpr) → WaysMatch (ways ar structs here params e) (ways br structs here params e)
    way_matches e = ways_keep Soft ar br arith structs here params e

    count_matches : (count : Option TypedExpr) →
        WaysMatch (count_ways ar structs here params count) (count_ways br structs here params count)
    count_matches None w blocks = alike refl
    count_matches (Some e) w blocks = way_matches e w blocks

    -- arguments and a call with them
    abbrev args_by : Arith → TypedCall → List Ways
    args_by arith c = map (ways arith structs here params) c.args

    called_matches : (c : TypedCall) (line : ℕ) → Match Soft here (λ by. call here by c.target (args_by ar c) line)
        (λ by. call here by c.target (args_by br c) line)
    called_matches c line = match_then Soft here _ _ (λ vs by. by _ c.target vs) (λ vs by. by _ c.target vs)
        (match_computed Soft here line _ _ (values_keep Soft ar br arith structs here params c.args))
        (λ vs. match_call Soft here c.target vs)

    simple_matches : (k : TypedSimpleKind) (line : ℕ) →
        InBoth (λ arith by. simple_does arith structs here params by k line)
    simple_matches (simple.Assign place e) line a = assign_matches _ _ _ _ (way_matches place) (way_matches e) line a
    simple_matches (simple.AssignCall place c) line a =
        match_then Soft here _ _ (λ result by. store_result here (ways ar structs here params place) result line a)
        (λ result by. store_result here (ways br structs here params place) result line a)
        (called_matches c line) (λ result. store_result_matches _ _ (way_matches place) result line a)
    simple_matches (simple.Call c) line a = match_then Soft here _ _ (λ result by. leave Next a)
        (λ result by. leave Next a) (called_matches c line) (λ result. leave_matches Next a)
    simple_matches (simple.Malloc place count cells) line a =
        allocate_at_matches _ _ _ _ (way_matches place) (count_matches count) cells line a
    simple_matches (simple.Free e) line a = free_value_matches _ _ (way_matches e) line a

    pub part_matches : (part : Option TypedSimple) →
        ActsMatch (λ by. part_does ar structs here params by part) (λ by. part_does br structs here params by part)
    part_matches None = leave_matches Next
    part_matches (Some s) = simple_matches s.kind s.line

    abbrev Both : TypedStmt → Type 0
    Both stmt = InBoth (λ arith by. stmt_does arith structs here params by stmt)

    inner : (block : List TypedStmt) → Each Both block →
        InBoth (λ arith by. block_does arith structs here params by block)
    inner block h = match_all Soft here _ _ block h

    abbrev layered : Arith → TypedStmtKind-F TypedStmtKind TypedStmt → ℕ → Calls → Acts
    layered arith k line by = layer_of _ _ (kind_step arith structs here params by) stmt_step k line

    abbrev tested : Arith → TypedExpr → ℕ → Calls → Acts
    tested arith cond line by = test here (ways arith structs here params cond) line

    looped : (cond : TypedExpr) (line : ℕ) (block : List TypedStmt) → Each Both block → (f : Arith → Calls → Acts) →
        InBoth f → InBoth (λ arith by. loop (test here (ways arith structs here params cond) line)
        (block_does arith structs here params by block) (f arith by))
    looped cond line block h f next = match_loop Soft here (tested ar cond line) (tested br cond line)
        (λ by. block_does ar structs here params by block) (λ by. block_does br structs here params by block) (f ar)
        (f br) (test_matches _ _ (way_matches cond) line) (inner block h) next

    layer_matches : (line : ℕ) (k : TypedStmtKind-F TypedStmtKind TypedStmt) → Inside Both k →
        InBoth (λ arith. layered arith k line)
    layer_matches line layer.Empty h a = leave_matches Next a
    layer_matches line (layer.Assign place e) h a = simple_matches (simple.Assign place e) line a
    layer_matches line (layer.AssignCall place c) h a = simple_matches (simple.AssignCall place c) line a
    layer_matches line (layer.Call c) h a = simple_matches (simple.Call c) line a
    layer_matches line (layer.Malloc place count cells) h a = simple_matches (simple.Malloc place count cells) line a
    layer_matches line (layer.Free e) h a = simple_matches (simple.Free e) line a
    layer_matches line (layer.If cond x y) h a = match_then Soft here _ _
        (λ v by s. choose v (block_does ar structs here params by x a s) (block_does ar structs here params by y a s))
        (λ v by s. choose v (block_does br structs here params by x a s) _)
        (given_matches _ _ _ (way_matches cond) line) (λ v. choose_matches v _ _ _ _ (inner x h.0 a) (inner y h.1 a))
    layer_matches line (layer.While cond x) h a = looped cond line x h (λ arith by. leave Next) (leave_matches Next) a
    layer_matches line (layer.For first cond next x) h a = match_follow Soft here in_order
        (λ by. part_does ar structs here params by first a) (λ by. part_does br structs here params by first a) _ _
        (part_matches first a)
        (looped cond line x h (λ arith by. part_does arith structs here params by next) (part_matches next))
    layer_matches line layer.Break h a = leave_matches Break a
    layer_matches line layer.Continue h a = leave_matches Continue a
    layer_matches line layer.Return h a = leave_matches (Return None) a
    layer_matches line (layer.ReturnValue e) h a = match_then Soft here _ _ (λ v by. leave (Return _) a)
        (λ v by. leave _ a) (given_matches want.Value _ _ (way_matches e) line) (λ v. leave_matches _ a)
    layer_matches line (layer.ReturnCall c) h a = match_then Soft here _ _ (λ result by. leave (Return result) a)
        (λ result by. leave _ a) (called_matches c line) (λ result. leave_matches (Return result) a)

    -- a statement does what its layer does
    layer_is : (arith : Arith) (line : ℕ) (k : TypedStmtKind-F TypedStmtKind TypedStmt) →
        layered arith k line ≡ (λ by. stmt_does arith structs here params by (on_line line k))
    layer_is arith line k = λ i by. sym (stmt_at _ _ (kind_step arith structs here params by) stmt_step line k) i

    stmt_matches : (stmt : TypedStmt) → Both stmt
    stmt_matches = stmt_induction Both (λ line k h. subst
        (λ x. ActsMatch x (λ by. stmt_does br structs here params by (on_line line k))) (layer_is ar line k)
        (subst (ActsMatch _) (layer_is br line k) (layer_matches line k h)))

    pub block_matches : (block : List TypedStmt) →
        ActsMatch (λ by. block_does ar structs here params by block) (λ by. block_does br structs here params by block)
    block_matches block = inner block (everywhere Both stmt_matches block)

    init_matches : (k : ℕ) (local : TypedLocal) (init : Option TypedExpr) →
        InBoth (λ arith by. init_does arith structs here params k local init)
    init_matches k local None = leave_matches Next
    init_matches k local (Some e) =
        let place = at_place local.ty (λ blocks. Ok (variable_at here params (Local k))) in
        assign_matches place place _ _ (λ w blocks. alike refl) (way_matches e) local.line

    inits_match : (k : ℕ) (locals : List TypedLocal) →
        InBoth (λ arith by. all_do (inits_do arith structs here params k locals))
    inits_match k [] a = leave_matches Next a
    inits_match k (local ∷ locals) a =
        match_follow Soft here in_order (λ by. init_does ar structs here params k local local.init a)
        (λ by. init_does br structs here params k local local.init a)
        (λ by. all_do (inits_do ar structs here params _ locals))
        (λ by. all_do (inits_do br structs here params _ locals)) (init_matches k local local.init a)
        (inits_match (suc k) locals)

    pub body_matches : (f : TypedFunction) →
        ActsMatch (λ by. body_does ar structs here params by f) (λ by. body_does br structs here params by f)
    body_matches f a = match_follow Soft here in_order (λ by. all_do (inits_do ar structs here params 0 f.locals) a)
        (λ by. all_do (inits_do br structs here params 0 f.locals) a)
        (λ by. block_does ar structs here params by f.body) (λ by. block_does br structs here params by f.body)
        (inits_match 0 f.locals a) (block_matches f.body)

  brace_matches : (has_result is_main : Bool) (line : ℕ) →
      Match Soft here (λ by. at_brace has_result is_main line here) (λ by. at_brace has_result is_main line here)
  brace_matches true false line =
      match_computed Soft here line (λ blocks. Err NoReturn) (λ blocks. Err NoReturn) (λ blocks. alike refl)
  brace_matches _ _ line = match_reached Soft here _

  pub closed_matches : (exit : Exit) (has_result is_main : Bool) (line : ℕ) →
      Match Soft here (λ by. closed exit has_result is_main line here) (λ by. closed exit has_result is_main line here)
  closed_matches (Return v) has_result is_main line = match_reached Soft here v
  closed_matches _ has_result is_main line = brace_matches _ is_main line

-- A program under two arithmetics, of which the second gives what the first does or the first blames: what its
-- functions do matches.

-- a list of doings, each related to the one at its place
abbrev pub Pairs : {A B : Type 0} → (A → B → Type 0) → List A → List B → Type 0
Pairs Q [] [] = Unit {0}
Pairs Q (x ∷ xs) (y ∷ ys) = Q x y × Pairs Q xs ys
Pairs Q _ _ = ⊥

pub meets_at : {A : Type 0} (Q : A → A → Type 0) (xs ys : List A) (i : ℕ) → Pairs Q xs ys →
    Meets Q (slice_get xs i) (slice_get ys i)
meets_at Q [] [] i h = tt
meets_at Q (x ∷ xs) (y ∷ ys) zero h = h.0
meets_at Q (x ∷ xs) (y ∷ ys) (suc i) h = meets_at Q xs ys i h.1
meets_at Q _ _ i h = absurd h

pub lists_at : {A : Type 0} (Q : A → A → Type 0) (xss yss : List (List A)) (i : ℕ) → Pairs (Pairs Q) xss yss →
    Pairs Q (slice_index_or xss i []) (slice_index_or yss i [])
lists_at Q [] [] i h = tt
lists_at Q (x ∷ xs) (y ∷ ys) zero h = h.0
lists_at Q (x ∷ xs) (y ∷ ys) (suc i) h = lists_at Q xs ys i h.1
lists_at Q _ _ i h = absurd h

module _ (Soft : Cause → Type 0) (ar br : Arith) (arith : ArithKeeps Soft ar br) where
  of_function : (main : ℕ) (structs : List TypedStruct) (f : TypedFunction) →
      FunctionsMatch Soft (function_of ar main structs f) (function_of br main structs f)
  of_function main structs f = record {
    cells = refl;
    frame_size = refl;
    does = λ here. match_then Soft here _ _ (λ left by s. closed _ _ _ _ here s) (λ left by s. closed _ _ _ _ here s)
        (body_matches Soft here ar br arith structs _ f tt) (λ left. closed_matches Soft here _ _ _ _);
  }

  of_functions : (main : ℕ) (structs : List TypedStruct) (fs : List TypedFunction) →
      Pairs (FunctionsMatch Soft) (map (function_of ar main structs) fs) (map (function_of br main structs) fs)
  of_functions main structs [] = tt
  of_functions main structs (f ∷ fs) = (of_function main structs f, of_functions main structs fs)

  of_sections : (main : ℕ) (sections : List TypedSection) →
      Pairs (Pairs (FunctionsMatch Soft)) (map (functions_in ar main) sections) (map (functions_in br main) sections)
  of_sections main [] = tt
  of_sections main (section ∷ sections) = (of_functions main _ section.functions, of_sections main sections)

  pub program_matches : (program : ProgramTree) →
      DenotationsMatch Soft (denotations_of ar program) (denotations_of br program)
  program_matches program = record {
    interfaces = refl;
    functions = λ comp number. meets_at _ _ _ number
        (lists_at _ (denotations_of ar program).functions (denotations_of br program).functions comp (of_sections _ _));
    entered = λ comp entry. refl;
  }

-- an arithmetic keeps what it gives itself
pub itself_keeps : (Soft : Cause → Type 0) (arith : Arith) → ArithKeeps Soft arith arith
itself_keeps Soft arith = record { binary = λ unsigned o a b. alike refl; negated = λ unsigned a. alike refl }

pub program_obeys : (arith : Arith) (program : ProgramTree) → Obedient (denotations_of arith program)
program_obeys arith program = program_matches Never arith arith (itself_keeps Never arith) program
