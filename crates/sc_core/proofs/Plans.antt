-- Programs by plans, whose functions compute: the meaning of a program is the run of its plan's denotations.
use Rattle.sc_core.proofs.Common.{Acts, Arith, Bool, Calls, Denotations, Event, Function, Here, Interfaces, List, Local}
use Rattle.sc_core.proofs.Common.{Next, None, Ok, Option, Run, Some, Ty, TypedExpr, TypedGlobal, TypedStruct, []}
use Rattle.sc_core.proofs.Common.{all_do, and_then, ap, assign, at_place, bytes_eq, closed, codes, denotations_of}
use Rattle.sc_core.proofs.Common.{entry_in, follow, frame_bound, function_of, functions_in, globals_of, in_order}
use Rattle.sc_core.proofs.Common.{init_nodes, inits_do, is_some, leave, length, local_nodes, main_name, map, nodes}
use Rattle.sc_core.proofs.Common.{refl, roles_in, run_by, run_of, run_step, scripted_run_of, scripted_step, suc, total}
use Rattle.sc_core.proofs.Common.{variable_at, variables, ℕ, ◌&&◌, ◌+◌, ◌==◌, ◌∷◌, ◌≡◌}
use Rattle.sc_core.specs.declared.section.TypedSection.{TypedSection}
use Rattle.sc_core.specs.declared.section.TypedParam.{TypedParam}
use Rattle.sc_core.specs.declared.section.TypedLocal.{TypedLocal}
use Rattle.sc_core.specs.declared.section.TypedFunction.{TypedFunction}
use Rattle.sc_core.specs.declared.program.ProgramTree.{ProgramTree}
use Rattle.sc_core.proofs.Measures.{shape_nodes, nodes_is, lines_nodes, lines_nodes_are}
use Rattle.sc_core.proofs.Shapes.{Shape, expr, Lines, stmts, way, way_is, lines_do, lines_are}

-- a local, its initialiser and its line
pub record Slot : Type 0 where
  pub ty : Ty
  pub init : Option Shape
  pub line : ℕ

pub record Plan : Type 0 where
  pub name : List ℕ
  pub params : List Ty
  pub locals : List Slot
  pub result : Option Ty
  pub body : Lines
  pub close_line : ℕ

pub record Sheet : Type 0 where
  pub structs : List TypedStruct
  pub globals : List TypedGlobal
  pub plans : List Plan

abbrev pub param : Ty → TypedParam
param ty = record { name = codes "v"; ty = ty }

abbrev pub init_of : Option Shape → Option TypedExpr
init_of None = None
init_of (Some a) = Some (expr a)

abbrev pub local : Slot → TypedLocal
local slot = record { name = codes "v"; ty = slot.ty; init = init_of slot.init; line = slot.line }

abbrev pub function : Plan → TypedFunction
function plan =
    record {
      name = plan.name;
      params = map param plan.params;
      locals = map local plan.locals;
      result = plan.result;
      body = stmts plan.body;
      close_line = plan.close_line;
    }

abbrev pub section : Sheet → TypedSection
section sheet = record { structs = sheet.structs; globals = sheet.globals; functions = map function sheet.plans }

abbrev pub program : Interfaces → List Sheet → ProgramTree
program interfaces sheets = record { interfaces = interfaces; sections = map section sheets }

abbrev pub init_nodes_of : Option Shape → ℕ
init_nodes_of None = 0
init_nodes_of (Some a) = shape_nodes a

abbrev pub slot_nodes : Slot → ℕ
slot_nodes slot = suc (init_nodes_of slot.init)

init_nodes_is : (init : Option Shape) → init_nodes (init_of init) ≡ init_nodes_of init
init_nodes_is None = refl
init_nodes_is (Some a) = nodes_is a

slots_nodes_are : (slots : List Slot) → map local_nodes (map local slots) ≡ map slot_nodes slots
slots_nodes_are [] = refl
slots_nodes_are (slot ∷ slots) = λ i. suc (init_nodes_is slot.init i) ∷ slots_nodes_are slots i

abbrev pub plan_nodes : Plan → ℕ
plan_nodes plan = suc (length (map param plan.params)) + total (map slot_nodes plan.locals) + total
    (lines_nodes plan.body)

pub plan_nodes_is : (plan : Plan) → nodes (function plan) ≡ plan_nodes plan
plan_nodes_is plan = λ i. suc (length (map param plan.params)) + total (slots_nodes_are plan.locals i) + total
    (lines_nodes_are plan.body i)

module _ (arith : Arith) (structs : List TypedStruct) (here : Here) (params : ℕ) where
  abbrev pub slot_does : ℕ → Slot → Option Shape → Acts
  slot_does k slot None = leave Next
  slot_does k slot (Some a) = assign here (at_place slot.ty (λ blocks. Ok (variable_at here params (Local k))))
      (way arith structs here params a) slot.line

  abbrev pub slots_do : ℕ → List Slot → List Acts
  slots_do k [] = []
  slots_do k (slot ∷ slots) = slot_does k slot slot.init ∷ slots_do (suc k) slots

  pub inits_are : (k : ℕ) (slots : List Slot) → inits_do arith structs here params k (map local slots) ≡
      slots_do k slots
  inits_are k [] = refl
  inits_are k (slot ∷ slots) = with_init k slot slot.init (inits_are (suc k) slots) where
    with_init : (k : ℕ) (slot : Slot) (init : Option Shape) →
        inits_do arith structs here params (suc k) (map local slots) ≡ slots_do (suc k) slots →
        inits_do arith structs here params k (record (local slot) { init = init_of init } ∷ map local slots) ≡
        slot_does k slot init ∷ slots_do (suc k) slots
    with_init k slot None rest = λ i. leave Next ∷ rest i
    with_init k slot (Some a) rest = λ i.
        assign here (at_place slot.ty (λ blocks. Ok (variable_at here params (Local k))))
        (way_is arith structs here params a i) slot.line ∷ rest i

module _ (arith : Arith) (main : ℕ) where
  -- the function of a plan, by its nodes and by what its locals and its lines do
  abbrev made : List TypedStruct → Plan → ℕ → (Here → List Acts) → (Here → Calls → List Acts) → Function
  made structs plan nodes inits lines = record {
    cells = variables structs (function plan);
    frame_size = frame_bound (variables structs (function plan)) nodes;
    does = λ by here s. and_then (follow in_order (all_do (inits here) tt s) (all_do (lines here by))) (λ left s. closed
        left.exit (is_some plan.result) (here.comp == main && bytes_eq plan.name main_name) plan.close_line here s);
  }

  abbrev pub quick : List TypedStruct → Plan → Function
  quick structs plan = made structs plan (plan_nodes plan)
      (λ here. slots_do arith structs here (length (map param plan.params)) 0 plan.locals)
      (λ here by. lines_do arith structs here (length (map param plan.params)) by plan.body)

  pub function_is : (structs : List TypedStruct) (plan : Plan) →
      function_of arith main structs (function plan) ≡ quick structs plan
  function_is structs plan = λ i. made structs plan (plan_nodes_is plan i)
      (λ here. inits_are arith structs here (length (map param plan.params)) 0 plan.locals i)
      (λ here by. lines_are arith structs here (length (map param plan.params)) by plan.body i)

  pub functions_are : (structs : List TypedStruct) (plans : List Plan) →
      map (function_of arith main structs) (map function plans) ≡ map (quick structs) plans
  functions_are structs [] = refl
  functions_are structs (plan ∷ plans) = λ i. function_is structs plan i ∷ functions_are structs plans i

  abbrev pub quick_section : Sheet → List Function
  quick_section sheet = map (quick sheet.structs) sheet.plans

  pub sections_are : (sheets : List Sheet) → map (functions_in arith main) (map section sheets) ≡
      map quick_section sheets
  sections_are [] = refl
  sections_are (sheet ∷ sheets) = λ i. functions_are sheet.structs sheet.plans i ∷ sections_are sheets i

module _ (arith : Arith) (interfaces : Interfaces) (sheets : List Sheet) where
  abbrev pub quick_denotations : Denotations
  quick_denotations = record {
    interfaces = interfaces;
    functions = map (quick_section arith interfaces.main) sheets;
    entered = entry_in (program interfaces sheets);
  }

  pub denotations_are : denotations_of arith (program interfaces sheets) ≡ quick_denotations
  denotations_are = λ i. record {
    interfaces = interfaces;
    functions = sections_are arith interfaces.main sheets i;
    entered = entry_in (program interfaces sheets);
  }

  module _ (inputs : List ℕ) (turns : ℕ) where
    abbrev pub quick_run : Run
    quick_run = run_by quick_denotations (run_step quick_denotations) (globals_of (map section sheets)) inputs turns

    pub run_is : run_of arith (program interfaces sheets) inputs turns ≡ quick_run
    run_is = ap (λ denotations. run_by denotations (run_step denotations) (globals_of (map section sheets)) inputs
        turns) denotations_are

    abbrev pub quick_scripted : (ℕ → Bool) → List Event → Run
    quick_scripted set trace =
        run_by quick_denotations (scripted_step quick_denotations (roles_in interfaces.main set trace)
        (run_step quick_denotations))
        (globals_of (map section sheets)) inputs turns

    pub scripted_run_is : (set : ℕ → Bool) (trace : List Event) →
        scripted_run_of arith (program interfaces sheets) inputs turns set trace ≡ quick_scripted set trace
    scripted_run_is set trace =
        ap (λ denotations. run_by denotations
        (scripted_step denotations (roles_in interfaces.main set trace) (run_step denotations))
        (globals_of (map section sheets)) inputs turns) denotations_are
