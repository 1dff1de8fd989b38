-- The code of programs by plans: its meaning is the run of denotations that compute, where its code is known.
use Rattle.sc_lower.proofs.Common.{Arith, Codes, Denotations, Function, Interfaces, List, Local, Main, None, Option}
use Rattle.sc_lower.proofs.Common.{Parts, Plan, Shape, Sheet, Slot, Some, SourceRun, TacStmt, TypedStruct, [], all_do}
use Rattle.sc_lower.proofs.Common.{and_then, ap, assign, at_place, body_code, both, closed, code_denotations}
use Rattle.sc_lower.proofs.Common.{code_function, code_functions, code_globals, code_meaning_by, code_step, entry_of}
use Rattle.sc_lower.proofs.Common.{frame_bound, in_turn, init_code, init_of, inits_code, is_some, just, length, lone}
use Rattle.sc_lower.proofs.Common.{lowered_function, lowered_program, lowered_sections, map, no_temps, place_code}
use Rattle.sc_lower.proofs.Common.{plan_nodes, plan_nodes_is, program, refl, rows, rows_are, run_by, run_step}
use Rattle.sc_lower.proofs.Common.{same_entry, section, stmt_does, stopped_at, suc, variables, ℕ, ◌∙◌, ◌∷◌, ◌≡◌}
use Rattle.sc_core.proofs.Plans.{local, function}
use Rattle.sc_tac.proofs.Shapes.{stmts as tac_stmts, Shape as TacShape}
use Rattle.sc_lower.proofs.Shapes.{form, form_is, lines_code, lines_are}

module _ (structs : List TypedStruct) (params : ℕ) where
  abbrev pub slot_code : ℕ → Slot → Option Shape → Parts
  slot_code k slot None = just []
  slot_code k slot (Some a) = assign (at_place slot.ty (lone (place_code params (Local k)))) (form structs params a)

  abbrev pub slots_code : ℕ → List Slot → List Parts
  slots_code k [] = []
  slots_code k (slot ∷ slots) = slot_code k slot slot.init ∷ slots_code (suc k) slots

  slot_is : (k : ℕ) (slot : Slot) (init : Option Shape) → init_code structs params k (local slot) (init_of init)
      ≡ slot_code k slot init
  slot_is k slot None = refl
  slot_is k slot (Some a) =
      ap (assign (at_place slot.ty (lone (place_code params (Local k))))) (form_is structs params a)

  slots_are : (k : ℕ) (slots : List Slot) → inits_code structs params k (map local slots) ≡ slots_code k slots
  slots_are k [] = refl
  slots_are k (slot ∷ slots) = λ i. slot_is k slot slot.init i ∷ slots_are (suc k) slots i

abbrev pub plan_code : List TypedStruct → Plan → List TacStmt
plan_code structs plan =
    (both (in_turn (slots_code structs (length (function plan).params) 0 plan.locals))
    (in_turn (lines_code structs (length (function plan).params) plan.body)) 0).code

pub code_is : (structs : List TypedStruct) (plan : Plan) →
    (body_code structs (function plan) 0).code ≡ plan_code structs plan
code_is structs plan = λ i.
    (both (in_turn (slots_are structs (length (function plan).params) 0 plan.locals i))
    (in_turn (lines_are structs (length (function plan).params) plan.body i)) 0).code

-- the code of each function, by shapes
abbrev pub Emits : List TypedStruct → List Plan → List TacShape → Type 0
Emits structs [] [] = Unit {0}
Emits structs [] (x ∷ xs) = ⊥
Emits structs (plan ∷ plans) [] = ⊥
Emits structs (plan ∷ plans) (x ∷ xs) = (plan_code structs plan ≡ tac_stmts x) × Emits structs plans xs

abbrev pub AllEmit : List Sheet → List (List TacShape) → Type 0
AllEmit [] [] = Unit {0}
AllEmit [] (x ∷ xs) = ⊥
AllEmit (sheet ∷ sheets) [] = ⊥
AllEmit (sheet ∷ sheets) (x ∷ xs) = Emits sheet.structs sheet.plans x × AllEmit sheets xs

module _ (arith : Arith) (interfaces : Interfaces) where
  abbrev pub quick : ℕ → List TypedStruct → Plan → TacShape → Function
  quick comp structs plan x = record {
    cells = variables structs (function plan);
    frame_size = frame_bound (variables structs (function plan)) (plan_nodes plan);
    does = λ by here s.
        and_then (all_do (rows Codes (code_step arith here by) x) no_temps s) (λ left s.
        closed left.exit (is_some plan.result) (same_entry Main (entry_of interfaces comp plan.name)) 0 here s);
  }

  quick_is : (comp : ℕ) (structs : List TypedStruct) (plan : Plan) (x : TacShape) →
      plan_code structs plan ≡ tac_stmts x →
      code_function arith (lowered_function interfaces comp structs (function plan)) ≡ quick comp structs plan x
  quick_is comp structs plan x is = λ i. record {
    cells = variables structs (function plan);
    frame_size = frame_bound (variables structs (function plan)) (plan_nodes_is plan i);
    does = λ by here s.
        and_then (all_do ((ap (map (stmt_does arith here by)) (code_is structs plan ∙ is)
        ∙ rows_are Codes (code_step arith here by) x) i) no_temps s) (λ left s.
        closed left.exit (is_some plan.result) (same_entry Main (entry_of interfaces comp plan.name)) 0 here s);
  }

  abbrev pub quicks : ℕ → List TypedStruct → List Plan → List TacShape → List Function
  quicks comp structs [] xs = []
  quicks comp structs (plan ∷ plans) [] = []
  quicks comp structs (plan ∷ plans) (x ∷ xs) = quick comp structs plan x ∷ quicks comp structs plans xs

  quicks_are : (comp : ℕ) (structs : List TypedStruct) (plans : List Plan) (xs : List TacShape) →
      Emits structs plans xs →
      map (code_function arith) (map (lowered_function interfaces comp structs) (map function plans))
      ≡ quicks comp structs plans xs
  quicks_are comp structs [] [] h = refl
  quicks_are comp structs [] (x ∷ xs) h = absurd h
  quicks_are comp structs (plan ∷ plans) [] h = absurd h
  quicks_are comp structs (plan ∷ plans) (x ∷ xs) h =
      λ i. quick_is comp structs plan x h.0 i ∷ quicks_are comp structs plans xs h.1 i

  abbrev pub quick_sections : ℕ → List Sheet → List (List TacShape) → List (List Function)
  quick_sections comp [] xs = []
  quick_sections comp (sheet ∷ sheets) [] = []
  quick_sections comp (sheet ∷ sheets) (x ∷ xs) =
      quicks comp sheet.structs sheet.plans x ∷ quick_sections (suc comp) sheets xs

  quick_sections_are : (comp : ℕ) (sheets : List Sheet) (xs : List (List TacShape)) → AllEmit sheets xs →
      map (code_functions arith) (lowered_sections interfaces comp (map section sheets)) ≡ quick_sections comp sheets xs
  quick_sections_are comp [] [] h = refl
  quick_sections_are comp [] (x ∷ xs) h = absurd h
  quick_sections_are comp (sheet ∷ sheets) [] h = absurd h
  quick_sections_are comp (sheet ∷ sheets) (x ∷ xs) h = λ i.
      quicks_are comp sheet.structs sheet.plans x h.0 i ∷ quick_sections_are (suc comp) sheets xs h.1 i

  module _ (sheets : List Sheet) (xs : List (List TacShape)) where
    abbrev pub quick_denotations : Denotations
    quick_denotations = record {
      interfaces = interfaces;
      functions = quick_sections 0 sheets xs;
      entered = (code_denotations arith (lowered_program (program interfaces sheets))).entered;
    }

    abbrev pub quick_meaning : (inputs : List ℕ) (turns events : ℕ) → SourceRun
    quick_meaning inputs turns events =
        stopped_at events (run_by quick_denotations (run_step quick_denotations)
        (code_globals (lowered_sections interfaces 0 (map section sheets))) inputs turns).behaviour

    -- what lowered code means, where it is this
    pub lowered_is : AllEmit sheets xs → (inputs : List ℕ) (turns events : ℕ) →
        code_meaning_by arith (lowered_program (program interfaces sheets)) inputs turns events
        ≡ quick_meaning inputs turns events
    lowered_is h inputs turns events =
        ap (λ functions. stopped_at events (run_by (denotations functions) (run_step (denotations functions))
        (code_globals (lowered_sections interfaces 0 (map section sheets))) inputs turns).behaviour)
        (quick_sections_are 0 sheets xs h) where
          denotations : List (List Function) → Denotations
          denotations functions =
              record {
                interfaces = interfaces;
                functions = functions;
                entered = (code_denotations arith (lowered_program (program interfaces sheets))).entered;
              }
