-- Functions and programs by plans, on which rules and meanings compute.
use Rattle.sc_tac.proofs.Common.{Arith, Bool, Codes, Denotations, Entry, Event, Function, Interfaces, List, Main}
use Rattle.sc_tac.proofs.Common.{Option, Reading, TacFnTree, TacSection, TacStmt-F, TacTree, TypedGlobal, []}
use Rattle.sc_tac.proofs.Common.{all_assigned_first, all_do, and_then, ap, branch_step, branches, closed}
use Rattle.sc_tac.proofs.Common.{code_denotations, code_function, code_functions, code_globals, code_meaning_by}
use Rattle.sc_tac.proofs.Common.{code_step, codes, everywhere, frame_bound, has_none, is_assigned_first, list_all, map}
use Rattle.sc_tac.proofs.Common.{no_temps, not, nothing_ahead, reading_step, refl, roles_in, row_first, row_fresh}
use Rattle.sc_tac.proofs.Common.{run_by, run_step, same_entry, scripted_code_by, scripted_step, some_hold, stopped_at}
use Rattle.sc_tac.proofs.Common.{suc, total, true, weight, weight_step, with_parts, zero, ℕ, ◌&&◌, ◌∷◌, ◌≡◌}
use Rattle.sc_core.specs.declared.run.SourceRun.{SourceRun}
use Rattle.sc_tac.proofs.Shapes.{Shape, stmts, rows, rows_are}

pub record Plan : Type 0 where
  pub comp : ℕ
  pub entry : Option Entry
  pub params : ℕ
  pub result : Bool
  pub temps : ℕ
  pub objects : List ℕ
  pub nodes : ℕ
  pub body : Shape

pub record Sheet : Type 0 where
  pub globals : List TypedGlobal
  pub plans : List Plan

abbrev pub function : Plan → TacFnTree
function plan = record {
  comp = plan.comp;
  name = codes "f";
  entry = plan.entry;
  params = plan.params;
  result = plan.result;
  temps = plan.temps;
  objects = plan.objects;
  nodes = plan.nodes;
  body = stmts plan.body;
}

abbrev pub section : Sheet → TacSection
section sheet = record { structs = []; globals = sheet.globals; functions = map function sheet.plans }

abbrev pub program : Interfaces → List Sheet → TacTree
program interfaces sheets = record { interfaces = interfaces; sections = map section sheets }

-- the weight, the branches, the tests and the paths of a shape
abbrev pub shape_weight : Shape → ℕ
shape_weight x = total (rows ℕ weight_step x)

pub weight_is : (x : Shape) → weight (stmts x) ≡ shape_weight x
weight_is x = ap total (rows_are ℕ weight_step x)

abbrev pub shape_branches : Shape → ℕ
shape_branches x = total (rows ℕ branch_step x)

pub branches_are : (x : Shape) → branches (stmts x) ≡ shape_branches x
branches_are x = ap total (rows_are ℕ branch_step x)

abbrev pub shape_passes : (TacStmt-F Bool → Bool) → Shape → Bool
shape_passes test x = list_all (λ holds. holds) (rows Bool (with_parts test) x)

pub everywhere_is : (test : TacStmt-F Bool → Bool) (x : Shape) → everywhere test (stmts x) ≡ shape_passes test x
everywhere_is test x = ap (list_all (λ holds. holds)) (rows_are Bool (with_parts test) x)

abbrev pub shape_has_none : (TacStmt-F Bool → Bool) → Shape → Bool
shape_has_none stray x = not (some_hold (rows Bool stray x))

pub has_none_is : (stray : TacStmt-F Bool → Bool) (x : Shape) → has_none stray (stmts x) ≡ shape_has_none stray x
has_none_is stray x = ap (λ tests. not (some_hold tests)) (rows_are Bool stray x)

abbrev pub shape_assigned_first : ℕ → Shape → Bool
shape_assigned_first t x =
    not (row_first (rows Reading (reading_step t) x) nothing_ahead) &&
    row_fresh (rows Reading (reading_step t) x) nothing_ahead

pub assigned_first_is : (t : ℕ) (x : Shape) → is_assigned_first t (stmts x) ≡ shape_assigned_first t x
assigned_first_is t x =
    ap (λ readings. not (row_first readings nothing_ahead) && row_fresh readings nothing_ahead)
    (rows_are Reading (reading_step t) x)

abbrev pub shape_all_assigned : ℕ → Shape → Bool
shape_all_assigned zero x = true
shape_all_assigned (suc t) x = shape_assigned_first t x && shape_all_assigned t x

pub all_assigned_is : (temps : ℕ) (x : Shape) → all_assigned_first temps (stmts x) ≡ shape_all_assigned temps x
all_assigned_is zero x = refl
all_assigned_is (suc t) x = λ i. assigned_first_is t x i && all_assigned_is t x i

-- the meaning
module _ (arith : Arith) where
  abbrev pub quick : Plan → Function
  quick plan =
      record {
        cells = plan.objects;
        frame_size = frame_bound plan.objects plan.nodes;
        does = λ by here s.
            and_then (all_do (rows Codes (code_step arith here by) plan.body) no_temps s) (λ left s.
            closed left.exit plan.result (same_entry Main plan.entry) 0 here s);
      }

  function_is : (plan : Plan) → code_function arith (function plan) ≡ quick plan
  function_is plan = λ i.
      record {
        cells = plan.objects;
        frame_size = frame_bound plan.objects plan.nodes;
        does = λ by here s.
            and_then (all_do (rows_are Codes (code_step arith here by) plan.body i) no_temps s) (λ left s.
            closed left.exit plan.result (same_entry Main plan.entry) 0 here s);
      }

  functions_are : (plans : List Plan) → map (code_function arith) (map function plans) ≡ map quick plans
  functions_are [] = refl
  functions_are (plan ∷ plans) = λ i. function_is plan i ∷ functions_are plans i

  sections_are : (sheets : List Sheet) → map (code_functions arith) (map section sheets) ≡
      map (λ sheet. map quick sheet.plans) sheets
  sections_are [] = refl
  sections_are (sheet ∷ sheets) = λ i. functions_are sheet.plans i ∷ sections_are sheets i

module _ (arith : Arith) (interfaces : Interfaces) (sheets : List Sheet) where
  abbrev pub quick_denotations : Denotations
  quick_denotations = record {
    interfaces = interfaces;
    functions = map (λ sheet. map (quick arith) sheet.plans) sheets;
    entered = (code_denotations arith (program interfaces sheets)).entered;
  }

  denotations_are : code_denotations arith (program interfaces sheets) ≡ quick_denotations
  denotations_are = λ i.
      record {
        interfaces = interfaces;
        functions = sections_are arith sheets i;
        entered = (code_denotations arith (program interfaces sheets)).entered;
      }

  module _ (inputs : List ℕ) (turns events : ℕ) where
    abbrev pub quick_meaning : SourceRun
    quick_meaning =
        stopped_at events
        (run_by quick_denotations (run_step quick_denotations) (code_globals (map section sheets)) inputs
        turns).behaviour

    pub meaning_is : code_meaning_by arith (program interfaces sheets) inputs turns events ≡ quick_meaning
    meaning_is =
        ap (λ denotations. stopped_at events
        (run_by denotations (run_step denotations) (code_globals (map section sheets)) inputs turns).behaviour)
        denotations_are

    abbrev pub quick_scripted : (ℕ → Bool) → List Event → SourceRun
    quick_scripted set trace =
        stopped_at events
        (run_by quick_denotations
        (scripted_step quick_denotations (roles_in interfaces.main set trace) (run_step quick_denotations))
        (code_globals (map section sheets)) inputs turns).behaviour

    pub scripted_is : (set : ℕ → Bool) (trace : List Event) →
        scripted_code_by arith (program interfaces sheets) set trace inputs turns events ≡ quick_scripted set trace
    scripted_is set trace =
        ap (λ denotations. stopped_at events
        (run_by denotations (scripted_step denotations (roles_in interfaces.main set trace) (run_step denotations))
        (code_globals (map section sheets)) inputs turns).behaviour) denotations_are
