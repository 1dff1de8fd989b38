-- Worked code that the rules allow, and code that each of them refuses.
use Rattle.sc_tac.proofs.Common.{BadType, Bool, Err, Export, IsFunction, IsProgram, IsTrue, List, Main, None, Some}
use Rattle.sc_tac.proofs.Common.{TacStmt-F, [], arith, c_arith, calls_exports, calls_imports, calls_own}
use Rattle.sc_tac.proofs.Common.{enters_by_words, entry_known, entry_weight, everywhere, false, has_elements, has_none}
use Rattle.sc_tac.proofs.Common.{has_operands, has_words, is_assigned_first, is_entered, names_own_global}
use Rattle.sc_tac.proofs.Common.{names_own_object, names_own_temps, operated, passes_few, refl, returns_result}
use Rattle.sc_tac.proofs.Common.{stray_break, stray_continue, subst, sym, true, weight, ℕ, ◌&&◌, ◌*◌, ◌+◌, ◌<◌, ◌∙◌}
use Rattle.sc_tac.proofs.Common.{◌∷◌, ◌≡◌, ◌≤◌}
use Rattle.sc_core.specs.declared.value.Value.TheVariants.{Null, Word}
use Rattle.sc_base.specs.declared.op.BinaryOp.TheVariants as op
use Rattle.sc_event.specs.declared.interface.Scalar.TheVariants as scalar
use Rattle.sc_tac.specs.declared.stmt.TacOp.TheVariants as tacop
use Rattle.sc_tac.specs.declared.stmt.TacStmt.TheOpen as tac
use Rattle.sc_tac.proofs.Shapes.{Shape, Done, Line, Fork, Cycle, stmts}
use Rattle.sc_tac.proofs.Plans.{Plan, Sheet, function, section, program, weight_is, shape_passes, everywhere_is}
use Rattle.sc_tac.proofs.Plans.{has_none_is, assigned_first_is, all_assigned_is}
use Rattle.sc_tac.proofs.Runs.{word, output, give, only_main, main_with, skips_two, int_global, across_interfaces}
use Rattle.sc_tac.proofs.Runs.{asking, answering, caller, callee, across}

-- the loop with a `continue` keeps every rule
pub the_loop_is_allowed : IsFunction (function (main_with 14 (1 ∷ []) 20 skips_two))
the_loop_is_allowed = record {
  few_params = omega arith;
  few_nodes = omega arith;
  few_temps = omega arith;
  light = subst (λ w. entry_weight 0 + w < 24 * 20) (sym (weight_is skips_two)) (omega arith);
  params_stored = omega arith;
  words_enter = refl;
  own_temps = everywhere_is (names_own_temps 14) skips_two;
  own_objects = everywhere_is (names_own_object 1) skips_two;
  words = everywhere_is has_words skips_two;
  elements = everywhere_is has_elements skips_two;
  operands = everywhere_is has_operands skips_two;
  few_arguments = everywhere_is passes_few skips_two;
  results_returned = everywhere_is (returns_result true) skips_two;
  breaks_in_loops = has_none_is stray_break skips_two;
  continues_in_bodies = has_none_is stray_continue skips_two;
  assigned_first = all_assigned_is 14 skips_two;
}

pub a_foreign_temporary : everywhere (names_own_temps 1) (stmts (word 1 0 Done)) ≡ false
a_foreign_temporary = everywhere_is (names_own_temps 1) (word 1 0 Done)

pub a_foreign_object : everywhere (names_own_object 1) (stmts (Fork 0 Done (Line (tac.ObjectPlace 1 1) Done) Done)) ≡
    false
a_foreign_object = everywhere_is (names_own_object 1) (Fork 0 Done (Line (tac.ObjectPlace 1 1) Done) Done)

pub no_word : everywhere has_words (stmts (word 0 4294967296 Done)) ≡ false
no_word = everywhere_is has_words (word 0 4294967296 Done)

-- how many elements of `cells` cells two places are apart
abbrev counted : ℕ → Shape
counted cells = Line (tac.Op 2 (tacop.PointerDifference cells) 0 (Some 1)) Done

pub an_element_without_cells : everywhere has_elements (stmts (counted 0)) ≡ false
an_element_without_cells = everywhere_is has_elements (counted 0)

pub an_element_too_large : everywhere has_elements (stmts (counted 536870912)) ≡ false
an_element_too_large = everywhere_is has_elements (counted 536870912)

-- words aren't compared as pointers, and other operators don't compare
pub a_compared_word : operated c_arith [] (tacop.PointerCompare op.Equal) (Word 0) Null ≡ Err BadType
a_compared_word = refl

pub no_comparison : operated c_arith [] (tacop.PointerCompare op.Sub) Null Null ≡ Err BadType
no_comparison = refl

pub one_operand_for_a_sum : everywhere has_operands
    (stmts (Line (tac.Op 1 (tacop.Binary op.Add scalar.Int) 0 None) Done)) ≡ false
one_operand_for_a_sum = everywhere_is has_operands (Line (tac.Op 1 (tacop.Binary op.Add scalar.Int) 0 None) Done)

pub nine_arguments : everywhere passes_few
    (stmts (Line (tac.CallOwn None 0 (0 ∷ 0 ∷ 0 ∷ 0 ∷ 0 ∷ 0 ∷ 0 ∷ 0 ∷ 0 ∷ [])) Done)) ≡ false
nine_arguments = everywhere_is passes_few (Line (tac.CallOwn None 0 (0 ∷ 0 ∷ 0 ∷ 0 ∷ 0 ∷ 0 ∷ 0 ∷ 0 ∷ 0 ∷ [])) Done)

pub a_value_of_no_result : everywhere (returns_result false) (stmts (give 0)) ≡ false
a_value_of_no_result = everywhere_is (returns_result false) (give 0)

pub no_value_of_a_result : everywhere (returns_result true) (stmts (Line (tac.Return None) Done)) ≡ false
no_value_of_a_result = everywhere_is (returns_result true) (Line (tac.Return None) Done)

pub a_break_outside : has_none stray_break (stmts (Fork 0 (Line tac.Break Done) Done Done)) ≡ false
a_break_outside = has_none_is stray_break (Fork 0 (Line tac.Break Done) Done Done)

pub a_continue_outside : has_none stray_continue (stmts (Line tac.Continue Done)) ≡ false
a_continue_outside = has_none_is stray_continue (Line tac.Continue Done)

pub a_continue_in_a_head : has_none stray_continue (stmts (Cycle (Line tac.Continue Done) Done Done Done)) ≡ false
a_continue_in_a_head = has_none_is stray_continue (Cycle (Line tac.Continue Done) Done Done Done)

pub a_continue_in_next : has_none stray_continue (stmts (Cycle Done Done (Line tac.Continue Done) Done)) ≡ false
a_continue_in_next = has_none_is stray_continue (Cycle Done Done (Line tac.Continue Done) Done)

-- a temporary is read before it is assigned: at once, or where one of two paths assigns it
pub read_at_once : is_assigned_first 0 (stmts (give 0)) ≡ false
read_at_once = assigned_first_is 0 (give 0)

pub assigned_on_one_path : is_assigned_first 1 (stmts (word 0 1 (Fork 0 (word 1 2 Done) Done (give 1)))) ≡ false
assigned_on_one_path = assigned_first_is 1 (word 0 1 (Fork 0 (word 1 2 Done) Done (give 1)))

pub assigned_on_both_paths : is_assigned_first 1
    (stmts (word 0 1 (Fork 0 (word 1 2 Done) (word 1 3 Done) (give 1)))) ≡ true
assigned_on_both_paths = assigned_first_is 1 (word 0 1 (Fork 0 (word 1 2 Done) (word 1 3 Done) (give 1)))

pub assigned_where_control_stays : is_assigned_first 1
    (stmts (word 0 1 (Fork 0 (word 1 2 Done) (give 0) (give 1)))) ≡ true
assigned_where_control_stays = assigned_first_is 1 (word 0 1 (Fork 0 (word 1 2 Done) (give 0) (give 1)))

-- before a loop is too early for a read in it, and so is an earlier part of the loop
pub assigned_before_the_loop : is_assigned_first 0 (stmts (word 0 1 (Cycle Done (output 0 Done) Done Done))) ≡ false
assigned_before_the_loop = assigned_first_is 0 (word 0 1 (Cycle Done (output 0 Done) Done Done))

pub assigned_in_the_head : is_assigned_first 0 (stmts (Cycle (word 0 1 Done) (output 0 Done) Done Done)) ≡ false
assigned_in_the_head = assigned_first_is 0 (Cycle (word 0 1 Done) (output 0 Done) Done Done)

pub assigned_in_the_body : is_assigned_first 0 (stmts (Cycle Done (word 0 1 Done) (output 0 Done) Done)) ≡ false
assigned_in_the_body = assigned_first_is 0 (Cycle Done (word 0 1 Done) (output 0 Done) Done)

-- a read after the loop, which the body may leave before the head assigns
pub read_after_the_loop : is_assigned_first 0
    (stmts (Cycle (word 0 1 Done) (Line tac.Break Done) Done (output 0 Done))) ≡ false
read_after_the_loop = assigned_first_is 0 (Cycle (word 0 1 Done) (Line tac.Break Done) Done (output 0 Done))

-- a parameter of three cells gets no word
pub a_struct_from_outside : enters_by_words (Some (Export 0)) 2 (1 ∷ 3 ∷ []) ≡ false
a_struct_from_outside = refl

-- too much code and too many temporaries for the nodes
pub heavy_code : (IsFunction (function (main_with 1 [] 1 (word 0 0 (output 0 (give 0)))))) → ⊥
heavy_code kept =
    let light : entry_weight 0 + weight (stmts (word 0 0 (output 0 (give 0)))) < 24 = kept.light in
    omega (arith, subst (λ w. entry_weight 0 + w < 24) (weight_is (word 0 0 (output 0 (give 0)))) light)

pub too_many_temporaries : (IsFunction (function (main_with 30 [] 20 Done))) → ⊥
too_many_temporaries kept = let few : 30 ≤ 20 = kept.few_temps in omega (arith, few)

-- a function without code, of `params` parameters, variables of these sizes and `nodes` nodes
abbrev hollow : ℕ → List ℕ → ℕ → Plan
hollow params objects nodes =
    record {
      comp = 0;
      entry = None;
      params = params;
      result = false;
      temps = 0;
      objects = objects;
      nodes = nodes;
      body = Done;
    }

pub too_many_parameters : IsFunction (function (hollow 9 (1 ∷ 1 ∷ 1 ∷ 1 ∷ 1 ∷ 1 ∷ 1 ∷ 1 ∷ 1 ∷ []) 10)) → ⊥
too_many_parameters kept = let few : 9 ≤ 8 = kept.few_params in omega (arith, few)

pub a_parameter_without_variable : IsFunction (function (hollow 2 (1 ∷ []) 3)) → ⊥
a_parameter_without_variable kept = let stored : 2 ≤ 1 = kept.params_stored in omega (arith, stored)

pub too_many_nodes : IsFunction (function (hollow 0 [] 16777217)) → ⊥
too_many_nodes kept = let few : 16777217 ≤ 16777216 = kept.few_nodes in omega (arith, few)

-- what a program's statements name
pub a_foreign_global : everywhere
    (names_own_global only_main 0 (section (record { globals = int_global ∷ []; plans = [] })))
    (stmts (Line (tac.GlobalPlace 0 1) Done)) ≡ false
a_foreign_global =
    everywhere_is (names_own_global only_main 0 (section (record { globals = int_global ∷ []; plans = [] })))
    (Line (tac.GlobalPlace 0 1) Done)

-- a section of one function with a result and two parameters, one of which has three cells
abbrev wide : Sheet
wide = record {
  globals = [];
  plans =
      record {
        comp = 0;
        entry = None;
        params = 2;
        result = false;
        temps = 0;
        objects = 1 ∷ 3 ∷ [];
        nodes = 3;
        body =
            Done;
      } ∷
      record {
        comp = 0;
        entry = None;
        params = 1;
        result = false;
        temps = 0;
        objects = 1 ∷ [];
        nodes = 2;
        body =
            Done;
      } ∷ [];
}

pub a_struct_argument : everywhere (calls_own only_main 0 (section wide))
    (stmts (Line (tac.CallOwn None 0 (0 ∷ 0 ∷ [])) Done)) ≡ false
a_struct_argument = everywhere_is (calls_own only_main 0 (section wide)) (Line (tac.CallOwn None 0 (0 ∷ 0 ∷ [])) Done)

pub a_missing_argument : everywhere (calls_own only_main 0 (section wide)) (stmts (Line (tac.CallOwn None 1 []) Done)) ≡
    false
a_missing_argument = everywhere_is (calls_own only_main 0 (section wide)) (Line (tac.CallOwn None 1 []) Done)

pub a_result_of_none : everywhere (calls_own only_main 0 (section wide))
    (stmts (Line (tac.CallOwn (Some 0) 1 (0 ∷ [])) Done)) ≡ false
a_result_of_none = everywhere_is (calls_own only_main 0 (section wide)) (Line (tac.CallOwn (Some 0) 1 (0 ∷ [])) Done)

pub a_missing_function : everywhere (calls_own only_main 0 (section wide)) (stmts (Line (tac.CallOwn None 2 []) Done)) ≡
    false
a_missing_function = everywhere_is (calls_own only_main 0 (section wide)) (Line (tac.CallOwn None 2 []) Done)

pub two_arguments_for_one : everywhere (calls_exports across_interfaces 0 (section wide))
    (stmts (Line (tac.CallCross None 1 0 (0 ∷ 0 ∷ [])) Done)) ≡ false
two_arguments_for_one =
    everywhere_is (calls_exports across_interfaces 0 (section wide)) (Line (tac.CallCross None 1 0 (0 ∷ 0 ∷ [])) Done)

pub what_is_not_imported : everywhere (calls_imports across_interfaces 0 (section wide))
    (stmts (Line (tac.Input (Some 0)) Done)) ≡ false
what_is_not_imported =
    everywhere_is (calls_imports across_interfaces 0 (section wide)) (Line (tac.Input (Some 0)) Done)

pub an_export_without_function : is_entered (Export 0) 1 true (section wide) ≡ false
an_export_without_function = refl

pub an_entry_of_no_export : entry_known across_interfaces 1 (Some (Export 1)) ≡ false
an_entry_of_no_export = refl

pub another_main : entry_known across_interfaces 1 (Some Main) ≡ false
another_main = refl

-- the function of another compartment, no function that is `main`, and a compartment without section
pub a_foreign_compartment : IsProgram (program across_interfaces (callee ∷ callee ∷ [])) → ⊥
a_foreign_compartment kept = let own : false ≡ true = kept.numbers in absurd (cc)

pub no_main : IsProgram (program only_main (wide ∷ [])) → ⊥
no_main kept = let there : false ≡ true = kept.main_there in absurd (cc)

pub a_missing_section : IsProgram (program across_interfaces (caller ∷ [])) → ⊥
a_missing_section kept = let same : 1 ≡ 2 = kept.sections in omega (arith, same)

-- a test of the two functions of the call across
within : (test other : TacStmt-F Bool → Bool) → shape_passes test asking ≡ true →
    shape_passes other answering ≡ true →
    IsTrue ((everywhere test (stmts asking) && true) && ((everywhere other (stmts answering) && true) && true))
within test other a b =
    λ i. ((everywhere_is test asking ∙ a) i && true) && (((everywhere_is other answering ∙ b) i && true) && true)

-- the call across keeps every rule of programs
pub the_call_is_allowed : IsProgram (program across_interfaces across)
the_call_is_allowed = record {
  sections = refl;
  numbers = refl;
  globals =
      within (names_own_global across_interfaces 0 (section caller))
      (names_own_global across_interfaces 1 (section callee)) refl refl;
  own_calls =
      within (calls_own across_interfaces 0 (section caller)) (calls_own across_interfaces 1 (section callee)) refl
      refl;
  cross_calls =
      within (calls_exports across_interfaces 0 (section caller))
      (calls_exports across_interfaces 1 (section callee)) refl refl;
  imported =
      within (calls_imports across_interfaces 0 (section caller))
      (calls_imports across_interfaces 1 (section callee)) refl refl;
  exported = refl;
  main_there = refl;
  entries = refl;
}
