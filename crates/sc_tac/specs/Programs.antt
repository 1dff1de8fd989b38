-- What a program of three-address code keeps.
use Rattle.sc_tac.specs.Common.{Entry, Export, Main, truth}
use Rattle.sc_event.specs.Prelude.{comp_at, export_at, imports, is_function, is_input, is_output}
use Rattle.std.specs.Prelude.{◌≡◌, ℕ, suc, ◌+◌, Bool, true, false, not, ◌&&◌, ◌||◌, ◌==◌, nat_lt, List, [], ◌∷◌, length}
use Rattle.std.specs.Prelude.{Option, None, Some, is_some, slice_get, IsTrue}
use Rattle.std.specs.Bool.{beq}
use Rattle.std.specs.List.{list_all}
use Rattle.sc_event.specs.declared.interface.Interface.{Interface}
use Rattle.sc_event.specs.declared.interface.Interfaces.{Interfaces}
use Rattle.sc_event.specs.declared.interface.Proto.{Proto}
use Rattle.sc_tac.specs.declared.function.TacFnTree.{TacFnTree}
use Rattle.sc_tac.specs.declared.program.TacSection.{TacSection}
use Rattle.sc_tac.specs.declared.program.TacTree.{TacTree}
use Rattle.sc_tac.specs.declared.stmt.TacStmt.{TacStmt-F}
use Rattle.sc_tac.specs.declared.stmt.TacStmt.TheOpen as tac
use Rattle.sc_tac.specs.Functions.{passes_words}
use Rattle.sc_tac.specs.Parts.{everywhere}

-- a result is taken only where there is one
abbrev pub takes_result : Option ℕ → Bool → Bool
takes_result dest result = not (is_some dest) || result

-- the function of the section takes `count` arguments, and its parameters are words
abbrev pub own_call_fits : Option TacFnTree → Option ℕ → ℕ → Bool
own_call_fits None dest count = false
own_call_fits (Some f) dest count =
    f.params == count && (passes_words f.params f.objects && takes_result dest f.result)

-- the export takes `count` arguments
abbrev pub cross_call_fits : Option Proto → Option ℕ → ℕ → Bool
cross_call_fits None dest count = false
cross_call_fits (Some proto) dest count = length proto.params == count && takes_result dest (is_some proto.result)

module _ (interfaces : Interfaces) (comp : ℕ) (section : TacSection) where
  -- a statement names globals of its section
  abbrev pub names_own_global : TacStmt-F Bool → Bool
  names_own_global (tac.GlobalPlace dest global) = nat_lt global (length section.globals)
  names_own_global _ = true

  -- it calls functions of its section as they are
  abbrev pub calls_own : TacStmt-F Bool → Bool
  calls_own (tac.CallOwn dest function args) = own_call_fits (slice_get section.functions function) dest (length args)
  calls_own _ = true

  -- it calls exports as they are
  abbrev pub calls_exports : TacStmt-F Bool → Bool
  calls_exports (tac.CallCross dest to index args) = cross_call_fits (export_at interfaces to index) dest (length args)
  calls_exports _ = true

  -- it calls outside its compartment only what is imported
  abbrev pub calls_imports : TacStmt-F Bool → Bool
  calls_imports (tac.CallCross dest to index args) = imports interfaces comp (is_function to index)
  calls_imports (tac.Input dest) = imports interfaces comp is_input
  calls_imports (tac.Output value) = imports interfaces comp is_output
  calls_imports _ = true

-- a test of the statements of every function of a section
abbrev pub in_section : (TacStmt-F Bool → Bool) → TacSection → Bool
in_section test section = list_all {X = TacFnTree} (λ f. everywhere test f.body) section.functions

abbrev pub same_entry : Entry → Option Entry → Bool
same_entry entry None = false
same_entry Main (Some Main) = true
same_entry Main (Some (Export index)) = false
same_entry (Export index) (Some Main) = false
same_entry (Export index) (Some (Export other)) = index == other

abbrev pub count : {X : Type 0} → (X → Bool) → List X → ℕ
count test [] = 0
count test (x ∷ xs) = truth (test x) + count test xs

abbrev pub has_head : ℕ → Bool → TacFnTree → Bool
has_head params result f = f.params == params && beq f.result result

-- those of the functions that have this entry have such a head
abbrev pub are_headed : Entry → ℕ → Bool → List TacFnTree → Bool
are_headed entry params result functions =
    list_all {X = TacFnTree} (λ f. not (same_entry entry f.entry) || has_head params result f) functions

-- an entry belongs to exactly one function, which has `params` parameters and such a result
abbrev pub is_entered : Entry → ℕ → Bool → TacSection → Bool
is_entered entry params result section =
    count {X = TacFnTree} (λ f. same_entry entry f.entry) section.functions == 1 &&
    are_headed entry params result section.functions

-- exports, from this place on
abbrev pub are_entered : ℕ → List Proto → TacSection → Bool
are_entered index [] section = true
are_entered index (proto ∷ protos) section =
    is_entered (Export index) (length proto.params) (is_some proto.result) section &&
    are_entered (suc index) protos section

abbrev pub exports_entered : Option Interface → TacSection → Bool
exports_entered None section = false
exports_entered (Some interface) section = are_entered 0 interface.exports section

-- `main` is entered without parameters and gives a result
abbrev pub main_entered : Option TacSection → Bool
main_entered None = false
main_entered (Some section) = is_entered Main 0 true section

-- an entry is an export of the compartment, or `main` of the main compartment
abbrev pub entry_known : Interfaces → ℕ → Option Entry → Bool
entry_known interfaces comp None = true
entry_known interfaces comp (Some Main) = comp == interfaces.main
entry_known interfaces comp (Some (Export index)) = is_some (export_at interfaces comp index)

-- each section, from this number on
abbrev pub numbered : (ℕ → TacSection → Bool) → ℕ → List TacSection → Bool
numbered test comp [] = true
numbered test comp (section ∷ sections) = test comp section && numbered test (suc comp) sections

module _ (program : TacTree) where
  -- a test of every section with its number
  abbrev pub all_sections : (ℕ → TacSection → Bool) → Bool
  all_sections test = numbered test 0 program.sections

  -- a test of every function with the number of its section
  abbrev pub all_functions : (ℕ → TacFnTree → Bool) → Bool
  all_functions test = all_sections (λ comp section. list_all (test comp) section.functions)

  -- a test of every statement, with the interfaces, the number of its section and the section
  abbrev pub all_statements : (Interfaces → ℕ → TacSection → TacStmt-F Bool → Bool) → Bool
  all_statements test = all_sections (λ comp section. in_section (test program.interfaces comp section) section)

-- what a program keeps, whose functions keep what functions do
pub record IsProgram (program : TacTree) : Type 0 where
  pub sections : length program.sections ≡ length program.interfaces.comps
  pub numbers : IsTrue (all_functions program (λ comp f. f.comp == comp))
  pub globals : IsTrue (all_statements program names_own_global)
  pub own_calls : IsTrue (all_statements program calls_own)
  pub cross_calls : IsTrue (all_statements program calls_exports)
  pub imported : IsTrue (all_statements program calls_imports)
  pub exported :
      IsTrue (all_sections program (λ comp section. exports_entered (comp_at program.interfaces comp) section))
  pub main_there : IsTrue (main_entered (slice_get program.sections program.interfaces.main))
  pub entries : IsTrue (all_functions program (λ comp f. entry_known program.interfaces comp f.entry))
