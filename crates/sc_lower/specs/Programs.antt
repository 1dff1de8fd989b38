-- The code of functions and programs.
use Rattle.sc_lower.specs.Common.{Entry, Interfaces, Local, ProgramTree, TypedExpr, TypedFunction, TypedLocal}
use Rattle.sc_lower.specs.Common.{TypedSection, TypedStruct, comp_at, main_name, nodes, variables}
use Rattle.std.specs.Prelude.{ℕ, suc, ◌&&◌, ◌==◌, if◌then◌else◌, bytes_eq, List, [], ◌∷◌, map, length, Option, None}
use Rattle.std.specs.Prelude.{Some, is_some}
use Rattle.std.specs.List.{position}
use Rattle.std.specs.Option.{option_map}
use Rattle.sc_event.specs.declared.interface.Interface.{Interface}
use Rattle.sc_event.specs.declared.interface.Proto.{Proto}
use Rattle.sc_event.specs.declared.row.Entry.TheVariants.{Main, Export}
use Rattle.sc_tac.specs.declared.function.TacFnTree.{TacFnTree}
use Rattle.sc_tac.specs.declared.program.TacSection.{TacSection}
use Rattle.sc_tac.specs.declared.program.TacTree.{TacTree}
use Rattle.sc_lower.specs.Expressions.{lone, at_place, place_code, forms}
use Rattle.sc_lower.specs.Statements.{Parts, just, both, in_turn, assign, block_code}

module _ (structs : List TypedStruct) (params : ℕ) where
  -- a local's initialiser is an assignment (C11 6.7.9p11)
  abbrev pub init_code : ℕ → TypedLocal → Option TypedExpr → Parts
  init_code k local None = just []
  init_code k local (Some e) = assign (at_place local.ty (lone (place_code params (Local k)))) (forms structs params e)

  abbrev pub inits_code : ℕ → List TypedLocal → List Parts
  inits_code k [] = []
  inits_code k (local ∷ locals) = init_code k local local.init ∷ inits_code (suc k) locals

-- the initialisers in order, then the statements
abbrev pub body_code : List TypedStruct → TypedFunction → Parts
body_code structs f =
    both (in_turn (inits_code structs (length f.params) 0 f.locals)) (block_code structs (length f.params) f.body)

abbrev pub exports_of : Option Interface → List Proto
exports_of None = []
exports_of (Some interface) = interface.exports

module _ (interfaces : Interfaces) (comp : ℕ) where
  -- the export of a function's name
  abbrev pub export_called : List ℕ → Option Entry
  export_called name =
      option_map Export (position {X = Proto} (λ proto. bytes_eq name proto.name)
      (exports_of (comp_at interfaces comp)))

  -- how a function of this name is entered: as `main` of the main compartment, as an export, or not from outside
  abbrev pub entry_of : List ℕ → Option Entry
  entry_of name = if comp == interfaces.main && bytes_eq name main_name then Some Main else export_called name

  abbrev pub lowered_function : List TypedStruct → TypedFunction → TacFnTree
  lowered_function structs f = record {
    comp = comp;
    name = f.name;
    entry = entry_of f.name;
    params = length f.params;
    result = is_some f.result;
    temps = (body_code structs f 0).next;
    objects = variables structs f;
    nodes = nodes f;
    body = (body_code structs f 0).code;
  }

  abbrev pub lowered_section : TypedSection → TacSection
  lowered_section section = record {
    structs = section.structs;
    globals = section.globals;
    functions = map (lowered_function section.structs) section.functions;
  }

-- each section, from this number on
abbrev pub lowered_sections : Interfaces → ℕ → List TypedSection → List TacSection
lowered_sections interfaces comp [] = []
lowered_sections interfaces comp (section ∷ sections) =
    lowered_section interfaces comp section ∷ lowered_sections interfaces (suc comp) sections

abbrev pub lowered_program : ProgramTree → TacTree
lowered_program program =
    record { interfaces = program.interfaces; sections = lowered_sections program.interfaces 0 program.sections }
