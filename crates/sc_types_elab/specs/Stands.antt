-- Helping: what stands for the declarations of a section while its functions are built.
use Rattle.sc_types_elab.specs.Common.{FunctionTree, LocalTree, SectionTree, TypedLocal, globals_in, value_in}
use Rattle.std.specs.Prelude.{◌≡◌, ℕ, map, take}
use Rattle.std.specs.Option.{option_map}
use Rattle.sc_types_elab.specs.Sections.{type_of, global_variable, typed_param, local_variable, result_of}
use Rattle.sc_types_elab.specs.Sections as sections
use Rattle.sc_types_elab_expr.specs.declared.scope.SectionScope.{SectionScope}
use Rattle.sc_types_elab_expr.specs.declared.scope.FunctionScope.{FunctionScope}

-- the tags, the structs and the globals of the section
pub record Stands (scope : SectionScope) (section : SectionTree) : Type 0 where
  pub tags : scope.tags ≡ sections.tags section
  pub structs : scope.structs ≡ sections.structs section
  pub globals : scope.globals ≡ map (global_variable (sections.tags section)) (globals_in section.decls)

-- the parameters of the function, its first `count` locals, and the type of its result
pub record StandsIn (section : SectionTree) (tree : FunctionTree) (count : ℕ) (function : FunctionScope) : Type 0 where
  pub params : function.params ≡ map (typed_param (sections.tags section)) tree.head.params
  pub locals : function.locals ≡ map (local_variable (sections.tags section)) (take count tree.locals)
  pub result : function.result ≡ result_of section tree

-- a local whose initialiser sees these variables
abbrev pub local_in : SectionScope → FunctionScope → LocalTree → TypedLocal
local_in scope function local = record {
  name = local.name;
  ty = type_of scope.tags local.ty;
  init = option_map (value_in scope function (type_of scope.tags local.ty)) local.init;
  line = local.line;
}
