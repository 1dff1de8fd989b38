-- The heads of functions and of prototypes.
use Rattle.std.specs.Prelude.{Bool, List, map, Some, is_none}
use Rattle.std.specs.List.{list_any}
use Rattle.sc_ast.specs.declared.section.ParamTree.{ParamTree}
use Rattle.sc_ast.specs.declared.section.HeadTree.{HeadTree}
use Rattle.sc_ast.specs.declared.section.FunctionParam.{FunctionParam}
use Rattle.sc_ast.specs.declared.section.FunctionHead.{FunctionHead}

abbrev pub param_of : FunctionParam → ParamTree
param_of param = record { ty = param.ty; name = Some param.name }

-- the head of a function as that of a prototype
abbrev pub head_of : FunctionHead → HeadTree
head_of head = record { result = head.result; name = head.name; params = map param_of head.params; line = head.line }

abbrev pub is_nameless : ParamTree → Bool
is_nameless param = is_none param.name

-- a parameter has no name
abbrev pub has_nameless : List ParamTree → Bool
has_nameless params = list_any is_nameless params
