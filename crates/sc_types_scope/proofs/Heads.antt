-- The parameters of a function's head as those of a prototype.
use Rattle.sc_types_scope.proofs.Common.{FunctionParam, List, ParamTree, Text, [], ap, base_known, list_all, map, refl}
use Rattle.sc_types_scope.proofs.Common.{◌&&◌, ◌∷◌, ◌≡◌}
use Rattle.sc_ast.specs.Prelude.{param_of}

pub params-known : (tags : List Text) (params : List FunctionParam) →
    list_all {X = ParamTree} (λ param. base_known tags param.ty.base) (map param_of params) ≡
    list_all {X = FunctionParam} (λ param. base_known tags param.ty.base) params
params-known tags [] = refl
params-known tags (param ∷ params) = ap (λ rest. base_known tags param.ty.base && rest) (params-known tags params)

pub ruleset heads = (params-known)
