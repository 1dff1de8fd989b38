-- A head as that of a function.
use Rattle.sc_parse.proofs.Common.{FunctionHead, FunctionParam, HeadTree, IsTrue, List, None, Option, ParamTree, Some}
use Rattle.sc_parse.proofs.Common.{[], ap, false≢true, function_head, function_param, has_nameless, head_of, map}
use Rattle.sc_parse.proofs.Common.{named_head, named_params, param_of, refl, sym, ℕ, ◌>>=◌, ◌∙◌, ◌∷◌, ◌≡◌}

params_named : (params : List FunctionParam) → named_params (map param_of params) ≡ Some params
params_named [] = refl
params_named (param ∷ rest) = ap (λ o. o >>= (λ others. Some (function_param param.ty param.name ∷ others)))
    (params_named rest)

pub head_named : (head : FunctionHead) (tree : HeadTree) → head_of head ≡ tree → named_head tree ≡ Some head
head_named head tree h = ap named_head (sym h) ∙ ap (λ o. o >>= (λ params. Some (function_head (head_of head) params)))
    (params_named head.params)

params_nameless : (params : List ParamTree) → IsTrue (has_nameless params) → named_params params ≡ None
params_nameless [] h = absurd (false≢true h)
params_nameless (param ∷ rest) h = go param.name refl h (params_nameless rest)
  where
    go : (o : Option (List ℕ)) → param.name ≡ o → IsTrue (has_nameless (param ∷ rest)) →
        (IsTrue (has_nameless rest) → named_params rest ≡ None) → named_params (param ∷ rest) ≡ None
    go None q e ih = rw q
    go (Some name) q e ih = rw q (ap (λ o. o >>= (λ others. Some (function_param param.ty name ∷ others)))
        (ih (rw q at e)))

pub head_nameless : (tree : HeadTree) → IsTrue (has_nameless tree.params) → named_head tree ≡ None
head_nameless tree h = ap (λ o. o >>= (λ params. Some (function_head tree params))) (params_nameless tree.params h)

pub ruleset names = (head_named, head_nameless)
