-- Parameters with commas between them.
use Rattle.sc_ast.proofs.Common.{List, [], ap, arith, comma, drop, flat_map, flat_map-append, get_or, length, map}
use Rattle.sc_ast.proofs.Common.{param_of, param_words, params_words, piece_text, sym, text_of, ◌++◌, ◌∙◌, ◌∷◌, ◌≡◌}
use Rattle.sc_ast.proofs.Common.{◌≤◌}
use Rattle.sc_ast.specs.declared.section.FunctionParam.{FunctionParam}

-- the first parameter, and the others after it
pub first_param : (params : List FunctionParam) (first : FunctionParam) → first ≡ get_or params 0 first →
    1 ≤ length params → text_of (params_words (map param_of params)) ≡ text_of (param_words (param_of first)) ++
    text_of (flat_map (λ param. comma ++ param_words param) (map param_of (drop 1 params)))
first_param [] first h some = absurd (omega (arith, some))
first_param (p ∷ ps) first h some = flat_map-append piece_text (param_words (param_of p))
    (flat_map (λ param. comma ++ param_words param) (map param_of ps)) ∙ ap (λ q. text_of (param_words (param_of q)) ++
    text_of (flat_map (λ param. comma ++ param_words param) (map param_of ps))) (sym h)
