use Rattle.sc_back.proofs.Common.{after_comma, drop, flat_map, param_texts, suc, ◌++◌, ◌≡◌}
use Rattle.sc_back.proofs.head.append_more_params.Given as goal

-- those so far are there
abbrev pub invariant-loop-place : goal.invariant-loop-place
invariant-loop-place l =
    l.text ++ flat_map after_comma (param_texts (suc l.place) (drop l.place l.params)) ≡
    l.fn.text ++ flat_map after_comma (param_texts 1 l.params)
