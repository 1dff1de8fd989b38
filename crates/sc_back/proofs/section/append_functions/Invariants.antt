use Rattle.sc_back.proofs.Common.{drop, functions_text, ◌++◌, ◌≡◌}
use Rattle.sc_back.proofs.section.append_functions.Given as goal

-- those so far are there
abbrev pub invariant-loop-place : goal.invariant-loop-place
invariant-loop-place l =
    l.text ++ functions_text l.interfaces l.rows l.place (drop l.place l.exports) ≡
    l.fn.text ++ functions_text l.interfaces l.rows 0 l.exports
