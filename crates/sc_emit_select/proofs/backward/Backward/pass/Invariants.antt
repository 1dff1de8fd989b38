use Rattle.sc_emit_select.proofs.Common.{drop, pass, plainly, ◌++◌, ◌+◌, ◌≡◌}
use Rattle.sc_emit_select.proofs.backward.Backward.pass.Given as goal

-- the arguments from this one on are passed
abbrev pub invariant-loop-at : goal.invariant-loop-at
invariant-loop-at l =
    l.self ≡
    plainly (pass l.homes.frame.now l.homes.places.now (10 + l.at) (drop l.at l.args)) ++ l.initial.self
