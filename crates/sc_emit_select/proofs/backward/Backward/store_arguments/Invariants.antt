use Rattle.sc_emit_select.proofs.Common.{plainly, store_arguments, ◌++◌, ◌-◌, ◌≡◌}
use Rattle.sc_emit_select.proofs.backward.Backward.store_arguments.Given as goal

-- the arguments from this one on are stored
abbrev pub invariant-loop-at : goal.invariant-loop-at
invariant-loop-at l =
    l.self ≡
    plainly (store_arguments l.homes.frame.now l.homes.places.now (l.params - l.at) l.at) ++ l.initial.self
