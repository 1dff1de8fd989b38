use Rattle.sc_event.proofs.Common.{spaced_names, take, ◌++◌, ◌≡◌}
use Rattle.sc_event.proofs.line.append_names.Given as goal

abbrev pub invariant-loop-name : goal.invariant-loop-name
invariant-loop-name l = l.text ≡ l.fn.text ++ spaced_names (take l.name-index l.names)
