use Rattle.sc_ast.proofs.Common.{replicate, ◌*◌, ◌++◌, ◌≡◌}
use Rattle.sc_ast.proofs.print.words.append_indent.Given as goal

abbrev pub invariant-loop : goal.invariant-loop
invariant-loop l = l.out ≡ l.initial.out ++ replicate (2 * l.counter) 32
