use Rattle.sc_ast.proofs.Common.{star_words, text_of, ◌++◌, ◌≡◌}
use Rattle.sc_ast.proofs.print.types.append_stars.Given as goal

abbrev pub invariant-loop : goal.invariant-loop
invariant-loop l = l.out ≡ l.initial.out ++ text_of (star_words l.counter)
