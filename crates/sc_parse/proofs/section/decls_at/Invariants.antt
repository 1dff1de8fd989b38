use Rattle.sc_base.specs.Prelude.{most_brackets, most_height}
use Rattle.sc_parse.proofs.Common.{[], decl_at, grouped, is_empty, length, ◌+◌, ◌-◌, ◌≡◌}
use Rattle.sc_parse.proofs.section.decls_at.Given as goal

-- what is read is what the rest of the loop reads
abbrev pub invariant-loop : goal.invariant-loop
invariant-loop l = grouped is_empty (decl_at most_brackets most_height) (length l.initial.rest + 1)
    [] l.initial.rest ≡
    grouped is_empty (decl_at most_brackets most_height) (length l.initial.rest + 1 - l.counter) l.decls l.rest
