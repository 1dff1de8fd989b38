use Rattle.sc_base.specs.Prelude.{most_brackets}
use Rattle.sc_parse.proofs.Common.{[], add_arg, following, length, separated, ◌+◌, ◌-◌, ◌≡◌}
use Rattle.sc_parse_expr.specs.declared.mark.Mark.TheVariants as mark
use Rattle.sc_parse.proofs.calls.all_args.Given as goal

-- what is read is what the rest of the loop reads
abbrev pub invariant-loop : goal.invariant-loop
invariant-loop l = separated (following mark.Comma) (add_arg most_brackets l.room)
    (length l.initial.rest + 1) [] l.initial.rest ≡
    separated (following mark.Comma) (add_arg most_brackets l.room)
    (length l.initial.rest + 1 - l.counter) l.args l.rest
