use Rattle.sc_parse_print_laws.proofs.Common.{drop, is_kept, list_all, ◌≡◌}
use Rattle.sc_parse_print_laws.proofs.kept.keeps_args.Given as goal

-- what is left keeps it exactly where all of them do
abbrev pub invariant-loop-arg : goal.invariant-loop-arg
invariant-loop-arg l = list_all is_kept (drop l.arg-index l.arg-items) ≡ list_all is_kept l.args
