use Rattle.sc_parse_print_laws.proofs.Common.{are_kept, drop, ◌≡◌}
use Rattle.sc_parse_print_laws.proofs.kept.+kept.Given as goal

-- what is left keeps it exactly where all of them do
abbrev pub invariant-keep_leaves-loop-stmt : goal.invariant-keep_leaves-loop-stmt
invariant-keep_leaves-loop-stmt l = are_kept (drop l.stmt-index l.stmt-items) ≡ are_kept l.stmts
