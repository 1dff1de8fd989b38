use Rattle.sc_parse_print_laws.proofs.Common.{drop, kept_local, list_all, ◌≡◌}
use Rattle.sc_parse_print_laws.proofs.kept_decls.keeps_locals.Given as goal

-- what is left keeps it exactly where all of them do
abbrev pub invariant-loop-local : goal.invariant-loop-local
invariant-loop-local l = list_all kept_local (drop l.local-index l.local-items) ≡ list_all kept_local (l.locals)
