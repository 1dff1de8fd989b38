use Rattle.sc_parse_print_laws.proofs.Common.{drop, kept_const, list_all, ◌≡◌}
use Rattle.sc_parse_print_laws.proofs.kept_decls.keeps_consts.Given as goal

-- what is left keeps it exactly where all of them do
abbrev pub invariant-loop-constant : goal.invariant-loop-constant
invariant-loop-constant l = list_all kept_const (drop l.constant-index l.constants) ≡ list_all kept_const (l.constants)
