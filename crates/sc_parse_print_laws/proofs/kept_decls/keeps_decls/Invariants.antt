use Rattle.sc_parse_print_laws.proofs.Common.{drop, is_kept_decl, list_all, ◌≡◌}
use Rattle.sc_parse_print_laws.proofs.kept_decls.keeps_decls.Given as goal

-- what is left keeps it exactly where all of them do
abbrev pub invariant-loop-decl : goal.invariant-loop-decl
invariant-loop-decl l = list_all is_kept_decl (drop l.decl-index l.decl-items) ≡ list_all is_kept_decl (l.decls)
