use Rattle.sc_parse_print_laws.proofs.Common.{drop, kept_export, list_all, ◌≡◌}
use Rattle.sc_parse_print_laws.proofs.kept_sections.keeps_exports.Given as goal

-- what is left keeps it exactly where all of them do
abbrev pub invariant-loop-line : goal.invariant-loop-line
invariant-loop-line l = list_all kept_export (drop l.line-index l.lines) ≡ list_all kept_export (l.lines)
