use Rattle.sc_parse_print_laws.proofs.Common.{drop, kept_param, list_all, map, param_of, ◌≡◌}
use Rattle.sc_parse_print_laws.proofs.kept_decls.keeps_named_params.Given as goal

-- what is left keeps it exactly where all of them do
abbrev pub invariant-loop-param : goal.invariant-loop-param
invariant-loop-param l = list_all kept_param (map param_of (drop l.param-index l.param-items)) ≡
    list_all kept_param (map param_of l.params)
