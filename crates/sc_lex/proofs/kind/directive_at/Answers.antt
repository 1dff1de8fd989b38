use Rattle.sc_lex.proofs.Common.{sym, ◌∙◌}
use Rattle.sc_lex.proofs.Prefixes.{directive_found, directive_none}
use Rattle.sc_lex.proofs.kind.directive_at.Goals as goal

pub returns-in_err-kind-clause-none : goal.returns-in_err-kind-clause-none
returns-in_err-kind-clause-none c =
    rw c.from_residual.ensures (directive_none c.args.text.now c.requires.start c.line_len-len.result c.requires.some
    c.line_len-len.ensures.value (sym c.in_err-kind.was ∙ c.line_kind.ensures))

pub returns-clause-found : goal.returns-clause-found
returns-clause-found c =
    directive_found c.args.text.now c.requires.start c.line_len-len.result c.in_ok-kind.kind c.requires.some
    c.line_len-len.ensures.value (sym c.in_ok-kind.was ∙ c.line_kind.ensures)
