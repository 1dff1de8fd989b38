use Rattle.sc_lex.proofs.Common.{sym, ◌∙◌}
use Rattle.sc_lex.proofs.Prefixes.{word_found, word_none}
use Rattle.sc_lex.proofs.kind.word_at.Goals as goal

pub returns-in_err-kind-clause-none : goal.returns-in_err-kind-clause-none
returns-in_err-kind-clause-none c =
    rw c.from_residual.ensures (word_none c.args.text.now c.requires.start c.name_len-len.result c.requires.some
    c.name_len-len.ensures.value (sym c.in_err-kind.was ∙ c.word_kind.ensures))

pub returns-clause-found : goal.returns-clause-found
returns-clause-found c =
    λ directives. word_found c.args.text.now c.requires.start c.name_len-len.result c.in_ok-kind.kind directives
    c.requires.some c.name_len-len.ensures.value (sym c.in_ok-kind.was ∙ c.word_kind.ensures)
