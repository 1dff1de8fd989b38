use Rattle.sc_lex.proofs.Common.{sym, ◌∙◌}
use Rattle.sc_lex.proofs.Prefixes.{mark_three, mark_two, mark_one, mark_none}
use Rattle.sc_lex.proofs.kind.mark_at.Goals as goal

pub returns-then-mark_stands-clause-found : goal.returns-then-mark_stands-clause-found
returns-then-mark_stands-clause-found c =
    mark_three c.args.text.now c.requires.some c.requires.no_word c.requires.no_directive
    (sym c.mark_stands.ensures ∙ c.if-mark_stands.true) c.requires.no_block_comment c.requires.no_line_comment

pub returns-then-mark_stands-2-clause-found : goal.returns-then-mark_stands-2-clause-found
returns-then-mark_stands-2-clause-found c =
    mark_two c.args.text.now c.requires.some c.requires.no_word c.requires.no_directive
    (sym c.mark_stands.ensures ∙ c.if-mark_stands.false)
    (sym c.mark_stands-else-mark_stands.ensures ∙
    c.if-mark_stands-2.true) c.requires.no_block_comment c.requires.no_line_comment

pub returns-then-mark_stands-3-clause-found : goal.returns-then-mark_stands-3-clause-found
returns-then-mark_stands-3-clause-found c =
    mark_one c.args.text.now c.requires.some c.requires.no_word c.requires.no_directive
    (sym c.mark_stands.ensures ∙ c.if-mark_stands.false)
    (sym c.mark_stands-else-mark_stands.ensures ∙ c.if-mark_stands-2.false)
    (sym c.mark_stands-else-mark_stands-2.ensures ∙
    c.if-mark_stands-3.true) c.requires.no_block_comment c.requires.no_line_comment

pub returns-else-mark_stands-3-clause-none : goal.returns-else-mark_stands-3-clause-none
returns-else-mark_stands-3-clause-none c =
    mark_none c.args.text.now c.requires.some c.requires.no_word c.requires.no_directive
    (sym c.mark_stands.ensures ∙ c.if-mark_stands.false)
    (sym c.mark_stands-else-mark_stands.ensures ∙ c.if-mark_stands-2.false)
    (sym c.mark_stands-else-mark_stands-2.ensures ∙ c.if-mark_stands-3.false)
