use Rattle.sc_lex.proofs.Common.{block_comment, sym, ◌∙◌}
use Rattle.sc_lex.proofs.gap.block_comment_len.Goals as goal

pub returns-then-ends_comment-clause-found : goal.returns-then-ends_comment-clause-found
returns-then-ends_comment-clause-found c =
    block_comment c.loop-at.at c.requires c.loop-at.auto.at
    (sym c.ends_comment.ensures ∙ c.if-ends_comment.true) c.loop-at.invariant
