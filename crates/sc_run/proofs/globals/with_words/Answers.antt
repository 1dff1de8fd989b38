use Rattle.sc_run.proofs.Common.{ap, drop, refl, with_words, ◌++◌, ◌+◌, ◌∙◌}
use Rattle.sc_run.proofs.Making.{word_more, words_all}
use Rattle.sc_run.proofs.globals.with_words.Goals as goal

pub loop-at-preserved : goal.loop-at-preserved
loop-at-preserved c =
    let words = c.args.words.now in
    let cells = c.args.cells.now in
    ap (λ all. all ++ with_words (drop (c.loop-at.at + 1) words)
    (drop (c.loop-at.at + 1) cells)) c.in_ok-push.ensures.ok ∙ word_more words cells c.loop-at.at c.loop-at.all
    c.loop-at-test.true refl c.word_at.ensures c.cell_with.ensures c.loop-at.invariant

pub returns : goal.returns
returns c = words_all c.args.words.now c.args.cells.now c.loop-at.at c.loop-at-test.false c.loop-at.invariant
