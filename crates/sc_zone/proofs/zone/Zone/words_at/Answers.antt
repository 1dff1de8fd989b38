-- The table of blocks has their words.
use Rattle.sc_zone.proofs.Common.{ap, arith, slice_index, ◌∙◌}
use Rattle.sc_zone.proofs.Tables.{no_words_at, some_words_at}
use Rattle.sc_zone.proofs.zone.Zone.words_at.Goals as goal

pub returns-then-words-eq0 : goal.returns-then-words-eq0
returns-then-words-eq0 c =
    no_words_at c.self.inside.blocks.items c.self.inside.gaps.words.items c.self.inside.gaps_before.items
    c.self.invariant.0 c.args.self.now c.args.place c.number_at-words.result c.self.view_is
    (c.number_at-words.ensures ∙ ap (λ l. slice_index l c.args.place) c.deref.ensures.value) c.if-words-eq0.true

pub returns : goal.returns
returns c =
    some_words_at c.self.inside.blocks.items c.self.inside.gaps.words.items c.self.inside.gaps_before.items
    c.self.invariant.0 c.args.self.now c.args.place c.number_at-words.result c.self.view_is
    (c.number_at-words.ensures ∙ ap (λ l. slice_index l c.args.place) c.deref.ensures.value)
    (omega (arith, c.if-words-eq0.false))
