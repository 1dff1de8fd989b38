use Rattle.sc_tags.proofs.CodeBytes.{no_words, word_has, words_more}
use Rattle.sc_tags.proofs.Common.{ap, refl, with_bytes, ◌*◌, ◌+◌, ◌∙◌}
use Rattle.std.proofs.Common.{get_or}
use Rattle.sc_tags.proofs.memory.put_words.Goals as goal

pub loop-k-init : goal.loop-k-init
loop-k-init g c = c.focus.ensures ∙ no_words (g.S.Store.bytes c.args.code.now) c.args.start c.args.words.now

pub store32-requires : goal.store32-requires
store32-requires g c = rw c.loop-k.invariant (word_has (g.S.Store.bytes c.args.code.now) c.args.start c.loop-k.k
    c.args.words.now c.loop-k-test.true c.requires.there)

pub loop-k-preserved : goal.loop-k-preserved
loop-k-preserved g c =
    let word = get_or c.args.words.now c.loop-k.k 0 in
    c.store32.ensures ∙ ap (λ m. with_bytes m (c.args.start + 4 * c.loop-k.k) 4 word) c.loop-k.invariant ∙
    words_more (g.S.Store.bytes c.args.code.now) c.args.start c.loop-k.k word c.args.words.now refl
