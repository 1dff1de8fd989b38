use Rattle.sc_tags.specs.CodeBytes.{with_words}
use Rattle.std.proofs.Common.{◌≡◌}
use Rattle.sc_tags.proofs.memory.put_words.Given as goal

abbrev pub invariant-loop-k : goal.invariant-loop-k
invariant-loop-k g l = g.S.Store.bytes l.code ≡ with_words (g.S.Store.bytes l.fn.code) l.start l.words l.k
