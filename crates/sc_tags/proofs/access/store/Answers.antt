use Rattle.sc_tags.proofs.Common.{ap, is_some, store_size, subst, ◌+◌, ◌∙◌}
use Rattle.sc_store.proofs.Words.{address_kept}
use Rattle.sc_store.specs.Prelude.{HasBytes}
use Rattle.sc_tags.specs.Prelude.{first_bytes}
use Rattle.sc_tags.specs.TagHart.{bytes_of}
use Rattle.sc_tags.proofs.access.store.Goals as goal

pub returns-clause-owned : goal.returns-clause-owned
returns-clause-owned g c = λ a.
    let there = subst (λ size. HasBytes (first_bytes c.args.tags.now.image) c.args.address size)
    c.store_size.ensures.size c.in_default.ensures.there in
    ap (λ m. is_some (m a)) c.put.ensures ∙
    address_kept (bytes_of g.S.Store.bytes c.args.memory.now) c.args.address (store_size c.args.op) c.args.word a
    (λ k few. c.requires.owned (c.args.address + k) ∙ there k few) ∙ c.requires.owned a
