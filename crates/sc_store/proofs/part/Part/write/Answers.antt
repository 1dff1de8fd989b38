use Rattle.sc_store.proofs.Common.{arith, length}
use Rattle.sc_store.proofs.Parts.{spans_low, spans_high, copied_piece}
use Rattle.sc_store.proofs.part.Part.write.Goals as goal

pub returns-clause-bytes : goal.returns-clause-bytes
returns-clause-bytes c =
    copied_piece c.args.self.now.start c.args.at c.args.self.now.bytes.len _ c.args.self.now.bytes.items
    c.deref_mut.result.now c.copy_from_slice.new.self c.args.bytes.now
    c.args.self.now.bytes.ok.0 c.deref_mut.ensures.value c.copy_from_slice.ensures.after (omega arith)
    (spans_low c.args.at (length c.args.bytes.now) c.args.self.now c.requires)
    (spans_high c.args.at (length c.args.bytes.now) c.args.self.now c.requires)
