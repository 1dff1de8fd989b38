use Rattle.sc_object.proofs.Linked.{few_of}
use Rattle.sc_object.proofs.linking.join.Goals as goal

pub joined_parts-requires-clause-few : goal.joined_parts-requires-clause-few
joined_parts-requires-clause-few c = rw c.as_slice.ensures c.requires.head.few_comps

pub joined_parts-requires-clause-exports : goal.joined_parts-requires-clause-exports
joined_parts-requires-clause-exports c = rw c.as_slice.ensures (few_of c.args.head.now c.requires.head)
