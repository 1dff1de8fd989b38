use Rattle.sc_emit.proofs.Emission.{result_emitted}
use Rattle.sc_emit.proofs.emit.Goals as goal

pub returns-clause-emitted : goal.returns-clause-emitted
returns-clause-emitted c =
    result_emitted c.args.f.now c.args.places.now c.args.frame.now c.tree-function.ensures.rules
    c.tree-frame.ensures.rules c.as_slice-places.ensures.rules c.requires.frame_fits c.requires.small c.requires.places
    c.select.result c.select.ensures.code c.select.ensures.light
