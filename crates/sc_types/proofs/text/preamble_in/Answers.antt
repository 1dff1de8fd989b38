use Rattle.sc_types.proofs.Sources.{preamble_lies, preamble_ends}
use Rattle.sc_types.proofs.text.preamble_in.Goals as goal

pub between-requires : goal.between-requires
between-requires c = preamble_lies c.args.text.now c.args.starts.now c.start_at.result c.requires c.start_at.ensures

pub returns : goal.returns
returns c = preamble_ends c.args.text.now c.args.starts.now c.start_at.result c.between.result.now c.start_at.ensures
    c.between.ensures
