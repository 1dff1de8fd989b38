use Rattle.sc_types.proofs.Sources.{section_lies, section_is}
use Rattle.sc_types.proofs.text.section_in.Goals as goal

pub between-requires : goal.between-requires
between-requires c = section_lies c.args.text.now c.args.starts.now c.args.at c.start_at.result c.start_at-2.result
    c.requires.starts c.start_at.ensures c.start_at-2.ensures

pub returns : goal.returns
returns c = section_is c.args.text.now c.args.starts.now c.args.at c.start_at.result c.start_at-2.result
    c.between.result.now c.requires.within c.start_at.ensures c.start_at-2.ensures c.between.ensures
