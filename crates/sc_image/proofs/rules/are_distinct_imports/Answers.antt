use Rattle.sc_image.proofs.Keeping.{imports_count}
use Rattle.sc_image.proofs.rules.are_distinct_imports.Goals as goal

pub returns : goal.returns
returns c = imports_count c.args.imports.now c.in_ok-pairs.pairs c.len.result c.in_ok-pairs.ensures c.len.ensures.len
