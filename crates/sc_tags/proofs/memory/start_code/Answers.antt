use Rattle.sc_tags.proofs.CodeBytes.{all_short, code_apart, code_below}
use Rattle.sc_tags.proofs.Stores.{code_below_data}
use Rattle.sc_tags.proofs.memory.start_code.Goals as goal

pub code_regions-requires-clause-short : goal.code_regions-requires-clause-short
code_regions-requires-clause-short g c = rw (c.as_slice.ensures, c.parts.ensures.parts)
    (all_short c.args.image.now c.parts.ensures.well_formed)

pub zeroed-requires-clause-apart : goal.zeroed-requires-clause-apart
zeroed-requires-clause-apart g c =
    rw (c.deref.ensures.value, c.in_ok-regions.ensures, c.as_slice.ensures, c.parts.ensures.parts)
    (code_apart c.args.image.now.comps (all_short c.args.image.now c.parts.ensures.well_formed))

pub zeroed-requires-clause-below : goal.zeroed-requires-clause-below
zeroed-requires-clause-below g c =
    rw (c.deref.ensures.value, c.in_ok-regions.ensures, c.as_slice.ensures, c.parts.ensures.parts)
    (code_below c.args.image.now.comps c.parts.ensures.well_formed.few_comps
    (all_short c.args.image.now c.parts.ensures.well_formed))

pub returns-clause-below : goal.returns-clause-below
returns-clause-below g c = rw c.put_code.ensures (code_below_data c.args.image.now c.parts.ensures.well_formed)
