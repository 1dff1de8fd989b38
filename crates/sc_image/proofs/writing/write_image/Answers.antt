use Rattle.sc_image.proofs.Whole.{comps_fit}
use Rattle.sc_image.proofs.writing.write_image.Goals as goal

pub append_comps-requires : goal.append_comps-requires
append_comps-requires c = rw (c.as_slice-comps.ensures, c.parts-parts.ensures.parts)
    (comps_fit c.args.image.now c.parts-parts.ensures.well_formed)
