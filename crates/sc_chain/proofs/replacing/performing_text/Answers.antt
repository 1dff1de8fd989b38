use Rattle.sc_chain.proofs.Rows.{part_low}
use Rattle.sc_chain.proofs.replacing.performing_text.Goals as goal

pub back_section-requires : goal.back_section-requires
back_section-requires c =
    rw (c.as_slice.ensures, c.in_ok-script.ensures) (part_low c.args.interfaces.now.main c.args.comp c.args.trace.now
    c.requires)
