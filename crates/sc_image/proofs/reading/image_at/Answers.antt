use Rattle.sc_image.proofs.Whole.{parts_are_few}
use Rattle.sc_image.proofs.reading.image_at.Goals as goal

pub keeps_rules-requires : goal.keeps_rules-requires
keeps_rules-requires c = parts_are_few _ _ c.in_ok-parts.parts _ c.in_ok-parts.ensures
