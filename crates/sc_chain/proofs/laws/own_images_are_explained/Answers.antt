use Rattle.sc_chain.proofs.OwnImages.{own_images_are_explained}
use Rattle.sc_chain.proofs.laws.own_images_are_explained.Goals as goal

pub returns : goal.returns
returns c = own_images_are_explained c.one_program.ensures
