use Rattle.sc_linker.proofs.Whole.{linked_images_hold}
use Rattle.sc_linker.proofs.laws.linked_images_hold.Goals as goal

pub returns : goal.returns
returns c = linked_images_hold
