use Rattle.sc_top.proofs.Accounts.{linked_images_are_explained}
use Rattle.sc_top.proofs.laws.linked_images_are_explained.Goals as goal

pub returns : goal.returns
returns c = linked_images_are_explained c.one_program.ensures c.joins_but_for.ensures
