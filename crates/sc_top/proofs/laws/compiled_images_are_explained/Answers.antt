use Rattle.sc_top.proofs.Accounts.{compiled_images_are_explained}
use Rattle.sc_top.proofs.laws.compiled_images_are_explained.Goals as goal

pub returns : goal.returns
returns c = compiled_images_are_explained c.one_program.ensures c.own_images_are_explained.ensures
