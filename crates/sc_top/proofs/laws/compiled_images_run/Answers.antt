use Rattle.sc_top.proofs.Executed.{compiled_images_run}
use Rattle.sc_top.proofs.laws.compiled_images_run.Goals as goal

pub returns : goal.returns
returns c = compiled_images_run c.one_program.ensures c.one_image.ensures
