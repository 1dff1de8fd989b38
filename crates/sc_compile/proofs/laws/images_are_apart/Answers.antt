use Rattle.sc_compile.proofs.Apart.{images_are_apart}
use Rattle.sc_compile.proofs.laws.images_are_apart.Goals as goal

pub returns : goal.returns
returns c = images_are_apart
