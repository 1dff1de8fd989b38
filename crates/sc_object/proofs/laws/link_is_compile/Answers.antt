use Rattle.sc_object.proofs.Joining.{link_is_compile}
use Rattle.sc_object.proofs.laws.link_is_compile.Goals as goal

pub returns : goal.returns
returns c = link_is_compile
