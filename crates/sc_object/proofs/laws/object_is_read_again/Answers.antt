use Rattle.sc_object.proofs.Cuts.{read_again}
use Rattle.sc_object.proofs.laws.object_is_read_again.Goals as goal

pub returns : goal.returns
returns c = read_again
