use Rattle.sc_object.proofs.Cuts.{one_list}
use Rattle.sc_object.proofs.laws.bytes_name_one_list.Goals as goal

pub returns : goal.returns
returns c = one_list
