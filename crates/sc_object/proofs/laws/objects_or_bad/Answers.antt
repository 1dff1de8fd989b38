use Rattle.sc_object.proofs.Cuts.{objects_or_bad}
use Rattle.sc_object.proofs.laws.objects_or_bad.Goals as goal

pub returns : goal.returns
returns c = objects_or_bad
