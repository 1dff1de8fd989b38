use Rattle.sc_object.proofs.Programs.{separate}
use Rattle.sc_object.proofs.laws.objects_are_separate.Goals as goal

pub returns : goal.returns
returns c = separate
