use Rattle.sc_image.proofs.Returning.{calls_come_back}
use Rattle.sc_image.proofs.laws.calls_come_back.Goals as goal

pub returns : goal.returns
returns c = calls_come_back
