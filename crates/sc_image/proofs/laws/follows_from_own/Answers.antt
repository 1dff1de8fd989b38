use Rattle.sc_image.proofs.Isolation.{follows_from_own}
use Rattle.sc_image.proofs.laws.follows_from_own.Goals as goal

pub returns : goal.returns
returns c = follows_from_own
