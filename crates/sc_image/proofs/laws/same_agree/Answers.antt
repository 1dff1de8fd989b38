use Rattle.sc_image.proofs.ApartLaws.{same_agree}
use Rattle.sc_image.proofs.laws.same_agree.Goals as goal

pub returns : goal.returns
returns c = same_agree
