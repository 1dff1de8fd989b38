use Rattle.sc_image.proofs.ApartLaws.{stops_apart}
use Rattle.sc_image.proofs.laws.stops_apart.Goals as goal

pub returns : goal.returns
returns c = stops_apart
