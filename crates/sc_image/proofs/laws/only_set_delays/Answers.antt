use Rattle.sc_image.proofs.ApartLaws.{only_set_delays}
use Rattle.sc_image.proofs.laws.only_set_delays.Goals as goal

pub returns : goal.returns
returns c = only_set_delays
