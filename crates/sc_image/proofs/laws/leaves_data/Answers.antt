use Rattle.sc_image.proofs.Isolation.{leaves_data}
use Rattle.sc_image.proofs.laws.leaves_data.Goals as goal

pub returns : goal.returns
returns c = leaves_data
