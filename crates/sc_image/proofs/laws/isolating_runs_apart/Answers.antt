use Rattle.sc_image.proofs.ApartRuns.{isolating_runs_apart}
use Rattle.sc_image.proofs.laws.isolating_runs_apart.Goals as goal

pub returns : goal.returns
returns c = isolating_runs_apart
