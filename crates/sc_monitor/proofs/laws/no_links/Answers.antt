use Rattle.sc_monitor.proofs.Verdicts.{is_clean}
use Rattle.sc_monitor.proofs.laws.no_links.Goals as goal

pub returns : goal.returns
returns c = is_clean
