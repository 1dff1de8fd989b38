use Rattle.sc_monitor.proofs.Verdicts.{holds_unnamed}
use Rattle.sc_monitor.proofs.laws.unnamed_events.Goals as goal

pub returns : goal.returns
returns c = holds_unnamed
