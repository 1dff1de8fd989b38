use Rattle.sc_top.proofs.Streams.{printed_by}
use Rattle.sc_top.proofs.printing.print.Goals as goal

pub returns : goal.returns
returns g c = printed_by _ _ _ _ _ _ c.write_status.ensures
