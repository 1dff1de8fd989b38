use Rattle.sc_back.proofs.Common.{length}
use Rattle.sc_back.proofs.action.+append_more_values.Given as goal

abbrev pub decreases-append_more_values : goal.decreases-append_more_values
decreases-append_more_values l = length l.types.now
