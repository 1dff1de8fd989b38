use Rattle.sc_parse_print_laws.proofs.Whole.{reads_back}
use Rattle.sc_parse_print_laws.proofs.printed_expressions_read_back.Goals as goal

pub returns : goal.returns
returns c = reads_back
