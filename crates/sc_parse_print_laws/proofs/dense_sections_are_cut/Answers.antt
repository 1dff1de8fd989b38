use Rattle.sc_parse_print_laws.proofs.Whole.{dense_cut}
use Rattle.sc_parse_print_laws.proofs.dense_sections_are_cut.Goals as goal

pub returns : goal.returns
returns c = dense_cut
