use Rattle.sc_parse_print_laws.proofs.Heights.{sections_same}
use Rattle.sc_parse_print_laws.proofs.lines_add_no_height.Goals as goal

pub returns : goal.returns
returns c = sections_same
