use Rattle.sc_parse_print_laws.proofs.Whole.{stmts_read_back}
use Rattle.sc_parse_print_laws.proofs.printed_statements_read_back.Goals as goal

pub returns : goal.returns
returns c = stmts_read_back
