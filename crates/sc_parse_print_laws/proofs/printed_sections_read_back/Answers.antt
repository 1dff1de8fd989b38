use Rattle.sc_parse_print_laws.proofs.Whole as theorem
use Rattle.sc_parse_print_laws.proofs.printed_sections_read_back.Goals as goal

pub returns : goal.returns
returns c = theorem.section_reads_back
