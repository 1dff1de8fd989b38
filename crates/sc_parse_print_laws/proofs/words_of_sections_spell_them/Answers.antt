use Rattle.sc_parse_print_laws.proofs.Whole.{section_reads}
use Rattle.sc_parse_print_laws.proofs.words_of_sections_spell_them.Goals as goal

pub returns : goal.returns
returns c = section_reads
