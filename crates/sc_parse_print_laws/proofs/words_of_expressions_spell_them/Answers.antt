use Rattle.sc_parse_print_laws.proofs.Spelling.{words_spell}
use Rattle.sc_parse_print_laws.proofs.words_of_expressions_spell_them.Goals as goal

pub returns : goal.returns
returns c = words_spell
