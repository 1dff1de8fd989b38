use Rattle.sc_parse_print_laws.proofs.Stmts.{stmts_spell}
use Rattle.sc_parse_print_laws.proofs.words_of_statements_spell_them.Goals as goal

pub returns : goal.returns
returns c = stmts_spell
