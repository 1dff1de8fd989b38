use Rattle.sc_parse_print_laws.proofs.Sections.{decls_spell}
use Rattle.sc_parse_print_laws.proofs.words_of_declarations_spell_them.Goals as goal

pub returns : goal.returns
returns c = decls_spell
