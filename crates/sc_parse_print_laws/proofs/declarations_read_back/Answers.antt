use Rattle.sc_parse_print_laws.proofs.Whole.{decls_read_back}
use Rattle.sc_parse_print_laws.proofs.declarations_read_back.Goals as goal

pub returns : goal.returns
returns c = decls_read_back c.args.decls.now c.keeps_decls.ensures
