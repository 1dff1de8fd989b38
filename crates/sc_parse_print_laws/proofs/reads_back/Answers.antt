use Rattle.sc_parse_print_laws.proofs.Whole as theorem
use Rattle.sc_parse_print_laws.proofs.reads_back.Goals as goal

pub returns : goal.returns
returns c = theorem.reads_back c.args.expr.now c.keeps_leaves.ensures
