use Rattle.sc_parse_expr.proofs.Theorem.{parses_agree}
use Rattle.sc_parse_expr.proofs.parser.one_parse.Goals as goal

pub returns : goal.returns
returns c = parses_agree
