use Rattle.sc_parse_expr.proofs.Common.{arith, unary_level}
use Rattle.sc_parse_expr.proofs.Theorem.{found_parse, found_height, refused_parse}
use Rattle.sc_parse_expr.proofs.parser.parse_unary.Goals as goal

pub returns-clause-found : goal.returns-clause-found
returns-clause-found c = found_parse unary_level c.args.opened c.args.rest.now c.parse_level.new.rest
    c.parse_level.result (omega arith) c.requires c.parse_level.ensures.read

pub returns-clause-height : goal.returns-clause-height
returns-clause-height c = found_height unary_level c.args.opened c.args.rest.now c.parse_level.new.rest
    c.parse_level.result (omega arith) c.parse_level.ensures.read

pub returns-clause-refused : goal.returns-clause-refused
returns-clause-refused c = refused_parse unary_level c.args.opened c.args.rest.now c.parse_level.new.rest
    c.parse_level.result c.parse_level.ensures.read
