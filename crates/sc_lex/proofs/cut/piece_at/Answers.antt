use Rattle.sc_lex.proofs.Cuts.{token_fits}
use Rattle.sc_lex.proofs.cut.piece_at.Goals as goal

pub returns-clause-fits : goal.returns-clause-fits
returns-clause-fits c = token_fits c.args.directives c.args.text.now c.in_ok-kind.kind c.in_ok-kind.len
    c.in_ok-kind.ensures.found
