use Rattle.sc_report.proofs.Common.{codes}
use Rattle.sc_report.proofs.Pieces.{three_pieces}
use Rattle.sc_report.proofs.verdict.append_state.Goals as goal

pub returns : goal.returns
returns c =
    three_pieces c.append-3.result c.args.text.now c.append.new.self c.append-2.new.self c.append-3.new.self
    (codes "verdict holds ") c.args.name.now (codes "\n") c.in_ok-append.ensures.ok c.in_ok-append-2.ensures.ok
    c.append-3.ensures.ok
