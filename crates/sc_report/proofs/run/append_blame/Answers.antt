use Rattle.sc_report.proofs.Common.{cause_end, codes}
use Rattle.sc_report.proofs.Pieces.{three_pieces}
use Rattle.sc_report.proofs.run.append_blame.Goals as goal

pub returns : goal.returns
returns c =
    three_pieces c.append_cause.result c.args.text.now c.append.new.self c.append-2.new.self c.append_cause.new.text
    (codes "stop blamed ") c.args.comp.now
    (cause_end c.args.cause c.args.line) c.in_ok-append.ensures.ok c.in_ok-append-2.ensures.ok c.append_cause.ensures
