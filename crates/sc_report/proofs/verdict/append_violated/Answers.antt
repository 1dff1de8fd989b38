use Rattle.sc_report.proofs.Common.{ap, codes, decimal, violator_end, ◌++◌, ◌∙◌}
use Rattle.sc_report.proofs.Pieces.{three_pieces}
use Rattle.sc_report.proofs.verdict.append_violated.Goals as goal

pub returns : goal.returns
returns c =
    three_pieces c.append_violator.result c.args.text.now c.append.new.self c.append-2.new.self
    c.append_violator.new.text
    (codes "verdict violated after ") (decimal c.args.after)
    (violator_end c.args.comp.now c.args.rule c.args.compromised) c.in_ok-append.ensures.ok
    (c.in_ok-append-2.ensures.ok ∙
    ap (λ digits. c.append.new.self ++ digits) (c.as_bytes.ensures.value ∙ c.format.ensures.text))
    c.append_violator.ensures
