use Rattle.sc_report.proofs.Common.{codes, rule_end}
use Rattle.sc_report.proofs.Pieces.{three_pieces}
use Rattle.sc_report.proofs.verdict.append_violator.Goals as goal

pub returns : goal.returns
returns c =
    three_pieces c.append_rule.result c.args.text.now c.append.new.self c.append-2.new.self c.append_rule.new.text
    (codes " by ") c.args.comp.now
    (rule_end c.args.rule c.args.compromised) c.in_ok-append.ensures.ok c.in_ok-append-2.ensures.ok
    c.append_rule.ensures
