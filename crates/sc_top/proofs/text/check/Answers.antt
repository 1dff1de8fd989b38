use Rattle.sc_top.proofs.Common.{Check, ProgramTree, ap, false≢true, ◌∙◌}
use Rattle.sc_report.specs.Check.{check_text}
use Rattle.sc_top.proofs.Outputs.{plain_output}
use Rattle.sc_top.proofs.text.check.Goals as goal

pub returns-clause-ok : goal.returns-clause-ok
returns-clause-ok c =
    let named = ap check_text c.interfaces.ensures ∙
    ap (λ (program : ProgramTree). check_text program.interfaces) c.program.ensures.program in
    plain_output Check c.args.bytes.now c.in_ok-check_text.field-0 c.in_ok-source.source.program (λ h. false≢true h)
    c.in_ok-source.ensures.accepted.1 (c.in_ok-check_text.ensures ∙ named)
