use Rattle.sc_top.proofs.Common.{Meaning, ProgramTree, ap, false≢true, meaning_text, meaning_asked, ◌∙◌}
use Rattle.sc_top.proofs.Outputs.{plain_output}
use Rattle.sc_top.proofs.text.meaning.Goals as goal

pub returns-clause-ok : goal.returns-clause-ok
returns-clause-ok c =
    let printed = ap (λ (program : ProgramTree). meaning_text program.interfaces
    (meaning_asked c.args.options.now program)) c.program.ensures.program in
    plain_output (Meaning c.args.options.now) c.args.bytes.now c.in_ok-meaning_text.field-0
    c.in_ok-source.source.program (λ h. false≢true h)
    c.in_ok-source.ensures.accepted.1 (c.in_ok-meaning_text.ensures ∙ printed)
