use Rattle.sc_top.proofs.Common.{IsAccepted, ProgramTree, ap, subst, sym, ◌∙◌}
use Rattle.sc_top.proofs.Made.{summary_result}
use Rattle.sc_top.proofs.make.summary.Goals as goal

pub read_made-requires : goal.read_made-requires
read_made-requires c =
    subst IsAccepted (sym (c.as_bytes.ensures ∙ c.in_ok-text.ensures))
    (c.made_texts_are_accepted.ensures c.args.options.now.size c.args.options.now.seed c.requires)

pub returns : goal.returns
returns c =
    summary_result c.summary_text.result c.args.options.now c.in_ok-source.source c.interfaces.result.now
    c.in_ok-explanation.explanation c.in_ok-source.ensures.parts
    (c.in_ok-source.ensures.whole ∙ c.as_bytes.ensures ∙ c.in_ok-text.ensures)
    (c.interfaces.ensures ∙ ap (λ (program : ProgramTree). program.interfaces) c.program.ensures.program)
    c.in_ok-explanation.ensures c.summary_text.ensures
