use Rattle.sc_chain.proofs.Recomposed.{text_so}
use Rattle.sc_chain.proofs.replacing.recomposed_text.Goals as goal

pub returns : goal.returns
returns c =
    text_so c.recompose.result c.args.source.now c.args.trace.now c.args.comps.now c.program.result.now
    c.interfaces.result.now c.in_ok-replacements.replacements c.as_slice.result.now c.program.ensures.program
    c.interfaces.ensures c.in_ok-replacements.ensures c.as_slice.ensures c.recompose.ensures
