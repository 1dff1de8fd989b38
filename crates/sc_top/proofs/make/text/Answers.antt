use Rattle.sc_top.proofs.Made.{made_result}
use Rattle.sc_top.proofs.make.text.Goals as goal

pub returns : goal.returns
returns c =
    made_result c.make_text.result c.args.options.now
    (c.made_texts_are_accepted.ensures c.args.options.now.size c.args.options.now.seed c.requires) c.make_text.ensures
