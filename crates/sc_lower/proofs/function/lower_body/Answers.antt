use Rattle.sc_lower.proofs.Lowered.{body_lowered}
use Rattle.sc_lower.proofs.function.lower_body.Goals as goal

pub returns : goal.returns
returns c =
    body_lowered c.args.structs.now c.args.function.now c.args.params c.as_slice.result.now c.in_ok-inits.inits
    c.in_ok-body.body c.after.result c.requires.counted c.as_slice.ensures c.in_ok-inits.ensures.made
    c.in_ok-body.ensures.made c.after.ensures
