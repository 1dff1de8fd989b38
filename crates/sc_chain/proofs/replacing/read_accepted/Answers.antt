use Rattle.std.proofs.Common.{Err, ap, ◌∙◌}
use Rattle.sc_chain.proofs.replacing.read_accepted.Goals as goal

pub unreachable-requires : goal.unreachable-requires
unreachable-requires c =
    let refusal = c.in-Err-Refused.field-0-0 in
    c.accepted_or_refused.ensures c.args.text.now c.requires.0 refusal.phase refusal.line c.requires.1
    (c.read.ensures.refused refusal (c.in-Err-Refused.is ∙ ap Err c.in-Err-Refused.field-0-is))
