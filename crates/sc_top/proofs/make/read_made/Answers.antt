use Rattle.sc_top.proofs.Common.{Accepts, Err, List, ap, subst, ℕ, ◌∙◌}
use Rattle.sc_top.proofs.Made.{read_fits}
use Rattle.sc_top.proofs.make.read_made.Goals as goal

pub unreachable-requires : goal.unreachable-requires
unreachable-requires c =
    let refusal = c.in-Err-Refused.field-0-0 in
    c.accepted_or_refused.ensures c.args.bytes.now c.requires.program refusal.phase refusal.line c.requires.accepted
    (c.read.ensures.refused refusal (c.in-Err-Refused.is ∙ ap Err c.in-Err-Refused.field-0-is))

pub returns-in-Ok-clause-fits : goal.returns-in-Ok-clause-fits
returns-in-Ok-clause-fits c =
    read_fits c.args.bytes.now c.requires c.in-Ok.source.program c.one_program.ensures
    (subst (λ (bytes : List ℕ). Accepts bytes c.in-Ok.source.program) c.in-Ok.ensures.bytes
    c.in-Ok.ensures.source.accepted)
