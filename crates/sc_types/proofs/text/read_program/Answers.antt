use Rattle.sc_types.proofs.Common.{Err, Refused, ap, err_from_is_err_and, ◌≡◌}
use Rattle.sc_types.proofs.Verdicts.{reads_low, unread_fails, untyped_fails, typed_accepted}
use Rattle.sc_types.proofs.text.read_program.Goals as goal

pub returns-in_err-trees-clause-refused : goal.returns-in_err-trees-clause-refused
returns-in_err-trees-clause-refused c = λ refusal is.
    let p = err_from_is_err_and c.from_residual.result c.from_residual.ensures.1 in
    let returned : c.from_residual.result ≡ Err p.0 = p.1 in
    let passed_on : p.0 ≡ c.in_err-trees.field-0.0 = p.2 in
    let below : c.in_err-trees.field-0.0 ≡ Refused refusal = cc in
    unread_fails c.args.text.now refusal.phase refusal.line (c.in_err-trees.ensures.refused refusal (ap Err below))

pub into_program-requires : goal.into_program-requires
into_program-requires c = reads_low c.args.text.now c.in_ok-trees.trees c.in_ok-trees.ensures.read

pub returns-clause-accepted : goal.returns-clause-accepted
returns-clause-accepted c =
    typed_accepted c.args.text.now c.in_ok-trees.trees c.into_program.result c.in_ok-trees.ensures.read
    c.into_program.ensures.accepted

pub returns-clause-refused : goal.returns-clause-refused
returns-clause-refused c = λ refusal is.
    untyped_fails c.args.text.now c.in_ok-trees.trees refusal.phase refusal.line c.in_ok-trees.ensures.read
    (c.into_program.ensures.refused refusal is)
