use Rattle.sc_types.proofs.Common.{Err, Refused, ap, err_from_is_err_and, heading_fails, ◌≡◌}
use Rattle.sc_types.proofs.Verdicts.{unread_fails}
use Rattle.sc_types.proofs.text.section_starts.Goals as goal

pub returns-in_err-sections-clause-refused : goal.returns-in_err-sections-clause-refused
returns-in_err-sections-clause-refused c = λ refusal is.
    let p = err_from_is_err_and c.from_residual.result c.from_residual.ensures.1 in
    let returned : c.from_residual.result ≡ Err p.0 = p.1 in
    let passed_on : p.0 ≡ c.in_err-sections.field-0.0 = p.2 in
    let below : c.in_err-sections.field-0.0 ≡ Refused refusal = cc in
    unread_fails c.args.text.now refusal.phase refusal.line
    (heading_fails c.args.text.now refusal (c.in_err-sections.ensures.refused refusal (ap Err below)))
