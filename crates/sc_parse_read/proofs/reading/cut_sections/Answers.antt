use Rattle.sc_parse_read.proofs.Common.{Err, IsCutInto, Refused, ap, err_from_is_err_and, sym, ◌∙◌, ◌≡◌}
use Rattle.sc_parse_read.proofs.Steps.{more_sections, first_bad}
use Rattle.sc_parse_read.proofs.reading.cut_sections.Goals as goal

pub returns-in_err-tokens-clause-refused : goal.returns-in_err-tokens-clause-refused
returns-in_err-tokens-clause-refused c = λ refusal is.
    let p = err_from_is_err_and c.from_residual.result c.from_residual.ensures.1 in
    let returned : c.from_residual.result ≡ Err p.0 = p.1 in
    let passed_on : p.0 ≡ c.in_err-tokens.field-0.0 = p.2 in
    let below : c.in_err-tokens.field-0.0 ≡ Refused refusal = cc in
    first_bad IsCutInto (λ s tokens cut. (tokens, cut)) c.args.sections.now c.loop-section.cuts
    c.loop-section.section-index c.section-item.result c.loop-section-test.true c.section-item.is
    c.loop-section.invariant (c.in_err-tokens.ensures.refused refusal (ap Err below))

pub loop-section-preserved : goal.loop-section-preserved
loop-section-preserved c =
    rw c.in_ok-push.ensures.ok (more_sections IsCutInto c.args.sections.now c.loop-section.cuts
    c.loop-section.section-index c.section-item.result c.in_ok-tokens.field-0 c.loop-section-test.true
    c.section-item.is c.loop-section.invariant c.in_ok-tokens.ensures.cut)
