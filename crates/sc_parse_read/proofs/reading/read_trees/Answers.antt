use Rattle.sc_parse_read.proofs.Common.{AllZip, Err, FailsReading, First, IsCut, IsCutInto, IsCuttable, IsParsable}
use Rattle.sc_parse_read.proofs.Common.{IsSplit, IsTreeOf, List, Refusal, Refused, RefusesBytes, RefusesTokens, [], ap}
use Rattle.sc_parse_read.proofs.Common.{drop, err_from_is_err_and, refl, subst, sym, ◌∙◌, ◌∷◌, ◌≡◌}
use Rattle.sc_lex.specs.declared.refusal.Phase.TheVariants.{Syntax}
use Rattle.sc_parse_read.proofs.Steps.{heading_fails, preamble_uncut, section_uncut, lex_phase, preamble_spells, reads}
use Rattle.sc_parse_read.proofs.Steps.{section_unread, begins_with, is_empty, if_ok_more}
use Rattle.sc_parse_read.proofs.reading.read_trees.Goals as goal

pub returns-in_err-preamble-clause-refused : goal.returns-in_err-preamble-clause-refused
returns-in_err-preamble-clause-refused c = λ refusal is.
    let p = err_from_is_err_and c.from_residual.result c.from_residual.ensures.1 in
    let returned : c.from_residual.result ≡ Err p.0 = p.1 in
    let passed_on : p.0 ≡ c.in_err-preamble.field-0.0 = p.2 in
    let below : c.in_err-preamble.field-0.0 ≡ Refused refusal = cc in
    heading_fails c.args.text.now refusal (c.in_err-preamble.ensures.refused refusal (ap Err below))

pub returns-in_err-before-clause-refused : goal.returns-in_err-before-clause-refused
returns-in_err-before-clause-refused c = λ refusal is.
    let p = err_from_is_err_and c.from_residual-in_err-before.result c.from_residual-in_err-before.ensures.1 in
    let returned : c.from_residual-in_err-before.result ≡ Err p.0 = p.1 in
    let passed_on : p.0 ≡ c.in_err-before.field-0.0 = p.2 in
    let below : c.in_err-before.field-0.0 ≡ Refused refusal = cc in
    preamble_uncut c.args.text.now c.in_ok-preamble.field-0.preamble.now c.in_ok-preamble.field-0.sections
    c.in_ok-preamble.ensures.split refusal (c.in_err-before.ensures.refused refusal (ap Err below))

pub returns-in_err-cuts-clause-refused : goal.returns-in_err-cuts-clause-refused
returns-in_err-cuts-clause-refused c = λ refusal is.
    let p = err_from_is_err_and c.from_residual-in_err-cuts.result c.from_residual-in_err-cuts.ensures.1 in
    let returned : c.from_residual-in_err-cuts.result ≡ Err p.0 = p.1 in
    let passed_on : p.0 ≡ c.in_err-cuts.field-0.0 = p.2 in
    let below : c.in_err-cuts.field-0.0 ≡ Refused refusal = cc in
    let first = subst (λ ss. First IsCuttable (λ s. RefusesBytes s.bytes.now s.line refusal) ss) c.as_slice.ensures
    (c.in_err-cuts.ensures.refused refusal (ap Err below)) in
    section_uncut c.args.text.now c.in_ok-preamble.field-0.preamble.now c.in_ok-preamble.field-0.sections
    c.in_ok-preamble.ensures.split c.in_ok-before.before refusal c.in_ok-before.ensures.cut first (lex_phase first)

pub returns-in-Some-clause-refused : goal.returns-in-Some-clause-refused
returns-in-Some-clause-refused c = λ refusal is.
    let same : record { phase = Syntax; line = c.in-Some.first.now.line } ≡ refusal = cc in
    let tokens = begins_with c.in_ok-before.before c.in-Some.first.now c.in-Some.ensures.value in
    let cut = subst (λ ts. IsCut c.in_ok-preamble.field-0.preamble.now ts) tokens c.in_ok-before.ensures.cut in
    let cuts = subst (λ ss. AllZip IsCutInto ss c.in_ok-cuts.cuts) c.as_slice.ensures c.in_ok-cuts.ensures.cut in
    subst (λ r. FailsReading c.args.text.now r.phase r.line) same
    (preamble_spells c.args.text.now c.in_ok-preamble.field-0.preamble.now c.in_ok-preamble.field-0.sections
    c.in_ok-preamble.ensures.split c.in-Some.first.now (drop 1 c.in_ok-before.before) c.in_ok-cuts.cuts cut cuts)

pub returns-clause-read : goal.returns-clause-read
returns-clause-read c =
    let cut = subst (λ ts. IsCut c.in_ok-preamble.field-0.preamble.now ts)
    (is_empty c.in_ok-before.before c.in_default.ensures.value) c.in_ok-before.ensures.cut in
    let cuts = subst (λ ss. AllZip IsCutInto ss c.in_ok-cuts.cuts) c.as_slice.ensures c.in_ok-cuts.ensures.cut in
    if_ok_more c.parse_sections.result
    (λ trees h. reads c.args.text.now c.in_ok-preamble.field-0.preamble.now c.in_ok-preamble.field-0.sections
    c.in_ok-preamble.ensures.split c.in_ok-cuts.cuts trees cut cuts
    (subst (λ ss. AllZip IsTreeOf ss trees) c.as_slice-2.ensures h))
    c.parse_sections.ensures.read

pub returns-clause-refused : goal.returns-clause-refused
returns-clause-refused c = λ refusal is.
    let cut = subst (λ ts. IsCut c.in_ok-preamble.field-0.preamble.now ts)
    (is_empty c.in_ok-before.before c.in_default.ensures.value) c.in_ok-before.ensures.cut in
    let cuts = subst (λ ss. AllZip IsCutInto ss c.in_ok-cuts.cuts) c.as_slice.ensures c.in_ok-cuts.ensures.cut in
    let refused = c.parse_sections.ensures.refused refusal is in
    section_unread c.args.text.now c.in_ok-preamble.field-0.preamble.now c.in_ok-preamble.field-0.sections
    c.in_ok-preamble.ensures.split c.in_ok-cuts.cuts refusal cut cuts
    (subst (λ ss. First IsParsable (RefusesTokens refusal.line) ss) c.as_slice-2.ensures refused.1) refused.0
