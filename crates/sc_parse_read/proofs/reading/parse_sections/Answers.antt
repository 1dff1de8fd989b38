use Rattle.sc_parse_read.proofs.Common.{AllZip, Err, IsCutInto, IsTreeOf, Refused, ap, arith, drop, err_from_is_err_and}
use Rattle.sc_parse_read.proofs.Common.{subst, suc, sym, ℕ, ◌+◌, ◌∙◌, ◌≡◌}
use Rattle.sc_parse_read.proofs.Steps.{more_sections, first_bad, as_many_from, zip_at, zip_after}
use Rattle.sc_parse_read.proofs.reading.parse_sections.Goals as goal

further : (at : ℕ) → suc at ≡ at + 1
further at = omega arith

pub bounds-as_slice-at : goal.bounds-as_slice-at
bounds-as_slice-at c =
    rw c.as_slice.ensures (as_many_from IsCutInto c.args.sections.now c.loop-at.cuts c.loop-at.at c.loop-at.invariant.1
    c.loop-at-test.true)

pub parse_section-requires : goal.parse_section-requires
parse_section-requires c =
    rw c.as_slice-tokens.ensures (zip_at IsCutInto c.args.sections.now c.loop-at.cuts c.loop-at.at
    c.index-sections-at.result c.index-as_slice-at.result c.loop-at.invariant.1 c.loop-at-test.true
    (as_many_from IsCutInto c.args.sections.now c.loop-at.cuts c.loop-at.at c.loop-at.invariant.1 c.loop-at-test.true)
    c.index-sections-at.is (rw c.as_slice.ensures at c.index-as_slice-at.is))

pub loop-at-preserved : goal.loop-at-preserved
loop-at-preserved c =
    let few = as_many_from IsCutInto c.args.sections.now c.loop-at.cuts c.loop-at.at c.loop-at.invariant.1
    c.loop-at-test.true in (
      rw c.in_ok-push.ensures.ok (more_sections IsTreeOf c.args.sections.now c.loop-at.trees c.loop-at.at
          c.index-sections-at.result c.in_ok-parse_section.field-0 c.loop-at-test.true c.index-sections-at.is
          c.loop-at.invariant.0 c.in_ok-parse_section.ensures.read),
      subst (λ k. AllZip IsCutInto (drop k c.args.sections.now) (drop k c.set.new.self)) (further c.loop-at.at)
          (rw c.set.ensures (zip_after IsCutInto c.args.sections.now c.loop-at.cuts c.loop-at.at c.new.result
          c.loop-at.invariant.1 c.loop-at-test.true few)),
    )

pub returns-in_err-parse_section-clause-refused : goal.returns-in_err-parse_section-clause-refused
returns-in_err-parse_section-clause-refused c = λ refusal is.
    let p = err_from_is_err_and c.from_residual.result c.from_residual.ensures.1 in
    let returned : c.from_residual.result ≡ Err p.0 = p.1 in
    let passed_on : p.0 ≡ c.in_err-parse_section.field-0.0 = p.2 in
    let below : c.in_err-parse_section.field-0.0 ≡ Refused refusal = cc in
    let refused = c.in_err-parse_section.ensures.refused refusal (ap Err below) in (
      refused.0,
      first_bad IsTreeOf (λ s tree is. (
        tree,
        is,
      )) c.args.sections.now c.loop-at.trees c.loop-at.at c.index-sections-at.result c.loop-at-test.true
          c.index-sections-at.is c.loop-at.invariant.0 refused.1,
    )
