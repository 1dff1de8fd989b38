use Rattle.sc_top.proofs.Common.{refl, rules}
use Rattle.sc_top.proofs.Chains.{account_of_text}
use Rattle.sc_top.proofs.Outputs.{any_reading, any_text}
use Rattle.sc_top.proofs.account.text_accounted.Goals as goal

pub returns-in_err-source-clause-cause : goal.returns-in_err-source-clause-cause
returns-in_err-source-clause-cause c =
    let cause = any_reading 1048576 c.args.bytes.now _ c.in_err-source.ensures.cause in
    search (rules, cause)

pub returns-in_err-explanation-clause-cause : goal.returns-in_err-explanation-clause-cause
returns-in_err-explanation-clause-cause c =
    let cause = any_text 1048576 c.args.bytes.now c.in_ok-source.source.program _
    c.in_ok-source.ensures.accepted.1 c.in_err-explanation.ensures.cause in
    search (rules, cause)

pub returns-clause-account : goal.returns-clause-account
returns-clause-account c =
    account_of_text c.args.options.now c.args.bytes.now
    (record { source = c.in_ok-source.source; explanation = c.in_ok-explanation.explanation })
    c.in_ok-source.ensures.parts c.in_ok-source.ensures.accepted.0 c.in_ok-explanation.ensures.explained
    c.requires.short
