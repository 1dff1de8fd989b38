use Rattle.sc_top.proofs.Common.{Accepts, BeginWithImage, IsAccountFor, IsLimited, List, drop, length, refl, rules}
use Rattle.sc_top.proofs.Common.{subst}
use Rattle.sc_top.proofs.Common.{sym, take_rest, ℕ, ◌∙◌, ◌≤◌}
use Rattle.sc_top.proofs.Chains.{account_of_image}
use Rattle.sc_top.proofs.Outputs.{any_another, any_limited}
use Rattle.sc_top.proofs.account.image_accounted.Goals as goal

pub returns-in_err-source-clause-cause : goal.returns-in_err-source-clause-cause
returns-in_err-source-clause-cause c =
    let bytes = c.args.bytes.now in
    let front : BeginWithImage bytes = record {
      image = c.in_ok-image.image;
      place = c.in_ok-image.place;
      well_formed = c.parts-parts.ensures.well_formed;
      begin = c.in_ok-image.ensures.image;
    } in
    let cause = any_limited 67108864 1048576 bytes front _ (take_rest bytes front.place) _
    c.in_err-source.ensures.cause in
    search (rules, cause)

pub returns-in_err-explanation-clause-cause : goal.returns-in_err-explanation-clause-cause
returns-in_err-explanation-clause-cause c =
    let bytes = c.args.bytes.now in
    let front : BeginWithImage bytes = record {
      image = c.in_ok-image.image;
      place = c.in_ok-image.place;
      well_formed = c.parts-parts.ensures.well_formed;
      begin = c.in_ok-image.ensures.image;
    } in
    let rest = take_rest bytes front.place in
    let source = c.in_ok-source.source in
    let cause = any_another 67108864 1048576 bytes front source.program _
    (subst (λ (text : List ℕ). length text ≤ 1048576) (c.in_ok-source.ensures.accepted.0 ∙ rest)
    c.in_ok-source.ensures.short)
    (subst (λ (text : List ℕ). Accepts text source.program) rest c.in_ok-source.ensures.accepted.1)
    c.in_err-explanation.ensures.cause in
    search (rules, cause)

pub returns-clause-account : goal.returns-clause-account
returns-clause-account c =
    let bytes = c.args.bytes.now in
    let front : BeginWithImage bytes = record {
      image = c.in_ok-image.image;
      place = c.in_ok-image.place;
      well_formed = c.parts-parts.ensures.well_formed;
      begin = c.in_ok-image.ensures.image;
    } in
    let whole = c.in_ok-source.ensures.accepted.0 ∙ take_rest bytes front.place in
    account_of_image c.args.options.now bytes front
    (record { source = c.in_ok-source.source; explanation = c.in_ok-explanation.explanation })
    c.in_ok-source.ensures.parts whole c.in_ok-explanation.ensures.explained
    (subst (λ (text : List ℕ). length text ≤ 1048576) whole c.in_ok-source.ensures.short)
