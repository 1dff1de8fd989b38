use Rattle.sc_top.proofs.Common.{Explain, account, ap₂, refl, rules, sym, ◌∙◌}
use Rattle.sc_top.proofs.chain.explain.Goals as goal

pub returns-in_err-found-clause-cause : goal.returns-in_err-found-clause-cause
returns-in_err-found-clause-cause c =
    let cause = c.in_err-found.ensures.cause (Explain c.args.options.now) refl refl in
    search (rules, cause)

pub returns-clause-ok : goal.returns-clause-ok
returns-clause-ok c =
    let made = c.in_ok-found.ensures.account in
    record {
      found = made.found;
      written = c.in_ok-account.ensures ∙ ap₂ (account c.args.options.now) (sym made.source) (sym made.explanation);
    }
