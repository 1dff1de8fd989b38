use Rattle.sc_chain.proofs.Common.{IsAccountOf, IsCompiled, IsRobust, Ok, image_of, is_listed, map, subst, sym, word_of}
use Rattle.sc_chain.proofs.Common.{◌≡◌}
use Rattle.sc_chain.proofs.ChainTrace.{own_explained, own_robust}
use Rattle.sc_chain.proofs.account.explain.Goals as goal

pub account-requires-clause-robust : goal.account-requires-clause-robust
account-requires-clause-robust c =
    subst (λ given. IsRobust c.args.source.now.program (is_listed given) c.in-Ok.image) (sym c.new-nobody.ensures)
    (own_robust c.args.source.now.program c.in-Ok.image
    (subst (λ p. IsCompiled p c.in-Ok.image) c.program.ensures.program c.in-Ok.ensures.compiled))

pub returns-in-Ok-account-clause-explained : goal.returns-in-Ok-account-clause-explained
returns-in-Ok-account-clause-explained c =
    own_explained c.args.source.now (map word_of c.args.inputs.now) c.args.steps c.args.events c.in-Ok.image
    c.program.ensures.source c.one_program.ensures
    (subst (λ p. image_of p ≡ Ok c.in-Ok.image) c.program.ensures.program c.in-Ok.ensures.image)
    (subst (λ p. IsCompiled p c.in-Ok.image) c.program.ensures.program c.in-Ok.ensures.compiled)
    c.in-Ok-account.explanation
    (subst (λ given. IsAccountOf c.args.source.now c.in-Ok.image given (map word_of c.args.inputs.now) c.args.steps
    c.args.events c.in-Ok-account.explanation) c.new-nobody.ensures c.in-Ok-account.ensures.account)
