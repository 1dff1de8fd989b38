use Rattle.sc_chain.proofs.Common.{IsCompiled, Ok, image_of, is_listed, subst, ◌≡◌}
use Rattle.std.specs.Prelude.{IfNone, IfSome, ℕ, Bool}
use Rattle.sc_image.specs.Prelude.{AreGiven, IsButFor}
use Rattle.sc_chain.proofs.ChainTrace.{given_known}
use Rattle.sc_chain.proofs.account.explain_image.Goals as goal

pub account-requires-clause-robust : goal.account-requires-clause-robust
account-requires-clause-robust c =
    (subst (λ p. IsCompiled p c.in-Ok.own) c.program.ensures.program c.in-Ok.ensures.compiled).robust
    (is_listed c.in-Some.given) c.args.image
    (subst (λ found. IfSome found (AreGiven c.in-Ok.own c.args.image)) c.in-Some.is
    c.in-Ok-given_in.ensures.given).but_for

pub account-requires-clause-known : goal.account-requires-clause-known
account-requires-clause-known c =
    given_known c.args.source.now.program c.in-Ok.own c.args.image c.in-Some.given
    (subst (λ p. IsCompiled p c.in-Ok.own) c.program.ensures.program c.in-Ok.ensures.compiled)
    (subst (λ found. IfSome found (AreGiven c.in-Ok.own c.args.image)) c.in-Some.is c.in-Ok-given_in.ensures.given)

pub returns-in_default-found-clause-fault : goal.returns-in_default-found-clause-fault
returns-in_default-found-clause-fault c = record {
  own = c.in-Ok.own;
  compiled = subst (λ p. image_of p ≡ Ok c.in-Ok.own) c.program.ensures.program c.in-Ok.ensures.image;
  differs = subst (λ found. IfNone found ((set : ℕ → Bool) → IsButFor set c.in-Ok.own c.args.image → ⊥))
      c.in_default-found.is c.in-Ok-given_in.ensures.none;
}
