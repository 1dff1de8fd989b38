-- None are free from any place, and so are more than a zone has.
use Rattle.sc_zone.proofs.Common.{None, arith, subst, sym, ◌≡◌}
unfoldable use Rattle.sc_zone.proofs.Common.{least_free}
use Rattle.sc_zone.proofs.Places.{least_of_many, least_of_none}
use Rattle.sc_zone.proofs.zone.count_of.Goals as goal

pub returns-then-words-eq0-clause-none : goal.returns-then-words-eq0-clause-none
returns-then-words-eq0-clause-none c =
    λ spans. subst (λ n. least_free spans n ≡ None) (sym c.if-words-eq0.true) (least_of_none spans)

pub returns-then-words-from-clause-none : goal.returns-then-words-from-clause-none
returns-then-words-from-clause-none c =
    λ spans. least_of_many spans c.args.words (omega (arith, c.if-words-from.true, c.from.ensures))
