-- The first gap that is wide enough begins at the least free place.
use Rattle.sc_zone.proofs.Common.{ap, arith, subst, sym, ◌∙◌}
unfoldable use Rattle.sc_zone.proofs.Common.{least_free}
use Rattle.sc_zone.proofs.Tables.{gap_ends, is_gap, least, nowhere}
use Rattle.sc_zone.proofs.Widest.{none_any}
use Rattle.sc_zone.specs.Gaps.{IsGap}
use Rattle.sc_zone.specs.Tables.{blocks_from}
use Rattle.sc_zone.proofs.zone.Zone.first_gap.Goals as goal

pub returns-in_err-place-clause-none : goal.returns-in_err-place-clause-none
returns-in_err-place-clause-none c =
    none_any c.from_residual.result
    (ap (λ l. least_free l c.args.words) (sym c.self.view_is) ∙
    nowhere c.self.inside.blocks.items c.self.inside.gaps.words.items c.self.inside.gaps_before.items
    c.self.invariant.0 c.args.words c.requires c.in_err-place.ensures.none)

pub overflow_cast-result : goal.overflow_cast-result
overflow_cast-result c =
    let ends = gap_ends c.self.inside.blocks.items c.self.inside.gaps.words.items c.self.inside.gaps_before.items
    c.self.invariant.0 c.in_ok-place.place (omega (arith, c.requires, c.in_ok-place.ensures.found)) in
    omega (arith, ends)

pub returns-clause-gap : goal.returns-clause-gap
returns-clause-gap c =
    subst (λ l. IsGap 0 l c.in_ok-place.place c.get-words.result) c.self.view_is
    (subst (IsGap 0 (blocks_from 0 c.self.inside.blocks.items) c.in_ok-place.place) (sym c.get-words.ensures)
    (is_gap c.self.inside.blocks.items c.self.inside.gaps.words.items c.self.inside.gaps_before.items
    c.self.invariant.0 c.in_ok-place.place (omega (arith, c.requires, c.in_ok-place.ensures.found))))

pub returns-clause-least : goal.returns-clause-least
returns-clause-least c =
    ap (λ l. least_free l c.args.words) (sym c.self.view_is) ∙
    least c.self.inside.blocks.items c.self.inside.gaps.words.items c.self.inside.gaps_before.items
    c.self.invariant.0 c.args.words c.in_ok-place.place c.requires c.in_ok-place.ensures.found
    c.in_ok-place.ensures.first
