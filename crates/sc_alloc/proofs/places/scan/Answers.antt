use Rattle.std.proofs.Common.{ap, arith, length, length-take}
use Rattle.std.proofs.lemmas.List.{length-map}
use Rattle.sc_alloc.proofs.Common.{Placement}
use Rattle.sc_alloc.proofs.Choices.{begun_before}
use Rattle.sc_alloc.proofs.places.scan.Goals as goal

pub add-requires-clause-begun : goal.add-requires-clause-begun
add-requires-clause-begun c =
    begun_before c.loop-interval.scan.placements c.args.order.now c.loop-interval.interval-index _
    c.loop-interval.invariant.placements c.requires.rising c.loop-interval-test.true

pub add-requires-clause-few : goal.add-requires-clause-few
add-requires-clause-few c =
    omega (
      arith,
      c.requires.few,
      c.loop-interval-test.true,
      ap length c.loop-interval.invariant.placements,
      length-map c.loop-interval.scan.placements (λ (g : Placement). g.interval),
      length-take c.loop-interval.interval-index c.args.order.now,
    )
