-- Past the table's end there are no numbers.
use Rattle.sc_zone.proofs.Common.{arith}
use Rattle.std.proofs.Common.{◌*◌}
use Rattle.sc_zone.proofs.Blocks.{past_end}
use Rattle.sc_zone.proofs.Widest.{chunk_greatest, next_greatest, none_greatest}
use Rattle.sc_zone.proofs.gaps.greatest.Goals as goal

pub loop-place-init : goal.loop-place-init
loop-place-init c = record {
  greatest = none_greatest c.args.words.now (256 * c.args.chunk);
  near = omega arith;
}

pub loop-place-preserved : goal.loop-place-preserved
loop-place-preserved c = record {
  greatest = next_greatest c.args.words.now (256 * c.args.chunk) c.loop-place.place c.loop-place.most c.max-most.result
      c.loop-place.auto.place c.loop-place.invariant.greatest c.max-most.ensures;
  near = omega (arith, c.min-end.ensures, c.loop-place-test.true);
}

pub returns : goal.returns
returns c =
    chunk_greatest c.args.words.now c.args.chunk c.loop-place.place c.loop-place.most c.loop-place.invariant.near
    (λ place low high. past_end c.args.words.now place
    (omega (arith, low, high, c.min-end.ensures, c.loop-place-test.false)))
    c.loop-place.invariant.greatest
