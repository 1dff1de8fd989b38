use Rattle.sc_object.proofs.Common.{arith, length, nat_tests, ◌≡◌}
use Rattle.sc_object.proofs.Cuts.{has_read, reads_few, reads_first, reads_more, shrinks}
use Rattle.sc_object.proofs.reading.read_objects.Goals as goal

pub loop-rest-init : goal.loop-rest-init
loop-rest-init c =
    reads_first c.args.bytes.now c.new-objects.result c.push_object.new.objects c.push_object.new.rest.now
    (λ i. omega (arith, c.type_inv.bytes i)) c.new-objects.ensures c.in_ok-push_object.ensures.read

pub push_object-requires-in-loop-rest : goal.push_object-requires-in-loop-rest
push_object-requires-in-loop-rest c =
    omega (
      arith,
      c.requires,
      reads_few c.args.bytes.now c.loop-rest.objects c.loop-rest.rest.now c.loop-rest.invariant,
    )

pub loop-rest-smaller : goal.loop-rest-smaller
loop-rest-smaller c =
    shrinks c.args.bytes.now c.loop-rest.objects c.push_object-in-loop-rest.new.objects c.loop-rest.rest.now
    c.push_object-in-loop-rest.new.rest.now c.loop-rest.invariant c.in_ok-push_object-2.ensures.read

pub loop-rest-preserved : goal.loop-rest-preserved
loop-rest-preserved c =
    reads_more c.args.bytes.now c.loop-rest.objects c.push_object-in-loop-rest.new.objects c.loop-rest.rest.now
    c.push_object-in-loop-rest.new.rest.now c.loop-rest.invariant c.in_ok-push_object-2.ensures.read

pub from_items-requires : goal.from_items-requires
from_items-requires c =
    let is = c.is_empty.ensures in
    let test = c.loop-rest-test.false in
    let none : length c.loop-rest.rest.now ≡ 0 = grind (arith, nat_tests) in
    record {
      good = (has_read c.args.bytes.now c.loop-rest.objects c.loop-rest.rest.now c.loop-rest.invariant c.requires
          none).good;
    }
