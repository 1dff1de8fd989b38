use Rattle.sc_image.proofs.Common.{arith}
use Rattle.sc_image.proofs.Whole.{begin_with, begins, rest_is_short}
use Rattle.sc_image.proofs.reading.read_image_part.Goals as goal

pub overflow_sub-place : goal.overflow_sub-place
overflow_sub-place c = rest_is_short c.args.bytes.now c.in_ok-parts.parts _
    (λ i. omega (arith, c.type_inv.bytes i)) c.in_ok-parts.ensures

pub new-requires : goal.new-requires
new-requires c = record {
  well_formed = (begins c.args.bytes.now c.in_ok-parts.parts _
      (λ i. omega (arith, c.type_inv.bytes i)) c.in_ok-parts.ensures).0;
}

pub returns-clause-image : goal.returns-clause-image
returns-clause-image c = rw c.new.ensures (begin_with c.args.bytes.now c.in_ok-parts.parts _
    (λ i. omega (arith, c.type_inv.bytes i)) c.in_ok-parts.ensures)
