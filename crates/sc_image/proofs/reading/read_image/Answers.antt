use Rattle.sc_image.proofs.Common.{arith}
use Rattle.sc_image.proofs.Whole.{is_read}
use Rattle.sc_image.proofs.reading.read_image.Goals as goal

pub new-requires : goal.new-requires
new-requires c = record {
  well_formed = (is_read c.args.bytes.now c.in_ok-parts.parts
      (λ i. omega (arith, c.type_inv.bytes i)) c.in_ok-parts.ensures).0;
}

pub returns-clause-image : goal.returns-clause-image
returns-clause-image c = rw c.new.ensures (is_read c.args.bytes.now c.in_ok-parts.parts
    (λ i. omega (arith, c.type_inv.bytes i)) c.in_ok-parts.ensures).1
