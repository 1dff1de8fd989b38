use Rattle.sc_linker.proofs.Compartments.{image_formed}
use Rattle.sc_linker.proofs.image.link.Goals as goal

pub new-requires : goal.new-requires
new-requires c = record {
  well_formed = image_formed c.args.program.now c.tree-program.result.now c.args.codes.now
      c.in_ok-main_address.field-0 c.in_ok-comp_parts.field-0 c.tree-program.ensures.tree
      c.tree-program.ensures.typed c.requires c.in_ok-main_address.ensures c.in_ok-comp_parts.ensures.parts
      c.in_ok-comp_parts.ensures.named c.in_ok-comp_parts.ensures.whole;
}
