use Rattle.sc_object.proofs.Common.{ap, object_of, ◌∙◌}
use Rattle.sc_object.proofs.Splitting.{of_image}
use Rattle.sc_object.proofs.compiling.object_in.Goals as goal

pub new-requires : goal.new-requires
new-requires c = record {
  good = of_image c.args.image.now c.parts-parts.ensures.well_formed c.requires.entries c.args.comp c.requires.there
      c.in_ok-object.object
      (c.in_ok-object.ensures ∙ ap (λ image. object_of image c.args.comp) c.parts-parts.ensures.parts);
}
