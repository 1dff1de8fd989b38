use Rattle.sc_object.proofs.Programs.{has_comps, has_entries}
use Rattle.sc_object.proofs.compiling.object.Goals as goal

pub object_in-requires-clause-there : goal.object_in-requires-clause-there
object_in-requires-clause-there c =
    has_comps c.args.program.now c.in_ok-image.image c.args.comp c.in_ok-image.ensures.image c.requires

pub object_in-requires-clause-entries : goal.object_in-requires-clause-entries
object_in-requires-clause-entries c = has_entries c.args.program.now c.in_ok-image.image c.in_ok-image.ensures.image

pub returns-in-Ok-clause-object : goal.returns-in-Ok-clause-object
returns-in-Ok-clause-object c = record {
  image = c.in_ok-image.image;
  compiled = c.in_ok-image.ensures.image;
  right = c.in_ok-image.ensures.compiled;
  is = c.in-Ok.ensures;
}
