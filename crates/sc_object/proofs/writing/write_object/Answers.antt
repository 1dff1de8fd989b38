use Rattle.sc_object.proofs.Fields.{faces_fit}
use Rattle.sc_object.proofs.writing.write_object.Goals as goal

pub append_faces-requires : goal.append_faces-requires
append_faces-requires c = rw (c.as_slice-faces.ensures, c.parts-parts.ensures.parts)
    (faces_fit c.args.object.now c.parts-parts.ensures.good)
