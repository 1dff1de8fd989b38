use Rattle.sc_top.proofs.Apart.{same_texts_fit}
use Rattle.sc_top.proofs.laws.same_texts_fit.Goals as goal

pub returns : goal.returns
returns c = same_texts_fit c.sections_are_typed_alone.ensures
