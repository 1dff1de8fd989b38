use Rattle.sc_compile.proofs.Origin.{finds_origin}
use Rattle.sc_compile.proofs.laws.finds_origin.Goals as goal

pub returns : goal.returns
returns c = finds_origin
