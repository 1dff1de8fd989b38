use Rattle.sc_core_kind_laws.proofs.Kinded.{results_have_kinds}
use Rattle.sc_core_kind_laws.proofs.laws.results_have_kinds.Goals as goal

pub returns : goal.returns
returns c = results_have_kinds
