use Rattle.sc_core_kind_laws.proofs.Kinded.{values_have_kinds}
use Rattle.sc_core_kind_laws.proofs.laws.values_have_kinds.Goals as goal

pub returns : goal.returns
returns c = values_have_kinds
