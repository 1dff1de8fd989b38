use Rattle.sc_back_reread_laws.proofs.Names.{names_are_identifiers}
use Rattle.sc_back_reread_laws.proofs.laws.names_are_identifiers.Goals as goal

-- src/laws.rt:19:1
pub returns : goal.returns
returns c = names_are_identifiers
