-- The laws.
use Rattle.sc_core_kind_laws.proofs.Common.{ResultsHaveKinds, ValuesHaveKinds}
use Rattle.sc_core_kind_laws.proofs.Values.{value_kind, sound}
use Rattle.sc_core_kind_laws.proofs.Results.{returned_good, crosses_itself, asks_only_callable}

pub values_have_kinds : ValuesHaveKinds
values_have_kinds = record {
  value = λ arith structs here params scope e fits blocks. value_kind arith structs here params scope e fits blocks;
  place = λ arith structs here params scope e fits names blocks.
      (sound arith structs here params scope e).place fits names blocks;
}

pub results_have_kinds : ResultsHaveKinds
results_have_kinds = record {
  returned = λ arith program typed roles n number here f plain h s t v is.
      returned_good arith program typed roles n number here f plain h s t v is;
  crosses = λ arith program typed roles n index number here proto plain h entry s t v is.
      crosses_itself arith program typed roles n index number here proto plain h entry s t v is;
  allowed = λ arith program typed roles n number here f plain h s.
      asks_only_callable arith program typed roles n number here f plain h s;
}
