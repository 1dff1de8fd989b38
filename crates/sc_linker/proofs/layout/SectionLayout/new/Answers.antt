use Rattle.sc_linker.proofs.Common.{All, IsCodeAddress, arith, subst, sym}
use Rattle.sc_linker.proofs.Beginnings.{starts_in_code}
use Rattle.sc_linker.proofs.layout.SectionLayout.new.Goals as goal

pub returns-clause-functions : goal.returns-clause-functions
returns-clause-functions c =
    subst (All (IsCodeAddress c.args.comp)) (sym c.in_ok-function_starts.ensures.starts)
    (starts_in_code c.args.comp c.entry_address.result c.args.codes.now (record {
      least = omega arith;
      greatest = omega arith;
      word = omega arith;
      whole = omega arith;
    }) c.in_ok-function_starts.ensures.some)
