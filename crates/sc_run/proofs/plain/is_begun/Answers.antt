use Rattle.sc_run.proofs.Common.{arith, false≢true, refl}
use Rattle.sc_run.proofs.Ahead.{round_begins}
use Rattle.sc_run.proofs.plain.is_begun.Goals as goal

pub returns-then-machine-eq0 : goal.returns-then-machine-eq0
returns-then-machine-eq0 c = record { passes = refl; taken = λ is. absurd (false≢true is) }

pub returns-then-not-holds : goal.returns-then-not-holds
returns-then-not-holds c = record { passes = refl; taken = λ is. absurd (false≢true is) }

pub returns : goal.returns
returns c =
    record {
      passes = round_begins c.args.program.now c.args.frame.now c.args.whole.now c.if-not-holds.ensures (omega arith);
      taken = λ is. omega arith;
    }
