use Rattle.sc_run.proofs.Common.{arith, false≢true, refl}
use Rattle.sc_run.proofs.Ahead.{round_begins}
use Rattle.sc_run.proofs.planned.is_begun_by.Goals as goal

pub returns-then-machine-eq0 : goal.returns-then-machine-eq0
returns-then-machine-eq0 c = record { passes = refl; taken = λ is. absurd (false≢true is) }

pub returns-then-not-holds_by : goal.returns-then-not-holds_by
returns-then-not-holds_by c = record { passes = refl; taken = λ is. absurd (false≢true is) }

pub returns : goal.returns
returns c =
    record {
      passes = round_begins c.args.program.now c.args.frame.now c.args.whole.now c.if-not-holds_by.ensures
          (omega arith);
      taken = λ is. omega arith;
    }
