use Rattle.sc_run.proofs.Common.{arith}
use Rattle.sc_run.proofs.Coming.{turn_comes, turn_stops}
use Rattle.sc_run.proofs.Numbers.{numbers_fewer}
use Rattle.sc_run.proofs.machine.take_turn.Goals as goal

pub returns-then-machine-eq0 : goal.returns-then-machine-eq0
returns-then-machine-eq0 c = record { comes = turn_stops (omega arith); taken = tt; numbers = tt }

pub returns : goal.returns
returns c =
    record {
      comes = turn_comes (omega arith);
      taken = omega arith;
      numbers = numbers_fewer (omega arith) c.args.machine.now.numbers;
    }
