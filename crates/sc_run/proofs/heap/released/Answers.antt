use Rattle.sc_run.proofs.Common.{here_of}
use Rattle.sc_run.proofs.Coming.{released_ok, released_err}
use Rattle.sc_run.proofs.Numbers.{numbers_released}
use Rattle.sc_run.proofs.heap.released.Goals as goal

pub invariant_of-machine : goal.invariant_of-machine
invariant_of-machine c =
    record {
      numbers = numbers_released c.free.result c.args.frame.now.scope.comp.now c.args.pointer c.free.ensures.value
          c.free.ensures.others c.free.ensures.err c.args.machine.now.numbers;
    }

pub returns-in-Ok : goal.returns-in-Ok
returns-in-Ok c = released_ok (here_of c.args.frame.now.scope) c.args.pointer c.args.line c.in-Ok.ensures.value
    c.free.ensures.others

pub returns-in-Err : goal.returns-in-Err
returns-in-Err c = released_err (here_of c.args.frame.now.scope) c.args.pointer c.args.line c.blamed.ensures
    c.in-Err.ensures.value c.in-Err.ensures.err
