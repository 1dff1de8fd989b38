use Rattle.sc_run.proofs.Common.{here_of}
use Rattle.sc_run.proofs.Coming.{stored_ok, stored_err}
use Rattle.sc_run.proofs.Numbers.{numbers_result}
use Rattle.sc_run.proofs.machine.stored.Goals as goal

pub invariant_of-machine : goal.invariant_of-machine
invariant_of-machine c =
    record {
      numbers = numbers_result c.store.result c.args.frame.now.scope.comp.now c.args.place c.args.value
          c.store.ensures.value
          c.store.ensures.others c.store.ensures.err c.args.machine.now.numbers;
    }

pub returns-in-Ok : goal.returns-in-Ok
returns-in-Ok c = stored_ok (here_of c.args.frame.now.scope) c.args.place c.args.value c.args.line c.in-Ok.ensures.value
    c.store.ensures.others

pub returns-in-Err : goal.returns-in-Err
returns-in-Err c = stored_err (here_of c.args.frame.now.scope) c.args.place c.args.value c.args.line c.blamed.ensures
    c.in-Err.ensures.value c.in-Err.ensures.err
