use Rattle.sc_run.proofs.Common.{kept_by, memory_of, way_in}
use Rattle.sc_run.proofs.Ahead.{assigned_passes}
use Rattle.sc_run.proofs.Numbers.{numbers_assigned}
use Rattle.sc_run.proofs.planned.is_assigned_by.Goals as goal

pub invariant_of-machine : goal.invariant_of-machine
invariant_of-machine c =
    record {
      numbers = numbers_assigned c.is_assigned_by.result c.args.frame.now.scope.comp.now
          (way_in c.args.frame.now c.args.assignment.now.place.now)
          (way_in c.args.frame.now c.args.assignment.now.value.now) c.is_assigned_by.ensures
          c.args.machine.now.numbers;
    }

pub returns : goal.returns
returns c = assigned_passes c.args.frame.now c.args.assignment.now.place.now c.args.assignment.now.value.now c.args.line
    (kept_by c.args.machine.now) (memory_of c.is_assigned_by.new.blocks) c.is_assigned_by.result
    c.is_assigned_by.ensures
