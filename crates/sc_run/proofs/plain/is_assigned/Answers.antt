use Rattle.sc_run.proofs.Common.{kept_by, memory_of, way_in}
use Rattle.sc_run.proofs.Ahead.{assigned_passes}
use Rattle.sc_run.proofs.Numbers.{numbers_assigned}
use Rattle.sc_run.proofs.plain.is_assigned.Goals as goal

pub invariant_of-machine : goal.invariant_of-machine
invariant_of-machine c =
    record {
      numbers = numbers_assigned c.is_assigned.result c.args.frame.now.scope.comp.now
          (way_in c.args.frame.now c.args.place.now) (way_in c.args.frame.now c.args.value.now) c.is_assigned.ensures
          c.args.machine.now.numbers;
    }

pub returns : goal.returns
returns c = assigned_passes c.args.frame.now c.args.place.now c.args.value.now c.args.line (kept_by c.args.machine.now)
    (memory_of c.is_assigned.new.blocks) c.is_assigned.result c.is_assigned.ensures
