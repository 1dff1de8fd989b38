use Rattle.sc_run.proofs.Common.{arith, here_of, kept_by, memory_of, sym, ◌∙◌}
use Rattle.sc_blocks.specs.Rows.{free_place}
use Rattle.sc_run.proofs.Coming.{allocated_as}
use Rattle.sc_run.proofs.Numbers.{numbers_asked}
use Rattle.sc_run.proofs.heap.allocated.Goals as goal

pub allocate-requires : goal.allocate-requires
allocate-requires c = omega (arith, c.requires c.args.frame.now.scope.comp.now)

pub invariant_of-machine : goal.invariant_of-machine
invariant_of-machine c =
    let comp = c.args.frame.now.scope.comp.now in
    record {
      numbers = numbers_asked c.allocate.result comp c.args.words
          (free_place (memory_of c.args.machine.now.blocks comp) c.args.words) c.allocate.ensures.made
          c.allocate.ensures.err (c.requires comp) c.args.machine.now.numbers;
    }

pub returns-in-Some : goal.returns-in-Some
returns-in-Some c = allocated_as (here_of c.args.frame.now.scope) c.args.words (kept_by c.args.machine.now)
    (sym c.in-Some.is ∙ c.in_ok-block.ensures.number) c.in_ok-block.ensures.made

pub returns-in-None : goal.returns-in-None
returns-in-None c = allocated_as (here_of c.args.frame.now.scope) c.args.words (kept_by c.args.machine.now)
    (sym c.in-None.is ∙ c.in_ok-block.ensures.number) c.in_ok-block.ensures.made
