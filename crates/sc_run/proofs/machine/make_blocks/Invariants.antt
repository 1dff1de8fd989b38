use Rattle.sc_run.proofs.Common.{memory_of, take, ◌++◌, ◌≡◌}
use Rattle.sc_run.proofs.Making.{with_sizes, param_sizes, local_sizes}
use Rattle.sc_run.proofs.machine.make_blocks.Given as goal

abbrev pub invariant-loop-at : goal.invariant-loop-at
invariant-loop-at l =
    memory_of l.blocks ≡ with_sizes l.callee.comp.now
    (take l.at (param_sizes l.callee.structs.now l.callee.function.now)) l.args (memory_of l.fn.blocks)

abbrev pub invariant-loop-at-2 : goal.invariant-loop-at-2
invariant-loop-at-2 l =
    memory_of l.blocks ≡ with_sizes l.callee.comp.now
    (param_sizes l.callee.structs.now l.callee.function.now ++
    take l.at (local_sizes l.callee.structs.now l.callee.function.now)) l.args (memory_of l.fn.blocks)
