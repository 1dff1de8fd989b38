use Rattle.sc_run.proofs.Common.{[], global_block, map, memory_of, struct_zeros, take, with_blocks, ◌++◌, ◌≡◌}
use Rattle.sc_run.proofs.globals.make_globals.Given as goal

abbrev pub invariant-loop-global : goal.invariant-loop-global
invariant-loop-global l =
    memory_of l.blocks ≡ with_blocks l.comp (memory_of l.fn.blocks l.comp ++
    map (global_block (struct_zeros [] l.section.structs)) (take l.global-index l.section.globals))
    (memory_of l.fn.blocks)
