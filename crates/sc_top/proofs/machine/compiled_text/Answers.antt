use Rattle.sc_top.proofs.Common.{All, Interfaces, IsKnown, machine_run, subst, sym}
use Rattle.sc_top.proofs.Known.{compiled_known}
use Rattle.sc_top.proofs.machine.compiled_text.Goals as goal

pub machine_text-requires : goal.machine_text-requires
machine_text-requires c =
    subst (λ (names : Interfaces). All (IsKnown names) (machine_run c.args.options.now c.args.image).state.trace)
    (sym c.interfaces.ensures)
    (compiled_known c.args.options.now c.args.program.now c.args.image c.tree-tree.ensures.typed c.requires)
