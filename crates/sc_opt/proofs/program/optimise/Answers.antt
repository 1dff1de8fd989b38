use Rattle.std.proofs.Common.{◌∙◌}
use Rattle.sc_opt.proofs.Made.{made_keeps, program_made}
use Rattle.sc_opt.proofs.program.optimise.Goals as goal

pub new-requires : goal.new-requires
new-requires c = made_keeps c.args.tac.now c.tree-tree.result.now c.tree-tree.ensures.tree c.tree-tree.ensures.rules
    c.in_ok-interfaces.interfaces c.in_ok-sections.sections c.in_ok-interfaces.ensures
    c.in_ok-sections.ensures

pub returns : goal.returns
returns c = c.new.ensures ∙ program_made c.args.tac.now c.tree-tree.result.now c.tree-tree.ensures.tree
    c.in_ok-interfaces.interfaces c.in_ok-sections.sections c.in_ok-interfaces.ensures
    c.in_ok-sections.ensures
