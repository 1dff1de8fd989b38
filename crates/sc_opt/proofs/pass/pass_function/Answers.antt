use Rattle.std.proofs.Common.{◌∙◌}
use Rattle.sc_opt.proofs.Made.{function_made, made_keeps_rules}
use Rattle.sc_opt.proofs.pass.pass_function.Goals as goal

pub new-requires : goal.new-requires
new-requires c = made_keeps_rules c.args.f.now c.tree-tree.result.now c.tree-tree.ensures.tree c.tree-tree.ensures.rules
    c.in_ok-tables.tables c.in_ok-tables.ensures c.in_ok-objects.objects c.in_ok-body.body
    (c.in_ok-objects.ensures ∙ c.as_slice.ensures)
    c.in_ok-body.ensures

pub returns : goal.returns
returns c = c.new.ensures ∙ function_made c.args.f.now c.tree-tree.result.now c.tree-tree.ensures.tree
    c.tree-tree.ensures.rules c.in_ok-tables.tables c.in_ok-tables.ensures c.in_ok-objects.objects c.in_ok-body.body
    (c.in_ok-objects.ensures ∙ c.as_slice.ensures) c.in_ok-body.ensures
