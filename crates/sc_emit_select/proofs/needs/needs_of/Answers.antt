use Rattle.sc_emit_select.proofs.Needed.{all_marked}
use Rattle.sc_emit_select.proofs.needs.needs_of.Goals as goal

pub returns : goal.returns
returns c =
    all_marked c.args.f.now c.tree-tree.result.now _ c.row.new.self c.tree-tree.ensures.rules c.tree-tree.ensures.tree
    c.in_ok-needs.ensures c.row.ensures
