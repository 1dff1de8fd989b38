use Rattle.sc_lower.proofs.Common.{IsFunction, subst, sym}
use Rattle.sc_lower.proofs.program.lower_function.Goals as goal

pub function_tree-requires : goal.function_tree-requires
function_tree-requires c = record {
  few_params = c.requires.few_params;
  few_nodes = c.requires.few_nodes;
  near = c.requires.near;
  few_exports = c.requires.few_exports;
  param_cells = c.requires.param_cells;
  local_cells = c.requires.local_cells;
}

pub new-requires : goal.new-requires
new-requires c = subst IsFunction (sym c.in_ok-tree.ensures) c.requires.kept
