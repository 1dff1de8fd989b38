use Rattle.sc_ast.proofs.Common.{arith, common_steps}
use Rattle.sc_ast.proofs.Params.{first_param}
use Rattle.sc_ast.proofs.print.decl.append_named_params.Goals as goal

pub returns : goal.returns
returns c = let e = first_param c.as_slice.result.now c.first-item.result c.first-item.is c.in-len1-up.len_at_least in
    grind (arith, common_steps, e)
