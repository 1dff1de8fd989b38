use Rattle.sc_top.proofs.Linked.{linking_is_compiling}
use Rattle.sc_top.proofs.laws.linking_is_compiling.Goals as goal

pub returns : goal.returns
returns c =
    linking_is_compiling c.one_program.ensures c.bytes_name_one_list.ensures c.link_is_compile.ensures
