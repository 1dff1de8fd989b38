use Rattle.sc_top.proofs.Outputs.{one_output}
use Rattle.sc_top.proofs.laws.one_output.Goals as goal

pub returns : goal.returns
returns c =
    one_output c.one_program.ensures c.one_image.ensures c.bytes_name_one_list.ensures c.one_policy.ensures
