use Rattle.sc_top.proofs.Accounts.{compiled_images_are_judged}
use Rattle.sc_top.proofs.laws.compiled_images_are_judged.Goals as goal

pub returns : goal.returns
returns c =
    compiled_images_are_judged c.one_program.ensures c.one_policy.ensures c.own_images_are_explained.ensures
