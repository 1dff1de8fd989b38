use Rattle.sc_top.proofs.Common.{ap, codes, owner_text, rules, ◌++◌}
use Rattle.sc_top.proofs.Streams.{cut_wrote, then_wrote}
use Rattle.sc_top.proofs.printing.write_owner.Goals as goal

pub returns-in_err-write_name-in-Frame : goal.returns-in_err-write_name-in-Frame
returns-in_err-write_name-in-Frame g c =
    let wrote = c.in_err-write_name-in-Frame.ensures in
    cut_wrote _ _ (c.in-Frame.function ++ codes " ") c.from_residual.result _ _ _ _ (ap owner_text c.in-Frame.is)
    (search rules) wrote.err wrote.fault wrote.counted

pub returns-in_ok-write_name-in-Frame : goal.returns-in_ok-write_name-in-Frame
returns-in_ok-write_name-in-Frame g c =
    let wrote = c.in_ok-write_name-in-Frame.ensures in
    then_wrote _ (c.in-Frame.comp ++ codes " ") _ c.write_name-in-Frame-2.result _ _ _ _ _ _
    (ap owner_text c.in-Frame.is) wrote.ok wrote.counted c.write_name-in-Frame-2.ensures
