use Rattle.sc_top.proofs.Common.{ap, codes, rules, ◌++◌}
use Rattle.sc_top.proofs.Streams.{cut_wrote, then_wrote}
use Rattle.sc_top.proofs.printing.write_last_name.Goals as goal

pub returns-in_err-write_text : goal.returns-in_err-write_text
returns-in_err-write_text g c =
    let wrote = c.in_err-write_text.ensures in
    cut_wrote _ c.as_bytes.result.now (codes "\n") c.from_residual.result _ _ _ _ (ap (λ name. name ++ codes "\n") (cc))
    (search rules) wrote.err wrote.fault wrote.counted

pub returns : goal.returns
returns g c =
    let wrote = c.in_ok-write_text.ensures in
    then_wrote _ c.as_bytes.result.now (codes "\n") c.write_text-2.result _ _ _ _ _ _
    (ap (λ name. name ++ codes "\n") (cc)) wrote.ok wrote.counted c.write_text-2.ensures
