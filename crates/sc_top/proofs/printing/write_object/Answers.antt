use Rattle.sc_top.proofs.Common.{ap, codes, decimal, refl, rules, sym, ◌++◌, ◌≡◌}
use Rattle.sc_top.proofs.Streams.{cut_wrote, then_wrote}
use Rattle.sc_top.proofs.printing.write_object.Goals as goal

pub returns-in_err-write_text : goal.returns-in_err-write_text
returns-in_err-write_text g c =
    let digits : decimal c.args.index ≡ c.as_bytes.result.now = cc in
    let index = c.in_err-write_text.ensures in
    let cause = codes " " ++ (decimal c.args.cause ++ codes "\n") in
    cut_wrote _ c.as_bytes.result.now cause _ _ _ _ _ (ap (λ n. n ++ cause) digits) (search rules)
    index.err index.fault index.counted

pub returns-in_err-write_text-2 : goal.returns-in_err-write_text-2
returns-in_err-write_text-2 g c =
    let digits : decimal c.args.index ≡ c.as_bytes.result.now = cc in
    let index = c.in_ok-write_text.ensures in
    let between = c.in_err-write_text-2.ensures in
    let cause = decimal c.args.cause ++ codes "\n" in
    then_wrote _ c.as_bytes.result.now _ c.from_residual-in_err-write_text-2.result _ _ _ _ _ _
    (ap (λ n. n ++ (codes " " ++ cause)) digits) index.ok index.counted
    (cut_wrote _ (codes " ") cause _ _ _ _ _ refl (search rules) between.err between.fault between.counted)

pub returns : goal.returns
returns g c =
    let digits : decimal c.args.index ≡ c.as_bytes.result.now = cc in
    let index = c.in_ok-write_text.ensures in
    let between = c.in_ok-write_text-2.ensures in
    let cause = decimal c.args.cause ++ codes "\n" in
    then_wrote _ c.as_bytes.result.now _ c.write_number.result _ _ _ _ _ _
    (ap (λ n. n ++ (codes " " ++ cause)) digits) index.ok index.counted
    (then_wrote _ (codes " ") _ _ _ _ _ _ _ _
    (ap (λ n. codes " " ++ (decimal n ++ codes "\n"))
    (sym c.from.ensures)) between.ok between.counted c.write_number.ensures)
