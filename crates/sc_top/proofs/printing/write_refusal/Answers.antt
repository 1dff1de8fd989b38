use Rattle.sc_top.proofs.Common.{ap, codes, decimal, refl, rules, sym, ◌++◌}
use Rattle.sc_top.proofs.Streams.{cut_wrote, then_wrote}
use Rattle.sc_top.proofs.printing.write_refusal.Goals as goal

pub returns-in_err-write_text : goal.returns-in_err-write_text
returns-in_err-write_text g c =
    let word = c.in_err-write_text.ensures in
    let line = codes " line " ++ (decimal c.args.refusal.now.line ++ codes "\n") in
    cut_wrote _ c.phase_word.result.now line _ _ _ _ _ (ap (λ w. w ++ line) (sym c.phase_word.ensures)) (search rules)
    word.err word.fault word.counted

pub returns-in_err-write_text-2 : goal.returns-in_err-write_text-2
returns-in_err-write_text-2 g c =
    let word = c.in_ok-write_text.ensures in
    let between = c.in_err-write_text-2.ensures in
    let line = decimal c.args.refusal.now.line ++ codes "\n" in
    then_wrote _ c.phase_word.result.now _ c.from_residual-in_err-write_text-2.result _ _ _ _ _ _
    (ap (λ w. w ++ (codes " line " ++ line)) (sym c.phase_word.ensures)) word.ok word.counted
    (cut_wrote _ (codes " line ") line _ _ _ _ _ refl (search rules) between.err between.fault between.counted)

pub returns : goal.returns
returns g c =
    let word = c.in_ok-write_text.ensures in
    let between = c.in_ok-write_text-2.ensures in
    let line = decimal c.args.refusal.now.line ++ codes "\n" in
    then_wrote _ c.phase_word.result.now _ c.write_number.result _ _ _ _ _ _
    (ap (λ w. w ++ (codes " line " ++ line)) (sym c.phase_word.ensures)) word.ok word.counted
    (then_wrote _ (codes " line ") _ _ _ _ _ _ _ _
    (ap (λ n. codes " line " ++ (decimal n ++ codes "\n"))
    (sym c.from.ensures)) between.ok between.counted c.write_number.ensures)
