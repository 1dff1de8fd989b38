use Rattle.sc_top.proofs.Common.{ap, ap₂, codes, decimal, own_text, rules, sym, ◌++◌, ◌∙◌}
use Rattle.sc_top.proofs.Streams.{cut_wrote, then_wrote}
use Rattle.sc_top.proofs.printing.write_status.Goals as goal

pub returns-in_err-write_text : goal.returns-in_err-write_text
returns-in_err-write_text g c =
    let fixed = c.in_err-write_text.ensures in
    cut_wrote _ c.fixed_text.result.now (own_text c.args.status.now) c.from_residual.result _ _ _ _
    (ap (λ f. f ++ own_text c.args.status.now) (sym c.fixed_text.ensures))
    (search rules) fixed.err fixed.fault fixed.counted

pub returns-in-Refused : goal.returns-in-Refused
returns-in-Refused g c =
    let fixed = c.in_ok-write_text.ensures in
    then_wrote _ c.fixed_text.result.now _ c.write_refusal.result _ _ _ _ _ _
    (ap₂ (λ f own. f ++ own) (sym c.fixed_text.ensures)
    (ap own_text c.in-Refused.is)) fixed.ok fixed.counted c.write_refusal.ensures

pub returns-in-TooLarge : goal.returns-in-TooLarge
returns-in-TooLarge g c =
    let fixed = c.in_ok-write_text.ensures in
    then_wrote _ c.fixed_text.result.now _ c.write_large.result _ _ _ _ _ _
    (ap₂ (λ f own. f ++ own) (sym c.fixed_text.ensures)
    (ap own_text c.in-TooLarge.is)) fixed.ok fixed.counted c.write_large.ensures

pub returns-in-TooLong : goal.returns-in-TooLong
returns-in-TooLong g c =
    let fixed = c.in_ok-write_text.ensures in
    then_wrote _ c.fixed_text.result.now _ c.write_number.result _ _ _ _ _ _
    (ap₂ (λ f own. f ++ own) (sym c.fixed_text.ensures)
    (ap own_text c.in-TooLong.is ∙
    ap (λ n. decimal n ++ codes "\n") (sym c.from.ensures))) fixed.ok fixed.counted c.write_number.ensures

pub returns-in-BadImage : goal.returns-in-BadImage
returns-in-BadImage g c =
    let fixed = c.in_ok-write_text.ensures in
    then_wrote _ c.fixed_text.result.now _ c.write_number-in-BadImage.result _ _ _ _ _ _
    (ap₂ (λ f own. f ++ own) (sym c.fixed_text.ensures)
    (ap own_text c.in-BadImage.is ∙
    ap (λ n. decimal n ++ codes "\n")
    (sym c.from-in-BadImage.ensures))) fixed.ok fixed.counted c.write_number-in-BadImage.ensures

pub returns-in-BadObject : goal.returns-in-BadObject
returns-in-BadObject g c =
    let fixed = c.in_ok-write_text.ensures in
    then_wrote _ c.fixed_text.result.now _ c.write_object.result _ _ _ _ _ _
    (ap₂ (λ f own. f ++ own) (sym c.fixed_text.ensures)
    (ap own_text c.in-BadObject.is)) fixed.ok fixed.counted c.write_object.ensures

pub returns-in-BadJoin : goal.returns-in-BadJoin
returns-in-BadJoin g c =
    let fixed = c.in_ok-write_text.ensures in
    then_wrote _ c.fixed_text.result.now _ c.write_join.result _ _ _ _ _ _
    (ap₂ (λ f own. f ++ own) (sym c.fixed_text.ensures)
    (ap own_text c.in-BadJoin.is)) fixed.ok fixed.counted c.write_join.ensures

pub returns-in-NoSection : goal.returns-in-NoSection
returns-in-NoSection g c =
    let fixed = c.in_ok-write_text.ensures in
    then_wrote _ c.fixed_text.result.now _ c.write_last_name.result _ _ _ _ _ _
    (ap₂ (λ f own. f ++ own) (sym c.fixed_text.ensures)
    (ap own_text c.in-NoSection.is)) fixed.ok fixed.counted c.write_last_name.ensures

pub returns-in-BadPolicy : goal.returns-in-BadPolicy
returns-in-BadPolicy g c =
    let fixed = c.in_ok-write_text.ensures in
    then_wrote _ c.fixed_text.result.now _ c.write_number-in-BadPolicy.result _ _ _ _ _ _
    (ap₂ (λ f own. f ++ own) (sym c.fixed_text.ensures)
    (ap own_text c.in-BadPolicy.is ∙
    ap (λ n. decimal n ++ codes "\n")
    (sym c.from-in-BadPolicy.ensures))) fixed.ok fixed.counted c.write_number-in-BadPolicy.ensures
