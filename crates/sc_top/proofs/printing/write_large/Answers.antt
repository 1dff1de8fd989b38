use Rattle.sc_top.proofs.Common.{ap, bytes_of, codes, decimal, owner_text, refl, rules, sym, ◌++◌}
use Rattle.sc_top.proofs.Streams.{cut_wrote, then_wrote}
use Rattle.sc_top.proofs.printing.write_large.Goals as goal

pub returns-in_err-write_owner : goal.returns-in_err-write_owner
returns-in_err-write_owner g c =
    let kind = c.in_ok-write_text.ensures in
    let owner = c.in_err-write_owner.ensures in
    let number = decimal (bytes_of c.args.fault.now) ++ codes "\n" in
    then_wrote _ c.kind_text.result.now _ c.from_residual-in_err-write_owner.result _ _ _ _ _ _
    (ap (λ k. k ++ (owner_text c.args.fault.now ++ number)) (sym c.kind_text.ensures)) kind.ok kind.counted
    (cut_wrote _ _ number _ _ _ _ _ refl (search rules) owner.err owner.fault owner.counted)

pub returns : goal.returns
returns g c =
    let kind = c.in_ok-write_text.ensures in
    let owner = c.in_ok-write_owner.ensures in
    let number = decimal (bytes_of c.args.fault.now) ++ codes "\n" in
    then_wrote _ c.kind_text.result.now _ c.write_number.result _ _ _ _ _ _
    (ap (λ k. k ++ (owner_text c.args.fault.now ++ number)) (sym c.kind_text.ensures)) kind.ok kind.counted
    (then_wrote _ (owner_text c.args.fault.now) _ _ _ _ _ _ _ _
    (ap (λ n. owner_text c.args.fault.now ++ (decimal n ++ codes "\n"))
    (sym c.bytes_of.ensures)) owner.ok owner.counted c.write_number.ensures)
