use Rattle.sc_tags.proofs.Bytes.{code_low, code_nobody, code_there}
use Rattle.sc_tags.proofs.Common.{ImageParts, ap, comp_of_code, nat_lt, slice_get, sym, ◌%◌, ◌-◌, ◌/◌, ◌∙◌}
use Rattle.sc_tags.proofs.owner.is_code_word.Goals as goal

pub returns-then-word-lt-CODE-clause-is : goal.returns-then-word-lt-CODE-clause-is
returns-then-word-lt-CODE-clause-is c = sym (code_low c.args.image.now c.args.word c.requires c.if-word-lt-CODE.true)

pub returns-in-Some-clause-is : goal.returns-in-Some-clause-is
returns-in-Some-clause-is c =
    let found = ap (λ (p : ImageParts). slice_get p.comps (comp_of_code c.args.word)) (sym c.parts.ensures.parts) ∙
    ap (slice_get c.parts.result.now.comps) (sym c.comp_of_code.ensures) ∙ sym c.in-Some.ensures.value in
    ap (nat_lt ((c.args.word - 0x01000000) % 0x100000 / 4)) c.len.ensures ∙
    sym (code_there c.args.image.now c.args.word c.requires c.in-Some.part.now found c.if-word-lt-CODE.false)

pub returns-in-None-clause-is : goal.returns-in-None-clause-is
returns-in-None-clause-is c =
    let found = ap (λ (p : ImageParts). slice_get p.comps (comp_of_code c.args.word)) (sym c.parts.ensures.parts) ∙
    ap (slice_get c.parts.result.now.comps) (sym c.comp_of_code.ensures) ∙ sym c.in-None.ensures.value in
    sym (code_nobody c.args.image.now c.args.word c.requires found)
