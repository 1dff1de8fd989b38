use Rattle.sc_tags.proofs.Bytes.{data_low, data_nobody, data_there}
use Rattle.sc_tags.proofs.Common.{ImageParts, ap, comp_of_data, slice_get, slice_get_within, sym, ◌∙◌}
use Rattle.sc_tags.proofs.owner.is_data_byte.Goals as goal

pub returns-then-at-lt-DATA-clause-is : goal.returns-then-at-lt-DATA-clause-is
returns-then-at-lt-DATA-clause-is c = sym (data_low c.args.image.now c.args.at c.if-at-lt-DATA.true)

pub has_data-requires : goal.has_data-requires
has_data-requires c =
    let found = ap (λ (p : ImageParts). slice_get p.comps c.comp_of_data.result) (sym c.parts.ensures.parts) ∙
    sym c.in-Some.ensures.value in
    (c.parts.ensures.well_formed.comps _ c.in-Some.part.now found).short_globals

pub returns-in-Some-clause-is : goal.returns-in-Some-clause-is
returns-in-Some-clause-is c =
    let found = ap (λ (p : ImageParts). slice_get p.comps (comp_of_data c.args.at)) (sym c.parts.ensures.parts) ∙
    ap (slice_get c.parts.result.now.comps) (sym c.comp_of_data.ensures) ∙ sym c.in-Some.ensures.value in
    c.has_data.ensures ∙ sym (data_there c.args.image.now c.args.at c.in-Some.part.now found c.if-at-lt-DATA.false
    (slice_get_within c.args.image.now.comps (comp_of_data c.args.at) c.in-Some.part.now found))

pub returns-in-None-clause-is : goal.returns-in-None-clause-is
returns-in-None-clause-is c =
    let found = ap (λ (p : ImageParts). slice_get p.comps (comp_of_data c.args.at)) (sym c.parts.ensures.parts) ∙
    ap (slice_get c.parts.result.now.comps) (sym c.comp_of_data.ensures) ∙ sym c.in-None.ensures.value in
    sym (data_nobody c.args.image.now c.args.at found)
