use Rattle.sc_linker.proofs.Common.{ap, arith, codes_in, length, sym, ◌∙◌, ◌≤◌}
use Rattle.sc_linker.proofs.MainAddress.{few_of_main, main_begins, main_in, main_known, not_begun}
use Rattle.sc_linker.proofs.image.main_address.Goals as goal

pub returns-in_default : goal.returns-in_default
returns-in_default c =
    not_begun c.args.program.now c.args.codes.now c.requires.typed c.requires.linkable
    c.section_at-section.result.now c.section_at-section.ensures
    (ap main_in (sym c.as_slice.ensures) ∙ sym c.main_number.ensures ∙ c.in_default.is)

pub overflow_cast-exports : goal.overflow_cast-exports
overflow_cast-exports c =
    let few : length c.exports_at.result.now ≤ 4096 =
    few_of_main c.args.program.now c.args.codes.now c.requires.typed c.requires.linkable c.exports_at.result.now
    c.exports_at.ensures in
    record { fits = omega (arith, few) }

pub function-requires-clause-known : goal.function-requires-clause-known
function-requires-clause-known c =
    main_known c.args.program.now c.args.codes.now c.requires.typed c.requires.linkable
    c.section_at-section.result.now c.section_at-section.ensures c.exports_at.result.now c.codes_in-own.result.now
    c.in_ok-layout.layout c.in-Some.number c.exports_at.ensures
    (c.codes_in-own.ensures ∙ ap (λ sections. codes_in c.args.program.now.interfaces.main sections c.args.codes.now)
    c.as_slice-2.ensures) c.in_ok-layout.ensures.layout
    (ap main_in (sym c.as_slice.ensures) ∙ sym c.main_number.ensures ∙ c.in-Some.is)

pub returns : goal.returns
returns c =
    main_begins c.args.program.now c.args.codes.now c.requires.typed c.requires.linkable
    c.section_at-section.result.now c.section_at-section.ensures c.exports_at.result.now c.codes_in-own.result.now
    c.in_ok-layout.layout c.in-Some.number c.exports_at.ensures
    (c.codes_in-own.ensures ∙ ap (λ sections. codes_in c.args.program.now.interfaces.main sections c.args.codes.now)
    c.as_slice-2.ensures) c.in_ok-layout.ensures.layout
    (ap main_in (sym c.as_slice.ensures) ∙ sym c.main_number.ensures ∙ c.in-Some.is)
    c.function.result c.function.ensures.address
