use Rattle.sc_linker.proofs.Common.{ap, codes_in, ◌∙◌}
use Rattle.sc_linker.proofs.Fitting.{few_exports, globals_keep, section_links, structs_keep, within}
use Rattle.sc_linker.proofs.comp.comp_part.Goals as goal

pub section_at-section-requires : goal.section_at-section-requires
section_at-section-requires c =
    within c.args.program.now c.args.codes.now c.args.comp c.args.interface.now c.requires.typed c.requires.linkable
    c.requires.there

pub export_parts-requires : goal.export_parts-requires
export_parts-requires c =
    few_exports c.args.program.now c.args.codes.now c.args.comp c.args.interface.now c.requires.typed
    c.requires.linkable c.requires.there c.section_at-section.result.now c.section_at-section.ensures
    c.as_slice-exports.result.now c.as_slice-exports.ensures

pub section_code-requires : goal.section_code-requires
section_code-requires c =
    section_links c.args.program.now c.args.codes.now c.args.comp c.args.interface.now c.requires.typed
    c.requires.linkable c.requires.there c.section_at-section.result.now c.section_at-section.ensures
    c.as_slice-exports.result.now c.codes_in-own.result.now c.as_slice-exports.ensures
    (c.codes_in-own.ensures ∙ ap (λ sections. codes_in c.args.comp sections c.args.codes.now) c.as_slice.ensures)

pub global_bytes-requires-clause-structs : goal.global_bytes-requires-clause-structs
global_bytes-requires-clause-structs c =
    structs_keep c.args.program.now c.args.codes.now c.args.comp c.args.interface.now c.requires.typed
    c.requires.linkable c.requires.there c.section_at-section.result.now c.section_at-section.ensures

pub global_bytes-requires-clause-globals : goal.global_bytes-requires-clause-globals
global_bytes-requires-clause-globals c =
    globals_keep c.args.program.now c.args.codes.now c.args.comp c.args.interface.now c.requires.typed
    c.requires.linkable c.requires.there c.section_at-section.result.now c.section_at-section.ensures
