use Rattle.sc_compile.proofs.Common.{All, EmitsAll, GlobalsAreWords, HasParts, all_codes, ap, program_tac}
use Rattle.sc_compile.proofs.Common.{subst, sym, ◌∙◌}
use Rattle.sc_compile.proofs.Building.{image_is, may_link, whole_compiled}
use Rattle.sc_compile.proofs.Parts.{has_parts}
use Rattle.sc_compile.proofs.passes.build.Goals as goal

pub link-requires : goal.link-requires
link-requires c =
    may_link c.args.program.now c.tree-tree.ensures.typed c.requires
    (subst (λ p. All EmitsAll (program_tac p).sections) c.tree-tree.ensures.tree c.in_ok-codes.ensures.emitted)
    c.as_slice-2.result.now (c.as_slice-2.ensures ∙ c.in_ok-codes.ensures.codes
    ∙ ap (λ p. all_codes (program_tac p)) c.tree-tree.ensures.tree)

pub returns-clause-compiled : goal.returns-clause-compiled
returns-clause-compiled c =
    whole_compiled c.args.program.now c.tree-tree.ensures.typed c.requires
    (subst (λ p. All EmitsAll (program_tac p).sections) c.tree-tree.ensures.tree c.in_ok-codes.ensures.emitted)
    c.as_slice-2.result.now (c.as_slice-2.ensures ∙ c.in_ok-codes.ensures.codes
    ∙ ap (λ p. all_codes (program_tac p)) c.tree-tree.ensures.tree)
    c.in_ok-image.image c.in_ok-image.ensures.image c.in_ok-image.ensures.named
    (subst GlobalsAreWords (c.as_slice.ensures ∙ ap (λ p. p.sections) c.tree-tree.ensures.tree)
    c.globals_are_words.ensures)
    c.in_ok-image.ensures.whole

pub returns-clause-parts : goal.returns-clause-parts
returns-clause-parts c =
    subst (HasParts c.args.program.now)
    (sym (image_is c.args.program.now c.tree-tree.ensures.typed c.requires
    (subst (λ p. All EmitsAll (program_tac p).sections) c.tree-tree.ensures.tree c.in_ok-codes.ensures.emitted)
    c.as_slice-2.result.now (c.as_slice-2.ensures ∙ c.in_ok-codes.ensures.codes
    ∙ ap (λ p. all_codes (program_tac p)) c.tree-tree.ensures.tree)
    c.in_ok-image.image c.in_ok-image.ensures.image))
    (has_parts c.args.program.now)
