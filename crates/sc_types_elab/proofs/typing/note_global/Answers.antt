use Rattle.sc_types_elab.proofs.Common.{ap, unless, with_lines, ◌∙◌}
use Rattle.sc_types_elab.proofs.FunctionLines.{global_noted}
use Rattle.sc_types_elab.proofs.typing.note_global.Goals as goal

pub returns : goal.returns
returns c =
    global_noted c.args.scope.now c.args.section.now c.requires c.args.tree.now c.args.lines.now c.unless.new.self
    (c.unless.ensures ∙ ap (λ holds. with_lines c.args.lines.now
    (unless holds c.args.tree.now.line)) c.global_holds.ensures)
