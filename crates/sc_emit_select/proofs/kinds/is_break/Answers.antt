use Rattle.sc_emit_select.proofs.Common.{◌∙◌}
use Rattle.sc_emit_select.proofs.Turning.{single_break}
use Rattle.sc_emit_select.proofs.kinds.is_break.Goals as goal

pub returns : goal.returns
returns c frame places plan =
    c.breaks.ensures frame places plan ∙
    single_break frame places plan c.args.stmts.now _ c.if-stmts-ne1.false c.index-stmts-0.is
