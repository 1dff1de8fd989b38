use Rattle.sc_emit_select.proofs.Turning.{not_break}
use Rattle.sc_emit_select.proofs.kinds.breaks.Goals as goal

pub returns-in_default : goal.returns-in_default
returns-in_default c frame places plan = not_break frame places plan c.args.stmt.now c.in_default.not-Break
