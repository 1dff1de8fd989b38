use Rattle.sc_emit_select.proofs.Common.{plan_by, ◌∙◌}
use Rattle.sc_emit_select.proofs.Joining.{role_found}
use Rattle.sc_emit_select.proofs.roles.role_at.Goals as goal

pub returns-then-at-stmts : goal.returns-then-at-stmts
returns-then-at-stmts c frame places near =
    c.role_of.ensures frame places near ∙
    role_found frame places (plan_by c.args.needs.now near) c.args.stmts.now c.args.at _ c.if-at-stmts.true
    c.index-stmts-at.is
