use Rattle.sc_emit_select.proofs.Common.{ap₂, plan_by, role_to_next, ◌∙◌}
use Rattle.sc_emit_select.proofs.Joining.{one_before, two_before}
use Rattle.sc_emit_select.proofs.roles.role_before.Goals as goal

pub returns-then-at-eq1 : goal.returns-then-at-eq1
returns-then-at-eq1 c frame places near =
    c.role_at-own.ensures frame places near ∙
    one_before frame places (plan_by c.args.needs.now near) c.args.stmts.now c.args.at c.if-at-eq1.true

pub returns : goal.returns
returns c frame places near =
    c.role_to_next.ensures ∙
    ap₂ role_to_next (c.role_at.ensures frame places near) (c.role_at-own.ensures frame places near) ∙
    two_before frame places (plan_by c.args.needs.now near) c.args.stmts.now c.args.at c.if-at-eq0.false
    c.if-at-eq1.false
