use Rattle.sc_lower.proofs.Lowered.{arrow_lowered, deref_lowered, index_lowered, member_lowered}
use Rattle.sc_lower.proofs.expr.+lower_expr.Goals as goal

pub returns-in_ok-element-in-Index-clause-made : goal.returns-in_ok-element-in-Index-clause-made
returns-in_ok-element-in-Index-clause-made t c =
    index_lowered c.args.scope.now.structs.now c.args.scope.now.params c.args.stmts c.args.expr.now c.args.want
    c.args.free
    c.in-Index.base c.get-base.result.now c.in-Index.index c.get-index.result.now c.in_ok-first-in-Index.first
    c.in_ok-second-in-Index.second c.in_ok-element-in-Index.field-0 c.loaded-in-Index.result c.in-Index.is
    c.get-base.ensures c.get-index.ensures c.in_ok-first-in-Index.ensures.made c.in_ok-second-in-Index.ensures.made
    c.in_ok-element-in-Index.ensures c.loaded-in-Index.ensures

pub returns-in_ok-place-in-Member-clause-made : goal.returns-in_ok-place-in-Member-clause-made
returns-in_ok-place-in-Member-clause-made t c =
    member_lowered c.args.scope.now.structs.now c.args.scope.now.params c.args.stmts c.args.expr.now c.args.want
    c.args.free
    c.in-Member.base c.get-in-Member.result.now c.in-Member.offset c.in_ok-code-in-Member.code
    c.in_ok-place-in-Member.place
    c.loaded-in-Member.result c.in-Member.is c.get-in-Member.ensures c.in_ok-code-in-Member.ensures.made
    c.in_ok-place-in-Member.ensures c.loaded-in-Member.ensures

pub returns-in_ok-place-in-Arrow-clause-made : goal.returns-in_ok-place-in-Arrow-clause-made
returns-in_ok-place-in-Arrow-clause-made t c =
    arrow_lowered c.args.scope.now.structs.now c.args.scope.now.params c.args.stmts c.args.expr.now c.args.want
    c.args.free
    c.in-Arrow.base c.get-in-Arrow.result.now c.in-Arrow.offset c.in_ok-code-in-Arrow.code
    c.in_ok-place-in-Arrow.place
    c.loaded-in-Arrow.result c.in-Arrow.is c.get-in-Arrow.ensures c.in_ok-code-in-Arrow.ensures.made
    c.in_ok-place-in-Arrow.ensures c.loaded-in-Arrow.ensures

pub returns-in_ok-place-in-Deref-clause-made : goal.returns-in_ok-place-in-Deref-clause-made
returns-in_ok-place-in-Deref-clause-made t c =
    deref_lowered c.args.scope.now.structs.now c.args.scope.now.params c.args.stmts c.args.expr.now c.args.want
    c.args.free
    c.in-Deref.of c.get-in-Deref.result.now c.in_ok-place-in-Deref.place c.loaded-in-Deref.result c.in-Deref.is
    c.get-in-Deref.ensures c.in_ok-place-in-Deref.ensures.made c.loaded-in-Deref.ensures
