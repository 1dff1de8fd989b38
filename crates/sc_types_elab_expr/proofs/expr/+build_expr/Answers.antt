use Rattle.sc_types_elab_expr.proofs.Common.{visible}
use Rattle.sc_types_elab_expr.proofs.Parts.{variable_built, member_built, arrow_built}
use Rattle.sc_types_elab_expr.proofs.expr.+build_expr.Goals as goal

pub returns-in-Literal-clause-judged : goal.returns-in-Literal-clause-judged
returns-in-Literal-clause-judged t c scope suits = c.literal_built.ensures.judged scope

pub returns-in-Variable-clause-judged : goal.returns-in-Variable-clause-judged
returns-in-Variable-clause-judged t c scope suits =
    variable_built scope (visible c.args.section.now c.args.function.now) suits c.name.result c.found.result
    c.variable_built.result c.found.ensures c.variable_built.ensures.expr c.variable_built.ensures.judged

pub returns-in-SizeOf-clause-judged : goal.returns-in-SizeOf-clause-judged
returns-in-SizeOf-clause-judged t c scope suits = c.sizeof_built.ensures.judged scope

pub returns-in_ok-base-in-Member-clause-judged : goal.returns-in_ok-base-in-Member-clause-judged
returns-in_ok-base-in-Member-clause-judged t c scope suits =
    member_built scope (visible c.args.section.now c.args.function.now) suits c.name-in-Member.result
    c.in_ok-base-in-Member.base.expr c.in_ok-base-in-Member.base.judged c.member-member.result c.member_built.result
    (c.in_ok-base-in-Member.ensures.judged scope suits) c.member-member.ensures c.member_built.ensures.expr
    c.member_built.ensures.judged

pub returns-in_ok-base-in-Arrow-clause-judged : goal.returns-in_ok-base-in-Arrow-clause-judged
returns-in_ok-base-in-Arrow-clause-judged t c scope suits =
    arrow_built scope (visible c.args.section.now c.args.function.now) suits c.name-in-Arrow.result
    c.in_ok-base-in-Arrow.base.expr c.in_ok-base-in-Arrow.base.judged c.member-member-in-Arrow.result
    c.arrow_built.result (c.in_ok-base-in-Arrow.ensures.judged scope suits) c.pointed.result c.pointed.ensures
    c.member-member-in-Arrow.ensures c.arrow_built.ensures.expr c.arrow_built.ensures.judged
