use Rattle.sc_top.proofs.Common.{ProgramTree, ap, arith, ◌∙◌}
use Rattle.sc_top.proofs.Committed.{with_verdict}
use Rattle.sc_top.proofs.judge.verdict.Goals as goal

pub judge-verdict-requires : goal.judge-verdict-requires
judge-verdict-requires c = let few = c.requires.few in omega (arith, few)

pub returns : goal.returns
returns c =
    with_verdict c.args.policy.now c.args.options.now.trapped c.args.source.now c.args.explanation.now
    c.interfaces-interfaces.result.now
    c.judge-verdict.result c.in_ok-text.text c.append_verdict.new.text
    (c.interfaces-interfaces.ensures ∙ ap (λ (program : ProgramTree). program.interfaces) c.program.ensures.program)
    c.judge-verdict.ensures c.in_ok-text.ensures c.in_ok-append_verdict.ensures
