use Rattle.sc_chain.proofs.Common.{eqb-true, length, map, sym, word_of, ◌∙◌}
use Rattle.sc_chain.proofs.ChainLoop.{own_run}
use Rattle.sc_chain.proofs.account.performed_run.Goals as goal

pub returns-then-is_empty : goal.returns-then-is_empty
returns-then-is_empty c =
    own_run c.args.source.now c.args.comps.now (map word_of c.args.inputs.now) c.args.limits.steps c.args.limits.events
    c.args.trace.now
    (eqb-true (length c.args.comps.now) 0 (sym c.is_empty.ensures ∙ c.if-is_empty.true)) c.program.result.now
    c.program.ensures.program c.in_ok-run.run' c.in_ok-run.ensures
