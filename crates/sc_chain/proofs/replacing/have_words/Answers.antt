use Rattle.sc_chain.proofs.Common.{arith}
use Rattle.sc_chain.proofs.Words.{one_more}
use Rattle.sc_chain.proofs.replacing.have_words.Goals as goal

pub loop-event-init : goal.loop-event-init
loop-event-init c = λ k d below. absurd (omega (arith, below))

pub loop-event-preserved : goal.loop-event-preserved
loop-event-preserved c =
    one_more c.args.events.now c.loop-event.event-index c.event-item.result c.loop-event-test.true c.event-item.is
    c.has_words.ensures c.loop-event.invariant

pub returns : goal.returns
returns c = λ k d below. c.loop-event.invariant k d (omega (arith, below, c.loop-event-test.false))
