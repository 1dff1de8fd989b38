use Rattle.sc_fields.proofs.Common.{err_from_is_err_and, fields_at, number_at}
use Rattle.sc_fields.proofs.Loops.{begins, goes_on, ends, is_done}
use Rattle.sc_fields.proofs.reading.several_words.Goals as goal

pub loop-init : goal.loop-init
loop-init g c =
    rw c.new-words.ensures (begins (number_at c.args.cause 4) c.args.count c.args.bytes.now.now)

pub returns-in_err-word : goal.returns-in_err-word
returns-in_err-word g c =
    let p = err_from_is_err_and c.from_residual.result c.from_residual.ensures.1 in
    rw (p.1, p.2) (ends (number_at c.args.cause 4) c.args.count c.in_err-word.field-0.0 c.loop.words
    c.loop.counter c.loop.bytes.now (fields_at (number_at c.args.cause 4) c.args.count c.args.bytes.now.now)
    c.loop-test.true c.in_err-word.ensures c.loop.invariant)

pub loop-preserved : goal.loop-preserved
loop-preserved g c =
    rw c.in_ok-push.ensures.ok (goes_on (number_at c.args.cause 4) c.args.count c.loop.words c.loop.counter
    c.loop.bytes.now c.in_ok-word.word c.u32_at.new.bytes.now
    (fields_at (number_at c.args.cause 4) c.args.count c.args.bytes.now.now) c.loop-test.true
    c.in_ok-word.ensures c.loop.invariant)

pub returns : goal.returns
returns g c =
    is_done (number_at c.args.cause 4) c.args.count c.loop.words c.loop.counter c.loop.bytes.now
    (fields_at (number_at c.args.cause 4) c.args.count c.args.bytes.now.now) c.loop-test.false c.loop.invariant
