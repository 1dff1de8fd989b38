use Rattle.sc_image.proofs.Common.{err_from_is_err_and, fields_at}
use Rattle.sc_image.specs.Reading.{read_export}
use Rattle.sc_fields.proofs.Loops.{begins, goes_on, ends, is_done}
use Rattle.sc_image.proofs.reading.several_exports.Goals as goal

pub loop-init : goal.loop-init
loop-init c = rw c.new-exports.ensures (begins read_export c.args.count c.args.bytes.now.now)

pub returns-in_err-export : goal.returns-in_err-export
returns-in_err-export c =
    let p = err_from_is_err_and c.from_residual.result c.from_residual.ensures.1 in
    rw (p.1, p.2) (ends read_export c.args.count c.in_err-export.field-0.0 c.loop.exports c.loop.counter
    c.loop.bytes.now
    (fields_at read_export c.args.count c.args.bytes.now.now) c.loop-test.true c.in_err-export.ensures
    c.loop.invariant)

pub loop-preserved : goal.loop-preserved
loop-preserved c =
    rw c.in_ok-push.ensures.ok (goes_on read_export c.args.count c.loop.exports c.loop.counter c.loop.bytes.now
    c.in_ok-export.export c.export_at.new.bytes.now
    (fields_at read_export c.args.count c.args.bytes.now.now) c.loop-test.true c.in_ok-export.ensures
    c.loop.invariant)

pub returns : goal.returns
returns c = is_done read_export c.args.count c.loop.exports c.loop.counter c.loop.bytes.now
    (fields_at read_export c.args.count c.args.bytes.now.now) c.loop-test.false c.loop.invariant
