use Rattle.sc_fields.proofs.Common.{err_from_is_err_and, fields_at, import_at}
use Rattle.sc_fields.proofs.Loops.{begins, goes_on, ends, is_done}
use Rattle.sc_fields.proofs.reading.several_imports.Goals as goal

pub loop-init : goal.loop-init
loop-init g c =
    rw c.new-imports.ensures (begins (import_at c.args.cause c.args.comps) c.args.count c.args.bytes.now.now)

pub returns-in_err-import : goal.returns-in_err-import
returns-in_err-import g c =
    let p = err_from_is_err_and c.from_residual.result c.from_residual.ensures.1 in
    rw (p.1, p.2) (ends (import_at c.args.cause c.args.comps) c.args.count c.in_err-import.field-0.0 c.loop.imports
    c.loop.counter c.loop.bytes.now (fields_at (import_at c.args.cause c.args.comps) c.args.count c.args.bytes.now.now)
    c.loop-test.true c.in_err-import.ensures c.loop.invariant)

pub loop-preserved : goal.loop-preserved
loop-preserved g c =
    rw c.in_ok-push.ensures.ok (goes_on (import_at c.args.cause c.args.comps) c.args.count c.loop.imports c.loop.counter
    c.loop.bytes.now c.in_ok-import.import c.import_at.new.bytes.now
    (fields_at (import_at c.args.cause c.args.comps) c.args.count c.args.bytes.now.now) c.loop-test.true
    c.in_ok-import.ensures c.loop.invariant)

pub returns : goal.returns
returns g c =
    is_done (import_at c.args.cause c.args.comps) c.args.count c.loop.imports c.loop.counter c.loop.bytes.now
    (fields_at (import_at c.args.cause c.args.comps) c.args.count c.args.bytes.now.now) c.loop-test.false
    c.loop.invariant
