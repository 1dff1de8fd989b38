use Rattle.sc_image.proofs.Common.{read_comp, err_from_is_err_and, fields_at}
use Rattle.sc_fields.proofs.Loops.{begins, goes_on, ends, is_done}
use Rattle.sc_image.proofs.reading.comps_at.Goals as goal

pub loop-init : goal.loop-init
loop-init c = rw c.new-comps.ensures (begins (read_comp c.args.version c.args.count) c.args.count c.args.bytes.now.now)

pub returns-in_err-comp : goal.returns-in_err-comp
returns-in_err-comp c =
    let p = err_from_is_err_and c.from_residual.result c.from_residual.ensures.1 in
    rw (p.1, p.2) (ends (read_comp c.args.version c.args.count) c.args.count c.in_err-comp.field-0.0 c.loop.comps
    c.loop.counter c.loop.bytes.now (fields_at (read_comp c.args.version c.args.count) c.args.count
    c.args.bytes.now.now) c.loop-test.true c.in_err-comp.ensures c.loop.invariant)

pub loop-preserved : goal.loop-preserved
loop-preserved c =
    rw c.in_ok-push.ensures.ok (goes_on (read_comp c.args.version c.args.count) c.args.count c.loop.comps
    c.loop.counter c.loop.bytes.now c.in_ok-comp.comp c.comp_at.new.bytes.now (fields_at
    (read_comp c.args.version c.args.count) c.args.count c.args.bytes.now.now) c.loop-test.true c.in_ok-comp.ensures
    c.loop.invariant)

pub returns : goal.returns
returns c = is_done (read_comp c.args.version c.args.count) c.args.count c.loop.comps c.loop.counter c.loop.bytes.now
    (fields_at (read_comp c.args.version c.args.count) c.args.count c.args.bytes.now.now) c.loop-test.false
    c.loop.invariant
