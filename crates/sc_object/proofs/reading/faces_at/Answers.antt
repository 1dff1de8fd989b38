use Rattle.sc_object.proofs.Common.{err_from_is_err_and, fields_at, face_at}
use Rattle.sc_fields.proofs.Loops.{begins, goes_on, ends, is_done}
use Rattle.sc_object.proofs.reading.faces_at.Goals as goal

pub loop-init : goal.loop-init
loop-init c = rw c.new-faces.ensures (begins (face_at c.args.count) c.args.count c.args.bytes.now.now)

pub returns-in_err-face : goal.returns-in_err-face
returns-in_err-face c =
    let p = err_from_is_err_and c.from_residual.result c.from_residual.ensures.1 in
    rw (p.1, p.2) (ends (face_at c.args.count) c.args.count c.in_err-face.field-0.0 c.loop.faces c.loop.counter
    c.loop.bytes.now (fields_at (face_at c.args.count) c.args.count c.args.bytes.now.now) c.loop-test.true
    c.in_err-face.ensures
    c.loop.invariant)

pub loop-preserved : goal.loop-preserved
loop-preserved c =
    rw c.in_ok-push.ensures.ok (goes_on (face_at c.args.count) c.args.count c.loop.faces c.loop.counter c.loop.bytes.now
    c.in_ok-face.face c.face_at.new.bytes.now (fields_at (face_at c.args.count) c.args.count c.args.bytes.now.now)
    c.loop-test.true
    c.in_ok-face.ensures c.loop.invariant)

pub returns : goal.returns
returns c = is_done (face_at c.args.count) c.args.count c.loop.faces c.loop.counter c.loop.bytes.now
    (fields_at (face_at c.args.count) c.args.count c.args.bytes.now.now) c.loop-test.false c.loop.invariant
