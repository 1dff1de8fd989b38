use Rattle.sc_object.proofs.Common.{faces_keep}
use Rattle.sc_object.proofs.Keeping.{refused_by, goes_further, all_kept}
use Rattle.sc_object.proofs.rules.faces_keep.Goals as goal

pub returns-then-not-branch : goal.returns-then-not-branch
returns-then-not-branch c =
    refused_by c.args.faces.now c.args.faces.now c.loop-c.c c.index-faces-c.result
    (faces_keep c.args.faces.now 0 c.args.faces.now) c.in_ok-face_keeps.field-0
    c.loop-c.invariant c.loop-c-test.true c.index-faces-c.is c.in_ok-face_keeps.ensures c.if-not-branch.true

pub loop-c-preserved : goal.loop-c-preserved
loop-c-preserved c =
    goes_further c.args.faces.now c.args.faces.now c.loop-c.c c.index-faces-c.result
    (faces_keep c.args.faces.now 0 c.args.faces.now) c.in_ok-face_keeps.field-0
    c.loop-c.invariant c.loop-c-test.true c.index-faces-c.is c.in_ok-face_keeps.ensures c.if-not-branch.false

pub returns : goal.returns
returns c = all_kept c.args.faces.now c.args.faces.now c.loop-c.c
    (faces_keep c.args.faces.now 0 c.args.faces.now) c.loop-c.invariant c.loop-c-test.false
