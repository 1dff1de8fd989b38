use Rattle.sc_object.proofs.Common.{differ_from}
use Rattle.sc_object.proofs.Turns.{differ_here, differ_none, differ_on}
use Rattle.sc_object.proofs.linking.check_program.Goals as goal

pub returns-then-not-is_same_program-clause-found : goal.returns-then-not-is_same_program-clause-found
returns-then-not-is_same_program-clause-found c =
    differ_here c.args.objects.now c.loop-second.second c.index-objects-second.result c.loop-second-test.true
    c.index-objects-second.is c.args.head.now c.is_same_program.result
    (differ_from c.args.head.now 0 c.args.objects.now)
    c.is_same_program.ensures c.loop-second.invariant c.if-not-is_same_program.true

pub loop-second-preserved : goal.loop-second-preserved
loop-second-preserved c =
    differ_on c.args.objects.now c.loop-second.second c.index-objects-second.result c.loop-second-test.true
    c.index-objects-second.is c.args.head.now c.is_same_program.result
    (differ_from c.args.head.now 0 c.args.objects.now)
    c.is_same_program.ensures c.loop-second.invariant c.if-not-is_same_program.false

pub returns-clause-none : goal.returns-clause-none
returns-clause-none c =
    differ_none c.args.objects.now c.loop-second.second c.args.head.now
    (differ_from c.args.head.now 0 c.args.objects.now)
    c.loop-second-test.false c.loop-second.invariant
