use Rattle.sc_object.proofs.Common.{twice_from, []}
use Rattle.sc_object.proofs.Turns.{twice_here, twice_none, twice_on}
use Rattle.sc_object.proofs.linking.check_once.Goals as goal

pub returns-then-has_number-clause-found : goal.returns-then-has_number-clause-found
returns-then-has_number-clause-found c =
    twice_here c.args.objects.now c.loop-second.second c.index-objects-second.result c.loop-second-test.true
    c.index-objects-second.is c.has_number.result (twice_from [] 0 c.args.objects.now) c.has_number.ensures
    c.loop-second.invariant c.if-has_number.true

pub loop-second-preserved : goal.loop-second-preserved
loop-second-preserved c =
    twice_on c.args.objects.now c.loop-second.second c.index-objects-second.result c.loop-second-test.true
    c.index-objects-second.is c.has_number.result (twice_from [] 0 c.args.objects.now) c.has_number.ensures
    c.loop-second.invariant c.if-has_number.false

pub returns-clause-none : goal.returns-clause-none
returns-clause-none c =
    twice_none c.args.objects.now c.loop-second.second (twice_from [] 0 c.args.objects.now) c.loop-second-test.false
    c.loop-second.invariant
