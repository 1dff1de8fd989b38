use Rattle.sc_object.proofs.Common.{missing_from}
use Rattle.sc_object.proofs.Turns.{missing_begins, missing_here, missing_none, missing_on}
use Rattle.sc_object.proofs.linking.check_all.Goals as goal

pub loop-number-init : goal.loop-number-init
loop-number-init c = missing_begins c.args.objects.now c.args.comps

pub returns-then-not-has_number-clause-found : goal.returns-then-not-has_number-clause-found
returns-then-not-has_number-clause-found c =
    missing_here c.args.objects.now c.loop-number.number c.args.comps c.comp_id-comp.result c.loop-number-test.true
    c.comp_id-comp.ensures c.has_number.result (missing_from c.args.objects.now 0 c.args.comps) c.has_number.ensures
    c.loop-number.invariant c.if-not-has_number.true

pub loop-number-preserved : goal.loop-number-preserved
loop-number-preserved c =
    missing_on c.args.objects.now c.loop-number.number c.args.comps c.comp_id-comp.result c.loop-number-test.true
    c.comp_id-comp.ensures c.has_number.result (missing_from c.args.objects.now 0 c.args.comps) c.has_number.ensures
    c.loop-number.invariant c.if-not-has_number.false

pub returns-clause-none : goal.returns-clause-none
returns-clause-none c =
    missing_none c.args.objects.now c.loop-number.number c.args.comps (missing_from c.args.objects.now 0 c.args.comps)
    c.loop-number-test.false c.loop-number.invariant
