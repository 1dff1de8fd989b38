use Rattle.sc_object.proofs.Common.{sym}
use Rattle.sc_object.proofs.Linked.{offset_low}
use Rattle.sc_object.proofs.linking.main_at.Goals as goal

pub returns-in-Some-clause-low : goal.returns-in-Some-clause-low
returns-in-Some-clause-low c =
    offset_low c.args.objects.now c.args.main c.in-Some.object.now c.requires (sym c.in-Some.ensures)
