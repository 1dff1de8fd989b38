use Rattle.sc_object.proofs.Linked.{head_good, joined_own, joined_well}
use Rattle.sc_object.proofs.linking.joined.Goals as goal

pub join-requires-clause-head : goal.join-requires-clause-head
join-requires-clause-head c = head_good c.args.head.now c.args.objects.now c.requires

pub join-requires-clause-each : goal.join-requires-clause-each
join-requires-clause-each c = c.requires.each

pub new-requires : goal.new-requires
new-requires c = record {
  well_formed = joined_well c.args.head.now c.args.objects.now c.requires c.in_ok-parts.parts c.in_ok-parts.ensures;
}

pub returns-clause-own : goal.returns-clause-own
returns-clause-own c =
    rw c.new.ensures
    (joined_own c.args.head.now c.args.objects.now c.requires c.in_ok-parts.parts c.in_ok-parts.ensures)
