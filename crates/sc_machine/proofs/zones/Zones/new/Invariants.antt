use Rattle.sc_machine.proofs.Common.{is_some, map, take, unwrap_or, ◌≡◌, []}
use Rattle.sc_machine.proofs.zones.Zones.new.Given as goal

abbrev pub invariant-loop-comp : goal.invariant-loop-comp
invariant-loop-comp l = record {
  blocks : map (λ zone. unwrap_or zone []) l.each.items ≡ map (λ comp. []) (take l.comp-index l.comps);
  there : map is_some l.each.items ≡ map (λ comp. comp.heap) (take l.comp-index l.comps);
}
