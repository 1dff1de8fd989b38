use Rattle.sc_alloc.proofs.Common.{AreFair, AreRegisters, AreSlots, List, Placement, heap_items, rules, subst, sym}
use Rattle.sc_alloc.proofs.Common.{with_place, ◌≡◌}
use Rattle.sc_alloc.proofs.Choices.{fair_pushed}
use Rattle.sc_alloc.proofs.scan.Scan.add.Goals as goal

pub returns-clause-rules : goal.returns-clause-rules
returns-clause-rules c =
    let placements = c.args.self.now.placements in
    let x = c.args.interval in
    let place = c.in_ok-place.place in
    let chosen = c.in_ok-place.ensures.chosen in
    let new = c.choose.new.self in
    let e : c.push.new.self ≡ with_place placements x place = search rules in
    record {
      fair = subst AreFair (sym e) (fair_pushed placements x place c.requires.rules.fair c.requires.begun chosen.fair);
      registers = subst (λ (placements : List Placement). AreRegisters placements new.registers.lasts) (sym e)
          chosen.registers;
      slots = subst (λ (placements : List Placement). AreSlots placements (heap_items new.slots.ends) new.slots.count)
          (sym e)
          chosen.slots;
    }
