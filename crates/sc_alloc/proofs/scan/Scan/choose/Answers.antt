use Rattle.sc_alloc.proofs.Common.{heap_items}
use Rattle.sc_alloc.proofs.Choices.{register_fair, slot_fair}
use Rattle.sc_alloc.proofs.FreeRegisters.{registers_kept}
use Rattle.sc_alloc.proofs.FreeSlots.{slots_kept}
use Rattle.sc_alloc.proofs.scan.Scan.choose.Goals as goal

pub returns-in-Some-clause-chosen : goal.returns-in-Some-clause-chosen
returns-in-Some-clause-chosen c =
    let placements = c.args.self.now.placements in
    let x = c.args.interval.now in
    let r = c.in-Some.register in
    let slots = c.args.self.now.slots in
    let got = c.in-Some.ensures.rules placements c.requires.rules.registers in
    record {
      fair = register_fair placements x r got.1 got.2;
      registers = got.0;
      slots = slots_kept placements x (heap_items slots.ends) slots.count r c.requires.rules.slots;
    }

pub returns-in_ok-give-in-None-clause-chosen : goal.returns-in_ok-give-in-None-clause-chosen
returns-in_ok-give-in-None-clause-chosen c =
    let placements = c.args.self.now.placements in
    let x = c.args.interval.now in
    let k = c.in_ok-give-in-None.field-0 in
    let left = c.in-None.ensures.rules placements c.requires.rules.registers in
    let got = c.in_ok-give-in-None.ensures.rules placements c.requires.rules.slots in
    record {
      fair = slot_fair placements x k got.1 left.1;
      registers = registers_kept placements x c.give.new.self.lasts k left.0;
      slots = got.0;
    }
