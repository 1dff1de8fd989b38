use Rattle.sc_alloc.proofs.Common.{AllOver, None, Register, arith, is_over, register_count, rules, sym, ◌<◌}
use Rattle.std.proofs.lemmas.List.Quantifiers.{position-Some}
use Rattle.sc_alloc.proofs.FreeRegisters.{all_in_use, found_over, register_given}
use Rattle.sc_alloc.proofs.registers.Registers.give.Goals as goal

pub returns-in-None-clause-rules : goal.returns-in-None-clause-rules
returns-in-None-clause-rules c placements regs =
    (regs, λ no. all_in_use placements c.args.self.now.lasts c.args.interval.now.first regs (sym c.in-None.ensures))

pub returns-in-Some-clause-rules : goal.returns-in-Some-clause-rules
returns-in-Some-clause-rules c placements regs =
    let lasts = c.args.self.now.lasts in
    let at = c.args.interval.now.first in
    let r = c.in-Some.register in
    let found = position-Some (is_over at) lasts r None (sym c.in-Some.ensures) in
    let own : r < register_count = omega (arith, found.0, regs.count) in
    let free : AllOver placements (Register r) at = found_over placements lasts r at regs found.0 found.1 in
    (register_given placements c.args.interval.now lasts r regs own free c.requires, free, search rules)
