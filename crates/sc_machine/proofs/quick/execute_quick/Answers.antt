use Rattle.sc_machine.proofs.Common.{Goes, active_in, add_word, ap, at, jump_outside, execute_by, leaves, slice_index}
use Rattle.sc_machine.proofs.Common.{word_of, ◌*◌, ◌/◌}
use Rattle.sc_machine.proofs.Runs.{goes_if}
use Rattle.sc_machine.proofs.quick.execute_quick.Goals as goal

pub returns-in-Branch-clause-goes : goal.returns-in-Branch-clause-goes
returns-in-Branch-clause-goes g c = λ went inputs state.
    let there = active_in c.args.here.now.comp (g.S.Store.bytes c.args.memory.now) state in
    goes_if c.branch-here.result c.is_ok-in-Branch.result _ _ c.is_ok-in-Branch.ensures.value
    (rw c.in-Branch.is (c.branch-here.ensures.outcome inputs there)) went

pub returns-in-Jal-clause-goes : goal.returns-in-Jal-clause-goes
unfolding execute_by
returns-in-Jal-clause-goes g c = λ went inputs state.
    let there = active_in c.args.here.now.comp (g.S.Store.bytes c.args.memory.now) state in
    rw c.in-Jal.is (rw (c.number.ensures.same, c.jump_target-target.ensures) at
    (c.jump_inside.ensures.goes went there (jump_outside c.args.here.now.image (at there c.args.core.now) c.in-Jal.rd
    (add_word c.args.core.now.pc (word_of c.in-Jal.imm)))))

pub returns-in-Jalr-clause-goes : goal.returns-in-Jalr-clause-goes
unfolding execute_by
returns-in-Jalr-clause-goes g c = λ went inputs state.
    let there = active_in c.args.here.now.comp (g.S.Store.bytes c.args.memory.now) state in
    rw c.in-Jalr.is (rw (c.number-in-Jalr.ensures.same, c.displaced.ensures) at
    (c.jump_inside-in-Jalr.ensures.goes went there (leaves c.args.here.now.image (at there c.args.core.now)
    c.in-Jalr.rd (add_word (slice_index c.args.core.now.registers c.in-Jalr.rs1) (word_of c.in-Jalr.imm) / 2 * 2))))

pub returns-in-Upper-clause-goes : goal.returns-in-Upper-clause-goes
unfolding execute_by
returns-in-Upper-clause-goes g c = λ went inputs state.
    let there = active_in c.args.here.now.comp (g.S.Store.bytes c.args.memory.now) state in
    rw c.in-Upper.is (ap (λ core. Goes (at there core)) c.upper.ensures)

pub returns-in-OpImm-clause-goes : goal.returns-in-OpImm-clause-goes
unfolding execute_by
returns-in-OpImm-clause-goes g c = λ went inputs state.
    let there = active_in c.args.here.now.comp (g.S.Store.bytes c.args.memory.now) state in
    rw c.in-OpImm.is (ap (λ core. Goes (at there core)) c.op_imm.ensures)

pub returns-in-Shift-clause-goes : goal.returns-in-Shift-clause-goes
unfolding execute_by
returns-in-Shift-clause-goes g c = λ went inputs state.
    let there = active_in c.args.here.now.comp (g.S.Store.bytes c.args.memory.now) state in
    rw c.in-Shift.is (ap (λ core. Goes (at there core)) c.shift.ensures)

pub returns-in-Op-clause-goes : goal.returns-in-Op-clause-goes
unfolding execute_by
returns-in-Op-clause-goes g c = λ went inputs state.
    let there = active_in c.args.here.now.comp (g.S.Store.bytes c.args.memory.now) state in
    rw c.in-Op.is (ap (λ core. Goes (at there core)) c.op.ensures)
