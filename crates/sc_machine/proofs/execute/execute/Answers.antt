use Rattle.sc_machine.proofs.Common.{Goes, ap, at, execute_by, map, state_in, word_of}
use Rattle.sc_machine.proofs.execute.execute.Goals as goal

pub returns-in-Load-clause-outcome : goal.returns-in-Load-clause-outcome
unfolding execute_by
returns-in-Load-clause-outcome g c =
    let state = state_in (g.S.Store.bytes c.args.memory.now) c.args.hart.now in
    rw c.in-Load.is (rw (c.displaced-address.ensures, c.requires.ready.here) at (c.load.ensures.outcome state))

pub returns-in-Store-clause-outcome : goal.returns-in-Store-clause-outcome
unfolding execute_by
returns-in-Store-clause-outcome g c =
    let state = state_in (g.S.Store.bytes c.args.memory.now) c.args.hart.now in
    rw c.in-Store.is (rw (c.displaced-address-in-Store.ensures, c.register-word.ensures, c.requires.ready.here) at
    (c.store.ensures.outcome state))

pub returns-in-Jal-clause-outcome : goal.returns-in-Jal-clause-outcome
returns-in-Jal-clause-outcome g c = rw c.in-Jal.is (c.jal.ensures.outcome (map word_of c.args.inputs.now)
    (g.S.Store.bytes c.args.memory.now))

pub returns-in-Branch-clause-outcome : goal.returns-in-Branch-clause-outcome
returns-in-Branch-clause-outcome g c =
    let state = state_in (g.S.Store.bytes c.args.memory.now) c.args.hart.now in
    rw c.in-Branch.is (rw c.requires.ready.here at (c.branch-here.ensures.outcome
    (map word_of c.args.inputs.now) state))

pub returns-in-Jalr-clause-outcome : goal.returns-in-Jalr-clause-outcome
returns-in-Jalr-clause-outcome g c = rw c.in-Jalr.is (c.jalr.ensures.outcome (map word_of c.args.inputs.now)
    (g.S.Store.bytes c.args.memory.now))

pub returns-in-Upper-clause-outcome : goal.returns-in-Upper-clause-outcome
unfolding execute_by
returns-in-Upper-clause-outcome g c =
    let state = state_in (g.S.Store.bytes c.args.memory.now) c.args.hart.now in
    rw c.in-Upper.is (ap (λ core. Goes (at state core)) c.upper.ensures)

pub returns-in-OpImm-clause-outcome : goal.returns-in-OpImm-clause-outcome
unfolding execute_by
returns-in-OpImm-clause-outcome g c =
    let state = state_in (g.S.Store.bytes c.args.memory.now) c.args.hart.now in
    rw c.in-OpImm.is (ap (λ core. Goes (at state core)) c.op_imm.ensures)

pub returns-in-Shift-clause-outcome : goal.returns-in-Shift-clause-outcome
unfolding execute_by
returns-in-Shift-clause-outcome g c =
    let state = state_in (g.S.Store.bytes c.args.memory.now) c.args.hart.now in
    rw c.in-Shift.is (ap (λ core. Goes (at state core)) c.shift.ensures)

pub returns-in-Op-clause-outcome : goal.returns-in-Op-clause-outcome
unfolding execute_by
returns-in-Op-clause-outcome g c =
    let state = state_in (g.S.Store.bytes c.args.memory.now) c.args.hart.now in
    rw c.in-Op.is (ap (λ core. Goes (at state core)) c.op.ensures)
