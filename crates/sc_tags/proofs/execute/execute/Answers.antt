use Rattle.sc_tags.proofs.Common.{Goes, Tagged, ap, execute_by}
use Rattle.sc_machine.specs.Prelude.{at, state_in, word_of}
use Rattle.sc_registers.specs.declared.registers.Core.{Core}
use Rattle.sc_tags.proofs.Leaving.{environment_lifted}
use Rattle.sc_tags.specs.TagHart.{bytes_of, tagged_in}
use Rattle.std.proofs.Common.{map}
use Rattle.sc_tags.proofs.execute.execute.Goals as goal

-- with other registers and another pc
abbrev with_core : Tagged → Core → Tagged
with_core tagged core = record tagged { core = at tagged.core core }

pub returns-in-Load-clause-outcome : goal.returns-in-Load-clause-outcome
unfolding execute_by
returns-in-Load-clause-outcome g c =
    let tagged = tagged_in (bytes_of g.S.Store.bytes c.args.memory.now) c.args.hart.now in
    rw c.in-Load.is (rw (c.displaced-address.ensures, c.requires.ready.here) at (c.load.ensures.outcome tagged))

pub returns-in-Store-clause-outcome : goal.returns-in-Store-clause-outcome
unfolding execute_by
returns-in-Store-clause-outcome g c =
    let tagged = tagged_in (bytes_of g.S.Store.bytes c.args.memory.now) c.args.hart.now in
    rw c.in-Store.is (rw (c.displaced-address-in-Store.ensures, c.register-word.ensures, c.requires.ready.here) at
    (c.store.ensures.outcome tagged))

pub returns-in-Jal-clause-outcome : goal.returns-in-Jal-clause-outcome
returns-in-Jal-clause-outcome g c = rw c.in-Jal.is (c.jal.ensures.outcome (map word_of c.args.inputs.now)
    (bytes_of g.S.Store.bytes c.args.memory.now))

pub returns-in-Branch-clause-outcome : goal.returns-in-Branch-clause-outcome
returns-in-Branch-clause-outcome g c =
    let memory = bytes_of g.S.Store.bytes c.args.memory.now in
    rw c.in-Branch.is (rw c.requires.ready.here at (c.branch-tags.ensures.outcome
    (map word_of c.args.inputs.now) memory (tagged_in memory c.args.hart.now)))

pub returns-in-Jalr-clause-outcome : goal.returns-in-Jalr-clause-outcome
returns-in-Jalr-clause-outcome g c = rw c.in-Jalr.is (c.jalr.ensures.outcome (map word_of c.args.inputs.now)
    (bytes_of g.S.Store.bytes c.args.memory.now))

pub returns-in-Upper-clause-outcome : goal.returns-in-Upper-clause-outcome
unfolding execute_by
returns-in-Upper-clause-outcome g c =
    let tagged = tagged_in (bytes_of g.S.Store.bytes c.args.memory.now) c.args.hart.now in
    rw c.in-Upper.is (ap (λ core. Goes (with_core tagged core)) c.upper.ensures)

pub returns-in-OpImm-clause-outcome : goal.returns-in-OpImm-clause-outcome
unfolding execute_by
returns-in-OpImm-clause-outcome g c =
    let tagged = tagged_in (bytes_of g.S.Store.bytes c.args.memory.now) c.args.hart.now in
    rw c.in-OpImm.is (ap (λ core. Goes (with_core tagged core)) c.op_imm.ensures)

pub returns-in-Shift-clause-outcome : goal.returns-in-Shift-clause-outcome
unfolding execute_by
returns-in-Shift-clause-outcome g c =
    let tagged = tagged_in (bytes_of g.S.Store.bytes c.args.memory.now) c.args.hart.now in
    rw c.in-Shift.is (ap (λ core. Goes (with_core tagged core)) c.shift.ensures)

pub returns-in-Op-clause-outcome : goal.returns-in-Op-clause-outcome
unfolding execute_by
returns-in-Op-clause-outcome g c =
    let tagged = tagged_in (bytes_of g.S.Store.bytes c.args.memory.now) c.args.hart.now in
    rw c.in-Op.is (ap (λ core. Goes (with_core tagged core)) c.op.ensures)

pub returns-in-Ecall-clause-outcome : goal.returns-in-Ecall-clause-outcome
unfolding execute_by
returns-in-Ecall-clause-outcome g c =
    let memory = bytes_of g.S.Store.bytes c.args.memory.now in
    rw c.in-Ecall.is (environment_lifted c.args.tags.now.image (state_in memory c.args.hart.now)
    c.environment_call.result _ (map word_of c.args.inputs.now)
    (rw c.here.ensures at (c.environment_call.ensures.outcome memory)))
