use Rattle.sc_machine.proofs.Common.{Goes, ap, state_in, sym, ◌∙◌}
use Rattle.sc_machine.proofs.Words.{jalr_returns}
use Rattle.sc_machine.proofs.jump.jalr.Goals as goal

pub returns-clause-outcome : goal.returns-clause-outcome
returns-clause-outcome c = λ inputs memory.
    let state = state_in memory c.args.hart.now in
    ap Goes (c.leave.ensures.state memory) ∙ sym (jalr_returns c.args.here.now.image inputs state c.args.rd c.args.rs1
    c.args.imm c.displaced.result c.displaced.ensures
    (sym c.number.ensures.same ∙ c.if-number-ne0.false) c.if-target-ne-GATE.false)
