use Rattle.sc_tags.proofs.Common.{sym, ◌∙◌}
use Rattle.sc_machine.specs.Prelude.{state_in}
use Rattle.sc_tags.proofs.Leaving.{jalr_returns, return_lifted}
use Rattle.sc_tags.specs.Levels.{with_levels}
use Rattle.sc_tags.proofs.jump.jalr.Goals as goal

pub returns-then-target-eq-GATE-clause-outcome : goal.returns-then-target-eq-GATE-clause-outcome
returns-then-target-eq-GATE-clause-outcome c = λ inputs memory.
    let state = state_in memory c.args.hart.now in
    return_lifted c.args.tags.now.image state (state_in memory c.leave.new.hart)
    (rw c.here.ensures at (c.leave.ensures.state memory)) ∙
    sym (jalr_returns c.args.tags.now.image c.args.tags.now.ranges inputs (with_levels state) c.args.rd c.args.rs1
    c.args.imm c.displaced.result c.displaced.ensures (sym c.number.ensures.same ∙ c.if-number-eq0.true)
    c.if-target-eq-GATE.true)
