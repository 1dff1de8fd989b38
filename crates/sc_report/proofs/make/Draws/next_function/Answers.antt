use Rattle.sc_report.proofs.Common.{ap, arith, next_state, state_after, suc, ◌*◌, ◌/◌, ◌∙◌, ◌≡◌}
use Rattle.sc_report.proofs.make.Draws.next_function.Goals as goal

pub returns : goal.returns
returns c seed j is =
    let first : c.next-argument.new.self.state ≡ state_after seed (suc (2 * j)) =
    c.next-argument.ensures.state ∙ ap next_state is in
    let count : suc (suc (2 * j)) ≡ 2 * suc j = omega arith in
    record {
      argument = c.next-argument.ensures.drawn ∙ ap (λ state. next_state state / 65536) is;
      addend = c.next-addend.ensures.drawn ∙ ap (λ state. next_state state / 65536) first;
      state = c.next-addend.ensures.state ∙ ap next_state first ∙ ap (state_after seed) count;
    }
