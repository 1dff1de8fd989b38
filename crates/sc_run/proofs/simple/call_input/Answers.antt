use Rattle.sc_run.proofs.Common.{Input, ap, sym, ◌∙◌}
use Rattle.sc_event.specs.Prelude.{imports, is_input}
use Rattle.sc_run.proofs.Invoking.{refused, input_steps}
use Rattle.sc_run.proofs.simple.call_input.Goals as goal

pub returns-then-not-imports_input : goal.returns-then-not-imports_input
returns-then-not-imports_input c = refused c.args.program.now c.args.frame.now c.args.to Input c.args.args.now
    c.refusal.ensures
    (ap (λ i. imports i c.args.frame.now.scope.comp.now is_input) (sym c.interfaces.ensures) ∙
    sym c.if-not-imports_input.ensures)

pub returns : goal.returns
returns c = input_steps c.args.program.now c.args.frame.now c.args.to c.args.args.now
    (ap (λ i. imports i c.args.frame.now.scope.comp.now is_input) (sym c.interfaces.ensures) ∙
    sym c.if-not-imports_input.ensures) c.next_input-value.ensures.word c.next_input-value.ensures.rest
    c.in_ok-emit_event.ensures c.hand_back.ensures
