use Rattle.sc_tags.proofs.Common.{ap, comp_of_code, sym, ◌∙◌, ◌≡◌}
use Rattle.sc_machine.specs.Place.{Site}
use Rattle.sc_machine.specs.Prelude.{state_in}
use Rattle.sc_tags.proofs.Leaving.{calls_lifted, elsewhere}
use Rattle.sc_tags.specs.Levels.{with_levels}
use Rattle.std.proofs.Common.{◌≢◌}
use Rattle.sc_tags.proofs.jump.jump.Goals as goal

pub returns-clause-outcome : goal.returns-clause-outcome
returns-clause-outcome c = λ memory.
    let state = state_in memory c.args.hart.now in
    let here : c.number.result ≡ c.args.hart.now.active =
    c.number.ensures.number ∙ c.comp.ensures ∙ ap (λ (s : Site). s.comp) c.here.ensures ∙ c.requires.ready.here in
    let other : comp_of_code c.args.target ≢ c.args.hart.now.active =
    λ same. c.if-comp_of_code-number.false (c.comp_of_code.ensures ∙ same ∙ sym here) in
    calls_lifted c.args.tags.now.image state c.call_out.result (state_in memory c.call_out.new.hart) c.args.rd
    c.args.target other (rw c.here-2.ensures at (c.call_out.ensures.outcome memory)) ∙
    sym (elsewhere (with_levels state) c.args.rd c.args.target _ _ c.if-target-ne0.false
    (sym c.are_code.ensures.is ∙ c.if-are_code.false))
