use Rattle.sc_compile.proofs.Common.{EmitsSo, ap, function_code, subst, ◌∙◌}
use Rattle.sc_opt.specs.Prelude.{optimised_function}
use Rattle.sc_compile.proofs.passes.compile_function.Goals as goal

pub returns-clause-code : goal.returns-clause-code
returns-clause-code c =
    c.in_ok-code.ensures.code
    ∙ ap function_code (c.in_ok-tac.ensures ∙ ap optimised_function c.in_ok-lowered.ensures)

pub returns-clause-emitted : goal.returns-clause-emitted
returns-clause-emitted c =
    subst EmitsSo (c.in_ok-tac.ensures ∙ ap optimised_function c.in_ok-lowered.ensures) c.in_ok-code.ensures.emitted
