use Rattle.sc_run.proofs.Common.{subst, sym}
use Rattle.sc_run.proofs.Counts.{functions_small}
use Rattle.sc_run.specs.Numbers.{HasFewVariables}
use Rattle.sc_run.proofs.lookups.callee_in.Goals as goal

pub returns-in-Some-clause-variables : goal.returns-in-Some-clause-variables
returns-in-Some-clause-variables c =
    subst (λ structs. HasFewVariables structs c.in-Some.function.now) (sym c.as_slice.ensures)
    (functions_small c.args.program.now c.requires.typed c.args.comp.now c.requires.section c.args.number
    c.in-Some.function.now (sym c.in-Some.ensures.value))
