use Rattle.sc_run.proofs.Common.{here_of, stored, variable_at}
use Rattle.sc_core.specs.declared.expr.VarRef.TheVariants.{Local}
use Rattle.sc_run.proofs.Coming.{then_goes}
use Rattle.sc_run.proofs.machine.init.Goals as goal

pub returns-in-Ok : goal.returns-in-Ok
returns-in-Ok c =
    let f = c.args.frame.now in
    let place = variable_at (here_of f.scope) f.scope.params (Local c.args.number) in
    rw c.in-Some.is (then_goes (λ v s. stored (here_of f.scope) place v c.args.local.now.line tt s) c.in-Ok.ensures
    (rw c.variable_at-place.ensures at c.stored.ensures))
