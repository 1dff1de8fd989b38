use Rattle.sc_run.proofs.Common.{here_of, kept_by, map, sym, values, way_in, ◌∙◌}
use Rattle.sc_run.proofs.Blank.{values_same}
use Rattle.sc_run.proofs.Coming.{computed_comes, given_err}
use Rattle.sc_run.proofs.simple.evaluate_arguments.Goals as goal

pub returns-in-Ok : goal.returns-in-Ok
returns-in-Ok c =
    let f = c.args.frame.now in
    computed_comes (here_of f.scope) c.args.line (λ bs. values (map (way_in f) c.args.exprs.now) bs)
    (values_same f.scope.structs.now (here_of f.scope) f.scope.params c.args.exprs.now) (kept_by c.args.machine.now)
    (sym c.in-Ok.is ∙ c.in_ok-found.ensures)

pub returns-in-Err : goal.returns-in-Err
returns-in-Err c =
    let f = c.args.frame.now in
    given_err (here_of f.scope) c.args.line (λ bs. values (map (way_in f) c.args.exprs.now) bs)
    (values_same f.scope.structs.now (here_of f.scope) f.scope.params c.args.exprs.now) c.blamed.ensures
    (sym c.in-Err.is ∙ c.in_ok-found.ensures)
