use Rattle.sc_run.proofs.Common.{here_of, kept_by, way_in}
use Rattle.sc_run.proofs.Blank.{way_same}
use Rattle.sc_run.proofs.Coming.{computed_comes, given_err}
use Rattle.sc_run.proofs.machine.evaluated.Goals as goal

pub returns-in-Ok : goal.returns-in-Ok
returns-in-Ok c =
    let f = c.args.frame.now in
    computed_comes (here_of f.scope) c.args.line (λ bs. way_in f c.args.expr.now c.args.want bs)
    (way_same f.scope.structs.now (here_of f.scope) f.scope.params c.args.expr.now c.args.want)
    (kept_by c.args.machine.now) c.in-Ok.ensures

pub returns-in-Err : goal.returns-in-Err
returns-in-Err c =
    let f = c.args.frame.now in
    given_err (here_of f.scope) c.args.line (λ bs. way_in f c.args.expr.now c.args.want bs)
    (way_same f.scope.structs.now (here_of f.scope) f.scope.params c.args.expr.now c.args.want) c.blamed.ensures
    c.in-Err.ensures
