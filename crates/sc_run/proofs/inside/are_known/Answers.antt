use Rattle.sc_run.proofs.Common.{here_of, kept_by, map, sym, values, way_in}
use Rattle.sc_run.proofs.Blank.{values_same}
use Rattle.sc_run.proofs.Coming.{computed_comes}
use Rattle.sc_run.proofs.inside.are_known.Goals as goal

pub returns-clause-values : goal.returns-clause-values
returns-clause-values c = λ is line.
    let f = c.args.frame.now in
    computed_comes (here_of f.scope) line (λ bs. values (map (way_in f) c.args.exprs.now) bs)
    (values_same f.scope.structs.now (here_of f.scope) f.scope.params c.args.exprs.now) (kept_by c.args.machine.now)
    (sym (c.are_found.ensures.values is))
