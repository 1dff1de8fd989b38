use Rattle.sc_run.proofs.Common.{and_then, here_of, store_at, way_in}
use Rattle.sc_core.specs.Prelude.{elements_allocated}
use Rattle.sc_run.proofs.Coming.{made_goes, makes_none, then_goes, then_stops}
use Rattle.sc_run.proofs.heap.allocate_at.Goals as goal

pub returns-in-Ok-2 : goal.returns-in-Ok-2
returns-in-Ok-2 c =
    let f = c.args.frame.now in
    then_goes (λ v s. and_then (elements_allocated (here_of f.scope) v c.args.cells c.args.line s)
    (λ q s. store_at (here_of f.scope) (way_in f c.args.place.now) q c.args.line tt s)) c.in-Ok.ensures
    (made_goes (λ q s. store_at (here_of f.scope) (way_in f c.args.place.now) q c.args.line tt s)
    (rw c.in-Ok-2.is at c.in_ok-pointer-in-Ok.ensures) c.store_at.ensures)

pub returns-in-Err-2 : goal.returns-in-Err-2
returns-in-Err-2 c =
    let f = c.args.frame.now in
    then_goes (λ v s. and_then (elements_allocated (here_of f.scope) v c.args.cells c.args.line s)
    (λ q s. store_at (here_of f.scope) (way_in f c.args.place.now) q c.args.line tt s)) c.in-Ok.ensures
    (then_stops (λ q s. store_at (here_of f.scope) (way_in f c.args.place.now) q c.args.line tt s)
    (rw c.in-Err-2.is at c.in_ok-pointer-in-Ok.ensures))

pub returns-in-Err : goal.returns-in-Err
returns-in-Err c =
    let f = c.args.frame.now in
    makes_none (then_stops (λ v s. and_then (elements_allocated (here_of f.scope) v c.args.cells c.args.line s)
    (λ q s. store_at (here_of f.scope) (way_in f c.args.place.now) q c.args.line tt s)) c.in-Err.ensures)
