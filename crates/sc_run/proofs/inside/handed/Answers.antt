use Rattle.sc_run.proofs.Calling.{unstored}
use Rattle.sc_run.proofs.Common.{arith, refl, unless_done}
use Rattle.sc_run.proofs.Leading.{is_put, leads_here, was_taken}
use Rattle.sc_run.proofs.Looping.{steps_later}
use Rattle.sc_run.proofs.inside.handed.Goals as goal

pub returns-in-Err : goal.returns-in-Err
returns-in-Err c = was_taken (unless_done c.keep_end.result c.keep_end.new.taken) _ _ _ _ _ c.keep_end.ensures
    (unstored c.in-Place.place c.in-Place.line c.in-Place.is c.in-Some.is c.in-Err.ensures)

pub returns-in-Ok : goal.returns-in-Ok
returns-in-Ok c =
    record {
      waiting = refl;
      frame = refl;
      fewer = c.in-Ok.ensures.fewer;
      leads = is_put c.in-Place.place c.in-Place.line c.in-Place.is c.in-Some.is c.in-Ok.ensures;
    }

pub returns-in-Nowhere : goal.returns-in-Nowhere
returns-in-Nowhere c =
    rw c.in-Nowhere.is (record { waiting = refl; frame = refl; fewer = omega arith; leads = leads_here (omega arith) })

pub returns-in-Back : goal.returns-in-Back
returns-in-Back c = rw c.in-Back.is (was_taken (unless_done c.keep_exit.result c.keep_exit.new.taken) _ _ _ _ _
    c.keep_exit.ensures
    (steps_later (omega arith) (λ n s. refl)))

pub returns-in-None : goal.returns-in-None
returns-in-None c =
    rw (c.in-Place.is, c.in-None.is)
    (record { waiting = refl; frame = refl; fewer = omega arith; leads = leads_here (omega arith) })
