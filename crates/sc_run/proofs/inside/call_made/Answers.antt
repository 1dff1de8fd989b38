use Rattle.sc_run.proofs.Common.{Some, ap, sym, unless_done, ◌∙◌}
use Rattle.sc_run.proofs.Leading.{ends_so, is_all, is_step, one_taken, none_taken}
use Rattle.sc_run.proofs.inside.call_made.Goals as goal

pub returns-then-done : goal.returns-then-done
returns-then-done c = ends_so (is_all (unless_done c.in-Ok.done c.made_at_once.new.run.taken)
    (none_taken c.made_at_once.new.run.taken c.if-done.true) c.in-Ok.ensures)

pub returns-else-done : goal.returns-else-done
returns-else-done c = is_step (unless_done c.in-Ok.done c.made_at_once.new.run.taken) _ _ _ _ _
    (one_taken c.made_at_once.new.run.taken c.if-done.false ∙ ap (λ x. Some x) (sym c.last_step.ensures))
    c.in-Ok.ensures
